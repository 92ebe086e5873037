-- Where walks end: after what they went through, and what follows from where they ended.
use Rattle.std.proofs.Common.{◌≡◌, Bool, true, false, ◌++◌, Option, Some, None, refl}
use Rattle.std.specs.Prelude.{Result, Ok, Err}
use Rattle.sv_num.specs.declared.faults.Place.{Place}
use Rattle.sv_ast.specs.Tree.{ExpressionTree, StatementTree, if_only, if_else}
use Rattle.sv_flat.specs.Design.{TypedTree, FlatStatement, nothing, branch}
use Rattle.sv_elab_rules.specs.Walks.{WalkStep, Walk, ask, found, then_walk, ◌>>=◌}
use Rattle.sv_elab_rules.specs.Names.{Names}
use Rattle.sv_elab_rules.specs.ExpressionSteps.{expression_walk}
use Rattle.sv_elab_rules.specs.Statements.{statement_walk}

-- what one walk found, the next one starts from
pub end_after : {X Y : Type 0} (w : Walk X) (more : X → Walk Y) (x : X) → w.end ≡ Ok x →
    (w >>= more).end ≡ (more x).end
end_after w more x h = rw h refl

-- where one walk is broken, so is the whole
pub end_broken : {X Y : Type 0} (w : Walk X) (more : X → Walk Y) (s : WalkStep) → w.end ≡ Err s →
    (w >>= more).end ≡ Err s
end_broken w more s h = rw h refl

-- a whole that ends well went through both
pub parts_done : {X Y : Type 0} (w : Walk X) (more : X → Walk Y) (y : Y) → (w >>= more).end ≡ Ok y
    → (x : X) × (w.end ≡ Ok x) × ((more x).end ≡ Ok y)
parts_done {X} {Y} w more y = by_end w.end refl
  where
    by_end : (r : Result X WalkStep) → w.end ≡ r → (then_walk w.passed r more).end ≡ Ok y
        → (x : X) × (w.end ≡ Ok x) × ((more x).end ≡ Ok y)
    by_end (Ok x) e h = (x, e, h)
    by_end (Err s) e h = absurd (cc h)

-- what the walk of an `if` went through
pub record IfParts (names : Names) (p : Place) (c : ExpressionTree) (a : StatementTree)
    (second whole : FlatStatement) : Type 0 where
  pub condition : TypedTree
  pub first : FlatStatement
  pub condition_is : (expression_walk names c 0).end ≡ Ok condition
  pub first_is : (statement_walk names a).end ≡ Ok first
  pub is : branch p condition first second ≡ whole

pub if_only_done : (names : Names) (p : Place) (c : ExpressionTree) (a : StatementTree)
    (f : FlatStatement) → (statement_walk names (if_only p c a)).end ≡ Ok f
    → IfParts names p c a nothing f
unfolding statement_walk
if_only_done names p c a f h =
    let t = parts_done (expression_walk names c 0) _ f h in
    let s = parts_done (statement_walk names a) _ f t.2 in
    record { condition = t.0; first = s.0; condition_is = t.1; first_is = s.1; is = cc s.2 }

-- with an `else`
pub if_else_done : (names : Names) (p : Place) (c : ExpressionTree) (a b : StatementTree)
    (f : FlatStatement) → (statement_walk names (if_else p c a b)).end ≡ Ok f
    → (second : FlatStatement) × ((statement_walk names b).end ≡ Ok second)
    × IfParts names p c a second f
unfolding statement_walk
if_else_done names p c a b f h =
    let t = parts_done (expression_walk names c 0) _ f h in
    let s = parts_done (statement_walk names a) _ f t.2 in
    let other = parts_done (statement_walk names b) _ f s.2 in (
      other.0,
      other.1,
      record { condition = t.0; first = s.0; condition_is = t.1; first_is = s.1; is = cc other.2 },
    )

-- the walks of a whole may be taken together in either way
pub joined_ends : {X Y Z : Type 0} (w : Walk X) (next : X → Walk Y) (more : Y → Walk Z)
    → ((w >>= next) >>= more).end ≡ (w >>= λ x. next x >>= more).end
joined_ends {X} {Y} {Z} w next more = by_end w.end
  where
    by_end : (r : Result X WalkStep)
        → (then_walk w.passed r next >>= more).end ≡
        (then_walk w.passed r (λ x. next x >>= more)).end
    by_end (Ok x) = by_next (next x).end
      where
        by_next : (r : Result Y WalkStep) →
            (then_walk (w.passed ++ (next x).passed) r more).end ≡
            (then_walk (next x).passed r more).end
        by_next (Ok y) = refl
        by_next (Err s) = refl
    by_end (Err s) = refl

pub asked_true : (b : Bool) (s : WalkStep) → (ask b s).end ≡ Ok tt → b ≡ true
asked_true true s h = refl
asked_true false s h = absurd (cc h)

pub asked_false : (b : Bool) (s t : WalkStep) → (ask b s).end ≡ Err t → (b ≡ false) × (s ≡ t)
asked_false true s t h = absurd (cc h)
asked_false false s t h = (refl, cc h)

pub found_some : {X : Type 0} (o : Option X) (s : WalkStep) (x : X) → (found o s).end ≡ Ok x →
    o ≡ Some x
found_some (Some y) s x h = cc h
found_some None s x h = absurd (cc h)
