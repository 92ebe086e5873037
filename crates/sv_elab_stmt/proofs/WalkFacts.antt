-- Where walks over lists end, part by part.
use Rattle.std.proofs.Common.{◌≡◌, ℕ, ◌+◌, ◌<◌, ◌≤◌, Bool, true, List, [], ◌∷◌, ◌++◌, map, length}
use Rattle.std.proofs.Common.{get_or, drop, refl, sym, ap, subst, ◌∙◌, append_assoc}
use Rattle.std.proofs.lemmas.List.{append-nil, drop_more, at_drop_all}
use Rattle.std.specs.Prelude.{Result, Ok, Err, IsErrAnd, IfErr}
use Rattle.sv_num.specs.declared.faults.Fault.{Fault}
use Rattle.sv_num.specs.declared.faults.Fault.TheVariants.{Rule, OutOfMemory}
use Rattle.sv_ast.specs.Tree.{ExpressionTree, StatementTree, StatementTrees, no_statements}
use Rattle.sv_ast.specs.Tree.{more_statements, no_arms}
use Rattle.sv_ast.specs.Views.{ArmTree, arms_of}
use Rattle.sv_flat.specs.Design.{TypedTree, FlatStatement, nothing, after}
use Rattle.sv_flat.specs.Views.{chain_of}
use Rattle.sv_elab_rules.specs.Walks.{WalkStep, Walk, Steps, done, then_walk, ◌>>=◌}
use Rattle.sv_elab_rules.specs.Names.{Names}
use Rattle.sv_elab_rules.specs.TypedExpressions.{typed_of}
use Rattle.sv_elab_rules.specs.ExpressionSteps.{asked, divisors}
use Rattle.sv_elab_rules.specs.CaseChains.{FlatArm}
use Rattle.sv_elab_rules.specs.Statements.{items_walk, statement_walk, statements_walk, arms_walk}
use Rattle.sv_elab_rules.proofs.WalkLemmas.{end_after, end_broken, joined_ends}
use Rattle.sv_width.specs.Answers.{IsBreach, step_of}
use Rattle.sv_width.proofs.Measures.{breach_first, breach_after, passes_on}
use Rattle.sv_elab_stmt.specs.Cases.{item_steps}
use Rattle.sv_elab_stmt.specs.Chains.{arm_walk}

-- ---- loops

-- what is left is the next one and the rest
pub left_more : {X : Type 0} (xs : List X) (i : ℕ) (x : X) → i < length xs → x ≡ get_or xs i x
    → drop i xs ≡ x ∷ drop (i + 1) xs
left_more xs i x within is = drop_more xs i x within ∙ ap (λ y. y ∷ drop (i + 1) xs) (sym is)

pub left_none : {X : Type 0} (xs : List X) (i : ℕ) → length xs ≤ i → drop i xs ≡ []
left_none xs i past = at_drop_all (λ ys. ys) xs i past

-- one more of some forms before others
pub forms_more : {X Y : Type 0} (form : X → Y) (xs : List X) (x : X) (rest : List Y)
    → map form (xs ++ x ∷ []) ++ rest ≡ map form xs ++ form x ∷ rest
forms_more form [] x rest = refl
forms_more form (y ∷ xs) x rest = ap (λ ys. form y ∷ ys) (forms_more form xs x rest)

pub forms_push : {X Y : Type 0} (form : X → Y) (xs : List X) (x : X) →
    map form (xs ++ x ∷ []) ≡ map form xs ++ form x ∷ []
forms_push form [] x = refl
forms_push form (y ∷ xs) x = ap (λ ys. form y ∷ ys) (forms_push form xs x)

-- ---- ends

-- an end with something done to what was found
abbrev pub mapped : {X Y : Type 0} → (X → Y) → Result X WalkStep → Result Y WalkStep
mapped f (Ok x) = Ok (f x)
mapped f (Err s) = Err s

pub then_done : {X Y : Type 0} (w : Walk X) (f : X → Y) →
    (w >>= λ x. done (f x)).end ≡ mapped f w.end
then_done {X} {Y} w f = by w.end
  where
    by : (r : Result X WalkStep) → (then_walk w.passed r (λ x. done (f x))).end ≡ mapped f r
    by (Ok x) = refl
    by (Err s) = refl

pub breach_mapped : {X Y : Type 0} (r : Result X WalkStep) (f : X → Y) (fault : Fault)
    → IsBreach r fault
    → IsBreach (mapped f r) fault
breach_mapped r f (Rule refusal) h = ap (mapped f) h
breach_mapped r f OutOfMemory h = tt

-- one more element behind others
pub mapped_push : {X : Type 0} (xs : List X) (x : X) (r : Result (List X) WalkStep)
    → mapped (λ ys. (xs ++ x ∷ []) ++ ys) r ≡ mapped (λ ys. xs ++ ys) (mapped (λ ys. x ∷ ys) r)
mapped_push xs x (Ok ys) = ap (λ zs. Ok zs) (append_assoc xs (x ∷ []) ys)
mapped_push xs x (Err s) = refl

pub mapped_none : {X : Type 0} (xs : List X) → mapped (λ ys. xs ++ ys) (Ok []) ≡ Ok xs
mapped_none xs = ap (λ ys. Ok ys) (append-nil xs)

pub mapped_start : {X : Type 0} (r : Result (List X) WalkStep) → mapped (λ ys. [] ++ ys) r ≡ r
mapped_start (Ok ys) = refl
mapped_start (Err s) = refl

-- a breach in two steps that others follow
breach_two : {Y : Type 0} (v w : Steps) (more : Unit {0} → Walk Y) (f : Fault)
    → IsBreach (v >>= λ _. w).end f
    → IsBreach (v >>= λ _. w >>= more).end f
breach_two {Y} v w more (Rule r) h = by_first v.end h
  where
    by_first : (first : Result (Unit {0}) WalkStep)
        → (then_walk v.passed first (λ _. w)).end ≡ Err (step_of r)
        → (then_walk v.passed first (λ _. w >>= more)).end ≡ Err (step_of r)
    by_first (Ok x) h = end_broken w more (step_of r) h
    by_first (Err s) h = cc h
breach_two v w more OutOfMemory h = tt

-- what a `?` hands on is refused as what it was handed
pub handed_on : {T E : Type 0} (r : Result T E) (e : E) (P : E → Type 0) → IsErrAnd r (λ x. x ≡ e)
    → P e → IfErr r P
handed_on (Ok x) e P h p = tt
handed_on (Err x) e P h p = subst P (sym h) p

-- where a walk of what is left is broken, so is the whole
pub rest_broken : {A X Y : Type 0} (whole : Result Y WalkStep) (walk : List A → Result X WalkStep)
    (f : X → Y) (xs ys : List A) (fault : Fault) → mapped f (walk xs) ≡ whole → xs ≡ ys
    → IsBreach (walk ys) fault → IsBreach whole fault
rest_broken whole walk f xs ys fault is split h =
    subst (λ r. IsBreach r fault) is (breach_mapped (walk xs) f fault
    (subst (λ zs. IsBreach (walk zs) fault) (sym split) h))

-- ---- items

module _ (names : Names) (n : ℕ) (s : Bool) where
  pub items_none : (items_walk names n s []).end ≡ Ok []
  unfolding items_walk
  items_none = refl

  pub items_more : (e : ExpressionTree) (es : List ExpressionTree)
      → (asked names true e).end ≡ Ok tt
      → (divisors names.scope e n s).end ≡ Ok tt
      → (items_walk names n s (e ∷ es)).end ≡ mapped (λ fs.
      typed_of names e n s ∷ fs) (items_walk names n s es).end
  unfolding items_walk
  items_more e es first second =
      passes_on (asked names true e) _ _ first
      (passes_on (divisors names.scope e n s) _ _ second
      (then_done (items_walk names n s es) (λ fs. typed_of names e n s ∷ fs)))

  pub items_broken : (e : ExpressionTree) (es : List ExpressionTree) (f : Fault)
      → IsBreach (item_steps names n s e).end f → IsBreach (items_walk names n s (e ∷ es)).end f
  unfolding items_walk
  items_broken e es f h = breach_two (asked names true e) (divisors names.scope e n s) _ f h

  -- ---- arms

  pub arms_none : (arms_walk names n s no_arms).end ≡ Ok []
  unfolding arms_walk
  arms_none = refl

  arms_by_arm : (arm : ArmTree) (arms : List ArmTree)
      → (arms_walk names n s (arms_of (arm ∷ arms))).end
      ≡ (arm_walk names n s arm >>= λ a. arms_walk names n s (arms_of arms) >>= λ rest.
      done (a ∷ rest)).end
  unfolding arms_walk arm_walk
  arms_by_arm arm arms = sym
      (joined_ends (items_walk names n s arm.items)
      (λ items. statement_walk names arm.body >>= λ body.
      done (record { place = arm.place; items = items; body = body }))
      (λ a. arms_walk names n s (arms_of arms) >>= λ rest. done (a ∷ rest))
      ∙ inner (items_walk names n s arm.items))
    where
      inner : (w : Walk (List TypedTree))
          → (w >>= λ items. (statement_walk names arm.body >>= λ body.
          done (record { place = arm.place; items = items; body = body }))
          >>= λ a. arms_walk names n s (arms_of arms) >>= λ rest. done (a ∷ rest)).end
          ≡ (w >>= λ items. statement_walk names arm.body
          >>= λ body. arms_walk names n s (arms_of arms)
          >>= λ rest. done ((record { place = arm.place; items = items; body = body }) ∷ rest)).end
      inner w = by w.end
        where
          by : (r : Result (List TypedTree) WalkStep)
              → (then_walk w.passed r (λ items. (statement_walk names arm.body
              >>= λ body. done (record { place = arm.place; items = items; body = body }))
              >>= λ a. arms_walk names n s (arms_of arms) >>= λ rest. done (a ∷ rest))).end
              ≡ (then_walk w.passed r (λ items. statement_walk names arm.body
              >>= λ body. arms_walk names n s (arms_of arms)
              >>= λ rest. done ((record { place = arm.place; items = items; body = body }) ∷
              rest))).end
          by (Ok items) = joined_ends (statement_walk names arm.body)
              (λ body. done (record { place = arm.place; items = items; body = body }))
              (λ a. arms_walk names n s (arms_of arms) >>= λ rest. done (a ∷ rest))
          by (Err e) = refl

  pub arms_more : (arm : ArmTree) (arms : List ArmTree) (a : FlatArm)
      → (arm_walk names n s arm).end ≡ Ok a
      → (arms_walk names n s (arms_of (arm ∷ arms))).end ≡ mapped (λ rest.
      a ∷ rest) (arms_walk names n s (arms_of arms)).end
  arms_more arm arms a h =
      arms_by_arm arm arms
      ∙ end_after (arm_walk names n s arm) (λ x.
      arms_walk names n s (arms_of arms) >>= λ rest. done (x ∷ rest)) a h
      ∙ then_done (arms_walk names n s (arms_of arms)) (λ rest. a ∷ rest)

  pub arms_broken : (arm : ArmTree) (arms : List ArmTree) (f : Fault)
      → IsBreach (arm_walk names n s arm).end f
      → IsBreach (arms_walk names n s (arms_of (arm ∷ arms))).end f
  arms_broken arm arms (Rule r) h =
      arms_by_arm arm arms
      ∙ end_broken (arm_walk names n s arm) (λ x.
      arms_walk names n s (arms_of arms) >>= λ rest. done (x ∷ rest)) (step_of r) h
  arms_broken arm arms OutOfMemory h = tt

  pub arm_found : (arm : ArmTree) (items : List TypedTree) (body : FlatStatement)
      → (items_walk names n s arm.items).end ≡ Ok items
      → (statement_walk names arm.body).end ≡ Ok body
      → (arm_walk names n s arm).end ≡ Ok (record { place = arm.place; items = items; body = body })
  unfolding arm_walk
  arm_found arm items body first second =
      end_after (items_walk names n s arm.items) _ items first
      ∙ end_after (statement_walk names arm.body) _ body second

  pub arm_unasked : (arm : ArmTree) (f : Fault) → IsBreach (items_walk names n s arm.items).end f
      → IsBreach (arm_walk names n s arm).end f
  unfolding arm_walk
  arm_unasked arm f h = breach_first (items_walk names n s arm.items) _ f h

  pub arm_unwalked : (arm : ArmTree) (items : List TypedTree) (f : Fault)
      → (items_walk names n s arm.items).end ≡ Ok items
      → IsBreach (statement_walk names arm.body).end f → IsBreach (arm_walk names n s arm).end f
  unfolding arm_walk
  arm_unwalked arm items f first h =
      breach_after (items_walk names n s arm.items) _ items f first
      (breach_first (statement_walk names arm.body) _ f h)

-- ---- blocks

-- statements before another one
abbrev pub before : List FlatStatement → FlatStatement → FlatStatement
before [] rest = rest
before (s ∷ ss) rest = after s (before ss rest)

before_push : (ss : List FlatStatement) (s rest : FlatStatement) →
    before (ss ++ s ∷ []) rest ≡ before ss (after s rest)
before_push [] s rest = refl
before_push (x ∷ ss) s rest = ap (after x) (before_push ss s rest)

pub before_nothing : (ss : List FlatStatement) → before ss nothing ≡ chain_of ss
before_nothing [] = refl
before_nothing (s ∷ ss) = ap (after s) (before_nothing ss)

pub block_push : (ss : List FlatStatement) (s : FlatStatement) (r : Result FlatStatement WalkStep)
    → mapped (before (ss ++ s ∷ [])) r ≡ mapped (before ss) (mapped (after s) r)
block_push ss s (Ok rest) = ap (λ x. Ok x) (before_push ss s rest)
block_push ss s (Err e) = refl

pub block_start : (r : Result FlatStatement WalkStep) → mapped (before []) r ≡ r
block_start (Ok rest) = refl
block_start (Err e) = refl

module _ (names : Names) where
  pub statements_none : (statements_walk names no_statements).end ≡ Ok nothing
  unfolding statements_walk
  statements_none = refl

  pub statements_more : (t : StatementTree) (ts : StatementTrees) (f : FlatStatement)
      → (statement_walk names t).end ≡ Ok f
      → (statements_walk names (more_statements t ts)).end ≡
      mapped (after f) (statements_walk names ts).end
  unfolding statements_walk
  statements_more t ts f h =
      end_after (statement_walk names t) _ f h ∙ then_done (statements_walk names ts) (after f)

  pub statements_broken : (t : StatementTree) (ts : StatementTrees) (f : Fault)
      → IsBreach (statement_walk names t).end f
      → IsBreach (statements_walk names (more_statements t ts)).end f
  unfolding statements_walk
  statements_broken t ts f h = breach_first (statement_walk names t) _ f h
