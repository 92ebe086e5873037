use Rattle.std.proofs.Common.{◌≡◌, ℕ, zero, suc, ◌+◌, ◌<◌, Bool, true, false, List, [], ◌∷◌, length}
use Rattle.std.proofs.Common.{refl, sym, ap, subst, ◌∙◌, Option, Some, None, arith, rules}
use Rattle.std.specs.Borrow.{Bor}
use Rattle.std.specs.Fn.{Mut, Called}
use Rattle.std.specs.Iterator.Runs.{Run, SomeRun, AllItemsGive, IsFirstToGive, CallKeepsClosure}
use Rattle.std.specs.Iterator.Runs.{ItemsMapTo, YieldsRefsInOrder}
use Rattle.std.specs.Option.{option_map}
use Rattle.std.specs.Prelude.{Result, Ok, Err, IsTrue, IsSomeAnd, IfSome, MatchOption}
use Rattle.std.specs.Prelude.{if◌then◌else◌, slice_index_or}
use Rattle.std.specs.Slice.Iter.{iter_rest}
use Rattle.sv_num.specs.declared.faults.Place.{Place}
use Rattle.sv_ast.specs.declared.expressions.Expr.{Expr}
use Rattle.sv_ast.specs.Views.{expression_tree, expression_trees, parts_of}
use Rattle.sv_ast.specs.GrammarModules.{place_of}
use Rattle.sv_elab_rules.specs.Rules.{unsized_part}
use Rattle.sv_elab_rules.specs.Walks.{WalkStep, ask, ◌>>=◌}
use Rattle.sv_elab_rules.specs.ExpressionSteps.{is_sized, sized_parts}
use Rattle.sv_width.proofs.building.sized_parts.Goals as goal

abbrev unsized : Expr → Option Place
unsized e =
    if is_sized (expression_tree e) then None else Some (place_of (expression_tree e))

abbrev end_of : List Expr → Result (Unit {0}) WalkStep
end_of es = (sized_parts (parts_of (expression_trees es))).end

-- the end of the walk at the place of an unsized part, or else another one
abbrev end_at : Option Place → Result (Unit {0}) WalkStep → Result (Unit {0}) WalkStep
end_at None rest = rest
end_at (Some p) rest = Err (unsized_part p)

stepped : (e : Expr) (es : List Expr) → end_of (e ∷ es) ≡ end_at (unsized e) (end_of es)
unfolding sized_parts
stepped e es = by (is_sized (expression_tree e))
  where
    by : (b : Bool) → (ask b (unsized_part (place_of (expression_tree e)))
        >>= (λ _. sized_parts (parts_of (expression_trees es)))).end
        ≡ end_at (if b then None else Some (place_of (expression_tree e))) (end_of es)
    by true = refl
    by false = refl

stepped_by : (e : Expr) (es : List Expr) (r : Option Place) → unsized e ≡ r →
    end_of (e ∷ es) ≡ end_at r (end_of es)
stepped_by e es r is = stepped e es ∙ ap (λ r. end_at r (end_of es)) is

all_sized : (es : List Expr)
    → ((k : ℕ) (d : Expr) → k < length es → unsized (slice_index_or es k d) ≡ None)
    → end_of es ≡ Ok tt
unfolding sized_parts
all_sized [] none = refl
all_sized (e ∷ es) none =
    stepped_by e es None (none 0 e (omega arith))
    ∙ all_sized es (λ k d lt. none (suc k) d (omega arith))

first_unsized : (es : List Expr) (i : ℕ) (p : Place) → i < length es
    → ((d : Expr) → unsized (slice_index_or es i d) ≡ Some p)
    → ((k : ℕ) (d : Expr) → k < i → unsized (slice_index_or es k d) ≡ None)
    → end_of es ≡ Err (unsized_part p)
first_unsized [] i p inside is none = absurd (omega arith)
first_unsized (e ∷ es) zero p inside is none = stepped_by e es (Some p) (is e)
first_unsized (e ∷ es) (suc i) p inside is none =
    stepped_by e es None (none 0 e (omega arith))
    ∙ first_unsized es i p (omega arith) is (λ k d lt. none (suc k) d (omega arith))

module _ {F : Type 0} {g : Mut F (Bor Expr × Unit {0}) (Option Place)} (f : F)
    (keeps : CallKeepsClosure g f)
    (gives : (x : Bor Expr) (r : Option Place) → Called g f (x, tt) r f → r ≡ unsized x.now) where
  told : (o : Option (Bor Expr)) (e : Expr) (r : Option Place)
      → option_map (λ y. y.now) o ≡ Some e → IfSome o (λ x. Called g f (x, tt) r f)
      → unsized e ≡ r
  told None e r is called = cc
  told (Some x) e r is called =
      let same : x.now ≡ e = cc in
      sym (gives x r called ∙ ap unsized same)

  sure : (o : Option (Bor Expr)) (P : Bor Expr → Type 0) → IsSomeAnd o P → IfSome o P
  sure None P h = tt
  sure (Some x) P h = h

  module _ {S : Type 0} {steps : S → Option (Bor Expr) → S → Type 0} (p : Run steps)
      (es : List Expr) (items : ItemsMapTo p (λ y. y.now) es) where
    searched : (r : Option Place)
        → MatchOption r (IsTrue p.whole × AllItemsGive p g f None)
        (λ y. (i : ℕ) × (i < p.len) × (p.len ≡ i + 1) × IsFirstToGive p g f (Some y) None i)
        → end_of es ≡ end_at r (Ok tt)
    searched None all =
        all_sized es (λ k d lt. told (p.at k) _ None
        (items.2 k d (omega (arith, items.1 all.0, lt))) (all.1 keeps k))
    searched (Some y) first =
        let i = first.0 in
        let calls = first.3 keeps in
        first_unsized es i y (omega (arith, first.1, items.0))
        (λ d. told (p.at i) _ (Some y) (items.2 i d first.1) (sure (p.at i) _ calls.0))
        (λ k d lt. told (p.at k) _ None (items.2 k d (omega (arith, lt, first.1)))
        (sure (p.at k) _ (calls.1 k lt)))

  -- what `find_map` says of the parts, where each call gives the place of an unsized one
  searches : {S : Type 0} {steps : S → Option (Bor Expr) → S → Type 0} (rest : S → List Expr)
      → YieldsRefsInOrder steps rest → (s : S) (es : List Expr) → rest s ≡ es → (r : Option Place)
      → SomeRun steps s (λ p. MatchOption r (IsTrue p.whole × AllItemsGive p g f None) (λ y.
      (i : ℕ) × (i < p.len) × (p.len ≡ i + 1) × IsFirstToGive p g f (Some y) None i))
      → end_of es ≡ end_at r (Ok tt)
  searches rest order s es is r (p, starts, says) =
      searched p es
      (subst (λ es. ItemsMapTo p (λ y. y.now) es) (ap rest starts ∙ is) (order p p.seen)) r says

pub returns-in-Some-clause-broken : goal.returns-in-Some-clause-broken
returns-in-Some-clause-broken c =
    c.refusal.ensures _
    (searches _ (λ a r f called. search rules) (λ x r called. search rules) iter_rest
    c.iter.ensures.runs _ c.args.parts.now c.iter.ensures.rest _ c.find_map.ensures.runs
    ∙ ap (λ r. end_at r (Ok tt)) c.in-Some.is)

pub returns-in-None-clause-asked : goal.returns-in-None-clause-asked
returns-in-None-clause-asked c =
    searches _ (λ a r f called. search rules) (λ x r called. search rules) iter_rest
    c.iter.ensures.runs _ c.args.parts.now c.iter.ensures.rest _ c.find_map.ensures.runs
    ∙ ap (λ r. end_at r (Ok tt)) c.in-None.is
