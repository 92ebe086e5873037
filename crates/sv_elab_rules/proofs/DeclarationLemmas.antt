-- The declarations of a header may be walked ahead of the others, and those of names ahead of the
-- limit of signals.
use Rattle.std.proofs.Common.{◌≡◌, ℕ, ◌+◌, true, List, [], ◌∷◌, ◌++◌, length, refl, sym, ◌∙◌}
use Rattle.std.specs.Prelude.{Result, Ok, Err, nat_lt}
use Rattle.sv_ast.specs.Tree.{ItemTree, DeclarationTree, parameter_item, declared, memory_item}
use Rattle.sv_ast.specs.Tree.{continuous, released, always_item, invariant_item, instance_item}
use Rattle.sv_elab_rules.specs.Walks.{WalkStep, Walk, ask, done, then_walk, ◌>>=◌}
use Rattle.sv_elab_rules.specs.Rules.{too_many}
use Rattle.sv_elab_rules.specs.Declarations.{Site, Declared, declaration_walk, declarations_walk}
use Rattle.sv_elab_rules.specs.Declarations.{signal_ahead, signal_walk, declaration_ahead, declared_until}
use Rattle.sv_elab_rules.proofs.WalkLemmas.{joined_ends, parts_done, asked_true}

-- walks with equal ends go on to equal ends
same_ends : {X Y : Type 0} (passed : List WalkStep) (r : Result X WalkStep) (f g : X → Walk Y)
    → ((x : X) → (f x).end ≡ (g x).end) → (then_walk passed r f).end ≡ (then_walk passed r g).end
same_ends passed (Ok x) f g h = h x
same_ends passed (Err s) f g h = refl

-- some declarations and then others are walked as all of them
pub declared_in_two : (base least : ℕ) (site : Site) (xs ys : List ItemTree) (so_far : Declared)
    → (declarations_walk base least site so_far (xs ++ ys)).end
    ≡ (declarations_walk base least site so_far xs >>= λ next.
    declarations_walk base least site next ys).end
unfolding declarations_walk
declared_in_two base least site [] ys so_far = refl
declared_in_two base least site (item ∷ xs) ys so_far =
    let first : Walk Declared = declaration_walk base least site so_far item in
    same_ends first.passed first.end (λ next. declarations_walk base least site next (xs ++ ys))
    (λ next. declarations_walk base least site next xs >>= λ last.
    declarations_walk base least site last ys)
    (λ next. declared_in_two base least site xs ys next)
    ∙ sym (joined_ends first (λ next. declarations_walk base least site next xs)
    (λ last. declarations_walk base least site last ys))

module _ (base least : ℕ) (site : Site) where
  -- a signal that is declared breaks no rule before the limit, and is within it
  pub signal_within : (so_far next : Declared) (d : DeclarationTree)
      → (signal_walk base least site so_far d).end ≡ Ok next
      → ((signal_ahead base least site so_far d).end ≡ Ok next)
      × (nat_lt (base + length so_far.signals) 4096 ≡ true)
  unfolding signal_walk
  signal_within so_far next d h =
      let limit = ask (nat_lt (base + length so_far.signals) 4096) (too_many d.place) in
      let first = parts_done (signal_ahead base least site so_far d) (λ n. limit >>= λ _. done n) next
      h in
      let second = parts_done limit (λ _. done first.0) next first.2 in
      (first.1 ∙ second.2, asked_true _ (too_many d.place) second.1)

  -- what is declared is declared ahead too
  pub made_ahead : (so_far next : Declared) (item : ItemTree)
      → (declaration_walk base least site so_far item).end ≡ Ok next
      → (declaration_ahead base least site so_far item).end ≡ Ok next
  unfolding declaration_walk declaration_ahead
  made_ahead so_far next (parameter_item p) h = h
  made_ahead so_far next (declared d) h = (signal_within so_far next d h).0
  made_ahead so_far next (memory_item m) h = h
  made_ahead so_far next (continuous ts p e) h = h
  made_ahead so_far next (released t e to) h = h
  made_ahead so_far next (always_item p clock b) h = h
  made_ahead so_far next (invariant_item p e) h = h
  made_ahead so_far next (instance_item i) h = h

  pub until_next : (so_far next : Declared) (item : ItemTree) (items : List ItemTree)
      → (declaration_ahead base least site so_far item).end ≡ Ok next
      → declared_until base least site so_far (item ∷ items)
      ≡ declared_until base least site next items
  unfolding declared_until
  until_next so_far next item items h = rw (h, declared_until) refl

  pub until_stops : (so_far : Declared) (item : ItemTree) (items : List ItemTree) (s : WalkStep)
      → (declaration_ahead base least site so_far item).end ≡ Err s
      → declared_until base least site so_far (item ∷ items) ≡ so_far
  unfolding declared_until
  until_stops so_far item items s h = rw (h, declared_until) refl

  -- where no rule is broken, all is declared
  pub until_done : (items : List ItemTree) (so_far last : Declared)
      → (declarations_walk base least site so_far items).end ≡ Ok last
      → declared_until base least site so_far items ≡ last
  unfolding declarations_walk declared_until
  until_done [] so_far last h = cc h
  until_done (item ∷ items) so_far last h =
      let first = parts_done (declaration_walk base least site so_far item)
      (λ next. declarations_walk base least site next items) last h in
      until_next so_far first.0 item items (made_ahead so_far first.0 item first.1)
      ∙ until_done items first.0 last first.2
