use Rattle.std.proofs.Common.{◌≡◌, length, List, [], ◌∷◌, Some, None, refl, sym, ap, ◌∙◌, arith}
use Rattle.std.specs.Prelude.{position, filter}
use Rattle.sv_elab_rules.specs.CaseChains.{case_chain, default_of}
use Rattle.sv_elab_stmt.specs.declared.chains.FlatArm.{FlatArm}
use Rattle.sv_elab_stmt.specs.Chains.{flat_arms, has_items}
use Rattle.sv_elab_stmt.proofs.ChainFacts.{is_default, default_taken, last_taken, none_taken}
use Rattle.sv_elab_stmt.proofs.chains.take_last_resort.Goals as goal

pub returns-in-Some : goal.returns-in-Some
returns-in-Some c = λ s.
    let place : position is_default c.args.arms.now.items ≡ Some c.in-Some.at =
    ap (position is_default) (sym c.deref.ensures.value) ∙ sym c.in-Some.ensures in
    default_taken s c.args.complete c.args.arms.now.items c.remove.new.self.items c.in-Some.at
    c.remove.result
    place c.remove.ensures.value c.remove.ensures.by_index.2

pub returns-in-None : goal.returns-in-None
returns-in-None c = λ s.
    let place : position is_default c.args.arms.now.items ≡ None =
    ap (position is_default) (sym c.deref.ensures.value) ∙ sym c.in-None.ensures in
    last_taken s c.args.arms.now.items c.pop.new.self.items c.pop.result place c.pop.ensures.items
    (λ none. empty c.args.arms.now.items (let h = rw none at c.pop.ensures.cases in
    omega (arith, h.0, c.args.arms.now.ok.0)))
    ∙ ap (λ b. case_chain s b (filter has_items (flat_arms c.args.arms.now.items))
    (default_of (flat_arms c.args.arms.now.items)))
    (sym c.if-complete.true)
  where
    empty : (xs : List FlatArm) → length xs ≡ 0 → xs ≡ []
    empty [] h = refl
    empty (x ∷ xs) h = absurd (omega (arith, h))

pub returns-in-None-2 : goal.returns-in-None-2
returns-in-None-2 c = λ s.
    let place : position is_default c.args.arms.now.items ≡ None =
    ap (position is_default) (sym c.deref.ensures.value) ∙ sym c.in-None.ensures in
    none_taken s c.args.arms.now.items place
    ∙ ap (λ b. case_chain s b (filter has_items (flat_arms c.args.arms.now.items))
    (default_of (flat_arms c.args.arms.now.items)))
    (sym c.if-complete.false)
