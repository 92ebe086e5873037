use Rattle.std.proofs.Common.{rules, tests, sym, ◌∙◌}
use Rattle.std.proofs.lemmas.Iterator.{YieldsList-from_slice}
use Rattle.std.proofs.lemmas.Iterator.Search.{all_from_yields_List}
use Rattle.std.proofs.lemmas.List.Folds.{list_all-map}
use Rattle.sv_num.specs.declared.faults.Place.{Place}
use Rattle.sv_flat.specs.declared.expressions.FExpr.{FExpr}
use Rattle.sv_flat.specs.Soundness.{invariant_sound}
use Rattle.sv_flat.specs.Views.{design_of, invariant_form}
use Rattle.sv_flat.proofs.soundness.are_invariants_sound.Goals as goal

pub returns : goal.returns
returns c =
    let test = invariant_sound (design_of c.args.flat.now) in
    let invariants = c.args.flat.now.invariants.items in
    all_from_yields_List (λ (i : Place × FExpr). test (invariant_form i)) _ _ c.all.result
    c.all.ensures.ran (YieldsList-from_slice invariants cc) (λ x b q k. search (rules, tests))
    ∙ sym (list_all-map test invariant_form invariants)
