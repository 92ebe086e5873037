use Rattle.std.proofs.Common.{◌≡◌, ◌||◌, List, [], ◌∷◌, refl, ap, ◌∙◌, rules, tests}
use Rattle.std.specs.List.{list_any}
use Rattle.std.proofs.lemmas.Iterator.{YieldsList-from_slice}
use Rattle.std.proofs.lemmas.Iterator.Search.{any_from_yields_List}
use Rattle.sv_width.specs.declared.measured.Measured.{Measured}
use Rattle.sv_width.specs.Measured.{own_form}
use Rattle.sv_width.specs.Outcomes.{some_named}
use Rattle.sv_width.specs.Views.{measured_tree, measured_trees, parts_of}
use Rattle.sv_width.proofs.building.some_named.Goals as goal

some_of : (operands : List Measured)
    → list_any (λ (m : Measured). (own_form (measured_tree m)).names_signal) operands
    ≡ some_named (parts_of (measured_trees operands))
some_of [] = refl
some_of (m ∷ operands) =
    ap (λ b. (own_form (measured_tree m)).names_signal || b) (some_of operands)

pub returns : goal.returns
returns c =
    let operands = c.args.operands.now in
    any_from_yields_List (λ (m : Measured). (own_form (measured_tree m)).names_signal) _ _
    c.any.result c.any.ensures.ran (YieldsList-from_slice operands cc)
    (λ x b q k. search (rules, tests))
    ∙ some_of operands
