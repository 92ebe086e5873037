use Rattle.std.proofs.Common.{Bool, map, rules, tests, sym, ap, ◌∙◌}
use Rattle.std.specs.List.{list_all}
use Rattle.std.proofs.lemmas.Iterator.{YieldsList-from_slice}
use Rattle.std.proofs.lemmas.Iterator.Search.{all_from_yields_List}
use Rattle.std.proofs.lemmas.List.Folds.{list_all-map}
use Rattle.sv_ast.proofs.shapes.VecShaped.is_shaped.Goals as goal

-- the test of an item: that of its plain form
abbrev tested : {A B : Type 0} → (B → Bool) → (A → B) → A → Bool
tested shaped form item = shaped (form item)

pub returns : goal.returns
returns g c =
    let shaped = g.T.Shaped.shaped in
    let form = g.T.Shaped.form in
    let items = c.deref.result.now in
    let asked =
    all_from_yields_List (tested shaped form) _ _ c.all.result c.all.ensures.ran
    (YieldsList-from_slice items cc) (λ x b q k. search (rules, tests)) in
    asked ∙ sym (list_all-map shaped form items)
    ∙ ap (λ xs. list_all shaped (map form xs)) c.deref.ensures.value
