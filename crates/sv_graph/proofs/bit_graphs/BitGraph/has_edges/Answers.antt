use Rattle.std.proofs.Common.{◌≡◌, sym, ap, ◌∙◌, rules, tests}
use Rattle.std.specs.List.{list_any}
use Rattle.std.proofs.lemmas.Iterator.{YieldsList-from_slice}
use Rattle.std.proofs.lemmas.Iterator.Search.{any_from_yields_List}
use Rattle.sv_graph.proofs.BitRows.{some_word, no_row_has}
use Rattle.sv_graph.proofs.bit_graphs.BitGraph.has_edges.Goals as goal

pub returns : goal.returns
returns c = λ none a b.
    let rows = c.deref.result.now in
    let asked : c.any.result ≡ list_any some_word rows =
    any_from_yields_List some_word _ _ c.any.result c.any.ensures.ran
    (YieldsList-from_slice rows cc) (λ x b q k. search (rules, tests)) in
    no_row_has c.args.self.now.rows.items
    (ap (list_any some_word) (sym c.deref.ensures.value) ∙ sym asked ∙ none) a b
