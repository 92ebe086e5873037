use Rattle.std.proofs.Common.{◌≡◌, ℕ, Bool, Vec, Global, map}
use Rattle.std.specs.Prelude.{is_some}
use Rattle.sv_flat.specs.Sets.{holds, least_set}
use Rattle.sv_graph.specs.Graphs.{size}
use Rattle.sv_graph.specs.Marks.{IsTable}
use Rattle.sv_graph.specs.Numbers.{numbers}
use Rattle.sv_graph.specs.Searches.{Brings}
use Rattle.sv_graph.proofs.FoundTables.{search_table, if_ok}
use Rattle.sv_graph.proofs.searches.reached.Goals as goal

pub returns : goal.returns
returns c =
    let graph = c.args.graph.now in
    let starts = numbers c.args.starts.now in
    let search = c.in_ok-found.found in
    if_ok (λ (table : Vec Bool Global). table.items ≡ map is_some search.places.items)
    (λ (table : Vec Bool Global). (brings : ℕ → ℕ → Bool) → Brings graph 0 brings
    → IsTable (size graph) table.items (holds (least_set (size graph) brings starts)))
    c.table.result
    (λ table is brings bring.
    search_table (size graph) brings starts search table.items (c.in_ok-found.ensures brings bring)
    is)
    c.table.ensures
