use Rattle.std.proofs.Common.{ℕ, ◌<◌, Bool, Vec, Global, false, length, get_or, refl}
use Rattle.std.proofs.Common.{ap, subst, ◌∙◌}
use Rattle.std.specs.Prelude.{Contains}
use Rattle.sv_flat.specs.Design.{FlatDesign}
use Rattle.sv_flat.specs.Sets.{holds, least_set}
use Rattle.sv_flat.proofs.LeastSets.{those_below}
use Rattle.sv_graph.specs.Graphs.{size, has_edge}
use Rattle.sv_graph.specs.Marks.{IsTable}
use Rattle.sv_graph.specs.Numbers.{numbers}
use Rattle.sv_graph.specs.Searches.{Brings}
use Rattle.sv_rules.specs.Tops.{AreSinks, leads_to}
use Rattle.sv_graph.proofs.FoundTables.{if_ok}
use Rattle.sv_rules.proofs.TopTables.{led_are, all_brought}
use Rattle.sv_rules.proofs.tops.led_table.Goals as goal

pub reached-requires-clause-starts : goal.reached-requires-clause-starts
reached-requires-clause-starts c = λ k at.
    let tops = c.args.tops.now in
    subst (λ n. k < n) c.requires.over
    (those_below (length tops) (λ s. get_or tops s false) k
    (subst (λ ks. Contains ks k) (ap numbers c.deref.ensures.value ∙ c.in_ok-starts.ensures) at))

pub returns : goal.returns
returns c =
    let sinks = c.args.sinks.now in
    let tops = c.args.tops.now in
    let starts = numbers c.deref.result.now in
    if_ok (λ (table : Vec Bool Global). (brings : ℕ → ℕ → Bool) → Brings sinks 0 brings
    → IsTable (size sinks) table.items (holds (least_set (size sinks) brings starts)))
    (λ (table : Vec Bool Global). (design : FlatDesign) (test : ℕ → Bool) → AreSinks design sinks
    → IsTable (length design.signals) tops test
    → IsTable (length design.signals) table.items (leads_to design test))
    c.reached.result
    (λ table found design test are is.
    led_are design test sinks tops table.items starts are is
    (ap numbers c.deref.ensures.value ∙ c.in_ok-starts.ensures)
    (found (has_edge sinks) (all_brought sinks (has_edge sinks) (λ a b. refl))))
    c.reached.ensures
