use Rattle.std.proofs.Common.{◌≡◌, ◌<◌, not, ◌&&◌, map, length, get_or, false}
use Rattle.std.proofs.Common.{List, Bool, ℕ, ap, ap₂, subst, ◌∙◌, arith}
use Rattle.std.specs.Prelude.{filter}
use Rattle.std.specs.List.{range_with_len}
use Rattle.std.proofs.Math.ListN.{length-map}
use Rattle.sv_flat.specs.Breaches.{breach}
use Rattle.sv_flat.specs.Clocks.{agrees_with_earlier}
use Rattle.sv_flat.specs.Processes.{declared_at}
use Rattle.sv_flat.specs.Views.{design_of, signal_form}
use Rattle.sv_rules.specs.ClockTables.{is_whole_port, is_used}
use Rattle.sv_rules.specs.First.{FindsFirst}
use Rattle.sv_graph.specs.Marks.{IsTable}
use Rattle.sv_rules.proofs.ClockFaults.{is_fault, faults_are, proper_is}
use Rattle.sv_rules.proofs.ClockLinks.{at_table}
use Rattle.sv_rules.proofs.DriverFacts.{signal_at, inside_design, clock_at}
use Rattle.sv_rules.proofs.Firsts.{finds_more}
use Rattle.sv_rules.proofs.clock_rule.wrong_clock_by.Goals as goal

-- a slice of a table says what the table does
in_table : (n : ℕ) (slice items : List Bool) (test : ℕ → Bool) (i : ℕ) → slice ≡ items
    → IsTable n items test → i < n → get_or slice i false ≡ test i
in_table n slice items test i same table inside =
    ap (λ ts. get_or ts i false) same ∙ table.1 i inside

pub bounds-clocks-i : goal.bounds-clocks-i
bounds-clocks-i c =
    clock_at c.args.flat.now c.deref-signal-items.ensures.value c.loop-i-test.true c.requires.clocks

pub loop-i-preserved : goal.loop-i-preserved
loop-i-preserved c =
    let are = c.requires.tables in
    let design = design_of c.args.flat.now in
    let n = length design.signals in
    let i = c.loop-i.i in
    let same = c.deref-signal-items.ensures.value in
    let at = signal_at c.args.flat.now _ i c.signal-item.result same c.loop-i-test.true
    c.signal-item.is in
    let inside = inside_design c.args.flat.now _ i same c.loop-i-test.true in
    let clock = at_table design c.args.clocks.now c.requires.clocks i inside in
    let proper = c.is_proper-proper.ensures
    ∙ proper_is design i (signal_form c.signal-item.result)
    (get_or c.as_slice-linked.result.now i false) (get_or c.as_slice-agrees.result.now i false)
    (get_or c.as_slice-used.result.now i false) at
    (in_table n c.as_slice-linked.result.now _ (is_whole_port design) i
    c.as_slice-linked.ensures.value are.linked_are inside)
    (in_table n c.as_slice-agrees.result.now _ (agrees_with_earlier design) i
    c.as_slice-agrees.ensures.value are.agree inside)
    (in_table n c.as_slice-used.result.now _ (is_used design) i
    c.as_slice-used.ensures.value are.used_are inside) in
    let is = c.is_wrong-wrong.ensures ∙ ap₂ (λ k p. k && not p) clock proper in
    finds_more design 602 (is_fault design) i (signal_form c.signal-item.result)
    c.is_wrong-wrong.result c.loop-i.found c.found_if.result c.first_of-found.result at is
    c.first_of-found.ensures c.loop-i.invariant (c.found_if.ensures 602)

pub returns : goal.returns
returns c =
    let design = design_of c.args.flat.now in
    let n = length design.signals in
    let fault = λ (s : _). breach 602 (declared_at design s) s in
    let most = c.loop-i.auto.i-end in
    let same : c.loop-i.i ≡ n =
    omega (
      arith,
      c.loop-i-test.false,
      ap length c.deref-signal-items.ensures.value,
      length-map c.args.flat.now.signals.items signal_form,
    ) in
    subst (λ bs. FindsFirst 602 bs c.loop-i.found)
    (ap (λ k. map fault (filter (is_fault design) (range_with_len 0 k))) same ∙ faults_are design)
    c.loop-i.invariant
