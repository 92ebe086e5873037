use Rattle.std.proofs.Common.{◌≡◌, ◌<◌, not, false, length, get_or, ap, ◌∙◌, arith}
use Rattle.std.specs.List.{range_with_len}
use Rattle.std.specs.Prelude.{filter}
use Rattle.sv_flat.specs.Clocks.{is_clock}
use Rattle.std.proofs.Math.ListN.{length-map}
use Rattle.sv_flat.specs.Views.{design_of, signal_form}
use Rattle.sv_rules.proofs.ClockLinks.{at_table, clocks_count}
use Rattle.sv_rules.proofs.TableFacts.{table_more, listed_are, few_signals}
use Rattle.sv_design.proofs.signal_lists.seen_of.Goals as goal

pub loop-s-preserved : goal.loop-s-preserved
loop-s-preserved c =
    let design = design_of c.args.flat.now in
    let size = clocks_count design c.args.clocks.now c.requires.clocks in
    let inside : c.loop-s.s < length design.signals = omega (arith, c.loop-s-test.true) in
    table_more c.loop-s.s c.loop-s.table.items c.push.new.self.items (λ s.
    not (is_clock design s)) _ c.loop-s.invariant
    (ap not (at_table design c.args.clocks.now c.requires.clocks c.loop-s.s inside))
    c.in_ok-push.ensures.items

pub listed-requires : goal.listed-requires
listed-requires c =
    let design = design_of c.args.flat.now in
    let few = few_signals design c.requires.sound in
    let size = clocks_count design c.args.clocks.now c.requires.clocks in
    let most = c.loop-s.auto.s-end in
    let count : length c.deref.result.now ≡ c.loop-s.s =
    ap length c.deref.ensures.value ∙ c.loop-s.invariant.0 in
    omega arith

pub returns : goal.returns
returns c =
    let design = design_of c.args.flat.now in
    let size = clocks_count design c.args.clocks.now c.requires.clocks in
    let count = length-map c.args.flat.now.signals.items signal_form in
    let most = c.loop-s.auto.s-end in
    let same : length design.signals ≡ c.loop-s.s = omega (arith, c.loop-s-test.false) in
    c.in_ok-signals.ensures
    ∙ ap (λ ts. filter (λ s. get_or ts s false) (range_with_len 0 (length ts)))
    c.deref.ensures.value
    ∙ listed_are c.loop-s.s c.loop-s.table.items (λ s.
    not (is_clock design s)) (length design.signals) c.loop-s.invariant same
