use Rattle.std.proofs.Common.{◌≡◌, ℕ, ◌≤◌, length}
use Rattle.std.specs.Prelude.{IsFalse}
use Rattle.sv_flat.specs.ByNumber.{by_number, FitSignals}
use Rattle.sv_flat.specs.Schedules.{state_after, after_rounds, is_quiet}
use Rattle.sv_flat.specs.Views.{design_of}
use Rattle.sv_event.proofs.rounds.run_rounds.Given as goal

abbrev pub invariant-loop-before : goal.invariant-loop-before
invariant-loop-before l =
    let design = design_of l.design in
    let start = by_number l.fn.values in
    record {
      order : length l.order ≡ length l.combs;
      fit : FitSignals design.signals l.values;
      room : length l.other ≡ length l.values;
      state : l.state ≡ state_after design l.number l.before;
      run : by_number l.values ≡ after_rounds design l.number l.before start;
      none : (k : ℕ) → 1 ≤ k → k ≤ l.before →
          IsFalse (is_quiet design (after_rounds design l.number k start));
    }
