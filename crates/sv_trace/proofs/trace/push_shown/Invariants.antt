use Rattle.std.proofs.Common.{◌≡◌, ◌++◌, take}
use Rattle.std.specs.Prelude.{flat_map}
use Rattle.sv_flat.specs.ByNumber.{by_number}
use Rattle.sv_flat.specs.Views.{design_of}
use Rattle.sv_design.specs.Numbers.{numbers}
use Rattle.sv_trace.specs.Traces.{text_of_signal}
use Rattle.sv_trace.proofs.trace.push_shown.Given as goal

abbrev pub invariant-signals : goal.invariant-signals
invariant-signals l = l.line.items ≡ l.fn.line.items
    ++ flat_map (text_of_signal (design_of l.design) l.level (by_number l.table))
    (numbers (take l.s-index l.seen))
