use Rattle.std.proofs.Common.{◌≡◌, ◌++◌, take}
use Rattle.std.specs.Prelude.{codes, flat_map}
use Rattle.sv_flat.specs.ByNumber.{signal_forms}
use Rattle.sv_design.specs.Numbers.{numbers}
use Rattle.sv_trace.specs.Forms.{name_in}
use Rattle.sv_trace.proofs.forms.header_line.Given as goal

abbrev pub invariant-inputs : goal.invariant-inputs
invariant-inputs l = l.line.items ≡ codes "inputs"
    ++ flat_map (λ s. codes " " ++ name_in (signal_forms l.signals) s)
    (numbers (take l.input-index l.inputs))
