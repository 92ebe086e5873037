use Rattle.std.proofs.Common.{◌≡◌, take, map}
use Rattle.sv_flat.specs.ByNumber.{signal_forms}
use Rattle.sv_design.specs.Numbers.{numbers}
use Rattle.sv_trace.specs.Forms.{register_in}
use Rattle.sv_trace.proofs.forms.registers_of.Given as goal

abbrev pub invariant-listed : goal.invariant-listed
invariant-listed l = l.registers.items ≡
    map (register_in (signal_forms l.signals)) (numbers (take l.s-index l.listed))
