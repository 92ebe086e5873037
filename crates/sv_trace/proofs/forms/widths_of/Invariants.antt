use Rattle.std.proofs.Common.{◌≡◌, take, map}
use Rattle.sv_flat.specs.ByNumber.{signal_forms}
use Rattle.sv_flat.specs.Values.{signal_width}
use Rattle.sv_design.specs.Numbers.{numbers}
use Rattle.sv_trace.proofs.forms.widths_of.Given as goal

abbrev pub invariant-listed : goal.invariant-listed
invariant-listed l = l.widths.items ≡
    map (signal_width (signal_forms l.signals)) (numbers (take l.s-index l.listed))
