use Rattle.std.proofs.Common.{◌≡◌, ◌++◌, drop}
use Rattle.sv_flat.specs.ByNumber.{signal_forms}
use Rattle.sv_design.specs.Numbers.{numbers}
use Rattle.sv_report.specs.FlowText.{value_lines}
use Rattle.sv_report.proofs.flow_texts.push_value_lines.Given as goal

-- the lines so far and those of what is left are those of all
abbrev pub invariant-loop-i : goal.invariant-loop-i
invariant-loop-i l =
    let signals = signal_forms l.signals in
    l.text.items ++ value_lines signals l.word (numbers (drop l.i l.listed)) (drop l.i l.values)
    ≡ l.fn.text.items ++ value_lines signals l.word (numbers l.listed) l.values
