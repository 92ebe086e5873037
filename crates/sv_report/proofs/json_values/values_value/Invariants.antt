use Rattle.std.proofs.Common.{◌≡◌, drop}
use Rattle.serde_json.specs.View.{members_view}
use Rattle.sv_flat.specs.ByNumber.{signal_forms}
use Rattle.sv_design.specs.Numbers.{numbers}
use Rattle.sv_report.specs.JsonTexts.{put_all, value_pairs}
use Rattle.serde_json.specs.Data.{no_members}
use Rattle.sv_report.proofs.json_values.values_value.Given as goal

-- what is left, put among the members so far, gives all
abbrev pub invariant-loop-i : goal.invariant-loop-i
invariant-loop-i l =
    let signals = signal_forms l.signals in
    put_all (value_pairs signals (numbers (drop l.i l.listed)) (drop l.i l.values))
    (members_view l.members.entries)
    ≡ put_all (value_pairs signals (numbers l.listed) l.values) no_members
