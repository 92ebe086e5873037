use Rattle.std.proofs.Common.{◌≡◌, ◌++◌, drop}
use Rattle.std.specs.Prelude.{map}
use Rattle.serde_json.specs.View.{view}
use Rattle.sv_report.specs.JsonTexts.{name_data}
use Rattle.sv_report.proofs.json_values.names_value.Given as goal

-- the names so far and what is left are all
abbrev pub invariant-loop-name : goal.invariant-loop-name
invariant-loop-name l =
    map view l.listed.items ++ map name_data (drop l.name-index l.names) ≡ map name_data l.names
