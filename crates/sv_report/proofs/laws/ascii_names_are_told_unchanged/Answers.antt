use Rattle.std.proofs.Common.{ap}
use Rattle.std.proofs.lemmas.Str.{utf8_lossy-IsUtf8, IsUtf8-from_ascii}
use Rattle.serde_json.specs.Data.{string}
use Rattle.sv_report.proofs.laws.ascii_names_are_told_unchanged.Goals as goal

pub returns : goal.returns
returns c name ascii = ap string (utf8_lossy-IsUtf8 name (IsUtf8-from_ascii name ascii))
