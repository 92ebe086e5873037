use Rattle.std.proofs.Common.{◌≡◌, string_bytes, false, ap, ap₂, ◌∙◌, rules}
use Rattle.std.specs.Fmt.{digits}
use Rattle.std.specs.Str.Lossy.{utf8_lossy}
use Rattle.serde_json.specs.Data.{string, put}
use Rattle.serde_json.specs.View.{members_view}
use Rattle.serde_json.specs.declared.value.Value.{String}
use Rattle.serde_json.proofs.Views.{members_view-insert_entry}
use Rattle.sv_flat.specs.ByNumber.{signal_forms}
use Rattle.sv_obl.specs.SignalNames.{name_of}
use Rattle.sv_report.proofs.JsonFacts.{view_text}
use Rattle.sv_report.proofs.json_values.put_value.Goals as goal

pub returns : goal.returns
returns c =
    let old = c.args.members.now.entries in
    let name = c.in_ok-name.name in
    let shown = c.in_ok-format.field-0 in
    let named : string_bytes name
    ≡ utf8_lossy (name_of (signal_forms c.args.signals.now) c.args.signal.0) = search rules in
    let valued : string_bytes shown ≡ digits 16 false c.args.value = search rules in
    ap members_view c.in_ok-insert.ensures.entries
    ∙ members_view-insert_entry old name (String shown)
    ∙ ap₂ (λ key d. put key d (members_view old)) named (view_text shown ∙ ap string valued)
