use Rattle.std.proofs.Common.{length, subst}
use Rattle.std.specs.Prelude.{Contains}
use Rattle.sv_flat.specs.FlatSystem.{flat_system}
use Rattle.sv_flat.specs.Views.{design_of}
use Rattle.sv_trace.specs.Forms.{form_of}
use Rattle.sv_tworun.specs.Forms.{finding}
use Rattle.sv_compare.specs.Pairs.{HasCompareFault}
use Rattle.sv_cli.proofs.ComparedFiles.{has_signal, found_told, first_reports, second_reports}
use Rattle.sv_cli.proofs.comparing.compare_bytes.Goals as goal

pub finding_text-requires : goal.finding_text-requires
finding_text-requires c =
    has_signal (length c.args.design.now.signals.items)
    (Contains (flat_system (design_of c.args.design.now)).signals) (finding c.in-Ok.found)
    c.in-Ok.ensures.signal

pub returns-in_ok-finding_text-in-Ok : goal.returns-in_ok-finding_text-in-Ok
returns-in_ok-finding_text-in-Ok c =
    found_told (design_of c.args.design.now) c.args.level c.args.first.now c.args.second.now
    (finding c.in-Ok.found) c.in-Ok.ensures.found c.in-Ok.ensures.right.0 c.in-Ok.ensures.right.1
    (record { outcome = c.outcome_of_finding.result; text = c.in_ok-finding_text-in-Ok.field-0 })
    c.outcome_of_finding.ensures c.in_ok-finding_text-in-Ok.ensures

pub returns-in-Err-First : goal.returns-in-Err-First
returns-in-Err-First c =
    let design = design_of c.args.design.now in
    let first = c.args.first.now in
    let second = c.args.second.now in
    first_reports design c.args.level first second c.in-Err-First.line c.in-Err-First.kind
    (subst (HasCompareFault (form_of design) first second) c.in-Err-First.field-0-is
    c.in-Err-First.ensures.fault)
    c.report_of_stimulus.result c.report_of_stimulus.ensures.answer
    c.report_of_stimulus.ensures.text

pub returns-in-Err-Second : goal.returns-in-Err-Second
returns-in-Err-Second c =
    let design = design_of c.args.design.now in
    let first = c.args.first.now in
    let second = c.args.second.now in
    let told = subst (HasCompareFault (form_of design) first second) c.in-Err-Second.field-0-is
    c.in-Err-Second.ensures.fault in
    second_reports design c.args.level first second c.in-Err-Second.line c.in-Err-Second.kind
    told.0 told.1 c.report_of_stimulus-in-Err-Second.result
    c.report_of_stimulus-in-Err-Second.ensures.answer
    c.report_of_stimulus-in-Err-Second.ensures.text
