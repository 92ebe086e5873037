use Rattle.std.proofs.Common.{◌≡◌, subst}
use Rattle.sv_flat.specs.Views.{design_of}
use Rattle.sv_judge.specs.Answers.{WhereVerified, WhereFault, WhereLarge}
use Rattle.sv_judge.specs.Certified.{IsVerified, IsFaultLine, IsTooLargeToVerify}
use Rattle.sv_cli.proofs.Certificates.{accepted_reports, fault_reports, large_reports}
use Rattle.sv_cli.proofs.verifying.report_of_proof.Goals as goal

pub returns-in-Accepted : goal.returns-in-Accepted
returns-in-Accepted c =
    let design = design_of c.args.design.now in
    accepted_reports design c.args.bytes.now c.args.count c.in-Accepted.count
    (subst (WhereVerified (λ _. IsVerified design c.args.bytes.now)) c.in-Accepted.is
    c.in_ok-count.ensures.accepted)
    (subst (WhereVerified (λ told. told ≡ c.args.count)) c.in-Accepted.is
    c.in_ok-count.ensures.count)
    c.requires.count c.report_of_acceptance.result c.report_of_acceptance.ensures.answer
    c.report_of_acceptance.ensures.text

pub returns-in-Fault : goal.returns-in-Fault
returns-in-Fault c =
    fault_reports (design_of c.args.design.now) c.args.bytes.now c.in-Fault.line
    (subst (WhereFault (IsFaultLine (design_of c.args.design.now) c.args.bytes.now)) c.in-Fault.is
    c.in_ok-count.ensures.fault)
    c.report_of_line.result c.report_of_line.ensures.answer c.report_of_line.ensures.text

pub returns-in-TooLarge : goal.returns-in-TooLarge
returns-in-TooLarge c =
    large_reports (design_of c.args.design.now) c.args.bytes.now c.in-TooLarge.number
    (subst (WhereLarge (IsTooLargeToVerify (design_of c.args.design.now) c.args.bytes.now)) c.in-TooLarge.is
    c.in_ok-count.ensures.too_large)
    c.report_of_large.result c.report_of_large.ensures
