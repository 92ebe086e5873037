use Rattle.std.proofs.Common.{refl, sym, subst, arith}
use Rattle.std.specs.Prelude.{IfOk}
use Rattle.sv_clause.specs.Logs.{plain_log}
use Rattle.sv_flat.specs.Views.{design_of}
use Rattle.sv_obl.proofs.FormLists.{length_mapped}
use Rattle.sv_proof.specs.Certificate.{plain_logs, proof_text}
use Rattle.sv_judge.specs.Verifying.{IsVerdict}
use Rattle.sv_judge.proofs.VerifyFacts.{verified, wrong_count, flawed_is}
use Rattle.sv_judge.proofs.verifying.verify_logs.Goals as goal

pub returns-then-logs-count : goal.returns-then-logs-count
returns-then-logs-count c =
    let mapped = length_mapped plain_log c.args.logs.now in
    let counted = c.requires.count in
    wrong_count (design_of c.args.design.now) (plain_logs c.args.logs.now) c.requires.logs
    (λ same. omega arith)

pub verify_all-requires : goal.verify_all-requires
verify_all-requires c =
    let mapped = length_mapped plain_log c.args.logs.now in
    let counted = c.requires.count in
    record { are_logs = c.requires.logs; count = omega arith; lines = c.requires.lines }

pub returns-in-Ok : goal.returns-in-Ok
returns-in-Ok c =
    let mapped = length_mapped plain_log c.args.logs.now in
    let counted = c.requires.count in (
      verified (design_of c.args.design.now) (plain_logs c.args.logs.now)
          (record { are_logs = c.requires.logs; count = omega arith; lines = c.requires.lines })
          c.in-Ok.ensures.shown,
      refl,
    )

pub returns-in-Err : goal.returns-in-Err
returns-in-Err c =
    let design = design_of c.args.design.now in
    let logs = plain_logs c.args.logs.now in
    subst (λ r. IfOk r (IsVerdict design (proof_text logs) c.args.count))
    (sym c.flawed.ensures)
    (flawed_is design c.args.count logs c.in-Err.flaw c.in-Err.ensures.flaw)
