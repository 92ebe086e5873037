use Rattle.std.proofs.Common.{rules, ◌≡◌, ◌<◌, ◌^◌, length}
use Rattle.std.proofs.lemmas.Result.{IfOk-weaker}
use Rattle.std.specs.Global.{Vec}
use Rattle.sv_clause.specs.declared.logs.Log.{Log}
use Rattle.sv_proof.specs.Certificate.{plain_logs, proof_lines, proof_text}
use Rattle.sv_proof.proofs.Again.{reads_again}
use Rattle.sv_proof.proofs.LinePlaces.{few_lines}
use Rattle.sv_proof.proofs.read.read_proof.Goals as goal

pub returns-clause-again : goal.returns-clause-again
returns-clause-again c =
    reads_again (λ v. plain_logs v.items) c.args.bytes.now c.read_text.result
    c.read_text.ensures.logs c.read_text.ensures.text c.read_text.ensures.fault

pub returns-clause-lines : goal.returns-clause-lines
returns-clause-lines c =
    let bytes = c.args.bytes.now in
    let small : length bytes < 2 ^ 63 = search rules in
    IfOk-weaker c.read_text.result
    (λ (logs : Vec Log). bytes ≡ proof_text (plain_logs logs.items))
    (λ (logs : Vec Log). length (proof_lines (plain_logs logs.items)) < 2 ^ 63)
    (λ logs is. few_lines bytes (plain_logs logs.items) small is) c.read_text.ensures.text
