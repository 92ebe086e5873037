use Rattle.std.proofs.Common.{◌≡◌, length, codes, refl, sym, ap, ◌∙◌}
use Rattle.std.proofs.lemmas.Result.{err_from_is_err_and}
use Rattle.std.proofs.lemmas.Bool.{false≢true, eqb-true, eq-eqb}
use Rattle.std.proofs.lemmas.List.{nil_from_length}
use Rattle.sv_proof.specs.Certificate.{plain_logs}
use Rattle.sv_proof.proofs.Following.{no_next_unended, no_next_wrong}
use Rattle.sv_proof.proofs.Beginning.{IsCountLine, broken_first, broken_second, broken_in_logs}
use Rattle.sv_proof.proofs.Beginning.{IsHeaded, broken_at_end, broken_behind, read_whole}
use Rattle.sv_proof.proofs.read.read_text.Goals as goal
use Rattle.sv_proof.proofs.read.read_text.Goals.{In-Some-read_counted}

-- the two lines before the logs
headed : (c : In-Some-read_counted) →
    IsHeaded c.args.bytes.now c.in-Some-split_first.rest.now c.in-Some-read_counted.count
headed c =
    let counted = c.in-Some-read_counted.ensures.some in
    record {
      first = c.in-Some.first.now;
      rest = c.in-Some.rest.now;
      second = c.in-Some-split_first.second.now;
      splits = c.in-Some.ensures.some.0;
      is_first = c.is_line.ensures.0 c.if-not-is_line.false;
      splits_rest = c.in-Some-split_first.ensures.some.0;
      is_second = counted.0;
      few = counted.1;
    }

pub returns-in_default-clause-fault : goal.returns-in_default-clause-fault
returns-in_default-clause-fault c =
    broken_first c.args.bytes.now (no_next_unended (λ line.
    line ≡ codes "secv-proof 1") c.args.bytes.now (c.in_default.ensures.none refl))

pub returns-then-not-is_line-clause-fault : goal.returns-then-not-is_line-clause-fault
returns-then-not-is_line-clause-fault c =
    broken_first c.args.bytes.now
    (no_next_wrong (λ line. line ≡ codes "secv-proof 1") c.args.bytes.now c.in-Some.first.now
    c.in-Some.rest.now c.in-Some.ensures.some.0 c.in-Some.ensures.some.1
    (λ is. false≢true (sym c.if-not-is_line.true ∙ c.is_line.ensures.1 is)))

pub returns-in_default-split_first-clause-fault : goal.returns-in_default-split_first-clause-fault
returns-in_default-split_first-clause-fault c =
    broken_second c.args.bytes.now c.in-Some.first.now c.in-Some.rest.now c.in-Some.ensures.some.0
    (c.is_line.ensures.0 c.if-not-is_line.false)
    (no_next_unended IsCountLine c.in-Some.rest.now (c.in_default-split_first.ensures.none refl))

pub returns-in_default-read_counted-clause-fault : goal.returns-in_default-read_counted-clause-fault
returns-in_default-read_counted-clause-fault c =
    broken_second c.args.bytes.now c.in-Some.first.now c.in-Some.rest.now c.in-Some.ensures.some.0
    (c.is_line.ensures.0 c.if-not-is_line.false)
    (no_next_wrong IsCountLine c.in-Some.rest.now c.in-Some-split_first.second.now
    c.in-Some-split_first.rest.now c.in-Some-split_first.ensures.some.0
    c.in-Some-split_first.ensures.some.1
    (λ (count, few, is). c.in_default-read_counted.ensures.none refl count few is))

pub returns-in_err-logs-clause-fault : goal.returns-in_err-logs-clause-fault
returns-in_err-logs-clause-fault c =
    let p = err_from_is_err_and c.from_residual.result c.from_residual.ensures.1 in
    rw (p.1, p.2)
    (broken_in_logs _ _ _ (headed (goal.at.returns-in_err-logs-clause-fault c).In-Some-read_counted)
    c.in_err-logs.field-0.0 c.in_err-logs.ensures.fault)

pub returns-in_default-split_first-2-clause-fault :
    goal.returns-in_default-split_first-2-clause-fault
returns-in_default-split_first-2-clause-fault c =
    let s = (goal.at.returns-in_default-split_first-2-clause-fault c).In-Some-read_counted in
    let head = headed s in
    let read = c.in_ok-logs.logs in
    broken_at_end _ _ _ head (plain_logs read.logs.items) read.rest.now
    c.in_ok-logs.ensures.logs c.in_ok-logs.ensures.count
    read.line c.in_ok-logs.ensures.line
    (no_next_unended (λ last.
    last ≡ codes "end") read.rest.now (c.in_default-split_first-2.ensures.none refl))

pub returns-then-not-is_line-2-clause-fault : goal.returns-then-not-is_line-2-clause-fault
returns-then-not-is_line-2-clause-fault c =
    let head = headed (goal.at.returns-then-not-is_line-2-clause-fault c).In-Some-read_counted in
    let read = c.in_ok-logs.logs in
    broken_at_end _ _ _ head (plain_logs read.logs.items) read.rest.now
    c.in_ok-logs.ensures.logs c.in_ok-logs.ensures.count
    read.line c.in_ok-logs.ensures.line
    (no_next_wrong (λ last. last ≡ codes "end") read.rest.now c.in-Some-split_first-2.last.now
    c.in-Some-split_first-2.rest.now c.in-Some-split_first-2.ensures.some.0
    c.in-Some-split_first-2.ensures.some.1
    (λ is. false≢true (sym c.if-not-is_line-2.true ∙ c.is_line-2.ensures.1 is)))

pub returns-then-not-is_empty-clause-fault : goal.returns-then-not-is_empty-clause-fault
returns-then-not-is_empty-clause-fault c =
    let head = headed (goal.at.returns-then-not-is_empty-clause-fault c).In-Some-read_counted in
    let read = c.in_ok-logs.logs in
    broken_behind _ _ _ head (plain_logs read.logs.items) read.rest.now
    c.in_ok-logs.ensures.logs c.in_ok-logs.ensures.count
    c.in-Some-split_first-2.last.now c.in-Some-split_first-2.rest.now
    c.in-Some-split_first-2.ensures.some.0 (c.is_line-2.ensures.0 c.if-not-is_line-2.false)
    read.line c.in_ok-logs.ensures.line
    (λ none. false≢true (sym c.if-not-is_empty.true
    ∙ (c.is_empty.ensures
    ∙ eq-eqb (length c.in-Some-split_first-2.rest.now) 0 (ap length none))))

pub returns-clause-text : goal.returns-clause-text
returns-clause-text c =
    let head = headed (goal.at.returns-clause-text c).In-Some-read_counted in
    let read = c.in_ok-logs.logs in
    read_whole _ _ _ head (plain_logs read.logs.items) read.rest.now
    c.in_ok-logs.ensures.logs c.in_ok-logs.ensures.count
    c.in-Some-split_first-2.last.now c.in-Some-split_first-2.rest.now
    c.in-Some-split_first-2.ensures.some.0 (c.is_line-2.ensures.0 c.if-not-is_line-2.false)
    (nil_from_length c.in-Some-split_first-2.rest.now
    (eqb-true (length c.in-Some-split_first-2.rest.now) 0 (sym c.is_empty.ensures
    ∙ c.if-not-is_empty.false)))
