use Rattle.std.proofs.Common.{rules, ◌≡◌, length, eqb, Some, slice_get, ◌-◌}
use Rattle.sv_proof.proofs.Numbers.{ends_empty_by_last}
use Rattle.sv_proof.proofs.check.ends_empty.Goals as goal

pub returns-in-Some : goal.returns-in-Some
returns-in-Some c =
    let at : Some c.in-Some.last.now ≡ slice_get c.args.steps.now (length c.args.steps.now - 1) =
    search rules in
    let empty : c.is_empty.result ≡ eqb (length c.in-Some.last.now.clause) 0 = search rules in
    ends_empty_by_last c.args.steps.now c.in-Some.last.now c.is_empty.result at empty
