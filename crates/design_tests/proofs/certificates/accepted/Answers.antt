use Rattle.std.proofs.Common.{◌<◌, ◌^◌, List, length, map, sym, subst}
use Rattle.std.specs.Prelude.{All}
use Rattle.sv_clause.specs.Logs.{Step}
use Rattle.sv_flat.specs.Views.{design_of}
use Rattle.sv_flat.proofs.Members.{contained_all, all_contained}
use Rattle.sv_obl.specs.DesignQueries.{IsQueryOf}
use Rattle.sv_obl.specs.Views.{obligation_of}
use Rattle.sv_proof.specs.Certificate.{IsWritableLog, plain_logs}
use Rattle.design_tests.proofs.certificates.accepted.Goals as goal

few_steps : (logs : List (List Step)) → All IsWritableLog logs →
    All (λ steps. length steps < 2 ^ 32) logs
few_steps logs each = contained_all (λ (steps : List Step). length steps < 2 ^ 32) logs
    (λ steps at. (all_contained IsWritableLog logs each steps at).count)

pub accept-requires-clause-steps : goal.accept-requires-clause-steps
accept-requires-clause-steps c =
    let logs = c.in_ok-logs.ensures.logs in
    subst (λ ls. All (λ steps. length steps < 2 ^ 32) (plain_logs ls)) (sym c.deref-2.ensures.value)
    (few_steps (plain_logs c.in_ok-logs.logs.items) logs.each)
