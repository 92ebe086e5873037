use Rattle.std.proofs.Common.{refl}
use Rattle.std.proofs.lemmas.Result.{on_ok_weaker}
use Rattle.sv_width.proofs.scope.Scope.add_signal.Goals as goal

pub returns-clause-added : goal.returns-clause-added
returns-clause-added c =
    on_ok_weaker c.add.result (λ e. (_, refl, refl, refl, e)) c.add.ensures.added
