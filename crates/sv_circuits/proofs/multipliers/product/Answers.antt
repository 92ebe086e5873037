use Rattle.std.proofs.Common.{rules}
use Rattle.std.specs.Result.{IsErrOf}
use Rattle.sv_gates.specs.declared.gates.GateFault.TheVariants.{Full}
use Rattle.sv_circuits.proofs.ProductSteps.{product_full}
use Rattle.sv_circuits.proofs.multipliers.product.Goals as goal

pub returns-in_err-rows-clause-full : goal.returns-in_err-rows-clause-full
returns-in_err-rows-clause-full c =
    let same : IsErrOf c.from_residual.result Full → IsErrOf c.rows.result Full = search rules in
    λ e. product_full c.args.a.now c.args.b.now c.args.gates.now _ (c.rows.ensures.full (same e))
