use Rattle.sv_circuits.proofs.OperatorLaws.{unary_says}
use Rattle.sv_circuits.proofs.laws.unary_circuits_spell_their_values.Goals as goal

pub returns : goal.returns
returns c op signed a old base is = unary_says op signed a old base is
