use Rattle.sv_circuits.proofs.OperatorLaws.{binary_says}
use Rattle.sv_circuits.proofs.laws.binary_circuits_spell_their_values.Goals as goal

pub returns : goal.returns
returns c op signed a b old base is_a is_b sizes =
    binary_says op signed a b old base is_a is_b sizes
