use Rattle.sv_circuits.proofs.WordKeeps.{at_within}
use Rattle.sv_blast.proofs.constants.bit_at_number.Goals as goal

pub returns-else-is_below_zero-clause-within : goal.returns-else-is_below_zero-clause-within
returns-else-is_below_zero-clause-within c =
    let none = rw c.falsity-outside.ensures.value at c.falsity-outside.ensures.within in
    rw c.literal_at.ensures
    (at_within _ c.args.number c.args.word.now c.requires.word none)
