use Rattle.sv_circuits.proofs.WordKeeps.{fill_within}
use Rattle.sv_circuits.proofs.operators.sign_shifted.Goals as goal

pub shifted-requires-clause-fill : goal.shifted-requires-clause-fill
shifted-requires-clause-fill c =
    let none = rw c.falsity-false.ensures.value at c.falsity-false.ensures.within in
    rw c.sign_fill.ensures
    (fill_within _ c.args.signed c.args.a.now c.requires.a none)
