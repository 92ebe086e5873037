use Rattle.std.proofs.Common.{sym, ap, ◌∙◌}
use Rattle.sv_obl.specs.IndexedBodies.{numbers_found}
use Rattle.sv_obl.proofs.indexed.take_out.Goals as goal

pub returns-in-Some-clause-those : goal.returns-in-Some-clause-those
returns-in-Some-clause-those c =
    ap numbers_found (sym c.in-Some.is ∙ c.remove.ensures.value)

pub returns-in-None-clause-those : goal.returns-in-None-clause-those
returns-in-None-clause-those c =
    c.new.ensures.items ∙ ap numbers_found (sym c.in-None.is ∙ c.remove.ensures.value)
