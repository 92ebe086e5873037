use Rattle.std.proofs.Common.{refl, sym}
use Rattle.sv_parse.proofs.declarations.type_of.Goals as goal

pub returns : goal.returns
returns c =
    (refl, sym c.in_ok-span.ensures, sym c.in_ok-label.ensures)
