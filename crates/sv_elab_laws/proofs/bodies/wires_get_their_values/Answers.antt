use Rattle.sv_elab_laws.proofs.LinksSame.{wire_same}
use Rattle.sv_elab_laws.proofs.bodies.wires_get_their_values.Goals as goal

pub returns : goal.returns
returns c names signals numbering d e built next walked width signed there =
    wire_same names signals numbering d e built next walked width signed there
