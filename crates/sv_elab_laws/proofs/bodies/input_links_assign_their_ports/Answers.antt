use Rattle.sv_elab_laws.proofs.LinksSame.{input_link_same}
use Rattle.sv_elab_laws.proofs.bodies.input_links_assign_their_ports.Goals as goal

pub returns : goal.returns
returns c signals outer declared listed ports d e process walked some is by_name by_number values =
    input_link_same signals outer declared listed ports d e process walked some is by_name
    by_number values
