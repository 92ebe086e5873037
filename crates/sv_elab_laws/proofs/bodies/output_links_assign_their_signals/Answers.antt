use Rattle.sv_elab_laws.proofs.LinksSame.{output_link_same}
use Rattle.sv_elab_laws.proofs.bodies.output_links_assign_their_signals.Goals as goal

pub returns : goal.returns
returns c signals outer inner numbering listed ports d e process walked port_is number_is by_name
    by_number values =
    output_link_same signals outer inner numbering listed ports d e process walked port_is number_is
    by_name by_number values
