use Rattle.sv_cli.proofs.Printed.{printed_falsify}
use Rattle.sv_cli.proofs.laws.printed_values_falsify_their_texts.Goals as goal

pub returns : goal.returns
returns c top text passes budget number v falsified =
    printed_falsify top text passes budget number v falsified
