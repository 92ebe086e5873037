use Rattle.sv_cli.proofs.Leaks.{no_leak}
use Rattle.sv_cli.proofs.laws.secret_keepers_show_no_leak.Goals as goal

pub returns : goal.returns
returns c request exchanges stimulus printed cycle signal is =
    no_leak c.secret_keeping_texts_show_no_leak.ensures exchanges stimulus printed cycle signal
    request is
