use Rattle.sv_cli.proofs.OneCertificate.{stored_accepted}
use Rattle.sv_cli.proofs.laws.stored_certificates_are_accepted.Goals as goal

pub returns : goal.returns
returns c design budget bytes certificate answer printed judges =
    stored_accepted design bytes budget certificate answer printed judges
