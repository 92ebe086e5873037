use Rattle.sv_parse.proofs.types.read_signal_type.Goals as goal

pub returns-clause-is : goal.returns-clause-is
returns-clause-is c = (
  _,
  c.is_signed-signed.ensures.is c.args.input.bytes.now,
  (_, c.in_ok-span.ensures.is, c.in_ok-label.ensures.is),
)
