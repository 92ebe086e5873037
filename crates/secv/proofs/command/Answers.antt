use Rattle.secv.proofs.command.Goals as goal

pub returns : goal.returns
returns c = record {
  outcome = c.run-outcome.result;
  is = c.status.ensures;
  noninterference = c.run-outcome.ensures.noninterference;
  valid = c.run-outcome.ensures.valid;
  no_leak = c.run-outcome.ensures.no_leak;
  runs = c.run-outcome.ensures.runs;
}
