use Rattle.sv_messages.proofs.flows.leak_of.Goals as goal

pub label_in-to-requires-clause-fit : goal.label_in-to-requires-clause-fit
label_in-to-requires-clause-fit c = rw c.deref.ensures.value c.in_ok-frames.ensures.there_fit

pub first_leak-requires-clause-fit : goal.first_leak-requires-clause-fit
first_leak-requires-clause-fit c = rw c.deref-3.ensures.value c.in_ok-frames.ensures.here_fit
