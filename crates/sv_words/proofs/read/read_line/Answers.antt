use Rattle.sv_words.proofs.Reading.{line_is_read, rejects}
use Rattle.sv_words.proofs.read.read_line.Goals as goal

pub returns-in-Ok : goal.returns-in-Ok
returns-in-Ok c = line_is_read c.args.name c.in_ok-line.line c.in-Ok.matches _ c.in_ok-line.ensures
    c.in-Ok.ensures.parsed c.in-Ok.ensures.matches c.in-Ok.ensures.kinds

pub returns-in-Err : goal.returns-in-Err
returns-in-Err c = rejects c.args.name c.in_ok-line.line c.in-Err.error _ c.kind.result
    c.fault_by.result c.in_ok-line.ensures
    c.in-Err.ensures.kinds c.kind.ensures c.fault_by.ensures
