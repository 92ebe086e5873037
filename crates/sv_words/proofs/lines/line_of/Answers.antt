use Rattle.sv_words.specs.Lines.{line_of}
use Rattle.sv_words.proofs.lines.line_of.Goals as goal

pub returns-in-Check : goal.returns-in-Check
unfolding line_of
returns-in-Check c = rw c.in-Check.is c.check_line.ensures

pub returns-in-Verify : goal.returns-in-Verify
unfolding line_of
returns-in-Verify c = rw c.in-Verify.is c.verify_line.ensures

pub returns-in-List : goal.returns-in-List
unfolding line_of
returns-in-List c = rw c.in-List.is c.list_line.ensures

pub returns-in-Cnf : goal.returns-in-Cnf
unfolding line_of
returns-in-Cnf c = rw c.in-Cnf.is c.cnf_line.ensures

pub returns-in-Sim : goal.returns-in-Sim
unfolding line_of
returns-in-Sim c = rw c.in-Sim.is c.sim_line.ensures

pub returns-in-Compare : goal.returns-in-Compare
unfolding line_of
returns-in-Compare c = rw c.in-Compare.is c.compare_line.ensures

pub returns-in-Gen : goal.returns-in-Gen
unfolding line_of
returns-in-Gen c = rw c.in-Gen.is c.gen_line.ensures
