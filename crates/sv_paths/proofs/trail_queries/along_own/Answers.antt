use Rattle.sv_paths.proofs.trail_queries.along_own.Goals as goal

pub returns-in-Some : goal.returns-in-Some
returns-in-Some c = rw c.in-Some.is c.along_ways.ensures

pub returns-in-None : goal.returns-in-None
returns-in-None c = rw c.in-None.is c.along_rest.ensures
