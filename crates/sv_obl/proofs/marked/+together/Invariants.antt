use Rattle.sv_obl.proofs.marked.+together.Given as goal

abbrev pub decreases-together : goal.decreases-together
decreases-together l = l.count
