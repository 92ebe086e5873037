use Rattle.sv_obl.proofs.body_slices.+last_together.Given as goal

abbrev pub decreases-last_together : goal.decreases-last_together
decreases-last_together l = l.count
