use Rattle.std.proofs.Common.{drop}
use Rattle.sv_elab.specs.Earliest.{name_step}
use Rattle.sv_elab.proofs.NameLemmas.{NamesLeft}
use Rattle.sv_elab.proofs.wrong_names.declared_names.Given as goal

abbrev pub invariant-loop-name : goal.invariant-loop-name
invariant-loop-name l =
    NamesLeft l.points (name_step l.wrong) l.names.keys (drop l.name-index l.points)
