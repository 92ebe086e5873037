use Rattle.std.proofs.Common.{◌≡◌, drop, map}
use Rattle.sv_ast.specs.Views.{pair_tree}
use Rattle.sv_elab_rules.specs.Lattices.{pair_questions}
use Rattle.sv_elab.specs.Earliest.{earlier, earliest, name_step}
use Rattle.sv_elab.proofs.wrong_names.with_pairs.Given as goal

-- the first of what was found and what is left is the first of all
abbrev pub invariant-loop-lower : goal.invariant-loop-lower
invariant-loop-lower l =
    earlier (name_step l.wrong)
    (earliest (pair_questions l.names.keys (map pair_tree (drop l.lower-index l.pairs))))
    ≡ earlier (name_step l.fn.wrong)
    (earliest (pair_questions l.names.keys (map pair_tree l.pairs)))
