-- Private: how the code goes. How the code finds the broken question that stands first in the text,
-- without sorting the questions. What it is to find is said by `in_textual_order` of the walk
-- (`sv_elab_rules`, `specs/Lattices.antt`).
use Rattle.std.specs.Prelude.{ℕ, map, List, [], ◌∷◌, ◌++◌, Option, Some, None, option_map}
use Rattle.std.specs.Prelude.{if◌then◌else◌}
use Rattle.sv_num.specs.declared.faults.Place.{Place}
use Rattle.sv_ast.specs.Tree.{LatticeTree}
use Rattle.sv_elab_rules.specs.Walks.{WalkStep, Steps, each}
use Rattle.sv_elab_rules.specs.Rules.{lattice_name}
use Rattle.sv_elab_rules.specs.Lattices.{Question, stands_before, point_questions, pair_questions}
use Rattle.sv_elab_rules.specs.Lattices.{point_names, in_textual_order, answered}
use Rattle.sv_elab.specs.declared.wrong_names.WrongName.{WrongName}

-- the step that is broken, if the question's answer is no
abbrev pub broken_step : Question → Option WalkStep
broken_step q = if q.holds then None else Some q.step

-- of two steps, the one that stands first; the first one where they stand at one place
abbrev pub earlier : Option WalkStep → Option WalkStep → Option WalkStep
earlier None b = b
earlier (Some a) None = Some a
earlier (Some a) (Some b) = Some (if stands_before b.place a.place then b else a)

-- the broken step of some questions that stands first
abbrev pub earliest : List Question → Option WalkStep
earliest [] = None
earliest (q ∷ qs) = earlier (broken_step q) (earliest qs)

-- a wrong name of a lattice as the step that it breaks
abbrev pub name_step : Option WrongName → Option WalkStep
name_step w = option_map (λ (n : WrongName). lattice_name n.place n.name.now) w

-- the names of declared points
abbrev pub names_of : List (List ℕ × Place) → List (List ℕ)
names_of points = map (λ (n : List ℕ × Place). n.0) points

-- what the names of a lattice are asked
abbrev pub name_steps : LatticeTree → Steps
name_steps t =
    each answered (in_textual_order
    (point_questions [] t.points ++ pair_questions (point_names t) t.pairs))
