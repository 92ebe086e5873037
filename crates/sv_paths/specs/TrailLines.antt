-- Private: how the code goes. The line of a path as it was walked where several names are wanted at
-- once; what `secv list` prints stands in `ListLines`.
use Rattle.std.specs.Prelude.{ℕ, if◌then◌else◌, List, ◌∷◌, ◌++◌, map, reverse, codes, decimal, Some}
use Rattle.sv_flat.specs.Design.{SignalForm, ProcessForm}
use Rattle.sv_paths.specs.ListLines.{blanked, frame_word, right_word}
use Rattle.sv_obl.specs.SignalNames.{name_of}
use Rattle.sv_obl.specs.Obligations.{is_link, frame_of}
use Rattle.sv_paths.specs.Trails.{TrailForm}
use Rattle.sv_paths.specs.Written.{mark_word}

-- what stands after the number
abbrev pub trail_words : List SignalForm → ProcessForm → (target : ℕ) → TrailForm → List (List ℕ)
trail_words signals process s trail =
    name_of signals s ∷ frame_word (frame_of process.kind) ∷ map mark_word (reverse trail.marks)
    ++ right_word (if is_link process.kind then Some process.place else trail.place)
    ∷ codes "reads" ∷ map (name_of signals) trail.names.settled

-- the line of a target's path through a process
abbrev pub trail_line : List SignalForm → (number : ℕ) → ProcessForm → (target : ℕ) → TrailForm →
    List ℕ
trail_line signals number process s trail =
    decimal number ++ blanked (trail_words signals process s trail) ++ codes "\n"
