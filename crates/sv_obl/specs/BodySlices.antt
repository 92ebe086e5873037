-- What of a statement matters to one target (a program slice) where no read is an earlier one: what
-- gives the target its value, and nothing that gives one to other signals alone.
use Rattle.std.specs.Prelude.{◌≡◌, ℕ, if◌then◌else◌, List, [], ◌∷◌, map}
use Rattle.sv_flat.specs.Design.{FlatStatement, nothing, after, assign, branch, ProcessForm}
use Rattle.sv_flat.specs.Design.{FlatDesign}
use Rattle.sv_flat.specs.Assigned.{assigns}
use Rattle.sv_flat.specs.Clocks.{processes_of}
use Rattle.sv_flat.specs.Processes.{drivers}
use Rattle.sv_flat.specs.Views.{typed_tree, piece_form}
use Rattle.sv_obl.specs.declared.body_slices.BodySlice.{BodySlice}
use Rattle.sv_obl.specs.declared.body_slices.BodySlice as slice

-- the statement with nothing in place of each part that does not assign the target
abbrev pub sliced : (target : ℕ) → FlatStatement → FlatStatement
sliced s nothing = nothing
sliced s (after first second) = after (sliced s first) (sliced s second)
sliced s (assign pieces place blocking right) =
    if assigns (assign pieces place blocking right) s
    then assign pieces place blocking right
    else nothing
sliced s (branch place condition first second) =
    if assigns (branch place condition first second) s
    then branch place condition (sliced s first) (sliced s second)
    else nothing

-- the parts of a statement and then the rest, as one sequence: no part of it is nothing, and none
-- is a sequence itself
abbrev pub in_sequence : FlatStatement → (rest : FlatStatement) → FlatStatement
in_sequence nothing rest = rest
in_sequence (after first second) rest = in_sequence first (in_sequence second rest)
in_sequence (assign pieces place blocking right) rest =
    after (assign pieces place blocking right) rest
in_sequence (branch place condition first second) rest =
    after
    (branch place condition (in_sequence first nothing) (in_sequence second nothing)) rest

-- two statements have the same parts, however their sequences are grouped
abbrev pub SameParts : (one other : FlatStatement) → Type 0
SameParts one other = in_sequence one nothing ≡ in_sequence other nothing

-- ---- as the calls hand them on

-- the plain form of a slice
abbrev pub slice_statement : BodySlice → FlatStatement
slice_statement slice.Nothing = nothing
slice_statement (slice.Assign pieces place blocking value) =
    assign (map piece_form pieces.now) place blocking (typed_tree value.now)
slice_statement (slice.Chain' p first q second) =
    after (slice_statement first) (slice_statement second)
slice_statement (slice.Branch' place cond p first q second) =
    branch place (typed_tree cond.now) (slice_statement first) (slice_statement second)

-- the body of the first of some processes
abbrev pub first_body : List ProcessForm → FlatStatement
first_body [] = nothing
first_body (process ∷ processes) = process.body

-- the body of the process that drives a target, the only one in an admitted design, and nothing
-- where none does
abbrev pub driven_body : FlatDesign → (target : ℕ) → FlatStatement
driven_body design s = first_body (drivers (processes_of design) s)
