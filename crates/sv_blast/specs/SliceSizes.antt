-- Private: how the code goes. How many gates a slice takes, of which every part counts.
use Rattle.std.specs.Prelude.{ℕ, ◌+◌, List}
use Rattle.sv_flat.specs.Design.{SignalForm, FlatStatement, nothing, after, assign, branch}
use Rattle.sv_encoding.specs.Sizes.{expression_size, truth_size}

-- of a target of this width; a branch chooses each of its bits
abbrev pub slice_size : List SignalForm → (width : ℕ) → FlatStatement → ℕ
slice_size signals width nothing = 0
slice_size signals width (after first second) =
    slice_size signals width first + slice_size signals width second
slice_size signals width (assign pieces place blocking right) = expression_size signals right
slice_size signals width (branch place condition first second) =
    truth_size signals condition + slice_size signals width first
    + slice_size signals width second + width
