-- Which signals, and which of their bits, a statement assigns (this project's profile).
use Rattle.std.specs.Prelude.{ℕ, Bool, false, ◌==◌, ◌&&◌, ◌||◌, nat_le}
use Rattle.std.specs.List.{list_any}
use Rattle.sv_flat.specs.Design.{PieceForm, FlatStatement, nothing, after, assign, branch}

-- the piece has this bit of this signal
abbrev pub has_bit : (signal bit : ℕ) → PieceForm → Bool
has_bit s b piece = (piece.signal == s) && nat_le piece.low b && nat_le b piece.high

-- the statement has an assignment to this signal
abbrev pub assigns : FlatStatement → ℕ → Bool
assigns nothing s = false
assigns (after first second) s = assigns first s || assigns second s
assigns (assign pieces place blocking right) s =
    list_any (λ (piece : PieceForm). piece.signal == s) pieces
assigns (branch place condition first second) s = assigns first s || assigns second s

-- the statement has an assignment to this bit of this signal, whatever its conditions say
abbrev pub can_assign : FlatStatement → (signal bit : ℕ) → Bool
can_assign nothing s b = false
can_assign (after first second) s b = can_assign first s b || can_assign second s b
can_assign (assign pieces place blocking right) s b = list_any (has_bit s b) pieces
can_assign (branch place condition first second) s b = can_assign first s b || can_assign second s b

-- every path through the statement assigns this bit of this signal
abbrev pub always_assigns : FlatStatement → (signal bit : ℕ) → Bool
always_assigns nothing s b = false
always_assigns (after first second) s b = always_assigns first s b || always_assigns second s b
always_assigns (assign pieces place blocking right) s b = list_any (has_bit s b) pieces
always_assigns (branch place condition first second) s b =
    always_assigns first s b && always_assigns second s b
