-- Private: how the code goes. What is put into an expression, and what stands for a name then.
use Rattle.std.specs.Prelude.{ℕ, ◌-◌, ◌≤◌, ◌<◌, ◌==◌, ◌&&◌, nat_le, Bool, true, false, List, []}
use Rattle.std.specs.Prelude.{Option, Some, None, All}
use Rattle.std.specs.List.{list_any}
use Rattle.sv_num.specs.declared.faults.Place.{Place}
use Rattle.sv_flat.specs.Design.{SignalForm, PieceForm, TypedTree, typed, constant, FlatStatement}
use Rattle.sv_flat.specs.Design.{nothing, after, assign, branch}
use Rattle.sv_flat.specs.Readings.{ReadForm}
use Rattle.sv_flat.specs.Values.{signal_of, signal_width}
use Rattle.sv_flat.specs.Views.{typed_tree}
use Rattle.sv_paths.specs.declared.exchange.Content.{Content}
use Rattle.sv_paths.specs.declared.exchange.Put.{Put}
use Rattle.sv_paths.specs.declared.exchange.Put.TheVariants.{Pieces, Zero}
use Rattle.sv_obl.specs.Exchange.{Instead, name, content}
use Rattle.sv_obl.specs.Routes.{names_in}
use Rattle.sv_obl.specs.Views.{piece_forms}
use Rattle.sv_obl.specs.Wanted.{pieces_put, put_value, close}

-- what stands for each name
abbrev pub put_for : List SignalForm → Put → ReadForm → Instead
put_for signals (Pieces pieces right) =
    pieces_put signals (piece_forms pieces.now) (typed_tree right.now)
put_for signals Zero = close signals false

-- something is put for the name of a signal
abbrev pub is_put_for : Put → (signal : ℕ) → Bool
is_put_for (Pieces pieces right) s =
    list_any (λ (piece : PieceForm). piece.signal == s) (piece_forms pieces.now)
is_put_for Zero s = true

-- something is put for a name, where there are so many signals
abbrev pub is_put_at : (count : ℕ) → Put → (name : ℕ) → Bool
is_put_at count put t = nat_le count t && is_put_for put (t - count)

-- something is put for some name in the expression
abbrev pub names_put : (count : ℕ) → Put → TypedTree → Bool
names_put count put e = list_any (is_put_at count put) (names_in [] e)

-- what is put for the wanted name of a signal
abbrev pub value_put : List SignalForm → Put → (signal : ℕ) → Place → TypedTree
value_put signals (Pieces pieces right) s place =
    put_value signals (piece_forms pieces.now) (typed_tree right.now) s place
value_put signals Zero s place =
    typed (signal_width signals s) (signal_of signals s).signed (constant 0)

-- what was found for a name
abbrev pub found_for : (name : ℕ) → Option Content → Instead
found_for t None = name t
found_for t (Some found) = content found.signal.0 (typed_tree found.value.value)

-- pieces have some bits, all of them in a word, and take bits of a word
abbrev pub AreInWords : List PieceForm → Type 0
AreInWords pieces =
    All (λ (p : PieceForm). (p.low ≤ p.high) × (p.high < 64) × (p.from < 64)) pieces

-- the pieces of each assignment have bits of a word
abbrev pub HasWords : FlatStatement → Type 0
HasWords nothing = Unit {0}
HasWords (after first second) = HasWords first × HasWords second
HasWords (assign pieces place blocking right) = AreInWords pieces
HasWords (branch place condition first second) = HasWords first × HasWords second

abbrev pub CanBePut : Put → Type 0
CanBePut (Pieces pieces right) = AreInWords (piece_forms pieces.now)
CanBePut Zero = Unit {0}
