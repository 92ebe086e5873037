-- Private: how the code goes. Pieces by their bits.
use Rattle.std.specs.Prelude.{◌≡◌, ◌<◌, ◌≤◌, ℕ, Bool, nat_le, List, map}
use Rattle.std.specs.Prelude.{All, IsTrue}
use Rattle.std.specs.List.{list_any, list_all}
use Rattle.sv_flat.specs.Assigned.{has_bit}
use Rattle.sv_flat.specs.declared.statements.Piece.{Piece}
use Rattle.sv_flat.specs.Design.{PieceForm}
use Rattle.sv_flat.specs.Views.{piece_form}
use Rattle.sv_graph.specs.declared.bit_sets.BitSet.{BitSet as Bits}
use Rattle.sv_graph.specs.BitSets.{in_bits}

-- the plain forms of pieces, in order
abbrev pub piece_forms : List Piece → List PieceForm
piece_forms pieces = map piece_form pieces

-- no piece is empty
abbrev pub none_empty : List PieceForm → Bool
none_empty pieces = list_all (λ (p : PieceForm). nat_le p.low p.high) pieces

-- each piece has bits, all of them in a word
abbrev pub AreOrdered : List PieceForm → Type 0
AreOrdered pieces = All (λ (p : PieceForm). (p.low ≤ p.high) × (p.high < 64)) pieces

-- the set has the bits of these pieces, and no others
abbrev pub HoldsPieces : Bits → List PieceForm → Type 0
HoldsPieces set pieces =
    ((s b : ℕ) → in_bits set s b ≡ list_any (has_bit s b) pieces) × IsTrue (none_empty pieces)
