-- Bits of pieces, and bits around a statement.
use Rattle.std.proofs.Common.{◌≡◌, ℕ, suc, ◌+◌, ◌<◌, ◌≤◌, Bool, true, false, ◌&&◌, ◌||◌, ◌==◌}
use Rattle.std.proofs.Common.{nat_le, List, ◌∷◌, length, get_or, drop, refl, ap, subst, ◌∙◌, arith}
use Rattle.std.proofs.Common.{rules, Bor}
use Rattle.std.specs.List.{list_any}
use Rattle.sv_flat.specs.declared.statements.Piece.{Piece}
use Rattle.sv_flat.specs.Assigned.{has_bit}
use Rattle.sv_flat.specs.Design.{PieceForm}
use Rattle.sv_flat.specs.Views.{piece_form}
use Rattle.sv_graph.specs.declared.bit_sets.BitSet.{BitSet}
use Rattle.sv_rules.specs.declared.surroundings.Surrounding.{Surrounding, Inside, the_lemmas}
use Rattle.sv_graph.specs.BitSets.{in_bits}
use Rattle.sv_rules.specs.Pieces.{piece_forms, AreOrdered}
use Rattle.sv_rules.specs.Surroundings.{in_surrounding}
use Rattle.sv_rules.proofs.Sound.{piece_at}

pub in_surrounding-inside : (bits : Bor BitSet) (around : Bor Surrounding) →
    in_surrounding (Inside bits around) ≡ (λ s b. in_bits bits.now s b || in_surrounding around.now s b)
in_surrounding-inside bits around = search (rules, the_lemmas)

module _ (pieces : List Piece) (i : ℕ) (d : Piece) (inside : i < length pieces)
    (ordered : AreOrdered (piece_forms (drop i pieces))) where
  ordered_at : AreOrdered (piece_form (get_or pieces i d) ∷ piece_forms (drop (i + 1) pieces))
  ordered_at = subst AreOrdered (piece_at pieces i d inside) ordered

  pub ordered_first : ((get_or pieces i d).low ≤ (get_or pieces i d).high)
      × ((get_or pieces i d).high < 64)
  ordered_first = ordered_at 0 (piece_form d) (omega arith)

  pub ordered_rest : AreOrdered (piece_forms (drop (i + 1) pieces))
  ordered_rest = λ k e h. ordered_at (suc k) e (omega arith)

one_piece : (old same low high rest : Bool) →
    ((old || (same && (low && high))) || rest) ≡ (old || (((same && low) && high) || rest))
one_piece true same low high rest = refl
one_piece false true true high rest = refl
one_piece false true false high rest = refl
one_piece false false low high rest = refl

-- one piece more
pub piece_added : (p : PieceForm) (ps : List PieceForm) (s b : ℕ) (mask : Bool) (old new all : Bool)
    → new ≡ (old || ((p.signal == s) && mask))
    → mask ≡ (nat_le p.low b && nat_le b p.high)
    → (old || list_any (has_bit s b) (p ∷ ps)) ≡ all → (new || list_any (has_bit s b) ps) ≡ all
piece_added p ps s b mask old new all gains is before =
    ap (λ t. t || list_any (has_bit s b) ps) (gains ∙ ap (λ t. old || ((p.signal == s) && t)) is)
    ∙ one_piece old (p.signal == s) (nat_le p.low b) (nat_le b p.high) (list_any (has_bit s b) ps)
    ∙ before
