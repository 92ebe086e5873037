-- Pieces that a set of bits holds.
use Rattle.std.proofs.Common.{◌≡◌, ◌⊎◌, inl, inr, ℕ, ◌-◌, ◌≤◌, Bool}
use Rattle.std.proofs.Common.{true, false, ◌&&◌, ◌||◌, ◌==◌, nat_le, ⊎_elim, refl, sym, ap}
use Rattle.std.proofs.Common.{◌∙◌, List, ◌∷◌, arith, leb-true}
use Rattle.std.specs.Prelude.{IsTrue, ◌↔◌}
use Rattle.std.proofs.lemmas.Bool.{eqb-true, eq-eqb, le-leb, and_from}
use Rattle.sv_flat.proofs.LeastSets.{some_from, from_some}
use Rattle.sv_flat.proofs.Depths.{first_of, second_of, from_all}
use Rattle.std.specs.List.{list_any}
use Rattle.sv_flat.specs.Design.{PieceForm}
use Rattle.sv_flat.specs.Assigned.{has_bit}
use Rattle.sv_flat.specs.Assignments.{overlap}
use Rattle.sv_graph.specs.declared.bit_sets.BitSet.{BitSet}
use Rattle.sv_graph.specs.BitSets.{mask_in, is_set, in_bits, SharesBit}
use Rattle.sv_rules.specs.Pieces.{HoldsPieces, none_empty}
use Rattle.sv_graph.proofs.BitFacts.{le_or, same_answer}

highest : (a b : ℕ) → (k : ℕ) × (a ≤ k) × (b ≤ k) × ((k ≡ a) ⊎ (k ≡ b))
highest a b =
    ⊎_elim (λ h. (b, h, omega arith, inr refl)) (λ h.
    (a, omega arith, omega arith, inl refl)) (le_or a b)

module _ (set : BitSet) (piece : PieceForm) (passed : List PieceForm) (mask : ℕ)
    (bits : (b : ℕ) → is_set mask b ≡ (nat_le piece.low b && nat_le b piece.high))
    (ordered : piece.low ≤ piece.high) (holds : HoldsPieces set passed) where
  overlaps : SharesBit (mask_in set piece.signal) mask → IsTrue (list_any (overlap piece) passed)
  overlaps (k, p, q) =
      let found = from_some (has_bit piece.signal k) passed (sym (holds.0 piece.signal k) ∙ p) in
      let other = found.0 in
      let own = sym (bits k) ∙ q in
      let here = first_of ((other.signal == piece.signal) && nat_le other.low k)
      (nat_le k other.high) found.2 in
      let low = leb-true other.low k
      (second_of (other.signal == piece.signal) (nat_le other.low k) here) in
      let high = leb-true k other.high
      (second_of ((other.signal == piece.signal) && nat_le other.low k) (nat_le k other.high)
      found.2) in
      let own_low = leb-true piece.low k
      (first_of (nat_le piece.low k) (nat_le k piece.high) own) in
      let own_high = leb-true k piece.high
      (second_of (nat_le piece.low k) (nat_le k piece.high) own) in
      let same = eqb-true other.signal piece.signal
      (first_of (other.signal == piece.signal) (nat_le other.low k) here) in
      some_from (overlap piece) passed other found.1
      (and_from ((piece.signal == other.signal) && nat_le piece.low other.high)
      (nat_le other.low piece.high)
      (and_from (piece.signal == other.signal) (nat_le piece.low other.high)
      (eq-eqb piece.signal other.signal (sym same))
      (le-leb piece.low other.high (omega arith)))
      (le-leb other.low piece.high (omega arith)))

  shares : IsTrue (list_any (overlap piece) passed) → SharesBit (mask_in set piece.signal) mask
  shares h =
      let found = from_some (overlap piece) passed h in
      let other = found.0 in
      let front = first_of ((piece.signal == other.signal) && nat_le piece.low other.high)
      (nat_le other.low piece.high) found.2 in
      let one = leb-true piece.low other.high
      (second_of (piece.signal == other.signal) (nat_le piece.low other.high) front) in
      let two = leb-true other.low piece.high
      (second_of ((piece.signal == other.signal) && nat_le piece.low other.high)
      (nat_le other.low piece.high) found.2) in
      let same = eqb-true piece.signal other.signal
      (first_of (piece.signal == other.signal) (nat_le piece.low other.high) front) in
      let three = leb-true other.low other.high (from_all (λ (p : PieceForm).
      nat_le p.low p.high) passed other holds.1 found.1) in
      let top = highest piece.low other.low in
      let k = top.0 in
      let above_own = top.1 in
      let above_other = top.2 in
      let is_one = top.3 in
      let below_own : k ≤ piece.high = ⊎_elim (λ e. omega arith) (λ e. omega arith) is_one in
      let below_other : k ≤ other.high = ⊎_elim (λ e. omega arith) (λ e. omega arith) is_one in (
        k,
        holds.0 piece.signal k ∙ some_from (has_bit piece.signal k) passed other found.1
            (and_from ((other.signal == piece.signal) && nat_le other.low k) (nat_le k other.high)
            (and_from (other.signal == piece.signal) (nat_le other.low k)
            (eq-eqb other.signal piece.signal (sym same)) (le-leb other.low k above_other))
            (le-leb k other.high below_other)),
        bits k ∙ and_from (nat_le piece.low k) (nat_le k piece.high) (le-leb piece.low k above_own)
            (le-leb k piece.high below_own),
      )

  pub again_is : (answer : Bool) → IsTrue answer ↔ SharesBit (mask_in set piece.signal) mask →
      answer ≡ list_any (overlap piece) passed
  again_is answer is =
      same_answer answer (list_any (overlap piece) passed) (λ a. overlaps (is.0 a)) (λ b.
      is.1 (shares b))

-- one piece more
or_turned : (a b c d e : Bool) → (a || (b && (c && d))) ≡ ((b && c && d) || a)
or_turned true true true true e = refl
or_turned true true true false e = refl
or_turned true true false d e = refl
or_turned true false c d e = refl
or_turned false true true true e = refl
or_turned false true true false e = refl
or_turned false true false d e = refl
or_turned false false c d e = refl

pub holds_more : (old new : BitSet) (piece : PieceForm) (passed : List PieceForm) (mask : ℕ)
    → ((b : ℕ) → is_set mask b ≡ (nat_le piece.low b && nat_le b piece.high))
    → IsTrue (nat_le piece.low piece.high) → HoldsPieces old passed
    → ((s b : ℕ) → in_bits new s b ≡ (in_bits old s b || ((piece.signal == s) && is_set mask b)))
    → HoldsPieces new (piece ∷ passed)
holds_more old new piece passed mask bits ordered holds gains = (
  λ s b. gains s b
      ∙ ap (λ t. in_bits old s b || ((piece.signal == s) && t)) (bits b)
      ∙ or_turned (in_bits old s b) (piece.signal == s) (nat_le piece.low b)
      (nat_le b piece.high) true
      ∙ ap (λ t. ((piece.signal == s) && nat_le piece.low b && nat_le b piece.high) || t)
      (holds.0 s b),
  and_from (nat_le piece.low piece.high) (none_empty passed) ordered holds.1,
)
