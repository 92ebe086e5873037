-- The point that flows to every point is the first whose row has all points.
use Rattle.std.proofs.Common.{◌≡◌, ℕ, zero, suc, ◌+◌, ◌-◌, ◌^◌, ◌<◌, Bool, true, false, cond}
use Rattle.std.proofs.Common.{◌==◌, List, [], ◌∷◌, length, get_or, position, Some}
use Rattle.std.proofs.Common.{sym, ap, ◌∙◌, arith}
use Rattle.std.specs.Prelude.{unwrap_or}
use Rattle.std.specs.Int.{bit_at}
use Rattle.std.specs.List.{position_from}
use Rattle.std.proofs.lemmas.Bool.{eqb-true, eq-eqb, ne_eqb}
use Rattle.std.proofs.lemmas.Iterator.Adapters.{position_from-zero}
use Rattle.std.proofs.lemmas.Nat.{pow_pos}
use Rattle.std.proofs.lemmas.Nat.Bits.{bit_at_ones, same_from_bits_below}
use Rattle.sv_lattice.specs.Tables.{FlowsTo, IsLatticeTable}
use Rattle.sv_elab_rules.specs.Lattices.{least_point}

first_at : {X : Type 0} (p : X → Bool) (xs : List X) (d : X) (k i : ℕ) → i < length xs
    → p (get_or xs i d) ≡ true
    → ((j : ℕ) → j < i → p (get_or xs j d) ≡ false) → position_from p k xs ≡ Some (k + i)
first_at p [] d k i h is before = absurd (omega arith)
first_at p (x ∷ xs) d k zero h is before =
    let e : k ≡ k + 0 = omega arith in
    ap (λ b. cond b (Some k) (position_from p (k + 1) xs)) is ∙ ap (λ n. Some n) e
first_at p (x ∷ xs) d k (suc i) h is before =
    let e : k + 1 + i ≡ k + suc i = omega arith in
    ap (λ b. cond b (Some k) (position_from p (k + 1) xs)) (before 0 (omega arith))
    ∙ first_at p xs d (k + 1) i (omega arith) is (λ j q. before (suc j) (omega arith))
    ∙ ap (λ n. Some n) e

module _ (table : List ℕ) (is : IsLatticeTable table) (p : ℕ) (within : p < length table)
    (least : (b : ℕ) → b < length table → FlowsTo table p b) where
  row_is : get_or table p 0 ≡ 2 ^ length table - 1
  row_is =
      same_from_bits_below (length table) (get_or table p 0) (2 ^ length table - 1)
      (is.within p within) (omega (arith, pow_pos (length table)))
      (λ i q. eqb-true (bit_at (get_or table p 0) i) 1 (least i q)
      ∙ sym (bit_at_ones (length table) i q))

  other_row : (k : ℕ) → k < p → (get_or table k 0 == 2 ^ length table - 1) ≡ false
  other_row k q = ne_eqb (get_or table k 0) (2 ^ length table - 1) (λ e.
      let here : k < length table = omega arith in
      let bit : bit_at (get_or table k 0) p ≡ 1 =
      ap (λ r. bit_at r p) e ∙ bit_at_ones (length table) p within in
      let flows : FlowsTo table k p = eq-eqb (bit_at (get_or table k 0) p) 1 bit in
      let same : k ≡ p = is.lattice.apart k p here within flows (least k here) in
      omega arith)

  pub least_is : p ≡ least_point table
  least_is =
      let zeroed : 0 + p ≡ p = omega arith in
      let at : position (λ row. row == 2 ^ length table - 1) table ≡ Some p =
      position_from-zero (λ row. row == 2 ^ length table - 1) table
      ∙ first_at (λ row. row == 2 ^ length table - 1) table 0 0 p within
      (eq-eqb (get_or table p 0) (2 ^ length table - 1) row_is) other_row
      ∙ ap (λ n. Some n) zeroed in
      sym (ap (λ o. unwrap_or o 0) at)
