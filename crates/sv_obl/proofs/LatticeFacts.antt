-- Flows of a lattice's table follow one another, for any numbers.
use Rattle.std.proofs.Common.{ℕ, ◌%◌, ◌<◌, ◌==◌, List, length, ⊎_elim, sym, ap, ◌∙◌, lt_of_lt_of_le}
use Rattle.std.proofs.Common.{pow_mono}
use Rattle.std.specs.Prelude.{IsTrue}
use Rattle.std.specs.Int.{bit_at}
use Rattle.std.proofs.Math.Nat.{div-eq_of_lt}
use Rattle.std.proofs.lemmas.Bool.{false≢true, cases_lt}
use Rattle.std.proofs.lemmas.List.{get_or_past}
use Rattle.std.proofs.lemmas.Nat.Bits.{bit_at-zero}
use Rattle.sv_lattice.specs.Tables.{flow_test, IsLatticeTable}

module _ (table : List ℕ) (is : IsLatticeTable table) where
  abbrev n : ℕ
  n = length table

  -- what flows is a point
  from_is_point : (a b : ℕ) → IsTrue (flow_test table a b) → a < n
  from_is_point a b h = ⊎_elim
      (λ inside. inside)
      (λ past.
      absurd (false≢true (ap (λ v.
      v == 1) (sym (ap (λ row. bit_at row b) (get_or_past table a 0 past) ∙ bit_at-zero b))
      ∙ h)))
      (cases_lt a n)

  -- and so is where it flows to
  to_is_point : (a b : ℕ) → a < n → IsTrue (flow_test table a b) → b < n
  to_is_point a b inside h = ⊎_elim
      (λ point. point)
      (λ past.
      let low = lt_of_lt_of_le (is.within a inside) (pow_mono past) in
      absurd (false≢true (ap (λ v. v % 2 == 1) (sym (div-eq_of_lt low)) ∙ h)))
      (cases_lt b n)

  pub flows_on : (a b c : ℕ) → IsTrue (flow_test table a b) → IsTrue (flow_test table b c) →
      IsTrue (flow_test table a c)
  flows_on a b c first second =
      let a_in = from_is_point a b first in
      let b_in = from_is_point b c second in
      is.preorder.transitive a b c a_in b_in (to_is_point b c b_in second) first second
