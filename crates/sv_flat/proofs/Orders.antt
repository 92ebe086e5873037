-- A circle of reads leaves no order of reads, and the order by depth lists the combinational
-- signals.
use Rattle.std.proofs.Common.{ℕ, zero, suc, ◌+◌, ◌<◌, ◌≤◌, Bool, true, false, ◌&&◌, ◌==◌, List, []}
use Rattle.std.proofs.Common.{◌∷◌, length, ⊎_elim, refl, subst, arith, lt_trans}
use Rattle.std.proofs.Common.{eq-or-lt_of_le}
use Rattle.std.specs.Prelude.{Contains, IsTrue, nat_lt}
use Rattle.std.specs.List.{list_all, range_with_len}
use Rattle.std.proofs.lemmas.Bool.{eq-eqb}
use Rattle.sv_system.proofs.Lists.{Contains-head, Contains-later}
use Rattle.sv_flat.specs.Design.{FlatDesign}
use Rattle.sv_flat.specs.Processes.{signals_that}
use Rattle.sv_flat.specs.Reads.{is_combinational, is_read_for, depth, order}
use Rattle.sv_flat.specs.Loops.{reads_along, all_differ, is_circle, HasReadOrder}
use Rattle.sv_flat.proofs.Members.{from_flat_map, to_flat_map}
use Rattle.sv_flat.proofs.LeastSets.{in_those, those_pass}
use Rattle.sv_flat.proofs.Depths.{first_of, second_of, is_below, reads_are_lower, depth_above_reads}
use Rattle.sv_flat.proofs.Depths.{depth_at_most}

-- ---- the order by depth

both : (a b : Bool) → IsTrue a → IsTrue b → IsTrue (a && b)
both true b h k = k
both false b h k = h

numbers_have : (a n k : ℕ) → a ≤ k → k < a + n → Contains (range_with_len a n) k
numbers_have a zero k low high = absurd (omega arith)
numbers_have a (suc n) k low high = ⊎_elim
    (λ e. subst (Contains (range_with_len a (suc n))) e
    (Contains-head a (range_with_len (a + 1) n)))
    (λ more. Contains-later a (range_with_len (a + 1) n) k
    (numbers_have (a + 1) n k (omega arith) (omega arith)))
    (eq-or-lt_of_le low)

module _ (design : FlatDesign) (ordered : HasReadOrder design) where
  -- along reads the depth falls
  falls : (a : ℕ) (signals : List ℕ) (z : ℕ) → IsTrue (is_combinational design a)
      → IsTrue (list_all (is_combinational design) signals)
      → IsTrue (is_combinational design z) → IsTrue (reads_along design a signals z)
      → depth design z < depth design a
  falls a [] z a_is rest z_is reads =
      reads_are_lower design ordered a z a_is (is_below design z z_is) reads
  falls a (b ∷ signals) z a_is rest z_is reads =
      let b_is = first_of (is_combinational design b)
      (list_all (is_combinational design) signals) rest in
      lt_trans
      (falls b signals z b_is
      (second_of (is_combinational design b) (list_all (is_combinational design) signals)
      rest) z_is
      (second_of (is_read_for design a b) (reads_along design b signals z) reads))
      (reads_are_lower design ordered a b a_is (is_below design b b_is)
      (first_of (is_read_for design a b) (reads_along design b signals z) reads))

  circle_falls : (a : ℕ) (signals : List ℕ) → IsTrue (is_circle design (a ∷ signals)) →
      depth design a < depth design a
  circle_falls a signals circle =
      let reads = reads_along design a signals a in
      let all = list_all (is_combinational design) (a ∷ signals) in
      let above = list_all (nat_lt a) signals in
      let both = first_of (reads && all) above
      (first_of (reads && all && above) (all_differ signals) circle) in
      let all_are = second_of reads all both in
      let a_is = first_of (is_combinational design a) (list_all (is_combinational design) signals)
      all_are in
      falls a signals a a_is
      (second_of (is_combinational design a) (list_all (is_combinational design) signals)
      all_are) a_is
      (first_of reads all both)

  -- no signals read each other in a circle where there is an order
  pub no_circle : (a : ℕ) (signals : List ℕ) → IsTrue (is_circle design (a ∷ signals)) → ⊥
  no_circle a signals circle = let lower = circle_falls a signals circle in omega arith

  -- the order lists every combinational signal
  pub order_has : (s : ℕ) → IsTrue (is_combinational design s) → Contains (order design) s
  order_has s comb =
      let above = depth_above_reads design ordered s comb in
      let most = depth_at_most design s in
      to_flat_map (λ d. signals_that design (λ z.
      is_combinational design z && (depth design z == d)))
      (range_with_len 1 (length design.signals)) (depth design s) s
      (numbers_have 1 (length design.signals) (depth design s) (omega arith) (omega arith))
      (in_those (length design.signals) (λ z.
      is_combinational design z && (depth design z == depth design s)) s
      (is_below design s comb)
      (both (is_combinational design s) (depth design s == depth design s) comb
      (eq-eqb (depth design s) (depth design s) refl)))

  -- and nothing else
  pub order_only : (s : ℕ) → Contains (order design) s → IsTrue (is_combinational design s)
  order_only s at =
      let found = from_flat_map (λ d.
      signals_that design (λ z. is_combinational design z && (depth design z == d)))
      (range_with_len 1 (length design.signals)) s at in
      first_of (is_combinational design s) (depth design s == found.0)
      (those_pass (length design.signals) (λ z.
      is_combinational design z && (depth design z == found.0)) s found.2)
