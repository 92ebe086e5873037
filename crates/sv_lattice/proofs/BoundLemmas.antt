-- Least upper points by rows, and facts of points under two relations.
use Rattle.std.proofs.Common.{◌≡◌, ℕ, zero, suc, ◌<◌, min, ◌↔◌, ◌&&◌, ◌==◌}
use Rattle.std.proofs.Common.{List, length, get_or, refl, sym, ap, ◌∙◌}
use Rattle.std.proofs.Common.{arith}
use Rattle.std.specs.Cmp.{both_ways}
use Rattle.std.specs.Int.{bit_at}
use Rattle.std.specs.Prelude.{bit_and}
use Rattle.std.specs.List.{Contains}
use Rattle.std.proofs.lemmas.Nat.{and_le_l}
use Rattle.std.proofs.lemmas.Nat.Bits.{bit_at_and, bit_at-lt, same_from_bits_below}
use Rattle.std.proofs.lemmas.Bool.{and_parts, and_from}
use Rattle.std.proofs.lemmas.List.{get_or_default}
use Rattle.sv_lattice.specs.Flows.{IsJoin, HasJoin, HasMeet, IsApart, EachPair, IsFirstWithout}
use Rattle.sv_lattice.specs.Tables.{flow_test, FlowsTo, IsWithin, IsPreorder}
use Rattle.sv_lattice.proofs.TableLemmas.{on_bits}

pub and_test : (r s b : ℕ) → (bit_at (bit_and r s) b == 1) ≡ (bit_at r b == 1 && bit_at s b == 1)
and_test r s b =
    ap (λ n. n == 1) (bit_at_and r s b)
    ∙ on_bits min ◌&&◌ refl refl refl refl (bit_at r b) (bit_at s b) (bit_at-lt r b) (bit_at-lt s b)

-- bits with the same tests are the same
pub same_bit : (x y : ℕ) → x < 2 → y < 2 → (x == 1) ≡ (y == 1) → x ≡ y
same_bit zero zero p q e = refl
same_bit zero (suc zero) p q e = cc
same_bit (suc zero) zero p q e = cc
same_bit (suc zero) (suc zero) p q e = refl
same_bit (suc (suc x)) y p q e = absurd (omega arith)
same_bit zero (suc (suc y)) p q e = absurd (omega arith)
same_bit (suc zero) (suc (suc y)) p q e = absurd (omega arith)

module _ (table : List ℕ) (within : IsWithin (length table) table)
    (order : IsPreorder (length table) (FlowsTo table)) (a b : ℕ) (a_in : a < length table)
    (b_in : b < length table) where
  -- the points that both flow to
  abbrev pub uppers : ℕ
  uppers = bit_and (get_or table a 0) (get_or table b 0)

  join_row : (c : ℕ) → IsJoin (length table) (FlowsTo table) a b c → get_or table c 0 ≡ uppers
  join_row c join =
      same_from_bits_below (length table) (get_or table c 0) uppers (within c join.is_point)
      (omega (arith, and_le_l (get_or table a 0) (get_or table b 0), within a a_in))
      (λ d p.
      same_bit (bit_at (get_or table c 0) d) (bit_at uppers d) (bit_at-lt (get_or table c 0) d)
      (bit_at-lt uppers d)
      (both_ways (flow_test table c d) (bit_at uppers d == 1)
      (λ h. and_test (get_or table a 0) (get_or table b 0) d ∙
      and_from (flow_test table a d) (flow_test table b d)
      (order.transitive a c d a_in join.is_point p join.above_first h)
      (order.transitive b c d b_in join.is_point p join.above_second h))
      (λ h.
      let parts : FlowsTo table a d × FlowsTo table b d =
      and_parts (flow_test table a d) (flow_test table b d)
      (sym (and_test (get_or table a 0) (get_or table b 0) d) ∙ h) in
      join.least d p parts.0 parts.1)))

  pub contained : HasJoin (length table) (FlowsTo table) a b → Contains table uppers
  contained (c, join) =
      (c, join.is_point, get_or_default table c uppers 0 join.is_point ∙ join_row c join)

  row_join : (c : ℕ) → c < length table → get_or table c 0 ≡ uppers →
      IsJoin (length table) (FlowsTo table) a b c
  row_join c p e =
      let both : (d : ℕ) → flow_test table c d ≡ (flow_test table a d && flow_test table b d) =
      λ d. ap (λ r. bit_at r d == 1) e ∙ and_test (get_or table a 0) (get_or table b 0) d in
      let own : FlowsTo table a c × FlowsTo table b c =
      and_parts (flow_test table a c) (flow_test table b c) (sym (both c)
      ∙ order.reflexive c p) in
      record {
        is_point = p;
        above_first = own.0;
        above_second = own.1;
        least = λ d q f g. both d ∙ and_from (flow_test table a d) (flow_test table b d) f g;
      }

  pub joined : Contains table uppers → HasJoin (length table) (FlowsTo table) a b
  joined (c, p, e) = (c, row_join c p (get_or_default table c 0 uppers p ∙ e))

-- ---- the same relation under two names

abbrev pub SameBelow : ℕ → (ℕ → ℕ → Type 0) → (ℕ → ℕ → Type 0) → Type 0
SameBelow n R S = EachPair n (λ a b. R a b ↔ S a b)

abbrev pub turned_round : {n : ℕ} {R S : ℕ → ℕ → Type 0} → SameBelow n R S → SameBelow n S R
turned_round same = λ a b p q. ((same a b p q).1, (same a b p q).0)

module _ (n : ℕ) (R S : ℕ → ℕ → Type 0) (same : SameBelow n R S) where
  pub apart_along : (a b : ℕ) → a < n → b < n → IsApart R a b → IsApart S a b
  apart_along a b p q apart f g = apart ((same a b p q).1 f) ((same b a q p).1 g)

  pub join_along : (a b : ℕ) → a < n → b < n → HasJoin n R a b → HasJoin n S a b
  join_along a b p q (c, join) = (
    c,
    record {
      is_point = join.is_point;
      above_first = (same a c p join.is_point).0 join.above_first;
      above_second = (same b c q join.is_point).0 join.above_second;
      least =
          λ d r f g. (same c d join.is_point r).0
          (join.least d r ((same a d p r).1 f) ((same b d q r).1 g));
    },
  )

  pub meet_along : (a b : ℕ) → a < n → b < n → HasMeet n R a b → HasMeet n S a b
  meet_along a b p q (c, meet) = (
    c,
    record {
      is_point = meet.is_point;
      below_first = (same c a meet.is_point p).0 meet.below_first;
      below_second = (same c b meet.is_point q).0 meet.below_second;
      greatest =
          λ d r f g. (same d c r meet.is_point).0
          (meet.greatest d r ((same d a r p).1 f) ((same d b r q).1 g));
    },
  )

module _ (n : ℕ) (R : ℕ → ℕ → Type 0) where
  -- a least upper point is a greatest lower one of the relation the other way round
  pub turned_join : (a b : ℕ) → HasJoin n (λ x y. R y x) a b → HasMeet n R a b
  turned_join a b (c, join) = (
    c,
    record {
      is_point = join.is_point;
      below_first = join.above_first;
      below_second = join.above_second;
      greatest = join.least;
    },
  )

  pub turned_meet : (a b : ℕ) → HasMeet n R a b → HasJoin n (λ x y. R y x) a b
  turned_meet a b (c, meet) = (
    c,
    record {
      is_point = meet.is_point;
      above_first = meet.below_first;
      above_second = meet.below_second;
      least = meet.greatest;
    },
  )

-- the first pair, where the two facts say the same of points
pub first_along : (n : ℕ) (P Q : ℕ → ℕ → Type 0) (a b : ℕ) → SameBelow n P Q →
    IsFirstWithout n P a b → IsFirstWithout n Q a b
first_along n P Q a b same first = record {
  first_is_point = first.first_is_point;
  second_is_point = first.second_is_point;
  fails = λ h. first.fails ((same a b first.first_is_point first.second_is_point).1 h);
  before = λ c d p q r. (same c d p q).0 (first.before c d p q r);
}

pub each_along : (n : ℕ) (P Q : ℕ → ℕ → Type 0) → SameBelow n P Q → EachPair n P → EachPair n Q
each_along n P Q same each a b p q = (same a b p q).0 (each a b p q)
