-- Tests of how deep an expression nests, by those of its parts.
use Rattle.std.proofs.Common.{◌≡◌, ℕ, ◌+◌, ◌-◌, ◌<◌, ◌≤◌, max, Bool, true, false, ◌&&◌, nat_le}
use Rattle.std.proofs.Common.{refl, sym, arith}
use Rattle.std.proofs.lemmas.Bool.{leb-true, leb-false, le-leb, lt-leb}
use Rattle.std.proofs.Math.Nat.{le-max_left, le-max_right, max-le}

-- two are within a bound where both are
pub both_within : (a b m : ℕ) → nat_le (max a b) m ≡ (nat_le a m && nat_le b m)
both_within a b m = by_tests (nat_le a m) (nat_le b m) refl refl
  where
    by_tests : (x y : Bool) → nat_le a m ≡ x → nat_le b m ≡ y → nat_le (max a b) m ≡ (x && y)
    by_tests true true p q =
        le-leb (max a b) m (max-le (leb-true a m p) (leb-true b m q))
    by_tests true false p q =
        lt-leb (max a b) m (omega (arith, leb-false b m q, le-max_right a b))
    by_tests false y p q =
        lt-leb (max a b) m (omega (arith, leb-false a m p, le-max_left a b))

-- one level more
pub deeper : (k m : ℕ) → 0 < m → nat_le k (m - 1) ≡ nat_le (1 + k) m
deeper k m some = by_test (nat_le k (m - 1)) refl
  where
    by_test : (x : Bool) → nat_le k (m - 1) ≡ x → x ≡ nat_le (1 + k) m
    by_test true p = sym (le-leb (1 + k) m (omega (arith, leb-true k (m - 1) p, some)))
    by_test false p = sym (lt-leb (1 + k) m (omega (arith, leb-false k (m - 1) p, some)))

pub none_within : (k m : ℕ) → m ≤ 0 → false ≡ nat_le (1 + k) m
none_within k m none = sym (lt-leb (1 + k) m (omega arith))
