-- The table of a lattice says which point flows to which.
use Rattle.std.proofs.Common.{◌≡◌, ℕ, suc, ◌<◌, ◌^◌, ◌==◌, List, [], ◌∷◌, ◌++◌, map, get_or, sym}
use Rattle.std.proofs.Common.{ap, subst, ◌∙◌, arith}
use Rattle.std.specs.List.{All}
use Rattle.std.specs.Int.{bit_at}
use Rattle.std.proofs.lemmas.List.{get_or-map, length-map, append_assoc, append-nil}
use Rattle.std.proofs.lemmas.List.FromFn.{get_or-map-range_with_len, length-map-range_with_len}
use Rattle.sv_lattice.specs.Flows.{IsKnown}
use Rattle.sv_lattice.specs.Tables.{IsTableOf}
use Rattle.sv_lattice.proofs.TableLemmas.{alone_table, added_table, gains, gains_lt, gains_test}
use Rattle.sv_elab_rules.specs.CaseChains.{numbers_below}
use Rattle.sv_elab_rules.specs.Lattices.{with_pair, with_pairs, table_of}

-- one pair more
pair_table : (n : ℕ) (pairs : List (ℕ × ℕ)) (table : List ℕ) (x y : ℕ) → x < n → y < n
    → IsTableOf n pairs table
    → IsTableOf n (pairs ++ (x, y) ∷ []) (with_pair table (x, y))
pair_table n pairs table x y x_in y_in t =
    added_table n pairs x y table x_in y_in t (with_pair table (x, y))
    (length-map table (gains (get_or table y 0) x) ∙ t.size)
    (λ k h. subst (λ r. r < 2 ^ n) (sym (row k h))
    (gains_lt n (get_or table y 0) x (get_or table k 0) (t.within k h) (t.within y y_in)))
    (λ a b h k. ap (λ r. bit_at r b == 1) (row a h)
    ∙ gains_test (get_or table y 0) x (get_or table a 0) b)
  where
    row : (k : ℕ) → k < n →
        get_or (with_pair table (x, y)) k 0 ≡ gains (get_or table y 0) x (get_or table k 0)
    row k h =
        get_or-map (gains (get_or table y 0) x) table k 0 0 (subst (λ m. k < m) (sym t.size) h)

-- some pairs more
pairs_table : (n : ℕ) (pairs before : List (ℕ × ℕ)) (table : List ℕ) → All (IsKnown n) pairs
    → IsTableOf n before table
    → IsTableOf n (before ++ pairs) (with_pairs table pairs)
pairs_table n [] before table known t =
    subst (λ ps. IsTableOf n ps table) (sym (append-nil before)) t
pairs_table n ((x, y) ∷ pairs) before table known t =
    let here : IsKnown n (x, y) = known 0 (x, y) (omega arith) in
    subst (λ ps. IsTableOf n ps (with_pairs (with_pair table (x, y)) pairs))
    (append_assoc before ((x, y) ∷ []) pairs)
    (pairs_table n pairs (before ++ (x, y) ∷ []) (with_pair table (x, y)) (λ k d h.
    known (suc k) d (omega (arith, h)))
    (pair_table n before table x y here.0 here.1 t))

-- each point flows where a list of points leads by the pairs, and nowhere else
pub table_is_exact : (n : ℕ) (pairs : List (ℕ × ℕ)) → All (IsKnown n) pairs →
    IsTableOf n pairs (table_of n pairs)
table_is_exact n pairs known =
    pairs_table n pairs [] (map (λ a. 2 ^ a) (numbers_below n)) known
    (alone_table n (map (λ a. 2 ^ a) (numbers_below n)) (length-map-range_with_len (λ a. 2 ^ a) 0 n)
    (λ k h. get_or-map-range_with_len (λ a. 2 ^ a) 0 n k k 0 h (omega arith)))
