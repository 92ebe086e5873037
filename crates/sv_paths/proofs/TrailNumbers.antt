-- Counts up to the limit on nodes, and places, of assignments that are taken.
use Rattle.std.proofs.Common.{◌≡◌, ℕ, ◌+◌, ◌*◌, ◌<◌, ◌≤◌, Bool, true, false, cond}
use Rattle.std.proofs.Common.{◌-◌, nat_cmp}
use Rattle.std.proofs.Common.{min, nat_lt, List, [], ◌∷◌, length}
use Rattle.std.proofs.Common.{Option, Some, None, is_none, option_map, slice_get, refl, sym, ap}
use Rattle.std.proofs.Common.{◌∙◌, ⊎_elim, arith, le-ltb}
use Rattle.std.specs.BTreeSet.{insert_key}
use Rattle.std.proofs.lemmas.Bool.{false≢true, cases_lt}
use Rattle.std.proofs.lemmas.Nat.{mul-le}
use Rattle.sv_num.specs.declared.faults.Place.{Place}
use Rattle.sv_flat.specs.Design.{TypedTree, typed, PieceForm}
use Rattle.sv_obl.specs.Nodes.{nodes_in, nodes_under}
use Rattle.sv_obl.specs.Paths.{pieces_of}
use Rattle.sv_obl.specs.Paths.{later_place}
use Rattle.sv_obl.specs.Routes.{first_place}
use Rattle.sv_paths.specs.Trails.{NamesForm}
use Rattle.sv_paths.specs.Trails.{with_wanted, with_name}

-- ---- numbers

over : (u m : ℕ) → 65537 ≤ u → u * 1 ≤ m → 65537 ≤ m
over u m high most = omega arith

at_limit : (a m : ℕ) → 65537 ≤ m → min (a + m) 65537 ≡ 65537
at_limit a m high = omega arith

capped : (a m : ℕ) → min (min a 65537 + m) 65537 ≡ min (a + m) 65537
capped a m = omega arith

-- counts that were capped may be multiplied
pub node_sum : (a u v k : ℕ) → 0 < k → min u 65537 ≡ min v 65537
    → min (min a 65537 + u * k) 65537 ≡ min (a + v * k) 65537
node_sum a u v k some same = ⊎_elim
    (λ low.
    let e : u ≡ v = omega arith in
    capped a (u * k) ∙ ap (λ z. min (a + z * k) 65537) e)
    (λ high.
    let also : 65537 ≤ v = omega arith in
    at_limit (min a 65537) (u * k) (over u (u * k) high (mul-le u 1 u k (omega arith) (omega arith)))
    ∙ sym (at_limit a (v * k)
    (over v (v * k) also (mul-le v 1 v k (omega arith) (omega arith)))))
    (cases_lt u 65537)

pub some_nodes : (e : TypedTree) → 0 < nodes_in e
some_nodes (typed w signed node) = positive (nodes_under node)
  where
    positive : (k : ℕ) → 0 < 1 + k
    positive k = omega arith

pub some_same : (a b : ℕ) → Some a ≡ Some b → a ≡ b
some_same a b e = cc

pub none_some : (t : ℕ) → None ≡ Some t → ⊥
none_some t e = cc

-- ---- places

pub both_none : (a b : Option Place) → is_none (later_place a b) ≡ true →
    (is_none a ≡ true) × (is_none b ≡ true)
both_none a None none = (none, refl)
both_none a (Some b) none = absurd (false≢true none)

pub no_first : (s : ℕ) (pieces : List PieceForm) → is_none (first_place s pieces) ≡ true →
    length (pieces_of s pieces) ≡ 0
no_first s pieces none = in_list (pieces_of s pieces) none
  where
    in_list : (qs : List PieceForm)
        → is_none (option_map (λ (piece : PieceForm). piece.place) (slice_get qs 0)) ≡ true
        → length qs ≡ 0
    in_list [] none = refl
    in_list (q ∷ qs) none = absurd (false≢true none)

-- the name of a copy is one more of those that are wanted
pub copy_named : (n o : ℕ) (names : NamesForm) →
    with_name n 1 names (n + o) ≡ with_wanted 1 names o
copy_named n o names = by_test (nat_lt (n + o) n) (le-ltb (n + o) n (omega arith))
  where
    copy_back : n + o - n ≡ o
    copy_back = omega arith

    by_test : (b : Bool) → b ≡ false
        → ◌≡◌ {A = NamesForm} (cond b (record {
          settled = insert_key nat_cmp names.settled (n + o);
          wanted = names.wanted;
        }) (with_wanted 1 names (n + o - n))) (with_wanted 1 names o)
    by_test true is = absurd (false≢true (sym is))
    by_test false is = ap (with_wanted 1 names) copy_back
