-- The table of a flat design says which points flow to which, as the pairs of its text do.
use Rattle.std.proofs.Common.{◌≡◌, ℕ, ◌<◌, Bool, true, false, cond, List}
use Rattle.std.proofs.Common.{[], ◌∷◌, ◌++◌, map, length, Option, Some, None, refl, sym, ap, subst}
use Rattle.std.proofs.Common.{◌∙◌, arith, ◌⊎◌, inl, inr, ⊎_elim}
use Rattle.std.specs.Prelude.{◌==◌, ◌&&◌, nat_le, nat_lt, position, unwrap_or, Contains}
use Rattle.std.specs.Prelude.{Ok, codes, slice_index}
use Rattle.std.specs.List.{slice_get, AllZip, All, position_or_len}
use Rattle.std.specs.Option.{option_map_or}
use Rattle.std.specs.Str.{bytes_eq}
use Rattle.std.proofs.lemmas.Nat.Bits.{bit_at_above}
use Rattle.std.proofs.lemmas.Bool.{false_from_ne_true}
use Rattle.std.proofs.lemmas.List.Folds.{find_at}
use Rattle.sv_system.proofs.Lists.{Contains-head, Contains-later, Contains-cases, Contains-nil}
use Rattle.sv_lattice.specs.declared.points.Point.{Point}
use Rattle.sv_lattice.specs.Flows.{Leads as NumbersLead, Flows as NumbersFlow, IsKnown}
use Rattle.sv_lattice.specs.Tables.{IsTableOf, flow_test}
use Rattle.sv_ast.specs.Tree.{PlacedName, PairTree, LatticeTree, TextTree}
use Rattle.sv_ast.specs.Reach.{Leads, here, step}
use Rattle.sv_ast.specs.SourceLabels.{points, pairs, flows}
use Rattle.sv_elab_rules.specs.Walks.{ask, each}
use Rattle.sv_elab_rules.specs.Rules.{lattice_size, lattice_name}
use Rattle.sv_elab_rules.specs.Lattices.{PointOrder, point_number, is_point, Question}
use Rattle.sv_elab_rules.specs.Lattices.{stands_before, placed, in_textual_order, point_questions}
use Rattle.sv_elab_rules.specs.Lattices.{pair_questions, answered}
use Rattle.sv_elab_rules.specs.Lattices.{order_steps, table_of, turned, point_names, numbered_pair}
use Rattle.sv_elab_rules.specs.Lattices.{declared_order, two_points, checked_order, lattice_walk}
use Rattle.sv_elab_rules.proofs.WalkLemmas.{parts_done, asked_true}
use Rattle.sv_elab_rules.proofs.LatticeLemmas.{table_is_exact}
use Rattle.sv_ast.proofs.Reaching.{HasKnownPoints, flows_by_pairs}
use Rattle.sv_elab_laws.proofs.PartsLists.{get_contains, contains_get, zip_left, zip_right, get_below}
use Rattle.sv_elab_laws.proofs.PartsLists.{index_is}
use Rattle.sv_flat.proofs.Members.{Contains-right as contains_right}
use Rattle.sv_elab_laws.proofs.PartsBindings.{same_name, name_itself}
use Rattle.sv_elab_laws.proofs.PartsDeclared.{same_ok}
use Rattle.sv_elab_laws.proofs.PartsLinks.{find_some}
use Rattle.sv_elab_laws.proofs.PartsNamed.{found_place, find_passes}
use Rattle.sv_elab_laws.proofs.JoinedClocks.{same_bool}

-- ---- questions are asked in some order, and all of them

placed_has : (q : Question) (rs : List Question) (x : Question) → (q ≡ x) ⊎ Contains rs x →
    Contains (placed q rs) x
placed_has q [] x at =
    ⊎_elim (λ is. subst (Contains (q ∷ [])) is (Contains-head q [])) (λ none.
    absurd (Contains-nil x none)) at
placed_has q (r ∷ rs) x at = by_test (stands_before r.step.place q.step.place) (placed_has q rs x)
  where
    by_test : (b : Bool) → ((q ≡ x) ⊎ Contains rs x → Contains (placed q rs) x) →
        Contains (cond b (r ∷ placed q rs) (q ∷ r ∷ rs)) x
    by_test true rest = ⊎_elim
        (λ is. Contains-later r (placed q rs) x (rest (inl is)))
        (λ inside. ⊎_elim
        (λ is. subst (Contains (r ∷ placed q rs)) is (Contains-head r (placed q rs)))
        (λ later. Contains-later r (placed q rs) x (rest (inr later)))
        (Contains-cases r rs x inside)) at
    by_test false rest = ⊎_elim
        (λ is. subst (Contains (q ∷ r ∷ rs)) is (Contains-head q (r ∷ rs)))
        (λ later. Contains-later q (r ∷ rs) x later) at

pub ordered_has : (qs : List Question) (x : Question) → Contains qs x →
    Contains (in_textual_order qs) x
ordered_has [] x at = absurd (Contains-nil x at)
ordered_has (q ∷ qs) x at = placed_has q (in_textual_order qs) x
    (⊎_elim (λ is. inl is) (λ inside. inr (ordered_has qs x inside)) (Contains-cases q qs x at))

pub all_hold : (qs : List Question) → (each answered qs).end ≡ Ok tt → (x : Question) →
    Contains qs x →
    x.holds ≡ true
unfolding each answered
all_hold [] h x at = absurd (Contains-nil x at)
all_hold (q ∷ qs) h x at =
    let first = parts_done (answered q) (λ _. each answered qs) tt h in
    ⊎_elim
    (λ is. ap (λ (z : Question). z.holds) (sym is) ∙ asked_true q.holds q.step first.1)
    (λ inside. all_hold qs first.2 x inside)
    (Contains-cases q qs x at)

-- ---- numbers of points

-- the number is that of the point
abbrev pub IsPointNumber : List (List ℕ) → List ℕ → ℕ → Type 0
IsPointNumber ps p k = point_number ps p ≡ Some k

known_number : (ps : List (List ℕ)) (p : List ℕ) → is_point ps p ≡ true →
    (k : ℕ) × IsPointNumber ps p k
known_number ps p h =
    let found = Rattle.sv_flat.proofs.LeastSets.from_some (bytes_eq p) ps h in
    let some = find_some (bytes_eq p) ps found.0 found.1 found.2 in
    let place = found_place (bytes_eq p) ps some.0 some.1 in
    (place.0, place.1)

pub listed_number : (ps : List (List ℕ)) (p : List ℕ) → Contains ps p →
    (k : ℕ) × IsPointNumber ps p k
listed_number ps p at =
    let some = find_some (bytes_eq p) ps p at (name_itself p) in
    let place = found_place (bytes_eq p) ps some.0 some.1 in
    (place.0, place.1)

pub position_found : (test : List ℕ → Bool) (ps : List (List ℕ)) (k : ℕ) → position test ps ≡ Some k
    → (x : List ℕ) × (slice_get ps k ≡ Some x) × (test x ≡ true)
position_found test ps k h = by_test (nat_lt (position_or_len test ps) (length ps)) refl h
  where
    by_test : (b : Bool) → nat_lt (position_or_len test ps) (length ps) ≡ b
        → cond b (Some (position_or_len test ps)) None ≡ Some k
        → (x : List ℕ) × (slice_get ps k ≡ Some x) × (test x ≡ true)
    by_test false e none = absurd (cc none)
    by_test true e some =
        let is : position_or_len test ps ≡ k = cc some in
        let below = Rattle.std.proofs.lemmas.Bool.ltb-true (position_or_len test ps)
        (length ps) e in
        let x = Rattle.sv_elab_laws.proofs.PartsLists.below_get ps (position_or_len test ps) below in
        (x.0, ap (slice_get ps) (sym is) ∙ x.1, find_passes test ps x.0 (find_at test ps ∙ x.1))

-- a point stands at its number
pub number_at : (ps : List (List ℕ)) (p : List ℕ) (k : ℕ) → IsPointNumber ps p k →
    slice_get ps k ≡ Some p
number_at ps p k h =
    let x = position_found (bytes_eq p) ps k h in x.1 ∙ ap Some (sym (same_name p x.0 x.2))

pub number_in : (ps : List (List ℕ)) (p : List ℕ) (k : ℕ) → IsPointNumber ps p k → k < length ps
number_in ps p k h = get_below ps k p (number_at ps p k h)

pub one_point : (ps : List (List ℕ)) (p q : List ℕ) (k : ℕ) → IsPointNumber ps p k →
    IsPointNumber ps q k → p ≡ q
one_point ps p q k a b =
    let e : Some p ≡ Some q = sym (number_at ps p k a) ∙ number_at ps q k b in cc e

pub one_number : (ps : List (List ℕ)) (p : List ℕ) (j k : ℕ) → IsPointNumber ps p j →
    IsPointNumber ps p k → j ≡ k
one_number ps p j k a b = let e : Some j ≡ Some k = sym a ∙ b in cc e

-- ---- the order of a text

-- a pair of numbers is that of a pair of points
abbrev pub IsPair : List (List ℕ) → List ℕ × List ℕ → ℕ × ℕ → Type 0
IsPair ps names numbers = IsPointNumber ps names.0 numbers.0 × IsPointNumber ps names.1 numbers.1

pub record IsOrderFrom (ps : List (List ℕ)) (prs : List (List ℕ × List ℕ)) (order : PointOrder) :
    Type 0 where
  pub points_are : ps ≡ order.points
  pub numbers : List (ℕ × ℕ)
  pub numbered : AllZip (IsPair order.points) prs numbers
  pub table : order.table ≡ table_of (length order.points) numbers

number_is : (ps : List (List ℕ)) (p : List ℕ) → is_point ps p ≡ true →
    IsPointNumber ps p (unwrap_or (point_number ps p) 0)
number_is ps p h = let k = known_number ps p h in
    subst (λ o. o ≡ Some (unwrap_or o 0)) (sym k.1) refl

pairs_numbered : (ps : List (List ℕ)) (prs : List PairTree)
    → ((q : Question) → Contains (pair_questions ps prs) q → q.holds ≡ true)
    → AllZip (IsPair ps) (map (λ (p : PairTree). (p.lower.name, p.upper.name)) prs)
    (map (numbered_pair ps) prs)
pairs_numbered ps [] holds = tt
pairs_numbered ps (p ∷ prs) holds =
    let first : Question =
    record {
      holds = is_point ps p.lower.name;
      step = lattice_name p.lower.place p.lower.name;
    } in
    let second : Question =
    record {
      holds = is_point ps p.upper.name;
      step = lattice_name p.upper.place p.upper.name;
    } in
    let rest = pair_questions ps prs in (
      (
        number_is ps p.lower.name (holds first (Contains-head first (second ∷ rest))),
        number_is ps p.upper.name
            (holds second (Contains-later first (second ∷ rest) second
            (Contains-head second rest))),
      ),
      pairs_numbered ps prs (λ q at.
          holds q (Contains-later first (second ∷ rest) q (Contains-later second rest q at))),
    )

abbrev pub points_in : Option LatticeTree → List (List ℕ)
points_in l =
    option_map_or (λ (t : LatticeTree).
    map (λ (p : PlacedName). p.name) t.points) l (codes "L" ∷ codes "H" ∷ [])

abbrev pub pairs_in : Option LatticeTree → List (List ℕ × List ℕ)
pairs_in l =
    option_map_or (λ (t : LatticeTree).
    map (λ (p : PairTree). (p.lower.name, p.upper.name)) t.pairs) l ((codes "L", codes "H") ∷ [])

-- what the walk of a lattice that is declared has asked
pub record LatticeAsked (t : LatticeTree) (order : PointOrder) : Type 0 where
  pub counted : (nat_le 1 (length t.points) && nat_le (length t.points) 32) ≡ true
  pub answered_all : (each answered (in_textual_order
      (point_questions [] t.points ++ pair_questions (point_names t) t.pairs))).end ≡ Ok tt
  pub ordered : (order_steps t.place (declared_order t).points (declared_order t).table
      (turned (declared_order t).table)).end ≡ Ok tt
  pub is : declared_order t ≡ order

pub lattice_asked : (t : LatticeTree) (order : PointOrder)
    → (lattice_walk (Some t)).end ≡ Ok order → LatticeAsked t order
unfolding lattice_walk checked_order
lattice_asked t order h =
    let size = parts_done
    (ask (nat_le 1 (length t.points) && nat_le (length t.points) 32) (lattice_size t.place)) _
    order h in
    let questions = point_questions [] t.points ++ pair_questions (point_names t) t.pairs in
    let asked_all = parts_done (each answered (in_textual_order questions)) _ order size.2 in
    let declared = declared_order t in
    let steps = parts_done
    (order_steps t.place declared.points declared.table (turned declared.table)) _ order
    asked_all.2 in
    record {
      counted =
          asked_true (nat_le 1 (length t.points) && nat_le (length t.points) 32)
          (lattice_size t.place) size.1;
      answered_all = asked_all.1;
      ordered = steps.1;
      is = same_ok declared order steps.2;
    }

order_from : (l : Option LatticeTree) (order : PointOrder) → (lattice_walk l).end ≡ Ok order →
    IsOrderFrom (points_in l) (pairs_in l) order
unfolding lattice_walk
order_from None order h =
    subst (IsOrderFrom (points_in None) (pairs_in None)) (same_ok two_points order h) (record {
      points_are = refl;
      numbers = (0, 1) ∷ [];
      numbered = ((refl, refl), tt);
      table = refl;
    })
order_from (Some t) order h =
    let questions = point_questions [] t.points ++ pair_questions (point_names t) t.pairs in
    let asked = lattice_asked t order h in
    subst (IsOrderFrom (points_in (Some t)) (pairs_in (Some t))) asked.is
    (record {
      points_are = refl;
      numbers = map (numbered_pair (point_names t)) t.pairs;
      numbered = pairs_numbered (point_names t) t.pairs
          (λ q at. all_hold (in_textual_order questions) asked.answered_all q
          (ordered_has questions q
          (contains_right (point_questions [] t.points) (pair_questions (point_names t) t.pairs)
          q at)));
      table = refl;
    })

pub order_of : (text : TextTree) (order : PointOrder) → (lattice_walk text.lattice).end ≡ Ok order →
    IsOrderFrom (points text) (pairs text) order
order_of text order h = order_from text.lattice order h

module _ (text : TextTree) (order : PointOrder)
    (is : IsOrderFrom (points text) (pairs text) order) where
  abbrev Number : List ℕ → ℕ → Type 0
  Number p k = IsPointNumber order.points p k

  abbrev count : ℕ
  count = length order.points

  known : All (IsKnown count) is.numbers
  known k d below =
      let n = Rattle.sv_elab_laws.proofs.PartsLists.below_get is.numbers k below in
      let pr = zip_right (IsPair order.points) (pairs text) is.numbers is.numbered k n.0 n.1 in
      subst (IsKnown count) (sym (index_is is.numbers k n.0 d n.1))
      (number_in order.points pr.0.0 n.0.0 pr.2.0, number_in order.points pr.0.1 n.0.1 pr.2.1)

  pub exact_table : IsTableOf count is.numbers order.table
  exact_table =
      subst (IsTableOf count is.numbers) (sym is.table) (table_is_exact count is.numbers known)

  to_names : (ks : List ℕ) (i j : ℕ) (a b : List ℕ) → NumbersLead is.numbers i ks j → Number a i →
      Number b j → Leads (pairs text) a b
  to_names [] i j a b e a_is b_is =
      subst (Leads (pairs text) a)
      (one_point order.points a b j (subst (Number a) e a_is) b_is) here
  to_names (c ∷ ks) i j a b lead a_is b_is =
      let place = contains_get is.numbers (i, c) lead.0 in
      let pr = zip_right (IsPair order.points) (pairs text) is.numbers is.numbered place.0 (i, c)
      place.1 in
      let same = one_point order.points pr.0.0 a i pr.2.0 a_is in
      step (subst (λ (x : List ℕ).
      Contains (pairs text) (x, pr.0.1)) same (get_contains (pairs text) place.0 pr.0 pr.1))
      (to_names ks c j pr.0.1 b lead.1 pr.2.1 b_is)

  to_numbers : {a b : List ℕ} → Leads (pairs text) a b → (i j : ℕ) → Number a i → Number b j →
      NumbersFlow is.numbers i j
  to_numbers (here {a = a}) i j a_is b_is = ([], one_number order.points a i j a_is b_is)
  to_numbers (step {a = a} {b = c} pair rest) i j a_is b_is =
      let place = contains_get (pairs text) (a, c) pair in
      let n = zip_left (IsPair order.points) (pairs text) is.numbers is.numbered place.0 (a, c)
      place.1 in
      let same = one_number order.points a n.0.0 i n.2.0 a_is in
      let more = to_numbers rest n.0.1 j n.2.1 b_is in (
        n.0.1 ∷ more.0,
        (
          subst (λ (x : ℕ).
              Contains is.numbers (x, n.0.1)) same (get_contains is.numbers place.0 n.0 n.1),
          more.1,
        ),
      )

  pub known_points : HasKnownPoints text
  known_points x y at =
      let place = contains_get (pairs text) (x, y) at in
      let n = zip_left (IsPair order.points) (pairs text) is.numbers is.numbered place.0 (x, y)
      place.1 in
      subst (λ ps. Contains ps y) (sym is.points_are)
      (get_contains order.points n.0.1 y (number_at order.points y n.0.1 n.2.1))

  pub flows_same : (a b : List ℕ) (i j : ℕ) → Number a i → Number b j →
      flow_test order.table i j ≡ flows text a b
  flows_same a b i j a_is b_is =
      let exact = exact_table.exact i j (number_in order.points a i a_is)
      (number_in order.points b j b_is) in
      let by_names = flows_by_pairs text known_points a b in
      same_bool (flow_test order.table i j) (flows text a b)
      (λ h. let lead = exact.0 h in by_names.1 (to_names lead.0 i j a b lead.1 a_is b_is))
      (λ h. exact.1 (to_numbers (by_names.0 h) i j a_is b_is))

  leads_in : {a b : List ℕ} → Leads (pairs text) a b → Contains (points text) a →
      Contains (points text) b
  leads_in here at = at
  leads_in (step {a = a} {b = c} pair rest) at = leads_in rest (known_points a c pair)

  -- the number of a point, or one that is no point's
  abbrev pub level : List ℕ → Point
  level p = record { 0 = unwrap_or (point_number order.points p) count }

  pub flow_at : (a : List ℕ) (i : ℕ) → Number a i → (p : List ℕ) →
      flow_test order.table i (level p).0 ≡ flows text a p
  flow_at a i a_is p = by_number (point_number order.points p) refl
    where
      by_number : (o : Option ℕ) → point_number order.points p ≡ o →
          flow_test order.table i (unwrap_or (point_number order.points p) count) ≡ flows text a p
      by_number (Some j) e =
          ap (λ o. flow_test order.table i (unwrap_or o count)) e ∙ flows_same a p i j a_is e
      by_number None e =
          ap (λ o. flow_test order.table i (unwrap_or o count)) e
          ∙ ap (λ b. b == 1) (bit_at_above (slice_index order.table i) count count
          (exact_table.within i (number_in order.points a i a_is)) (omega arith))
          ∙ sym (false_from_ne_true (flows text a p) (λ h.
          let way = (flows_by_pairs text known_points a p).0 h in
          let at = leads_in way
          (subst (λ ps. Contains ps a) (sym is.points_are)
          (get_contains order.points i a (number_at order.points a i a_is))) in
          let k = listed_number order.points p (subst (λ ps. Contains ps p) is.points_are at) in
          let c : None ≡ Some k.0 = sym e ∙ k.1 in cc c))
