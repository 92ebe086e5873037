-- The least point of a text is that of its flat design.
use Rattle.std.proofs.Common.{◌≡◌, ℕ, zero, suc, ◌-◌, ◌^◌, ◌<◌, ◌≤◌, Bool, true, false, List}
use Rattle.std.proofs.Common.{[], ◌∷◌, ◌++◌, map, length, Option, Some, None, refl, sym, ap, subst}
use Rattle.std.proofs.Common.{◌∙◌, arith, ⊎_elim}
use Rattle.std.specs.Prelude.{not, ◌==◌, ◌&&◌, nat_le, find, unwrap_or, slice_index}
use Rattle.std.specs.Prelude.{bit_and, Contains, Ok, codes}
use Rattle.std.specs.Int.{bit_at}
use Rattle.std.specs.List.{slice_get, list_all}
use Rattle.std.specs.Str.{bytes_eq}
use Rattle.std.proofs.lemmas.Bool.{not-true, both_ways, and_parts, and_from, eq-eqb, eqb-true}
use Rattle.std.proofs.lemmas.Bool.{leb-true, cases_eq, false≢true}
use Rattle.std.proofs.lemmas.Nat.Bits.{bit_at_ones}
use Rattle.std.proofs.lemmas.Nat.{pow_pos}
use Rattle.sv_system.proofs.Lists.{Contains-head, Contains-later, Contains-cases, Contains-nil}
use Rattle.sv_system.proofs.Lists.{Contains-map}
use Rattle.sv_lattice.specs.Flows.{Leads as NumbersLead}
use Rattle.sv_lattice.specs.Tables.{flow_test}
use Rattle.sv_ast.specs.Tree.{PlacedName, LatticeTree, TextTree}
use Rattle.sv_ast.specs.SourceLabels.{points, pairs, flows, least}
use Rattle.sv_ast.specs.Processes.{Process}
use Rattle.sv_ast.specs.Reach.{holds, reached}
use Rattle.sv_elab_rules.specs.Walks.{WalkStep, Steps, each}
use Rattle.sv_elab_rules.specs.Rules.{lattice_name, circle, no_join, no_meet}
use Rattle.sv_elab_rules.specs.CaseChains.{numbers_below}
use Rattle.sv_elab_rules.specs.Lattices.{PointOrder, Question, is_point, contains, are_apart}
use Rattle.sv_elab_rules.specs.Lattices.{have_join}
use Rattle.sv_elab_rules.specs.Lattices.{turned, pairs_below, pair_steps, order_steps, point_questions}
use Rattle.sv_elab_rules.specs.Lattices.{pair_questions, in_textual_order, point_names}
use Rattle.sv_elab_rules.specs.Lattices.{declared_order, two_points, lattice_walk}
use Rattle.sv_elab_rules.specs.Lattices.{least_point}
use Rattle.sv_elab_rules.specs.LabelSteps.{SharedTables}
use Rattle.sv_elab_rules.proofs.WalkLemmas.{parts_done, asked_true}
use Rattle.sv_flat.specs.Design.{FlatDesign}
use Rattle.sv_flat.proofs.LeastSets.{range_has, some_from}
use Rattle.sv_flat.proofs.Depths.{from_all}
use Rattle.sv_elab_laws.proofs.PartsBindings.{name_itself}
use Rattle.sv_elab_laws.proofs.LatticeTests.{same_sets, some_below, apart_test}
use Rattle.sv_lattice.proofs.BoundLemmas.{and_test}
use Rattle.sv_elab_laws.proofs.LatticeTests.{turned_length, turned_test}
use Rattle.sv_elab_laws.proofs.PartsLists.{get_contains, below_get, AllDiffer, differ_places}
use Rattle.sv_elab_laws.proofs.PartsLists.{index_is}
use Rattle.sv_flat.proofs.Members.{Contains-left as contains_left, to_flat_map}
use Rattle.sv_elab_laws.proofs.PartsDeclared.{same_ok}
use Rattle.sv_elab_laws.proofs.PartsLinks.{find_some}
use Rattle.sv_elab_laws.proofs.PartsNamed.{found_place, find_passes}
use Rattle.sv_elab_laws.proofs.PartsTexts.{Beside}
use Rattle.sv_elab_laws.proofs.JoinedLattice.{IsPointNumber, IsOrderFrom, exact_table, listed_number}
use Rattle.sv_elab_laws.proofs.JoinedLattice.{number_at, number_in, flows_same, all_hold, ordered_has}
use Rattle.sv_elab_laws.proofs.JoinedLattice.{points_in, pairs_in, lattice_asked, order_of}

each_passes : {X : Type 0} (step : X → Steps) (xs : List X) → (each step xs).end ≡ Ok tt → (x : X) →
    Contains xs x → (step x).end ≡ Ok tt
unfolding each
each_passes step [] h x at = absurd (Contains-nil x at)
each_passes step (y ∷ xs) h x at =
    let first = parts_done (step y) (λ _. each step xs) tt h in
    ⊎_elim (λ is. subst (λ z. (step z).end ≡ Ok tt) is first.1) (λ inside.
    each_passes step xs first.2 x inside) (Contains-cases y xs x at)

pair_listed : (n a b : ℕ) → a < n → b < n → Contains (pairs_below n) (a, b)
pair_listed n a b a_in b_in =
    to_flat_map (λ c. map (λ d. (c, d)) (numbers_below n)) (numbers_below n) a (a, b)
    (range_has n a a_in)
    (Contains-map (λ d. (a, d)) (numbers_below n) b (range_has n b b_in))

pairs_pass : (test : ℕ → ℕ → Bool) (broken : (a b : List ℕ) → WalkStep) (ps : List (List ℕ))
    → (pair_steps test broken ps).end ≡ Ok tt
    → (a b : ℕ) → a < length ps → b < length ps → test a b ≡ true
unfolding pair_steps
pairs_pass test broken ps h a b a_in b_in =
    asked_true (test a b) _
    (each_passes _ (pairs_below (length ps)) h (a, b) (pair_listed (length ps) a b a_in b_in))

-- points that are asked to differ do
points_differ : (earlier : List (List ℕ)) (ps : List PlacedName)
    → ((q : Question) → Contains (point_questions earlier ps) q → q.holds ≡ true)
    → AllDiffer (map (λ (p : PlacedName). p.name) ps)
    × ((x : List ℕ) → Contains (map (λ (p : PlacedName). p.name) ps) x → Contains earlier x → ⊥)
points_differ earlier [] holds = (tt, λ x at there. Contains-nil x at)
points_differ earlier (p ∷ ps) holds =
    let head : Question =
    record { holds = not (is_point earlier p.name); step = lattice_name p.place p.name } in
    let rest_questions = point_questions (p.name ∷ earlier) ps in
    let rest = points_differ (p.name ∷ earlier) ps (λ q at.
    holds q (Contains-later head rest_questions q at)) in
    let fresh : is_point earlier p.name ≡ false =
    not-true (is_point earlier p.name) (holds head (Contains-head head rest_questions)) in (
      ((λ at. rest.1 p.name at (Contains-head p.name earlier)), rest.0),
      λ x at there. ⊎_elim
          (λ is. both_ways (is_point earlier p.name) fresh
          (some_from (bytes_eq p.name) earlier x there (ap (bytes_eq p.name) (sym is)
          ∙ name_itself p.name)))
          (λ inside. rest.1 x inside (Contains-later p.name earlier x there))
          (Contains-cases p.name (map (λ (z : PlacedName). z.name) ps) x at),
    )

-- what the walk asked of an order
record IsChecked (order : PointOrder) : Type 0 where
  pub some : 1 ≤ length order.points
  pub differ : AllDiffer order.points
  pub apart : (a b : ℕ) → a < length order.points → b < length order.points →
      are_apart order.table a b ≡ true
  pub meets : (a b : ℕ) → a < length order.points → b < length order.points →
      have_join (turned order.table) a b ≡ true

checked_from : (t : LatticeTree) (order : PointOrder) → (lattice_walk (Some t)).end ≡ Ok order →
    IsChecked order
unfolding order_steps
checked_from t order h =
    let questions = point_questions [] t.points ++ pair_questions (point_names t) t.pairs in
    let declared = declared_order t in
    let asked = lattice_asked t order h in
    let aparts = parts_done (pair_steps (are_apart declared.table) (circle t.place) declared.points)
    _ tt asked.ordered in
    let joins = parts_done (pair_steps (have_join declared.table) (no_join t.place) declared.points)
    _ tt aparts.2 in
    let count = and_parts (nat_le 1 (length t.points)) (nat_le (length t.points) 32)
    asked.counted in
    subst IsChecked asked.is (record {
      some =
          subst (λ n. 1 ≤ n) (sym (Rattle.std.proofs.lemmas.List.length-map t.points (λ p. p.name)))
          (leb-true 1 (length t.points) count.0);
      differ =
          (points_differ [] t.points (λ q at.
          all_hold (in_textual_order questions) asked.answered_all q
          (ordered_has questions q
          (contains_left (point_questions [] t.points) (pair_questions (point_names t) t.pairs)
          q at)))).0;
      apart = pairs_pass (are_apart declared.table) (circle t.place) declared.points aparts.1;
      meets =
          pairs_pass (have_join (turned declared.table)) (no_meet t.place) declared.points joins.2;
    })

lead_on : (pairs : List (ℕ × ℕ)) (xs ys : List ℕ) (a b c : ℕ) → NumbersLead pairs a xs b →
    NumbersLead pairs b ys c → NumbersLead pairs a (xs ++ ys) c
lead_on pairs [] ys a b c e lead = subst (λ x. NumbersLead pairs x ys c) (sym e) lead
lead_on pairs (x ∷ xs) ys a b c first lead = (first.0, lead_on pairs xs ys x b c first.1 lead)

module _ (text : TextTree) (order : PointOrder) (is : IsOrderFrom (points text) (pairs text) order)
    (checked : IsChecked order) where
  abbrev n : ℕ
  n = length order.points

  abbrev Goes : ℕ → ℕ → Type 0
  Goes a b = flow_test order.table a b ≡ true

  size : length order.table ≡ n
  size = (exact_table text order is).size

  goes_on : (a b c : ℕ) → a < n → b < n → c < n → Goes a b → Goes b c → Goes a c
  goes_on a b c a_in b_in c_in h k =
      let exact = (exact_table text order is).exact in
      let one = (exact a b a_in b_in).0 h in
      let two = (exact b c b_in c_in).0 k in
      (exact a c a_in c_in).1 (one.0 ++ two.0, lead_on is.numbers one.0 two.0 a b c one.1 two.1)

  -- two points have a lower one
  lower : (a b : ℕ) → a < n → b < n → (c : ℕ) × (c < n) × Goes c a × Goes c b
  lower a b a_in b_in =
      let opposite = turned order.table in
      let set = bit_and (slice_index opposite a) (slice_index opposite b) in
      let long : length opposite ≡ n = turned_length order.table ∙ size in
      let found = some_below (λ c. contains set c && bit_and (slice_index opposite c) set == set) 0
      (length opposite) (checked.meets a b a_in b_in) in
      let c = found.0 in
      let c_in : c < n = let q = found.2 in omega arith in
      let inside = (and_parts (contains set c) (bit_and (slice_index opposite c) set == set)
      found.3).0 in
      let both = and_parts (bit_at (slice_index opposite a) c == 1)
      (bit_at (slice_index opposite b) c == 1)
      (sym (and_test (slice_index opposite a) (slice_index opposite b) c) ∙ inside) in
      let turn = λ (x : ℕ) (x_in : x < n).
      turned_test order.table x c (subst (λ k. x < k) (sym size) x_in)
      (subst (λ k. c < k) (sym size) c_in) in
      (c, c_in, sym (turn a a_in) ∙ both.0, sym (turn b b_in) ∙ both.1)

  lowest : (m : ℕ) → m ≤ n → (c : ℕ) × (c < n) × ((k : ℕ) → k < m → Goes c k)
  lowest zero few = (0, let s = checked.some in omega arith, λ k h. absurd (omega arith))
  lowest (suc m) few =
      let before = lowest m (omega arith) in
      let c = before.0 in
      let next = lower c m before.1 (omega arith) in (
        next.0,
        next.1,
        λ k h. ⊎_elim
            (λ is_last. subst (Goes next.0) (sym is_last) next.3)
            (λ other. goes_on next.0 c k next.1 before.1 (omega arith) next.2
            (before.2 k (omega arith)))
            (cases_eq k m),
      )

  -- a row with all points
  full : ℕ
  full = 2 ^ length order.table - 1

  least_same : IsPointNumber order.points (least text) (least_point order.table)
  unfolding full
  least_same =
      let bottom = lowest n (omega arith) in
      let c = bottom.0 in
      let table_at = below_get order.table c (subst (λ k. c < k) (sym size) bottom.1) in
      let row_is : slice_index order.table c ≡ table_at.0 =
      index_is order.table c table_at.0 0 table_at.1 in
      let some_bits : 1 ≤ 2 ^ n = pow_pos n in
      let whole : table_at.0 ≡ 2 ^ length order.table - 1 =
      sym row_is ∙ same_sets n (slice_index order.table c) (2 ^ n - 1)
      ((exact_table text order is).within c bottom.1) (omega arith)
      (λ k h. bottom.2 k h ∙ sym (ap (λ x. x == 1) (bit_at_ones n k h)))
      ∙ ap (λ k. 2 ^ k - 1) (sym size) in
      let row = find_some (λ r. r == 2 ^ length order.table - 1) order.table table_at.0
      (get_contains order.table c table_at.0 table_at.1)
      (eq-eqb table_at.0 (2 ^ length order.table - 1) whole) in
      let place = found_place (λ r. r == 2 ^ length order.table - 1) order.table row.0 row.1 in
      let i = place.0 in
      let i_in : i < n = subst (λ k.
      i < k) size (Rattle.sv_elab_laws.proofs.PartsLists.get_below order.table i row.0 place.2) in
      let full_row : slice_index order.table i ≡ 2 ^ n - 1 =
      index_is order.table i row.0 0 place.2
      ∙ eqb-true row.0 (2 ^ length order.table - 1)
      (find_passes (λ r. r == 2 ^ length order.table - 1) order.table row.0 row.1)
      ∙ ap (λ k. 2 ^ k - 1) size in
      let i_goes : (k : ℕ) → k < n → Goes i k =
      λ k h. ap (λ r. bit_at r k == 1) full_row ∙ ap (λ x. x == 1) (bit_at_ones n k h) in
      let number_is : least_point order.table ≡ i = ap (λ o. unwrap_or o 0) place.1 in
      by_find i i_in i_goes number_is
      (find (λ a. list_all (flows text a) (points text)) (points text)) refl
    where
      all_pass : (test : List ℕ → Bool) (xs : List (List ℕ)) →
          ((x : List ℕ) → Contains xs x → test x ≡ true) → list_all test xs ≡ true
      all_pass test [] h = refl
      all_pass test (x ∷ xs) h =
          and_from (test x) (list_all test xs) (h x (Contains-head x xs))
          (all_pass test xs (λ y at. h y (Contains-later x xs y at)))

      index_number : (k : ℕ) (x : List ℕ) → slice_get order.points k ≡ Some x →
          IsPointNumber order.points x k
      index_number k x at =
          let found = listed_number order.points x (get_contains order.points k x at) in
          subst (IsPointNumber order.points x)
          (differ_places order.points checked.differ found.0 k x
          (number_at order.points x found.0 found.1) at) found.1

      by_find : (i : ℕ) → i < length order.points
          → ((k : ℕ) → k < length order.points → flow_test order.table i k ≡ true)
          → least_point order.table ≡ i
          → (o : Option (List ℕ))
          → find (λ a. list_all (flows text a) (points text)) (points text) ≡ o
          → IsPointNumber order.points
          (unwrap_or (find (λ a. list_all (flows text a) (points text)) (points text)) [])
          (least_point order.table)
      by_find i i_in goes number_is (Some a) e =
          let place = found_place (λ x. list_all (flows text x) (points text)) (points text) a e in
          let listed = subst (λ ps.
          Contains ps a) is.points_are (get_contains (points text) place.0 a place.2) in
          let j = listed_number order.points a listed in
          let j_in = number_in order.points a j.0 j.1 in
          let passes = find_passes (λ x. list_all (flows text x) (points text)) (points text) a e in
          let name = below_get order.points i i_in in
          let back : flow_test order.table j.0 i ≡ true =
          flows_same text order is a name.0 j.0 i j.1 (index_number i name.0 name.1)
          ∙ from_all (flows text a) (points text) name.0 passes
          (subst (λ ps. Contains ps name.0) (sym is.points_are)
          (get_contains order.points i name.0 name.1)) in
          let same : i ≡ j.0 =
          (apart_test order.table i j.0).0 (checked.apart i j.0 i_in j_in)
          (goes j.0 j_in) back in
          subst (λ o. IsPointNumber order.points (unwrap_or o []) (least_point order.table)) (sym e)
          (subst (IsPointNumber order.points a) (sym same ∙ sym number_is) j.1)
      by_find i i_in goes number_is None e =
          let name = below_get order.points i i_in in
          let listed = subst (λ ps.
          Contains ps name.0) (sym is.points_are) (get_contains order.points i name.0 name.1) in
          let all : list_all (flows text name.0) (points text) ≡ true =
          all_pass (flows text name.0) (points text) (λ b b_at.
          let k = listed_number order.points b (subst (λ ps. Contains ps b) is.points_are b_at) in
          sym (flows_same text order is name.0 b i k.0 (index_number i name.0 name.1) k.1)
          ∙ goes k.0 (number_in order.points b k.0 k.1)) in
          let some = find_some (λ x. list_all (flows text x) (points text)) (points text) name.0
          listed all in
          absurd (let c : None ≡ Some some.0 = sym e ∙ some.1 in cc c)

two_points_are : (order : PointOrder) → (lattice_walk None).end ≡ Ok order → two_points ≡ order
unfolding lattice_walk
two_points_are order h = same_ok two_points order h

least_from : List (List ℕ) → List (List ℕ × List ℕ) → List ℕ
least_from ps prs =
    unwrap_or (find (λ a.
    list_all (λ b. holds bytes_eq (reached bytes_eq prs (length ps) (a ∷ [])) b) ps) ps) []

-- the least point has one number by the pairs of the text and by the table
pub least_number : (text : TextTree) (order : PointOrder)
    → (is : IsOrderFrom (points text) (pairs text) order)
    → (lattice_walk text.lattice).end ≡ Ok order
    → IsPointNumber order.points (least text) (least_point order.table)
unfolding least_from
least_number text order is = by_lattice text.lattice refl
  where
    by_lattice : (l : Option LatticeTree) → text.lattice ≡ l → (lattice_walk l).end ≡ Ok order →
        IsPointNumber order.points (least text) (least_point order.table)
    by_lattice (Some t) e h = least_same text order is (checked_from t order h)
    by_lattice None e h =
        subst (λ (o : PointOrder). IsPointNumber o.points (least text) (least_point o.table))
        (two_points_are order h)
        (subst (λ l. IsPointNumber two_points.points (least_from (points_in l) (pairs_in l))
        (least_point two_points.table)) (sym e) refl)

-- and it is the least of the tables
pub least_beside : (text : TextTree) (top : Option (List ℕ)) (design : FlatDesign)
    {qs : List Process} (side : Beside text top qs design)
    → IsPointNumber side.order.points (least text) side.tables.least
least_beside text top design side =
    least_number text side.order (order_of text side.order side.lattice) side.lattice
    ∙ ap (λ (t : SharedTables). Some t.least) (sym side.tables_are)

-- no point is declared twice
pub points_apart : (l : Option LatticeTree) (order : PointOrder) → (lattice_walk l).end ≡ Ok order
    → AllDiffer order.points
points_apart (Some t) order h = (checked_from t order h).differ
points_apart None order h =
    subst (λ (o : PointOrder). AllDiffer o.points) (two_points_are order h) (
      λ at. ⊎_elim
          (λ is. false≢true (subst (λ x. bytes_eq (codes "H") x ≡ true) is refl))
          (λ none. Contains-nil (codes "L") none)
          (Contains-cases (codes "H") [] (codes "L") at),
      (λ at. Contains-nil (codes "H") at, tt),
    )
