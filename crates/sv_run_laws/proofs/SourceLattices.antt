-- A lattice that breaks no rule is one in the source's own words, and its flows are those of the
-- flat design.
use Rattle.std.proofs.Common.{◌≡◌, ℕ, ◌<◌, true, List, [], ◌∷◌, length, Option, Some, refl, sym}
use Rattle.std.proofs.Common.{ap, subst, ◌∙◌, arith, ⊎_elim}
use Rattle.std.specs.Prelude.{◌↔◌, Contains, unwrap_or, Ok}
use Rattle.std.specs.List.{slice_get, list_all}
use Rattle.std.proofs.lemmas.Bool.{and_from}
use Rattle.sv_system.proofs.Lists.{Contains-head, Contains-later, Contains-cases, Contains-nil}
use Rattle.sv_lattice.specs.Tables.{flow_test, FlowsTo, IsLatticeTable}
use Rattle.sv_ast.specs.Reach.{Leads, here, step}
use Rattle.sv_ast.specs.SourceLabels.{points, pairs, Flows, flows, least}
use Rattle.sv_ast.specs.SourceLabels.{PointsAreLattice}
use Rattle.sv_ast.specs.Tree.{TextTree}
use Rattle.sv_ast.proofs.Reaching.{flows_by_pairs}
use Rattle.sv_flat.specs.Design.{FlatDesign}
use Rattle.sv_flat.proofs.Depths.{from_all}
use Rattle.sv_elab_rules.specs.Lattices.{PointOrder, lattice_walk}
use Rattle.sv_elab_rules.specs.Texts.{flat_of}
use Rattle.sv_elab_laws.proofs.JoinedLattice.{IsPointNumber, IsOrderFrom, order_of, exact_table}
use Rattle.sv_elab_laws.proofs.JoinedLattice.{listed_number, number_at, number_in, one_point}
use Rattle.sv_elab_laws.proofs.JoinedLattice.{flows_same, known_points}
use Rattle.sv_elab_laws.proofs.JoinedLeast.{points_apart}
use Rattle.sv_elab_laws.proofs.PartsLinks.{find_some}
use Rattle.sv_elab_laws.proofs.PartsLists.{get_contains, below_get, differ_places}
use Rattle.sv_elab_laws.proofs.PartsNamed.{found_place, find_passes}
use Rattle.sv_elab_laws.proofs.PartsWalked.{walked_text}
use Rattle.sv_run_laws.specs.SourceLattices.{PassesLattice, FlowsAreByPairs, IsLeast}
use Rattle.sv_run_laws.specs.SourceLattices.{IsSourceLattice, FlowsAreOfText}
use Rattle.sv_run_laws.proofs.LatticesAsked.{walked_lattice}

onward : {X : Type 0} {pairs : List (X × X)} {a b c : X} → Leads pairs a b → Leads pairs b c
    → Leads pairs a c
onward here way = way
onward (step pair rest) way = step pair (onward rest way)

module _ (text : TextTree) (order : PointOrder)
    (h : (lattice_walk text.lattice).end ≡ Ok order) where
  abbrev is : IsOrderFrom (points text) (pairs text) order
  is = order_of text order h

  abbrev Number : List ℕ → ℕ → Type 0
  Number a i = IsPointNumber order.points a i

  table : IsLatticeTable order.table
  table = walked_lattice text order h

  size : length order.table ≡ length order.points
  size = (exact_table text order is).size

  by_pairs : FlowsAreByPairs text
  by_pairs a b = flows_by_pairs text (known_points text order is) a b

  -- a point has a number
  number_of : (a : List ℕ) → Contains (points text) a
      → (i : ℕ) × Number a i × (i < length order.table)
  number_of a at =
      let n = listed_number order.points a (subst (λ ps. Contains ps a) is.points_are at) in (
        n.0,
        n.1,
        subst (λ k. n.0 < k) (sym size) (number_in order.points a n.0 n.1),
      )

  -- what stands at a number has that number
  number_there : (i : ℕ) (a : List ℕ) → slice_get order.points i ≡ Some a → Number a i
  number_there i a at =
      let n = listed_number order.points a (get_contains order.points i a at) in
      subst (Number a)
      (differ_places order.points (points_apart text.lattice order h) n.0 i a
      (number_at order.points a n.0 n.1) at) n.1

  -- a number is that of a point
  point_of : (i : ℕ) → i < length order.table
      → (a : List ℕ) × Number a i × Contains (points text) a
  point_of i below =
      let a = below_get order.points i (subst (λ k. i < k) size below) in (
        a.0,
        number_there i a.0 a.1,
        subst (λ ps. Contains ps a.0) (sym is.points_are) (get_contains order.points i a.0 a.1),
      )

  flow_is : (a b : List ℕ) (i j : ℕ) → Number a i → Number b j
      → FlowsTo order.table i j ↔ Flows text a b
  flow_is a b i j a_is b_is =
      let same = flows_same text order is a b i j a_is b_is in (
        λ flow. (by_pairs a b).0 (sym same ∙ flow),
        λ way. same ∙ (by_pairs a b).1 way,
      )

  lattice : PointsAreLattice text
  lattice = record {
    apart = λ a b a_in b_in up down.
        let i = number_of a a_in in
        let j = number_of b b_in in
        let same : i.0 ≡ j.0 =
        table.lattice.apart i.0 j.0 i.2 j.2 ((flow_is a b i.0 j.0 i.1 j.1).1 up)
        ((flow_is b a j.0 i.0 j.1 i.1).1 down) in
        one_point order.points a b i.0 i.1 (subst (Number b) (sym same) j.1);
    joins = λ a b a_in b_in.
        let i = number_of a a_in in
        let j = number_of b b_in in
        let c = table.lattice.joins i.0 j.0 i.2 j.2 in
        let p = point_of c.0 c.1.is_point in (
          p.0,
          record {
            is_point = p.2;
            above_first = (flow_is a p.0 i.0 c.0 i.1 p.1).0 c.1.above_first;
            above_second = (flow_is b p.0 j.0 c.0 j.1 p.1).0 c.1.above_second;
            below_others = λ d d_in f g.
                let k = number_of d d_in in
                (flow_is p.0 d c.0 k.0 p.1 k.1).0
                (c.1.least k.0 k.2 ((flow_is a d i.0 k.0 i.1 k.1).1 f)
                ((flow_is b d j.0 k.0 j.1 k.1).1 g));
          },
        );
    meets = λ a b a_in b_in.
        let i = number_of a a_in in
        let j = number_of b b_in in
        let c = table.lattice.meets i.0 j.0 i.2 j.2 in
        let p = point_of c.0 c.1.is_point in (
          p.0,
          record {
            is_point = p.2;
            below_first = (flow_is p.0 a c.0 i.0 p.1 i.1).0 c.1.below_first;
            below_second = (flow_is p.0 b c.0 j.0 p.1 j.1).0 c.1.below_second;
            above_others = λ d d_in f g.
                let k = number_of d d_in in
                (flow_is d p.0 k.0 c.0 k.1 p.1).0
                (c.1.greatest k.0 k.2 ((flow_is d a k.0 i.0 k.1 i.1).1 f)
                ((flow_is d b k.0 j.0 k.1 j.1).1 g));
          },
        );
  }

  -- a point that flows to each of some points
  below_all : (a : List ℕ) → Contains (points text) a → (xs : List (List ℕ))
      → ((x : List ℕ) → Contains xs x → Contains (points text) x)
      → (c : List ℕ) × Contains (points text) c
      × ((x : List ℕ) → Contains xs x → Flows text c x)
  below_all a at [] all = (a, at, λ x none. absurd (Contains-nil x none))
  below_all a at (x ∷ xs) all =
      let rest = below_all a at xs (λ y y_in. all y (Contains-later x xs y y_in)) in
      let meet = lattice.meets rest.0 x rest.1 (all x (Contains-head x xs)) in (
        meet.0,
        meet.1.is_point,
        λ y y_in. ⊎_elim
            (λ same. subst (Flows text meet.0) same meet.1.below_second)
            (λ later. onward meet.1.below_first (rest.2 y later))
            (Contains-cases x xs y y_in),
      )

  all_pass : (c : List ℕ) (xs : List (List ℕ)) → ((x : List ℕ) → Contains xs x → Flows text c x)
      → list_all (flows text c) xs ≡ true
  all_pass c [] each = refl
  all_pass c (x ∷ xs) each =
      and_from (flows text c x) (list_all (flows text c) xs)
      ((by_pairs c x).1 (each x (Contains-head x xs)))
      (all_pass c xs (λ y at. each y (Contains-later x xs y at)))

  least_is : IsLeast text (least text)
  least_is =
      let first = point_of 0 (let some = table.count.0 in omega arith) in
      let c = below_all first.0 first.2 (points text) (λ x at. at) in
      let test = λ (a : List ℕ). list_all (flows text a) (points text) in
      let some = find_some test (points text) c.0 c.1 (all_pass c.0 (points text) c.2) in
      let place = found_place test (points text) some.0 some.1 in
      let listed = get_contains (points text) place.0 some.0 place.2 in
      let passes = find_passes test (points text) some.0 some.1 in
      subst (IsLeast text) (sym (ap (λ o. unwrap_or o []) some.1)) (record {
        is_point = listed;
        to_all = λ b at. (by_pairs some.0 b).0 (from_all (flows text some.0) (points text) b passes
            at);
      })

  pub source_lattice : IsSourceLattice text
  source_lattice = record { by_pairs = by_pairs; lattice = lattice; least_is = least_is }

  pub table_flows : (i j : ℕ) (a b : List ℕ) → slice_get (points text) i ≡ Some a
      → slice_get (points text) j ≡ Some b
      → flow_test order.table i j ≡ flows text a b
  table_flows i j a b a_at b_at =
      flows_same text order is a b i j
      (number_there i a (ap (λ ps. slice_get ps i) (sym is.points_are) ∙ a_at))
      (number_there j b (ap (λ ps. slice_get ps j) (sym is.points_are) ∙ b_at))

-- a text that stands for a flat design breaks no rule on its lattice
pub design_passes : (text : TextTree) (asked : Option (List ℕ)) (design : FlatDesign)
    → flat_of text asked ≡ Some design → PassesLattice text × FlowsAreOfText text design
design_passes text asked design h =
    let w = walked_text text asked design h in (
      (w.order, w.lattice),
      subst (FlowsAreOfText text) w.is (table_flows text w.order w.lattice),
    )
