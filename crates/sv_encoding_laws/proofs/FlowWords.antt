-- The literal that some label stays is true exactly where some label's point does not flow to the
-- target's.
use Rattle.std.proofs.Common.{◌≡◌, ℕ, Bool, true, false, not, ◌||◌, ◌&&◌, ℤ, List, [], ◌∷◌, ◌++◌, map, filter}
use Rattle.std.proofs.Common.{arith, refl, sym, ap, ap₂, subst, ◌∙◌}
use Rattle.std.specs.Prelude.{IsTrue, flat_map}
use Rattle.std.specs.List.{list_any}
use Rattle.std.proofs.lemmas.Bool.{eqb-true, eq-eqb}
use Rattle.sv_system.proofs.Lists.{Contains-head, Contains-later, Contains-filter}
use Rattle.sv_lattice.specs.Tables.{flow_test}
use Rattle.sv_flat.specs.Design.{FlatDesign}
use Rattle.sv_flat.proofs.AdmittedFacts.{and_true}
use Rattle.sv_flat.proofs.Depths.{first_of, second_of}
use Rattle.sv_flat.proofs.LeastSets.{some_from, from_some, Contains-from_filter}
use Rattle.sv_clause.specs.Literals.{literal_true}
use Rattle.sv_gates.specs.Formulas.{IsLiteral}
use Rattle.sv_gates.specs.Gates.{and_gate}
use Rattle.sv_gates.proofs.GateLaws.{literal_more, and_makes}
use Rattle.sv_circuits.specs.Words.{BitMaker}
use Rattle.sv_circuits.specs.Circuits.{GivesBit}
use Rattle.sv_circuits.proofs.Pieces.{GivesEach}
use Rattle.sv_encoding.specs.Labels.{PointLiteral, LabelForm, stay_bits}
use Rattle.sv_encoding.specs.LabelMeanings.{HasLiterals, HaveLiterals, SaysPoint, SayPoints, FlowsSay}
use Rattle.sv_encoding_laws.proofs.LabelWords.{same_truth, some_chain_gives}

-- ---- lists

abbrev Value : Type 0
Value = (ℕ → Bool) → Bool

any_join : {X : Type 0} (test : X → Bool) (xs ys : List X) →
    list_any test (xs ++ ys) ≡ (list_any test xs || list_any test ys)
any_join test [] ys = refl
any_join test (x ∷ xs) ys =
    ap (λ z. test x || z) (any_join test xs ys)
    ∙ sym (or_assoc (test x) (list_any test xs) (list_any test ys))
  where
    or_assoc : (a b c : Bool) → ((a || b) || c) ≡ (a || (b || c))
    or_assoc true b c = refl
    or_assoc false b c = refl

any_map : {X Y : Type 0} (test : Y → Bool) (f : X → Y) (xs : List X) →
    list_any test (map f xs) ≡ list_any (λ x. test (f x)) xs
any_map test f [] = refl
any_map test f (x ∷ xs) = ap (λ z. test (f x) || z) (any_map test f xs)

any_flat_map : {X Y : Type 0} (test : Y → Bool) (f : X → List Y) (xs : List X) →
    list_any test (flat_map f xs) ≡ list_any (λ x. list_any test (f x)) xs
any_flat_map test f [] = refl
any_flat_map test f (x ∷ xs) =
    any_join test (f x) (flat_map f xs)
    ∙ ap (λ z. list_any test (f x) || z) (any_flat_map test f xs)

any_same : {X : Type 0} (one other : X → Bool) → ((x : X) → one x ≡ other x) → (xs : List X) →
    list_any one xs ≡ list_any other xs
any_same one other same [] = refl
any_same one other same (x ∷ xs) = ap₂ ◌||◌ (same x) (any_same one other same xs)

each_join : (n : ℕ) (makes more : List BitMaker) (vs ws : List Value) → GivesEach n makes vs →
    GivesEach n more ws → GivesEach n (makes ++ more) (vs ++ ws)
each_join n [] more [] ws gives later = later
each_join n [] more (v ∷ vs) ws gives later = absurd gives
each_join n (make ∷ makes) more [] ws gives later = absurd gives
each_join n (make ∷ makes) more (v ∷ vs) ws gives later =
    (gives.0, each_join n makes more vs ws gives.1 later)

-- ---- pairs of points

module _ (design : FlatDesign) (target : LabelForm) where
  -- a point of the target that this one does not flow to
  abbrev stays_from : PointLiteral → PointLiteral → Bool
  stays_from l m = not (flow_test design.lattice l.point m.point)

  -- the labels are both points
  abbrev both : PointLiteral → PointLiteral → Value
  both l m values = literal_true values l.literal && literal_true values m.literal

  abbrev values_from : PointLiteral → List Value
  values_from l = map (both l) (filter (stays_from l) target)

  abbrev stay_values : LabelForm → List Value
  stay_values label = flat_map values_from label

  module _ (n : ℕ) (has : HasLiterals n target) where
    and_gives : (a b : ℤ) → IsLiteral n a → IsLiteral n b →
        GivesBit n (and_gate a b) (λ values. literal_true values a && literal_true values b)
    and_gives a b is_a is_b old h base =
        and_makes a b old base.closed (literal_more n old.variables a h is_a)
        (literal_more n old.variables b h is_b)

    pairs_each : (l : PointLiteral) → IsLiteral n l.literal → (ms : LabelForm) →
        HasLiterals n ms →
        GivesEach n (map (λ (m : PointLiteral). and_gate l.literal m.literal) ms) (map (both l) ms)
    pairs_each l is [] have = tt
    pairs_each l is (m ∷ ms) have = (
      and_gives l.literal m.literal is (have m (Contains-head m ms)),
      pairs_each l is ms (λ k at. have k (Contains-later m ms k at)),
    )

    label_each : (label : LabelForm) → HasLiterals n label →
        GivesEach n (stay_bits design label target) (stay_values label)
    label_each [] have = tt
    label_each (l ∷ label) have =
        let here = filter (stays_from l) target in
        each_join n (map (λ (m : PointLiteral). and_gate l.literal m.literal) here)
        (stay_bits design label target) (map (both l) here) (stay_values label)
        (pairs_each l (have l (Contains-head l label)) here
        (λ m at. has m (Contains-from_filter (stays_from l) target m at).1))
        (label_each label (λ k at. have k (Contains-later l label k at)))

    labels_each : (labels : List LabelForm) → HaveLiterals n labels →
        GivesEach n (flat_map (λ label. stay_bits design label target) labels)
        (flat_map stay_values labels)
    labels_each [] have = tt
    labels_each (label ∷ labels) have =
        each_join n (stay_bits design label target)
        (flat_map (λ label. stay_bits design label target) labels) (stay_values label)
        (flat_map stay_values labels)
        (label_each label (have label (Contains-head label labels)))
        (labels_each labels (λ k at. have k (Contains-later label labels k at)))

  -- ---- what they say

  module _ (values : ℕ → Bool) (q : ℕ) (says : SaysPoint values target q) where
    abbrev at : Value → Bool
    at v = v values

    abbrev stays : ℕ → Bool
    stays p = not (flow_test design.lattice p q)

    -- some pair is the one of the labels' points
    pairs_any : (label : LabelForm) →
        list_any at (stay_values label)
        ≡ list_any (λ l. list_any (λ m. both l m values) (filter (stays_from l) target)) label
    pairs_any label =
        any_flat_map at values_from label
        ∙ any_same (λ l. list_any at (values_from l))
        (λ l. list_any (λ m. both l m values) (filter (stays_from l) target))
        (λ l. any_map at (both l) (filter (stays_from l) target)) label

    label_stays : (label : LabelForm) (p : ℕ) → SaysPoint values label p →
        list_any at (stay_values label) ≡ stays p
    label_stays label p said =
        pairs_any label ∙ same_truth (list_any some_of label) (stays p) there back
      where
        some_of : PointLiteral → Bool
        some_of l = list_any (λ m. both l m values) (filter (stays_from l) target)

        there : IsTrue (list_any some_of label) → IsTrue (stays p)
        there some =
            let left = from_some some_of label some in
            let l = left.0 in
            let right = from_some (λ m. both l m values) (filter (stays_from l) target) left.2 in
            let m = right.0 in
            let kept = Contains-from_filter (stays_from l) target m right.1 in
            let is_l : l.point ≡ p =
            eqb-true l.point p (sym (said.exact l left.1)
            ∙ first_of (literal_true values l.literal) (literal_true values m.literal) right.2) in
            let is_m : m.point ≡ q =
            eqb-true m.point q (sym (says.exact m kept.1)
            ∙ second_of (literal_true values l.literal) (literal_true values m.literal) right.2) in
            subst (λ z. IsTrue (not (flow_test design.lattice z q))) is_l
            (subst (λ z. IsTrue (not (flow_test design.lattice l.point z))) is_m kept.0)

        back : IsTrue (stays p) → IsTrue (list_any some_of label)
        back stay =
            let left = said.found in
            let l = left.0 in
            let right = says.found in
            let m = right.0 in
            let apart : IsTrue (stays_from l m) =
            subst (λ z. IsTrue (not (flow_test design.lattice z m.point))) (sym left.2)
            (subst (λ z. IsTrue (not (flow_test design.lattice p z))) (sym right.2) stay) in
            some_from some_of label l left.1
            (some_from (λ k. both l k values) (filter (stays_from l) target) m
            (Contains-filter (stays_from l) target m right.1 apart)
            (and_true (literal_true values l.literal) (literal_true values m.literal)
            (said.exact l left.1 ∙ eq-eqb l.point p left.2)
            (says.exact m right.1 ∙ eq-eqb m.point q right.2)))

    labels_stay : (labels : List LabelForm) (points : List ℕ) → SayPoints values labels points →
        list_any at (flat_map stay_values labels) ≡ list_any stays points
    labels_stay [] [] say = refl
    labels_stay [] (p ∷ points) say = absurd say
    labels_stay (label ∷ labels) [] say = absurd say
    labels_stay (label ∷ labels) (p ∷ points) say =
        any_join at (stay_values label) (flat_map stay_values labels)
        ∙ ap₂ ◌||◌ (label_stays label p say.0) (labels_stay labels points say.1)

pub flows_say : FlowsSay
flows_say design labels target formula base have has =
    let n = formula.variables in
    let p = some_chain_gives n (flat_map (λ label. stay_bits design label target) labels)
    (flat_map (stay_values design target) labels) (labels_each design target n has labels have)
    formula (omega arith) base in
    record {
      extends = p.extends;
      within = p.within;
      says = λ values met points q say says.
          p.says values met ∙ labels_stay design target values q says labels points say;
    }
