-- How many variables labels take, and flows between them.
use Rattle.std.proofs.Common.{◌≡◌, ℕ, suc, ◌+◌, ◌-◌, ◌*◌, Bool, true, false, not, cond, List, [], ◌∷◌, ◌++◌}
use Rattle.std.proofs.Common.{map, length, filter, refl, sym, ap, ap₂, ◌∙◌, arith, length-append}
use Rattle.std.specs.Prelude.{Contains, flat_map, sum, Some, None}
use Rattle.sv_system.proofs.Lists.{Contains-head, Contains-later}
use Rattle.sv_lattice.specs.declared.labels.Label.{Label}
use Rattle.sv_lattice.specs.declared.labels.Label.TheVariants.{Point as Declared, Table}
use Rattle.sv_lattice.specs.Maps.{MapRows}
use Rattle.sv_lattice.specs.Labels.{map_of}
use Rattle.sv_lattice.specs.Tables.{flow_test}
use Rattle.sv_flat.specs.Design.{FlatDesign}
use Rattle.sv_flat.specs.Values.{signal_of, signal_width}
use Rattle.sv_flat.specs.Selectors.{selectors_of}
use Rattle.sv_flat.proofs.Members.{Contains-left, Contains-right}
use Rattle.sv_gates.specs.Formulas.{Formula}
use Rattle.sv_gates.specs.Gates.{false_literal, and_gate, or_gate}
use Rattle.sv_circuits.specs.Words.{Word, BitMaker, equals_number_bit}
use Rattle.sv_encoding.specs.Expressions.{Words}
use Rattle.sv_encoding.specs.Cones.{label_selectors}
use Rattle.sv_encoding.specs.Labels.{PointLiteral, LabelForm, selector_word, row_points, keys_of}
use Rattle.sv_encoding.specs.Labels.{point_bit, point_literals, label_literals, signal_label}
use Rattle.sv_encoding.specs.Labels.{signal_labels, stay_bits, some_stays_bit}
use Rattle.sv_encoding.specs.LabelMeanings.{selectors_for}
use Rattle.sv_encoding.specs.Sizes.{point_size, label_size, label_points}
use Rattle.sv_encoding.specs.Sizes.{label_of_signal, stay_count, stays_size}
use Rattle.sv_encoding_laws.proofs.GateCounts.{EachTakes, chain_count, and_count, or_count}
use Rattle.sv_encoding_laws.proofs.GateCounts.{test_count, mapped_more}

-- ---- one label

tests_take : (selector : Word) (keys : List ℕ) →
    EachTakes (length selector - 1) (map (equals_number_bit selector) keys)
tests_take selector [] = tt
tests_take selector (key ∷ keys) = (test_count selector key, tests_take selector keys)

tests_length : (selector : Word) (keys : List ℕ) →
    length (map (equals_number_bit selector) keys) ≡ length keys
tests_length selector [] = refl
tests_length selector (key ∷ keys) = ap suc (tests_length selector keys)

times_turned : (a b : ℕ) → a * b ≡ b * a
times_turned a b = grind arith

point_count : (rows : MapRows) (selector : Word) (p : ℕ) (old : Formula) →
    (point_bit rows selector p old).0.variables
    ≡ old.variables + point_size (length selector) (length (keys_of rows p))
point_count rows selector p old =
    let keys = keys_of rows p in
    chain_count or_gate or_count (length selector - 1) (map (equals_number_bit selector) keys)
    (tests_take selector keys) false_literal old
    ∙ ap (λ n. old.variables + ((length selector - 1) * n + (n - 1))) (tests_length selector keys)
    ∙ omega (arith, times_turned (length selector - 1) (length keys))

points_count : (rows : MapRows) (selector : Word) (width : ℕ) → length selector ≡ width →
    (ps : List ℕ) (old : Formula) →
    (point_literals rows selector ps old).0.variables
    ≡ old.variables + sum (map (λ p. point_size width (length (keys_of rows p))) ps)
points_count rows selector width e [] old = omega arith
points_count rows selector width e (p ∷ ps) old =
    let first = point_bit rows selector p old in
    points_count rows selector width e ps first.0
    ∙ omega (
      arith,
      point_count rows selector p old
          ∙ ap (λ n. old.variables + point_size n (length (keys_of rows p))) e,
      mapped_more (λ q. point_size width (length (keys_of rows q))) p ps,
    )

abbrev pub points_of : LabelForm → List ℕ
points_of label = map (λ (l : PointLiteral). l.point) label

points_are : (rows : MapRows) (selector : Word) (ps : List ℕ) (old : Formula) →
    points_of (point_literals rows selector ps old).1 ≡ ps
points_are rows selector [] old = refl
points_are rows selector (p ∷ ps) old =
    ap (λ qs. p ∷ qs) (points_are rows selector ps (point_bit rows selector p old).0)

module _ (design : FlatDesign) where
  -- the literals of a signal's label are those of its points
  abbrev pub HasPoints : LabelForm → ℕ → Type 0
  HasPoints label s = points_of label ≡ label_points design (label_of_signal design s)

  abbrev pub HavePoints : List LabelForm → List ℕ → Type 0
  HavePoints [] [] = Unit {0}
  HavePoints [] (s ∷ ss) = ⊥
  HavePoints (label ∷ labels) [] = ⊥
  HavePoints (label ∷ labels) (s ∷ ss) = HasPoints label s × HavePoints labels ss

module _ (design : FlatDesign) (words : Words) where
  abbrev pub AreLong : List ℕ → Type 0
  AreLong ss = (t : ℕ) → Contains ss t → length (words t) ≡ signal_width design.signals t

  label_count : (label : Label) → AreLong (selectors_of label) → (old : Formula) →
      (label_literals design words label old).0.variables ≡ old.variables + label_size design label
  label_count (Declared point) long old = omega arith
  label_count (Table k first None) long old =
      let rows = map_of design.maps k in
      points_count rows (words first) (signal_width design.signals first)
      (long first (Contains-head first [])) (row_points design rows) old
  label_count (Table k first (Some second)) long old =
      let rows = map_of design.maps k in
      points_count rows (words second ++ words first)
      (signal_width design.signals second + signal_width design.signals first)
      (length-append (words second) (words first)
      ∙ ap₂ ◌+◌ (long second (Contains-later first (second ∷ []) second (Contains-head second [])))
      (long first (Contains-head first (second ∷ [])))) (row_points design rows) old

  pub label_points_are : (label : Label) (old : Formula) →
      points_of (label_literals design words label old).1 ≡ label_points design label
  label_points_are (Declared point) old = refl
  label_points_are (Table k first second) old =
      let rows = map_of design.maps k in
      points_are rows (selector_word words first second) (row_points design rows) old

  pub signal_label_count : (s : ℕ) → AreLong (label_selectors design s) → (old : Formula) →
      (signal_label design words s old).0.variables
      ≡ old.variables + label_size design (label_of_signal design s)
  signal_label_count s long old = label_count (signal_of design.signals s).label long old

  pub signal_label_points : (s : ℕ) (old : Formula) →
      HasPoints design (signal_label design words s old).1 s
  signal_label_points s old = label_points_are (signal_of design.signals s).label old

  pub labels_count : (ss : List ℕ) → AreLong (selectors_for design ss) → (old : Formula) →
      (signal_labels design words ss old).0.variables
      ≡ old.variables + sum (map (λ t. label_size design (label_of_signal design t)) ss)
  labels_count [] long old = omega arith
  labels_count (s ∷ ss) long old =
      let here = label_selectors design s in
      let later = selectors_for design ss in
      let first = signal_label design words s old in
      labels_count ss (λ t at. long t (Contains-right here later t at)) first.0
      ∙ omega (
        arith,
        signal_label_count s (λ t at. long t (Contains-left here later t at)) old,
        mapped_more (λ t. label_size design (label_of_signal design t)) s ss,
      )

  pub labels_points : (ss : List ℕ) (old : Formula) →
      HavePoints design (signal_labels design words ss old).1 ss
  labels_points [] old = tt
  labels_points (s ∷ ss) old =
      (signal_label_points s old, labels_points ss (signal_label design words s old).0)

-- ---- flows

joined_take : (k : ℕ) (xs ys : List BitMaker) → EachTakes k xs → EachTakes k ys →
    EachTakes k (xs ++ ys)
joined_take k [] ys first second = second
joined_take k (x ∷ xs) ys first second = (first.0, joined_take k xs ys first.1 second)

pairs_take : (p : PointLiteral) (qs : LabelForm) →
    EachTakes 1 (map (λ (q : PointLiteral). and_gate p.literal q.literal) qs)
pairs_take p [] = tt
pairs_take p (q ∷ qs) = (and_count p.literal q.literal, pairs_take p qs)

stays_take : (design : FlatDesign) (label target : LabelForm) →
    EachTakes 1 (stay_bits design label target)
stays_take design [] target = tt
stays_take design (p ∷ label) target =
    let stay = filter (λ (q : PointLiteral). not (flow_test design.lattice p.point q.point)) target in
    joined_take 1 (map (λ (q : PointLiteral). and_gate p.literal q.literal) stay)
    (stay_bits design label target) (pairs_take p stay) (stays_take design label target)

all_take : (design : FlatDesign) (labels : List LabelForm) (target : LabelForm) →
    EachTakes 1 (flat_map (λ label. stay_bits design label target) labels)
all_take design [] target = tt
all_take design (label ∷ labels) target =
    joined_take 1 (stay_bits design label target)
    (flat_map (λ label. stay_bits design label target) labels)
    (stays_take design label target) (all_take design labels target)

pairs_length : (test : ℕ → Bool) (p : PointLiteral) (target : LabelForm) →
    length (map (λ (q : PointLiteral). and_gate p.literal q.literal)
    (filter (λ (q : PointLiteral). test q.point) target))
    ≡ length (filter test (points_of target))
pairs_length test p [] = refl
pairs_length test p (q ∷ target) = by (test q.point) (pairs_length test p target)
  where
    by : (c : Bool) →
        length (map (λ (r : PointLiteral). and_gate p.literal r.literal)
        (filter (λ (r : PointLiteral). test r.point) target))
        ≡ length (filter test (points_of target)) →
        length (map (λ (r : PointLiteral). and_gate p.literal r.literal)
        (cond c (q ∷ filter (λ (r : PointLiteral). test r.point) target)
        (filter (λ (r : PointLiteral). test r.point) target)))
        ≡ length (cond c (q.point ∷ filter test (points_of target)) (filter test (points_of target)))
    by true e = omega (arith, e)
    by false e = e

pub stays_length : (design : FlatDesign) (label target : LabelForm) →
    length (stay_bits design label target)
    ≡ length (flat_map (λ p. filter (λ q. not (flow_test design.lattice p q)) (points_of target))
    (points_of label))
stays_length design [] target = refl
stays_length design (p ∷ label) target =
    let test : ℕ → Bool = λ q. not (flow_test design.lattice p.point q) in
    length-append (map (λ (q : PointLiteral). and_gate p.literal q.literal)
    (filter (λ (q : PointLiteral). test q.point) target)) (stay_bits design label target)
    ∙ ap₂ ◌+◌ (pairs_length test p target) (stays_length design label target)
    ∙ sym (length-append (filter test (points_of target))
    (flat_map (λ p. filter (λ q. not (flow_test design.lattice p q)) (points_of target))
    (points_of label)))

all_length : (design : FlatDesign) (labels : List LabelForm) (reads : List ℕ)
    (target : LabelForm) (s : ℕ) → HavePoints design labels reads →
    HasPoints design target s →
    length (flat_map (λ label. stay_bits design label target) labels)
    ≡ sum (map (λ t. stay_count design (label_of_signal design t) (label_of_signal design s)) reads)
all_length design [] [] target s have has = refl
all_length design [] (t ∷ reads) target s have has = absurd have
all_length design (label ∷ labels) [] target s have has = absurd have
all_length design (label ∷ labels) (t ∷ reads) target s have has =
    let one : length (stay_bits design label target)
    ≡ stay_count design (label_of_signal design t) (label_of_signal design s) =
    stays_length design label target
    ∙ ap₂ (λ ps qs. length (flat_map (λ p. filter (λ q. not (flow_test design.lattice p q)) qs)
    ps)) have.0 has in
    length-append (stay_bits design label target)
    (flat_map (λ label. stay_bits design label target) labels)
    ∙ ap₂ ◌+◌ one (all_length design labels reads target s have.1 has)
    ∙ sym (mapped_more (λ u. stay_count design (label_of_signal design u) (label_of_signal design s))
    t reads)

pub some_stays_count : (design : FlatDesign) (labels : List LabelForm)
    (reads : List ℕ) (target : LabelForm) (s : ℕ) (old : Formula) →
    HavePoints design labels reads → HasPoints design target s →
    (some_stays_bit design labels target old).0.variables
    ≡ old.variables + stays_size design reads s
some_stays_count design labels reads target s old have has =
    chain_count or_gate or_count 1 (flat_map (λ label. stay_bits design label target) labels)
    (all_take design labels target) false_literal old
    ∙ ap (λ n. old.variables + (1 * n + (n - 1)))
    (all_length design labels reads target s have has)
    ∙ omega arith
