-- The points of a label one after the other, and the keys of each.
use Rattle.std.proofs.Common.{◌≡◌, ℕ, suc, ◌+◌, ◌-◌, ◌≤◌, ◌<◌, Bool, true, false, cond, ◌==◌, ℤ}
use Rattle.std.proofs.Common.{List, [], ◌∷◌, ◌++◌, map, length, sym, ap, ◌∙◌, subst, arith}
use Rattle.std.specs.Prelude.{filter}
use Rattle.std.specs.List.{list_any, range_with_len}
use Rattle.std.proofs.lemmas.List.{append-nil}
use Rattle.std.proofs.lemmas.List.Elements.{All-push, All-weaker}
use Rattle.sv_lattice.specs.declared.points.Point.{Point}
use Rattle.sv_lattice.specs.Maps.{MapRows, row_of}
use Rattle.sv_flat.specs.Sets.{those}
use Rattle.sv_gates.specs.Formulas.{Formula, IsLiteral}
use Rattle.sv_gates.specs.Extending.{Begins}
use Rattle.sv_gates.proofs.ExtendingLaws.{begins_trans}
use Rattle.sv_circuits.specs.Words.{Word, BitMaker, equals_number_bit}
use Rattle.sv_circuits.proofs.WordKeeps.{step_behind}
use Rattle.sv_encoding.specs.Labels.{PointLiteral, LabelForm, keys_of, point_bit, point_literals}
use Rattle.sv_encoding_laws.proofs.GateCounts.{test_count}
use Rattle.sv_blast.specs.LabelViews.{AreWithin, AreBelow}
use Rattle.sv_blast.proofs.OrChains.{Grows, EachGrows, or_grows}

-- ---- numbers in turn

-- the numbers from this one up to n that pass a test
abbrev pub those_from : (i n : ℕ) → (ℕ → Bool) → List ℕ
those_from i n test = filter test (range_with_len i (n - i))

pub those_start : (n : ℕ) (test : ℕ → Bool) → those n test ≡ those_from 0 n test
those_start n test =
    let e : n ≡ n - 0 = omega arith in ap (λ z. filter test (range_with_len 0 z)) e

range_more : (i n : ℕ) → i < n → range_with_len i (n - i) ≡ i ∷ range_with_len (i + 1) (n - (i + 1))
range_more i n h =
    let e : n - i ≡ suc (n - (i + 1)) = omega arith in ap (λ z. range_with_len i z) e

pub those_take : (i n : ℕ) (test : ℕ → Bool) → i < n → test i ≡ true →
    those_from i n test ≡ i ∷ those_from (i + 1) n test
those_take i n test h e =
    let rest = those_from (i + 1) n test in
    ap (filter test) (range_more i n h) ∙ ap (λ c. cond c (i ∷ rest) rest) e

pub those_skip : (i n : ℕ) (test : ℕ → Bool) → i < n → test i ≡ false →
    those_from i n test ≡ those_from (i + 1) n test
those_skip i n test h e =
    let rest = those_from (i + 1) n test in
    ap (filter test) (range_more i n h) ∙ ap (λ c. cond c (i ∷ rest) rest) e

pub those_end : (i n : ℕ) (test : ℕ → Bool) → n ≤ i → those_from i n test ≡ []
those_end i n test h =
    let e : n - i ≡ 0 = omega arith in ap (λ z. filter test (range_with_len i z)) e

-- ---- the keys of a point

-- the row of a number is this point
abbrev pub selects : MapRows → (point : ℕ) → ℕ → Bool
selects rows p key = (row_of rows key).0 == p

-- of the keys from this one up, whether the selector is one
abbrev pub key_tests : MapRows → (selector : Word) → (point i : ℕ) → List BitMaker
key_tests rows selector p i =
    map (equals_number_bit selector) (those_from i (length rows.rows) (selects rows p))

test_grows : (selector : Word) (key : ℕ) → Grows (equals_number_bit selector key)
test_grows selector key f = let e = test_count selector key f in omega (arith, e)

tests_grow : (selector : Word) (keys : List ℕ) → EachGrows (map (equals_number_bit selector) keys)
tests_grow selector [] = tt
tests_grow selector (key ∷ keys) = (test_grows selector key, tests_grow selector keys)

pub keys_grow : (rows : MapRows) (selector : Word) (p i : ℕ) →
    EachGrows (key_tests rows selector p i)
keys_grow rows selector p i =
    tests_grow selector (those_from i (length rows.rows) (selects rows p))

pub keys_start : (rows : MapRows) (selector : Word) (p : ℕ) →
    map (equals_number_bit selector) (keys_of rows p) ≡ key_tests rows selector p 0
keys_start rows selector p =
    ap (map (equals_number_bit selector)) (those_start (length rows.rows) (selects rows p))

pub keys_take : (rows : MapRows) (selector : Word) (p i : ℕ) → i < length rows.rows →
    selects rows p i ≡ true →
    key_tests rows selector p i
    ≡ equals_number_bit selector i ∷ key_tests rows selector p (i + 1)
keys_take rows selector p i h e =
    ap (map (equals_number_bit selector))
    (those_take i (length rows.rows) (selects rows p) h e)

pub keys_skip : (rows : MapRows) (selector : Word) (p i : ℕ) → i < length rows.rows →
    selects rows p i ≡ false →
    key_tests rows selector p i ≡ key_tests rows selector p (i + 1)
keys_skip rows selector p i h e =
    ap (map (equals_number_bit selector))
    (those_skip i (length rows.rows) (selects rows p) h e)

pub keys_end : (rows : MapRows) (selector : Word) (p i : ℕ) → length rows.rows ≤ i →
    key_tests rows selector p i ≡ []
keys_end rows selector p i h =
    ap (map (equals_number_bit selector)) (those_end i (length rows.rows) (selects rows p) h)

pub point_grows : (rows : MapRows) (selector : Word) (p : ℕ) → Grows (point_bit rows selector p)
point_grows rows selector p f =
    or_grows (map (equals_number_bit selector) (keys_of rows p)) f
    (tests_grow selector (keys_of rows p))

-- ---- points in turn

-- what is made, behind a front that is in hand
abbrev pub behind : {A : Type 0} → List A → Formula × List A → Formula × List A
behind front made = (made.0, front ++ made.1)

-- some row is the point
abbrev pub is_among : MapRows → ℕ → Bool
is_among rows p = list_any (λ (row : Point). row.0 == p) rows.rows

pub points_grow : (rows : MapRows) (selector : Word) (ps : List ℕ) (f : Formula) →
    f.variables ≤ ((point_literals rows selector ps f).0).variables
points_grow rows selector [] f = omega arith
points_grow rows selector (p ∷ ps) f =
    let first = point_bit rows selector p f in
    let one = point_grows rows selector p f in
    let more = points_grow rows selector ps first.0 in
    omega (arith, one, more)

points_step : (rows : MapRows) (selector : Word) (points more : List ℕ) (front : LabelForm)
    (p : ℕ) (l : ℤ) (now later : Formula) → points ≡ p ∷ more →
    point_bit rows selector p now ≡ (later, l) →
    behind front (point_literals rows selector points now)
    ≡ behind (front ++ record { point = p; literal = l } ∷ [])
    (point_literals rows selector more later)
points_step rows selector points more front p l now later ep e =
    ap (λ z. behind front (point_literals rows selector z now)) ep
    ∙ step_behind front (λ (l : ℤ). record { point = p; literal = l })
    (λ f. point_literals rows selector more f) (point_bit rows selector p now) later l e

-- the literals that are left from the present formula on; those in hand are of its variables, and of
-- points below n
pub record PointsAt (whole : Formula × LabelForm) (rows : MapRows) (selector : Word)
    (points : List ℕ) (old now : Formula) (n : ℕ) (label : LabelForm) : Type 0 where
  pub made : whole ≡ behind label (point_literals rows selector points now)
  pub within : AreWithin now.variables label
  pub below : AreBelow n label
  pub begins : Begins old now

pub label_up : (m n : ℕ) (label : LabelForm) → m ≤ n → AreWithin m label → AreWithin n label
label_up m n label h is =
    All-weaker (λ (p : PointLiteral). IsLiteral m p.literal)
    (λ (p : PointLiteral). IsLiteral n p.literal)
    (λ p one. (one.0, omega (arith, one.1, h))) label is

pub points_more : (whole : Formula × LabelForm) (rows : MapRows) (selector : Word)
    (points more : List ℕ) (old now later : Formula) (n : ℕ) (label : LabelForm) (p : ℕ) (l : ℤ) →
    PointsAt whole rows selector points old now n label → points ≡ p ∷ more → p < n →
    point_bit rows selector p now ≡ (later, l) → Begins now later →
    IsLiteral later.variables l →
    PointsAt whole rows selector more old later n (label ++ record { point = p; literal = l } ∷ [])
points_more whole rows selector points more old now later n label p l at ep low e up is = record {
  made = at.made ∙ points_step rows selector points more label p l now later ep e;
  within = All-push (λ (q : PointLiteral). IsLiteral later.variables q.literal) label
      (record { point = p; literal = l })
      (label_up now.variables later.variables label up.grows at.within) is;
  below = All-push (λ (q : PointLiteral). q.point < n) label
      (record { point = p; literal = l }) at.below low;
  begins = begins_trans old now later at.begins up;
}

pub points_same : (whole : Formula × LabelForm) (rows : MapRows) (selector : Word)
    (points more : List ℕ) (old now : Formula) (n : ℕ) (label : LabelForm) →
    PointsAt whole rows selector points old now n label → points ≡ more →
    PointsAt whole rows selector more old now n label
points_same whole rows selector points more old now n label at e =
    subst (λ z. PointsAt whole rows selector z old now n label) e at

pub points_full : (whole : Formula × LabelForm) (rows : MapRows) (selector : Word)
    (points more : List ℕ) (old now : Formula) (n : ℕ) (label : LabelForm) (p most : ℕ) →
    PointsAt whole rows selector points old now n label → points ≡ p ∷ more →
    most < ((point_bit rows selector p now).0).variables → most < (whole.0).variables
points_full whole rows selector points more old now n label p most at ep h =
    let up = points_grow rows selector more (point_bit rows selector p now).0 in
    subst (λ (z : Formula × LabelForm). most < (z.0).variables) (sym at.made)
    (subst (λ z. most < ((point_literals rows selector z now).0).variables) (sym ep)
    (omega (arith, up, h)))

pub points_end : (whole : Formula × LabelForm) (rows : MapRows) (selector : Word)
    (points : List ℕ) (old now : Formula) (n : ℕ) (label : LabelForm) →
    PointsAt whole rows selector points old now n label → points ≡ [] → whole ≡ (now, label)
points_end whole rows selector points old now n label at e =
    at.made ∙ ap (λ z. behind label (point_literals rows selector z now)) e
    ∙ ap (λ z. (now, z)) (append-nil label)
