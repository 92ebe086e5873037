-- Sizes of labels, and pairs of points that do not flow, told point by point.
use Rattle.std.proofs.Common.{◌≡◌, ℕ, ◌+◌, ◌-◌, ◌<◌, Bool, true, false, cond, not}
use Rattle.std.proofs.Common.{◌||◌, ◌&&◌, ◌==◌, List, [], ◌∷◌, length, map, filter, refl, sym}
use Rattle.std.proofs.Common.{ap, ap₂, ◌∙◌, arith, ltb-true, All}
use Rattle.std.specs.Prelude.{sum, count_by, flat_map, Contains, IsTrue, slice_index_or}
use Rattle.std.specs.List.{list_any, range_with_len}
use Rattle.std.proofs.lemmas.Bool.{false≢true, eqb-true, eq-eqb}
use Rattle.std.proofs.lemmas.List.Concat.{length-flat_map}
use Rattle.std.proofs.lemmas.List.Elements.{All-head, All-tail, Contains-get_or}
use Rattle.std.proofs.lemmas.List.FromFn.{fill_by_all}
use Rattle.std.proofs.lemmas.List.Sums.{length-filter, sum-map, sum_by-cons}
use Rattle.sv_lattice.specs.declared.points.Point.{Point}
use Rattle.sv_lattice.specs.declared.labels.Label.{Label}
use Rattle.sv_lattice.specs.declared.labels.Label.TheVariants.{Point as Declared, Table}
use Rattle.sv_lattice.specs.Maps.{MapRows, row_of}
use Rattle.sv_lattice.specs.Tables.{flow_test}
use Rattle.sv_flat.specs.Design.{SignalForm, FlatDesign}
use Rattle.sv_flat.specs.Values.{signal_of}
use Rattle.sv_flat.specs.Soundness.{is_one_to, label_sound, signal_sound}
use Rattle.sv_flat.specs.Soundness.{sound}
use Rattle.sv_flat.specs.Sets.{those}
use Rattle.sv_flat.proofs.Depths.{second_of, from_all}
use Rattle.sv_rules.proofs.Sound.{all_signals}
use Rattle.sv_encoding.specs.Labels.{row_points, keys_of}
use Rattle.sv_encoding.specs.Sizes.{point_size, label_points}
use Rattle.sv_encoding.specs.Sizes.{label_of_signal, stay_count}
use Rattle.sv_encoding_laws.proofs.GateCounts.{mapped_more}
use Rattle.sv_blast.specs.PointSizes.{points_size, has_point, stays_from, stays_between, stays_at}
use Rattle.sv_blast.specs.PointSizes.{stays_of}
use Rattle.sv_blast.proofs.SizeSums.{range_same, kept_sum, passing_sum, passing_both, one_in_range}

-- ---- keys

mapped_count : {X : Type 0} (f : ℕ → X) (test : X → Bool) (xs : List ℕ) →
    count_by test (map f xs) ≡ count_by (λ k. test (f k)) xs
mapped_count f test [] = refl
mapped_count f test (x ∷ xs) =
    sum_by-cons (λ y. cond (test y) 1 0) (f x) (map f xs)
    ∙ ap (λ n. cond (test (f x)) 1 0 + n) (mapped_count f test xs)
    ∙ sym (sum_by-cons (λ k. cond (test (f k)) 1 0) x xs)

-- as many keys have a point as rows
keys_count : (rows : MapRows) (p : ℕ) →
    length (keys_of rows p) ≡ count_by (λ (row : Point). row.0 == p) rows.rows
keys_count rows p =
    let none : Point = record { 0 = 0 } in
    let n = length rows.rows in
    length-filter (λ key. (row_of rows key).0 == p) (range_with_len 0 n)
    ∙ sym (mapped_count (row_of rows) (λ (row : Point). row.0 == p) (range_with_len 0 n))
    ∙ ap (count_by (λ (row : Point). row.0 == p))
    (sym (fill_by_all (row_of rows) rows.rows n none refl (λ k inside. refl)))

-- a point of no row has none
no_row : (rows : List Point) (p : ℕ) → list_any (λ (row : Point). row.0 == p) rows ≡ false →
    count_by (λ (row : Point). row.0 == p) rows ≡ 0
no_row [] p none = refl
no_row (row ∷ rows) p none =
    sum_by-cons (λ (r : Point). cond (r.0 == p) 1 0) row rows
    ∙ by (row.0 == p) none (no_row rows p)
  where
    by : (c : Bool) → (c || list_any (λ (r : Point). r.0 == p) rows) ≡ false →
        (list_any (λ (r : Point). r.0 == p) rows ≡ false →
        count_by (λ (r : Point). r.0 == p) rows ≡ 0) →
        cond c 1 0 + count_by (λ (r : Point). r.0 == p) rows ≡ 0
    by true e rest = absurd (false≢true (sym e))
    by false e rest = omega (arith, rest e)

-- the gates of the points of a map's rows
pub table_size : (design : FlatDesign) (rows : MapRows) (width : ℕ) →
    points_size width rows.rows (range_with_len 0 (length design.lattice))
    ≡ sum (map (λ p. point_size width (length (keys_of rows p))) (row_points design rows))
table_size design rows width =
    let n = length design.lattice in
    let by_rows = λ (p : ℕ). point_size width (count_by (λ (row : Point). row.0 == p) rows.rows) in
    let by_keys = λ (p : ℕ). point_size width (length (keys_of rows p)) in
    let stands = λ (p : ℕ). list_any (λ (row : Point). row.0 == p) rows.rows in
    range_same by_rows by_keys 0 n
    (λ p low high. ap (point_size width) (sym (keys_count rows p)))
    ∙ sym (kept_sum by_keys stands (λ p none.
    ap (point_size width) (keys_count rows p ∙ no_row rows.rows p none) ∙ nothing)
    (range_with_len 0 n))
  where
    nothing : point_size width 0 ≡ 0
    nothing = omega arith

-- ---- pairs

module _ (design : FlatDesign) where
  pub label_is_sound : IsTrue (sound design) → (signal : SignalForm) →
      Contains design.signals signal → IsTrue (label_sound design signal.label)
  label_is_sound h signal at =
      second_of (is_one_to 64 signal.width) (label_sound design signal.label)
      (from_all (signal_sound design) design.signals signal (all_signals design h) at)

  -- the points that a sound label may be
  points_are : (label : Label) → IsTrue (label_sound design label) →
      label_points design label ≡ those (length design.lattice) (has_point design label)
  points_are (Declared point) h =
      sym (one_in_range (λ p. point.0 == p) point.0 0 (length design.lattice) (omega arith)
      (let low = ltb-true point.0 (length design.lattice) h in omega arith)
      (eq-eqb point.0 point.0 refl) (λ k l high t. sym (eqb-true point.0 k t)))
  points_are (Table k first second) h = refl

  module _ (label target : Label) where
    -- to how many of the target's points one does not flow
    abbrev Stays : ℕ → ℕ
    Stays p =
        sum (map (λ q. cond (has_point design target q && not (flow_test design.lattice p q)) 1 0)
        (range_with_len 0 (length design.lattice)))

    pairs_are : IsTrue (label_sound design label) → IsTrue (label_sound design target) →
        stay_count design label target
        ≡ sum (map (λ p. cond (has_point design label p) (Stays p) 0)
        (range_with_len 0 (length design.lattice)))
    pairs_are l t =
        let n = length design.lattice in
        let stay = λ (p : ℕ) (q : ℕ). not (flow_test design.lattice p q) in
        let to = λ (p : ℕ). filter (stay p) (those n (has_point design target)) in
        ap₂ (λ ps qs. length (flat_map (λ p. filter (stay p) qs) ps)) (points_are label l)
        (points_are target t)
        ∙ length-flat_map to (those n (has_point design label))
        ∙ sym (sum-map (λ p. length (to p)) (those n (has_point design label)))
        ∙ passing_sum (λ p. length (to p)) (has_point design label) (range_with_len 0 n)
        ∙ range_same (λ p. cond (has_point design label p) (length (to p)) 0)
        (λ p. cond (has_point design label p) (Stays p) 0) 0 n
        (λ p low high. ap (λ k. cond (has_point design label p) k 0)
        (passing_both (has_point design target) (stay p) (range_with_len 0 n)))

  -- the same where the points stand in lists
  pub stays_listed : (target : Label) (marks : List Bool) →
      ((p : ℕ) → p < length design.lattice →
      slice_index_or marks p false ≡ has_point design target p) → (p : ℕ) →
      stays_from design.lattice p marks (range_with_len 0 (length design.lattice))
      ≡ sum (map (λ q. cond (has_point design target q && not (flow_test design.lattice p q)) 1 0)
      (range_with_len 0 (length design.lattice)))
  stays_listed target marks are p =
      range_same (λ q. cond (slice_index_or marks q false && not (flow_test design.lattice p q)) 1 0)
      (λ q. cond (has_point design target q && not (flow_test design.lattice p q)) 1 0)
      0 (length design.lattice)
      (λ q low high. ap (λ b. cond (b && not (flow_test design.lattice p q)) 1 0)
      (are q (omega arith)))

  pub between_listed : (label : Label) (marks target : List Bool) →
      ((p : ℕ) → p < length design.lattice →
      slice_index_or marks p false ≡ has_point design label p) →
      stays_between design.lattice marks target (range_with_len 0 (length design.lattice))
      ≡ sum (map (λ p. cond (has_point design label p)
      (stays_from design.lattice p target (range_with_len 0 (length design.lattice))) 0)
      (range_with_len 0 (length design.lattice)))
  between_listed label marks target are =
      let n = length design.lattice in
      range_same (λ p. cond (slice_index_or marks p false)
      (stays_from design.lattice p target (range_with_len 0 n)) 0)
      (λ p. cond (has_point design label p)
      (stays_from design.lattice p target (range_with_len 0 n)) 0) 0 n
      (λ p low high. ap (λ b. cond b (stays_from design.lattice p target (range_with_len 0 n)) 0)
      (are p (omega arith)))

  pub sound_at : IsTrue (sound design) → (t : ℕ) → t < length design.signals →
      IsTrue (label_sound design (label_of_signal design t))
  sound_at h t known = label_is_sound h (signal_of design.signals t)
      (Contains-get_or design.signals t _ known)

  -- the pairs of a signal's label and the target's
  stays_counted : IsTrue (sound design) → (target : Label) → IsTrue (label_sound design target) →
      (marks : List Bool) → ((p : ℕ) → p < length design.lattice →
      slice_index_or marks p false ≡ has_point design target p) → (t : ℕ) →
      t < length design.signals →
      stays_at design marks t ≡ stay_count design (label_of_signal design t) target
  stays_counted h target sound_target marks are t known =
      let n = length design.lattice in
      let label = label_of_signal design t in
      let d = signal_of design.signals t in
      range_same (λ p. cond (has_point design label p)
      (stays_from design.lattice p marks (range_with_len 0 n)) 0)
      (λ p. cond (has_point design label p) (Stays label target p) 0) 0 n
      (λ p low high. ap (λ k. cond (has_point design label p) k 0)
      (stays_listed target marks are p))
      ∙ sym (pairs_are label target (sound_at h t known) sound_target)

  pub all_counted : IsTrue (sound design) → (s : ℕ) → s < length design.signals →
      (marks : List Bool) → ((p : ℕ) → p < length design.lattice →
      slice_index_or marks p false ≡ has_point design (label_of_signal design s) p) →
      (reads : List ℕ) → All (λ t. t < length design.signals) reads →
      stays_of design marks reads
      ≡ sum (map (λ t. stay_count design (label_of_signal design t) (label_of_signal design s))
      reads)
  all_counted h s known marks are [] all = refl
  all_counted h s known marks are (t ∷ reads) all =
      mapped_more (stays_at design marks) t reads
      ∙ ap₂ ◌+◌
      (stays_counted h (label_of_signal design s) (sound_at h s known) marks are t
      (All-head (λ k. k < length design.signals) t reads all))
      (all_counted h s known marks are reads
      (All-tail (λ k. k < length design.signals) t reads all))
      ∙ sym (mapped_more
      (λ u. stay_count design (label_of_signal design u) (label_of_signal design s)) t reads)
