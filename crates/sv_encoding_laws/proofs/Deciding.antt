-- Where labels alone show that an obligation is valid, the first clause of its encoding and the
-- last one refute each other.
use Rattle.std.proofs.Common.{◌≡◌, ℕ, ◌+◌, ◌-◌, Bool, true, false, not, ◌==◌, ℤ, List, [], ◌∷◌}
use Rattle.std.proofs.Common.{◌++◌, map, filter, length, Some, refl, sym, ap, ap₂, subst, ◌∙◌}
use Rattle.std.proofs.Common.{arith, sum}
use Rattle.std.specs.Prelude.{IsTrue, flat_map, slice_get, sum_by}
use Rattle.std.proofs.lemmas.Bool.{eqb-true, false≢true}
use Rattle.std.proofs.lemmas.List.{length-append, nil_from_length}
use Rattle.std.proofs.lemmas.List.Sums.{fold-append, sum_by-cons, sum-map}
use Rattle.sv_lattice.specs.Tables.{flow_test}
use Rattle.sv_flat.specs.Design.{FlatDesign}
use Rattle.sv_obl.specs.Obligations.{GoalForm, flow, holds as must_hold, selector}
use Rattle.sv_gates.specs.Formulas.{Formula}
use Rattle.sv_gates.specs.Gates.{start, true_literal, false_literal, with_unit}
use Rattle.sv_gates.specs.NormalForms.{put, ascending, with_clause}
use Rattle.sv_gates.specs.Extending.{Begins}
use Rattle.sv_gates.proofs.ExtendingLaws.{begins_none, begins_trans, front_and_rest}
use Rattle.sv_gates.proofs.GateLaws.{unit_begins}
use Rattle.sv_circuits.specs.Words.{BitMaker, or_chain}
use Rattle.sv_encoding.specs.Expressions.{Words}
use Rattle.sv_encoding.specs.Labels.{LabelForm}
use Rattle.sv_encoding.specs.Labels.{signal_label}
use Rattle.sv_encoding.specs.Labels.{signal_labels, stay_bits, some_stays_bit}
use Rattle.sv_encoding.specs.Encoding.{target_label, read_labels, violation, path_units, words_in}
use Rattle.sv_encoding.specs.Sizes.{label_points, label_of_signal, stay_count, stays_size}
use Rattle.sv_encoding.specs.BothWays.{always_goes, LabelsAloneDecide}
use Rattle.sv_encoding_laws.proofs.Chain.{s1, s2, s3, s5, s6, s7, s8, s9, s10, free1, p2, free3}
use Rattle.sv_encoding_laws.proofs.Chain.{after_three}
use Rattle.sv_encoding_laws.proofs.LabelCounts.{points_of, label_points_are, stays_length}
use Rattle.sv_encoding_laws.proofs.Units.{add_units}

module _ (design : FlatDesign) where
  -- ---- pairs of points

  abbrev stays : (p q : ℕ) → Bool
  stays p q = not (flow_test design.lattice p q)

  -- the pairs of points of two labels of which the first does not flow to the second
  abbrev pairs : (label target : List ℕ) → ℕ
  pairs label target = length (flat_map (λ p. filter (stays p) target) label)

  labels_count : (words : Words) (s : ℕ) (target : LabelForm) →
      points_of target ≡ label_points design (label_of_signal design s) → (reads : List ℕ)
      (formula : Formula) →
      length (flat_map (λ label. stay_bits design label target)
      (signal_labels design words reads formula).1)
      ≡ sum_by (λ t. stay_count design (label_of_signal design t) (label_of_signal design s)) reads
  labels_count words s target same [] formula = refl
  labels_count words s target same (t ∷ reads) formula =
      let first = signal_label design words t formula in
      let rest = signal_labels design words reads first.0 in
      length-append (stay_bits design first.1 target)
      (flat_map (λ label. stay_bits design label target) rest.1)
      ∙ ap₂ ◌+◌
      (stays_length design first.1 target
      ∙ ap₂ pairs (label_points_are design words (label_of_signal design t) formula) same)
      (labels_count words s target same reads first.0)
      ∙ sym (sum_by-cons (λ t. stay_count design (label_of_signal design t)
      (label_of_signal design s)) t reads)

  -- a chain of gates without a gate has no member
  no_pair_left : (n : ℕ) → n + (n - 1) ≡ 0 → n ≡ 0
  no_pair_left n e = omega (arith, e)

  -- no pair, so the chain is the literal that is always false
  none_stays : (words : Words) (s : ℕ) (target : LabelForm) →
      points_of target ≡ label_points design (label_of_signal design s) → (reads : List ℕ)
      (formula later : Formula) → IsTrue (stays_size design reads s == 0) →
      (some_stays_bit design (signal_labels design words reads formula).1 target later).1
      ≡ false_literal
  none_stays words s target same reads formula later none =
      let counts : ℕ → ℕ =
      (λ t. stay_count design (label_of_signal design t) (label_of_signal design s)) in
      let labels = (signal_labels design words reads formula).1 in
      ap (λ (makes : List BitMaker). (or_chain makes later).1)
      (nil_from_length (flat_map (λ label. stay_bits design label target) labels)
      (labels_count words s target same reads formula
      ∙ sym (sum-map counts reads)
      ∙ no_pair_left (sum (map counts reads)) (eqb-true (stays_size design reads s) 0 none)))

  -- the goal does not fail, without a gate
  never_fails : (now next : Words) (reads : List ℕ) (goal : GoalForm) (seven eight nine : Formula) →
      IsTrue (always_goes design reads goal) →
      (violation design now next (target_label design now next goal seven).1
      (read_labels design now reads eight).1 goal nine).1
      ≡ false_literal
  never_fails now next reads (flow s frame) seven eight nine goes =
      none_stays now s (target_label design now next (flow s frame) seven).1
      (label_points_are design (words_in frame now next) (label_of_signal design s) seven) reads
      eight nine goes
  never_fails now next reads (must_hold x frame) seven eight nine goes = absurd (false≢true goes)
  never_fails now next reads (selector s) seven eight nine goes =
      none_stays now s (signal_label design now s seven).1
      (label_points_are design now (label_of_signal design s) seven) reads eight nine goes

-- ---- the first clause and the last one

units_begin : (literals : List ℤ) (old : Formula) → Begins old (add_units literals old)
units_begin [] old = begins_none old
units_begin (literal ∷ literals) old =
    let one = with_unit literal old in
    begins_trans old one (add_units literals one) (unit_begins literal old)
    (units_begin literals one)

first_stays : (made : Formula) → Begins start made →
    slice_get made.clauses 0 ≡ Some (true_literal ∷ [])
first_stays made b =
    ap (λ clauses. slice_get clauses 0) (front_and_rest start.clauses made.clauses b.front)

last_of : (clauses : List (List ℤ)) (clause : List ℤ) →
    slice_get (clauses ++ clause ∷ []) (length (clauses ++ clause ∷ []) - 1) ≡ Some clause
last_of clauses clause =
    ap (λ n. slice_get (clauses ++ clause ∷ []) (n - 1)) (length-append clauses (clause ∷ []))
    ∙ ap (slice_get (clauses ++ clause ∷ [])) (omega arith) ∙ at_end clauses
  where
    at_end : (front : List (List ℤ)) →
        slice_get (front ++ clause ∷ []) (length front) ≡ Some clause
    at_end [] = refl
    at_end (one ∷ front) = at_end front

false_clause : (clauses : List (List ℤ)) →
    with_clause (false_literal ∷ []) clauses ≡ clauses ++ (false_literal ∷ []) ∷ []
unfolding put ascending with_clause
false_clause clauses = refl

units_end : (literals : List ℤ) (formula : Formula) →
    let made = add_units (literals ++ false_literal ∷ []) formula in
    slice_get made.clauses (length made.clauses - 1) ≡ Some (false_literal ∷ [])
units_end literals formula =
    let before = add_units literals formula in
    ap (λ (made : Formula). slice_get made.clauses (length made.clauses - 1))
    (fold-append (λ formula literal. with_unit literal formula) formula literals
    (false_literal ∷ []))
    ∙ ap (λ clauses. slice_get clauses (length clauses - 1)) (false_clause before.clauses)
    ∙ last_of before.clauses (false_literal ∷ [])

pub labels_alone_decide : LabelsAloneDecide
labels_alone_decide design o checked query goes =
    let facts = (s6 design checked o query).1 in
    let path = path_units o.path (s7 design checked o query).1 in
    let made = (s10 design checked o query).0 in
    let fails = (s10 design checked o query).1 in
    let none : fails ≡ false_literal =
    never_fails design (s2 design checked o query).1 (s5 design checked o query).1 o.reads o.goal
    (s7 design checked o query).0 (s8 design checked o query).0 (s9 design checked o query).0 goes in
    let start_begins : Begins start made =
    begins_trans start (s1 design checked o query).0 made (free1 design checked o query).begins
    (begins_trans (s1 design checked o query).0 (s2 design checked o query).0 made
    (p2 design checked o query).extends.begins
    (begins_trans (s2 design checked o query).0 (s3 design checked o query).0 made
    (free3 design checked o query).begins (after_three design checked o query).begins)) in
    let units = facts ++ path ++ fails ∷ [] in
    record {
      begins = first_stays (add_units units made)
          (begins_trans start made (add_units units made) start_begins (units_begin units made));
      ends = subst (λ literal.
          let all = add_units (facts ++ path ++ literal ∷ []) made in
          slice_get all.clauses (length all.clauses - 1) ≡ Some (false_literal ∷ [])) (sym none)
          (units_end (facts ++ path) made);
    }
