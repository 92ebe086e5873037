-- The literals of facts, conditions and the goal, step by step, from what is in hand.
use Rattle.std.proofs.Common.{◌≡◌, ℕ, ℤ, ◌≤◌, List, sym, ap, subst, ◌∙◌, arith}
use Rattle.sv_flat.specs.Design.{FlatDesign}
use Rattle.sv_obl.specs.Obligations.{Obligation}
use Rattle.std.specs.Prelude.{All}
use Rattle.sv_gates.specs.Formulas.{Formula, IsLiteral}
use Rattle.sv_encoding.specs.Encoding.{target_label, violation}
use Rattle.sv_encoding.specs.Expressions.{Words}
use Rattle.sv_encoding.specs.Labels.{LabelForm, signal_labels}
use Rattle.sv_blast.specs.LabelViews.{AreWithin}
use Rattle.sv_blast.specs.Steps.{after_settled, after_next, after_conditions}
use Rattle.sv_blast.specs.Steps.{after_target, after_reads, after_violation}

-- the literals of a label, over more variables
pub within_up : (m n : ℕ) (label : LabelForm) → m ≤ n → AreWithin m label → AreWithin n label
within_up m n label h is k d inside =
    let one = is k d inside in (one.0, omega (arith, one.1, h))

pub all_up : (m n : ℕ) (literals : List ℤ) → m ≤ n → All (IsLiteral m) literals →
    All (IsLiteral n) literals
all_up m n literals h is k d inside =
    let one = is k d inside in (one.0, omega (arith, one.1, h))

module _ (design : FlatDesign) (o : Obligation) (now next : Words)
    (is_now : now ≡ (after_settled design o).1) (is_next : next ≡ (after_next design o).1) where
  pub target_path : (gates : Formula) → gates ≡ (after_conditions design o).0 →
      target_label design now next o.goal gates ≡ after_target design o
  target_path gates g =
      ap (λ (w : Words). target_label design w next o.goal gates) is_now
      ∙ ap (λ (w : Words). target_label design (after_settled design o).1 w o.goal gates) is_next
      ∙ ap (target_label design (after_settled design o).1 (after_next design o).1 o.goal) g

  pub reads_path : (reads : List ℕ) (gates : Formula) → reads ≡ o.reads →
      gates ≡ (after_target design o).0 →
      signal_labels design now reads gates ≡ after_reads design o
  reads_path reads gates e g =
      ap (λ z. signal_labels design now z gates) e
      ∙ ap (λ (w : Words). signal_labels design w o.reads gates) is_now
      ∙ ap (signal_labels design (after_settled design o).1 o.reads) g

  pub violation_path : (target : LabelForm) (reads : List LabelForm) (gates : Formula) →
      target ≡ (after_target design o).1 → reads ≡ (after_reads design o).1 →
      gates ≡ (after_reads design o).0 →
      violation design now next target reads o.goal gates ≡ after_violation design o
  violation_path target reads gates t r g =
      let first = (after_settled design o).1 in
      let last = (after_next design o).1 in
      ap (λ (w : Words). violation design w next target reads o.goal gates) is_now
      ∙ ap (λ (w : Words). violation design first w target reads o.goal gates) is_next
      ∙ ap (λ (z : LabelForm). violation design first last z reads o.goal gates) t
      ∙ ap (λ (z : List LabelForm). violation design first last (after_target design o).1 z o.goal
      gates) r
      ∙ ap (violation design first last (after_target design o).1 (after_reads design o).1 o.goal) g

  -- ---- each step, where those before it are made

  -- what holds of the words and gates that are made holds of those in hand
  pub in_hand : (P : Formula → Words → Words → Type 0) (gates made : Formula) → gates ≡ made →
      P made (after_settled design o).1 (after_next design o).1 → P gates now next
  in_hand P gates made same h =
      subst (λ (w : Words). P gates w next) (sym is_now)
      (subst (λ (w : Words). P gates (after_settled design o).1 w) (sym is_next)
      (subst (λ (z : Formula). P z (after_settled design o).1 (after_next design o).1) (sym same)
      h))

  module _ (old : Formula) (old_is : old ≡ (after_conditions design o).0) (one : Formula)
      (target : LabelForm) (target_is : target_label design now next o.goal old ≡ (one, target))
    where
      target_made : after_target design o ≡ (one, target)
      target_made = sym (target_path old old_is) ∙ target_is

      pub target_gates : one ≡ (after_target design o).0
      target_gates = sym (ap (λ (z : Formula × LabelForm). z.0) target_made)

      module _ (reads : List ℕ) (listed : reads ≡ o.reads) where
        pub reads_from : signal_labels design now reads one ≡ after_reads design o
        reads_from = reads_path reads one listed target_gates

        module _ (two : Formula) (labels : List LabelForm)
            (labels_are : signal_labels design now reads one ≡ (two, labels)) where
          reads_made : after_reads design o ≡ (two, labels)
          reads_made = sym reads_from ∙ labels_are

          pub reads_gates : two ≡ (after_reads design o).0
          reads_gates = sym (ap (λ (z : Formula × List LabelForm). z.0) reads_made)

          pub violation_from : (seen : LabelForm) → seen ≡ target → (shown : List LabelForm) →
              shown ≡ labels → violation design now next seen shown o.goal two ≡ after_violation
              design o
          violation_from seen seen_is shown shown_are =
              violation_path seen shown two
              (seen_is ∙ sym (ap (λ (z : Formula × LabelForm). z.1) target_made))
              (shown_are ∙ sym (ap (λ (z : Formula × List LabelForm). z.1) reads_made)) reads_gates
