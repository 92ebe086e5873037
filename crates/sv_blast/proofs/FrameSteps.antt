-- The words of both cycles, step by step, from what is in hand.
use Rattle.std.proofs.Common.{◌≡◌, ℕ, List, sym, ap, subst, ◌∙◌}
use Rattle.std.specs.Prelude.{All}
use Rattle.sv_flat.specs.declared.signals.SigId.{SigId}
use Rattle.sv_flat.specs.Design.{FlatDesign}
use Rattle.sv_design.specs.Numbers.{numbers}
use Rattle.sv_obl.specs.Obligations.{Obligation}
use Rattle.sv_gates.specs.Formulas.{Formula}
use Rattle.sv_gates.specs.Gates.{start}
use Rattle.sv_encoding.specs.Cones.{registers_in, now_cone, next_cone}
use Rattle.sv_encoding.specs.Encoding.{no_words, fresh_words, given_in, inputs_in, settled_in}
use Rattle.sv_encoding.specs.Expressions.{Words}
use Rattle.sv_blast.specs.Steps.{settled_in_turn, next_in_turn, after_given, after_settled}
use Rattle.sv_blast.specs.Steps.{after_inputs, after_registers, after_next}

-- what is taken from the signals of a cone, as the lists are in hand
pub taken : (part : List ℕ → List ℕ) {found made asked held : List SigId} {cone : List ℕ} →
    found ≡ made → numbers made ≡ part (numbers asked) → asked ≡ held → numbers held ≡ cone →
    numbers found ≡ part cone
taken part found_is made_is asked_is held_is =
    ap numbers found_is ∙ made_is ∙ ap part (ap numbers asked_is ∙ held_is)

-- and what holds of all of it
pub taken_all : (P : ℕ → Type 0) (part : List ℕ → List ℕ) {found made asked held : List SigId}
    {cone : List ℕ} → found ≡ made → numbers made ≡ part (numbers asked) → asked ≡ held →
    numbers held ≡ cone → All P (part cone) → All P (numbers found)
taken_all P part found_is made_is asked_is held_is =
    subst (All P) (sym (taken part found_is made_is asked_is held_is))

module _ (design : FlatDesign) (o : Obligation) where
  pub given_path : (ss : List ℕ) (words : Words) (gates : Formula) →
      ss ≡ given_in design (now_cone design o) → words ≡ no_words → gates ≡ start →
      fresh_words design ss words gates ≡ after_given design o
  given_path ss words gates e w g =
      let all = given_in design (now_cone design o) in
      ap (λ z. fresh_words design z words gates) e
      ∙ ap (λ (z : Words). fresh_words design all z gates) w
      ∙ ap (λ z. fresh_words design all no_words z) g

  turn_path : {ss all : List ℕ} {z y : Formula × Words} → ss ≡ all → z ≡ y →
      settled_in_turn design ss z.1 z.0 ≡ settled_in_turn design all y.1 y.0
  turn_path {ss} {all} {z} {y} e g =
      ap (λ ss. settled_in_turn design ss z.1 z.0) e
      ∙ ap (λ (w : Formula × Words). settled_in_turn design all w.1 w.0) g

  pub settled_path : (ss : List ℕ) (z : Formula × Words) →
      ss ≡ settled_in design (now_cone design o) → z ≡ after_given design o →
      settled_in_turn design ss z.1 z.0 ≡ after_settled design o
  settled_path ss z e g = turn_path e g

  pub inputs_path : (ss : List ℕ) (words : Words) (gates : Formula) →
      ss ≡ inputs_in design (next_cone design o) → words ≡ no_words →
      gates ≡ (after_settled design o).0 → fresh_words design ss words gates ≡ after_inputs design o
  inputs_path ss words gates e w g =
      let all = inputs_in design (next_cone design o) in
      ap (λ z. fresh_words design z words gates) e
      ∙ ap (λ (z : Words). fresh_words design all z gates) w
      ∙ ap (λ z. fresh_words design all no_words z) g

  pub registers_path : (ss : List ℕ) (now : Words) (z : Formula × Words) →
      ss ≡ registers_in design (next_cone design o) → now ≡ (after_settled design o).1 →
      z ≡ after_inputs design o → next_in_turn design now ss z.1 z.0 ≡ after_registers design o
  registers_path ss now z e n g =
      let all = registers_in design (next_cone design o) in
      ap (λ ss. next_in_turn design now ss z.1 z.0) e
      ∙ ap (λ (w : Words). next_in_turn design w all z.1 z.0) n
      ∙ ap (λ (z : Formula × Words). next_in_turn design (after_settled design o).1 all z.1 z.0) g

  pub next_path : (ss : List ℕ) (z : Formula × Words) →
      ss ≡ settled_in design (next_cone design o) → z ≡ after_registers design o →
      settled_in_turn design ss z.1 z.0 ≡ after_next design o
  next_path ss z e g = turn_path e g

  -- ---- each step, where those before it are made

  module _ (ss : List ℕ) (ss_are : ss ≡ given_in design (now_cone design o)) (words : Words)
      (empty : words ≡ no_words) (old : Formula) (begin : old ≡ start) where
    pub given_from : fresh_words design ss words old ≡ after_given design o
    given_from = given_path ss words old ss_are empty begin

    module _ (one : Formula × Words) (made : fresh_words design ss words old ≡ one) where
      pub given_made : after_given design o ≡ one
      given_made = sym given_from ∙ made

      pub settled_from : (ts : List ℕ) → ts ≡ settled_in design (now_cone design o) →
          settled_in_turn design ts one.1 one.0 ≡ after_settled design o
      settled_from ts ts_are = settled_path ts one ts_are (sym given_made)

  module _ (ss : List ℕ) (ss_are : ss ≡ inputs_in design (next_cone design o)) (words : Words)
      (empty : words ≡ no_words) (old : Formula) (now : Words)
      (settled : after_settled design o ≡ (old, now)) where
    pub inputs_from : fresh_words design ss words old ≡ after_inputs design o
    inputs_from =
        inputs_path ss words old ss_are empty (sym (ap (λ (z : Formula × Words). z.0) settled))

    module _ (one : Formula × Words) (made : fresh_words design ss words old ≡ one) where
      pub inputs_made : after_inputs design o ≡ one
      inputs_made = sym inputs_from ∙ made

      module _ (rs : List ℕ) (rs_are : rs ≡ registers_in design (next_cone design o)) where
        pub registers_from : next_in_turn design now rs one.1 one.0 ≡ after_registers design o
        registers_from =
            registers_path rs now one rs_are (sym (ap (λ (z : Formula × Words). z.1) settled))
            (sym inputs_made)

        module _ (two : Formula × Words) (more : next_in_turn design now rs one.1 one.0 ≡ two) where
          pub registers_made : after_registers design o ≡ two
          registers_made = sym registers_from ∙ more

          pub next_from : (ts : List ℕ) → ts ≡ settled_in design (next_cone design o) →
              settled_in_turn design ts two.1 two.0 ≡ after_next design o
          next_from ts ts_are = next_path ts two ts_are (sym registers_made)
