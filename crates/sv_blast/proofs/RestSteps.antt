-- All steps behind the facts and conditions, where all of these are there.
use Rattle.std.proofs.Common.{◌≡◌, ℕ, ◌<◌, ◌≤◌, ℤ, List, ◌∷◌, length, take, drop, sym, ap}
use Rattle.std.proofs.Common.{ap₂, ◌∙◌, subst, arith}
use Rattle.std.specs.Prelude.{All, Contains, IsTrue}
use Rattle.std.proofs.lemmas.List.{take-append-drop, length-map, take-map, drop-map}
use Rattle.sv_system.proofs.Lists.{Contains-head}
use Rattle.sv_flat.specs.Design.{FlatDesign, SignalForm, TypedTree}
use Rattle.sv_flat.specs.Soundness.{well_formed}
use Rattle.sv_flat.specs.Views.{typed_tree}
use Rattle.sv_flat.proofs.Members.{Contains-right}
use Rattle.sv_gates.specs.Extending.{Begins}
use Rattle.sv_gates.specs.Formulas.{Formula, IsLiteral, most_variables}
use Rattle.sv_circuits.specs.Circuits.{IsWord}
use Rattle.sv_circuits.proofs.WordKeeps.{word_take, word_drop}
use Rattle.sv_obl.specs.DesignQueries.{IsQueryOf}
use Rattle.sv_obl.specs.Noninterference.{IsChecked}
use Rattle.sv_obl.specs.Obligations.{Obligation}
use Rattle.sv_obl.specs.Paths.{StepForm}
use Rattle.sv_encoding.specs.Cones.{conditions_of}
use Rattle.sv_encoding.specs.Encoding.{with_units}
use Rattle.sv_encoding.specs.Expressions.{Words, is_true_bit}
use Rattle.sv_blast.specs.Encoders.{design_in, obligation_in}
use Rattle.sv_blast.specs.Framed.{now_frame, both_frames, IsFramed, IsBegun, AreTruths, trees_of}
use Rattle.sv_blast.specs.Framed.{literals_of, with_truths}
use Rattle.sv_blast.specs.Steps.{after_settled, after_next, after_facts, after_conditions}
use Rattle.sv_blast.specs.Steps.{after_violation}
use Rattle.sv_blast.specs.WordTables.{StandFor}
use Rattle.sv_blast.specs.declared.encoding.Encoder.{Encoder}
use Rattle.sv_blast.specs.declared.framed.Framed.{Framed}
use Rattle.sv_blast.specs.declared.framed.Truth.{Truth}
use Rattle.sv_blast.proofs.FramedSteps.{with_gates, truths_path}
use Rattle.sv_blast.proofs.KeptTruths.{truths_begin, literals_inside, next_full, all_made, with_all}
use Rattle.sv_blast.proofs.KeptTruths.{facts_are, conditions_are}
use Rattle.sv_blast.proofs.LiteralFacts.{asked_formed, asked_stands}
use Rattle.sv_blast.proofs.LiteralSteps.{all_up}
use Rattle.sv_blast.proofs.LoopStages.{all_within}
use Rattle.sv_blast.proofs.WholeEncodings.{last_formula, conditions_within}
use Rattle.sv_blast.proofs.WholeEncodings.{conditions_begin, units_path}

-- what begins at a place stands in the list
stands_at : (es : List TypedTree) (k : ℕ) (e : TypedTree) (rest : List TypedTree) →
    drop k es ≡ e ∷ rest → Contains es e
stands_at es k e rest is =
    subst (λ z. Contains z e) (take-append-drop k es)
    (Contains-right (take k es) (drop k es) e
    (subst (λ z. Contains z e) (sym is) (Contains-head e rest)))

module _ (encoder : Encoder) (made : Framed) (begun : IsBegun encoder made)
    (checked : IsChecked (design_in encoder))
    (query : IsQueryOf (design_in encoder) (obligation_in encoder)) where
  abbrev design : FlatDesign
  design = design_in encoder

  abbrev o : Obligation
  o = obligation_in encoder

  are_there : AreTruths design (after_settled design o).1 (after_next design o).0 made.gates
      made.truths.items
  are_there = truths_path encoder made begun.frames

  next_there : (after_next design o).0.variables ≤ made.gates.variables
  next_there =
      (truths_begin design (after_settled design o).1 (after_next design o).0 made.gates
      made.truths.items are_there).grows

  -- ---- the next fact or condition

  module _ (e : TypedTree) (rest : List TypedTree)
      (next : drop (length made.truths.items) (conditions_of o) ≡ e ∷ rest) where
    at : Contains (conditions_of o) e
    at = stands_at (conditions_of o) (length made.truths.items) e rest next

    pub next_formed : IsTrue (well_formed design.signals e)
    next_formed = asked_formed encoder.design.now checked o query e at

    pub next_stands : StandFor design.signals made.gates.variables (after_settled design o).1 e
    next_stands =
        asked_stands encoder.design.now checked o query made.gates.variables next_there e at

    pub next_passes : (signals : List SignalForm) (words : Words) → signals ≡ design.signals →
        words ≡ (after_settled design o).1 →
        most_variables < ((is_true_bit signals words e made.gates).0).variables →
        most_variables < ((after_conditions design o).0).variables
    next_passes signals words s w full =
        subst (λ (z : Formula × List ℤ). most_variables < (z.0).variables) (all_made design o)
        (next_full design (after_settled design o).1 (after_next design o).0 made.truths.items
        (conditions_of o) rest e most_variables begun.first next
        (subst (λ (z : Formula). most_variables
        < ((is_true_bit design.signals (after_settled design o).1 e z).0).variables) begun.gates
        (subst (λ (z : Words). most_variables
        < ((is_true_bit design.signals z e made.gates).0).variables) w
        (subst (λ z. most_variables < ((is_true_bit z words e made.gates).0).variables) s full))))

  -- ---- all of them

  module _ (all : trees_of made.truths.items ≡ conditions_of o) where
    pub gates_made : made.gates ≡ (after_conditions design o).0
    gates_made = begun.gates ∙ with_all design o made.truths.items all

    pub framed_last : (gates : Formula) → gates ≡ last_formula design o →
        IsFramed design (record made { gates = gates })
    framed_last gates last =
        let same = ap₂ (λ cone later. with_truths design (now_frame design cone).1
        (both_frames design cone later).0 made.truths.items) begun.frames.now begun.frames.next in
        with_gates design made begun.frames.framed gates
        (subst (Begins _) (sym last)
        (subst (λ (z : Formula). Begins z (last_formula design o))
        (sym (same ∙ with_all design o made.truths.items all))
        (conditions_begin encoder.design.now checked o query)))

    facts_there : (n : ℕ) → n ≡ length encoder.query.now.facts.items →
        literals_of (take n made.truths.items) ≡ (after_facts design o).1
    facts_there n e =
        facts_are design o made.truths.items all made.gates are_there n
        (e ∙ sym (length-map encoder.query.now.facts.items typed_tree))

    conditions_there : (n : ℕ) → n ≡ length encoder.query.now.facts.items →
        literals_of (drop n made.truths.items) ≡ (after_conditions design o).1
    conditions_there n e =
        conditions_are design o made.truths.items all made.gates are_there n
        (e ∙ sym (length-map encoder.query.now.facts.items typed_tree))

    -- what the units make, where facts and conditions are seen apart
    pub units_there : (n : ℕ) → n ≡ length encoder.query.now.facts.items →
        (facts conditions : List ℤ) → facts ≡ literals_of (take n made.truths.items) →
        conditions ≡ literals_of (drop n made.truths.items) → (path : List StepForm) →
        path ≡ o.path → (gates : Formula) (fails : ℤ) → after_violation design o ≡ (gates, fails) →
        with_units facts path conditions fails gates ≡ last_formula design o
    units_there n e facts conditions facts_seen conditions_seen path path_is gates fails v =
        units_path design o facts conditions path (gates, fails) (facts_seen ∙ facts_there n e)
        path_is (conditions_seen ∙ conditions_there n e) (sym v)

    inside : IsWord made.gates.variables (literals_of made.truths.items)
    inside =
        literals_inside design (after_settled design o).1 (after_next design o).0 made.gates
        made.truths.items are_there

    -- no literal is of a variable that comes later
    up : (gates : Formula) (fails : ℤ) → after_violation design o ≡ (gates, fails) →
        (literals : List ℤ) → IsWord made.gates.variables literals →
        All (IsLiteral gates.variables) literals
    up gates fails v literals is =
        let same = ap (λ (z : Formula). z.variables) gates_made in
        let last = ap (λ (z : Formula × ℤ). (z.0).variables) v in
        let more = conditions_within encoder.design.now checked o query in
        all_up made.gates.variables gates.variables literals (omega (arith, same, last, more))
        (all_within made.gates.variables literals is)

    -- no literal of a list of that many is, nor of one that stands for it
    abbrev AreInside : List ℤ → Type 0
    AreInside seen = (gates : Formula) (fails : ℤ) → after_violation design o ≡ (gates, fails) →
        (literals : List ℤ) → literals ≡ seen → All (IsLiteral gates.variables) literals

    part_inside : {part seen : List ℤ} → part ≡ seen → IsWord made.gates.variables part →
        AreInside seen
    part_inside same is gates fails v literals e =
        up gates fails v literals (subst (IsWord made.gates.variables) (same ∙ sym e) is)

    pub facts_inside : (n : ℕ) → AreInside (literals_of (take n made.truths.items))
    facts_inside n =
        part_inside (take-map (λ (t : Truth). t.literal) n made.truths.items)
        (word_take made.gates.variables n (literals_of made.truths.items) inside)

    pub conditions_inside : (n : ℕ) → AreInside (literals_of (drop n made.truths.items))
    conditions_inside n =
        part_inside (drop-map (λ (t : Truth). t.literal) n made.truths.items)
        (word_drop made.gates.variables n (literals_of made.truths.items) inside)
