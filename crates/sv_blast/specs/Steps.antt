-- Private: how the code goes. What is there after each step of an encoding, and when the words that
-- a step asks for are there; the meaning stands in `sv_encoding`.
use Rattle.std.specs.Prelude.{◌≡◌, ◌⊎◌, ℕ, ℤ, ◌||◌, IsTrue, List, [], ◌∷◌, fold}
use Rattle.sv_flat.specs.Design.{FlatDesign}
use Rattle.sv_flat.specs.Processes.{is_register}
use Rattle.sv_flat.specs.Reads.{is_combinational, is_read_for}
use Rattle.sv_obl.specs.Obligations.{Obligation}
use Rattle.sv_gates.specs.Formulas.{Formula}
use Rattle.sv_gates.specs.Gates.{start, with_unit}
use Rattle.sv_circuits.specs.Words.{WordMaker}
use Rattle.sv_encoding.specs.Bodies.{settled_word}
use Rattle.sv_encoding.specs.Cones.{now_cone, next_cone}
use Rattle.sv_encoding.specs.Encoding.{words_made, given_now, settled_words, inputs_next}
use Rattle.sv_encoding.specs.Encoding.{registers_next, fact_literals, condition_literals}
use Rattle.sv_encoding.specs.Encoding.{target_label, read_labels, violation}
use Rattle.sv_encoding.specs.Expressions.{Words}
use Rattle.sv_encoding.specs.Labels.{LabelForm}
use Rattle.sv_blast.specs.WordTables.{StandsOf}

-- ---- words one after the other

-- what is read for each of these signals has a word, or gets one earlier in the list
abbrev pub AreReady : FlatDesign → (Has : ℕ → Type 0) → List ℕ → Type 0
AreReady design Has [] = Unit {0}
AreReady design Has (s ∷ ss) =
    (IsTrue (is_register design s || is_combinational design s)
    × ((t : ℕ) → IsTrue (is_read_for design s t) → Has t))
    × AreReady design (λ t. Has t ⊎ (t ≡ s)) ss

-- from the words of their own cycle
abbrev pub settled_in_turn : FlatDesign → List ℕ → Words → Formula → Formula × Words
settled_in_turn design signals words formula =
    words_made (λ s words. settled_word design words s) signals words formula

-- from the words of the cycle before
abbrev pub next_in_turn : FlatDesign → (now : Words) → List ℕ → Words → Formula → Formula × Words
next_in_turn design now signals words formula =
    words_made (λ s words. settled_word design now s) signals words formula

-- ---- the steps

abbrev pub after_given : FlatDesign → Obligation → Formula × Words
after_given design o = given_now design (now_cone design o) start

abbrev pub after_settled : FlatDesign → Obligation → Formula × Words
after_settled design o =
    let given = after_given design o in
    settled_words design (now_cone design o) given.1 given.0

abbrev pub after_inputs : FlatDesign → Obligation → Formula × Words
after_inputs design o = inputs_next design (next_cone design o) (after_settled design o).0

abbrev pub after_registers : FlatDesign → Obligation → Formula × Words
after_registers design o =
    let inputs = after_inputs design o in
    registers_next design (next_cone design o) (after_settled design o).1 inputs.1 inputs.0

abbrev pub after_next : FlatDesign → Obligation → Formula × Words
after_next design o =
    let started = after_registers design o in
    settled_words design (next_cone design o) started.1 started.0

abbrev pub after_facts : FlatDesign → Obligation → Formula × List ℤ
after_facts design o =
    fact_literals design (after_settled design o).1 o.facts (after_next design o).0

abbrev pub after_conditions : FlatDesign → Obligation → Formula × List ℤ
after_conditions design o =
    condition_literals design (after_settled design o).1 o.path (after_facts design o).0

abbrev pub after_target : FlatDesign → Obligation → Formula × LabelForm
after_target design o =
    target_label design (after_settled design o).1 (after_next design o).1 o.goal
    (after_conditions design o).0

abbrev pub after_reads : FlatDesign → Obligation → Formula × List LabelForm
after_reads design o =
    read_labels design (after_settled design o).1 o.reads (after_target design o).0

abbrev pub after_violation : FlatDesign → Obligation → Formula × ℤ
after_violation design o =
    violation design (after_settled design o).1 (after_next design o).1 (after_target design o).1
    (after_reads design o).1 o.goal (after_reads design o).0

-- ---- the unit clauses

-- a clause for each literal alone
abbrev pub units_of : List ℤ → Formula → Formula
units_of literals formula = fold (λ formula literal. with_unit literal formula) formula literals
