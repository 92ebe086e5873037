-- Private: how the code goes. The word of one target alone, where every name is settled; which word
-- a process gives a signal stands in `Bodies` of `sv_encoding`.
use Rattle.std.specs.Prelude.{◌≡◌, ℕ, ◌==◌, if◌then◌else◌, IsTrue, List, [], ◌∷◌, fold, drop}
use Rattle.std.specs.Prelude.{length, replicate}
use Rattle.std.specs.List.{list_all}
use Rattle.sv_flat.specs.Design.{SignalForm, TypedTree, PieceForm, FlatStatement, nothing, after}
use Rattle.sv_flat.specs.Design.{assign, branch, FlatDesign}
use Rattle.sv_flat.specs.Values.{signal_width}
use Rattle.sv_flat.specs.Soundness.{piece_fits, well_formed}
use Rattle.sv_flat.specs.Processes.{is_register}
use Rattle.sv_gates.specs.Formulas.{Formula, IsLiteral}
use Rattle.sv_gates.specs.Gates.{false_literal, mux_gate}
use Rattle.sv_circuits.specs.Words.{Word, WordMaker, replaced_word, bitwise_word}
use Rattle.sv_circuits.specs.Circuits.{IsWord}
use Rattle.sv_encoding.specs.Expressions.{Words, expression_word, is_true_bit}
use Rattle.sv_blast.specs.WordTables.{StandFor}
use Rattle.sv_blast.specs.declared.arms.TargetArm.{TargetArm}

-- ---- one target

-- at the beginning of its process a register has its own bits, and any other target false ones
abbrev pub starting_word : FlatDesign → Words → (target : ℕ) → Word
starting_word design words s =
    if is_register design s
    then words s
    else replicate (signal_width design.signals s) false_literal

-- the target's word after a piece of a right side
abbrev pub with_piece_of : (target : ℕ) → (right : Word) → Word → PieceForm → Word
with_piece_of s right word piece =
    if piece.signal == s
    then replaced_word piece.high piece.low word (drop piece.from right)
    else word

-- the target's word after an assignment, whose right side is encoded once
abbrev pub assigned_word : List SignalForm → Words → (target : ℕ) → List PieceForm →
    (right : TypedTree) → Word → WordMaker
assigned_word signals words s pieces right word formula =
    let (formula, value) = expression_word signals words right formula in
    (formula, fold (with_piece_of s value) word pieces)

-- the target's word after a statement, of which every part assigns it
abbrev pub target_word : List SignalForm → Words → (target : ℕ) → FlatStatement → Word → WordMaker
target_word signals words s nothing word formula = (formula, word)
target_word signals words s (after first second) word formula =
    let (formula, word) = target_word signals words s first word formula in
    target_word signals words s second word formula
target_word signals words s (assign pieces place blocking right) word formula =
    assigned_word signals words s pieces right word formula
target_word signals words s (branch place condition first second) word formula =
    let (formula, bit) = is_true_bit signals words condition formula in
    let (formula, one) = target_word signals words s first word formula in
    let (formula, other) = target_word signals words s second word formula in
    bitwise_word (mux_gate bit) one other formula

-- ---- what a statement needs

-- the expression is well formed, and the words of what it names stand there
abbrev pub IsReady : List SignalForm → (variables : ℕ) → Words → TypedTree → Type 0
IsReady signals n words e = IsTrue (well_formed signals e) × StandFor signals n words e

-- so are all expressions of a statement, and each piece lies in its signal
abbrev pub AreReady : List SignalForm → (variables : ℕ) → Words → FlatStatement → Type 0
AreReady signals n words nothing = Unit {0}
AreReady signals n words (after first second) =
    AreReady signals n words first × AreReady signals n words second
AreReady signals n words (assign pieces place blocking right) =
    IsReady signals n words right × IsTrue (list_all (piece_fits signals right) pieces)
AreReady signals n words (branch place condition first second) =
    IsReady signals n words condition
    × (AreReady signals n words first × AreReady signals n words second)

-- ---- branches that are open

-- from the word after the last second arm back: for each branch the word after its first arm where
-- its condition holds, else what is there
abbrev pub chosen_back : List TargetArm → Formula × Word → Formula × Word
chosen_back [] made = made
chosen_back (arm ∷ arms) made =
    let made = chosen_back arms made in
    bitwise_word (mux_gate arm.condition) arm.word.items made.1 made.0

-- a condition and a word of these variables, the word of so many bits
abbrev pub StandsAt : (width variables : ℕ) → TargetArm → Type 0
StandsAt width n arm =
    IsLiteral n arm.condition × (IsWord n arm.word.items × (length arm.word.items ≡ width))

abbrev pub StandAt : (width variables : ℕ) → List TargetArm → Type 0
StandAt width n [] = Unit {0}
StandAt width n (arm ∷ arms) = StandsAt width n arm × StandAt width n arms
