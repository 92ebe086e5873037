-- The word that a process gives a signal (IEEE 1364-2005, clauses 6 and 9).
use Rattle.std.specs.Prelude.{ℕ, Bool, ◌==◌, if◌then◌else◌, ℤ, List, [], ◌∷◌, filter, fold, drop}
use Rattle.std.specs.Prelude.{replicate}
use Rattle.std.specs.List.{list_any}
use Rattle.sv_flat.specs.Design.{SignalForm, TypedTree, PieceForm, FlatStatement, nothing, after}
use Rattle.sv_flat.specs.Design.{assign, branch, ProcessForm, FlatDesign}
use Rattle.sv_flat.specs.Values.{signal_width}
use Rattle.sv_flat.specs.Assigned.{assigns}
use Rattle.sv_flat.specs.Readings.{no_bits}
use Rattle.sv_flat.specs.Processes.{is_clocked, is_block, drivers}
use Rattle.sv_flat.specs.Clocks.{processes_of}
use Rattle.sv_flat.specs.Reads.{followed}
use Rattle.sv_flat.specs.Sets.{holds}
use Rattle.sv_obl.specs.Wanted.{with_copies, copy_of, is_copy, original, marked}
use Rattle.sv_gates.specs.Formulas.{Formula}
use Rattle.sv_gates.specs.Gates.{false_literal, mux_gate}
use Rattle.sv_circuits.specs.Words.{Word, WordMaker, replaced_word, bitwise_word}
use Rattle.sv_encoding.specs.Expressions.{Words, expression_word, is_true_bit}

-- the words with one signal's word changed
abbrev pub with_word : (signal : ℕ) → Word → Words → Words
with_word s word words t = if t == s then word else words t

-- ---- statements

-- In a process the words of the copies of signals are those that earlier reads have: of each
-- followed signal its bits so far.

-- what a statement makes of words
abbrev pub WordsMaker : Type 0
WordsMaker = Words → Formula → Formula × Words

-- the statement assigns a followed signal
abbrev pub assigns_some : List ℕ → FlatStatement → Bool
assigns_some followed statement = list_any (assigns statement) followed

-- a piece of a right side, in the bits that it has of a followed signal
abbrev pub with_piece_word : List SignalForm → (followed : List ℕ) → (right : Word) → Words →
    PieceForm → Words
with_piece_word signals followed right words piece =
    let s = copy_of signals piece.signal in
    if holds followed piece.signal
    then with_word s (replaced_word piece.high piece.low (words s) (drop piece.from right)) words
    else words

-- an assignment encodes its right side once, and then puts its pieces in textual order
abbrev pub assigned_words : List SignalForm → (followed : List ℕ) → List PieceForm →
    (right : TypedTree) → WordsMaker
assigned_words signals followed pieces right words formula =
    let (formula, word) = expression_word (with_copies signals) words right formula in
    (formula, fold (with_piece_word signals followed word) words pieces)

-- for each of these signals the word after the first arm where the condition holds, else that after
-- the second
abbrev pub chosen_words : List SignalForm → (condition : ℤ) → (first second : Words) → List ℕ →
    WordsMaker
chosen_words signals condition first second [] words formula = (formula, words)
chosen_words signals condition first second (t ∷ ts) words formula =
    let s = copy_of signals t in
    let (formula, word) = bitwise_word (mux_gate condition) (first s) (second s) formula in
    chosen_words signals condition first second ts (with_word s word words) formula

-- an `if` encodes not 0 of its condition, the first arm, the second arm, and then the choice for
-- each followed signal that an arm assigns, in signal order
abbrev pub branch_words : List SignalForm → (condition : TypedTree) → (first second : WordsMaker) →
    (assigned : List ℕ) → WordsMaker
branch_words signals condition first second assigned words formula =
    let (formula, bit) = is_true_bit (with_copies signals) words condition formula in
    let (formula, one) = first words formula in
    let (formula, other) = second words formula in
    chosen_words signals bit one other assigned words formula

-- the words after a statement; one that assigns no followed signal is passed over
abbrev pub words_after : List SignalForm → (followed : List ℕ) → FlatStatement → WordsMaker
words_after signals followed nothing words formula = (formula, words)
words_after signals followed (after first second) words formula =
    let (formula, words) = words_after signals followed first words formula in
    words_after signals followed second words formula
words_after signals followed (assign pieces place blocking right) words formula =
    if assigns_some followed (assign pieces place blocking right)
    then assigned_words signals followed pieces right words formula
    else (formula, words)
words_after signals followed (branch place condition first second) words formula =
    let assigned = filter (assigns (branch place condition first second)) followed in
    if assigns_some followed (branch place condition first second)
    then branch_words signals condition (words_after signals followed first)
    (words_after signals followed second) assigned words formula
    else (formula, words)

-- ---- processes

-- at the beginning of a clocked process each signal has its own bits so far, at that of any other
-- one false bits
abbrev pub starting_words : List SignalForm → (is_register : Bool) → Words → Words
starting_words signals is_register words t =
    let s = original signals t in
    if is_copy signals t
    then (if is_register then words s else replicate (signal_width signals s) false_literal)
    else words t

-- The word of a signal after a run of its process, where settled reads have the words of their
-- signals.
abbrev pub driven_word : FlatDesign → (target : ℕ) → ProcessForm → Words → WordMaker
driven_word design s process words formula =
    let signals = design.signals in
    let body = marked signals (is_block process.kind) process.body no_bits in
    let starting = starting_words signals (is_clocked process.kind) words in
    let made = words_after signals (followed design process s) body starting formula in
    (made.0, made.1 (copy_of signals s))

-- by the first of the processes that drive it; in an admitted design it is the only one
abbrev pub word_by_first : FlatDesign → (target : ℕ) → List ProcessForm → Words → WordMaker
word_by_first design s [] words formula =
    (formula, replicate (signal_width design.signals s) false_literal)
word_by_first design s (process ∷ processes) words formula =
    driven_word design s process words formula

-- the word of a driven signal, where the signals that are read for it have these words
abbrev pub settled_word : FlatDesign → Words → (target : ℕ) → WordMaker
settled_word design words s formula =
    word_by_first design s (drivers (processes_of design) s) words formula
