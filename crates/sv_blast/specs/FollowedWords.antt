-- Private: how the code goes. The words of all signals that a target follows, where its process has
-- an earlier read; which words a statement makes stands in `Bodies` of `sv_encoding`.
use Rattle.std.specs.Prelude.{◌≡◌, ◌≤◌, ◌⊎◌, ℕ, ℤ, IsTrue, Contains, List, [], ◌∷◌, length, map}
use Rattle.std.specs.List.{list_all}
use Rattle.sv_flat.specs.ByNumber.{signal_forms}
use Rattle.sv_flat.specs.Design.{SignalForm, TypedTree, FlatStatement, nothing, after, assign}
use Rattle.sv_flat.specs.Design.{branch}
use Rattle.sv_flat.specs.Readings.{names_signal}
use Rattle.sv_flat.specs.Soundness.{piece_fits, well_formed}
use Rattle.sv_flat.specs.Values.{signal_width}
use Rattle.sv_graph.specs.Marks.{followed_in}
use Rattle.sv_design.specs.Numbers.{numbers}
use Rattle.sv_obl.specs.Wanted.{with_copies, copy_of}
use Rattle.sv_gates.specs.Formulas.{Formula, IsLiteral}
use Rattle.sv_gates.specs.Gates.{mux_gate}
use Rattle.sv_circuits.specs.Circuits.{IsWord}
use Rattle.sv_circuits.specs.Words.{Word, bitwise_word}
use Rattle.sv_encoding.specs.Bodies.{WordsMaker, assigns_some, with_word}
use Rattle.sv_encoding.specs.Expressions.{Words}
use Rattle.sv_blast.specs.WordTables.{StandsOf}
use Rattle.sv_blast.specs.declared.followed.Followed.{Followed}
use Rattle.sv_blast.specs.declared.followed_arms.CopyWord.{CopyWord}
use Rattle.sv_blast.specs.declared.followed_arms.WordsArm.{WordsArm}

-- ---- what a statement needs

-- the words of these names stand in a formula
abbrev pub AllStand : List SignalForm → (IsAtHand : ℕ → Type 0) → (variables : ℕ) → Words → Type 0
AllStand signals IsAtHand n words =
    (t : ℕ) → IsAtHand t → StandsOf (with_copies signals) n words t

-- the expression is well formed, and names nothing else
abbrev pub IsFit : List SignalForm → (IsAtHand : ℕ → Type 0) → TypedTree → Type 0
IsFit signals IsAtHand e =
    IsTrue (well_formed (with_copies signals) e)
    × ((t : ℕ) → IsTrue (names_signal (with_copies signals) e t) → IsAtHand t)

-- so are all expressions in the parts that assign a followed signal, and each piece lies in its
-- signal
abbrev pub AreFit : List SignalForm → (followed : List ℕ) → (IsAtHand : ℕ → Type 0) →
    FlatStatement → Type 0
AreFit signals followed IsAtHand nothing = Unit {0}
AreFit signals followed IsAtHand (after first second) =
    AreFit signals followed IsAtHand first × AreFit signals followed IsAtHand second
AreFit signals followed IsAtHand (assign pieces place blocking right) =
    IsTrue (assigns_some followed (assign pieces place blocking right)) →
    IsFit signals IsAtHand right × IsTrue (list_all (piece_fits signals right) pieces)
AreFit signals followed IsAtHand (branch place condition first second) =
    (IsTrue (assigns_some followed (branch place condition first second)) →
    IsFit signals IsAtHand condition)
    × (AreFit signals followed IsAtHand first × AreFit signals followed IsAtHand second)

-- ---- what words are made for

abbrev pub forms_in : Followed → List SignalForm
forms_in self = signal_forms self.signals.now

-- the signals that the target follows
abbrev pub follows_in : Followed → List ℕ
follows_in self = followed_in self.follows.now

-- what is read for a target, and copies of what it follows
abbrev pub AtHand : List SignalForm → (reads followed : List ℕ) → ℕ → Type 0
AtHand signals reads followed t =
    Contains reads t ⊎ ((s : ℕ) × Contains followed s × (copy_of signals s ≡ t))

abbrev pub IsAtHand : Followed → ℕ → Type 0
IsAtHand self = AtHand (forms_in self) (numbers self.reads.now) (follows_in self)

-- the table has an entry for each signal, of which there are few; the other list has their copies
-- too
pub record IsFollowed (self : Followed) : Type 0 where
  pub size : length self.follows.now ≡ length self.signals.now
  pub few : length self.signals.now ≤ 2147483647
  pub twice : signal_forms self.twice.now ≡ with_copies (forms_in self)

-- ---- branches that are open

-- words by the numbers of their copies
abbrev pub pairs : List CopyWord → List (ℕ × Word)
pairs xs = map (λ (x : CopyWord). (x.copy.0, x.word.items)) xs

-- the words of some copies
abbrev pub words_at : Words → List ℕ → List (ℕ × Word)
words_at words copies = map (λ t. (t, words t)) copies

-- other words for some copies
abbrev pub with_words : List (ℕ × Word) → Words → Words
with_words [] words = words
with_words (x ∷ xs) words = with_word x.0 x.1 (with_words xs words)

-- for each of these copies its word here where the condition holds, else what is there
abbrev pub choices : (condition : ℤ) → List (ℕ × Word) → WordsMaker
choices condition [] words formula = (formula, words)
choices condition (x ∷ xs) words formula =
    let (formula, word) = bitwise_word (mux_gate condition) x.1 (words x.0) formula in
    choices condition xs (with_word x.0 word words) formula

-- from the words after the last second arm back: for each branch its choices
abbrev pub choices_back : List WordsArm → Formula × Words → Formula × Words
choices_back [] made = made
choices_back (arm ∷ arms) made =
    let made = choices_back arms made in
    choices arm.condition (pairs arm.words.items) made.1 made.0

-- these are words of names that are at hand, in these variables, each of its signal's width
abbrev pub PairsStand : List SignalForm → (IsAtHand : ℕ → Type 0) → (variables : ℕ) →
    List (ℕ × Word) → Type 0
PairsStand signals IsAtHand n xs =
    (x : ℕ × Word) → Contains xs x →
    IsAtHand x.0 × (IsWord n x.1 × (length x.1 ≡ signal_width (with_copies signals) x.0))

-- a condition of these variables, and such words
abbrev pub ArmStands : List SignalForm → (IsAtHand : ℕ → Type 0) → (variables : ℕ) → WordsArm →
    Type 0
ArmStands signals IsAtHand n arm =
    IsLiteral n arm.condition × PairsStand signals IsAtHand n (pairs arm.words.items)

abbrev pub ArmsStand : List SignalForm → (IsAtHand : ℕ → Type 0) → (variables : ℕ) →
    List WordsArm → Type 0
ArmsStand signals IsAtHand n [] = Unit {0}
ArmsStand signals IsAtHand n (arm ∷ arms) =
    ArmStands signals IsAtHand n arm × ArmsStand signals IsAtHand n arms
