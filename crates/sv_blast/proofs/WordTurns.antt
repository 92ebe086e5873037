-- Words that a loop makes signal by signal: what is to be made, and what is left of it.
use Rattle.std.proofs.Common.{◌≡◌, ℕ, ◌≤◌, ◌<◌, Bool, true, false, cond, ℤ, List, [], ◌∷◌, refl, sym}
use Rattle.std.proofs.Common.{ap, ◌∙◌, subst, arith, filter}
use Rattle.sv_flat.specs.Design.{SignalForm, FlatStatement, nothing, after}
use Rattle.sv_flat.specs.Design.{assign, branch, ProcessForm, FlatDesign}
use Rattle.sv_flat.specs.Assigned.{assigns}
use Rattle.sv_flat.specs.Clocks.{processes_of}
use Rattle.sv_flat.specs.Processes.{is_block, is_clocked, drivers}
use Rattle.sv_flat.specs.Reads.{followed}
use Rattle.sv_flat.specs.Readings.{no_bits}
use Rattle.sv_obl.specs.Wanted.{with_copies, copy_of, marked}
use Rattle.sv_gates.specs.Formulas.{Formula}
use Rattle.sv_gates.specs.Gates.{mux_gate}
use Rattle.sv_gates.specs.Extending.{Begins}
use Rattle.sv_gates.proofs.ExtendingLaws.{begins_none, begins_trans}
use Rattle.sv_circuits.specs.Words.{Word, WordMaker, bitwise_word}
use Rattle.sv_encoding.specs.Bodies.{with_word, assigns_some, assigned_words, chosen_words}
use Rattle.sv_encoding.specs.Bodies.{branch_words, words_after, starting_words, word_by_first}
use Rattle.sv_encoding.specs.Bodies.{settled_word}
use Rattle.sv_encoding.specs.Encoding.{words_made}
use Rattle.sv_encoding.specs.Expressions.{Words, is_true_bit}
use Rattle.sv_blast.proofs.Growing.{Grows, expression_grows, is_true_grows, chosen_grows}

-- ---- turns

module _ (make : ℕ → Words → WordMaker) where
  -- the whole is what is left from the present formula and words on
  pub record WordsAt (whole : Formula × Words) (rest : List ℕ) (old now : Formula) (words : Words)
      : Type 0 where
    pub made : whole ≡ words_made make rest words now
    pub begins : Begins old now

  pub words_start : (ss : List ℕ) (old : Formula) (words : Words) →
      WordsAt (words_made make ss words old) ss old old words
  words_start ss old words = record { made = refl; begins = begins_none old }

  pub words_more : (whole : Formula × Words) (rest more : List ℕ) (old now later : Formula)
      (words new : Words) (s : ℕ) (word : Word) → WordsAt whole rest old now words →
      rest ≡ s ∷ more → make s words now ≡ (later, word) → Begins now later →
      new ≡ with_word s word words → WordsAt whole more old later new
  words_more whole rest more old now later words new s word at e made up put = record {
    made = at.made
        ∙ ap (λ z. words_made make z words now) e
        ∙ ap (λ (z : Formula × Word). words_made make more (with_word s z.1 words) z.0) made
        ∙ ap (λ z. words_made make more z later) (sym put);
    begins = begins_trans old now later at.begins up;
  }

  module _ (grows : (s : ℕ) (words : Words) → Grows (make s words)) where
    pub made_grows : (ss : List ℕ) (words : Words) → Grows (words_made make ss words)
    made_grows [] words old = omega arith
    made_grows (s ∷ ss) words old =
        let made = make s words old in
        omega (arith, grows s words old, made_grows ss (with_word s made.1 words) made.0)

    pub words_full : (whole : Formula × Words) (rest more : List ℕ) (old now : Formula)
        (words : Words) (s most : ℕ) → WordsAt whole rest old now words → rest ≡ s ∷ more →
        most < ((make s words now).0).variables → most < (whole.0).variables
    words_full whole rest more old now words s most at e full =
        let made = make s words now in
        let up = made_grows more (with_word s made.1 words) made.0 in
        subst (λ (z : Formula × Words). most < (z.0).variables)
        (sym (at.made ∙ ap (λ z. words_made make z words now) e)) (omega (arith, up, full))

  pub words_end : (whole : Formula × Words) (rest : List ℕ) (old now : Formula) (words : Words) →
      WordsAt whole rest old now words → rest ≡ [] → whole ≡ (now, words)
  words_end whole rest old now words at e = at.made ∙ ap (λ z. words_made make z words now) e

-- ---- the word of a signal

chosen_words_grow : (signals : List SignalForm) (c : ℤ) (first second : Words) (ts : List ℕ)
    (words : Words) → Grows (chosen_words signals c first second ts words)
chosen_words_grow signals c first second [] words old = omega arith
chosen_words_grow signals c first second (t ∷ ts) words old =
    let s = copy_of signals t in
    let made = bitwise_word (mux_gate c) (first s) (second s) old in
    omega (
      arith,
      chosen_grows c (first s) (second s) old,
      chosen_words_grow signals c first second ts (with_word s made.1 words) made.0,
    )

either_grows : {A : Type 0} (c : Bool) (old : Formula) (first : Formula × A) (words : A) →
    old.variables ≤ (first.0).variables → old.variables ≤ ((cond c first (old, words)).0).variables
either_grows true old first words up = up
either_grows false old first words up = omega arith

pub words_after_grow : (signals : List SignalForm) (followed : List ℕ) (body : FlatStatement)
    (words : Words) → Grows (words_after signals followed body words)
words_after_grow signals followed nothing words old = omega arith
words_after_grow signals followed (after first second) words old =
    let made = words_after signals followed first words old in
    omega (
      arith,
      words_after_grow signals followed first words old,
      words_after_grow signals followed second made.1 made.0,
    )
words_after_grow signals followed (assign pieces place blocking right) words old =
    either_grows (assigns_some followed (assign pieces place blocking right)) old
    (assigned_words signals followed pieces right words old) words
    (expression_grows (with_copies signals) words right old)
words_after_grow signals followed (branch place condition first second) words old =
    let assigned = filter (assigns (branch place condition first second)) followed in
    let bit = is_true_bit (with_copies signals) words condition old in
    let one = words_after signals followed first words bit.0 in
    let other = words_after signals followed second words one.0 in
    either_grows (assigns_some followed (branch place condition first second)) old
    (branch_words signals condition (words_after signals followed first)
    (words_after signals followed second) assigned words old) words
    (omega (
      arith,
      is_true_grows (with_copies signals) words condition old,
      words_after_grow signals followed first words bit.0,
      words_after_grow signals followed second words one.0,
      chosen_words_grow signals bit.1 one.1 other.1 assigned words other.0,
    ))

-- the word that a signal's process gives it takes no variables away
pub settled_grows : (design : FlatDesign) (words : Words) (s : ℕ) →
    Grows (settled_word design words s)
settled_grows design words s old = by (drivers (processes_of design) s)
  where
    by : (ps : List ProcessForm) →
        old.variables ≤ ((word_by_first design s ps words old).0).variables
    by [] = omega arith
    by (p ∷ ps) =
        words_after_grow design.signals (followed design p s)
        (marked design.signals (is_block p.kind) p.body no_bits)
        (starting_words design.signals (is_clocked p.kind) words) old
