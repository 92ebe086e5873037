-- Words of new variables may have any values.
use Rattle.std.proofs.Common.{◌≡◌, ℕ, zero, suc, ◌+◌, ◌*◌, ◌/◌, ◌%◌, ◌^◌, ◌<◌, ◌≤◌, ◌==◌, Bool, true}
use Rattle.std.proofs.Common.{false, cond, ◌||◌, pos, List, [], ◌∷◌, length, refl, sym, ap, ap₂, ◌∙◌}
use Rattle.std.proofs.Common.{subst, ⊎_elim, arith}
use Rattle.std.specs.Prelude.{IsTrue, IsFalse}
use Rattle.std.proofs.lemmas.Bool.{false≢true, eqb-true, eq-eqb, or_left, or_right}
use Rattle.std.proofs.Math.Nat.{pow-suc}
use Rattle.sv_system.specs.System.{Environment}
use Rattle.sv_num.specs.Vectors.{truth}
use Rattle.sv_flat.specs.Design.{FlatDesign}
use Rattle.sv_flat.specs.Values.{signal_width}
use Rattle.sv_flat.specs.Sets.{holds}
use Rattle.sv_flat.proofs.LeastSets.{either_way, or_cases}
use Rattle.sv_gates.specs.Formulas.{Formula, meets}
use Rattle.sv_gates.specs.Gates.{fresh_variable}
use Rattle.sv_gates.specs.Extending.{AgreeUpTo, Begins}
use Rattle.sv_gates.proofs.ExtendingLaws.{begins_none, begins_trans, fresh_extends}
use Rattle.sv_gates.proofs.Valuations.{literal_agrees}
use Rattle.sv_circuits.specs.Words.{Word, word_value, fresh_word}
use Rattle.sv_circuits.specs.Circuits.{IsWord, IsBase}
use Rattle.sv_encoding.specs.Expressions.{Words}
use Rattle.sv_encoding.specs.Bodies.{with_word}
use Rattle.sv_encoding.specs.Encoding.{no_words, words_made}
use Rattle.sv_encoding.specs.BothWays.{SpellThere}
use Rattle.sv_encoding.specs.GivenMeanings.{row_after, IsNewWord, HaveRoom, AreFree}
use Rattle.sv_encoding.specs.GivenMeanings.{GivenWordsAreFree, IsOfVariables, AreOfVariables}

-- ---- rows

pub row_is : (size before n : ℕ) → before + size ≤ n → IsWord n (row_after before size)
row_is zero before n h = tt
row_is (suc size) before n h =
    ((omega arith, omega (arith, h)), row_is size (suc before) n (omega (arith, h)))

pub row_length : (size before : ℕ) → length (row_after before size) ≡ size
row_length zero before = refl
row_length (suc size) before = ap suc (row_length size (suc before))

row_variables : (size before : ℕ) → IsOfVariables (row_after before size)
row_variables zero before = tt
row_variables (suc size) before = ((before, refl), row_variables size (suc before))

-- a word of new variables is one of variables
pub new_variables : (design : FlatDesign) (s old new : ℕ) (word : Word) →
    IsNewWord design s old new word → IsOfVariables word
new_variables design s old new word is =
    subst IsOfVariables (sym is.row) (row_variables (signal_width design.signals s) is.before)

-- a word hangs on the values of its variables alone
pub word_agrees : (n : ℕ) (one other : ℕ → Bool) (word : Word) → AgreeUpTo n one other →
    IsWord n word → word_value one word ≡ word_value other word
word_agrees n one other [] agree is = refl
word_agrees n one other (l ∷ word) agree is =
    ap₂ (λ b k. truth b + 2 * k) (literal_agrees n one other l agree is.0)
    (word_agrees n one other word agree is.1)

-- ---- one word

low_and_rest : (n : ℕ) → truth (n % 2 == 1) + 2 * (n / 2) ≡ n
low_and_rest n = by_rest (n % 2) refl
  where
    by_rest : (r : ℕ) → n % 2 ≡ r → truth (n % 2 == 1) + 2 * (n / 2) ≡ n
    by_rest zero f = ap (λ r. truth (r == 1) + 2 * (n / 2)) f ∙ omega (arith, f)
    by_rest (suc zero) f = ap (λ r. truth (r == 1) + 2 * (n / 2)) f ∙ omega (arith, f)
    by_rest (suc (suc r)) f = absurd (omega (arith, f))

record IsRow (size : ℕ) (old : Formula) (made : Formula × Word) : Type 0 where
  pub begins : Begins old made.0
  pub base : IsBase made.0
  pub clauses : (made.0).clauses ≡ old.clauses
  pub last : (made.0).variables ≡ old.variables + size
  pub row : made.1 ≡ row_after old.variables size
  pub onward : (values : ℕ → Bool) (n : ℕ) → meets values old.clauses ≡ true → n < 2 ^ size →
      (more : ℕ → Bool) × AgreeUpTo old.variables values more
      × (meets more (made.0).clauses ≡ true) × (word_value more made.1 ≡ n)

one_row : (size : ℕ) (old : Formula) → IsBase old → IsRow size old (fresh_word size old)
one_row zero old base = record {
  begins = begins_none old;
  base = base;
  clauses = refl;
  last = omega arith;
  row = refl;
  onward = λ values n met small. (values, (λ m below. refl), met, omega (arith, small));
}
one_row (suc size) old base =
    let f = fresh_extends old base.closed in
    let mid = (fresh_variable old).0 in
    let v = old.variables in
    let base1 : IsBase mid = record {
      closed = f.closed;
      some = omega arith;
      truth = base.truth;
    } in
    let rest = one_row size mid base1 in
    record {
      begins = begins_trans old mid (fresh_word size mid).0 f.begins rest.begins;
      base = rest.base;
      clauses = rest.clauses;
      last = rest.last ∙ omega arith;
      row = ap (λ w. pos (suc v) ∷ w) rest.row;
      onward = λ values n met small.
          let first = f.onward values (n % 2 == 1) met in
          let most = rest.onward first.0 (n / 2) first.2 (half n small) in (
            most.0,
            (λ m below. first.1 m below ∙ most.1 m (omega (arith, below))),
            most.2,
            ap₂ (λ b k. truth b + 2 * k) (sym (most.1 (suc v) (omega arith)) ∙ first.3) most.3
                ∙ low_and_rest n,
          );
    }
  where
    half : (n : ℕ) → n < 2 ^ suc size → n / 2 < 2 ^ size
    half n small = omega (arith, small, pow-suc 2 size)

-- ---- one after the other

module _ (design : FlatDesign) where
  abbrev make : ℕ → Words → Formula → Formula × Word
  make s words = fresh_word (signal_width design.signals s)

  record ListFree (signals : List ℕ) (words : Words) (old : Formula) (made : Formula × Words)
      : Type 0 where
    pub begins : Begins old made.0
    pub base : IsBase made.0
    pub clauses : (made.0).clauses ≡ old.clauses
    pub listed : (s : ℕ) → IsTrue (holds signals s) →
        IsNewWord design s old.variables (made.0).variables (made.1 s)
    pub others : (s : ℕ) → IsFalse (holds signals s) → made.1 s ≡ words s
    pub onward : (values : ℕ → Bool) (e : Environment ℕ) → meets values old.clauses ≡ true →
        HaveRoom design signals e →
        (more : ℕ → Bool) × AgreeUpTo old.variables values more
        × (meets more (made.0).clauses ≡ true) × SpellThere signals more made.1 e

  with_own : (s t : ℕ) (word : Word) (words : Words) → s ≡ t → with_word s word words t ≡ word
  with_own s t word words same = ap (λ c. cond c word (words t)) (eq-eqb t s (sym same))

  with_other : (s t : ℕ) (word : Word) (words : Words) → IsFalse (s == t) →
      with_word s word words t ≡ words t
  with_other s t word words other = ⊎_elim
      (λ same. absurd (false≢true (sym other ∙ eq-eqb s t (sym (eqb-true t s same)))))
      (λ out. ap (λ c. cond c word (words t)) out)
      (either_way (t == s))

  no_first : (b c : Bool) → IsFalse (b || c) → IsFalse b
  no_first true c h = h
  no_first false c h = refl

  no_second : (b c : Bool) → IsFalse (b || c) → IsFalse c
  no_second true c h = absurd (false≢true (sym h))
  no_second false c h = h

  first_or : (b c : Bool) → IsTrue (b || c) → IsFalse c → IsTrue b
  first_or b c h out = ⊎_elim
      (λ here. here) (λ later. absurd (false≢true (sym out ∙ later))) (or_cases b c h)

  new_above : (s m old new : ℕ) (word : Word) → m ≤ old → IsNewWord design s old new word →
      IsNewWord design s m new word
  new_above s m old new word h is = record {
    before = is.before;
    above = omega (arith, h, is.above);
    row = is.row;
    inside = is.inside;
  }

  row_new : (s old new : ℕ) (word : Word) →
      word ≡ row_after old (signal_width design.signals s) →
      old + signal_width design.signals s ≤ new → IsNewWord design s old new word
  row_new s old new word is h = record {
    before = old;
    above = omega arith;
    row = is;
    inside = (
      subst (IsWord new) (sym is) (row_is (signal_width design.signals s) old new h),
      ap length is ∙ row_length (signal_width design.signals s) old,
    );
  }

  list_free : (ss : List ℕ) (words : Words) (old : Formula) → IsBase old →
      ListFree ss words old (words_made make ss words old)
  list_free [] words old base = record {
    begins = begins_none old;
    base = base;
    clauses = refl;
    listed = λ s none. absurd (false≢true none);
    others = λ s out. refl;
    onward = λ values e met room.
        (values, (λ m below. refl), met, λ s none. absurd (false≢true none));
  }
  list_free (s ∷ ss) words old base =
      let size = signal_width design.signals s in
      let mid = fresh_word size old in
      let p = one_row size old base in
      let new = with_word s mid.1 words in
      let rest = list_free ss new mid.0 p.base in
      let made = words_made make ss new mid.0 in
      let m = old.variables in
      let n = (mid.0).variables in
      let grows : m ≤ n = p.begins.grows in
      let more : n ≤ (made.0).variables = rest.begins.grows in
      let own : (t : ℕ) → IsTrue (s == t) → IsFalse (holds ss t) → made.1 t ≡ mid.1 =
      (λ t same out. rest.others t out ∙ with_own s t mid.1 words (eqb-true s t same)) in
      record {
        begins = begins_trans old mid.0 made.0 p.begins rest.begins;
        base = rest.base;
        clauses = rest.clauses ∙ p.clauses;
        listed = λ t h. ⊎_elim
            (λ later. new_above t m n (made.0).variables (made.1 t) grows (rest.listed t later))
            (λ out.
            let same = first_or (s == t) (holds ss t) h out in
            subst (λ z. IsNewWord design z m (made.0).variables (made.1 t)) (eqb-true s t same)
            (row_new s m (made.0).variables (made.1 t) (own t same out ∙ p.row)
            (omega (arith, p.last, more))))
            (either_way (holds ss t));
        others = λ t h.
            rest.others t (no_second (s == t) (holds ss t) h)
            ∙ with_other s t mid.1 words (no_first (s == t) (holds ss t) h);
        onward = λ values e met room.
            let first = p.onward values (e s) met
            (room s (or_left (s == s) (holds ss s) (eq-eqb s s refl))) in
            let most = rest.onward first.0 e first.2
            (λ t later. room t (or_right (s == t) (holds ss t) later)) in
            let inside : IsWord n mid.1 =
            subst (IsWord n) (sym p.row) (row_is size m n (omega (arith, p.last))) in (
              most.0,
              (λ k below. first.1 k below ∙ most.1 k (omega (arith, below, grows))),
              most.2,
              λ t h. ⊎_elim
                  (λ later. most.3 t later)
                  (λ out.
                  let same = first_or (s == t) (holds ss t) h out in
                  ap (word_value most.0) (own t same out)
                  ∙ sym (word_agrees n first.0 most.0 mid.1 most.1 inside)
                  ∙ first.3 ∙ ap e (eqb-true s t same))
                  (either_way (holds ss t)),
            );
      }

pub words_are_free : GivenWordsAreFree
words_are_free design signals formula base =
    let p = list_free design signals no_words formula base in
    record {
      begins = p.begins;
      base = p.base;
      clauses = p.clauses;
      words = p.listed;
      others = p.others;
      onward = p.onward;
    }

-- so their places tell what they spell
pub free_variables : (design : FlatDesign) (signals : List ℕ) (old : Formula)
    (made : Formula × Words) → AreFree design signals old made → AreOfVariables signals made.1
free_variables design signals old made free s at =
    new_variables design s old.variables (made.0).variables (made.1 s) (free.words s at)
