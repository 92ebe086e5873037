-- Loops over copies of signals: what is left, and what is there so far.
use Rattle.std.proofs.Common.{◌≡◌, ℕ, ◌+◌, ◌<◌, ◌≤◌, ◌==◌, ◌⊎◌, inl, inr, ⊎_elim, Bool, true, false}
use Rattle.std.proofs.Common.{List, [], ◌∷◌, ◌++◌, length, map, filter, replicate, refl, sym, ap}
use Rattle.std.proofs.Common.{subst, ◌∙◌, arith, append_assoc, append-nil, min}
use Rattle.std.specs.Prelude.{Contains, IsTrue, IsFalse}
use Rattle.std.proofs.lemmas.Bool.{false≢true, eqb-true, eq-eqb}
use Rattle.std.proofs.lemmas.List.{map-append}
use Rattle.sv_system.proofs.Lists.{Contains-nil, Contains-cases}
use Rattle.sv_flat.specs.Design.{SignalForm}
use Rattle.sv_flat.specs.Values.{signal_width}
use Rattle.sv_flat.proofs.LeastSets.{either_way}
use Rattle.sv_obl.specs.Wanted.{copy_of}
use Rattle.sv_obl.proofs.PathLists.{cond_true, cond_false}
use Rattle.sv_gates.specs.Gates.{false_literal}
use Rattle.sv_circuits.specs.Words.{Word}
use Rattle.sv_encoding.specs.Bodies.{with_word}
use Rattle.sv_encoding.specs.Expressions.{Words}
use Rattle.sv_encoding.specs.Sizes.{widths_of}
use Rattle.sv_encoding_laws.proofs.GateCounts.{mapped_more}
use Rattle.sv_blast.specs.declared.followed_arms.CopyWord.{CopyWord}
use Rattle.sv_blast.specs.FollowedWords.{pairs, words_at, with_words}
use Rattle.sv_blast.proofs.CopyChoices.{put_last, put_other, put_same}

-- ---- words of copies

pub pairs_last : (xs : List CopyWord) (x : CopyWord) →
    pairs (xs ++ x ∷ []) ≡ pairs xs ++ (x.copy.0, x.word.items) ∷ []
pairs_last xs x = map-append (λ (y : CopyWord). (y.copy.0, y.word.items)) xs (x ∷ [])

-- one more is found of those that are left
pub found_more : (words : Words) (all left rest : List ℕ) (t : ℕ) (found more : List CopyWord)
    (x : CopyWord) → pairs found ++ words_at words left ≡ words_at words all → left ≡ t ∷ rest →
    more ≡ found ++ x ∷ [] → x.copy.0 ≡ t → x.word.items ≡ words t →
    pairs more ++ words_at words rest ≡ words_at words all
found_more words all left rest t found more x so_far turn pushed copy word =
    ap (λ (ys : List CopyWord). pairs ys ++ words_at words rest) pushed
    ∙ ap (λ ys. ys ++ words_at words rest) (pairs_last found x)
    ∙ append_assoc (pairs found) ((x.copy.0, x.word.items) ∷ []) (words_at words rest)
    ∙ ap (λ (y : ℕ × Word). pairs found ++ y ∷ words_at words rest)
    (ap (λ k. (k, x.word.items)) copy ∙ ap (λ w. (t, w)) word)
    ∙ ap (λ ts. pairs found ++ words_at words ts) (sym turn)
    ∙ so_far

pub found_all : (words : Words) (all left : List ℕ) (found : List CopyWord) →
    pairs found ++ words_at words left ≡ words_at words all → left ≡ [] →
    pairs found ≡ words_at words all
found_all words all left found so_far none =
    sym (append-nil (pairs found))
    ∙ ap (λ ts. pairs found ++ words_at words ts) (sym none)
    ∙ so_far

-- one more is put, from the last one on
pub put_more : (whole : Words) (xs left : List CopyWord) (x : CopyWord) (now next : Words) →
    with_words (pairs xs) now ≡ whole → xs ≡ left ++ x ∷ [] →
    next ≡ with_word x.copy.0 x.word.items now → with_words (pairs left) next ≡ whole
put_more whole xs left x now next so_far split put =
    ap (with_words (pairs left)) put
    ∙ sym (put_last (pairs left) (x.copy.0, x.word.items) now)
    ∙ ap (λ ys. with_words ys now) (sym (pairs_last left x))
    ∙ ap (λ (ys : List CopyWord). with_words (pairs ys) now) (sym split)
    ∙ so_far

-- ---- what is read

-- all but those that are left have their words
abbrev pub HaveRead : (reads left : List ℕ) → (own words : Words) → Type 0
HaveRead reads left own words =
    (t : ℕ) → Contains reads t → Contains left t ⊎ (own t ≡ words t)

pub read_more : (reads left rest : List ℕ) (s : ℕ) (own next words : Words) →
    HaveRead reads left own words → left ≡ s ∷ rest → next ≡ with_word s (words s) own →
    HaveRead reads rest next words
read_more reads left rest s own next words so_far turn put t at =
    subst (λ (ws : Words). Contains rest t ⊎ (ws t ≡ words t)) (sym put) (⊎_elim
    (λ same. inr (cond_true (t == s) (words s) (own t) same ∙ ap words (sym (eqb-true t s same))))
    (λ other. ⊎_elim
    (λ inside. ⊎_elim
    (λ e. absurd (false≢true (sym other ∙ eq-eqb t s (sym e))))
    (λ later. inl later)
    (Contains-cases s rest t (subst (λ ts. Contains ts t) turn inside)))
    (λ done. inr (cond_false (t == s) (words s) (own t) other ∙ done))
    (so_far t at))
    (either_way (t == s)))

pub read_all : (reads left : List ℕ) (own words : Words) → HaveRead reads left own words →
    left ≡ [] → (t : ℕ) → Contains reads t → own t ≡ words t
read_all reads left own words so_far none t at = ⊎_elim
    (λ inside. absurd (Contains-nil t (subst (λ ts. Contains ts t) none inside)))
    (λ done. done)
    (so_far t at)

-- ---- copies that are false

module _ (signals : List SignalForm) (followed : List ℕ) (old : Words) where
  -- those of the signals below a number, and no signal itself
  pub record ClearAt (k : ℕ) (now : Words) : Type 0 where
    pub copies : (s : ℕ) → s < k → Contains followed s →
        now (copy_of signals s) ≡ replicate (signal_width signals s) false_literal
    pub others : (t : ℕ) → t < length signals → now t ≡ old t

  pub clear_start : ClearAt 0 old
  clear_start = record {
    copies = λ s low at. absurd (omega (arith, low));
    others = λ t low. refl;
  }

  pub clear_more : (k : ℕ) (now next : Words) (word : Word) → ClearAt k now →
      word ≡ replicate (signal_width signals k) false_literal →
      next ≡ with_word (copy_of signals k) word now → ClearAt (k + 1) next
  clear_more k now next word so_far clear put = record {
    copies = λ s low at. ⊎_elim
        (λ same.
        let e = eqb-true s k same in
        ap (λ (ws : Words). ws (copy_of signals s)) put
        ∙ subst (λ z. with_word (copy_of signals k) word now (copy_of signals z)
        ≡ replicate (signal_width signals z) false_literal) (sym e)
        (put_same (copy_of signals k) word now ∙ clear))
        (λ other.
        let differ : s ≡ k → ⊥ = (λ e. false≢true (sym other ∙ eq-eqb s k e)) in
        ap (λ (ws : Words). ws (copy_of signals s)) put
        ∙ put_other (copy_of signals k) (copy_of signals s) word now
        (λ e. differ (omega (arith, e)))
        ∙ so_far.copies s (omega (arith, low, differ)) at)
        (either_way (s == k));
    others = λ t low.
        ap (λ (ws : Words). ws t) put
        ∙ put_other (copy_of signals k) t word now (λ e. omega (arith, e, low))
        ∙ so_far.others t low;
  }

  pub clear_same : (k : ℕ) (now : Words) → ClearAt k now → (Contains followed k → ⊥) →
      ClearAt (k + 1) now
  clear_same k now so_far none = record {
    copies = λ s low at. ⊎_elim
        (λ same. absurd (none (subst (Contains followed) (eqb-true s k same) at)))
        (λ other.
        let differ : s ≡ k → ⊥ = (λ e. false≢true (sym other ∙ eq-eqb s k e)) in
        so_far.copies s (omega (arith, low, differ)) at)
        (either_way (s == k));
    others = so_far.others;
  }

-- ---- signals among others

-- one of those that are left passes or does not
pub passes_more : (test : ℕ → Bool) (f : ℕ → ℕ) (whole found : List ℕ) (x : ℕ) (rest : List ℕ) →
    found ++ map f (filter test (x ∷ rest)) ≡ whole → IsTrue (test x) →
    (found ++ f x ∷ []) ++ map f (filter test rest) ≡ whole
passes_more test f whole found x rest so_far passes =
    append_assoc found (f x ∷ []) (map f (filter test rest))
    ∙ ap (λ ys. found ++ map f ys)
    (sym (cond_true (test x) (x ∷ filter test rest) (filter test rest) passes))
    ∙ so_far

pub passes_none : (test : ℕ → Bool) (f : ℕ → ℕ) (whole found : List ℕ) (x : ℕ) (rest : List ℕ) →
    found ++ map f (filter test (x ∷ rest)) ≡ whole → IsFalse (test x) →
    found ++ map f (filter test rest) ≡ whole
passes_none test f whole found x rest so_far none =
    ap (λ ys. found ++ map f ys)
    (sym (cond_false (test x) (x ∷ filter test rest) (filter test rest) none))
    ∙ so_far

-- their widths, up to one over the most
abbrev pub WidthsAt : List SignalForm → (test : ℕ → Bool) → (whole total : ℕ) → List ℕ → Type 0
WidthsAt signals test whole total rest =
    (min (total + widths_of signals (filter test rest)) 4194305 ≡ min whole 4194305)
    × (total ≤ 4194305)

pub widths_more : (signals : List SignalForm) (test : ℕ → Bool) (whole total next x : ℕ)
    (rest : List ℕ) → WidthsAt signals test whole total (x ∷ rest) → IsTrue (test x) →
    next ≡ min (total + signal_width signals x) 4194305 → WidthsAt signals test whole next rest
widths_more signals test whole total next x rest so_far passes is =
    let here : min (total + widths_of signals (x ∷ filter test rest)) 4194305 ≡ min whole 4194305 =
    sym (ap (λ ys. min (total + widths_of signals ys) 4194305)
    (cond_true (test x) (x ∷ filter test rest) (filter test rest) passes))
    ∙ so_far.0 in
    let more : widths_of signals (x ∷ filter test rest)
    ≡ signal_width signals x + widths_of signals (filter test rest) =
    mapped_more (signal_width signals) x (filter test rest) in
    (omega (arith, here, more, is), omega (arith, is))

pub widths_none : (signals : List SignalForm) (test : ℕ → Bool) (whole total x : ℕ)
    (rest : List ℕ) → WidthsAt signals test whole total (x ∷ rest) → IsFalse (test x) →
    WidthsAt signals test whole total rest
widths_none signals test whole total x rest so_far none = (
  sym (ap (λ ys. min (total + widths_of signals ys) 4194305)
      (cond_false (test x) (x ∷ filter test rest) (filter test rest) none))
      ∙ so_far.0,
  so_far.1,
)
