-- Words of copies that are set aside: how they are put back, and how branches choose from them.
use Rattle.std.proofs.Common.{◌≡◌, ℕ, ◌<◌, ◌≤◌, ◌==◌, ℤ, Bool, true, false, cond, List, [], ◌∷◌}
use Rattle.std.proofs.Common.{◌++◌, length, refl, sym, ap, subst, ◌∙◌, ⊎_elim, arith}
use Rattle.std.specs.Prelude.{Contains}
use Rattle.std.proofs.lemmas.Bool.{false≢true, eqb-true, eq-eqb}
use mathlib.Core.Path.{fun_ext}
use Rattle.sv_system.proofs.Lists.{Contains-head, Contains-later, Contains-nil, Contains-cases}
use Rattle.sv_flat.specs.Design.{SignalForm}
use Rattle.sv_flat.specs.Values.{signal_width}
use Rattle.sv_flat.proofs.LeastSets.{either_way}
use Rattle.sv_flat.proofs.SameRuns.{none_found}
use Rattle.sv_obl.specs.Wanted.{with_copies}
use Rattle.sv_obl.proofs.PathLists.{cond_true, cond_false}
use Rattle.sv_gates.specs.Formulas.{Formula, IsLiteral}
use Rattle.sv_gates.specs.Gates.{mux_gate}
use Rattle.sv_gates.specs.Extending.{Begins}
use Rattle.sv_gates.proofs.ExtendingLaws.{begins_none, begins_trans}
use Rattle.sv_circuits.specs.Words.{Word, bitwise_word}
use Rattle.sv_circuits.specs.Circuits.{IsWord}
use Rattle.sv_circuits.proofs.Lengths.{per_bit_length}
use Rattle.sv_circuits.proofs.LoopSteps.{bits_grow, mux_takes}
use Rattle.sv_circuits.proofs.WordKeeps.{literal_up, word_up}
use Rattle.sv_encoding.specs.Expressions.{Words}
use Rattle.sv_encoding.specs.Bodies.{with_word}
use Rattle.sv_blast.specs.declared.followed_arms.WordsArm.{WordsArm}
use Rattle.sv_blast.specs.FollowedWords.{AllStand, PairsStand, ArmStands, ArmsStand, pairs, words_at}
use Rattle.sv_blast.specs.FollowedWords.{with_words, choices, choices_back}
use Rattle.sv_blast.proofs.ArmSteps.{full_on}

-- ---- one word

pub put_same : (s : ℕ) (word : Word) (ws : Words) → with_word s word ws s ≡ word
put_same s word ws = cond_true (s == s) word (ws s) (eq-eqb s s refl)

pub put_other : (s t : ℕ) (word : Word) (ws : Words) → (t ≡ s → ⊥) → with_word s word ws t ≡ ws t
put_other s t word ws apart =
    cond_false (t == s) word (ws t) (none_found (t == s) (λ same. apart (eqb-true t s same)))

-- ---- put back

-- words that differ in some copies alone, with their words put back
pub put_back : (copies : List ℕ) (old now : Words) →
    ((t : ℕ) → (Contains copies t → ⊥) → now t ≡ old t) →
    with_words (words_at old copies) now ≡ old
put_back copies old now same = fun_ext (λ t. at t copies (same t))
  where
    at : (t : ℕ) (cs : List ℕ) → ((Contains cs t → ⊥) → now t ≡ old t) →
        with_words (words_at old cs) now t ≡ old t
    at t [] left = left (λ inside. Contains-nil t inside)
    at t (c ∷ cs) left = ⊎_elim
        (λ is.
        cond_true (t == c) (old c) (with_words (words_at old cs) now t) is
        ∙ ap old (sym (eqb-true t c is)))
        (λ other.
        cond_false (t == c) (old c) (with_words (words_at old cs) now t) other
        ∙ at t cs (λ none. left (λ inside. ⊎_elim
        (λ e. false≢true (sym other ∙ eq-eqb t c (sym e)))
        (λ later. none later)
        (Contains-cases c cs t inside))))
        (either_way (t == c))

-- from the last one on
pub put_last : (xs : List (ℕ × Word)) (x : ℕ × Word) (ws : Words) →
    with_words (xs ++ x ∷ []) ws ≡ with_words xs (with_word x.0 x.1 ws)
put_last [] x ws = refl
put_last (y ∷ ys) x ws = ap (with_word y.0 y.1) (put_last ys x ws)

module _ (signals : List SignalForm) (IsAtHand : ℕ → Type 0) where
  abbrev Stand : ℕ → Words → Type 0
  Stand n ws = AllStand signals IsAtHand n ws

  -- ---- words that stand

  pub stand_put : (n s : ℕ) (word : Word) (ws : Words) → IsWord n word →
      length word ≡ signal_width (with_copies signals) s → Stand n ws → Stand n (with_word s word ws)
  stand_put n s word ws is wide stand t at = by (t == s) refl
    where
      by : (c : Bool) → (t == s) ≡ c → IsWord n (cond c word (ws t))
          × (length (cond c word (ws t)) ≡ signal_width (with_copies signals) t)
      by true same = (is, wide ∙ ap (signal_width (with_copies signals)) (sym (eqb-true t s same)))
      by false other = stand t at

  pub stand_up : (m n : ℕ) (ws : Words) → m ≤ n → Stand m ws → Stand n ws
  stand_up m n ws up stand t at =
      let there = stand t at in (word_up m n (ws t) up there.0, there.1)

  pub pairs_up : (m n : ℕ) (xs : List (ℕ × Word)) → m ≤ n → PairsStand signals IsAtHand m xs →
      PairsStand signals IsAtHand n xs
  pairs_up m n xs up stand x at =
      let there = stand x at in (there.0, (word_up m n x.1 up there.1.0, there.1.1))

  pub arm_up : (m n : ℕ) (arm : WordsArm) → m ≤ n → ArmStands signals IsAtHand m arm →
      ArmStands signals IsAtHand n arm
  arm_up m n arm up stand = (
    literal_up m n arm.condition up stand.0,
    pairs_up m n (pairs arm.words.items) up stand.1,
  )

  pub arms_up : (m n : ℕ) (arms : List WordsArm) → m ≤ n → ArmsStand signals IsAtHand m arms →
      ArmsStand signals IsAtHand n arms
  arms_up m n [] up stand = tt
  arms_up m n (arm ∷ arms) up stand =
      (arm_up m n arm up stand.0, arms_up m n arms up stand.1)

  pub arms_before : (n : ℕ) (arms : List WordsArm) (arm : WordsArm) →
      ArmsStand signals IsAtHand n (arms ++ arm ∷ []) →
      ArmsStand signals IsAtHand n arms × ArmStands signals IsAtHand n arm
  arms_before n [] arm stand = (tt, stand.0)
  arms_before n (a ∷ arms) arm stand =
      let rest = arms_before n arms arm stand.1 in ((stand.0, rest.0), rest.1)

  pub arms_with : (n : ℕ) (arms : List WordsArm) (arm : WordsArm) →
      ArmsStand signals IsAtHand n arms → ArmStands signals IsAtHand n arm →
      ArmsStand signals IsAtHand n (arms ++ arm ∷ [])
  arms_with n [] arm stand one = (one, tt)
  arms_with n (a ∷ arms) arm stand one = (stand.0, arms_with n arms arm stand.1 one)

-- ---- the choices of one branch

pub choices_grow : (condition : ℤ) (xs : List (ℕ × Word)) (ws : Words) (f : Formula) →
    f.variables ≤ (choices condition xs ws f).0.variables
choices_grow condition [] ws f = omega arith
choices_grow condition (x ∷ xs) ws f =
    let made = bitwise_word (mux_gate condition) x.1 (ws x.0) f in
    let here = bits_grow (mux_gate condition) x.1 (ws x.0) f (mux_takes condition) in
    let rest = choices_grow condition xs (with_word x.0 made.1 ws) made.0 in
    omega (arith, here, rest)

-- what is to be chosen comes from what is left and from words that are there
pub record ChoosingAt (signals : List SignalForm) (IsAtHand : ℕ → Type 0) (whole : Formula × Words)
    (condition : ℤ) (left : List (ℕ × Word)) (old now : Formula) (ws : Words) : Type 0 where
  pub made : whole ≡ choices condition left ws now
  pub literal : IsLiteral now.variables condition
  pub left_stand : PairsStand signals IsAtHand now.variables left
  pub stand : AllStand signals IsAtHand now.variables ws
  pub begins : Begins old now

module _ (signals : List SignalForm) (IsAtHand : ℕ → Type 0) where
  pub choosing_start : (condition : ℤ) (xs : List (ℕ × Word)) (old : Formula) (ws : Words) →
      IsLiteral old.variables condition → PairsStand signals IsAtHand old.variables xs →
      AllStand signals IsAtHand old.variables ws →
      ChoosingAt signals IsAtHand (choices condition xs ws old) condition xs old old ws
  choosing_start condition xs old ws literal left stand = record {
    made = refl;
    literal = literal;
    left_stand = left;
    stand = stand;
    begins = begins_none old;
  }

  module _ (whole : Formula × Words) (condition : ℤ) (left rest : List (ℕ × Word)) (x : ℕ × Word)
      (old now : Formula) (ws : Words)
      (choosing : ChoosingAt signals IsAtHand whole condition left old now ws)
      (turn : left ≡ x ∷ rest) where
    abbrev made_here : Formula × Word
    made_here = bitwise_word (mux_gate condition) x.1 (ws x.0) now

    from_here : whole ≡ choices condition rest (with_word x.0 made_here.1 ws) made_here.0
    from_here = choosing.made ∙ ap (λ xs. choices condition xs ws now) turn

    pub one_stands : IsAtHand x.0 × (IsWord now.variables x.1
        × (length x.1 ≡ signal_width (with_copies signals) x.0))
    one_stands =
        choosing.left_stand x (subst (λ xs. Contains xs x) (sym turn) (Contains-head x rest))

    pub there_stands : IsWord now.variables (ws x.0)
    there_stands = (choosing.stand x.0 one_stands.0).0

    pub choosing_full : (most : ℕ) → most < made_here.0.variables → most < whole.0.variables
    choosing_full most high =
        let grows = choices_grow condition rest (with_word x.0 made_here.1 ws) made_here.0 in
        subst (λ (z : Formula × Words). most < z.0.variables) (sym from_here)
        (omega (arith, high, grows))

    pub choosing_more : (later : Formula) (word : Word) (next : Words) → made_here ≡ (later, word) →
        IsWord later.variables word → Begins now later → next ≡ with_word x.0 word ws →
        ChoosingAt signals IsAtHand whole condition rest old later next
    choosing_more later word next made is begins put =
        let m = now.variables in
        let n = later.variables in
        let wide : length word ≡ signal_width (with_copies signals) x.0 =
        ap (λ (z : Formula × Word). length z.1) (sym made)
        ∙ per_bit_length (mux_gate condition) x.1 (ws x.0) now
        (one_stands.1.1 ∙ sym (choosing.stand x.0 one_stands.0).1)
        ∙ one_stands.1.1 in
        record {
          made = from_here
              ∙ ap (λ (z : Formula × Word). choices condition rest (with_word x.0 z.1 ws) z.0) made
              ∙ ap (λ (vs : Words). choices condition rest vs later) (sym put);
          literal = literal_up m n condition begins.grows choosing.literal;
          left_stand = λ y at.
              let there = choosing.left_stand y
              (subst (λ xs. Contains xs y) (sym turn) (Contains-later x rest y at)) in
              (there.0, (word_up m n y.1 begins.grows there.1.0, there.1.1));
          stand = subst (AllStand signals IsAtHand n) (sym put)
              (stand_put signals IsAtHand n x.0 word ws is wide
              (stand_up signals IsAtHand m n ws begins.grows choosing.stand));
          begins = begins_trans old now later choosing.begins begins;
        }

-- ---- the way back through branches

-- the choices at one branch
abbrev pub chosen_at : WordsArm → Formula × Words → Formula × Words
chosen_at arm made = choices arm.condition (pairs arm.words.items) made.1 made.0

pub chosen_last : (arms : List WordsArm) (arm : WordsArm) (made : Formula × Words) →
    choices_back (arms ++ arm ∷ []) made ≡ choices_back arms (chosen_at arm made)
chosen_last [] arm made = refl
chosen_last (a ∷ arms) arm made = ap (chosen_at a) (chosen_last arms arm made)

pub back_grows : (arms : List WordsArm) (made : Formula × Words) →
    made.0.variables ≤ (choices_back arms made).0.variables
back_grows [] made = omega arith
back_grows (arm ∷ arms) made =
    let rest = back_grows arms made in
    let before = choices_back arms made in
    let here = choices_grow arm.condition (pairs arm.words.items) before.1 before.0 in
    omega (arith, rest, here)

-- what is to be made comes from the arms that are left and from words that are there
pub record BackAt (signals : List SignalForm) (IsAtHand : ℕ → Type 0) (whole : Formula × Words)
    (old now : Formula) (arms : List WordsArm) (ws : Words) : Type 0 where
  pub made : whole ≡ choices_back arms (now, ws)
  pub arms_stand : ArmsStand signals IsAtHand now.variables arms
  pub stand : AllStand signals IsAtHand now.variables ws
  pub begins : Begins old now

module _ (signals : List SignalForm) (IsAtHand : ℕ → Type 0) (whole : Formula × Words)
    (old now : Formula) (arms left : List WordsArm) (arm : WordsArm) (ws : Words)
    (back : BackAt signals IsAtHand whole old now arms ws) (split : arms ≡ left ++ arm ∷ []) where
  last_made : whole ≡ choices_back left (chosen_at arm (now, ws))
  last_made =
      back.made ∙ ap (λ xs. choices_back xs (now, ws)) split ∙ chosen_last left arm (now, ws)

  pub last_stands : ArmsStand signals IsAtHand now.variables left
      × ArmStands signals IsAtHand now.variables arm
  last_stands =
      arms_before signals IsAtHand now.variables left arm
      (subst (ArmsStand signals IsAtHand now.variables) split back.arms_stand)

  pub last_full : (most : ℕ) → most < (chosen_at arm (now, ws)).0.variables →
      most < whole.0.variables
  last_full =
      full_on (chosen_at arm (now, ws)) last_made (back_grows left (chosen_at arm (now, ws)))

  pub last_taken : (later : Formula) (next : Words) → chosen_at arm (now, ws) ≡ (later, next) →
      AllStand signals IsAtHand later.variables next → Begins now later →
      BackAt signals IsAtHand whole old later left next
  last_taken later next made stand begins = record {
    made = last_made ∙ ap (choices_back left) made;
    arms_stand = arms_up signals IsAtHand now.variables later.variables left begins.grows
        last_stands.0;
    stand = stand;
    begins = begins_trans old now later back.begins begins;
  }
