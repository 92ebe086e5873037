-- What a statement makes of words spells what it makes of values (IEEE 1364-2005, clause 9).
use Rattle.std.proofs.Common.{◌≡◌, ℕ, ◌/◌, ◌^◌, ◌<◌, ◌≤◌, Bool, true, false, ◌||◌, ◌==◌, cond}
use Rattle.std.proofs.Common.{ℤ, List, [], ◌∷◌, fold, drop, filter, length, refl, sym, ap, ap₂, subst}
use Rattle.std.proofs.Common.{◌∙◌, ◌⊎◌, inl, inr, ⊎_elim, arith}
use Rattle.std.specs.Prelude.{Contains, IsTrue, IsFalse}
use Rattle.std.specs.List.{list_any}
use Rattle.std.proofs.lemmas.Bool.{false≢true, eqb-true, eq-eqb, or_left, or_right}
use Rattle.sv_num.specs.Vectors.{is_true}
use Rattle.sv_num.specs.Parts.{replaced_bits}
use Rattle.sv_system.specs.System.{Environment, put}
use Rattle.sv_system.proofs.Lists.{Contains-head, Contains-later, Contains-cases, Contains-nil}
use Rattle.sv_system.proofs.Lists.{Contains-filter}
use Rattle.sv_flat.specs.Design.{SignalForm, TypedTree, PieceForm, FlatStatement, nothing, after}
use Rattle.sv_flat.specs.Design.{assign, branch}
use Rattle.sv_flat.specs.Values.{signal_width, expression_width, value}
use Rattle.sv_flat.specs.Soundness.{well_formed}
use Rattle.sv_flat.specs.Assigned.{assigns}
use Rattle.sv_flat.specs.Runs.{with_piece}
use Rattle.sv_flat.specs.Sets.{holds}
use Rattle.sv_flat.proofs.LeastSets.{either_way, some_from, from_some, holds-from_Contains}
use Rattle.sv_flat.proofs.LeastSets.{Contains-from_holds, Contains-from_filter}
use Rattle.sv_flat.proofs.SameRuns.{none_found}
use Rattle.sv_obl.specs.MadeValues.{put_followed, made_on_the_way}
use Rattle.sv_obl.specs.Wanted.{with_copies, copy_of}
use Rattle.sv_obl.proofs.PathLists.{cond_true, cond_false, none_of}
use Rattle.sv_obl.proofs.PutFacts.{width_copy}
use Rattle.sv_clause.specs.Literals.{literal_true}
use Rattle.sv_gates.specs.Formulas.{Formula, meets, IsLiteral}
use Rattle.sv_gates.specs.Gates.{mux_gate}
use Rattle.sv_gates.specs.Extending.{Makes}
use Rattle.sv_gates.proofs.GateLaws.{literal_more}
use Rattle.sv_gates.proofs.ExtendingLaws.{makes_at_once, meets-begins, extends_trans}
use Rattle.sv_circuits.specs.Words.{Word, word_value, replaced_word, bitwise_word}
use Rattle.sv_circuits.specs.Circuits.{IsWord, IsBase}
use Rattle.sv_circuits.proofs.Pieces.{base_more}
use Rattle.sv_circuits.proofs.Comparisons.{drop_is}
use Rattle.sv_circuits.proofs.WordValues.{dropped_value}
use Rattle.sv_circuits.proofs.PartValues.{replaced_is, replaced_length, replaced_value}
use Rattle.sv_encoding.specs.Expressions.{Words, expression_word, is_true_bit}
use Rattle.sv_encoding.specs.Bodies.{with_word, assigns_some, with_piece_word, chosen_words}
use Rattle.sv_encoding.specs.Bodies.{words_after}
use Rattle.sv_encoding.specs.Valuations.{spelled_environment}
use Rattle.sv_encoding.specs.BothWays.{HaveBits}
use Rattle.sv_encoding_laws.proofs.ExpressionLaws.{Named, expression_makes}
use Rattle.sv_encoding_laws.proofs.NamedValues.{named_value, named_as}
use Rattle.sv_encoding_laws.proofs.Steps.{HasWidth, Spells, Has, MakesWord, MakesBit, width_more}
use Rattle.sv_encoding_laws.proofs.Steps.{choice_step, not_zero_step}

-- what no element changes, a fold does not
pub folded_leaves : {V X : Type 0} (change : (ℕ → V) → X → ℕ → V) (t : ℕ) (xs : List X)
    (now : ℕ → V) → ((x : X) → Contains xs x → (before : ℕ → V) → change before x t ≡ before t)
    → fold change now xs t ≡ now t
folded_leaves change t [] now each = refl
folded_leaves change t (x ∷ xs) now each =
    folded_leaves change t xs (change now x) (λ y at. each y (Contains-later x xs y at))
    ∙ each x (Contains-head x xs) now

-- ---- tests of lists

some_left : {X : Type 0} (f g : X → Bool) (xs : List X) →
    IsFalse (list_any (λ x. f x || g x) xs) → IsFalse (list_any f xs)
some_left f g xs h = none_of f (λ x. f x || g x) xs (λ x. or_left (f x) (g x)) h

some_right : {X : Type 0} (f g : X → Bool) (xs : List X) →
    IsFalse (list_any (λ x. f x || g x) xs) → IsFalse (list_any g xs)
some_right f g xs h = none_of g (λ x. f x || g x) xs (λ x. or_right (f x) (g x)) h

module _ (signals : List SignalForm) (bits : HaveBits (with_copies signals)) (followed : List ℕ)
    (G : ℕ → Type 0) (copies : (s : ℕ) → IsTrue (holds followed s) → G (copy_of signals s)) where
  abbrev both : List SignalForm
  both = with_copies signals

  -- the words of the names that count stand in a formula, and spell an environment
  abbrev pub Stand : (variables : ℕ) → Words → Type 0
  Stand n ws = (t : ℕ) → G t → HasWidth (signal_width both t) n (ws t)

  abbrev pub SpellAll : ((ℕ → Bool) → Environment ℕ) → (ℕ → Bool) → Words → Type 0
  SpellAll env values ws = (t : ℕ) → G t → word_value values (ws t) ≡ env values t

  abbrev pub MakesWords : (old : Formula) → Formula × Words → ((ℕ → Bool) → Environment ℕ) → Type 0
  MakesWords old made env = Makes old made Stand (SpellAll env)

  -- in values that meet a formula
  abbrev pub Holding : Formula → Words → ((ℕ → Bool) → Environment ℕ) → Type 0
  Holding old ws env =
      (values : ℕ → Bool) → meets values old.clauses ≡ true → SpellAll env values ws

  stand_more : (m n : ℕ) (ws : Words) → m ≤ n → Stand m ws → Stand n ws
  stand_more m n ws h stand t g = width_more m n (signal_width both t) (ws t) h (stand t g)

  -- ---- what a statement needs

  pub record ExpressionFits (e : TypedTree) : Type 0 where
    pub formed : IsTrue (well_formed both e)
    pub named : Named G e

  abbrev pub PieceFits : PieceForm → Type 0
  PieceFits p =
      IsTrue (holds followed p.signal) → (p.low ≤ p.high) × (p.high < signal_width signals p.signal)

  abbrev pub PiecesFit : List PieceForm → Type 0
  PiecesFit pieces = (p : PieceForm) → Contains pieces p → PieceFits p

  abbrev pub BodyFits : FlatStatement → Type 0
  BodyFits nothing = Unit {0}
  BodyFits (after first second) = BodyFits first × BodyFits second
  BodyFits (assign pieces place blocking right) =
      IsTrue (assigns_some followed (assign pieces place blocking right)) →
      ExpressionFits right × PiecesFit pieces
  BodyFits (branch place condition first second) =
      (IsTrue (assigns_some followed (branch place condition first second)) →
      ExpressionFits condition) × (BodyFits first × BodyFits second)

  -- ---- expressions

  expression_step : (e : TypedTree) → ExpressionFits e → (old : Formula) → IsBase old →
      (ws : Words) → Stand old.variables ws → (now : (ℕ → Bool) → Environment ℕ) →
      Holding old ws now →
      MakesWord old (expression_word both ws e old) (expression_width e)
      (λ values. value both (now values) e)
  expression_step e fits old base ws stand now holding =
      let made = expression_word both ws e old in
      let p = expression_makes both bits ws old.variables e fits.formed
      (named_as G (λ t. HasWidth (signal_width both t) old.variables (ws t)) stand e fits.named) old
      (omega arith) base in
      record {
        extends = p.extends;
        within = p.within;
        says = λ values met.
            p.says values met
            ∙ named_value both (spelled_environment values ws) (now values) e
            (named_as G (λ t. spelled_environment values ws t ≡ now values t)
            (holding values (meets-begins old made.0 values p.extends.begins met)) e fits.named);
      }

  truth_step : (e : TypedTree) → ExpressionFits e → (old : Formula) → IsBase old →
      (ws : Words) → Stand old.variables ws → (now : (ℕ → Bool) → Environment ℕ) →
      Holding old ws now →
      MakesBit old (is_true_bit both ws e old) (λ values. is_true (value both (now values) e))
  truth_step e fits old base ws stand now holding =
      not_zero_step old (expression_word both ws e old) (expression_width e)
      (λ values. value both (now values) e) base
      (expression_step e fits old base ws stand now holding)

  -- ---- pieces

  changed_stand : (n s : ℕ) (word : Word) (ws : Words) → HasWidth (signal_width both s) n word →
      Stand n ws → Stand n (with_word s word ws)
  changed_stand n s word ws has stand t g = by (t == s) refl
    where
      by : (d : Bool) → (t == s) ≡ d → HasWidth (signal_width both t) n (cond d word (ws t))
      by true is =
          subst (λ k. HasWidth (signal_width both k) n word) (sym (eqb-true t s is)) has
      by false is = stand t g

  abbrev new_word : Word → Words → PieceForm → Word
  new_word right ws p =
      replaced_word p.high p.low (ws (copy_of signals p.signal)) (drop p.from right)

  inside : (n : ℕ) (ws : Words) (p : PieceForm) → Stand n ws → PieceFits p →
      IsTrue (holds followed p.signal) →
      (p.low ≤ p.high) × (p.high < length (ws (copy_of signals p.signal)))
  inside n ws p stand fits held =
      let s = copy_of signals p.signal in
      let fit = fits held in (
        fit.0,
        subst (λ k. p.high < k)
            (sym (width_copy signals p.signal) ∙ sym (stand s (copies p.signal held)).width) fit.1,
      )

  new_has : (n : ℕ) → 1 ≤ n → (right : Word) → IsWord n right → (ws : Words) (p : PieceForm) →
      Stand n ws → PieceFits p → IsTrue (holds followed p.signal) →
      HasWidth (signal_width both (copy_of signals p.signal)) n (new_word right ws p)
  new_has n some right is ws p stand fits held =
      let s = copy_of signals p.signal in
      let old = stand s (copies p.signal held) in
      let fit = inside n ws p stand fits held in
      record {
        is = replaced_is n p.high p.low (ws s) (drop p.from right) some old.is
            (drop_is n p.from right is);
        width = replaced_length p.high p.low (ws s) (drop p.from right) fit.0 fit.1 ∙ old.width;
      }

  piece_stand : (n : ℕ) → 1 ≤ n → (right : Word) → IsWord n right → (ws : Words) (p : PieceForm) →
      Stand n ws → PieceFits p → Stand n (with_piece_word signals followed right ws p)
  piece_stand n some right is ws p stand fits = by (holds followed p.signal) refl
    where
      by : (c : Bool) → holds followed p.signal ≡ c →
          Stand n (cond c (with_word (copy_of signals p.signal) (new_word right ws p) ws) ws)
      by true held = changed_stand n (copy_of signals p.signal) (new_word right ws p) ws
          (new_has n some right is ws p stand fits held) stand
      by false none = stand

  pieces_stand : (n : ℕ) → 1 ≤ n → (right : Word) → IsWord n right → (pieces : List PieceForm) →
      (ws : Words) → Stand n ws → PiecesFit pieces →
      Stand n (fold (with_piece_word signals followed right) ws pieces)
  pieces_stand n some right is [] ws stand fits = stand
  pieces_stand n some right is (p ∷ pieces) ws stand fits =
      pieces_stand n some right is pieces (with_piece_word signals followed right ws p)
      (piece_stand n some right is ws p stand (fits p (Contains-head p pieces)))
      (λ q at. fits q (Contains-later p pieces q at))

  -- ---- what pieces spell

  changed_says : (values : ℕ → Bool) (s : ℕ) (word : Word) (ws : Words) (now : Environment ℕ)
      (new : ℕ) → word_value values word ≡ new → (t : ℕ) → word_value values (ws t) ≡ now t →
      word_value values (with_word s word ws t) ≡ put ◌==◌ s new now t
  changed_says values s word ws now new e t old = ⊎_elim
      (λ same.
      ap (word_value values) (cond_true (t == s) word (ws t) same) ∙ e
      ∙ sym (cond_true (s == t) new (now t) (eq-eqb s t (sym (eqb-true t s same)))))
      (λ other.
      ap (word_value values) (cond_false (t == s) word (ws t) other) ∙ old
      ∙ sym (cond_false (s == t) new (now t)
      (none_found (s == t) (λ same. false≢true (sym other ∙ eq-eqb t s (sym (eqb-true s t same)))))))
      (either_way (t == s))

  module _ (values : ℕ → Bool) (one : values 1 ≡ true) (n : ℕ) (right : Word) (v : ℕ)
      (spells : word_value values right ≡ v) where
    new_says : (ws : Words) (now : Environment ℕ) (p : PieceForm) → Stand n ws → PieceFits p →
        ((t : ℕ) → G t → word_value values (ws t) ≡ now t) → IsTrue (holds followed p.signal) →
        word_value values (new_word right ws p)
        ≡ with_piece signals p v (now (copy_of signals p.signal))
    new_says ws now p stand fits said held =
        let s = copy_of signals p.signal in
        let g = copies p.signal held in
        let fit = inside n ws p stand fits held in
        replaced_value values one p.high p.low (ws s) (drop p.from right) fit.0 fit.1
        ∙ ap (λ k. replaced_bits k p.high p.low (word_value values (ws s))
        (word_value values (drop p.from right))) ((stand s g).width ∙ width_copy signals p.signal)
        ∙ ap₂ (replaced_bits (signal_width signals p.signal) p.high p.low) (said s g)
        (dropped_value values p.from right ∙ ap (λ k. k / 2 ^ p.from) spells)

    piece_says : (ws : Words) (now : Environment ℕ) (p : PieceForm) → Stand n ws → PieceFits p →
        ((t : ℕ) → G t → word_value values (ws t) ≡ now t) → (t : ℕ) → G t →
        word_value values (with_piece_word signals followed right ws p t)
        ≡ put_followed signals followed v now p t
    piece_says ws now p stand fits said t g = by (holds followed p.signal) refl
      where
        by : (c : Bool) → holds followed p.signal ≡ c →
            word_value values (cond c (with_word (copy_of signals p.signal) (new_word right ws p) ws)
            ws t)
            ≡ cond c (put ◌==◌ (copy_of signals p.signal)
            (with_piece signals p v (now (copy_of signals p.signal))) now) now t
        by true held =
            changed_says values (copy_of signals p.signal) (new_word right ws p) ws now
            (with_piece signals p v (now (copy_of signals p.signal)))
            (new_says ws now p stand fits said held) t (said t g)
        by false none = said t g

    pieces_say : 1 ≤ n → IsWord n right → (pieces : List PieceForm) (ws : Words)
        (now : Environment ℕ) → Stand n ws → PiecesFit pieces →
        ((t : ℕ) → G t → word_value values (ws t) ≡ now t) → (t : ℕ) → G t →
        word_value values (fold (with_piece_word signals followed right) ws pieces t)
        ≡ fold (put_followed signals followed v) now pieces t
    pieces_say some is [] ws now stand fits said t g = said t g
    pieces_say some is (p ∷ pieces) ws now stand fits said t g =
        let fit = fits p (Contains-head p pieces) in
        pieces_say some is pieces (with_piece_word signals followed right ws p)
        (put_followed signals followed v now p) (piece_stand n some right is ws p stand fit)
        (λ q at. fits q (Contains-later p pieces q at))
        (λ u h. piece_says ws now p stand fit said u h) t g

  -- ---- choices

  abbrev IsCopyOf : List ℕ → ℕ → Type 0
  IsCopyOf ts t = (u : ℕ) × Contains ts u × (copy_of signals u ≡ t)

  module _ (b : (ℕ → Bool) → Bool) (x y : (ℕ → Bool) → Environment ℕ) (condition : ℤ)
      (one two : Words) where
    abbrev Chosen : (ℕ → Bool) → Environment ℕ
    Chosen values t = cond (b values) (x values t) (y values t)

    chosen_make : (ts : List ℕ) → ((u : ℕ) → Contains ts u → IsTrue (holds followed u)) →
        (old : Formula) → IsBase old → IsLiteral old.variables condition →
        ((values : ℕ → Bool) → meets values old.clauses ≡ true →
        literal_true values condition ≡ b values) →
        Stand old.variables one → Holding old one x → Stand old.variables two → Holding old two y →
        (ws : Words) → Stand old.variables ws →
        ((t : ℕ) → G t → IsCopyOf ts t ⊎ ((values : ℕ → Bool) → meets values old.clauses ≡ true →
        word_value values (ws t) ≡ Chosen values t)) →
        MakesWords old (chosen_words signals condition one two ts ws old) Chosen
    chosen_make [] held old base is truth stand1 says1 stand2 says2 ws stand ready =
        makes_at_once old ws Stand (SpellAll Chosen) base.closed stand
        (λ values met t g. ⊎_elim (λ copy. absurd (Contains-nil copy.0 copy.1))
        (λ says. says values met) (ready t g))
    chosen_make (u ∷ ts) held old base is truth stand1 says1 stand2 says2 ws stand ready =
        let s = copy_of signals u in
        let g = copies u (held u (Contains-head u ts)) in
        let size = signal_width both s in
        let mid = bitwise_word (mux_gate condition) (one s) (two s) old in
        let p = choice_step old (old, condition) (old, one s) (old, two s) size b
        (λ values. x values s) (λ values. y values s) base
        (makes_at_once old condition IsLiteral (Has b) base.closed is truth)
        (makes_at_once old (one s) (HasWidth size) (Spells (λ values. x values s)) base.closed
        (stand1 s g) (λ values met. says1 values met s g))
        (makes_at_once old (two s) (HasWidth size) (Spells (λ values. y values s)) base.closed
        (stand2 s g) (λ values met. says2 values met s g)) in
        let m = old.variables in
        let n = (mid.0).variables in
        let grows = p.extends.begins.grows in
        let back : (values : ℕ → Bool) → meets values (mid.0).clauses ≡ true →
        meets values old.clauses ≡ true =
        (λ values met. meets-begins old mid.0 values p.extends.begins met) in
        let rest = chosen_make ts (λ k at. held k (Contains-later u ts k at)) mid.0
        (base_more old mid.0 base p.extends) (literal_more m n condition grows is)
        (λ values met. truth values (back values met))
        (stand_more m n one grows stand1) (λ values met. says1 values (back values met))
        (stand_more m n two grows stand2) (λ values met. says2 values (back values met))
        (with_word s mid.1 ws) (changed_stand n s mid.1 ws p.within (stand_more m n ws grows stand))
        (λ t at. next_ready u ts old mid ws back (λ values met. p.says values met) ready t at) in
        record {
          extends = extends_trans old mid.0
              (chosen_words signals condition one two ts (with_word s mid.1 ws) mid.0).0 p.extends
              rest.extends;
          within = rest.within;
          says = rest.says;
        }
      where
        next_ready : (u : ℕ) (ts : List ℕ) (old : Formula) (mid : Formula × Word) (ws : Words) →
            ((values : ℕ → Bool) → meets values (mid.0).clauses ≡ true →
            meets values old.clauses ≡ true) →
            ((values : ℕ → Bool) → meets values (mid.0).clauses ≡ true →
            word_value values mid.1 ≡ Chosen values (copy_of signals u)) →
            ((t : ℕ) → G t → IsCopyOf (u ∷ ts) t ⊎ ((values : ℕ → Bool) →
            meets values old.clauses ≡ true → word_value values (ws t) ≡ Chosen values t)) →
            (t : ℕ) → G t → IsCopyOf ts t ⊎ ((values : ℕ → Bool) →
            meets values (mid.0).clauses ≡ true →
            word_value values (with_word (copy_of signals u) mid.1 ws t) ≡ Chosen values t)
        next_ready u ts old mid ws back says ready t g = ⊎_elim
            (λ same. inr (λ values met.
            ap (word_value values) (cond_true (t == copy_of signals u) mid.1 (ws t) same)
            ∙ says values met
            ∙ ap (Chosen values) (sym (eqb-true t (copy_of signals u) same))))
            (λ other. ⊎_elim
            (λ copy. ⊎_elim
            (λ first. absurd (false≢true (sym other ∙ eq-eqb t (copy_of signals u)
            (sym copy.2 ∙ ap (copy_of signals) (sym first)))))
            (λ later. inl (copy.0, later, copy.2))
            (Contains-cases u ts copy.0 copy.1))
            (λ done. inr (λ values met.
            ap (word_value values) (cond_false (t == copy_of signals u) mid.1 (ws t) other)
            ∙ done values (back values met)))
            (ready t g))
            (either_way (t == copy_of signals u))

  -- ---- what a statement leaves

  pieces_leave_all : (v : ℕ) (pieces : List PieceForm) (now : Environment ℕ) →
      ((p : PieceForm) → Contains pieces p → IsFalse (holds followed p.signal)) →
      fold (put_followed signals followed v) now pieces ≡ now
  pieces_leave_all v [] now none = refl
  pieces_leave_all v (p ∷ pieces) now none =
      let s = copy_of signals p.signal in
      ap (λ (e : Environment ℕ). fold (put_followed signals followed v) e pieces)
      (cond_false (holds followed p.signal) (put ◌==◌ s (with_piece signals p v (now s)) now) now
      (none p (Contains-head p pieces)))
      ∙ pieces_leave_all v pieces now (λ q at. none q (Contains-later p pieces q at))

  either_same : (c : Bool) (f g now : Environment ℕ) → f ≡ now → g ≡ now → cond c f g ≡ now
  either_same true f g now one two = one
  either_same false f g now one two = two

  leaves_all : (body : FlatStatement) (now : Environment ℕ) → IsFalse (assigns_some followed body) →
      made_on_the_way signals followed body now ≡ now
  leaves_all nothing now none = refl
  leaves_all (after first second) now none =
      ap (made_on_the_way signals followed second)
      (leaves_all first now (some_left (assigns first) (assigns second) followed none))
      ∙ leaves_all second now (some_right (assigns first) (assigns second) followed none)
  leaves_all (assign pieces place blocking right) now none =
      pieces_leave_all (value both now right) pieces now (λ p at.
      none_found (holds followed p.signal) (λ held.
      false≢true (sym none ∙ some_from (assigns (assign pieces place blocking right)) followed
      p.signal (Contains-from_holds followed p.signal held)
      (some_from (λ (q : PieceForm). q.signal == p.signal) pieces p at
      (eq-eqb p.signal p.signal refl)))))
  leaves_all (branch place condition first second) now none =
      either_same (is_true (value both now condition))
      (made_on_the_way signals followed first now) (made_on_the_way signals followed second now) now
      (leaves_all first now (some_left (assigns first) (assigns second) followed none))
      (leaves_all second now (some_right (assigns first) (assigns second) followed none))

  -- the name is no copy of a followed signal that is assigned
  abbrev IsLeftBy : FlatStatement → ℕ → Type 0
  IsLeftBy body t =
      (s : ℕ) → IsTrue (holds followed s) → IsTrue (assigns body s) → copy_of signals s ≡ t → ⊥

  piece_leaves : (v t : ℕ) (p : PieceForm) (now : Environment ℕ) →
      (IsTrue (holds followed p.signal) → copy_of signals p.signal ≡ t → ⊥) →
      put_followed signals followed v now p t ≡ now t
  piece_leaves v t p now apart = by (copy_of signals p.signal) apart (holds followed p.signal) refl
    where
      by : (copy : ℕ) → (IsTrue (holds followed p.signal) → copy ≡ t → ⊥) → (c : Bool) →
          holds followed p.signal ≡ c →
          cond c (put ◌==◌ copy (with_piece signals p v (now copy)) now) now t ≡ now t
      by copy apart true held =
          cond_false (copy == t) (with_piece signals p v (now copy)) (now t)
          (none_found (copy == t) (λ same. apart held (eqb-true copy t same)))
      by copy apart false none = refl

  arms_leave : (c : Bool) (f g : Environment ℕ) (t k : ℕ) → f t ≡ k → g t ≡ k → cond c f g t ≡ k
  arms_leave true f g t k one two = one
  arms_leave false f g t k one two = two

  leaves_one : (body : FlatStatement) (now : Environment ℕ) (t : ℕ) → IsLeftBy body t →
      made_on_the_way signals followed body now t ≡ now t
  leaves_one nothing now t left = refl
  leaves_one (after first second) now t left =
      leaves_one second (made_on_the_way signals followed first now) t
      (λ s held own. left s held (or_right (assigns first s) (assigns second s) own))
      ∙ leaves_one first now t
      (λ s held own. left s held (or_left (assigns first s) (assigns second s) own))
  leaves_one (assign pieces place blocking right) now t left =
      folded_leaves (put_followed signals followed (value both now right)) t pieces now
      (λ p at before. piece_leaves (value both now right) t p before (λ held.
      left p.signal held (some_from (λ (q : PieceForm). q.signal == p.signal) pieces p at
      (eq-eqb p.signal p.signal refl))))
  leaves_one (branch place condition first second) now t left =
      arms_leave (is_true (value both now condition)) (made_on_the_way signals followed first now)
      (made_on_the_way signals followed second now) t (now t)
      (leaves_one first now t
      (λ s held own. left s held (or_left (assigns first s) (assigns second s) own)))
      (leaves_one second now t
      (λ s held own. left s held (or_right (assigns first s) (assigns second s) own)))

  -- ---- statements

  at_arm : (c : Bool) (f g : Environment ℕ) (t : ℕ) → cond c (f t) (g t) ≡ cond c f g t
  at_arm true f g t = refl
  at_arm false f g t = refl

  abbrev pub BodyMakes : FlatStatement → Type 0
  BodyMakes body =
      (old : Formula) → IsBase old → (ws : Words) → Stand old.variables ws →
      (now : (ℕ → Bool) → Environment ℕ) → Holding old ws now →
      MakesWords old (words_after signals followed body ws old)
      (λ values. made_on_the_way signals followed body (now values))

  pub words_make : (body : FlatStatement) → BodyFits body → BodyMakes body
  words_make nothing fits old base ws stand now holding =
      makes_at_once old ws Stand (SpellAll now) base.closed stand holding
  words_make (after first second) fits old base ws stand now holding =
      let one = words_after signals followed first ws old in
      let p = words_make first fits.0 old base ws stand now holding in
      let two = words_after signals followed second one.1 one.0 in
      let q = words_make second fits.1 one.0 (base_more old one.0 base p.extends) one.1 p.within
      (λ values. made_on_the_way signals followed first (now values)) p.says in
      record {
        extends = extends_trans old one.0 two.0 p.extends q.extends;
        within = q.within;
        says = q.says;
      }
  words_make (assign pieces place blocking right) fits old base ws stand now holding =
      by (assigns_some followed (assign pieces place blocking right)) refl
    where
      body : FlatStatement
      body = assign pieces place blocking right

      word : Formula × Word
      word = expression_word both ws right old

      by : (c : Bool) → assigns_some followed body ≡ c →
          MakesWords old
          (cond c (word.0, fold (with_piece_word signals followed word.1) ws pieces) (old, ws))
          (λ values. made_on_the_way signals followed body (now values))
      by true own =
          let fit = fits own in
          let p = expression_step right fit.0 old base ws stand now holding in
          let n = (word.0).variables in
          let base1 = base_more old word.0 base p.extends in
          let stand1 = stand_more old.variables n ws p.extends.begins.grows stand in
          record {
            extends = p.extends;
            within = pieces_stand n base1.some word.1 p.within.is pieces ws stand1 fit.1;
            says = λ values met.
                pieces_say values (base1.truth values met) n word.1
                (value both (now values) right) (p.says values met) base1.some p.within.is pieces ws
                (now values) stand1 fit.1
                (holding values (meets-begins old word.0 values p.extends.begins met));
          }
      by false none =
          makes_at_once old ws Stand
          (SpellAll (λ values. made_on_the_way signals followed body (now values))) base.closed stand
          (λ values met t g. holding values met t g
          ∙ ap (λ (e : Environment ℕ). e t) (sym (leaves_all body (now values) none)))
  words_make (branch place condition first second) fits old base ws stand now holding =
      by (assigns_some followed (branch place condition first second)) refl
      (words_make first fits.1.0) (words_make second fits.1.1)
    where
      body : FlatStatement
      body = branch place condition first second

      assigned : List ℕ
      assigned = filter (assigns body) followed

      bit : Formula × ℤ
      bit = is_true_bit both ws condition old

      one : Formula × Words
      one = words_after signals followed first ws bit.0

      two : Formula × Words
      two = words_after signals followed second ws one.0

      made : Formula × Words
      made = chosen_words signals bit.1 one.1 two.1 assigned ws two.0

      b : (ℕ → Bool) → Bool
      b values = is_true (value both (now values) condition)

      x : (ℕ → Bool) → Environment ℕ
      x values = made_on_the_way signals followed first (now values)

      y : (ℕ → Bool) → Environment ℕ
      y values = made_on_the_way signals followed second (now values)

      is_assigned : (s : ℕ) → IsTrue (holds followed s) → IsTrue (assigns body s) →
          Contains assigned s
      is_assigned s held own =
          Contains-filter (assigns body) followed s (Contains-from_holds followed s held) own

      arms : (c : Bool) (k m : ℕ) (t : ℕ) → k ≡ t → m ≡ t → t ≡ cond c k m
      arms true k m t p q = sym p
      arms false k m t p q = sym q

      ready : (new : Formula) → ((values : ℕ → Bool) → meets values new.clauses ≡ true →
          meets values old.clauses ≡ true) → (t : ℕ) → G t →
          IsCopyOf assigned t ⊎ ((values : ℕ → Bool) → meets values new.clauses ≡ true →
          word_value values (ws t) ≡ cond (b values) (x values t) (y values t))
      ready new back t g = ⊎_elim
          (λ some. let found = from_some (λ s. copy_of signals s == t) assigned some in
          inl (found.0, found.1, eqb-true (copy_of signals found.0) t found.2))
          (λ none. inr (λ values met. holding values (back values met) t g
          ∙ arms (b values) (x values t) (y values t) (now values t)
          (leaves_one first (now values) t (λ s held own same. not_one none s held
          (or_left (assigns first s) (assigns second s) own) same))
          (leaves_one second (now values) t (λ s held own same. not_one none s held
          (or_right (assigns first s) (assigns second s) own) same))))
          (either_way (list_any (λ s. copy_of signals s == t) assigned))
        where
          not_one : IsFalse (list_any (λ s. copy_of signals s == t) assigned) → (s : ℕ) →
              IsTrue (holds followed s) → IsTrue (assigns body s) → copy_of signals s ≡ t → ⊥
          not_one none s held own same =
              false≢true (sym none ∙ some_from (λ s. copy_of signals s == t) assigned s
              (is_assigned s held own) (eq-eqb (copy_of signals s) t same))

      by : (c : Bool) → assigns_some followed body ≡ c → BodyMakes first → BodyMakes second →
          MakesWords old (cond c made (old, ws))
          (λ values. made_on_the_way signals followed body (now values))
      by true own make_first make_second =
          let p = truth_step condition (fits.0 own) old base ws stand now holding in
          let m = old.variables in
          let n1 = (bit.0).variables in
          let n2 = (one.0).variables in
          let n3 = (two.0).variables in
          let base1 = base_more old bit.0 base p.extends in
          let back1 : (values : ℕ → Bool) → meets values (bit.0).clauses ≡ true →
          meets values old.clauses ≡ true =
          (λ values met. meets-begins old bit.0 values p.extends.begins met) in
          let q = make_first bit.0 base1 ws
          (stand_more m n1 ws p.extends.begins.grows stand) now
          (λ values met. holding values (back1 values met)) in
          let base2 = base_more bit.0 one.0 base1 q.extends in
          let back2 : (values : ℕ → Bool) → meets values (one.0).clauses ≡ true →
          meets values (bit.0).clauses ≡ true =
          (λ values met. meets-begins bit.0 one.0 values q.extends.begins met) in
          let grows2 : m ≤ n2 =
          omega (arith, p.extends.begins.grows, q.extends.begins.grows) in
          let r = make_second one.0 base2 ws (stand_more m n2 ws grows2 stand) now
          (λ values met. holding values (back1 values (back2 values met))) in
          let base3 = base_more one.0 two.0 base2 r.extends in
          let back3 : (values : ℕ → Bool) → meets values (two.0).clauses ≡ true →
          meets values (one.0).clauses ≡ true =
          (λ values met. meets-begins one.0 two.0 values r.extends.begins met) in
          let grows3 : m ≤ n3 = omega (arith, grows2, r.extends.begins.grows) in
          let back : (values : ℕ → Bool) → meets values (two.0).clauses ≡ true →
          meets values old.clauses ≡ true =
          (λ values met. back1 values (back2 values (back3 values met))) in
          let last = chosen_make b x y bit.1 one.1 two.1 assigned
          (λ u at. holds-from_Contains followed u
          (Contains-from_filter (assigns body) followed u at).1)
          two.0 base3
          (literal_more n1 n3 bit.1
          (omega (arith, q.extends.begins.grows, r.extends.begins.grows)) p.within)
          (λ values met. p.says values (back2 values (back3 values met)))
          (stand_more n2 n3 one.1 r.extends.begins.grows q.within)
          (λ values met. q.says values (back3 values met))
          r.within r.says ws (stand_more m n3 ws grows3 stand) (ready two.0 back) in
          record {
            extends = extends_trans old bit.0 made.0 p.extends
                (extends_trans bit.0 one.0 made.0 q.extends
                (extends_trans one.0 two.0 made.0 r.extends last.extends));
            within = last.within;
            says = λ values met t g.
                last.says values met t g ∙ at_arm (b values) (x values) (y values) t;
          }
      by false none make_first make_second =
          makes_at_once old ws Stand
          (SpellAll (λ values. made_on_the_way signals followed body (now values))) base.closed stand
          (λ values met t g. holding values met t g
          ∙ ap (λ (e : Environment ℕ). e t) (sym (leaves_all body (now values) none)))
