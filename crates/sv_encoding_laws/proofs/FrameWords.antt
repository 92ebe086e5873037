-- The words of a cone's combinational signals spell the values that settle (IEEE 1364-2005, clause
-- 11; this project's profile of it).
use Rattle.std.proofs.Common.{◌≡◌, ℕ, zero, suc, ◌+◌, ◌<◌, ◌≤◌, Bool, true, false, ◌||◌, ◌&&◌, ◌==◌, cond}
use Rattle.std.proofs.Common.{List, [], ◌∷◌, ◌++◌, filter, length, refl, sym, ap, subst, ◌∙◌, ◌⊎◌}
use Rattle.std.proofs.Common.{inl, inr, ⊎_elim, arith, eq-or-lt_of_le}
use Rattle.std.specs.Prelude.{IsFalse, Contains, IsTrue, flat_map}
use Rattle.std.specs.List.{range_with_len}
use Rattle.std.proofs.lemmas.Bool.{false≢true, eqb-true, eq-eqb}
use Rattle.sv_system.specs.System.{Environment, Fits, IsStill}
use Rattle.sv_system.proofs.Lists.{Contains-head, Contains-later, Contains-cases, Contains-nil}
use Rattle.sv_system.proofs.Lists.{Contains-filter}
use Rattle.sv_flat.specs.Design.{ProcessForm, FlatDesign}
use Rattle.sv_flat.specs.Values.{signal_width}
use Rattle.sv_flat.specs.Soundness.{sound}
use Rattle.sv_flat.specs.Processes.{is_top_input, is_register, drivers, signals_that}
use Rattle.sv_flat.specs.Clocks.{processes_of}
use Rattle.sv_flat.specs.Reads.{is_combinational, is_read_for, depth, order}
use Rattle.sv_flat.specs.FlatSystem.{flat_system}
use Rattle.sv_flat.specs.Sets.{holds}
use Rattle.sv_flat.specs.Admission.{IsAdmitted}
use Rattle.sv_flat.proofs.SameRuns.{or_none_left, or_none_right, none_found}
use Rattle.sv_flat.proofs.LeastSets.{Contains-from_filter, those_pass, in_those}
use Rattle.sv_flat.proofs.Depths.{first_of, second_of, is_below, reads_are_lower, depth_above_reads}
use Rattle.sv_flat.proofs.Orders.{order_has}
use Rattle.sv_flat.proofs.AdmittedFacts.{and_true}
use Rattle.sv_obl.proofs.MadeFacts.{way_makes_settled, way_makes_next, way_makes_from_reads}
use Rattle.sv_obl.proofs.MadeFacts.{combinational_driver, register_driver}
use Rattle.sv_obl.proofs.PathLists.{cond_false}
use Rattle.sv_gates.specs.Formulas.{Formula}
use Rattle.sv_gates.specs.Extending.{Makes}
use Rattle.sv_gates.proofs.ExtendingLaws.{makes_at_once, meets-begins, extends_trans}
use Rattle.sv_circuits.specs.Words.{Word, word_value}
use Rattle.sv_circuits.specs.Circuits.{IsBase}
use Rattle.sv_circuits.proofs.Pieces.{base_more}
use Rattle.sv_encoding.specs.Expressions.{Words}
use Rattle.sv_encoding.specs.Bodies.{with_word, word_by_first, settled_word, driven_word}
use Rattle.sv_encoding.specs.Encoding.{words_made, settled_in, settled_words}
use Rattle.sv_encoding.specs.Valuations.{spelled_environment}
use Rattle.sv_encoding_laws.proofs.DrivenWords.{driven_makes, driven_count}
use Rattle.sv_encoding.specs.Sizes.{signal_size, signals_size, size_of_first}
use Rattle.sv_encoding_laws.proofs.GateCounts.{mapped_more}
use Rattle.sv_encoding_laws.proofs.Steps.{HasWidth, width_more}

-- ---- lists

filter_join : (test : ℕ → Bool) (xs ys : List ℕ) →
    filter test (xs ++ ys) ≡ filter test xs ++ filter test ys
filter_join test [] ys = refl
filter_join test (x ∷ xs) ys = by (test x) (filter_join test xs ys)
  where
    by : (c : Bool) → filter test (xs ++ ys) ≡ filter test xs ++ filter test ys →
        cond c (x ∷ filter test (xs ++ ys)) (filter test (xs ++ ys))
        ≡ cond c (x ∷ filter test xs) (filter test xs) ++ filter test ys
    by true rest = ap (λ zs. x ∷ zs) rest
    by false rest = rest

-- words that are made one after the other leave all others
pub leaves_others : (make : ℕ → Words → Formula → Formula × Word) (ss : List ℕ) (words : Words)
    (old : Formula) (t : ℕ) → IsFalse (holds ss t) → (words_made make ss words old).1 t ≡ words t
leaves_others make [] words old t none = refl
leaves_others make (s ∷ ss) words old t none =
    let mid = make s words old in
    leaves_others make ss (with_word s mid.1 words) mid.0 t
    (or_none_right (s == t) (holds ss t) none)
    ∙ cond_false (t == s) mid.1 (words t)
    (none_found (t == s) (λ same. false≢true (sym (or_none_left (s == t) (holds ss t) none)
    ∙ eq-eqb s t (sym (eqb-true t s same)))))

-- ---- names with words, as more are made

abbrev pub With : (ℕ → Type 0) → ℕ → ℕ → Type 0
With K s t = K t ⊎ (t ≡ s)

abbrev pub After : (ℕ → Type 0) → List ℕ → ℕ → Type 0
After K [] t = K t
After K (s ∷ ss) t = After (With K s) ss t

after_has : (K : ℕ → Type 0) (ss : List ℕ) (t : ℕ) → K t → After K ss t
after_has K [] t k = k
after_has K (s ∷ ss) t k = after_has (With K s) ss t (inl k)

pub after_member : (K : ℕ → Type 0) (ss : List ℕ) (t : ℕ) → Contains ss t → After K ss t
after_member K [] t at = absurd (Contains-nil t at)
after_member K (s ∷ ss) t at = ⊎_elim
    (λ same. after_has (With K s) ss t (inr (sym same)))
    (λ later. after_member (With K s) ss t later)
    (Contains-cases s ss t at)

module _ (design : FlatDesign) (is_sound : IsTrue (sound design)) (admitted : IsAdmitted design) where
  -- each is combinational, and what is read for it has a word before
  abbrev pub Ordered : (ℕ → Type 0) → List ℕ → Type 0
  Ordered K [] = Unit {0}
  Ordered K (s ∷ ss) =
      (IsTrue (is_combinational design s) × ((t : ℕ) → IsTrue (is_read_for design s t) → K t))
      × Ordered (With K s) ss

  ordered_more : (K L : ℕ → Type 0) (ss : List ℕ) → ((t : ℕ) → K t → L t) → Ordered K ss →
      Ordered L ss
  ordered_more K L [] from ordered = tt
  ordered_more K L (s ∷ ss) from ordered = (
    (ordered.0.0, λ t reads. from t (ordered.0.1 t reads)),
    ordered_more (With K s) (With L s) ss
        (λ t k. ⊎_elim (λ old. inl (from t old)) (λ same. inr same) k) ordered.1,
  )

  ordered_join : (K : ℕ → Type 0) (xs ys : List ℕ) → Ordered K xs → Ordered (After K xs) ys →
      Ordered K (xs ++ ys)
  ordered_join K [] ys first second = second
  ordered_join K (x ∷ xs) ys first second =
      (first.0, ordered_join (With K x) xs ys first.1 second)

  ordered_group : (K : ℕ → Type 0) (ss : List ℕ) →
      ((s : ℕ) → Contains ss s → IsTrue (is_combinational design s)
      × ((t : ℕ) → IsTrue (is_read_for design s t) → K t)) → Ordered K ss
  ordered_group K [] each = tt
  ordered_group K (s ∷ ss) each = (
    each s (Contains-head s ss),
    ordered_more K (With K s) ss (λ t k. inl k)
        (ordered_group K ss (λ u at. each u (Contains-later s ss u at))),
  )

  -- ---- one signal

  driven_by : (words : Words) (s : ℕ) (p : ProcessForm) (old : Formula) →
      drivers (processes_of design) s ≡ p ∷ [] →
      settled_word design words s old ≡ driven_word design s p words old
  driven_by words s p old alone =
      ap (λ ps. word_by_first design s ps words old) alone

  one_makes : (s : ℕ) → IsTrue (is_combinational design s) → (words : Words) (old : Formula) →
      IsBase old → ((t : ℕ) → IsTrue (is_read_for design s t) →
      HasWidth (signal_width design.signals t) old.variables (words t)) →
      Makes old (settled_word design words s old) (HasWidth (signal_width design.signals s))
      (λ values word. (e : Environment ℕ) → Fits (flat_system design) e →
      IsStill (flat_system design) e → ((t : ℕ) → IsTrue (is_read_for design s t) →
      word_value values (words t) ≡ e t) → word_value values word ≡ e s)
  one_makes s comb words old base has =
      let (p, at, unclocked, own, alone) = combinational_driver design is_sound admitted s comb in
      let q = driven_makes design is_sound admitted p s at own words old base has in
      subst (λ made. Makes old made (HasWidth (signal_width design.signals s))
      (λ values word. (e : Environment ℕ) → Fits (flat_system design) e →
      IsStill (flat_system design) e → ((t : ℕ) → IsTrue (is_read_for design s t) →
      word_value values (words t) ≡ e t) → word_value values word ≡ e s))
      (sym (driven_by words s p old alone))
      (record {
        extends = q.extends;
        within = q.within;
        says = λ values met e fits still reads.
            let spelled = spelled_environment values words in
            q.says values met
            ∙ way_makes_from_reads design is_sound admitted p s at own spelled e reads
            ∙ way_makes_settled design is_sound admitted p s at own unclocked e fits still;
      })

  one_count : (s : ℕ) → IsTrue (is_combinational design s) → (words : Words) (old : Formula) →
      IsBase old → ((t : ℕ) → IsTrue (is_read_for design s t) →
      HasWidth (signal_width design.signals t) old.variables (words t)) →
      (settled_word design words s old).0.variables ≡ old.variables + signal_size design s
  one_count s comb words old base has =
      let driver = combinational_driver design is_sound admitted s comb in
      let p = driver.0 in
      ap (λ ps. (word_by_first design s ps words old).0.variables) driver.4
      ∙ driven_count design is_sound admitted p s driver.1 driver.3 words old.variables base.some has
      old
      ∙ sym (ap (λ ps. old.variables + size_of_first design s ps) driver.4)

  -- ---- one after the other

  abbrev make : ℕ → Words → Formula → Formula × Word
  make s words = settled_word design words s

  abbrev Says : (K : ℕ → Type 0) → Words → (L : ℕ → Type 0) → (ℕ → Bool) → Words → Type 0
  Says K words L values made =
      (e : Environment ℕ) → Fits (flat_system design) e → IsStill (flat_system design) e →
      ((t : ℕ) → K t → word_value values (words t) ≡ e t) →
      (t : ℕ) → L t → word_value values (made t) ≡ e t

  abbrev Wide : (L : ℕ → Type 0) → ℕ → Words → Type 0
  Wide L n made = (t : ℕ) → L t → HasWidth (signal_width design.signals t) n (made t)

  changed : (P : ℕ → Word → Type 0) (s : ℕ) (word : Word) (words : Words) (K : ℕ → Type 0) →
      P s word → ((t : ℕ) → K t → P t (words t)) → (t : ℕ) → With K s t →
      P t (with_word s word words t)
  changed P s word words K here there t k = by (t == s) refl
    where
      by : (c : Bool) → (t == s) ≡ c → P t (cond c word (words t))
      by true same = subst (λ z. P z word) (sym (eqb-true t s same)) here
      by false other = ⊎_elim
          (λ old. there t old)
          (λ same. absurd (false≢true (sym other ∙ eq-eqb t s same))) k

  list_makes : (ss : List ℕ) (K : ℕ → Type 0) → Ordered K ss → (words : Words) (old : Formula) →
      IsBase old → Wide K old.variables words →
      Makes old (words_made make ss words old) (Wide (After K ss)) (Says K words (After K ss))
  list_makes [] K ordered words old base wide =
      makes_at_once old words (Wide K) (Says K words K) base.closed wide
      (λ values met e fits still known. known)
  list_makes (s ∷ ss) K ordered words old base wide =
      let mid = settled_word design words s old in
      let new = with_word s mid.1 words in
      let p = one_makes s ordered.0.0 words old base
      (λ t reads. wide t (ordered.0.1 t reads)) in
      let m = old.variables in
      let n = (mid.0).variables in
      let rest = list_makes ss (With K s) ordered.1 new mid.0 (base_more old mid.0 base p.extends)
      (changed (λ t word. HasWidth (signal_width design.signals t) n word) s mid.1 words K p.within
      (λ t k. width_more m n (signal_width design.signals t) (words t) p.extends.begins.grows
      (wide t k))) in
      let last = words_made make ss new mid.0 in
      record {
        extends = extends_trans old mid.0 last.0 p.extends rest.extends;
        within = rest.within;
        says = λ values met e fits still known.
            rest.says values met e fits still
            (changed (λ t word. word_value values word ≡ e t) s mid.1 words K
            (p.says values (meets-begins mid.0 last.0 values rest.extends.begins met) e fits still
            (λ t reads. known t (ordered.0.1 t reads))) known);
      }

  list_count : (ss : List ℕ) (K : ℕ → Type 0) → Ordered K ss → (words : Words) (old : Formula) →
      IsBase old → Wide K old.variables words →
      (words_made make ss words old).0.variables ≡ old.variables + signals_size design ss
  list_count [] K ordered words old base wide = omega arith
  list_count (s ∷ ss) K ordered words old base wide =
      let mid = settled_word design words s old in
      let new = with_word s mid.1 words in
      let has : (t : ℕ) → IsTrue (is_read_for design s t) →
      HasWidth (signal_width design.signals t) old.variables (words t) =
      (λ t reads. wide t (ordered.0.1 t reads)) in
      let p = one_makes s ordered.0.0 words old base has in
      let m = old.variables in
      let n = (mid.0).variables in
      list_count ss (With K s) ordered.1 new mid.0 (base_more old mid.0 base p.extends)
      (changed (λ t word. HasWidth (signal_width design.signals t) n word) s mid.1 words K p.within
      (λ t k. width_more m n (signal_width design.signals t) (words t) p.extends.begins.grows
      (wide t k)))
      ∙ omega (
        arith,
        one_count s ordered.0.0 words old base has,
        mapped_more (signal_size design) s ss,
      )

  -- ---- a cone

  module _ (cone : List ℕ)
      (kinds : (s : ℕ) → IsTrue (holds cone s) →
      IsTrue (is_top_input design s || is_register design s) ⊎ IsTrue (is_combinational design s))
      (closed : (s t : ℕ) → IsTrue (holds cone s) → IsTrue (is_combinational design s) →
      IsTrue (is_read_for design s t) → IsTrue (holds cone t)) where
    abbrev pub Given : ℕ → Type 0
    Given t = IsTrue (holds cone t) × IsTrue (is_top_input design t || is_register design t)

    abbrev at_depth : ℕ → List ℕ
    at_depth d = signals_that design (λ s. is_combinational design s && (depth design s == d))

    groups : (n d : ℕ) (K : ℕ → Type 0) → ((t : ℕ) → Given t → K t) →
        ((t : ℕ) → IsTrue (holds cone t) → IsTrue (is_combinational design t) →
        depth design t < d → K t) →
        Ordered K (filter (holds cone) (flat_map at_depth (range_with_len d n)))
    groups zero d K given lower = tt
    groups (suc n) d K given lower =
        let here = filter (holds cone) (at_depth d) in
        let more = flat_map at_depth (range_with_len (d + 1) n) in
        subst (Ordered K) (sym (filter_join (holds cone) (at_depth d) more))
        (ordered_join K here (filter (holds cone) more)
        (ordered_group K here (λ s at. each s at))
        (groups n (d + 1) (After K here) (λ t g. after_has K here t (given t g))
        (λ t inside comb less. ⊎_elim
        (λ same. after_member K here t (Contains-filter (holds cone) (at_depth d) t
        (in_those_at t comb same) inside))
        (λ low. after_has K here t (lower t inside comb (omega (arith, low))))
        (eq-or-lt_of_le (le_of t less)))))
      where
        le_of : (t : ℕ) → depth design t < d + 1 → depth design t ≤ d
        le_of t less = omega (arith, less)

        in_those_at : (t : ℕ) → IsTrue (is_combinational design t) → depth design t ≡ d →
            Contains (at_depth d) t
        in_those_at t comb same =
            in_those (length design.signals) (λ s.
            is_combinational design s && (depth design s == d)) t (is_below design t comb)
            (and_true (is_combinational design t) (depth design t == d) comb
            (eq-eqb (depth design t) d same))

        each : (s : ℕ) → Contains (filter (holds cone) (at_depth d)) s →
            IsTrue (is_combinational design s)
            × ((t : ℕ) → IsTrue (is_read_for design s t) → K t)
        each s at =
            let found = Contains-from_filter (holds cone) (at_depth d) s at in
            let both = those_pass (length design.signals) (λ z.
            is_combinational design z && (depth design z == d)) s found.1 in
            let comb = first_of (is_combinational design s) (depth design s == d) both in
            let deep = eqb-true (depth design s) d
            (second_of (is_combinational design s) (depth design s == d) both) in (
              comb,
              λ t reads.
                  let inside = closed s t found.0 comb reads in
                  ⊎_elim
                  (λ g. given t (inside, g))
                  (λ is_comb.
                  let less = reads_are_lower design admitted.ordered s t comb (is_below design t is_comb)
                  reads in
                  lower t inside is_comb (subst (λ k. depth design t < k) deep less))
                  (kinds t inside),
            )

    pub in_order : Ordered Given (settled_in design cone)
    in_order =
        groups (length design.signals) 1 Given (λ t g. g)
        (λ t inside comb less.
        let above = depth_above_reads design admitted.ordered t comb in
        absurd (omega (arith, above, less)))

    every : (t : ℕ) → IsTrue (holds cone t) → After Given (settled_in design cone) t
    every t inside = ⊎_elim
        (λ given. after_has Given (settled_in design cone) t (inside, given))
        (λ comb. after_member Given (settled_in design cone) t
        (Contains-filter (holds cone) (order design) t
        (order_has design admitted.ordered t comb) inside))
        (kinds t inside)

    pub settled_count : (words : Words) (old : Formula) → IsBase old →
        ((t : ℕ) → Given t → HasWidth (signal_width design.signals t) old.variables (words t)) →
        (settled_words design cone words old).0.variables
        ≡ old.variables + signals_size design (settled_in design cone)
    settled_count words old base wide =
        list_count (settled_in design cone) Given in_order words old base wide

    pub settled_make : (words : Words) (old : Formula) → IsBase old →
        ((t : ℕ) → Given t → HasWidth (signal_width design.signals t) old.variables (words t)) →
        Makes old (settled_words design cone words old)
        (λ n made. (t : ℕ) → IsTrue (holds cone t) →
        HasWidth (signal_width design.signals t) n (made t))
        (λ values made. (e : Environment ℕ) → Fits (flat_system design) e →
        IsStill (flat_system design) e →
        ((t : ℕ) → Given t → word_value values (words t) ≡ e t) →
        (t : ℕ) → IsTrue (holds cone t) → word_value values (made t) ≡ e t)
    settled_make words old base wide =
        let p = list_makes (settled_in design cone) Given in_order words old base wide in
        record {
          extends = p.extends;
          within = λ t inside. p.within t (every t inside);
          says = λ values met e fits still known t inside.
              p.says values met e fits still known t (every t inside);
        }

  -- ---- registers

  next_makes : (s : ℕ) → IsTrue (is_register design s) → (now : Words) (old : Formula) →
      IsBase old → ((t : ℕ) → IsTrue (is_read_for design s t) →
      HasWidth (signal_width design.signals t) old.variables (now t)) →
      Makes old (settled_word design now s old) (HasWidth (signal_width design.signals s))
      (λ values word. (e : Environment ℕ) → ((t : ℕ) → IsTrue (is_read_for design s t) →
      word_value values (now t) ≡ e t) → word_value values word ≡ (flat_system design).next e s)
  next_makes s register now old base has =
      let (p, at, clock, own, alone) = register_driver design is_sound admitted s register in
      let q = driven_makes design is_sound admitted p s at own now old base has in
      subst (λ made. Makes old made (HasWidth (signal_width design.signals s))
      (λ values word. (e : Environment ℕ) → ((t : ℕ) → IsTrue (is_read_for design s t) →
      word_value values (now t) ≡ e t) → word_value values word ≡ (flat_system design).next e s))
      (sym (driven_by now s p old alone))
      (record {
        extends = q.extends;
        within = q.within;
        says = λ values met e reads.
            let spelled = spelled_environment values now in
            q.says values met
            ∙ way_makes_from_reads design is_sound admitted p s at own spelled e reads
            ∙ way_makes_next design is_sound admitted p s at own clock e;
      })

  module _ (now : Words) where
    abbrev make_next : ℕ → Words → Formula → Formula × Word
    make_next s words = settled_word design now s

    -- what is read for each of these
    abbrev ReadIn : List ℕ → ℕ → Type 0
    ReadIn ss t = (s : ℕ) × Contains ss s × IsTrue (is_read_for design s t)

    pub nexts_make : (ss : List ℕ) → ((s : ℕ) → Contains ss s → IsTrue (is_register design s)) →
        (K : ℕ → Type 0) (words : Words) (old : Formula) → IsBase old →
        ((t : ℕ) → ReadIn ss t → HasWidth (signal_width design.signals t) old.variables (now t)) →
        Wide K old.variables words →
        Makes old (words_made make_next ss words old) (Wide (After K ss))
        (λ values made. (e : Environment ℕ) →
        ((t : ℕ) → ReadIn ss t → word_value values (now t) ≡ e t) →
        ((t : ℕ) → K t → word_value values (words t) ≡ (flat_system design).next e t) →
        (t : ℕ) → After K ss t → word_value values (made t) ≡ (flat_system design).next e t)
    nexts_make [] registers K words old base has wide =
        makes_at_once old words (Wide K)
        (λ values made. (e : Environment ℕ) →
        ((t : ℕ) → ReadIn [] t → word_value values (now t) ≡ e t) →
        ((t : ℕ) → K t → word_value values (words t) ≡ (flat_system design).next e t) →
        (t : ℕ) → K t → word_value values (made t) ≡ (flat_system design).next e t)
        base.closed wide (λ values met e reads known. known)
    nexts_make (s ∷ ss) registers K words old base has wide =
        let mid = settled_word design now s old in
        let new = with_word s mid.1 words in
        let here : (t : ℕ) → IsTrue (is_read_for design s t) → ReadIn (s ∷ ss) t =
        (λ t reads. (s, Contains-head s ss, reads)) in
        let later : (t : ℕ) → ReadIn ss t → ReadIn (s ∷ ss) t =
        (λ t r. (r.0, Contains-later s ss r.0 r.1, r.2)) in
        let p = next_makes s (registers s (Contains-head s ss)) now old base
        (λ t reads. has t (here t reads)) in
        let m = old.variables in
        let n = (mid.0).variables in
        let grows = p.extends.begins.grows in
        let rest = nexts_make ss (λ u at. registers u (Contains-later s ss u at)) (With K s) new
        mid.0 (base_more old mid.0 base p.extends)
        (λ t r. width_more m n (signal_width design.signals t) (now t) grows (has t (later t r)))
        (changed (λ t word. HasWidth (signal_width design.signals t) n word) s mid.1 words K p.within
        (λ t k. width_more m n (signal_width design.signals t) (words t) grows (wide t k))) in
        let last = words_made make_next ss new mid.0 in
        record {
          extends = extends_trans old mid.0 last.0 p.extends rest.extends;
          within = rest.within;
          says = λ values met e reads known.
              rest.says values met e (λ t r. reads t (later t r))
              (changed (λ t word. word_value values word ≡ (flat_system design).next e t) s mid.1
              words K
              (p.says values (meets-begins mid.0 last.0 values rest.extends.begins met) e
              (λ t r. reads t (here t r))) known);
        }

    next_count : (s : ℕ) → IsTrue (is_register design s) → (n : ℕ) → 1 ≤ n →
        ((t : ℕ) → IsTrue (is_read_for design s t) →
        HasWidth (signal_width design.signals t) n (now t)) → (old : Formula) →
        (settled_word design now s old).0.variables ≡ old.variables + signal_size design s
    next_count s register n some has old =
        let driver = register_driver design is_sound admitted s register in
        let p = driver.0 in
        ap (λ ps. (word_by_first design s ps now old).0.variables) driver.4
        ∙ driven_count design is_sound admitted p s driver.1 driver.3 now n some has old
        ∙ sym (ap (λ ps. old.variables + size_of_first design s ps) driver.4)

    pub nexts_count : (ss : List ℕ) → ((s : ℕ) → Contains ss s → IsTrue (is_register design s)) →
        (n : ℕ) → 1 ≤ n →
        ((t : ℕ) → ReadIn ss t → HasWidth (signal_width design.signals t) n (now t)) →
        (words : Words) (old : Formula) →
        (words_made make_next ss words old).0.variables ≡ old.variables + signals_size design ss
    nexts_count [] registers n some has words old = omega arith
    nexts_count (s ∷ ss) registers n some has words old =
        let mid = settled_word design now s old in
        nexts_count ss (λ u at. registers u (Contains-later s ss u at)) n some
        (λ t r. has t (r.0, Contains-later s ss r.0 r.1, r.2)) (with_word s mid.1 words) mid.0
        ∙ omega (
          arith,
          next_count s (registers s (Contains-head s ss)) n some
              (λ t reads. has t (s, Contains-head s ss, reads)) old,
          mapped_more (signal_size design) s ss,
        )
