-- The word that a process gives a signal spells what its body makes of the signal, by what it makes
-- on its way of all that the signal follows (IEEE 1364-2005, clauses 6 and 9).
use Rattle.std.proofs.Common.{◌≡◌, ℕ, zero, suc, ◌+◌, ◌*◌, ◌<◌, ◌≤◌, Bool, true, false, ◌&&◌, ◌==◌}
use Rattle.std.proofs.Common.{not, ◌-◌, nat_lt, nat_le, cond, List, length, refl, sym, ap, ap₂}
use Rattle.std.proofs.Common.{subst, ◌∙◌, ◌⊎◌, inl, inr, ⊎_elim, arith, ltb-true, replicate}
use Rattle.std.specs.Prelude.{Contains, IsTrue, IsFalse}
use Rattle.std.specs.List.{list_any, list_all}
use Rattle.std.proofs.lemmas.Bool.{false≢true, leb-true, leb-false, lt-ltb, eq-eqb}
use Rattle.sv_num.specs.Vectors.{truth}
use Rattle.sv_flat.specs.Design.{SignalForm, TypedTree, PieceForm, FlatStatement}
use Rattle.sv_flat.specs.Design.{ProcessForm, FlatDesign}
use Rattle.sv_flat.specs.Values.{signal_width, expression_width}
use Rattle.sv_flat.specs.Soundness.{is_signal, is_part_of, piece_fits, well_formed, statement_sound}
use Rattle.sv_flat.specs.Soundness.{sound}
use Rattle.sv_flat.specs.Assigned.{assigns}
use Rattle.sv_flat.specs.Readings.{BitSet, no_bits, Reading, readings_of}
use Rattle.sv_flat.specs.Readings.{readings}
use Rattle.sv_flat.specs.Processes.{is_clocked, is_block, is_register, drivers}
use Rattle.sv_flat.specs.Clocks.{processes_of, is_clock_link}
use Rattle.sv_flat.specs.Reads.{followed, is_read_for, process_readings, reads_settled}
use Rattle.sv_flat.specs.Sets.{holds}
use Rattle.sv_flat.specs.Admission.{IsAdmitted}
use Rattle.sv_flat.proofs.LeastSets.{some_from, Contains-from_holds}
use Rattle.sv_flat.proofs.LeastSets.{Contains-from_filter, either_way, holds-from_Contains}
use Rattle.std.proofs.lemmas.Bool.{or_left}
use Rattle.sv_flat.proofs.Depths.{first_of, second_of, from_all}
use Rattle.sv_flat.proofs.AdmittedFacts.{and_true, body_is_sound, assigned_is_signal, some_width}
use Rattle.sv_obl.specs.MadeValues.{starting_values}
use Rattle.sv_obl.specs.Wanted.{with_copies, copy_of, is_copy, original, mark, marked_tree, marked}
use Rattle.sv_obl.proofs.MadeFacts.{follows_itself, made_by}
use Rattle.sv_obl.proofs.PathLists.{cond_true, cond_false}
use Rattle.sv_obl.proofs.PutFacts.{width_settled, width_copy, width_original, copy_is_copy}
use Rattle.sv_obl.proofs.PutFacts.{original_of_copy, signal_is_settled}
use Rattle.sv_obl.proofs.TargetReads.{clocked_alone, serves_target}
use Rattle.sv_gates.specs.Formulas.{Formula}
use Rattle.sv_gates.specs.Gates.{false_literal}
use Rattle.sv_gates.proofs.GateLaws.{literal_more}
use Rattle.sv_circuits.specs.Words.{word_value}
use Rattle.sv_circuits.specs.Circuits.{IsBase}
use Rattle.sv_circuits.proofs.BitPieces.{false_is, false_known}
use Rattle.sv_encoding.specs.Expressions.{Words}
use Rattle.sv_encoding.specs.Bodies.{words_after, starting_words, driven_word}
use Rattle.sv_encoding.specs.Valuations.{spelled_environment}
use Rattle.sv_encoding.specs.BothWays.{HaveBits}
use Rattle.sv_encoding_laws.proofs.BodyWords.{Stand, ExpressionFits, PiecesFit, BodyFits}
use Rattle.sv_encoding_laws.proofs.BodyWords.{words_make}
use Rattle.sv_encoding_laws.proofs.BodyCounts.{body_grows}
use Rattle.sv_encoding.specs.Sizes.{process_size}
use Rattle.sv_encoding_laws.proofs.MarkedReads.{twice_long, same_width, ReadsCount, marked_fit}
use Rattle.sv_encoding_laws.proofs.MarkedReads.{marked_body_fits}
use Rattle.sv_encoding_laws.proofs.Renamed.{named_instead, formed_instead}
use Rattle.sv_encoding_laws.proofs.Steps.{HasWidth, MakesWord}

-- ---- false words

false_word : (n width : ℕ) → 1 ≤ n → HasWidth width n (replicate width false_literal)
false_word n zero some = record { is = tt; width = refl }
false_word n (suc width) some =
    let rest = false_word n width some in
    record {
      is = (literal_more 1 n false_literal some false_is, rest.is);
      width = ap suc rest.width;
    }

false_value : (values : ℕ → Bool) → values 1 ≡ true → (width : ℕ) →
    word_value values (replicate width false_literal) ≡ 0
false_value values one zero = refl
false_value values one (suc width) =
    ap₂ (λ b v. truth b + 2 * v) (false_known values one) (false_value values one width)

module _ (design : FlatDesign) (is_sound : IsTrue (sound design)) (admitted : IsAdmitted design)
    (p : ProcessForm) (s : ℕ) (at : Contains (processes_of design) p)
    (own : IsTrue (assigns p.body s)) where
  abbrev signals : List SignalForm
  signals = design.signals

  abbrev both : List SignalForm
  both = with_copies signals

  abbrev targets : List ℕ
  targets = followed design p s

  -- ---- what counts

  s_below : s < length signals
  s_below = ltb-true s (length signals)
      (assigned_is_signal signals p.body (body_is_sound design is_sound admitted p at) s own)

  -- what is read for the signal, and copies of what is followed
  abbrev Counts : ℕ → Type 0
  Counts t =
      (IsTrue (is_read_for design s t) × (t < length signals))
      ⊎ ((u : ℕ) × IsTrue (holds targets u) × (copy_of signals u ≡ t))

  copies : (u : ℕ) → IsTrue (holds targets u) → Counts (copy_of signals u)
  copies u held = inr (u, held, refl)

  -- ---- lengths

  have_bits : HaveBits both
  have_bits t inside = ⊎_elim
      (λ copy. subst (λ k. 0 < k) (sym (width_original signals t copy))
      (some_width design is_sound admitted (original signals t)
      (lt-ltb (original signals t) (length signals)
      (let low = ltb-true t (length both) inside in
      let high = leb-true (length signals) t copy in
      omega (arith, low, high, twice_long design)))))
      (λ plain. let low = settled_low t plain in
      subst (λ k. 0 < k) (sym (width_settled signals t low))
      (some_width design is_sound admitted t (lt-ltb t (length signals) low)))
      (either_way (is_copy signals t))
    where
      settled_low : (t : ℕ) → IsFalse (is_copy signals t) → t < length signals
      settled_low t plain = by (nat_le (length signals) t) refl plain
        where
          by : (c : Bool) → nat_le (length signals) t ≡ c → IsFalse c → t < length signals
          by true is none = absurd (false≢true (sym none))
          by false is none = leb-false (length signals) t is

  -- ---- the marked body

  abbrev Count : List Reading → Type 0
  Count = ReadsCount design p s

  body_counts : Count (process_readings design p)
  body_counts r r_at u u_at served = ⊎_elim
      (λ late. inl (late.0, subst (λ t. IsTrue (is_read_for design s t)) late.1.3 late.1.2))
      (λ earlier. inr earlier)
      (serves_target design is_sound admitted p s at own r r_at u u_at served)

  tree_fits : (e : TypedTree) (serves : ℕ → Bool) (early follows : BitSet) →
      IsTrue (well_formed signals e) → (u : ℕ) → Contains targets u → IsTrue (serves u) →
      Count (readings_of signals e serves early follows) →
      ExpressionFits signals have_bits targets Counts copies
      (marked_tree signals (is_block p.kind) follows e)
  tree_fits e serves early follows formed u u_at served count =
      let instead = mark signals (is_block p.kind) follows in
      let all = marked_fit design p s Counts (λ t low settled. inl (settled, low))
      (λ t inside. copies t (holds-from_Contains targets t inside)) e serves early follows formed u
      u_at served count in
      record {
        formed = formed_instead signals both instead Counts (same_width design) e formed all;
        named = named_instead signals both instead Counts (same_width design) e all;
      }

  pieces_fit : (e : TypedTree) (pieces : List PieceForm) →
      IsTrue (list_all (piece_fits signals e) pieces) →
      PiecesFit signals have_bits targets Counts copies pieces
  pieces_fit e pieces all piece piece_at held =
      let fit = from_all (piece_fits signals e) pieces piece all piece_at in
      let n = signal_width signals piece.signal in
      let most = expression_width e - piece.from in
      let part = second_of (is_signal signals piece.signal)
      (is_part_of n most piece.high piece.low) fit in
      let ends = first_of (nat_le piece.low piece.high && nat_lt piece.high n)
      (nat_le (piece.high + 1 - piece.low) most) part in (
        leb-true piece.low piece.high
            (first_of (nat_le piece.low piece.high) (nat_lt piece.high n) ends),
        ltb-true piece.high n (second_of (nat_le piece.low piece.high) (nat_lt piece.high n) ends),
      )

  marked_fits : (b : FlatStatement) (early later : BitSet) → IsTrue (statement_sound signals b) →
      Count (readings signals b early later) →
      BodyFits signals have_bits targets Counts copies (marked signals (is_block p.kind) b later)
  marked_fits =
      marked_body_fits design p s (ExpressionFits signals have_bits targets Counts copies)
      (BodyFits signals have_bits targets Counts copies) tree_fits tt (λ a b x y. (x, y))
      (λ pieces place blocking e follows all tree some. (tree some, pieces_fit e pieces all))
      (λ place condition a b tree x y. (tree, (x, y)))

  -- ---- where the process begins

  -- a register is read for itself
  clocked_is_read : (c : Bool) → is_clocked p.kind ≡ c → IsTrue c → IsTrue (is_read_for design s s)
  clocked_is_read c is clock =
      or_left (is_register design s && (s == s))
      (list_any (λ q. reads_settled design q (followed design q s) s)
      (drivers (processes_of design) s))
      (and_true (is_register design s) (s == s)
      (some_from (λ (q : ProcessForm). is_clocked q.kind && assigns q.body s) design.processes p
      (Contains-from_filter (λ q. not (is_clock_link design q)) design.processes p at).1
      (and_true (is_clocked p.kind) (assigns p.body s) (is ∙ clock) own))
      (eq-eqb s s refl))

  module _ (words : Words) (n : ℕ) (some : 1 ≤ n)
      (has : (t : ℕ) → IsTrue (is_read_for design s t) → HasWidth (signal_width signals t) n
      (words t)) where
    starts : Words
    starts = starting_words signals (is_clocked p.kind) words

    start_stands : Stand signals have_bits targets Counts copies n
        (starting_words signals (is_clocked p.kind) words)
    start_stands t (inl (is_read, low)) =
        subst (HasWidth (signal_width both t) n)
        (sym (cond_false (is_copy signals t)
        (cond (is_clocked p.kind) (words (original signals t))
        (replicate (signal_width signals (original signals t)) false_literal)) (words t)
        (signal_is_settled signals t low)))
        (subst (λ k. HasWidth k n (words t)) (sym (width_settled signals t low)) (has t is_read))
    start_stands t (inr (u, held, is)) =
        subst (λ k. HasWidth (signal_width both k) n
        (starting_words signals (is_clocked p.kind) words k)) is
        (subst (HasWidth (signal_width both (copy_of signals u)) n)
        (sym (cond_true (is_copy signals (copy_of signals u))
        (cond (is_clocked p.kind) (words (original signals (copy_of signals u)))
        (replicate (signal_width signals (original signals (copy_of signals u))) false_literal))
        (words (copy_of signals u)) (copy_is_copy signals u)))
        (subst (λ k. HasWidth k n (cond (is_clocked p.kind)
        (words (original signals (copy_of signals u)))
        (replicate (signal_width signals (original signals (copy_of signals u))) false_literal)))
        (sym (width_copy signals u))
        (subst (λ k. HasWidth (signal_width signals u) n (cond (is_clocked p.kind) (words k)
        (replicate (signal_width signals k) false_literal))) (sym (original_of_copy signals u))
        (by (is_clocked p.kind) refl))))
      where
        by : (c : Bool) → is_clocked p.kind ≡ c →
            HasWidth (signal_width signals u) n
            (cond c (words u) (replicate (signal_width signals u) false_literal))
        by true is_clock =
            has u (subst (λ k. IsTrue (is_read_for design s k))
            (clocked_alone design is_sound admitted p s at own u
            (Contains-from_holds targets u held) is_clock)
            (clocked_is_read true is_clock refl))
        by false none = false_word n (signal_width signals u) some

    start_says : (values : ℕ → Bool) → values 1 ≡ true → (t : ℕ) → Counts t →
        word_value values (starting_words signals (is_clocked p.kind) words t)
        ≡ starting_values signals (is_clocked p.kind) (spelled_environment values words) t
    start_says values one t counts = by_copy (is_copy signals t) (is_clocked p.kind)
      where
        by_clock : (d : Bool) → (u : ℕ) →
            word_value values (cond d (words u) (replicate (signal_width signals u) false_literal))
            ≡ cond d (word_value values (words u)) 0
        by_clock true u = refl
        by_clock false u = false_value values one (signal_width signals u)

        by_copy : (c d : Bool) →
            word_value values (cond c (cond d (words (original signals t))
            (replicate (signal_width signals (original signals t)) false_literal)) (words t))
            ≡ cond (not c) (word_value values (words t))
            (cond d (word_value values (words (original signals t))) 0)
        by_copy true d = by_clock d (original signals t)
        by_copy false d = refl

  -- ---- the word

  pub driven_makes : (words : Words) (old : Formula) → IsBase old →
      ((t : ℕ) → IsTrue (is_read_for design s t) →
      HasWidth (signal_width signals t) old.variables (words t)) →
      MakesWord old (driven_word design s p words old) (signal_width signals s)
      (λ values. made_by design is_sound admitted p s at own (spelled_environment values words))
  driven_makes words old base has =
      let n = old.variables in
      let body = marked signals (is_block p.kind) p.body no_bits in
      let begin = starting_words signals (is_clocked p.kind) words in
      let made = words_after signals targets body begin old in
      let fits = marked_fits p.body no_bits no_bits (body_is_sound design is_sound admitted p at)
      body_counts in
      let q = words_make signals have_bits targets Counts copies body fits old base begin
      (start_stands words n base.some has)
      (λ values. starting_values signals (is_clocked p.kind) (spelled_environment values words))
      (λ values met. start_says words n base.some has values (base.truth values met)) in
      let held = follows_itself design is_sound admitted p s at own in
      let there = q.within (copy_of signals s) (copies s held) in
      record {
        extends = q.extends;
        within = subst (λ k. HasWidth k (made.0).variables (made.1 (copy_of signals s)))
            (width_copy signals s) there;
        says = λ values met.
            q.says values met (copy_of signals s) (copies s held);
      }

  -- how many variables it takes
  pub driven_count : (words : Words) (n : ℕ) → 1 ≤ n →
      ((t : ℕ) → IsTrue (is_read_for design s t) → HasWidth (signal_width signals t) n (words t)) →
      (old : Formula) →
      (driven_word design s p words old).0.variables ≡ old.variables + process_size design s p
  driven_count words n some has old =
      let body = marked signals (is_block p.kind) p.body no_bits in
      let begin = starting_words signals (is_clocked p.kind) words in
      let fits = marked_fits p.body no_bits no_bits (body_is_sound design is_sound admitted p at)
      body_counts in
      (body_grows signals have_bits targets Counts copies body fits begin
      (λ t g. (start_stands words n some has t g).width) old).1
