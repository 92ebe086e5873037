-- A process without an earlier read makes the word of a target by itself.
use Rattle.std.proofs.Common.{◌≡◌, ℕ, zero, suc, ◌+◌, ◌<◌, ◌≤◌, Bool, true, false, ◌||◌, ◌&&◌, ◌==◌}
use Rattle.std.proofs.Common.{cond, List, [], ◌∷◌, filter, fold, drop, length, replicate, refl, sym}
use Rattle.std.proofs.Common.{ap, ap₂, ◌∙◌, ⊎_elim, arith, ltb-true}
use Rattle.std.specs.Prelude.{Contains, IsTrue, IsFalse, ℤ}
use Rattle.std.specs.List.{list_any, list_all, range_with_len}
use Rattle.std.proofs.lemmas.Bool.{false≢true, eqb-true, eq-eqb, or_left}
use Rattle.sv_flat.specs.Design.{SignalForm, PieceForm, FlatStatement, nothing, after}
use Rattle.sv_flat.specs.Design.{assign, branch, ProcessForm, FlatDesign}
use Rattle.sv_flat.specs.Values.{signal_width}
use Rattle.sv_flat.specs.Soundness.{piece_fits, well_formed, statement_sound, sound}
use Rattle.sv_flat.specs.Assigned.{assigns}
use Rattle.sv_flat.specs.Readings.{Reading, no_bits}
use Rattle.sv_flat.specs.Processes.{is_clocked, is_block}
use Rattle.sv_flat.specs.Clocks.{processes_of}
use Rattle.sv_flat.specs.Reads.{wants, is_earlier, followed, process_readings}
use Rattle.sv_flat.specs.Sets.{holds, those, with_all_brought}
use Rattle.sv_flat.specs.Admission.{IsAdmitted}
use Rattle.sv_flat.proofs.SameRuns.{none_found}
use Rattle.sv_flat.proofs.LeastSets.{either_way, from_some}
use Rattle.sv_flat.proofs.Depths.{first_of, second_of}
use Rattle.sv_flat.proofs.AdmittedFacts.{body_is_sound, assigned_is_signal}
use Rattle.sv_obl.specs.BodySlices.{sliced}
use Rattle.sv_obl.specs.MarkedBodies.{AllSettled}
use Rattle.sv_obl.specs.Wanted.{with_copies, copy_of, is_copy, original, marked}
use Rattle.sv_obl.proofs.PathLists.{cond_true, cond_false}
use Rattle.sv_obl.proofs.PutFacts.{copy_is_copy, original_of_copy, signal_is_settled}
use Rattle.sv_obl.proofs.Unchanged.{marked_itself}
use Rattle.sv_gates.specs.Formulas.{Formula}
use Rattle.sv_gates.specs.Gates.{false_literal, mux_gate}
use Rattle.sv_circuits.specs.Words.{Word, replaced_word, bitwise_word}
use Rattle.sv_encoding.specs.Expressions.{Words, expression_word, is_true_bit}
use Rattle.sv_encoding.specs.Bodies.{with_word, assigns_some, with_piece_word, chosen_words}
use Rattle.sv_encoding.specs.Bodies.{words_after, starting_words, driven_word}
use Rattle.sv_blast.specs.TargetWords.{with_piece_of, target_word}
use Rattle.sv_blast.proofs.SettledWords.{AreSettled, settled_expression, settled_truth}

-- ---- one number

-- of the numbers from one on that are another number there is none, where that one is before them
none_behind : (s a n : ℕ) (test : ℕ → Bool) → s < a →
    ((k : ℕ) → test k ≡ (s == k)) → filter test (range_with_len a n) ≡ []
none_behind s a zero test low same = refl
none_behind s a (suc n) test low same =
    cond_false (test a) (a ∷ filter test (range_with_len (a + 1) n))
    (filter test (range_with_len (a + 1) n))
    (none_found (test a) (λ found.
    let e = eqb-true s a (sym (same a) ∙ found) in omega (arith, e)))
    ∙ none_behind s (a + 1) n test (omega arith) same

one_there : (s a n : ℕ) (test : ℕ → Bool) → a ≤ s → s < a + n →
    ((k : ℕ) → test k ≡ (s == k)) → filter test (range_with_len a n) ≡ s ∷ []
one_there s a zero test low high same = absurd (omega arith)
one_there s a (suc n) test low high same = ⊎_elim
    (λ found.
    let e = eqb-true s a (sym (same a) ∙ found) in
    cond_true (test a) (a ∷ filter test (range_with_len (a + 1) n))
    (filter test (range_with_len (a + 1) n)) found
    ∙ ap₂ (λ x xs. x ∷ xs) (sym e)
    (none_behind s (a + 1) n test (omega (arith, e)) same))
    (λ other.
    cond_false (test a) (a ∷ filter test (range_with_len (a + 1) n))
    (filter test (range_with_len (a + 1) n)) other
    ∙ one_there s (a + 1) n test
    (above (λ e. false≢true (sym other ∙ same a ∙ eq-eqb s a e)))
    (omega arith) same)
    (either_way (test a))
  where
    above : (s ≡ a → ⊥) → a + 1 ≤ s
    above differ = omega (arith, differ)

-- a set with one number that brings none along stays as it is
stays_one : (n s : ℕ) (brings : ℕ → ℕ → Bool) → s < n →
    ((m k : ℕ) → IsFalse (brings m k)) → (times : ℕ) →
    with_all_brought n brings (s ∷ []) times ≡ s ∷ []
stays_one n s brings low none zero = refl
stays_one n s brings low none (suc times) =
    ap (λ set. those n (λ k. holds set k || list_any (λ m. brings m k) set))
    (stays_one n s brings low none times)
    ∙ one_there s 0 n (λ k. holds (s ∷ []) k || list_any (λ m. brings m k) (s ∷ []))
    (omega arith) (omega arith) (λ k. by (s == k) (brings s k) (none s k))
  where
    by : (c d : Bool) → IsFalse d → ((c || false) || (d || false)) ≡ c
    by true d is = refl
    by false true is = is
    by false false is = refl

-- ---- one target among the words

module _ (signals : List SignalForm) (words : Words) (s : ℕ) where
  abbrev both : List SignalForm
  both = with_copies signals

  abbrev copy : ℕ
  copy = copy_of signals s

  -- the words with the target's word in its copy, and the words of all that are no copies
  pub record IsAlone (made : Formula × Words) (alone : Formula × Word) : Type 0 where
    pub same : (made.0, made.1 (copy_of signals s)) ≡ alone
    pub settled : AreSettled signals made.1 words

  apart : (t : ℕ) → t < length signals → (u : ℕ) → IsFalse (t == copy_of signals u)
  apart t low u = none_found (t == copy_of signals u) (λ same.
      let e = eqb-true t (copy_of signals u) same in omega (arith, e))

  -- ---- pieces

  holds_one : (k : ℕ) → IsTrue (k == s) → IsTrue (holds (s ∷ []) k)
  holds_one k same = or_left (s == k) false (eq-eqb s k (sym (eqb-true k s same)))

  piece_alone : (right : Word) (ws : Words) (p : PieceForm) →
      with_piece_word signals (s ∷ []) right ws p copy ≡ with_piece_of s right (ws copy) p
  piece_alone right ws p = ⊎_elim
      (λ same.
      let is = eqb-true p.signal s same in
      let there = copy_of signals p.signal in
      let new = replaced_word p.high p.low (ws there) (drop p.from right) in
      let here = ap (copy_of signals) is in
      ap (λ (w : Words). w copy)
      (cond_true (holds (s ∷ []) p.signal) (with_word there new ws) ws (holds_one p.signal same))
      ∙ cond_true (copy == there) new (ws copy) (eq-eqb copy there (sym here))
      ∙ ap (λ k. replaced_word p.high p.low (ws k) (drop p.from right)) here
      ∙ sym (cond_true (p.signal == s)
      (replaced_word p.high p.low (ws copy) (drop p.from right)) (ws copy) same))
      (λ other.
      let there = copy_of signals p.signal in
      let new = replaced_word p.high p.low (ws there) (drop p.from right) in
      ap (λ (w : Words). w copy)
      (cond_false (holds (s ∷ []) p.signal) (with_word there new ws) ws
      (none_found (holds (s ∷ []) p.signal) (λ held. false≢true (sym other
      ∙ eq-eqb p.signal s (sym (one_held (s == p.signal) (s ≡ p.signal)
      (λ e. eqb-true s p.signal e) held))))))
      ∙ sym (cond_false (p.signal == s)
      (replaced_word p.high p.low (ws copy) (drop p.from right)) (ws copy) other))
      (either_way (p.signal == s))
    where
      one_held : (c : Bool) (P : Type 0) → (IsTrue c → P) → IsTrue (c || false) → P
      one_held true P gives held = gives refl
      one_held false P gives held = absurd (false≢true held)

  piece_settles : (right : Word) (ws : Words) (p : PieceForm) → AreSettled signals ws words →
      AreSettled signals (with_piece_word signals (s ∷ []) right ws p) words
  piece_settles right ws p same t low = by (holds (s ∷ []) p.signal)
    where
      new : Word
      new = replaced_word p.high p.low (ws (copy_of signals p.signal)) (drop p.from right)

      by : (c : Bool) → cond c (with_word (copy_of signals p.signal) new ws) ws t ≡ words t
      by true =
          cond_false (t == copy_of signals p.signal) new (ws t) (apart t low p.signal) ∙ same t low
      by false = same t low

  pieces_alone : (right : Word) (pieces : List PieceForm) (ws : Words) →
      fold (with_piece_word signals (s ∷ []) right) ws pieces copy
      ≡ fold (with_piece_of s right) (ws copy) pieces
  pieces_alone right [] ws = refl
  pieces_alone right (p ∷ pieces) ws =
      pieces_alone right pieces (with_piece_word signals (s ∷ []) right ws p)
      ∙ ap (λ w. fold (with_piece_of s right) w pieces) (piece_alone right ws p)

  pieces_settle : (right : Word) (pieces : List PieceForm) (ws : Words) →
      AreSettled signals ws words →
      AreSettled signals (fold (with_piece_word signals (s ∷ []) right) ws pieces) words
  pieces_settle right [] ws same = same
  pieces_settle right (p ∷ pieces) ws same =
      pieces_settle right pieces (with_piece_word signals (s ∷ []) right ws p)
      (piece_settles right ws p same)

  -- ---- statements

  or_none : (c : Bool) → (c || false) ≡ c
  or_none true = refl
  or_none false = refl

  pub made_alone : (body : FlatStatement) → IsTrue (statement_sound signals body) → (ws : Words) →
      AreSettled signals ws words → (f : Formula) →
      IsAlone (words_after signals (s ∷ []) body ws f)
      (target_word signals words s (sliced s body) (ws copy) f)
  made_alone nothing right ws same f = record { same = refl; settled = same }
  made_alone (after first second) right ws same f =
      let one = words_after signals (s ∷ []) first ws f in
      let p = made_alone first
      (first_of (statement_sound signals first) (statement_sound signals second) right) ws same f in
      let q = made_alone second
      (second_of (statement_sound signals first) (statement_sound signals second) right) one.1
      p.settled one.0 in
      record {
        same = q.same
            ∙ ap (λ (z : Formula × Word). target_word signals words s (sliced s second) z.1 z.0)
            p.same;
        settled = q.settled;
      }
  made_alone (assign pieces place blocking right) sound ws same f =
      by (assigns_some (s ∷ []) body) (assigns body s) (or_none (assigns body s))
    where
      body : FlatStatement
      body = assign pieces place blocking right

      word : Formula × Word
      word = expression_word both ws right f

      by : (c d : Bool) → c ≡ d →
          IsAlone (cond c (word.0, fold (with_piece_word signals (s ∷ []) word.1) ws pieces) (f, ws))
          (target_word signals words s (cond d body nothing) (ws copy) f)
      by true true e = record {
        same = ap (λ z. (word.0, z)) (pieces_alone word.1 pieces ws)
            ∙ ap (λ (z : Formula × Word). (z.0, fold (with_piece_of s z.1) (ws copy) pieces))
            (settled_expression signals ws words same right
            (first_of (well_formed signals right) (list_all (piece_fits signals right) pieces) sound)
            f);
        settled = pieces_settle word.1 pieces ws same;
      }
      by true false e = absurd (false≢true (sym e))
      by false true e = absurd (false≢true e)
      by false false e = record { same = refl; settled = same }
  made_alone (branch place condition first second) sound ws same f =
      by (assigns_some (s ∷ []) body) (assigns body s) (or_none (assigns body s))
      (made_alone first
      (second_of (well_formed signals condition) (statement_sound signals first) front) ws same bit.0)
      (made_alone second
      (second_of (well_formed signals condition && statement_sound signals first)
      (statement_sound signals second) sound) ws same one.0)
    where
      body : FlatStatement
      body = branch place condition first second

      front : IsTrue (well_formed signals condition && statement_sound signals first)
      front =
          first_of (well_formed signals condition && statement_sound signals first)
          (statement_sound signals second) sound

      bit : Formula × ℤ
      bit = is_true_bit both ws condition f

      one : Formula × Words
      one = words_after signals (s ∷ []) first ws bit.0

      two : Formula × Words
      two = words_after signals (s ∷ []) second ws one.0

      x : FlatStatement
      x = sliced s first

      y : FlatStatement
      y = sliced s second

      -- the word that both arms come to, from the condition's bit on
      from_bit : Formula × ℤ → Formula × Word
      from_bit z =
          let o = target_word signals words s x (ws copy) z.0 in
          let t = target_word signals words s y (ws copy) o.0 in
          bitwise_word (mux_gate z.1) o.1 t.1 t.0

      by : (c d : Bool) → c ≡ d →
          IsAlone one (target_word signals words s x (ws copy) bit.0) →
          IsAlone two (target_word signals words s y (ws copy) one.0) →
          IsAlone (cond c (chosen_words signals bit.1 one.1 two.1 (cond d (s ∷ []) []) ws two.0)
          (f, ws))
          (target_word signals words s (cond d (branch place condition x y) nothing) (ws copy) f)
      by true true e p q =
          let m = bitwise_word (mux_gate bit.1) (one.1 copy) (two.1 copy) two.0 in
          record {
            same = ap (λ z. (m.0, z))
                (cond_true (copy == copy) m.1 (ws copy) (eq-eqb copy copy refl))
                ∙ ap (λ (z : Formula × Word). bitwise_word (mux_gate bit.1) (one.1 copy) z.1 z.0)
                q.same
                ∙ ap (λ (z : Formula × Word).
                let t = target_word signals words s y (ws copy) z.0 in
                bitwise_word (mux_gate bit.1) z.1 t.1 t.0) p.same
                ∙ ap from_bit (settled_truth signals ws words same condition
                (first_of (well_formed signals condition) (statement_sound signals first) front) f);
            settled = λ t low.
                cond_false (t == copy) m.1 (ws t) (apart t low s) ∙ same t low;
          }
      by true false e p q = absurd (false≢true (sym e))
      by false true e p q = absurd (false≢true e)
      by false false e p q = record { same = refl; settled = same }

-- ---- the word of a driven signal

module _ (design : FlatDesign) (is_sound : IsTrue (sound design)) (admitted : IsAdmitted design)
    (p : ProcessForm) (s : ℕ) (at : Contains (processes_of design) p)
    (own : IsTrue (assigns p.body s)) (all_settled : AllSettled design.signals p) where
  abbrev signals : List SignalForm
  signals = design.signals

  s_low : s < length design.signals
  s_low = ltb-true s (length design.signals)
      (assigned_is_signal design.signals p.body (body_is_sound design is_sound admitted p at) s own)

  -- no value is an earlier one, so the signal alone is followed
  pub follows_alone : followed design p s ≡ s ∷ []
  follows_alone =
      stays_one (length design.signals) s (wants design p) s_low
      (λ m k. none_found (wants design p m k) (λ brings.
      let found = from_some (λ (r : Reading).
      is_earlier design p r && r.serves m && (r.name.signal == k))
      (process_readings design p) brings in
      let r = found.0 in
      false≢true (sym (all_settled r found.1)
      ∙ first_of (is_earlier design p r) (r.serves m)
      (first_of (is_earlier design p r && r.serves m) (r.name.signal == k) found.2))))
      (length design.signals)

  pub nothing_marked : marked design.signals (is_block p.kind) p.body no_bits ≡ p.body
  nothing_marked =
      marked_itself design.signals (is_block p.kind) p.body no_bits no_bits all_settled

  abbrev begun : Words → Words
  begun words = starting_words design.signals (is_clocked p.kind) words

  begun_settled : (words : Words) → AreSettled design.signals (begun words) words
  begun_settled words t low =
      cond_false (is_copy design.signals t)
      (cond (is_clocked p.kind) (words (original design.signals t))
      (replicate (signal_width design.signals (original design.signals t)) false_literal)) (words t)
      (signal_is_settled design.signals t low)

  begun_copy : (words : Words) → begun words (copy_of design.signals s)
      ≡ cond (is_clocked p.kind) (words s) (replicate (signal_width design.signals s) false_literal)
  begun_copy words =
      let t = copy_of design.signals s in
      cond_true (is_copy design.signals t)
      (cond (is_clocked p.kind) (words (original design.signals t))
      (replicate (signal_width design.signals (original design.signals t)) false_literal)) (words t)
      (copy_is_copy design.signals s)
      ∙ ap (λ k. cond (is_clocked p.kind) (words k)
      (replicate (signal_width design.signals k) false_literal)) (original_of_copy design.signals s)

  pub driven_alone : (words : Words) (f : Formula) → driven_word design s p words f
      ≡ target_word design.signals words s (sliced s p.body)
      (cond (is_clocked p.kind) (words s)
      (replicate (signal_width design.signals s) false_literal)) f
  driven_alone words f =
      ap₂ (λ ts b.
      let made = words_after design.signals ts b (begun words) f in
      (made.0, made.1 (copy_of design.signals s))) follows_alone nothing_marked
      ∙ (made_alone design.signals words s p.body
      (body_is_sound design is_sound admitted p at) (begun words) (begun_settled words) f).same
      ∙ ap (λ w. target_word design.signals words s (sliced s p.body) w f) (begun_copy words)
