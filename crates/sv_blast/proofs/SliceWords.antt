-- What of a body its slice for a target keeps: the word that it makes of the target, and that all
-- that it names has words.
use Rattle.std.proofs.Common.{◌≡◌, ℕ, ◌<◌, ◌≤◌, Bool, true, false, ◌||◌, ◌&&◌, ◌==◌, cond}
use Rattle.std.proofs.Common.{List, [], ◌∷◌, ◌++◌, length, replicate, refl, sym, ap, subst}
use Rattle.std.proofs.Common.{◌∙◌, ⊎_elim, ltb-true, get_or, Some, None}
use Rattle.std.specs.Prelude.{Contains, IsTrue}
use Rattle.std.specs.List.{list_all}
use Rattle.std.proofs.lemmas.Bool.{eqb-true}
use Rattle.sv_system.proofs.Lists.{Contains-map}
use Rattle.sv_flat.specs.Design.{SignalForm, TypedTree, FlatStatement, nothing, after}
use Rattle.sv_flat.specs.Design.{assign, branch, ProcessForm, FlatDesign}
use Rattle.sv_flat.specs.Values.{signal_width}
use Rattle.sv_flat.specs.Soundness.{is_signal, piece_fits, well_formed, statement_sound, sound}
use Rattle.sv_flat.specs.Assigned.{assigns, can_assign, always_assigns}
use Rattle.sv_flat.specs.Readings.{ReadForm, reads, BitSet, either, no_bits, Reading, readings_of}
use Rattle.sv_flat.specs.Readings.{readings}
use Rattle.sv_flat.specs.Processes.{is_clocked, is_register, drivers}
use Rattle.sv_flat.specs.Clocks.{processes_of}
use Rattle.sv_flat.specs.Reads.{is_combinational, is_read_for}
use Rattle.sv_flat.specs.SignalLists.{driver_of}
use Rattle.sv_flat.specs.Admission.{IsAdmitted}
use Rattle.sv_flat.proofs.Members.{Contains-left, Contains-right}
use Rattle.sv_flat.proofs.LeastSets.{from_some, or_cases}
use Rattle.sv_flat.proofs.Depths.{first_of, second_of}
use Rattle.sv_flat.proofs.AdmittedFacts.{body_is_sound, assigned_is_signal}
use Rattle.sv_flat.proofs.BlockFacts.{settled_is_read, follows_itself}
use Rattle.sv_flat.proofs.FlatScheduled.{parts_of}
use Rattle.sv_design.specs.Designs.{IsDesign}
use Rattle.sv_obl.specs.MarkedBodies.{AllSettled, IsMarkedFor}
use Rattle.sv_obl.specs.BodySlices.{sliced, in_sequence, SameParts, first_body, driven_body}
use Rattle.sv_obl.proofs.MadeFacts.{combinational_driver, register_driver}
use Rattle.sv_obl.proofs.OneDriver.{no_driver, one_driver_at}
use Rattle.sv_obl.proofs.SliceFacts.{same_parts_have}
use Rattle.sv_gates.specs.Formulas.{Formula}
use Rattle.sv_gates.specs.Gates.{false_literal, mux_gate}
use Rattle.sv_circuits.specs.Words.{Word, bitwise_word}
use Rattle.sv_circuits.proofs.WordKeeps.{word_up}
use Rattle.sv_encoding.specs.Expressions.{Words, is_true_bit}
use Rattle.sv_encoding.specs.Bodies.{word_by_first, settled_word}
use Rattle.sv_blast.specs.WordTables.{StandsOf, StandFor}
use Rattle.sv_blast.specs.TargetWords.{target_word, starting_word, IsReady, AreReady}
use Rattle.sv_blast.proofs.AloneWords.{driven_alone}

-- ---- sequences

module _ (signals : List SignalForm) (words : Words) (s : ℕ) where
  -- parts in one sequence make what they make one after the other
  sequence_word : (a rest : FlatStatement) (w : Word) (f : Formula) →
      target_word signals words s (in_sequence a rest) w f
      ≡ target_word signals words s (after a rest) w f
  sequence_word nothing rest w f = refl
  sequence_word (after x y) rest w f =
      let first = target_word signals words s x w f in
      sequence_word x (in_sequence y rest) w f ∙ sequence_word y rest first.1 first.0
  sequence_word (assign pieces place blocking right) rest w f = refl
  sequence_word (branch place condition x y) rest w f =
      let bit = is_true_bit signals words condition f in
      let one = target_word signals words s (in_sequence x nothing) w bit.0 in
      ap (λ (z : Formula × Word). target_word signals words s rest z.1 z.0)
      (ap (λ (z : Formula × Word). bitwise_word (mux_gate bit.1) one.1 z.1 z.0)
      (sequence_word y nothing w one.0)
      ∙ ap (λ (z : Formula × Word).
      let two = target_word signals words s y w z.0 in
      bitwise_word (mux_gate bit.1) z.1 two.1 two.0) (sequence_word x nothing w bit.0))

  pub same_parts_word : (a b : FlatStatement) → SameParts a b → (w : Word) (f : Formula) →
      target_word signals words s a w f ≡ target_word signals words s b w f
  same_parts_word a b same w f =
      sym (sequence_word a nothing w f)
      ∙ ap (λ (x : FlatStatement). target_word signals words s x w f) same
      ∙ sequence_word b nothing w f

module _ (signals : List SignalForm) (n : ℕ) (words : Words) where
  pub same_parts_ready : (a b : FlatStatement) → SameParts a b → AreReady signals n words b →
      AreReady signals n words a
  same_parts_ready =
      same_parts_have (AreReady signals n words) tt (λ a b one two. (one, two))
      (λ a b ready. (ready.0, ready.1))
      (λ place condition a b first second ready. (ready.0, (first ready.1.0, second ready.1.1)))
      (λ place condition a b first second ready. (ready.0, (first ready.1.0, second ready.1.1)))

-- ---- more variables

stands_more : (signals : List SignalForm) (m n : ℕ) (words : Words) → m ≤ n → (e : TypedTree) →
    StandFor signals m words e → StandFor signals n words e
stands_more signals m n words up e stand s named =
    let there = stand s named in (word_up m n (words s) up there.0, there.1)

pub ready_up : (signals : List SignalForm) (m n : ℕ) (words : Words) → m ≤ n →
    (a : FlatStatement) → AreReady signals m words a → AreReady signals n words a
ready_up signals m n words up nothing ready = tt
ready_up signals m n words up (after x y) ready =
    (ready_up signals m n words up x ready.0, ready_up signals m n words up y ready.1)
ready_up signals m n words up (assign pieces place blocking right) ready =
    ((ready.0.0, stands_more signals m n words up right ready.0.1), ready.1)
ready_up signals m n words up (branch place condition x y) ready = (
  (ready.0.0, stands_more signals m n words up condition ready.0.1),
  (ready_up signals m n words up x ready.1.0, ready_up signals m n words up y ready.1.1),
)

-- ---- what a body names

module _ (design : FlatDesign) (is_sound : IsTrue (sound design)) (admitted : IsAdmitted design)
    (p : ProcessForm) (s : ℕ) (at : Contains (processes_of design) p)
    (own : IsTrue (assigns p.body s)) (n : ℕ) (words : Words)
    (has : (t : ℕ) → IsTrue (is_read_for design s t) → StandsOf design.signals n words t) where
  -- what is read for the target has words
  abbrev ReadsStand : List Reading → Type 0
  ReadsStand rs =
      (r : Reading) → Contains rs r → IsTrue (r.serves s) →
      StandsOf design.signals n words r.name.signal

  tree_ready : (e : TypedTree) (whole : FlatStatement) (early follows : BitSet) →
      IsTrue (well_formed design.signals e) → IsTrue (assigns whole s) →
      ReadsStand (readings_of design.signals e (assigns whole) early follows) →
      IsReady design.signals n words e
  tree_ready e whole early follows formed served stand = (
    formed,
    λ t named.
        let found = from_some (λ (r : ReadForm). r.signal == t) (reads design.signals e) named in
        let r = found.0 in
        subst (StandsOf design.signals n words) (eqb-true r.signal t found.2)
        (stand (record { name = r; serves = assigns whole; assigned = early; follows = follows })
        (Contains-map (λ (x : ReadForm).
        record { name = x; serves = assigns whole; assigned = early; follows = follows })
        (reads design.signals e) r found.1) served),
  )

  slice_ready : (b : FlatStatement) (early later : BitSet) →
      IsTrue (statement_sound design.signals b) →
      ReadsStand (readings design.signals b early later) →
      AreReady design.signals n words (sliced s b)
  slice_ready nothing early later right stand = tt
  slice_ready (after first second) early later right stand =
      let late = either (can_assign second) later in
      let mid = either (always_assigns first) early in
      let one = statement_sound design.signals first in
      let two = statement_sound design.signals second in (
        slice_ready first early late (first_of one two right)
            (λ r r_at. stand r (Contains-left (readings design.signals first early late)
            (readings design.signals second mid later) r r_at)),
        slice_ready second mid later (second_of one two right)
            (λ r r_at. stand r (Contains-right (readings design.signals first early late)
            (readings design.signals second mid later) r r_at)),
      )
  slice_ready (assign pieces place blocking e) early later right stand =
      by (assigns whole s) refl
    where
      whole : FlatStatement
      whole = assign pieces place blocking e

      by : (c : Bool) → assigns whole s ≡ c →
          AreReady design.signals n words (cond c whole nothing)
      by true served = (
        tree_ready e whole early (either (can_assign whole) later)
            (first_of (well_formed design.signals e)
            (list_all (piece_fits design.signals e) pieces) right) served stand,
        second_of (well_formed design.signals e)
            (list_all (piece_fits design.signals e) pieces) right,
      )
      by false none = tt
  slice_ready (branch place condition first second) early later right stand =
      by (assigns whole s) refl
      (slice_ready first early later (second_of formed one front)
      (λ r r_at. stand r (Contains-left (here ++ in_first) in_second r
      (Contains-right here in_first r r_at))))
      (slice_ready second early later (second_of (formed && one) two right)
      (λ r r_at. stand r (Contains-right (here ++ in_first) in_second r r_at)))
    where
      whole : FlatStatement
      whole = branch place condition first second

      formed : Bool
      formed = well_formed design.signals condition

      one : Bool
      one = statement_sound design.signals first

      two : Bool
      two = statement_sound design.signals second

      front : IsTrue (formed && one)
      front = first_of (formed && one) two right

      follows : BitSet
      follows = either (can_assign whole) later

      here : List Reading
      here = readings_of design.signals condition (assigns whole) early follows

      in_first : List Reading
      in_first = readings design.signals first early later

      in_second : List Reading
      in_second = readings design.signals second early later

      by : (c : Bool) → assigns whole s ≡ c →
          AreReady design.signals n words (sliced s first) →
          AreReady design.signals n words (sliced s second) →
          AreReady design.signals n words
          (cond c (branch place condition (sliced s first) (sliced s second)) nothing)
      by true served x y = (
        tree_ready condition whole early follows (first_of formed one front) served
            (λ r r_at. stand r (Contains-left (here ++ in_first) in_second r
            (Contains-left here in_first r r_at))),
        (x, y),
      )
      by false none x y = tt

  pub body_ready : AllSettled design.signals p → AreReady design.signals n words (sliced s p.body)
  body_ready all_settled =
      slice_ready p.body no_bits no_bits (body_is_sound design is_sound admitted p at)
      (λ r r_at served.
      has r.name.signal (settled_is_read design is_sound admitted p at s own s
      (follows_itself design is_sound admitted p at s own) r r_at served (all_settled r r_at)))

-- ---- a driven signal

module _ (design : FlatDesign) (is : IsDesign design) (s : ℕ)
    (driven : IsTrue (is_register design s || is_combinational design s)) where
  -- the only process that drives it, which is clocked where it is a register
  pub record HasDriver : Type 0 where
    pub process : ProcessForm
    pub at : Contains (processes_of design) process
    pub own : IsTrue (assigns process.body s)
    pub kind : is_clocked process.kind ≡ is_register design s
    pub alone : drivers (processes_of design) s ≡ process ∷ []

  has_driver : (p : ProcessForm) → Contains (processes_of design) p → IsTrue (assigns p.body s) →
      is_clocked p.kind ≡ is_register design s → drivers (processes_of design) s ≡ p ∷ [] →
      HasDriver
  has_driver p at own kind alone =
      record { process = p; at = at; own = own; kind = kind; alone = alone }

  pub driver : HasDriver
  driver = ⊎_elim
      (λ register.
      let found = register_driver design is.is_sound is.is_admitted s register in
      has_driver found.0 found.1 found.3 (found.2 ∙ sym register) found.4)
      (λ comb.
      let found = combinational_driver design is.is_sound is.is_admitted s comb in
      has_driver found.0 found.1 found.3
      (found.2 ∙ sym (parts_of design is.is_sound is.is_admitted s comb).2) found.4)
      (or_cases (is_register design s) (is_combinational design s) driven)

  is_known : IsTrue (is_signal design.signals s)
  is_known =
      assigned_is_signal design.signals driver.process.body
      (body_is_sound design is.is_sound is.is_admitted driver.process driver.at) s driver.own

  pub known : s < length design.signals
  known = ltb-true s (length design.signals) is_known

  -- the process at the driver's place is clocked where the signal is a register
  pub driver_kind : (k : ℕ) (d : ProcessForm) → driver_of design s ≡ Some k →
      is_clocked (get_or (processes_of design) k d).kind ≡ is_register design s
  driver_kind k d found =
      ap (λ (ps : List ProcessForm). is_clocked (get_or ps 0 driver.process).kind)
      (sym (one_driver_at design is.is_sound is.is_admitted s is_known k d found).2
      ∙ driver.alone)
      ∙ driver.kind

  pub some_driver : driver_of design s ≡ None → ⊥
  some_driver none =
      let empty = no_driver design is.is_sound is.is_admitted s is_known none in
      let one = driver.alone in
      cc

  body_there : (body : FlatStatement) → SameParts body (sliced s (driven_body design s)) →
      SameParts body (sliced s driver.process.body)
  body_there body same =
      subst (λ ps. SameParts body (sliced s (first_body ps))) driver.alone same

  unmarked_is_settled : IsMarkedFor design s None → AllSettled design.signals driver.process
  unmarked_is_settled unmarked = unmarked driver.process driver.at driver.own

  -- its word is the one that its slice makes, where its process has no earlier read
  pub settled_by_slice : IsMarkedFor design s None → (words : Words) (f : Formula)
      (body : FlatStatement) →
      SameParts body (sliced s (driven_body design s)) →
      settled_word design words s f
      ≡ target_word design.signals words s body (starting_word design words s) f
  settled_by_slice unmarked words f body same =
      let p = driver.process in
      let false_bits = replicate (signal_width design.signals s) false_literal in
      ap (λ ps. word_by_first design s ps words f) driver.alone
      ∙ driven_alone design is.is_sound is.is_admitted p s driver.at driver.own
      (unmarked_is_settled unmarked) words f
      ∙ ap (λ c. target_word design.signals words s (sliced s p.body)
      (cond c (words s) false_bits) f) driver.kind
      ∙ sym (same_parts_word design.signals words s body (sliced s p.body) (body_there body same)
      (starting_word design words s) f)

  pub slice_names : IsMarkedFor design s None → (n : ℕ) (words : Words) →
      ((t : ℕ) → IsTrue (is_read_for design s t) → StandsOf design.signals n words t) →
      (body : FlatStatement) → SameParts body (sliced s (driven_body design s)) →
      AreReady design.signals n words body
  slice_names unmarked n words has body same =
      let p = driver.process in
      same_parts_ready design.signals n words body (sliced s p.body) (body_there body same)
      (body_ready design is.is_sound is.is_admitted p s driver.at driver.own n words has
      (unmarked_is_settled unmarked))
