-- What the steps of an encoding ask for is there: signals, words and labels.
use Rattle.std.proofs.Common.{◌≡◌, ℕ, ◌<◌, ◌≤◌, ◌||◌, List, [], ◌∷◌, ◌++◌, length, map, get_or, sym}
use Rattle.std.proofs.Common.{subst, arith, ⊎_elim, lt-ltb}
use Rattle.std.specs.Prelude.{All, Contains, IsTrue, IsFalse, Bool, filter, nat_le}
use Rattle.std.proofs.lemmas.Bool.{leb-true, or_right}
use Rattle.std.proofs.lemmas.List.Elements.{Contains-get_or}
use Rattle.sv_flat.specs.declared.designs.Flat.{Flat}
use Rattle.sv_flat.specs.Design.{FlatDesign}
use Rattle.sv_flat.specs.Values.{signal_of, signal_width}
use Rattle.sv_flat.specs.Soundness.{sound, is_signal, is_one_to, label_sound}
use Rattle.sv_flat.specs.Processes.{is_top_input, is_register}
use Rattle.sv_flat.specs.Reads.{is_combinational, is_read_for}
use Rattle.sv_flat.specs.Sets.{holds}
use Rattle.sv_flat.specs.Views.{design_of}
use Rattle.sv_flat.proofs.AdmittedFacts.{signal_is_sound}
use Rattle.sv_flat.proofs.Depths.{first_of, second_of}
use Rattle.sv_flat.proofs.LeastSets.{Contains-from_filter, Contains-from_holds, or_cases}
use Rattle.sv_flat.proofs.LeastSets.{holds-from_Contains}
use Rattle.sv_flat.proofs.Members.{all_contained, contained_all}
use Rattle.sv_system.proofs.Lists.{Contains-filter}
use Rattle.sv_obl.specs.Obligations.{Obligation}
use Rattle.sv_obl.specs.DesignQueries.{IsQueryOf}
use Rattle.sv_obl.specs.Noninterference.{IsChecked}
use Rattle.sv_gates.specs.Formulas.{Formula}
use Rattle.sv_gates.specs.Gates.{start}
use Rattle.sv_circuits.proofs.Pieces.{word_more}
use Rattle.sv_encoding.specs.BothWays.{IsWordOf, IsCone}
use Rattle.sv_encoding.specs.Cones.{registers_in, now_cone, next_cone}
use Rattle.sv_encoding.specs.Encoding.{given_in, inputs_in, settled_in}
use Rattle.sv_encoding.specs.Expressions.{Words}
use Rattle.sv_encoding.specs.GivenMeanings.{AreFree}
use Rattle.sv_encoding_laws.proofs.Chain.{s1, s2, s3, s4, s5, free1, p2, free3, p4, p5, read_inside}
use Rattle.sv_encoding_laws.proofs.Chain.{later_given}
use Rattle.sv_encoding_laws.proofs.FrameWords.{With, Ordered, Given, in_order}
use Rattle.sv_encoding_laws.proofs.QueryCones.{now_is_cone, next_is_cone}
use Rattle.sv_blast.specs.Steps.{AreReady}
use Rattle.sv_blast.specs.WordTables.{StandsOf}
use Rattle.sv_blast.proofs.KnownSignals.{as_many}
use Rattle.sv_blast.proofs.QuerySignals.{now_known, next_known}
use Rattle.sv_blast.proofs.ReadyWords.{ready_more}

-- what holds of the members of a list holds of those that pass a test
pub filtered_all : (P : ℕ → Type 0) (test : ℕ → Bool) (xs : List ℕ) → All P xs →
    All P (filter test xs)
filtered_all P test xs all k d inside =
    let ys = filter test xs in
    all_contained P xs all (get_or ys k d)
    (Contains-from_filter test xs (get_or ys k d) (Contains-get_or ys k d inside)).1

module _ (flat : Flat) (checked : IsChecked (design_of flat)) (o : Obligation)
    (query : IsQueryOf (design_of flat) o) where
  abbrev design : FlatDesign
  design = design_of flat

  abbrev Known : ℕ → Type 0
  Known s = s < length flat.signals.items

  -- ---- signals

  pub given_known : All Known (given_in design (now_cone design o))
  given_known =
      filtered_all Known (λ s. is_top_input design s || is_register design s) (now_cone design o)
      (now_known flat checked.is_sound checked.admitted o query)

  pub inputs_known : All Known (inputs_in design (next_cone design o))
  inputs_known =
      filtered_all Known (is_top_input design) (next_cone design o)
      (next_known flat checked.is_sound checked.admitted o query)

  pub registers_are : All (λ s. IsTrue (is_register design s))
      (registers_in design (next_cone design o))
  registers_are k d inside =
      let cone = next_cone design o in
      let ys = registers_in design cone in
      (Contains-from_filter (is_register design) cone (get_or ys k d)
      (Contains-get_or ys k d inside)).0

  -- ---- widths

  few_bits : (s : ℕ) → IsTrue (is_signal design.signals s) → signal_width design.signals s ≤ 64
  few_bits s inside =
      let signal = signal_of design.signals s in
      let width = first_of (is_one_to 64 signal.width) (label_sound design signal.label)
      (signal_is_sound design checked.is_sound checked.admitted s inside) in
      leb-true signal.width 64 (second_of (nat_le 1 signal.width) (nat_le signal.width 64) width)

  known_is : (s : ℕ) → Known s → IsTrue (is_signal design.signals s)
  known_is s known =
      lt-ltb s (length design.signals) (omega (arith, known, as_many flat))

  narrow : (cone : List ℕ) (made : Formula × Words) (old : Formula) → All Known cone →
      AreFree design cone old made → All (λ s. length (made.1 s) ≤ 64) cone
  narrow cone made old known free =
      contained_all (λ s. length (made.1 s) ≤ 64) cone (λ s at.
      let is = (free.words s (holds-from_Contains cone s at)).inside in
      omega (arith, is.1, few_bits s (known_is s (all_contained Known cone known s at))))

  pub given_narrow : All (λ s. length ((s1 design checked o query).1 s) ≤ 64)
      (given_in design (now_cone design o))
  given_narrow =
      narrow (given_in design (now_cone design o)) (s1 design checked o query) start given_known
      (free1 design checked o query)

  pub inputs_narrow : All (λ s. length ((s3 design checked o query).1 s) ≤ 64)
      (inputs_in design (next_cone design o))
  inputs_narrow =
      narrow (inputs_in design (next_cone design o)) (s3 design checked o query)
      (s2 design checked o query).0 inputs_known (free3 design checked o query)

  -- ---- words

  ordered_ready : (K : ℕ → Type 0) (ss : List ℕ) →
      Ordered design checked.is_sound checked.admitted K ss → AreReady design K ss
  ordered_ready K [] ordered = tt
  ordered_ready K (s ∷ ss) ordered = (
    (or_right (is_register design s) (is_combinational design s) ordered.0.0, ordered.0.1),
    ordered_ready (With K s) ss ordered.1,
  )

  settled_ready : (cone : List ℕ) (n : ℕ) (words : Words) → IsCone design cone →
      ((t : ℕ) → IsTrue (holds (given_in design cone) t) → IsWordOf design t n (words t)) →
      AreReady design (StandsOf design.signals n words) (settled_in design cone)
  settled_ready cone n words is_cone given =
      let test = λ (s : ℕ). is_top_input design s || is_register design s in
      let kinds = λ (s : ℕ) (inside : IsTrue (holds cone s)).
      or_cases (test s) (is_combinational design s) (is_cone.kinds s inside) in
      ready_more design
      (Given design checked.is_sound checked.admitted cone kinds is_cone.closed)
      (StandsOf design.signals n words) (settled_in design cone)
      (λ t g. given t (holds-from_Contains (given_in design cone) t
      (Contains-filter test cone t (Contains-from_holds cone t g.0) g.1)))
      (ordered_ready (Given design checked.is_sound checked.admitted cone kinds is_cone.closed)
      (settled_in design cone)
      (in_order design checked.is_sound checked.admitted cone kinds is_cone.closed))

  pub now_ready : AreReady design
      (StandsOf design.signals (s1 design checked o query).0.variables
      (s1 design checked o query).1) (settled_in design (now_cone design o))
  now_ready =
      settled_ready (now_cone design o) (s1 design checked o query).0.variables
      (s1 design checked o query).1 (now_is_cone design checked.is_sound checked.admitted o query)
      (λ t held. ((free1 design checked o query).words t held).inside)

  pub next_ready : AreReady design
      (StandsOf design.signals (s4 design checked o query).0.variables
      (s4 design checked o query).1) (settled_in design (next_cone design o))
  next_ready =
      let free = free3 design checked o query in
      let registers = p4 design checked o query in
      let m = (s3 design checked o query).0.variables in
      let n = (s4 design checked o query).0.variables in
      settled_ready (next_cone design o) n (s4 design checked o query).1
      (next_is_cone design checked.is_sound checked.admitted o query)
      (λ t held. ⊎_elim
      (λ register. registers.0.within t register)
      (λ input. let is = (free.words t input.1).inside in
      subst (IsWordOf design t n) (sym (registers.1 t input.0))
      (word_more m n ((s3 design checked o query).1 t) registers.0.extends.begins.grows is.0, is.1))
      (later_given design checked o query t held))

  pub read_ready : (s t : ℕ) → Contains (registers_in design (next_cone design o)) s →
      IsTrue (is_read_for design s t) →
      StandsOf design.signals (s3 design checked o query).0.variables
      (s2 design checked o query).1 t
  read_ready s t at reads =
      let registers = registers_in design (next_cone design o) in
      let is = (p2 design checked o query).within t
      (read_inside design checked o query t (s, holds-from_Contains registers s at, reads)) in (
        word_more (s2 design checked o query).0.variables (s3 design checked o query).0.variables
            ((s2 design checked o query).1 t) (free3 design checked o query).begins.grows is.0,
        is.1,
      )

  -- ---- no step takes variables away

  pub settled_more : (s1 design checked o query).0.variables
      ≤ (s2 design checked o query).0.variables
  settled_more = (p2 design checked o query).extends.begins.grows

  pub registers_more : (s3 design checked o query).0.variables
      ≤ (s4 design checked o query).0.variables
  registers_more = (p4 design checked o query).0.extends.begins.grows

  pub next_more : (s4 design checked o query).0.variables
      ≤ (s5 design checked o query).0.variables
  next_more = (p5 design checked o query).extends.begins.grows
