-- Where a valuation falsifies an obligation there is a first read whose label does not flow.
use Rattle.std.proofs.Common.{◌≡◌, ℕ, ◌<◌, Bool, true, false, not, cond, List, [], ◌∷◌, length}
use Rattle.std.proofs.Common.{Option, Some, None, ⊎_elim, refl, sym, ap, ap₂, ◌∙◌}
use Rattle.std.proofs.Common.{subst, lt-ltb}
use Rattle.std.specs.Prelude.{Contains, All, IsTrue, find}
use Rattle.std.proofs.lemmas.Bool.{false≢true}
use Rattle.std.proofs.lemmas.List.{length-map}
use Rattle.std.proofs.lemmas.List.Elements.{All-head, All-tail}
use Rattle.std.proofs.lemmas.List.Elements.{All-contains}
use Rattle.sv_lattice.specs.declared.points.Point.{Point}
use Rattle.sv_lattice.specs.Tables.{flow_test}
use Rattle.sv_system.specs.System.{Environment, Settled}
use Rattle.sv_system.proofs.Lists.{Contains-nil, Contains-cases}
use Rattle.sv_system.proofs.OneTrace.{settled_agree}
use Rattle.sv_flat.specs.declared.designs.Flat.{Flat}
use Rattle.sv_flat.specs.declared.signals.SigId.{SigId}
use Rattle.sv_flat.specs.ByNumber.{by_number}
use Rattle.sv_flat.specs.Clocks.{is_clock}
use Rattle.sv_flat.specs.Design.{FlatDesign}
use Rattle.sv_flat.specs.FlatSystem.{flat_system}
use Rattle.sv_flat.specs.Values.{signal_of}
use Rattle.sv_flat.specs.Views.{design_of, signal_form}
use Rattle.sv_flat.proofs.LeastSets.{those_below}
use Rattle.sv_flat.proofs.SelectorFacts.{label_selected, selector_is_seen}
use Rattle.sv_design.specs.Designs.{IsDesign}
use Rattle.sv_design.specs.Numbers.{number_if_any}
use Rattle.sv_sim.proofs.OneDesign.{design_ordered}
use Rattle.sv_obl.specs.declared.frames.Frame.{Frame}
use Rattle.sv_obl.specs.declared.frames.Frame.TheVariants.{Now, Next}
use Rattle.sv_obl.specs.DesignQueries.{IsQueryOf, IsGoalOf}
use Rattle.sv_obl.specs.Obligations.{GoalForm, flow, holds, selector, Obligation}
use Rattle.sv_obl.specs.Validity.{Valuation, goal_frame, IsInFrame, SomeStays, GoalFails, Falsifies}
use Rattle.sv_obl.specs.Views.{IsGoalAmong, IsAmong}
use Rattle.sv_obl.proofs.AmongFacts.{query_among}
use Rattle.sv_report.specs.FlowText.{AsksFlow, asked_signal, stays, IsFirstToStay}

-- ---- searches

nothing_some : (y : ℕ) → None ≡ Some y → ⊥
nothing_some y same = cc

pub same_number : (x y : ℕ) → Some x ≡ Some y → x ≡ y
same_number x y same = cc

module _ (test : ℕ → Bool) where
  -- where one passes a first one is found
  found_next : (b : Bool) (z x : ℕ) (zs : List ℕ) → test z ≡ b → Contains (z ∷ zs) x
      → IsTrue (test x) → (Contains zs x → (y : ℕ) × (find test zs ≡ Some y))
      → (y : ℕ) × (find test (z ∷ zs) ≡ Some y)
  found_next true z x zs is at passes later = (z, ap (λ b. cond b (Some z) (find test zs)) is)
  found_next false z x zs is at passes later =
      let there : Contains zs x = ⊎_elim
      (λ same. absurd (false≢true (sym is ∙ ap test same ∙ passes)))
      (λ behind. behind)
      (Contains-cases z zs x at) in
      let found = later there in
      (found.0, ap (λ b. cond b (Some z) (find test zs)) is ∙ found.1)

  some_found : (xs : List ℕ) (x : ℕ) → Contains xs x → IsTrue (test x)
      → (y : ℕ) × (find test xs ≡ Some y)
  some_found [] x at passes = absurd (Contains-nil x at)
  some_found (z ∷ zs) x at passes =
      found_next (test z) z x zs refl at passes (λ there. some_found zs x there passes)

  -- the first one is one of them
  among_next : (P : ℕ → Type 0) (b : Bool) (z y : ℕ) (zs : List ℕ) → test z ≡ b → P z
      → find test (z ∷ zs) ≡ Some y → (find test zs ≡ Some y → P y) → P y
  among_next P true z y zs here one is later =
      subst P
      (same_number z y (sym (ap (λ b. cond b (Some z) (find test zs)) here) ∙ is)) one
  among_next P false z y zs other one is later =
      later (sym (ap (λ b. cond b (Some z) (find test zs)) other) ∙ is)

  found_among : (P : ℕ → Type 0) (xs : List ℕ) (y : ℕ) → All P xs → find test xs ≡ Some y → P y
  found_among P [] y all is = absurd (nothing_some y is)
  found_among P (z ∷ zs) y all is =
      among_next P (test z) z y zs refl (All-head P z zs all) is
      (λ found. found_among P zs y (All-tail P z zs all) found)

-- a signal whose number is there is there
some_number : (found : Option SigId) (n : ℕ) → number_if_any found ≡ Some n
    → (s : SigId) × (found ≡ Some s) × (s.0 ≡ n)
some_number None n is = absurd (nothing_some n is)
some_number (Some s) n is = (s, refl, same_number s.0 n is)

-- ---- what is asked

-- the signal of a goal is one
asked_inside : (count : ℕ) (g : GoalForm) → AsksFlow g → IsGoalAmong count g →
    asked_signal g < count
asked_inside count (flow target frame) asks among = among
asked_inside count (holds e frame) asks among = absurd asks
asked_inside count (selector s) asks among = among

module _ (flat : Flat) (o : Obligation) (query : IsQueryOf (design_of flat) o) where
  among : IsAmong (length flat.signals.items) o
  among =
      subst (λ n. IsAmong n o) (length-map flat.signals.items signal_form)
      (query_among (design_of flat) o query)

  pub asked_known : AsksFlow o.goal → asked_signal o.goal < length flat.signals.items
  asked_known asks = asked_inside (length flat.signals.items) o.goal asks among.goal

  pub reads_known : All (λ s. s < length flat.signals.items) o.reads
  reads_known = among.reads

-- what is found with the point of a label is found with the label
told : (design : FlatDesign) (signal asked : ℕ) (values here others there : List ℕ)
    (point : Point) (listed reads : List ℕ) (found : Option ℕ)
    → found ≡ find (λ s. not ((flat_system design).flows
    ((flat_system design).label s (by_number values)) point)) listed
    → point ≡ (flat_system design).label signal (by_number others)
    → signal ≡ asked → values ≡ here → others ≡ there → listed ≡ reads
    → found ≡ find (stays design (by_number here) (by_number there) asked) reads
told design signal asked values here others there point listed reads found is labelled same
    here_is there_is are =
    is
    ∙ ap (λ p. find (λ s. not ((flat_system design).flows
    ((flat_system design).label s (by_number values)) p)) listed)
    (labelled
    ∙ ap (λ t. (flat_system design).label t (by_number others)) same
    ∙ ap (λ vs. (flat_system design).label asked (by_number vs)) there_is)
    ∙ ap (λ vs. find (stays design (by_number vs) (by_number there) asked) listed) here_is
    ∙ ap (find (stays design (by_number here) (by_number there) asked)) are

-- ---- what is settled is so once

module _ (design : FlatDesign) (is : IsDesign design) where
  abbrev pub IsSeen : ℕ → Type 0
  IsSeen s = Contains (flat_system design).signals s

  abbrev Agree : (e f : Environment ℕ) → Type 0
  Agree e f = (s : ℕ) → IsSeen s → e s ≡ f s

  pub agree_now : (v : Valuation) (e f : Environment ℕ)
      → Settled (flat_system design) v.registers v.inputs e
      → Settled (flat_system design) v.registers v.inputs f → Agree e f
  agree_now v e f one two =
      settled_agree (flat_system design) (design_ordered design is.is_sound is.is_admitted)
      v.registers v.registers v.inputs e f (λ s register. refl) one two

  pub agree_there : (v : Valuation) (frame : Frame) (e f there other : Environment ℕ)
      → Settled (flat_system design) v.registers v.inputs e
      → Settled (flat_system design) v.registers v.inputs f
      → IsInFrame design v e frame there → IsInFrame design v f frame other → Agree there other
  agree_there v Now e f there other one two is_there is_other s at =
      ap (λ g. g s) is_there ∙ agree_now v e f one two s at ∙ sym (ap (λ g. g s) is_other)
  agree_there v Next e f there other one two is_there is_other s at =
      let facts = design_ordered design is.is_sound is.is_admitted in
      settled_agree (flat_system design) facts ((flat_system design).next e)
      ((flat_system design).next f) v.next_inputs there other
      (λ r register. facts.next_within e f r register
      (λ t state. one.registers t state ∙ sym (two.registers t state))
      (agree_now v e f one two))
      is_there is_other s at

  seen_inside : (s : ℕ) → IsSeen s → s < length design.signals
  seen_inside s at = those_below (length design.signals) (λ z. not (is_clock design z)) s at

  label_same : (e f : Environment ℕ) (s : ℕ) → IsSeen s → Agree e f
      → (flat_system design).label s e ≡ (flat_system design).label s f
  label_same e f s seen same =
      label_selected design.maps (signal_of design.signals s).label e f
      (λ t at. same t (selector_is_seen design is.is_sound is.is_admitted s
      (lt-ltb s (length design.signals) (seen_inside s seen)) t at))

  pub stays_same : (now there here other : Environment ℕ) (s t : ℕ) → IsSeen s → IsSeen t
      → Agree now here → Agree there other
      → stays design now there s t ≡ stays design here other s t
  stays_same now there here other s t s_seen t_seen same same_there =
      ap₂ (λ (a b : Point). not (flow_test design.lattice a.0 b.0))
      (label_same now here t t_seen same) (label_same there other s s_seen same_there)

  -- ---- what fails shows

  pub asked_seen : (o : Obligation) (g : GoalForm) → AsksFlow g → IsGoalOf design o g →
      IsSeen (asked_signal g)
  asked_seen o (flow target frame) asks goal = goal.0
  asked_seen o (holds e frame) asks goal = absurd asks
  asked_seen o (selector s) asks goal = goal.0

  some_stays : (reads : List ℕ) (now there : Environment ℕ) (g : GoalForm) → AsksFlow g
      → GoalFails design reads now there g → SomeStays design reads now (asked_signal g) there
  some_stays reads now there (flow target frame) asks fails = fails
  some_stays reads now there (holds e frame) asks fails = absurd asks
  some_stays reads now there (selector s) asks fails = fails

  -- some read is the first whose label does not flow, in whatever environments settle
  first_stays : (v : Valuation) (o : Obligation) (now there : Environment ℕ)
      → AsksFlow o.goal → IsQueryOf design o → Falsifies design v o
      → Settled (flat_system design) v.registers v.inputs now
      → IsInFrame design v now (goal_frame o.goal) there
      → (read : ℕ) × (find (stays design now there (asked_signal o.goal)) o.reads ≡ Some read)
  first_stays v o now there asks query fails settled in_frame =
      let shown = some_stays o.reads fails.now fails.there o.goal asks fails.fails in
      some_found (stays design now there (asked_signal o.goal)) o.reads shown.0 shown.1
      (stays_same now there fails.now fails.there (asked_signal o.goal) shown.0
      (asked_seen o o.goal asks query.goal)
      (All-contains IsSeen o.reads shown.0 query.reads shown.1)
      (agree_now v now fails.now settled fails.settled)
      (agree_there v (goal_frame o.goal) now fails.now there fails.there settled fails.settled
      in_frame fails.in_frame)
      ∙ ap not shown.2)

-- ---- the signal that is found

-- a signal was found, and it is the first read
pub record Shows (design : FlatDesign) (o : Obligation) (v : Valuation) (found : Option SigId) :
    Type 0 where
  pub read : SigId
  pub is : found ≡ Some read
  pub first : IsFirstToStay design o v read.0

pub shows : (design : FlatDesign) → IsDesign design → (v : Valuation) (o : Obligation)
    (frame : Frame) (signal : ℕ) (values here others there listed : List ℕ) (point : Point)
    (found : Option SigId)
    → AsksFlow o.goal → IsQueryOf design o → Falsifies design v o
    → frame ≡ goal_frame o.goal → signal ≡ asked_signal o.goal
    → Settled (flat_system design) v.registers v.inputs (by_number here)
    → IsInFrame design v (by_number here) frame (by_number there)
    → number_if_any found ≡ find (λ s. not ((flat_system design).flows
    ((flat_system design).label s (by_number values)) point)) listed
    → point ≡ (flat_system design).label signal (by_number others)
    → values ≡ here → others ≡ there → listed ≡ o.reads → Shows design o v found
shows design is v o frame signal values here others there listed point found asks query fails
    frame_is signal_is settled in_frame is_found labelled here_is there_is are =
    let framed = subst (λ f. IsInFrame design v (by_number here) f (by_number there)) frame_is
    in_frame in
    let one = first_stays design is v o (by_number here) (by_number there) asks query fails settled
    framed in
    let first = some_number found one.0
    (told design signal (asked_signal o.goal) values here others there point listed o.reads
    (number_if_any found) is_found labelled signal_is here_is there_is are
    ∙ one.1) in
    record {
      read = first.0;
      is = first.1;
      first = record {
        now = by_number here;
        there = by_number there;
        settled = settled;
        in_frame = framed;
        first = one.1 ∙ ap Some (sym first.2);
      };
    }

same_signal : (r s : SigId) → Some r ≡ Some s → r ≡ s
same_signal r s same = cc

pub first_of : (design : FlatDesign) (o : Obligation) (v : Valuation) (found : Option SigId)
    (s : SigId) → found ≡ Some s → Shows design o v found → IsFirstToStay design o v s.0
first_of design o v found s is shown =
    subst (λ (t : SigId). IsFirstToStay design o v t.0)
    (same_signal shown.read s (sym shown.is ∙ is)) shown.first

pub first_known : (flat : Flat) (o : Obligation) (v : Valuation) (s : ℕ)
    → IsQueryOf (design_of flat) o → IsFirstToStay (design_of flat) o v s
    → s < length flat.signals.items
first_known flat o v s query shown =
    found_among (stays (design_of flat) shown.now shown.there (asked_signal o.goal))
    (λ t. t < length flat.signals.items) o.reads s
    (reads_known flat o query) shown.first
