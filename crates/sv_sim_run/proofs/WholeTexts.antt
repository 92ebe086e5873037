-- What `simulate` has written, at each of its ends.
use Rattle.std.proofs.Common.{◌≡◌, ℕ, List, ◌++◌, refl, sym, ap, ◌∙◌, subst}
use Rattle.std.proofs.Common.{Option, Some, None, append_assoc}
use Rattle.std.specs.Prelude.{Result, Ok, Err, IfOk}
use Rattle.std.proofs.lemmas.List.{append_cancel_left}
use Rattle.sv_io.specs.Sink.{WritesFront}
use Rattle.sv_io.proofs.Writing.{writes_front_after, writes_front_none}
use Rattle.sv_lattice.specs.declared.points.Point.{Point}
use Rattle.sv_flat.specs.declared.designs.Flat.{Flat}
use Rattle.sv_flat.specs.Design.{FlatDesign}
use Rattle.sv_flat.specs.Views.{design_of}
use Rattle.sv_design.specs.Designs.{IsDesign}
use Rattle.sv_trace.specs.Forms.{form_of}
use Rattle.sv_trace.specs.Stimulus.{read_front}
use Rattle.sv_sim_run.specs.declared.endings.Ending.{Ending}
use Rattle.sv_sim_run.specs.declared.endings.Ending.TheVariants as ending
use Rattle.sv_sim_run.specs.declared.endings.SimFault.{SimFault}
use Rattle.sv_sim_run.specs.declared.simulations.Simulation.{Simulation}
use Rattle.sv_sim_run.specs.Fronts.{WritesAllAt}
use Rattle.sv_sim_run.specs.Progress.{flat_of, HasReached}
use Rattle.sv_sim_run.specs.Runners.{order_in, rounds_in}
use Rattle.sv_sim_run.specs.Simulated.{last_line, level_asked, IsSimulatedAt, IsSimulated}
use Rattle.sv_sim_run.specs.Simulated.{WritesFrontAt, WritesFrontFor, WritesAllCycles}
use Rattle.sv_sim_run.proofs.OneText.{has_text, one_at}
use Rattle.sv_sim_run.proofs.Reached.{reached_wrote}

-- ---- a simulation of a design, a level and an order

pub record Simulates (flat : Flat) (level : Option Point) (order : Option ℕ) (s : Simulation) :
    Type 0 where
  pub is_design : s.design.now ≡ flat
  pub is_level : s.level ≡ level
  pub is_order : order_in s.runner ≡ order

-- what is said of the simulation's design, level and order
pub same_words : (P : FlatDesign → Option Point → Option ℕ → Type 0) (flat : Flat)
    (level : Option Point) (order : Option ℕ) (s : Simulation) → Simulates flat level order s
    → P (flat_of s) s.level (order_in s.runner) → P (design_of flat) level order
same_words P flat level order s is holds =
    subst (λ (f : Flat). P (design_of f) level order) is.is_design
    (subst (λ (l : Option Point). P (flat_of s) l order) is.is_level
    (subst (λ (o : Option ℕ). P (flat_of s) s.level o) is.is_order holds))

-- nothing was written
pub nothing_yet : (design : FlatDesign) → IsDesign design → (asked : Option (Option Point))
    (order : Option ℕ) (bytes old new : List ℕ) → new ≡ old
    → WritesFrontAt design asked order bytes old new
nothing_yet design is asked order bytes old new same =
    let text = has_text design is.is_sound is.is_admitted asked order bytes in
    record {
      ends = text.0;
      printed = text.1;
      is = text.2;
      front = writes_front_none old text.1 new same;
    }

-- the last line was put
pub wrote_whole : (flat : Flat) (level : Option Point) (order rounds : Option ℕ) (s : Simulation)
    (bytes before accepted new : List ℕ) (ends : Ending) → Simulates flat level order s
    → HasReached bytes ends before accepted s → rounds ≡ rounds_in s.runner
    → new ≡ accepted ++ last_line ends rounds
    → (printed : List ℕ) × IsSimulatedAt (design_of flat) (Some level) order bytes ends printed
    × (new ≡ before ++ printed)
wrote_whole flat level order rounds s bytes before accepted new ends is reached same put =
    let wrote = reached_wrote bytes ends before accepted s reached in
    let line : List ℕ = last_line ends (rounds_in s.runner) in (
      wrote.text ++ line,
      same_words (λ d l o. IsSimulatedAt d (Some l) o bytes ends (wrote.text ++ line)) flat level
          order s is wrote.is,
      put ∙ ap (λ (r : Option ℕ). accepted ++ last_line ends r) same
          ∙ ap (λ text. text ++ line) wrote.wrote
          ∙ append_assoc before wrote.text line,
    )

-- a front of the last line was put
pub wrote_front : (flat : Flat) (level : Option Point) (order rounds : Option ℕ) (s : Simulation)
    (bytes before accepted new : List ℕ) (ends : Ending) → Simulates flat level order s
    → HasReached bytes ends before accepted s → rounds ≡ rounds_in s.runner
    → WritesFront accepted (last_line ends rounds) new
    → WritesFrontAt (design_of flat) (Some level) order bytes before new
wrote_front flat level order rounds s bytes before accepted new ends is reached same put =
    let wrote = reached_wrote bytes ends before accepted s reached in
    let line : List ℕ = last_line ends (rounds_in s.runner) in
    record {
      ends = ends;
      printed = wrote.text ++ line;
      is = same_words (λ d l o. IsSimulatedAt d (Some l) o bytes ends (wrote.text ++ line)) flat
          level order s is wrote.is;
      front = writes_front_after before wrote.text accepted line new wrote.wrote
          (subst (λ (r : Option ℕ). WritesFront accepted (last_line ends r) new) same put);
    }

-- ---- levels

-- what is shown, in place of the level's name
pub front_for : (design : FlatDesign) (level : Option (List ℕ)) (asked : Option (Option Point))
    (order : Option ℕ) (bytes old new : List ℕ) → level_asked design level ≡ asked
    → WritesFrontAt design asked order bytes old new
    → WritesFrontFor design level order bytes old new
front_for design level asked order bytes old new is front =
    subst (λ a. WritesFrontAt design a order bytes old new) (sym is) front

pub all_for : (design : FlatDesign) (level : Option (List ℕ)) (shown : Option Point)
    (bytes old new : List ℕ) → level_asked design level ≡ Some shown
    → WritesAllAt design shown bytes old new → WritesAllCycles design level bytes old new
all_for design level shown bytes old new is all = record {
  shown = shown;
  asked = is;
  read = read_front (form_of design) bytes;
  is_read = refl;
  right = all.right;
  few = all.few;
  trace = all.trace;
  traces = all.traces;
  accepted = all.accepted;
}

-- a level that is no point
pub refused_for : (design : FlatDesign) (level : Option (List ℕ)) (order : Option ℕ)
    (bytes : List ℕ) → level_asked design level ≡ None
    → IsSimulated design level order bytes ending.NoLevel (last_line ending.NoLevel None)
refused_for design level order bytes is =
    subst (λ a. IsSimulatedAt design a order bytes ending.NoLevel (last_line ending.NoLevel None))
    (sym is) (refl, refl)

pub refused_front : (design : FlatDesign) (level : Option (List ℕ)) (order : Option ℕ)
    (bytes old new : List ℕ) → level_asked design level ≡ None
    → WritesFront old (last_line ending.NoLevel None) new
    → WritesFrontFor design level order bytes old new
refused_front design level order bytes old new is front = record {
  ends = ending.NoLevel;
  printed = last_line ending.NoLevel None;
  is = refused_for design level order bytes is;
  front = front;
}

pub refused_only : (design : FlatDesign) (level : Option (List ℕ)) (order : Option ℕ)
    (bytes printed : List ℕ) (other : Ending) → level_asked design level ≡ None
    → IsSimulated design level order bytes other printed → ending.NoLevel ≡ other
refused_only design level order bytes printed other is simulated =
    let refused = subst (λ a. IsSimulatedAt design a order bytes other printed) is simulated in
    sym refused.0

-- ---- other endings

pub no_other : (design : FlatDesign) → IsDesign design → (level : Option (List ℕ))
    (asked : Option (Option Point)) (order : Option ℕ) (old new accepted accepted_new : List ℕ)
    (r : Result Ending SimFault) → level_asked design level ≡ asked
    → IfOk r (λ ends. (taken printed : List ℕ) × (new ≡ old ++ taken)
    × IsSimulatedAt design asked order taken ends printed
    × (accepted_new ≡ accepted ++ printed))
    → (taken printed : List ℕ) (other : Ending) → new ≡ old ++ taken
    → IsSimulated design level order taken other printed → IfOk r (λ ends. ends ≡ other)
no_other design admitted level asked order old new accepted accepted_new (Ok ends) is answer taken
    printed other given simulated =
    let same : answer.0 ≡ taken = append_cancel_left old answer.0 taken (sym answer.2 ∙ given) in
    let mine = subst (λ bytes. IsSimulatedAt design asked order bytes ends answer.1) same
    answer.3 in
    let theirs = subst (λ a. IsSimulatedAt design a order taken other printed) is simulated in
    (one_at design admitted.is_sound admitted.is_admitted asked order taken other ends printed
    answer.1 theirs mine).0
no_other design admitted level asked order old new accepted accepted_new (Err fault) is answer taken
    printed other given simulated = tt
