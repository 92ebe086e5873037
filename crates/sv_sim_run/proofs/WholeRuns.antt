-- What a whole run comes to, at each end of the functions that make it.
use Rattle.std.proofs.Common.{◌≡◌, ℕ, ◌+◌, ◌≤◌, List, [], ◌++◌, length, refl, sym, ap, ◌∙◌, subst}
use Rattle.std.proofs.Common.{Bool, Option, Some, None, append-nil, arith}
use Rattle.std.specs.Prelude.{Result, Ok, Err, IfOk, OnErr, IsErrAnd, IsTrue}
use Rattle.std.proofs.lemmas.List.{append_cancel_left}
use Rattle.sv_io.specs.Sink.{WritesFront}
use Rattle.sv_io.specs.Source.{WhateverFollows}
use Rattle.sv_lattice.specs.declared.points.Point.{Point}
use Rattle.sv_flat.specs.declared.designs.Flat.{Flat}
use Rattle.sv_flat.specs.Design.{FlatDesign}
use Rattle.sv_flat.specs.Views.{design_of}
use Rattle.sv_design.specs.Designs.{IsDesign}
use Rattle.sv_sim_run.specs.declared.endings.Ending.{Ending}
use Rattle.sv_sim_run.specs.declared.endings.Ending.TheVariants as ending
use Rattle.sv_sim_run.specs.declared.endings.SimFault.{SimFault}
use Rattle.sv_sim_run.specs.declared.endings.SimFault.TheVariants as faults
use Rattle.sv_sim_run.specs.declared.simulations.Simulation.{Simulation}
use Rattle.sv_sim_run.specs.Fronts.{WritesAllAt, EndsWith, StopsWith, WritesBy}
use Rattle.sv_sim_run.specs.Fronts.{RunsTo, StopsAt, WritesWhole}
use Rattle.sv_sim_run.specs.Progress.{flat_of, IsSameAs, HasReached}
use Rattle.sv_sim_run.specs.Runners.{order_in, rounds_in}
use Rattle.sv_sim_run.specs.Simulated.{largest_stimulus, last_line, level_asked, IsSimulatedAt}
use Rattle.sv_sim_run.specs.Simulated.{IsSimulated, WritesFrontAt, WritesFrontFor, WritesAllCycles}
use Rattle.sv_sim_run.proofs.CallFacts.{on_error}
use Rattle.sv_sim_run.proofs.WholeTexts.{Simulates, same_words, nothing_yet, wrote_front}
use Rattle.sv_sim_run.proofs.WholeTexts.{wrote_whole, front_for, all_for, no_other}
use Rattle.sv_sim_run.proofs.WholeTexts.{refused_for, refused_front, refused_only}

-- ---- faults

abbrev failing : (T : Type 0) → SimFault → Result T SimFault
failing T fault = Err fault

-- a fault that is passed on
pub passed_on : {T U : Type 0} (r : Result T SimFault) (fault other : SimFault)
    → IsErrAnd r (λ found. found ≡ fault) → r ≡ Err other → failing U fault ≡ Err other
passed_on (Ok value) fault other same is = absurd same
passed_on (Err found) fault other same is =
    let here : found ≡ other = cc in
    ap Err (sym same ∙ here)

-- out of memory is no fault of the input or the output
not_it : {T : Type 0} (other : SimFault) → (faults.OutOfMemory ≡ other → ⊥)
    → (r : Result T SimFault) → IsErrAnd r (λ fault. fault ≡ faults.OutOfMemory)
    → r ≡ Err other → ⊥
not_it other apart (Ok value) same is = same
not_it other apart (Err fault) same is =
    let here : fault ≡ other = cc in
    apart (sym same ∙ here)

pub not_read : {T : Type 0} (r : Result T SimFault)
    → IsErrAnd r (λ fault. fault ≡ faults.OutOfMemory) → r ≡ Err faults.Read → ⊥
not_read r same is = not_it faults.Read (λ none. absurd cc) r same is

pub not_written : {T : Type 0} (r : Result T SimFault)
    → IsErrAnd r (λ fault. fault ≡ faults.OutOfMemory) → r ≡ Err faults.Write → ⊥
not_written r same is = not_it faults.Write (λ none. absurd cc) r same is

is_no_error : {T : Type 0} (value : T) (fault : SimFault) → Ok value ≡ Err fault → ⊥
is_no_error value fault is = absurd (cc)

-- ---- the ends of a run

simulates_as : (old s : Simulation) → IsSameAs old s
    → Simulates old.design.now old.level (order_in old.runner) s
simulates_as old s same =
    record { is_design = same.design; is_level = same.level; is_order = same.order }

module _ (tells : Bool) (given_old given_new left_old left_new before : List ℕ) where
  -- a fault came while the stimulus was read
  pub stops_run : (s : Simulation) (accepted : List ℕ) (r : Result Ending SimFault)
      (fault : SimFault) → IsErrAnd r (λ found. found ≡ fault)
      → StopsWith tells given_old given_new left_old left_new before accepted s
      → (failing Ending fault ≡ Err faults.Read → (taken : List ℕ)
      × (given_new ≡ given_old ++ taken) × WritesAllAt (flat_of s) s.level taken before accepted)
      → RunsTo (flat_of s) s.level (order_in s.runner) tells given_old given_new left_old before
      accepted r
  stops_run s accepted (Ok ends) fault same stops prompt = absurd same
  stops_run s accepted (Err found) fault same stops prompt = record {
    taken = stops.taken;
    given = stops.takes.given;
    few = stops.few;
    writes = stops.front;
    told = stops.told;
    prompt = λ read.
        let all = prompt (passed_on (failing Ending found) fault faults.Read same read) in
        subst (λ bytes. WritesAllAt (flat_of s) s.level bytes before accepted)
        (append_cancel_left given_old all.0 stops.taken (sym all.1 ∙ stops.takes.given)) all.2;
  }

  -- the whole stimulus was simulated, and something of its text was written
  run_by : (old s : Simulation) (accepted new : List ℕ) (ends : Ending)
      (r : Result Ending SimFault)
      → EndsWith tells given_old given_new left_old left_new ends before accepted s
      → ((bytes : List ℕ) → HasReached bytes ends before accepted s
      → WritesBy (flat_of old) old.level (order_in old.runner) bytes before new r)
      → (r ≡ Err faults.Read → ⊥)
      → RunsTo (flat_of old) old.level (order_in old.runner) tells given_old given_new left_old
      before new r
  run_by old s accepted new ends r all wrote none = record {
    taken = all.taken;
    given = all.takes.given;
    few = all.few;
    writes = wrote all.taken all.reached;
    told = λ told. wrote left_old (all.told told);
    prompt = λ read. absurd (none read);
  }

  -- a fault came while the last line was put
  pub front_run : {T : Type 0} (old s : Simulation) (accepted new : List ℕ) (rounds : Option ℕ)
      (ends : Ending) (r : Result Ending SimFault) (fault : SimFault)
      → IsErrAnd r (λ found. found ≡ fault) → IsSameAs old s
      → EndsWith tells given_old given_new left_old left_new ends before accepted s
      → rounds ≡ rounds_in s.runner → WritesFront accepted (last_line ends rounds) new
      → (failing T fault ≡ Err faults.Read → ⊥)
      → RunsTo (flat_of old) old.level (order_in old.runner) tells given_old given_new left_old
      before new r
  front_run old s accepted new rounds ends (Ok found) fault is same all count put none = absurd is
  front_run old s accepted new rounds ends (Err found) fault is same all count put none =
      run_by old s accepted new ends (Err found) all
      (λ bytes reached. wrote_front old.design.now old.level (order_in old.runner) rounds s bytes
      before accepted new ends (simulates_as old s same) reached count put)
      (λ read. none (passed_on (failing Ending found) fault faults.Read is read))

  -- the last line was put
  pub whole_run : (old s : Simulation) (accepted new : List ℕ) (rounds : Option ℕ)
      (ends : Ending) → IsSameAs old s
      → EndsWith tells given_old given_new left_old left_new ends before accepted s
      → rounds ≡ rounds_in s.runner → new ≡ accepted ++ last_line ends rounds
      → RunsTo (flat_of old) old.level (order_in old.runner) tells given_old given_new left_old
      before new (Ok ends)
  whole_run old s accepted new rounds ends same all count put =
      run_by old s accepted new ends (Ok ends) all
      (λ bytes reached. wrote_whole old.design.now old.level (order_in old.runner) rounds s bytes
      before accepted new ends (simulates_as old s same) reached count put)
      (is_no_error ends faults.Read)

-- memory ran out before anything was read
pub none_run : (design : FlatDesign) (shown : Option Point) (order : Option ℕ) (tells : Bool)
    (given left before : List ℕ) (r : Result Ending SimFault) → IsDesign design
    → IsErrAnd r (λ fault. fault ≡ faults.OutOfMemory)
    → RunsTo design shown order tells given given left before before r
none_run design shown order tells given left before (Ok ends) admitted same = absurd same
none_run design shown order tells given left before (Err fault) admitted same = record {
  taken = [];
  given = sym (append-nil given);
  few = omega arith;
  writes = nothing_yet design admitted (Some shown) order [] before before refl;
  told = λ told. nothing_yet design admitted (Some shown) order left before before refl;
  prompt = λ read. absurd (not_read (failing Ending fault) same read);
}

-- the run of a simulation is one of its design, level and order
pub run_so : (flat : Flat) (level : Option Point) (order : Option ℕ) (s : Simulation)
    (tells : Bool) (given_old given_new left before accepted : List ℕ)
    (r : Result Ending SimFault) → Simulates flat level order s
    → RunsTo (flat_of s) s.level (order_in s.runner) tells given_old given_new left before accepted
    r → RunsTo (design_of flat) level order tells given_old given_new left before accepted r
run_so flat level order s tells given_old given_new left before accepted r is runs =
    same_words (λ d l o. RunsTo d l o tells given_old given_new left before accepted r) flat level
    order s is runs

-- ---- whatever follows

-- the last line was put
pub open_run : (old s : Simulation) (before accepted new : List ℕ) (rounds : Option ℕ)
    (ends : Ending) (ended : Bool) (given_old given_new : List ℕ) → IsSameAs old s
    → rounds ≡ rounds_in s.runner → new ≡ accepted ++ last_line ends rounds
    → WhateverFollows ended given_old given_new (λ bytes. HasReached bytes ends before accepted s)
    → WhateverFollows ended given_old given_new
    (λ bytes. WritesWhole (flat_of old) old.level (order_in old.runner) bytes before new ends)
open_run old s before accepted new rounds ends ended given_old given_new same count put reached
    goes_on taken more is =
    wrote_whole old.design.now old.level (order_in old.runner) rounds s (taken ++ more) before
    accepted new ends (simulates_as old s same) (reached goes_on taken more is) count put

-- a front of the last line was put
pub open_front : (old s : Simulation) (before accepted new : List ℕ) (rounds : Option ℕ)
    (ends : Ending) (ended : Bool) (given_old given_new : List ℕ) (r : Result Ending SimFault)
    → IsSameAs old s → rounds ≡ rounds_in s.runner
    → WritesFront accepted (last_line ends rounds) new
    → WhateverFollows ended given_old given_new (λ bytes. HasReached bytes ends before accepted s)
    → WhateverFollows ended given_old given_new (λ bytes. OnErr r (StopsAt bytes before new old))
open_front old s before accepted new rounds ends ended given_old given_new r same count put reached
    goes_on taken more is =
    on_error r (wrote_front old.design.now old.level (order_in old.runner) rounds s (taken ++ more)
    before accepted new ends (simulates_as old s same) (reached goes_on taken more is) count put)

-- memory ran out before anything was read
pub open_none : (design : FlatDesign) (shown : Option Point) (order : Option ℕ) (ended : Bool)
    (given_old given_new before : List ℕ) (r : Result Ending SimFault) → IsDesign design
    → WhateverFollows ended given_old given_new (λ bytes.
    OnErr r (WritesFrontAt design (Some shown) order bytes before before))
open_none design shown order ended given_old given_new before r admitted goes_on taken more is =
    on_error r
    (nothing_yet design admitted (Some shown) order (taken ++ more) before before refl)

-- of a simulation, and of its design, level and order
pub open_front_so : (flat : Flat) (level : Option Point) (order : Option ℕ) (s : Simulation)
    (ended : Bool) (given_old given_new before accepted : List ℕ) (r : Result Ending SimFault)
    → Simulates flat level order s
    → WhateverFollows ended given_old given_new
    (λ bytes. OnErr r (StopsAt bytes before accepted s))
    → WhateverFollows ended given_old given_new (λ bytes.
    OnErr r (WritesFrontAt (design_of flat) (Some level) order bytes before accepted))
open_front_so flat level order s ended given_old given_new before accepted r is wrote =
    same_words (λ d l o. WhateverFollows ended given_old given_new (λ bytes.
    OnErr r (WritesFrontAt d (Some l) o bytes before accepted))) flat level order s is wrote

pub open_so : (flat : Flat) (level : Option Point) (order : Option ℕ) (s : Simulation)
    (ended : Bool) (given_old given_new before accepted : List ℕ) (r : Result Ending SimFault)
    → Simulates flat level order s
    → WhateverFollows ended given_old given_new (λ bytes.
    IfOk r (WritesWhole (flat_of s) s.level (order_in s.runner) bytes before accepted))
    → WhateverFollows ended given_old given_new (λ bytes.
    IfOk r (WritesWhole (design_of flat) level order bytes before accepted))
open_so flat level order s ended given_old given_new before accepted r is wrote =
    same_words (λ d l o. WhateverFollows ended given_old given_new (λ bytes.
    IfOk r (WritesWhole d l o bytes before accepted))) flat level order s is wrote

-- ---- what a run says of its text

on_ok : (design : FlatDesign) (shown : Option Point) (order : Option ℕ)
    (bytes old new : List ℕ) (r : Result Ending SimFault)
    → WritesBy design shown order bytes old new r
    → IfOk r (λ ends. (printed : List ℕ)
    × IsSimulatedAt design (Some shown) order bytes ends printed × (new ≡ old ++ printed))
on_ok design shown order bytes old new (Ok ends) wrote = wrote
on_ok design shown order bytes old new (Err fault) wrote = tt

on_err : (design : FlatDesign) (shown : Option Point) (order : Option ℕ)
    (bytes old new : List ℕ) (r : Result Ending SimFault)
    → WritesBy design shown order bytes old new r
    → OnErr r (WritesFrontAt design (Some shown) order bytes old new)
on_err design shown order bytes old new (Ok ends) wrote = tt
on_err design shown order bytes old new (Err fault) wrote = wrote

if_ok : {P Q : Ending → Type 0} (r : Result Ending SimFault) → ((ends : Ending) → P ends → Q ends)
    → IfOk r P → IfOk r Q
if_ok (Ok ends) follows fact = follows ends fact
if_ok (Err fault) follows fact = tt

on_fault : {P Q : Type 0} (r : Result Ending SimFault) → (P → Q) → OnErr r P → OnErr r Q
on_fault (Ok ends) follows fact = tt
on_fault (Err fault) follows fact = follows fact

module _ (design : FlatDesign) (level : Option (List ℕ)) (shown : Option Point)
    (order : Option ℕ) (tells : Bool) (given_old given_new left before accepted : List ℕ)
    (r : Result Ending SimFault) (admitted : IsDesign design)
    (asked : level_asked design level ≡ Some shown)
    (runs : RunsTo design shown order tells given_old given_new left before accepted r) where
  at_level : (bytes : List ℕ) (ends : Ending) (printed : List ℕ)
      → IsSimulatedAt design (Some shown) order bytes ends printed
      → IsSimulated design level order bytes ends printed
  at_level bytes ends printed is =
      subst (λ a. IsSimulatedAt design a order bytes ends printed) (sym asked) is

  pub run_answer : IfOk r (λ ends. (taken printed : List ℕ) × (given_new ≡ given_old ++ taken)
      × IsSimulated design level order taken ends printed × (accepted ≡ before ++ printed))
  run_answer =
      if_ok r (λ ends text.
      (runs.taken, text.0, runs.given, at_level runs.taken ends text.0 text.1, text.2))
      (on_ok design shown order runs.taken before accepted r runs.writes)

  pub run_told : IsTrue tells → IfOk r (λ ends. (printed : List ℕ)
      × IsSimulated design level order left ends printed × (accepted ≡ before ++ printed))
  run_told told =
      if_ok r (λ ends text. (text.0, at_level left ends text.0 text.1, text.2))
      (on_ok design shown order left before accepted r (runs.told told))

  pub run_only : (taken printed : List ℕ) (other : Ending) → given_new ≡ given_old ++ taken
      → IsSimulated design level order taken other printed → IfOk r (λ ends. ends ≡ other)
  run_only =
      no_other design admitted level (Some shown) order given_old given_new before accepted r asked
      (if_ok r (λ ends text. (runs.taken, text.0, runs.given, text.1, text.2))
      (on_ok design shown order runs.taken before accepted r runs.writes))

  pub run_front : OnErr r ((taken : List ℕ) × (given_new ≡ given_old ++ taken)
      × WritesFrontFor design level order taken before accepted)
  run_front =
      on_fault r (λ front. (
        runs.taken,
        runs.given,
        front_for design level (Some shown) order runs.taken before accepted asked front,
      ))
      (on_err design shown order runs.taken before accepted r runs.writes)

  pub run_told_front : IsTrue tells
      → OnErr r (WritesFrontFor design level order left before accepted)
  run_told_front told =
      on_fault r (front_for design level (Some shown) order left before accepted asked)
      (on_err design shown order left before accepted r (runs.told told))

  pub run_prompt : r ≡ Err faults.Read → (taken : List ℕ) × (given_new ≡ given_old ++ taken)
      × WritesAllCycles design level taken before accepted
  run_prompt read = (
    runs.taken,
    runs.given,
    all_for design level shown runs.taken before accepted asked (runs.prompt read),
  )

  pub run_most : (taken : List ℕ) → given_new ≡ given_old ++ taken
      → length taken ≤ largest_stimulus + 1
  run_most taken given =
      subst (λ (bytes : List ℕ). length bytes ≤ largest_stimulus + 1)
      (append_cancel_left given_old runs.taken taken (sym runs.given ∙ given)) runs.few

  pub run_touched : {Untouched : Type 0} → level_asked design level ≡ None → Untouched
  run_touched none =
      let no : Some shown ≡ None = sym asked ∙ none in absurd (cc)

-- whatever follows, with what is shown in place of the level's name
pub open_at : (design : FlatDesign) (level : Option (List ℕ)) (shown : Option Point)
    (order : Option ℕ) (ended : Bool) (given_old given_new before accepted : List ℕ)
    (r : Result Ending SimFault) → level_asked design level ≡ Some shown
    → WhateverFollows ended given_old given_new (λ bytes.
    IfOk r (WritesWhole design shown order bytes before accepted))
    → WhateverFollows ended given_old given_new (λ bytes. IfOk r (λ ends. (printed : List ℕ)
    × IsSimulated design level order bytes ends printed × (accepted ≡ before ++ printed)))
open_at design level shown order ended given_old given_new before accepted r asked wrote goes_on
    taken more is =
    if_ok r (λ ends text. (
      text.0,
      subst (λ a. IsSimulatedAt design a order (taken ++ more) ends text.0) (sym asked) text.1,
      text.2,
    ))
    (wrote goes_on taken more is)

pub open_front_at : (design : FlatDesign) (level : Option (List ℕ)) (shown : Option Point)
    (order : Option ℕ) (ended : Bool) (given_old given_new before accepted : List ℕ)
    (r : Result Ending SimFault) → level_asked design level ≡ Some shown
    → WhateverFollows ended given_old given_new (λ bytes.
    OnErr r (WritesFrontAt design (Some shown) order bytes before accepted))
    → WhateverFollows ended given_old given_new (λ bytes.
    OnErr r (WritesFrontFor design level order bytes before accepted))
open_front_at design level shown order ended given_old given_new before accepted r asked wrote
    goes_on taken more is =
    on_fault r (front_for design level (Some shown) order (taken ++ more) before accepted asked)
    (wrote goes_on taken more is)

-- ---- a level that is no point

module _ (design : FlatDesign) (level : Option (List ℕ)) (order : Option ℕ)
    (given before accepted : List ℕ) (r : Result Ending SimFault)
    (asked : level_asked design level ≡ None)
    (whole : IfOk r (λ ends. (ends ≡ ending.NoLevel)
    × (accepted ≡ before ++ last_line ending.NoLevel None))) where
  refused_text : (bytes : List ℕ) (ends : Ending) → ends ≡ ending.NoLevel
      → IsSimulated design level order bytes ends (last_line ending.NoLevel None)
  refused_text bytes ends is =
      subst (λ e. IsSimulated design level order bytes e (last_line ending.NoLevel None)) (sym is)
      (refused_for design level order bytes asked)

  pub refused_answer : IfOk r (λ ends. (taken printed : List ℕ) × (given ≡ given ++ taken)
      × IsSimulated design level order taken ends printed × (accepted ≡ before ++ printed))
  refused_answer =
      if_ok r (λ ends fact. (
        [],
        last_line ending.NoLevel None,
        sym (append-nil given),
        refused_text [] ends fact.0,
        fact.1,
      )) whole

  pub refused_told : (left : List ℕ) → IfOk r (λ ends. (printed : List ℕ)
      × IsSimulated design level order left ends printed × (accepted ≡ before ++ printed))
  refused_told left =
      if_ok r (λ ends fact.
      (last_line ending.NoLevel None, refused_text left ends fact.0, fact.1)) whole

  pub refused_alone : (taken printed : List ℕ) (other : Ending)
      → IsSimulated design level order taken other printed → IfOk r (λ ends. ends ≡ other)
  refused_alone taken printed other simulated =
      if_ok r (λ ends fact.
      fact.0 ∙ refused_only design level order taken printed other asked simulated) whole

pub refused_stops : (design : FlatDesign) (level : Option (List ℕ)) (order : Option ℕ)
    (given before accepted : List ℕ) (r : Result Ending SimFault)
    → level_asked design level ≡ None
    → OnErr r (WritesFront before (last_line ending.NoLevel None) accepted)
    → OnErr r ((taken : List ℕ) × (given ≡ given ++ taken)
    × WritesFrontFor design level order taken before accepted)
refused_stops design level order given before accepted r asked front =
    on_fault r (λ put.
    ([], sym (append-nil given), refused_front design level order [] before accepted asked put))
    front

pub refused_left : (design : FlatDesign) (level : Option (List ℕ)) (order : Option ℕ)
    (left before accepted : List ℕ) (r : Result Ending SimFault)
    → level_asked design level ≡ None
    → OnErr r (WritesFront before (last_line ending.NoLevel None) accepted)
    → OnErr r (WritesFrontFor design level order left before accepted)
refused_left design level order left before accepted r asked front =
    on_fault r (refused_front design level order left before accepted asked) front

pub none_taken : (given taken : List ℕ) → given ≡ given ++ taken
    → length taken ≤ largest_stimulus + 1
none_taken given taken is =
    let none : [] ≡ taken = append_cancel_left given [] taken (append-nil given ∙ is) in
    subst (λ (bytes : List ℕ). length bytes ≤ largest_stimulus + 1) none (omega arith)
