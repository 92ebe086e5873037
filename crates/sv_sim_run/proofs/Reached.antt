-- What a simulation has written, when it has come so far.
use Rattle.std.proofs.Common.{◌≡◌, ℕ, ◌*◌, ◌≤◌, Bool, true, false, List, [], ◌∷◌, ◌++◌}
use Rattle.std.proofs.Common.{length, map, refl, sym, ap, ◌∙◌, subst, Option, Some, None}
use Rattle.std.proofs.Common.{arith}
use Rattle.std.proofs.Common.{append-nil}
use Rattle.std.specs.Prelude.{sum, IfSome}
use Rattle.std.specs.Global.{Vec}
use Rattle.sv_io.proofs.Writing.{writes_front_whole}
use Rattle.sv_system.specs.System.{Environment, IsTrace}
use Rattle.sv_flat.specs.Design.{FlatDesign}
use Rattle.sv_flat.specs.FlatSystem.{flat_system}
use Rattle.sv_flat.specs.SignalLists.{inputs, registers}
use Rattle.sv_flat.specs.Given.{given}
use Rattle.sv_trace.specs.Forms.{StimForm, form_of}
use Rattle.sv_trace.specs.Reading.{HaveRead}
use Rattle.sv_trace.specs.Stimulus.{LinesRead, read_front, start_of, cycles_of}
use Rattle.sv_sim_run.specs.declared.endings.Ending.{Ending}
use Rattle.sv_sim_run.specs.declared.runners.Runner.{Runner}
use Rattle.sv_sim_run.specs.declared.runners.Runner.TheVariants as runner
use Rattle.sv_sim_run.specs.declared.simulations.Simulation.{Simulation}
use Rattle.sv_sim_run.specs.Fronts.{WritesAllAt}
use Rattle.sv_sim_run.specs.Progress.{flat_of, IsSimulating, HasRunCycles, HasCome}
use Rattle.sv_sim_run.specs.Progress.{HasFailed, HasReached}
use Rattle.sv_sim_run.specs.Runners.{values_in, order_in, rounds_in}
use Rattle.sv_sim_run.specs.Runs.{HaveRunInOrder, lines_of, PutsFront}
use Rattle.sv_sim_run.specs.Simulated.{largest_stimulus, is_within, read_of, ending_of, last_line}
use Rattle.sv_sim_run.specs.Simulated.{RunsInOrder, AreRounds, IsSimulatedAt, WritesFrontAt}
use Rattle.sv_sim_run.proofs.DesignForms.{form_is_plain, from_given, start_fit, cycles_fit}
use Rattle.sv_sim_run.proofs.Fronts.{begins_text_of}
use Rattle.sv_sim_run.proofs.OneText.{simulated}
use Rattle.sv_sim_run.proofs.ReadFits.{front_fits}
use Rattle.sv_sim_run.proofs.ReadFronts.{Grows}

-- ---- lists

pub empty : {X : Type 0} (xs : List X) → length xs ≡ 0 → xs ≡ []
empty [] e = refl
empty (x ∷ xs) e = absurd (omega (arith, e))

-- ---- rounds

no_rounds : (r : Runner) → order_in r ≡ None → rounds_in r ≡ None
no_rounds (runner.Plain sim) e = refl
no_rounds (runner.Drawn run) e = cc

some_rounds : (r : Runner) (number : ℕ) → order_in r ≡ Some number
    → (rounds : ℕ) × (rounds_in r ≡ Some rounds)
some_rounds (runner.Plain sim) number e = cc
some_rounds (runner.Drawn run) number e = (run.rounds, refl)

-- the rounds of these cycles from this start
abbrev CountRounds : FlatDesign → (order : Option ℕ) → (start : List ℕ) →
    (cycles : List (List ℕ)) → (rounds : Option ℕ) → Type 0
CountRounds design None start cycles rounds = rounds ≡ None
CountRounds design (Some number) start cycles rounds =
    (count : ℕ) × (rounds ≡ Some count) × RunsInOrder design number start cycles count

counted : (design : FlatDesign) (order : Option ℕ) (start : List ℕ) (cycles : List (List ℕ))
    (trace : List (Environment ℕ)) (e : Environment ℕ) (rounds : Option ℕ)
    → HaveRunInOrder design order start cycles trace e rounds
    → CountRounds design order start cycles rounds
counted design None start cycles trace e rounds ran = ran
counted design (Some number) start cycles trace e rounds ran = (
  sum ran.0,
  ran.3,
  record {
    environments = trace;
    runs = record { counts = ran.0; runs = ran.1; summed = refl };
  },
)

few_rounds : (rounds : Option ℕ) (n most : ℕ) → rounds ≡ Some n
    → IfSome rounds (λ m. m ≤ most) → n ≤ most
few_rounds None n most e few = absurd (cc)
few_rounds (Some m) n most e few = subst (λ (k : ℕ). k ≤ most) (cc) few

none_counted : (design : FlatDesign) (order : Option ℕ) (start : List ℕ) (r : Runner)
    → order_in r ≡ order → IfSome (rounds_in r) (λ m. m ≤ 0)
    → CountRounds design order start [] (rounds_in r)
none_counted design None start r e few = no_rounds r e
none_counted design (Some number) start r e few =
    let rounds = some_rounds r number e in
    let none : rounds.0 ≤ 0 = few_rounds (rounds_in r) rounds.0 0 rounds.1 few in
    let zero : rounds.0 ≡ 0 = omega arith in (
      0,
      rounds.1 ∙ ap Some zero,
      record { environments = []; runs = record { counts = []; runs = tt; summed = refl } },
    )

-- ---- what was run

record Ran (right : List (List ℕ)) (before accepted : List ℕ) (s : Simulation) : Type 0 where
  trace : List (Environment ℕ)
  is : IsTrace (flat_system (flat_of s))
      (given (registers (flat_of s)) (start_of s.reader.form right))
      (map (given (inputs (flat_of s))) (cycles_of right)) trace
  wrote : accepted ≡ before ++ lines_of (flat_of s) s.level trace
  rounds : CountRounds (flat_of s) (order_in s.runner) (start_of s.reader.form right)
      (cycles_of right) (rounds_in s.runner)

-- nothing waits
put_whole : (text old new : List ℕ) (waiting : Vec ℕ) → PutsFront old text new waiting.items
    → waiting.items ≡ [] → new ≡ old ++ text
put_whole text old new waiting puts none =
    puts.accepted
    ∙ ap (λ t. old ++ t)
    (sym (puts.whole ∙ ap (λ w. puts.front ++ w) none
    ∙ append-nil puts.front))

ran : (right taken : List (List ℕ)) (before accepted : List ℕ) (s : Simulation)
    → HaveRead s.reader.form right taken s.reader.said → length s.reader.said.cycles ≡ 0
    → HasRunCycles taken before accepted s → s.waiting.items ≡ [] → Ran right before accepted s
ran right taken before accepted s read all run put =
    let flat : FlatDesign = flat_of s in
    let cycles : taken ≡ cycles_of right =
    sym (append-nil taken) ∙ ap (λ cs. taken ++ cs) (sym (empty s.reader.said.cycles all))
    ∙ read.cycles in
    let wrote = put_whole (lines_of flat s.level run.trace) before accepted s.waiting run.lines
    put in
    by_start s.is_started refl cycles wrote
  where
    by_start : (b : Bool) → s.is_started ≡ b → taken ≡ cycles_of right
        → accepted ≡ before ++ lines_of (flat_of s) s.level run.trace
        → Ran right before accepted s
    by_start true started cycles wrote =
        let done = run.run started in record {
          trace = run.trace;
          is = subst (λ (cs : List (List ℕ)). IsTrace (flat_system (flat_of s))
              (given (registers (flat_of s)) (start_of s.reader.form right))
              (map (given (inputs (flat_of s))) cs) run.trace) cycles
              (subst (λ (values : List ℕ). IsTrace (flat_system (flat_of s))
              (given (registers (flat_of s)) values)
              (map (given (inputs (flat_of s))) taken) run.trace) read.start done.run.is_trace);
          wrote = wrote;
          rounds = subst (λ (cs : List (List ℕ)). CountRounds (flat_of s) (order_in s.runner)
              (start_of s.reader.form right) cs (rounds_in s.runner)) cycles
              (subst (λ (values : List ℕ). CountRounds (flat_of s) (order_in s.runner) values taken
              (rounds_in s.runner)) read.start
              (counted (flat_of s) (order_in s.runner) s.reader.said.start taken run.trace
              (values_in s.runner) (rounds_in s.runner) done.in_order));
        }
    by_start false stopped cycles wrote =
        let none : taken ≡ [] = empty taken (run.none stopped) in
        let no_trace : run.trace ≡ [] = empty run.trace (run.same_count ∙ ap length none) in
        let no_cycles : cycles_of right ≡ [] = sym cycles ∙ none in record {
          trace = [];
          is = subst (λ (cs : List (List ℕ)). IsTrace (flat_system (flat_of s))
              (given (registers (flat_of s)) (start_of s.reader.form right))
              (map (given (inputs (flat_of s))) cs) []) (sym no_cycles) tt;
          wrote = wrote ∙ ap (λ t. before ++ lines_of (flat_of s) s.level t) no_trace;
          rounds = subst (λ (cs : List (List ℕ)). CountRounds (flat_of s) (order_in s.runner)
              (start_of s.reader.form right) cs (rounds_in s.runner)) (sym no_cycles)
              (none_counted (flat_of s) (order_in s.runner) (start_of s.reader.form right) s.runner
              refl (subst (λ (ts : List (List ℕ)). IfSome (rounds_in s.runner)
              (λ rounds. rounds ≤ length ts * 4294967295)) none run.few));
        }

-- ---- the whole text

counted_of : (design : FlatDesign) (order : Option ℕ) (read : LinesRead) (rounds : Option ℕ)
    → CountRounds design order (start_of (form_of design) read.right) (cycles_of read.right) rounds
    → AreRounds design order read rounds
counted_of design None read rounds count = count
counted_of design (Some number) read rounds count = count

pub record Wrote (bytes : List ℕ) (ends : Ending) (before accepted : List ℕ) (s : Simulation) :
    Type 0 where
  pub text : List ℕ
  pub wrote : accepted ≡ before ++ text
  pub is : IsSimulatedAt (flat_of s) (Some s.level) (order_in s.runner) bytes ends
      (text ++ last_line ends (rounds_in s.runner))

-- what is behind the trace makes the text whole
pub reached_wrote : (bytes : List ℕ) (ends : Ending) (before accepted : List ℕ) (s : Simulation)
    → HasReached bytes ends before accepted s → Wrote bytes ends before accepted s
reached_wrote bytes ends before accepted s reached =
    let flat : FlatDesign = flat_of s in
    let same : s.reader.form ≡ form_of flat = reached.made.form in
    let ended = reached.ended in
    let run = ran (read_of s.reader.form bytes).right ended.taken before accepted s
    ended.read_all.lines ended.all ended.ran ended.put in
    let is = subst (λ (f : StimForm). IsTrace (flat_system flat)
    (given (registers flat) (start_of f (read_of f bytes).right))
    (map (given (inputs flat)) (cycles_of (read_of f bytes).right)) run.trace) same run.is in
    let count = subst (λ (f : StimForm). CountRounds flat (order_in s.runner)
    (start_of f (read_of f bytes).right) (cycles_of (read_of f bytes).right) (rounds_in s.runner))
    same run.rounds in
    let end : ending_of (is_within bytes) (read_of (form_of flat) bytes) ≡ ends =
    sym (reached.is ∙ ap (λ f. ending_of (is_within bytes) (read_of f bytes)) same) in
    let text : List ℕ = lines_of flat s.level run.trace in
    let admitted = reached.made.admitted in
    record {
      text = text;
      wrote = run.wrote;
      is = subst (λ (e : Ending). IsSimulatedAt flat (Some s.level) (order_in s.runner) bytes e
          (text ++ last_line e (rounds_in s.runner))) end
          (simulated flat admitted.is_sound admitted.is_admitted s.level (order_in s.runner)
          (rounds_in s.runner) bytes run.trace is
          (counted_of flat (order_in s.runner) (read_of (form_of flat) bytes) (rounds_in s.runner)
          count));
    }

-- ---- fronts

-- what was accepted of a reading whose lines begin those of the stimulus
pub failed_front : (read : LinesRead) (bytes before accepted : List ℕ) (s : Simulation)
    (order : Option ℕ) → IsSimulating s → HasFailed read before accepted s
    → Grows read (read_of s.reader.form bytes)
    → WritesFrontAt (flat_of s) (Some s.level) order bytes before accepted
failed_front read bytes before accepted s order made failed grows =
    begins_text_of (flat_of s) made.admitted.is_sound made.admitted.is_admitted s.reader.form
    made.form s.level order bytes read failed.taken failed.rest failed.trace before accepted
    failed.cycles failed.run grows failed.front

-- between two pieces all lines were accepted
pub come_failed : (bytes before accepted : List ℕ) (s : Simulation)
    → HasCome bytes before accepted s → HasFailed (read_front s.reader.form bytes) before accepted s
come_failed bytes before accepted s come =
    let read : LinesRead = read_front s.reader.form bytes in
    let run = ran read.right come.taken before accepted s come.fed.read.lines come.all come.ran
    come.put in
    record {
      taken = cycles_of read.right;
      rest = [];
      cycles = sym (append-nil (cycles_of read.right));
      trace = run.trace;
      run = run.is;
      front = writes_front_whole before (lines_of (flat_of s) s.level run.trace) accepted run.wrote;
    }

pub come_all : (bytes before accepted : List ℕ) (s : Simulation) → IsSimulating s
    → (read_front s.reader.form bytes).wrong ≡ None → length bytes ≤ largest_stimulus
    → HasCome bytes before accepted s → WritesAllAt (flat_of s) s.level bytes before accepted
come_all bytes before accepted s made none few come =
    let flat : FlatDesign = flat_of s in
    let read : LinesRead = read_front s.reader.form bytes in
    let run = ran read.right come.taken before accepted s come.fed.read.lines come.all come.ran
    come.put in
    let is = subst (λ (f : StimForm). IsTrace (flat_system flat)
    (given (registers flat) (start_of f (read_front f bytes).right))
    (map (given (inputs flat)) (cycles_of (read_front f bytes).right)) run.trace) made.form
    run.is in
    let right : List (List ℕ) = (read_front (form_of flat) bytes).right in
    let fit = front_fits (form_of flat) (form_is_plain flat) bytes in
    let sound = made.admitted.is_sound in
    let admitted = made.admitted.is_admitted in
    record {
      right = subst (λ (f : StimForm). (read_front f bytes).wrong ≡ None) made.form none;
      few = few;
      trace = run.trace;
      traces = from_given flat sound admitted (start_of (form_of flat) right) (cycles_of right)
          run.trace (start_fit flat sound admitted right fit)
          (cycles_fit flat sound admitted right fit) is;
      accepted = run.wrote;
    }
