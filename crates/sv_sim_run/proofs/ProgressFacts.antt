-- How far a simulation has come after each of its steps.
use Rattle.std.proofs.Common.{◌≡◌, ℕ, ◌+◌, ◌*◌, ◌<◌, ◌≤◌, Bool, true, false, List, [], ◌∷◌, ◌++◌}
use Rattle.std.proofs.Common.{length, map, refl, sym, ap, subst, ◌∙◌, arith, Option, Some, None}
use Rattle.std.proofs.Common.{length-append}
use Rattle.std.specs.Prelude.{IfSome}
use Rattle.std.proofs.lemmas.Bool.{false≢true}
use Rattle.sv_io.specs.Sink.{WritesFront}
use Rattle.sv_lattice.specs.declared.points.Point.{Point}
use Rattle.sv_system.specs.System.{Environment, Settled, IsTrace}
use Rattle.sv_flat.specs.declared.designs.Flat.{Flat}
use Rattle.sv_flat.specs.FlatSystem.{flat_system}
use Rattle.sv_flat.specs.Schedules.{starting, after_tick, tick_order}
use Rattle.sv_flat.specs.SignalLists.{inputs, registers}
use Rattle.sv_flat.specs.Views.{design_of}
use Rattle.sv_flat.specs.Given.{given}
use Rattle.sv_trace.specs.Forms.{StimForm}
use Rattle.sv_trace.specs.Reading.{Reading, HasRead}
use Rattle.sv_trace.specs.Stimulus.{LinesRead, start_of}
use Rattle.sv_trace.specs.Traces.{trace_line}
use Rattle.sv_sim_run.specs.declared.runners.Runner.{Runner}
use Rattle.sv_sim_run.specs.declared.simulations.Simulation.{Simulation}
use Rattle.sv_sim_run.specs.Progress.{flat_of, IsSimulating, HaveBeenRun, HasRunCycles, HasRoom}
use Rattle.sv_sim_run.specs.Progress.{HasFailed, IsSameAs}
use Rattle.sv_sim_run.specs.Runners.{CountsRounds, values_in, order_in, rounds_in}
use Rattle.sv_sim_run.specs.Runs.{HaveRun, HaveRunInOrder, PutsFront, WritesRun, lines_of}
use Rattle.sv_sim_run.proofs.CycleFacts.{run_traces, run_more, in_order_more, few_more}
use Rattle.sv_sim_run.proofs.CycleFacts.{none_in_order}
use Rattle.sv_sim_run.proofs.LineFacts.{put_more, front_more, front_held, lines_with}
use Rattle.sv_sim_run.proofs.ReadFacts.{cycles_count, begun_if}

no_environments : (trace : List (Environment ℕ)) (taken : List (List ℕ))
    → length trace ≡ length taken → length taken ≡ 0 → trace ≡ []
no_environments [] taken count none = refl
no_environments (e ∷ es) taken count none = absurd (omega arith)

no_cycles_taken : (taken : List (List ℕ)) → length taken ≡ 0 → taken ≡ []
no_cycles_taken [] none = refl
no_cycles_taken (c ∷ cs) none = absurd (omega arith)

-- ---- one cycle

-- a cycle that is run on a simulation
pub record RunsCycle (s : Simulation) (values : List ℕ) (environment : Environment ℕ)
    (line : List ℕ) : Type 0 where
  pub made : IsSimulating s
  pub started : s.is_started ≡ true
  pub settled : Settled (flat_system (flat_of s)) (values_in s.runner)
      (given (inputs (flat_of s)) values) environment
  pub line_is : line ≡ trace_line (flat_of s) s.cycle s.level environment

-- and what it leaves in the runner
pub record LeavesRunner (s : Simulation) (values : List ℕ) (environment : Environment ℕ)
    (r : Runner) : Type 0 where
  pub order : order_in r ≡ order_in s.runner
  pub next : values_in r ≡ (flat_system (flat_of s)).next environment
  pub counted : CountsRounds (flat_of s) (order_in s.runner) s.cycle values (values_in s.runner)
      environment (rounds_in s.runner) (rounds_in r)
  pub ticked : IfSome (order_in s.runner) (λ _. values_in r ≡
      after_tick (flat_of s) (tick_order (flat_of s) s.cycle) environment)

module _ (s : Simulation) (taken : List (List ℕ)) (before accepted : List ℕ)
    (ran : HasRunCycles taken before accepted s) (values : List ℕ)
    (environment : Environment ℕ) where
  number_is : s.cycle ≡ length ran.trace
  number_is = ran.cycle ∙ sym ran.same_count

  lines_are : (line : List ℕ) → line ≡ trace_line (flat_of s) s.cycle s.level environment
      → lines_of (flat_of s) s.level (ran.trace ++ environment ∷ [])
      ≡ lines_of (flat_of s) s.level ran.trace ++ line
  lines_are line is =
      lines_with (flat_of s) s.level ran.trace environment s.cycle line number_is is

  -- the cycle was run, and its line was put
  pub cycle_more : (line : List ℕ) (new : Simulation) (now : List ℕ)
      → RunsCycle s values environment line → LeavesRunner s values environment new.runner
      → PutsFront accepted (s.waiting.items ++ line) now new.waiting.items
      → new ≡ record s {
        runner = new.runner;
        cycle = new.cycle;
        values = new.values;
        waiting = new.waiting;
      }
      → new.cycle ≡ s.cycle + 1
      → HasRunCycles (taken ++ values ∷ []) before now new
  cycle_more line new now runs leaves put is next =
      let been = ran.run runs.started in
      let r : Runner = new.runner in
      subst (HasRunCycles (taken ++ values ∷ []) before now) (sym is) (record {
        trace = ran.trace ++ environment ∷ [];
        same_count = length-append ran.trace (environment ∷ [])
            ∙ ap (λ n. n + 1) ran.same_count
            ∙ sym (length-append taken (values ∷ []));
        run = λ _. record {
          run = run_more (flat_of s) runs.made.admitted s.reader.said.start taken ran.trace
              (values_in s.runner) environment values (values_in r) been.run runs.settled
              leaves.next;
          in_order = subst
              (λ o. HaveRunInOrder (flat_of s) o s.reader.said.start (taken ++ values ∷ [])
              (ran.trace ++ environment ∷ []) (values_in r) (rounds_in r)) (sym leaves.order)
              (in_order_more (flat_of s) s.reader.said.start taken ran.trace (values_in s.runner)
              environment (values_in r) values (order_in s.runner) (rounds_in s.runner)
              (rounds_in r) s.cycle number_is been.in_order leaves.counted leaves.ticked);
        };
        none = λ unstarted. absurd (false≢true (sym unstarted ∙ runs.started));
        cycle = next ∙ ap (λ n. n + 1) ran.cycle ∙ sym (length-append taken (values ∷ []));
        few = subst (λ n. IfSome (rounds_in r) (λ rounds. rounds ≤ n * 4294967295))
            (ap (λ n. n + 1) ran.cycle ∙ sym (length-append taken (values ∷ [])))
            (few_more (flat_of s) (order_in s.runner) (rounds_in s.runner) (rounds_in r) s.cycle
            values (values_in s.runner) environment leaves.counted
            (subst (λ n. IfSome (rounds_in s.runner) (λ rounds. rounds ≤ n * 4294967295))
            (sym ran.cycle) ran.few));
        lines = subst (λ text. PutsFront before text now new.waiting.items)
            (sym (lines_are line runs.line_is))
            (put_more (lines_of (flat_of s) s.level ran.trace) accepted s.waiting.items before
            ran.lines line now new.waiting.items put);
      })

  traced : (line : List ℕ) → RunsCycle s values environment line
      → IsTrace (flat_system (flat_of s))
      (given (registers (flat_of s)) s.reader.said.start)
      (map (given (inputs (flat_of s))) (taken ++ values ∷ [])) (ran.trace ++ environment ∷ [])
  traced line runs =
      run_traces (flat_of s) runs.made.admitted s.reader.said.start taken ran.trace
      (values_in s.runner) environment values (ran.run runs.started).run runs.settled

  -- or a front of its line was
  pub cycle_refused : (line now : List ℕ) → RunsCycle s values environment line
      → WritesFront accepted (s.waiting.items ++ line) now
      → WritesRun (flat_of s) s.level s.reader.said.start (taken ++ values ∷ []) before now
  cycle_refused line now runs wrote = record {
    trace = ran.trace ++ environment ∷ [];
    traces = traced line runs;
    front = subst (λ text. WritesFront before text now) (sym (lines_are line runs.line_is))
        (front_more (lines_of (flat_of s) s.level ran.trace) accepted s.waiting.items before
        ran.lines line now wrote);
  }

  -- or nothing of it
  pub cycle_full : (line : List ℕ) → RunsCycle s values environment line
      → WritesRun (flat_of s) s.level s.reader.said.start (taken ++ values ∷ []) before accepted
  cycle_full line runs =
      record {
        trace = ran.trace ++ environment ∷ [];
        traces = traced line runs;
        front = subst (λ text. WritesFront before text accepted)
            (sym (lines_are line runs.line_is))
            (front_held (lines_of (flat_of s) s.level ran.trace) accepted s.waiting.items before
            ran.lines line);
      }

-- ---- the start

-- the registers have their starting values, and nothing was run
pub started_now : (s new : Simulation) (r : Runner) (taken : List (List ℕ))
    (before accepted : List ℕ)
    → new ≡ record s { runner = r; is_started = true } → s.is_started ≡ false
    → order_in r ≡ order_in s.runner → rounds_in r ≡ rounds_in s.runner
    → map (values_in r) (registers (flat_of s))
    ≡ map (given (registers (flat_of s)) s.reader.said.start) (registers (flat_of s))
    → IfSome (order_in r) (λ _. (k : ℕ) → values_in r k ≡
    starting (flat_of s) (given (registers (flat_of s)) s.reader.said.start) k)
    → HasRunCycles taken before accepted s → HasRunCycles taken before accepted new
started_now s new r taken before accepted is unstarted order rounds registers_are started ran =
    let none = ran.none unstarted in
    let no_trace = no_environments ran.trace taken ran.same_count none in
    let few : IfSome (rounds_in r) (λ n. n ≤ length taken * 4294967295) =
    subst (λ o. IfSome o (λ n. n ≤ length taken * 4294967295)) (sym rounds) ran.few in
    let in_order = subst
    (λ (cs : List (List ℕ)). HaveRunInOrder (flat_of s) (order_in r) s.reader.said.start cs []
    (values_in r) (rounds_in r)) (sym (no_cycles_taken taken none))
    (none_in_order (flat_of s) s.reader.said.start r started
    (none_yet (rounds_in r) (length taken) none few)) in
    let run : HaveRun (flat_of s) s.reader.said.start taken [] (values_in r) =
    subst
    (λ (cs : List (List ℕ)). HaveRun (flat_of s) s.reader.said.start cs [] (values_in r))
    (sym (no_cycles_taken taken none))
    (record { is_trace = tt; registers_are = registers_are }) in
    subst (HasRunCycles taken before accepted) (sym is) (record {
      trace = ran.trace;
      same_count = ran.same_count;
      run = λ _. subst
          (λ (es : List (Environment ℕ)). HaveBeenRun taken es (record s {
            runner = r;
            is_started = true;
          }))
          (sym no_trace) (record { run = run; in_order = in_order });
      none = λ _. none;
      cycle = ran.cycle;
      few = few;
      lines = ran.lines;
    })
  where
    none_yet : (o : Option ℕ) (n : ℕ) → n ≡ 0 → IfSome o (λ k. k ≤ n * 4294967295)
        → IfSome o (λ k. k ≡ 0)
    none_yet None n none few = tt
    none_yet (Some k) n none few =
        let zero_now : k ≤ 0 * 4294967295 = subst (λ m. k ≤ m * 4294967295) none few in
        omega arith

-- ---- more that is read

-- what was run is not touched by what is read
pub read_more : (s new : Simulation) (taken : List (List ℕ)) (before accepted : List ℕ)
    → new ≡ record s { reader = new.reader }
    → (s.is_started ≡ true → new.reader.said.start ≡ s.reader.said.start)
    → HasRunCycles taken before accepted s → HasRunCycles taken before accepted new
read_more s new taken before accepted is same ran =
    subst (HasRunCycles taken before accepted) (sym is) (record {
      trace = ran.trace;
      same_count = ran.same_count;
      run = λ started.
          let been = ran.run started in
          let start = sym (same started) in
          record {
            run = subst (λ values. HaveRun (flat_of s) values taken ran.trace (values_in s.runner))
                start been.run;
            in_order = subst
                (λ values. HaveRunInOrder (flat_of s) (order_in s.runner) values taken ran.trace
                (values_in s.runner) (rounds_in s.runner)) start been.in_order;
          };
      none = ran.none;
      cycle = ran.cycle;
      few = ran.few;
      lines = ran.lines;
    })

-- ---- room

-- a cycle that was read is one of those that have room
pub cycle_room : (s : Simulation) (room : HasRoom s) → 0 < length s.reader.said.cycles
    → s.cycle ≤ 1073741825
cycle_room s room some =
    omega (
      arith,
      room.cycle,
      room.few,
      ap length room.has.lines.cycles,
      length-append room.taken s.reader.said.cycles,
      cycles_count room.read.right,
    )

pub begun_room : (s : Simulation) (room : HasRoom s) → 0 < length s.reader.said.cycles
    → s.reader.said.begun ≡ true
begun_room s room some =
    begun_if s.reader.form room.read.right room.taken s.reader.said room.has.lines some

-- ---- faults

-- what was run of what was read, with a front of its lines
pub failed_run : (s : Simulation) (read : LinesRead) (taken : List (List ℕ)) (reader : Reading)
    (before now : List ℕ) → HasRead read taken reader → reader.form ≡ s.reader.form
    → WritesRun (flat_of s) s.level reader.said.start taken before now
    → HasFailed read before now s
failed_run s read taken reader before now has form wrote = record {
  taken = taken;
  rest = reader.said.cycles;
  cycles = sym has.lines.cycles;
  trace = wrote.trace;
  run = subst
      (λ values. IsTrace (flat_system (flat_of s)) (given (registers (flat_of s)) values)
      (map (given (inputs (flat_of s))) taken) wrote.trace)
      (has.lines.start ∙ ap (λ f. start_of f read.right) form) wrote.traces;
  front = wrote.front;
}

module _ (read : LinesRead) (before accepted : List ℕ) (old s : Simulation)
    (failed : HasFailed read before accepted s) where
  -- the lines of these cycles, of a design at a level
  abbrev Fails : Flat → Option Point → StimForm → Type 0
  Fails design level form =
      let flat = design_of design in
      IsTrace (flat_system flat) (given (registers flat) (start_of form read.right))
      (map (given (inputs flat)) failed.taken) failed.trace
      × WritesFront before (lines_of flat level failed.trace) accepted

  -- it is said of the simulation before, which has the same design, level and form
  pub failed_same : IsSameAs old s → HasFailed read before accepted old
  failed_same same =
      let all : Fails s.design.now s.level s.reader.form = (failed.run, failed.front) in
      let by_design = subst (λ d. Fails d s.level s.reader.form) same.design all in
      let by_level = subst (λ l. Fails old.design.now l s.reader.form) same.level by_design in
      let by_form = subst (λ f. Fails old.design.now old.level f) same.form by_level in
      record {
        taken = failed.taken;
        rest = failed.rest;
        cycles = failed.cycles;
        trace = failed.trace;
        run = by_form.0;
        front = by_form.1;
      }

pub same_again : (s : Simulation) → IsSameAs s s
same_again s = record { design = refl; level = refl; order = refl; form = refl }

pub same_then : (a b c : Simulation) → IsSameAs a b → IsSameAs b c → IsSameAs a c
same_then a b c first second = record {
  design = second.design ∙ first.design;
  level = second.level ∙ first.level;
  order = second.order ∙ first.order;
  form = second.form ∙ first.form;
}

-- these cycles have this trace from the start of what was read
abbrev Traces : Simulation → LinesRead → List (List ℕ) → List (Environment ℕ) → Type 0
Traces s read cycles trace =
    IsTrace (flat_system (flat_of s))
    (given (registers (flat_of s)) (start_of s.reader.form read.right))
    (map (given (inputs (flat_of s))) cycles) trace

-- what was run has its trace, begun or not
ran_traces : (s : Simulation) (read : LinesRead) (taken : List (List ℕ))
    (before accepted : List ℕ) → HasRead read taken s.reader
    → (ran : HasRunCycles taken before accepted s) → (b : Bool) → s.is_started ≡ b
    → Traces s read taken ran.trace
ran_traces s read taken before accepted has ran true is =
    subst
    (λ values. IsTrace (flat_system (flat_of s)) (given (registers (flat_of s)) values)
    (map (given (inputs (flat_of s))) taken) ran.trace)
    has.lines.start (ran.run is).run.is_trace
ran_traces s read taken before accepted has ran false is =
    let none = ran.none is in
    subst (λ cycles. Traces s read cycles ran.trace) (sym (no_cycles_taken taken none))
    (subst (λ trace. Traces s read [] trace)
    (sym (no_environments ran.trace taken ran.same_count none)) tt)

-- what was run, with a front of what is put of its lines
pub failed_now : (s : Simulation) (read : LinesRead) (taken : List (List ℕ))
    (before accepted now : List ℕ) → HasRead read taken s.reader
    → (ran : HasRunCycles taken before accepted s)
    → WritesFront before (lines_of (flat_of s) s.level ran.trace) now
    → HasFailed read before now s
failed_now s read taken before accepted now has ran wrote = record {
  taken = taken;
  rest = s.reader.said.cycles;
  cycles = sym has.lines.cycles;
  trace = ran.trace;
  run = ran_traces s read taken before accepted has ran s.is_started refl;
  front = wrote;
}

-- ---- the simulation that a call leaves

-- with another reader of the same form that has begun if it had
pub made_reader : (s new : Simulation) → IsSimulating s
    → new ≡ record s { reader = new.reader }
    → new.reader.form ≡ s.reader.form
    → (s.reader.said.begun ≡ true → new.reader.said.begun ≡ true)
    → IsSimulating new
made_reader s new made is form begun =
    let reader : Reading = new.reader in
    subst IsSimulating (sym is) (record {
      admitted = made.admitted;
      runner = made.runner;
      orders = made.orders;
      form = form ∙ made.form;
      level = made.level;
      room = made.room;
      begun = λ started. begun (made.begun started);
    })
