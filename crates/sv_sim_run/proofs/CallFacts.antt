-- What the calls that a simulation makes leave of it.
use Rattle.std.proofs.Common.{◌≡◌, ℕ, ◌+◌, ◌*◌, ◌^◌, ◌≤◌, true, List, [], ◌++◌}
use Rattle.std.proofs.Common.{sym, ap, subst, ◌∙◌, arith, Option, Some, None}
use Rattle.std.specs.Prelude.{Result, Ok, Err, OnOk, OnErr, IfSome, vec_len}
use Rattle.sv_system.specs.System.{Settled}
use Rattle.sv_flat.specs.declared.designs.Flat.{Flat}
use Rattle.sv_flat.specs.FlatSystem.{flat_system}
use Rattle.sv_flat.specs.Schedules.{after_tick, tick_order}
use Rattle.sv_flat.specs.SignalLists.{inputs}
use Rattle.sv_flat.specs.Views.{design_of}
use Rattle.sv_flat.specs.Given.{given}
use Rattle.sv_trace.specs.Forms.{StimForm}
use Rattle.sv_trace.specs.Stimulus.{LinesRead}
use Rattle.sv_trace.specs.Traces.{trace_line}
use Rattle.sv_sim_run.specs.declared.runners.Runner.{Runner}
use Rattle.sv_sim_run.specs.declared.simulations.Simulation.{Simulation}
use Rattle.sv_sim_run.specs.Progress.{flat_of, IsSimulating, IsSameAs, HasRunCycles, HasRoom}
use Rattle.sv_sim_run.specs.Progress.{HasFailed}
use Rattle.sv_sim_run.specs.Runners.{CountsRounds, design_in, values_in, order_in, rounds_in}
use Rattle.sv_sim_run.specs.Runners.{IsRunner}
use Rattle.sv_sim_run.specs.Runs.{PutsFront, lines_of}
use Rattle.sv_sim_run.proofs.CycleFacts.{few_more}
use Rattle.sv_sim_run.proofs.LineFacts.{put_rest}
use Rattle.sv_sim_run.proofs.ProgressFacts.{RunsCycle, LeavesRunner, failed_same}

-- ---- results

pub on_error : {T E P : Type 0} (r : Result T E) → P → OnErr r P
on_error (Ok value) fact = tt
on_error (Err fault) fact = fact

pub both_ok : {T E P Q R : Type 0} (r : Result T E) → (P → Q → R) → OnOk r P → OnOk r Q → OnOk r R
both_ok (Ok value) follows first second = follows first second
both_ok (Err fault) follows first second = tt

-- ---- a cycle

module _ (s : Simulation) (made : IsSimulating s) (values : List ℕ) (r : Runner) where
  abbrev there : Flat
  there = design_in s.runner

  -- the runner is settled
  pub runs_of : (line : List ℕ) → s.is_started ≡ true
      → Settled (flat_system (design_of there)) (values_in s.runner)
      (given (inputs (design_of there)) values) (values_in r)
      → line ≡ trace_line (flat_of s) s.cycle s.level (values_in r)
      → RunsCycle s values (values_in r) line
  runs_of line started settled is = record {
    made = made;
    started = started;
    settled = subst
        (λ (d : Flat). Settled (flat_system (design_of d)) (values_in s.runner)
        (given (inputs (design_of d)) values) (values_in r)) made.runner settled;
    line_is = is;
  }

  -- and then ticked
  pub leaves_of : (new : Runner) → design_in r ≡ there → order_in r ≡ order_in s.runner
      → CountsRounds (design_of there) (order_in s.runner) s.cycle values (values_in s.runner)
      (values_in r) (rounds_in s.runner) (rounds_in r)
      → values_in new ≡ (flat_system (design_of (design_in r))).next (values_in r)
      → order_in new ≡ order_in r → rounds_in new ≡ rounds_in r
      → IfSome (order_in r) (λ _. values_in new ≡
      after_tick (design_of (design_in r)) (tick_order (design_of (design_in r)) s.cycle)
      (values_in r))
      → LeavesRunner s values (values_in r) new
  leaves_of new design order counted next order_then rounds ticked =
      let same : design_in r ≡ s.design.now = design ∙ made.runner in
      record {
        order = order_then ∙ order;
        next = subst
            (λ (d : Flat). values_in new ≡ (flat_system (design_of d)).next (values_in r))
            same next;
        counted = subst
            (λ o. CountsRounds (flat_of s) (order_in s.runner) s.cycle values
            (values_in s.runner) (values_in r) (rounds_in s.runner) o) (sym rounds)
            (subst
            (λ (d : Flat). CountsRounds (design_of d) (order_in s.runner) s.cycle values
            (values_in s.runner) (values_in r) (rounds_in s.runner) (rounds_in r))
            made.runner counted);
        ticked = subst
            (λ o. IfSome o (λ _. values_in new ≡
            after_tick (flat_of s) (tick_order (flat_of s) s.cycle) (values_in r))) order
            (subst
            (λ (d : Flat). IfSome (order_in r) (λ _. values_in new ≡
            after_tick (design_of d) (tick_order (design_of d) s.cycle) (values_in r)))
            same ticked);
      }

  pub leaves_few : (new : Runner)
      → CountsRounds (design_of there) (order_in s.runner) s.cycle values (values_in s.runner)
      (values_in r) (rounds_in s.runner) (rounds_in r)
      → rounds_in new ≡ rounds_in r
      → IfSome (rounds_in s.runner) (λ n. n ≤ s.cycle * 4294967295)
      → IfSome (rounds_in new) (λ n. n ≤ (s.cycle + 1) * 4294967295)
  leaves_few new counted rounds few =
      subst (λ o. IfSome o (λ n. n ≤ (s.cycle + 1) * 4294967295)) (sym rounds)
      (few_more (design_of there) (order_in s.runner) (rounds_in s.runner) (rounds_in r) s.cycle
      values (values_in s.runner) (values_in r) counted few)

-- ---- the simulation

pub made_runner : (s new : Simulation) → IsSimulating s
    → new ≡ record s {
      runner = new.runner;
      cycle = new.cycle;
      values = new.values;
      waiting = new.waiting;
    }
    → design_in new.runner ≡ design_in s.runner → IsRunner new.runner
    → vec_len new.values ≡ vec_len s.values → IsSimulating new
made_runner s new made is design orders room =
    subst IsSimulating (sym is) (record {
      admitted = made.admitted;
      runner = design ∙ made.runner;
      orders = orders;
      form = made.form;
      level = made.level;
      room = room ∙ made.room;
      begun = made.begun;
    })

-- what waits was put, and nothing was read
pub made_put : (s new : Simulation) → IsSimulating s
    → new ≡ record s { reader = new.reader; waiting = new.waiting }
    → new.reader ≡ s.reader → IsSimulating new
made_put s new made is reader =
    subst IsSimulating
    (sym (is ∙ ap (λ r. let x : Simulation = record s { reader = r; waiting = new.waiting } in x)
    reader))
    (record {
      admitted = made.admitted;
      runner = made.runner;
      orders = made.orders;
      form = made.form;
      level = made.level;
      room = made.room;
      begun = made.begun;
    })

pub room_started : (s new : Simulation)
    → new ≡ record s { runner = new.runner; is_started = new.is_started }
    → rounds_in new.runner ≡ rounds_in s.runner → HasRoom s → HasRoom new
room_started s new is rounds room =
    subst HasRoom (sym is) (record {
      read = room.read;
      taken = room.taken;
      has = room.has;
      few = room.few;
      cycle = room.cycle;
      rounds = subst (λ o. IfSome o (λ n. n ≤ s.cycle * 4294967295)) (sym rounds) room.rounds;
    })

pub same_started : (s new : Simulation)
    → new ≡ record s { runner = new.runner; is_started = new.is_started }
    → order_in new.runner ≡ order_in s.runner → IsSameAs s new
same_started s new is order = record {
  design = ap (λ (x : Simulation). x.design.now) is;
  level = ap (λ (x : Simulation). x.level) is;
  order = order;
  form = ap (λ (x : Simulation). x.reader.form) is;
}

pub same_reader : (s new : Simulation) → new ≡ record s { reader = new.reader }
    → new.reader.form ≡ s.reader.form → IsSameAs s new
same_reader s new is form = record {
  design = ap (λ (x : Simulation). x.design.now) is;
  level = ap (λ (x : Simulation). x.level) is;
  order = ap (λ (x : Simulation). order_in x.runner) is;
  form = form;
}

-- the rounds of one more cycle have room
pub rounds_room : (o : Option ℕ) (cycle : ℕ) → cycle ≤ 1073741825
    → IfSome o (λ n. n ≤ cycle * 4294967295) → IfSome o (λ n. n + 2 ^ 32 ≤ 2 ^ 64)
rounds_room None cycle low few = tt
rounds_room (Some n) cycle low few = omega (arith, few)

-- what waits was put, and what was read stays
pub put_all_of : (s new : Simulation) (taken : List (List ℕ)) (before accepted now : List ℕ)
    → HasRunCycles taken before accepted s → now ≡ accepted ++ s.waiting.items
    → new.waiting.items ≡ []
    → new ≡ record s { reader = new.reader; waiting = new.waiting }
    → new.reader ≡ s.reader
    → HasRunCycles taken before now new
put_all_of s new taken before accepted now ran whole none is reader =
    let all = put_rest _ _ _ _ ran.lines now whole in
    subst (HasRunCycles taken before now)
    (sym (is ∙ ap (λ r. let x : Simulation = record s { reader = r; waiting = new.waiting } in x)
    reader))
    (record {
      trace = ran.trace;
      same_count = ran.same_count;
      run = λ started. record {
        run = (ran.run started).run;
        in_order = (ran.run started).in_order;
      };
      none = ran.none;
      cycle = ran.cycle;
      few = ran.few;
      lines = subst (λ w. PutsFront before (lines_of (flat_of s) s.level ran.trace) now w)
          (sym none) all;
    })

-- a fault after a call of the reader is said of the simulation before
pub refused_by : (s new : Simulation) (read : StimForm → LinesRead) (before accepted : List ℕ)
    → new ≡ record s { reader = new.reader } → new.reader.form ≡ s.reader.form
    → HasFailed (read new.reader.form) before accepted new
    → HasFailed (read s.reader.form) before accepted s
refused_by s new read before accepted is form failed =
    subst (λ f. HasFailed (read f) before accepted s) form
    (failed_same (read new.reader.form) before accepted s new failed
    (same_reader s new is form))
