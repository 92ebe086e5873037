-- Texts that `sim` writes of three inverters, by computation.
use Rattle.std.proofs.Common.{◌≡◌, ℕ, false, ◌^◌, ◌<◌, List, [], ◌∷◌}
use Rattle.std.proofs.Common.{Some, None, codes, refl}
use Rattle.std.specs.Prelude.{All, ◌==◌}
use Rattle.std.specs.Fmt.{digits}
use Rattle.std.proofs.lemmas.Bool.{eqb-true, eq-eqb, false≢true}
use Rattle.std.proofs.lemmas.List.Elements.{All-from_recursion}
use Rattle.sv_num.specs.declared.operators.UnOp.TheVariants as unop
use Rattle.sv_system.specs.System.{Environment, IsStill, Run, Settled, put}
use Rattle.sv_system.proofs.Runs.{put_same}
use Rattle.sv_flat.specs.declared.signals.SigKind.TheVariants.{TopInput, Output, Net}
use Rattle.sv_flat.specs.ByNumber.{by_number}
use Rattle.sv_flat.specs.Design.{TypedTree, typed, unary}
use Rattle.sv_flat.specs.Design.{continuous, FlatDesign}
use Rattle.sv_flat.specs.FlatSystem.{flat_system}
use Rattle.sv_flat.specs.Schedules.{IsRoundCount, after_rounds, after_tick, tick_order}
use Rattle.sv_flat.specs.Schedules.{starting, with_inputs}
use Rattle.sv_flat.specs.SignalLists.{system_signals, inputs, registers}
use Rattle.sv_flat.specs.Values.{signal_width}
use Rattle.sv_flat.proofs.Forms.{at, declares, sets, named, process}
use Rattle.sv_flat.proofs.Forms.{over_two_points, one_is_enough, two_are_enough}
use Rattle.sv_flat.specs.Given.{given}
use Rattle.sv_texts.specs.declared.stimuli.StimKind.TheVariants.{Value}
use Rattle.sv_trace.specs.Forms.{name_in}
use Rattle.sv_trace.specs.Stimulus.{LinesRead}
use Rattle.sv_sim_run.specs.declared.endings.Ending.TheVariants.{Done, WrongLine}
use Rattle.sv_sim_run.specs.Simulated.{read_of}
use Rattle.sv_sim_run.specs.Simulated.{AreRounds, IsSimulated}
use Rattle.sv_sim_run.specs.Traces.{form_in}
use Rattle.sv_sim_run.proofs.TextExamples.{fitting}

-- a signal of one bit, inverted
abbrev invert : (signal column : ℕ) → TypedTree
invert s c = typed 1 false (unary unop.Invert (named s (at 3 c)))

-- module m(input a, output y);
--   wire p, q;
--   assign y = ~q; assign q = ~p; assign p = ~a; endmodule
abbrev inverters : FlatDesign
inverters = over_two_points
    (declares (codes "a") 1 TopInput (at 1 16) ∷ declares (codes "y") 1 Output (at 1 26) ∷
    declares (codes "p") 1 Net (at 2 8) ∷ declares (codes "q") 1 Net (at 2 11) ∷ [])
    (process continuous (at 3 10) (sets 1 (at 3 10) (invert 3 15))
    ∷ process continuous (at 3 25) (sets 3 (at 3 25) (invert 2 30))
    ∷ process continuous (at 3 40) (sets 2 (at 3 40) (invert 0 45)) ∷ [])

-- a, y, p and q where a is 0, and where it is 1
abbrev lowered : Environment ℕ
lowered = by_number (0 ∷ 1 ∷ 1 ∷ 0 ∷ [])

abbrev raised : Environment ℕ
raised = by_number (1 ∷ 0 ∷ 0 ∷ 1 ∷ [])

-- a run that puts what its target has leaves all
stays : (target value : ℕ) (e : Environment ℕ) → value ≡ e target → (s : ℕ)
    → put ◌==◌ target value e s ≡ e s
stays target value e is s = put_same ◌==◌ eqb-true (λ n. eq-eqb n n refl) target s value e is

-- no signal is a register
settles : (state e : Environment ℕ) → All (λ s. e s < 2 ^ signal_width inverters.signals s)
    (system_signals inverters) → IsStill (flat_system inverters) e
    → Settled (flat_system inverters) state e e
settles state e fits still = record {
  registers = λ s is. absurd (false≢true is);
  inputs_are = λ s is. refl;
  fits = fits;
  still = still;
}

-- each of the three processes leaves its target
abbrev Stays : Environment ℕ → Run ℕ → Type 0
Stays e run = (s : ℕ) → run e s ≡ e s

lowered_settles : (state : Environment ℕ)
    → Settled (flat_system inverters) state lowered lowered
lowered_settles state =
    settles state lowered (fitting inverters lowered (system_signals inverters) refl)
    (All-from_recursion (Stays lowered) (flat_system inverters).processes
    (stays 1 1 lowered refl, (stays 3 0 lowered refl, (stays 2 1 lowered refl, tt))))

raised_settles : (state : Environment ℕ) → Settled (flat_system inverters) state raised raised
raised_settles state =
    settles state raised (fitting inverters raised (system_signals inverters) refl)
    (All-from_recursion (Stays raised) (flat_system inverters).processes
    (stays 1 0 raised refl, (stays 3 1 raised refl, (stays 2 0 raised refl, tt))))

-- cycle 0 takes one round under the number 10, and cycle 1 takes two
abbrev begun : Environment ℕ
begun = with_inputs inverters (given (inputs inverters) (0 ∷ []))
    (starting inverters (given (registers inverters) []))

abbrev went_on : Environment ℕ
went_on = with_inputs inverters (given (inputs inverters) (1 ∷ []))
    (after_tick inverters (tick_order inverters 0) (after_rounds inverters 10 1 begun))

one_round : IsRoundCount inverters 10 begun 1
one_round = one_is_enough inverters 10 begun refl

two_rounds : IsRoundCount inverters 11 went_on 2
two_rounds = two_are_enough inverters 11 went_on refl refl

-- what is read of these bytes
abbrev read_by : List ℕ → LinesRead
read_by bytes = read_of (form_in (name_in inverters.signals) (flat_system inverters)) bytes

-- so both take three
three_rounds : AreRounds inverters (Some 10) (read_by (codes "inputs a\n0\n1\n")) (Some 3)
three_rounds = (
  3,
  refl,
  record {
    environments = after_rounds inverters 10 1 begun ∷ after_rounds inverters 11 2 went_on ∷ [];
    runs = record {
      counts = 1 ∷ 2 ∷ [];
      runs = (one_round, λ s. refl, (two_rounds, λ s. refl, tt));
      summed = refl;
    };
  },
)

-- the worked text of three inverters in reverse textual order, under the order number 10
ordered_text : IsSimulated inverters None (Some 10) (codes "inputs a\n0\n1\n") Done
    (codes "0 a=0 y=1 p=1 q=0\n1 a=1 y=0 p=0 q=1\nrounds 3\n")
unfolding digits
ordered_text = (
  Some 3,
  record {
    read = read_by (codes "inputs a\n0\n1\n");
    is_read = refl;
    trace = lowered ∷ raised ∷ [];
    traces = record {
      state = lowered;
      inputs = lowered ∷ raised ∷ [];
      started = refl;
      given = refl;
      follows = (lowered_settles _, (raised_settles _, tt));
    };
    ended = refl;
    prints = refl;
  },
  three_rounds,
)

-- the worked text of them without a cycle: there are no rounds
no_cycle : IsSimulated inverters None (Some 7) (codes "inputs a\n") Done (codes "rounds 0\n")
unfolding digits
no_cycle = (
  Some 0,
  record {
    read = read_by (codes "inputs a\n");
    is_read = refl;
    trace = [];
    traces = record { state = lowered; inputs = []; started = refl; given = refl; follows = tt };
    ended = refl;
    prints = refl;
  },
  (
    0,
    refl,
    record {
      environments = [];
      runs = record { counts = []; runs = tt; summed = refl };
    },
  ),
)

-- the worked text of them with a wrong second cycle: the line of the first one stays, and what
-- follows is not read
wrong_second_cycle : IsSimulated inverters None None (codes "inputs a\n0\n2\n1\n")
    (WrongLine 3 Value) (codes "0 a=0 y=1 p=1 q=0\nrefused stimulus input 3 value\n")
unfolding digits
wrong_second_cycle = (
  None,
  record {
    read = read_by (codes "inputs a\n0\n2\n1\n");
    is_read = refl;
    trace = lowered ∷ [];
    traces = record {
      state = lowered;
      inputs = lowered ∷ [];
      started = refl;
      given = refl;
      follows = (lowered_settles _, tt);
    };
    ended = refl;
    prints = refl;
  },
  refl,
)
