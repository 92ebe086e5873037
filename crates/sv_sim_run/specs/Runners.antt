-- Private: how the code goes. What runs the cycles of a design. What is written stands in
-- Simulated.antt.
use Rattle.std.specs.Prelude.{◌≡◌, ℕ, ◌+◌, ◌%◌, ◌^◌, ◌<◌, IsTrue, List, reverse, Option}
use Rattle.std.specs.Prelude.{Some, None, Contains}
use Rattle.std.specs.List.{range_with_len}
use Rattle.sv_system.specs.System.{Environment}
use Rattle.sv_design.specs.Designs.{IsDesign}
use Rattle.sv_flat.specs.declared.designs.Flat.{Flat}
use Rattle.sv_flat.specs.ByNumber.{by_number}
use Rattle.sv_flat.specs.Design.{FlatDesign}
use Rattle.sv_flat.specs.Schedules.{IsRoundCount, after_rounds, clocked_count, with_inputs}
use Rattle.sv_flat.specs.SignalLists.{system_signals, inputs}
use Rattle.sv_flat.specs.Views.{design_of}
use Rattle.sv_flat.specs.Given.{given}
use Rattle.sv_sim_run.specs.declared.runners.Drawn.{Drawn}
use Rattle.sv_sim_run.specs.declared.runners.Runner.{Runner}
use Rattle.sv_sim_run.specs.declared.runners.Runner.TheVariants as runner

abbrev pub design_in : Runner → Flat
design_in (runner.Plain sim) = sim.design
design_in (runner.Drawn run) = run.event.design

-- the values of all signals by their numbers
abbrev pub values_in : Runner → Environment ℕ
values_in (runner.Plain sim) = by_number sim.values
values_in (runner.Drawn run) = by_number run.event.values

abbrev pub order_in : Runner → Option ℕ
order_in (runner.Plain sim) = None
order_in (runner.Drawn run) = Some run.number

-- the rounds so far, where there is an order
abbrev pub rounds_in : Runner → Option ℕ
rounds_in (runner.Plain sim) = None
rounds_in (runner.Drawn run) = Some run.rounds

-- the two lists are the orders of the clocked processes
pub record AreTickOrders (design : FlatDesign) (run : Drawn) : Type 0 where
  pub up : run.ascending.items ≡ range_with_len 0 (clocked_count design)
  pub down : run.descending.items ≡ reverse (range_with_len 0 (clocked_count design))

-- the clocks, and what is no signal, have the value 0
abbrev pub OthersAreZero : FlatDesign → Environment ℕ → Type 0
OthersAreZero design environment =
    (s : ℕ) → (Contains (system_signals design) s → ⊥) → environment s ≡ 0

-- what holds of every design that runs in drawn orders
pub record IsDrawn (run : Drawn) : Type 0 where
  pub admitted : IsDesign (design_of run.event.design)
  pub orders : AreTickOrders (design_of run.event.design) run
  pub others : OthersAreZero (design_of run.event.design) (by_number run.event.values)

-- what holds of every runner
abbrev pub IsRunner : Runner → Type 0
IsRunner (runner.Plain sim) = Unit {0}
IsRunner (runner.Drawn run) = IsDrawn run

-- a plain runner is settled, so that its values can be read
abbrev pub IsReady : Runner → Type 0
IsReady (runner.Plain sim) = IsTrue sim.is_settled
IsReady (runner.Drawn run) = Unit {0}

-- the environment with the inputs given by a list
abbrev pub with_values : FlatDesign → (values : List ℕ) → Environment ℕ → Environment ℕ
with_values design values environment =
    with_inputs design (given (inputs design) values) environment

-- so many rounds of a cycle were run, by the cycle's order number
pub record RunsRounds (design : FlatDesign) (number cycle : ℕ) (values : List ℕ)
    (old new : Environment ℕ) (count : ℕ) : Type 0 where
  pub counted : IsRoundCount design ((number + cycle) % 2 ^ 64) (with_values design values old)
      count
  pub left : new ≡ after_rounds design ((number + cycle) % 2 ^ 64) count
      (with_values design values old)

-- what a runner does in a cycle beside settling: the rounds of an ordered run
abbrev pub CountsRounds : FlatDesign → (order : Option ℕ) → (cycle : ℕ) → (values : List ℕ) →
    (old new : Environment ℕ) → (before after : Option ℕ) → Type 0
CountsRounds design (Some number) cycle values old new (Some before) (Some after) =
    (count : ℕ) × RunsRounds design number cycle values old new count
    × (after ≡ before + count) × (count < 2 ^ 32)
CountsRounds design order cycle values old new before after = before ≡ after
