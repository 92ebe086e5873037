-- Draws, rounds and ordered runs by computation.
use Rattle.std.proofs.Common.{◌≡◌, ℕ, true, false, List, [], ◌∷◌, refl}
use Rattle.std.specs.Prelude.{◌%◌, codes, map, slice_index}
use Rattle.std.specs.List.{range_with_len}
use Rattle.sv_system.specs.System.{Environment}
use Rattle.sv_flat.specs.declared.signals.SigKind.TheVariants.{TopInput, OutputReg}
use Rattle.sv_flat.specs.Design.{clocked, FlatDesign}
use Rattle.sv_flat.specs.Schedules.{next_state, drawn, round, after_schedule, after_rounds}
use Rattle.sv_flat.specs.Schedules.{is_quiet, IsRoundCount, is_order, after_tick, tick_order}
use Rattle.sv_flat.specs.Schedules.{starting, with_inputs, OrderedRun}
use Rattle.sv_flat.proofs.Forms.{at, declares, later, named, process, over_two_points}
use Rattle.sv_flat.proofs.Forms.{inverters, one_is_enough, two_are_enough}

-- a, y, p and q
abbrev values : Environment ℕ → List ℕ
values e = map e (range_with_len 0 4)

-- the first draw from 10 and from 11 is 1 modulo 3, so the process of q runs last
pub first_draw : drawn (next_state 10) % 3 ≡ 1
first_draw = refl

pub first_draw_of_next_cycle : drawn (next_state 11) % 3 ≡ 1
first_draw_of_next_cycle = refl

pub q_runs_last : slice_index (round 3 10).order 2 ≡ 1
q_runs_last = refl

-- the runs of p, q and y in this order settle all
pub in_order : values
    (after_schedule inverters (2 ∷ 1 ∷ 0 ∷ []) (with_inputs inverters (λ s. 1) (λ s. 0))) ≡
    1 ∷ 0 ∷ 0 ∷ 1 ∷ []
in_order = refl

-- the rounds under a number leave all quiet, with these values
abbrev Settles : (number rounds : ℕ) → Environment ℕ → List ℕ → Type 0
Settles number rounds e settled =
    (is_quiet inverters (after_rounds inverters number rounds e) ≡ true)
    × (values (after_rounds inverters number rounds e) ≡ settled)

-- cycle 0 takes one round under the number 10
abbrev begun : Environment ℕ
begun = with_inputs inverters (λ s. 0) (starting inverters (λ s. 0))

pub not_quiet_before : is_quiet inverters begun ≡ false
not_quiet_before = refl

pub one_round : Settles 10 1 begun (0 ∷ 1 ∷ 1 ∷ 0 ∷ [])
one_round = (refl, refl)

-- cycle 1 goes on from there with a = 1, and takes two
abbrev next : Environment ℕ
next = with_inputs inverters (λ s. 1) (after_rounds inverters 10 1 begun)

pub not_quiet_after_one : is_quiet inverters (after_rounds inverters 11 1 next) ≡ false
not_quiet_after_one = refl

pub two_rounds : Settles 11 2 next (1 ∷ 0 ∷ 0 ∷ 1 ∷ [])
two_rounds = (refl, refl)

-- ---- the ordered run of both cycles

-- nothing is clocked, so the tick leaves what cycle 0 has settled
abbrev ticked : Environment ℕ
ticked = after_tick inverters (tick_order inverters 0) (after_rounds inverters 10 1 begun)

abbrev raised : Environment ℕ
raised = with_inputs inverters (λ s. 1) ticked

one_round_in_cycle_0 : IsRoundCount inverters 10 begun 1
one_round_in_cycle_0 = one_is_enough inverters 10 begun refl

two_rounds_in_cycle_1 : IsRoundCount inverters 11 raised 2
two_rounds_in_cycle_1 = two_are_enough inverters 11 raised refl refl

-- the inputs 0 and 1 under the order number 10 take 3 rounds
pub three_rounds : OrderedRun inverters 10 (λ s. 0) ((λ s. 0) ∷ (λ s. 1) ∷ [])
    (after_rounds inverters 10 1 begun ∷ after_rounds inverters 11 2 raised ∷ []) 3
three_rounds = record {
  counts = 1 ∷ 2 ∷ [];
  runs = (one_round_in_cycle_0, λ s. refl, (two_rounds_in_cycle_1, λ s. refl, tt));
  summed = refl;
}

pub no_rounds_without_cycles : OrderedRun inverters 10 (λ s. 0) [] [] 0
no_rounds_without_cycles = record { counts = []; runs = tt; summed = refl }

-- ---- ticks

-- module m(input c, output reg p, output reg q); always @(posedge c) p <= q; always @(posedge c) q
-- <= p; endmodule
abbrev exchange : FlatDesign
exchange = over_two_points
    (declares (codes "c") 1 TopInput (at 1 16) ∷ declares (codes "p") 1 OutputReg (at 1 30)
    ∷ declares (codes "q") 1 OutputReg (at 1 44) ∷ [])
    (process (clocked 0) (at 1 48) (later 1 (at 1 68) (named 2 (at 1 73)))
    ∷ process (clocked 0) (at 1 76) (later 2 (at 1 96) (named 1 (at 1 101)))
    ∷ [])

pub even_order : tick_order exchange 2 ≡ 0 ∷ 1 ∷ []
even_order = refl

pub odd_order : tick_order exchange 3 ≡ 1 ∷ 0 ∷ []
odd_order = refl

pub both_are_orders : map (is_order exchange) (tick_order exchange 2 ∷ tick_order exchange 3 ∷ []) ≡
    true ∷ true ∷ []
both_are_orders = refl

-- one twice, one left out, one too many, and a number that no clocked process has
pub no_orders :
    map (is_order exchange) ((0 ∷ 0 ∷ []) ∷ (1 ∷ []) ∷ (1 ∷ 0 ∷ 1 ∷ []) ∷ (2 ∷ 0 ∷ 1 ∷ []) ∷ [])
    ≡ false ∷ false ∷ false ∷ false ∷ []
no_orders = refl

-- c, p and q: the registers exchange their values by either order
abbrev ticks_to : (order : List ℕ) → List ℕ
ticks_to order = map (after_tick exchange order (slice_index (0 ∷ 1 ∷ 0 ∷ []))) (range_with_len 0 3)

pub exchanged : ticks_to (0 ∷ 1 ∷ []) ≡ 0 ∷ 0 ∷ 1 ∷ []
exchanged = refl

pub exchanged_in_reverse : ticks_to (1 ∷ 0 ∷ []) ≡ 0 ∷ 0 ∷ 1 ∷ []
exchanged_in_reverse = refl
