-- What schedules of places make of two joined systems, and when an environment of one is settled
-- where one of the other is.
use Rattle.std.specs.Prelude.{◌≡◌, ℕ, ◌↔◌, IsTrue, List, Contains}
use Rattle.sv_system.specs.System.{System, Environment, Settled}
use Rattle.sv_system.specs.Joining.{Agree}
use Rattle.sv_system.specs.Schedules.{after_runs, runs_at}

-- runs of the processes at some places, one after the other, lead from environments that agree to
-- such
abbrev pub SchedulesAgree : {Signal Point Other OtherPoint : Type 0}
    → (first : System Signal Point) (second : System Other OtherPoint)
    → (to : Signal → Other) → Type 0
SchedulesAgree {Signal} {Point} {Other} first second to =
    (places : List ℕ) (e : Environment Signal) (f : Environment Other)
    → Agree first second to e f
    → Agree first second to (after_runs (runs_at first places) e)
    (after_runs (runs_at second places) f)

-- Where registers, inputs and all signals have the same values under both names, the environment of
-- the one system is settled for its registers and inputs exactly where that of the other is.
abbrev pub SettledAlike : {Signal Point Other OtherPoint : Type 0}
    → (first : System Signal Point) (second : System Other OtherPoint)
    → (to : Signal → Other) → Type 0
SettledAlike {Signal} {Point} {Other} first second to =
    (state inputs e : Environment Signal) (other_state other_inputs f : Environment Other)
    → ((s : Signal) → IsTrue (first.is_register s) → state s ≡ other_state (to s))
    → ((s : Signal) → IsTrue (first.is_input s) → inputs s ≡ other_inputs (to s))
    → ((s : Signal) → Contains first.signals s → e s ≡ f (to s))
    → Settled first state inputs e ↔ Settled second other_state other_inputs f
