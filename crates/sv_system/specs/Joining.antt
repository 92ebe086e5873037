-- Two systems that do the same under other names of signals, as a flat design by numbers and its
-- source text by paths. What holds of the one then holds of the other.
use Rattle.std.specs.Prelude.{◌≡◌, ◌⊎◌, IsTrue, map, Contains}
use Rattle.std.specs.List.{AllZip}
use Rattle.sv_system.specs.System.{System, Environment, Run, Fits}

-- two environments, one of each system, that fit and give each signal the same value under both
-- names
pub record Agree {Signal Point Other OtherPoint : Type 0} (first : System Signal Point)
    (second : System Other OtherPoint)
    (to : Signal → Other) (e : Environment Signal) (f : Environment Other) : Type 0 where
  pub first_fits : Fits first e
  pub second_fits : Fits second f
  pub same : (s : Signal) → Contains first.signals s → e s ≡ f (to s)

-- a run changes no other names than the system's signals, so that these alone decide whether it
-- changes anything
abbrev pub StaysWithin : {Signal Point : Type 0} → System Signal Point → Run Signal → Type 0
StaysWithin {Signal} system run =
    (e : Environment Signal) (s : Signal) → (Contains system.signals s → ⊥) → run e s ≡ e s

-- a run of one system does what a run of the other does
pub record SameRun {Signal Point Other OtherPoint : Type 0} (first : System Signal Point)
    (second : System Other OtherPoint)
    (to : Signal → Other) (run : Run Signal) (other : Run Other) : Type 0 where
  -- from environments that agree to the same values
  pub same : (e : Environment Signal) (f : Environment Other) → Agree first second to e f
      → (s : Signal) → Contains first.signals s → run e s ≡ other f (to s)
  pub first_within : StaysWithin first run
  pub second_within : StaysWithin second other

-- no other names are inputs or registers
abbrev pub KindsWithin : {Signal Point : Type 0} → System Signal Point → Type 0
KindsWithin {Signal} system =
    (s : Signal) → IsTrue (system.is_input s) ⊎ IsTrue (system.is_register s) →
    Contains system.signals s

-- The signals of the second system are those of the first under other names, and both systems do
-- the same, process by process.
pub record Joined {Signal Point Other OtherPoint : Type 0} (first : System Signal Point)
    (second : System Other OtherPoint) : Type 0 where
  -- the other name of a signal, and the way back
  pub to : Signal → Other
  pub from : Other → Signal
  pub from_to : (s : Signal) → Contains first.signals s → from (to s) ≡ s
  -- the point of the first system that stands for one of the second
  pub level : OtherPoint → Point
  -- the same signals in the same order, of the same kinds and widths
  pub signals : second.signals ≡ map to first.signals
  pub inputs : (s : Signal) → Contains first.signals s → first.is_input s ≡ second.is_input (to s)
  pub registers : (s : Signal) → Contains first.signals s →
      first.is_register s ≡ second.is_register (to s)
  pub widths : (s : Signal) → Contains first.signals s → first.width s ≡ second.width (to s)
  pub first_kinds : KindsWithin first
  pub second_kinds : KindsWithin second
  -- as many processes in the same order, of which each does what that at its place in the other
  -- system does
  pub processes : AllZip (SameRun first second to) first.processes second.processes
  -- each register has the same value after the clock edge
  pub next : (e : Environment Signal) (f : Environment Other) → Agree first second to e f
      → (s : Signal) → IsTrue (first.is_register s) → first.next e s ≡ second.next f (to s)
  -- a level sees the same signals
  pub seen_alike : (point : OtherPoint) (e : Environment Signal) (f : Environment Other)
      → Agree first second to e f
      → (s : Signal) → Contains first.signals s
      → first.flows (first.label s e) (level point) ≡ second.flows (second.label (to s) f) point
