-- The cycle meaning of a synchronous design, said once for every kind of signal name: a path in a
-- source text, a number in a flat design. A system knows of a process only that it changes an
-- environment, and of a signal that it has a value and a label.
use Rattle.std.specs.Prelude.{◌≡◌, ℕ, ◌<◌, ◌^◌, Bool, true, ◌&&◌, IsTrue, cond, List, [], ◌∷◌, map}
use Rattle.std.specs.Prelude.{filter, take, length, All}

-- what gives each signal a value
abbrev pub Environment : Type 0 → Type 0
Environment Signal = Signal → ℕ

-- what one run of a process does to an environment
abbrev pub Run : Type 0 → Type 0
Run Signal = Environment Signal → Environment Signal

-- the environment with one signal changed
abbrev pub put : {Signal : Type 0} → (Signal → Signal → Bool) → Signal → ℕ → Environment Signal →
    Environment Signal
put same target value environment = λ s. cond (same target s) value (environment s)

-- the value of a signal's last update, or the old value where there is none; the oldest update
-- stands first
abbrev pub last_update : {Signal : Type 0} → (Signal → Signal → Bool) → Signal → (old : ℕ) →
    List (Signal × ℕ) → ℕ
last_update same s old [] = old
last_update same s old (u ∷ us) = last_update same s (cond (same u.0 s) u.1 old) us

pub record System (Signal Point : Type 0) : Type 0 where
  -- the signals in order, clocks left out
  pub signals : List Signal
  -- which signals are inputs of the top module
  pub is_input : Signal → Bool
  -- which signals are registers
  pub is_register : Signal → Bool
  -- in bits
  pub width : Signal → ℕ
  -- one run of each combinational process, in order, as a change of an environment
  pub processes : List (Run Signal)
  -- each register's value after the clock edge
  pub next : Environment Signal → Environment Signal
  -- a signal's label in an environment
  pub label : Signal → Environment Signal → Point
  -- whether what has the first label may go where the second stands
  pub flows : Point → Point → Bool

-- each value has its signal's width
abbrev pub Fits : {Signal Point : Type 0} → System Signal Point → Environment Signal → Type 0
Fits system environment = All (λ s. environment s < 2 ^ system.width s) system.signals

-- no run of a combinational process changes the environment (IEEE 1364-2005, clause 11: no event is
-- left before time goes on)
abbrev pub IsStill : {Signal Point : Type 0} → System Signal Point → Environment Signal → Type 0
IsStill {Signal} system environment =
    All (λ run. (s : Signal) → run environment s ≡ environment s) system.processes

-- the environment has the state's registers and the inputs, and is at rest
pub record Settled {Signal Point : Type 0} (system : System Signal Point)
    (state inputs environment : Environment Signal) : Type 0 where
  pub registers : (s : Signal) → IsTrue (system.is_register s) → environment s ≡ state s
  pub inputs_are : (s : Signal) → IsTrue (system.is_input s) → environment s ≡ inputs s
  pub fits : Fits system environment
  pub still : IsStill system environment

-- one settled environment for each cycle's inputs: the first for the starting registers, each later
-- one for what the clock edge makes of the one before
abbrev pub IsTrace : {Signal Point : Type 0} → System Signal Point → Environment Signal →
    List (Environment Signal) → List (Environment Signal) → Type 0
IsTrace system start [] [] = Unit {0}
IsTrace system start (inputs ∷ more) (environment ∷ environments) =
    Settled system start inputs environment
    × IsTrace system (system.next environment) more environments
IsTrace system start [] (environment ∷ environments) = ⊥
IsTrace system start (inputs ∷ more) [] = ⊥

-- the signals of one kind that a level sees in an environment, in signal order, each with its value
abbrev pub seen : {Signal Point : Type 0} → (Signal → Bool) → System Signal Point → Point →
    Environment Signal → List (Signal × ℕ)
seen kind system level environment =
    map (λ s. (s, environment s))
    (filter (λ s. kind s && system.flows (system.label s environment) level) system.signals)

-- all that a level sees in one cycle (SecVerilog's observer): the signals whose label flows to it,
-- each with its value
abbrev pub view : {Signal Point : Type 0} → System Signal Point → Point → Environment Signal →
    List (Signal × ℕ)
view system level environment = seen (λ s. true) system level environment

-- two traces that agree on what a level may know: the registers at the start, and the inputs in
-- every cycle
pub record LookAlike {Signal Point : Type 0} (system : System Signal Point) (level : Point)
    (first second : List (Environment Signal)) : Type 0 where
  pub lengths : length first ≡ length second
  pub registers : map (seen system.is_register system level) (take 1 first) ≡
      map (seen system.is_register system level) (take 1 second)
  pub inputs : map (seen system.is_input system level) first ≡
      map (seen system.is_input system level) second

-- any two traces that look alike to a level have equal views for it at every cycle
abbrev pub Noninterferent : {Signal Point : Type 0} → System Signal Point → Type 0
Noninterferent {Signal} {Point} system =
    (level : Point) (start1 start2 : Environment Signal)
    (inputs1 inputs2 first second : List (Environment Signal))
    → IsTrace system start1 inputs1 first → IsTrace system start2 inputs2 second
    → LookAlike system level first second
    → map (view system level) first ≡ map (view system level) second

-- two environments agree on the signals of the system
abbrev pub SameSignals : {Signal Point : Type 0} → System Signal Point → Environment Signal →
    Environment Signal → Type 0
SameSignals system first second = All (λ s. first s ≡ second s) system.signals

-- two lists of environments agree, one by one, on the signals of the system
abbrev pub SameTraces : {Signal Point : Type 0} → System Signal Point → List (Environment Signal) →
    List (Environment Signal) → Type 0
SameTraces system [] [] = Unit {0}
SameTraces system (e ∷ es) (f ∷ fs) = SameSignals system e f × SameTraces system es fs
SameTraces system [] (f ∷ fs) = ⊥
SameTraces system (e ∷ es) [] = ⊥

-- each signal of one kind has a value of its width
abbrev pub KindFits : {Signal Point : Type 0} → (Signal → Bool) → System Signal Point →
    Environment Signal → Type 0
KindFits kind system environment =
    All (λ s. IsTrue (kind s) → environment s < 2 ^ system.width s) system.signals

-- each start and each list of inputs, all of them fitting, has exactly one trace
abbrev pub HasOneTrace : {Signal Point : Type 0} → System Signal Point → Type 0
HasOneTrace {Signal} system =
    (start : Environment Signal) (inputs : List (Environment Signal))
    → KindFits system.is_register system start → All (KindFits system.is_input system) inputs
    → (trace : List (Environment Signal)) × IsTrace system start inputs trace
    × ((other : List (Environment Signal)) → IsTrace system start inputs other →
    SameTraces system trace other)
