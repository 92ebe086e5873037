-- Private: how the code goes. The inputs of the top module that clocks lead up to.
use Rattle.std.specs.Prelude.{◌≡◌, ◌<◌, ℕ, Bool, ◌==◌, ◌&&◌, ◌||◌, not, List, length, Option, Some}
use Rattle.std.specs.Prelude.{None, false, IsTrue, IsFalse, Contains}
use Rattle.std.specs.List.{list_any, range_with_len}
use Rattle.sv_flat.specs.Clocks.{links_in, lists_pair, is_clock, origins}
use Rattle.sv_flat.specs.Design.{FlatDesign}
use Rattle.sv_flat.specs.Processes.{is_top_input}
use Rattle.sv_graph.specs.declared.graphs.Graph.{Graph}
use Rattle.sv_graph.specs.Graphs.{size, has_edge, IsWhole}
use Rattle.sv_graph.specs.Marks.{is_marked}

-- the graph leads from each input port to the whole names that are linked to it
pub record AreOrigins (design : FlatDesign) (origins : Graph) : Type 0 where
  pub over : size origins ≡ length design.signals
  pub edges : (a b : ℕ) → has_edge origins a b ≡ lists_pair (links_in design) a b
  pub whole : IsWhole origins

-- the graph leads from each whole name to the input ports that it is linked to
pub record AreSinks (design : FlatDesign) (sinks : Graph) : Type 0 where
  pub over : size sinks ≡ length design.signals
  pub edges : (a b : ℕ) → b < length design.signals →
      has_edge sinks a b ≡ lists_pair (links_in design) b a

-- the signal leads up to one that passes a test
abbrev pub leads_to : FlatDesign → (test : ℕ → Bool) → ℕ → Bool
leads_to design test s = list_any test (origins design s)

-- it leads up to an input of the top module
abbrev pub is_led : FlatDesign → ℕ → Bool
is_led design s = leads_to design (is_top_input design) s

-- a signal that may be there is this one
abbrev pub is_one : Option ℕ → ℕ → Bool
is_one None t = false
is_one (Some s) t = s == t

-- an input of the top module, one of them left out
abbrev pub is_other_top : FlatDesign → Option ℕ → ℕ → Bool
is_other_top design left_out t = is_top_input design t && not (is_one left_out t)

-- the first clock that leads up to an input of the top module
pub record IsFirstLed (design : FlatDesign) (clock : ℕ) : Type 0 where
  pub among : IsTrue (is_clock design clock)
  pub leads : IsTrue (is_led design clock)
  pub before : (s : ℕ) → s < clock → IsTrue (is_clock design s) → IsFalse (is_led design s)

-- an input of the top module that the first such clock leads up to, or there is no such clock
abbrev pub IsLeadingTop : FlatDesign → Option ℕ → Type 0
IsLeadingTop design None =
    (s : ℕ) → IsTrue (is_clock design s) → IsFalse (is_led design s)
IsLeadingTop design (Some top) =
    IsTrue (is_top_input design top)
    × ((clock : ℕ) × IsFirstLed design clock × Contains (origins design clock) top)

-- ---- tables

-- both tables have the signal
abbrev pub both_have : (first second : List Bool) → ℕ → Bool
both_have first second s = is_marked first s && is_marked second s

pub record IsFirstOfBoth (first second : List Bool) (s : ℕ) : Type 0 where
  pub within : s < length first
  pub has : IsTrue (both_have first second s)
  pub before : (t : ℕ) → t < s → IsFalse (both_have first second t)

-- the first signal that both tables have, or they have none
abbrev pub FindsFirstOfBoth : (first second : List Bool) → Option ℕ → Type 0
FindsFirstOfBoth first second None =
    (s : ℕ) → s < length first → IsFalse (both_have first second s)
FindsFirstOfBoth first second (Some s) = IsFirstOfBoth first second s

-- some number below s passes the test
abbrev pub some_before : (test : ℕ → Bool) → ℕ → Bool
some_before test s = list_any test (range_with_len 0 s)

-- By tables of the clocks, of the signals that lead up to an input of the top module, and of those
-- that lead up to another one than the first such clock: a signal does not agree with the clocks
-- before it where it and one of them lead up to an input, and it or one of them to another one.
abbrev pub agrees_by : (clocks led astray : List Bool) → ℕ → Bool
agrees_by clocks led astray s =
    not (is_marked led s && some_before (both_have clocks led) s
    && (is_marked astray s || some_before (both_have clocks astray) s))
