-- Private: how the code goes. The signals that some expressions name, lists of numbers below that
-- of the signals, and where the cone of this cycle begins.
use Rattle.std.specs.Prelude.{ℕ, ◌<◌, Bool, List, [], ◌++◌, flat_map, Contains}
use Rattle.std.specs.List.{list_any}
use Rattle.sv_flat.specs.Design.{TypedTree, FlatDesign}
use Rattle.sv_flat.specs.Readings.{names_signal}
use Rattle.sv_flat.specs.Reads.{reads_for}
use Rattle.sv_obl.specs.Obligations.{Obligation}
use Rattle.sv_encoding.specs.Cones.{label_selectors, named_in, asked_now, conditions_of}
use Rattle.sv_encoding.specs.Cones.{registers_in, next_cone}

-- some of the expressions names the signal, which does not hang on the signals' widths
abbrev pub is_named_in : List TypedTree → ℕ → Bool
is_named_in es s = list_any (λ e. names_signal [] e s) es

-- all of them are below n
abbrev pub AreBelow : (n : ℕ) → List ℕ → Type 0
AreBelow n ss = (s : ℕ) → Contains ss s → s < n

-- where the cone of this cycle begins
abbrev pub starts_now : FlatDesign → Obligation → List ℕ
starts_now design o =
    named_in design (conditions_of o)
    ++ flat_map (label_selectors design) o.reads
    ++ asked_now design o.goal
    ++ flat_map (reads_for design) (registers_in design (next_cone design o))
