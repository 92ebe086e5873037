-- The cones of an obligation: the signals whose values in this cycle, and in the next one, it hangs
-- on (this project's profile).
use Rattle.std.specs.Prelude.{ℕ, Bool, ◌&&◌, List, [], ◌∷◌, ◌++◌, length, map, filter, flat_map}
use Rattle.std.specs.List.{list_any}
use Rattle.sv_flat.specs.Design.{TypedTree, FlatDesign}
use Rattle.sv_flat.specs.Values.{signal_of}
use Rattle.sv_flat.specs.Readings.{names_signal}
use Rattle.sv_flat.specs.Processes.{is_register, signals_that}
use Rattle.sv_flat.specs.Reads.{is_combinational, is_read_for, reads_for}
use Rattle.sv_flat.specs.Sets.{least_set}
use Rattle.sv_flat.specs.Selectors.{selectors_of}
use Rattle.sv_obl.specs.declared.frames.Frame.TheVariants.{Now, Next}
use Rattle.sv_obl.specs.Paths.{StepForm}
use Rattle.sv_obl.specs.Obligations.{GoalForm, flow, holds, selector, Obligation}

-- the selectors of a signal's label
abbrev pub label_selectors : FlatDesign → ℕ → List ℕ
label_selectors design s = selectors_of (signal_of design.signals s).label

-- the signals that are named in some of the expressions; of a value that was put in for a name,
-- those that are named in the value
abbrev pub named_in : FlatDesign → List TypedTree → List ℕ
named_in design es =
    signals_that design (λ s. list_any (λ e. names_signal design.signals e s) es)

-- a combinational signal brings along what is read for it
abbrev pub brings_reads : FlatDesign → (signal s : ℕ) → Bool
brings_reads design signal s = is_combinational design signal && is_read_for design signal s

-- these signals, what is read for each combinational one among them, and so on
abbrev pub with_reads : FlatDesign → List ℕ → List ℕ
with_reads design signals = least_set (length design.signals) (brings_reads design) signals

-- ---- the next cycle

-- the selectors of a register target's label; the signals of an expression that is to hold in the
-- next cycle
abbrev pub asked_next : FlatDesign → GoalForm → List ℕ
asked_next design (flow target Next) = label_selectors design target
asked_next design (flow target Now) = []
asked_next design (holds e Next) = named_in design (e ∷ [])
asked_next design (holds e Now) = []
asked_next design (selector s) = []

abbrev pub next_cone : FlatDesign → Obligation → List ℕ
next_cone design o = with_reads design (asked_next design o.goal)

-- ---- this cycle

-- the selectors of a combinational target's label, or of the label that a selector selects; the
-- signals of an expression that is to hold in this cycle
abbrev pub asked_now : FlatDesign → GoalForm → List ℕ
asked_now design (flow target Next) = []
asked_now design (flow target Now) = label_selectors design target
asked_now design (holds e Next) = []
asked_now design (holds e Now) = named_in design (e ∷ [])
asked_now design (selector s) = label_selectors design s

-- the facts and conditions
abbrev pub conditions_of : Obligation → List TypedTree
conditions_of o = o.facts ++ map (λ (step : StepForm). step.condition) o.path

-- the registers of a cone, in signal order
abbrev pub registers_in : FlatDesign → (cone : List ℕ) → List ℕ
registers_in design cone = filter (is_register design) cone

-- what is read for the registers of the next cone stands in this one, since it gives them their
-- values
abbrev pub now_cone : FlatDesign → Obligation → List ℕ
now_cone design o =
    with_reads design
    (named_in design (conditions_of o)
    ++ flat_map (label_selectors design) o.reads
    ++ asked_now design o.goal
    ++ flat_map (reads_for design) (registers_in design (next_cone design o)))
