-- Clauses of small designs are met exactly where the obligation is falsified, by computation over
-- all values of the registers and inputs that hang in.
use Rattle.std.proofs.Common.{◌≡◌, ℕ, zero, suc, Bool, true, false, List, [], ◌∷◌, refl}
use Rattle.std.specs.Prelude.{◌-◌, ◌&&◌, not, if◌then◌else◌, map, flat_map, length, drop}
use Rattle.std.specs.Prelude.{fold, unwrap_or}
use Rattle.std.specs.Bool.{beq}
use Rattle.std.specs.List.{list_all, list_any, zip}
use Rattle.sv_system.specs.System.{Environment}
use Rattle.sv_flat.specs.Design.{FlatDesign}
use Rattle.sv_flat.specs.FlatSystem.{flat_system}
use Rattle.sv_gates.specs.Formulas.{meets, value_of}
use Rattle.sv_gates.specs.NormalForms.{put, ascending, with_clause}
use Rattle.sv_obl.specs.declared.frames.Frame.{Frame}
use Rattle.sv_obl.specs.declared.frames.Frame.TheVariants.{Now, Next}
use Rattle.sv_obl.specs.Paths.{StepForm}
use Rattle.sv_obl.specs.PathValues.{is_true_in}
use Rattle.sv_obl.specs.Obligations.{GoalForm, flow, holds, selector, Obligation}
use Rattle.sv_obl.specs.Validity.{Valuation, goal_frame}
use Rattle.sv_encoding.specs.Encoding.{BitPlace, encoding}
use Rattle.sv_encoding.specs.Valuations.{decoded}
use Rattle.sv_encoding.proofs.DesignForms.{name, numbered}
use Rattle.sv_encoding.proofs.Carrying.{given_for, carried}
use Rattle.sv_encoding.proofs.WorkedExamples.{turns, owned, wired, by_two, mended, cased}
use Rattle.sv_encoding.proofs.WorkedExamples.{followed_signals, held_bit, asks}

-- ---- what falsifies

-- the environment that registers and inputs settle to: as many rounds as there are processes
abbrev settled_from : FlatDesign → (rounds : List (Environment ℕ → Environment ℕ)) →
    Environment ℕ → Environment ℕ
settled_from design [] environment = environment
settled_from design (run ∷ runs) environment =
    settled_from design runs
    (fold (λ e process. process e) environment (flat_system design).processes)

abbrev settled_of : FlatDesign → (registers inputs : Environment ℕ) → Environment ℕ
settled_of design registers inputs =
    let system = flat_system design in
    settled_from design system.processes (λ s.
    if system.is_register s then registers s
    else if system.is_input s then inputs s else 0)

abbrev flows_out : FlatDesign → (reads : List ℕ) → (now there : Environment ℕ) → ℕ → Bool
flows_out design reads now there s =
    let system = flat_system design in
    list_any (λ t. not (system.flows (system.label t now) (system.label s there))) reads

abbrev goal_fails : FlatDesign → (reads : List ℕ) → (now there : Environment ℕ) → GoalForm → Bool
goal_fails design reads now there (flow target frame) = flows_out design reads now there target
goal_fails design reads now there (holds e frame) = not (is_true_in design.signals there e)
goal_fails design reads now there (selector s) = flows_out design reads now there s

abbrev in_frame : Frame → (now next : Environment ℕ) → Environment ℕ
in_frame Now now next = now
in_frame Next now next = next

abbrev falsifies : FlatDesign → Valuation → Obligation → Bool
falsifies design v o =
    let now = settled_of design v.registers v.inputs in
    let next = settled_of design ((flat_system design).next now) v.next_inputs in
    list_all (is_true_in design.signals now) o.facts
    && list_all (λ (step : StepForm).
    beq (is_true_in design.signals now step.condition) step.truth) o.path
    && goal_fails design o.reads now (in_frame (goal_frame o.goal) now next) o.goal

-- ---- what meets the clauses

abbrev all_bits : (count : ℕ) → List (List Bool)
all_bits zero = [] ∷ []
all_bits (suc count) = flat_map (λ bits. (false ∷ bits) ∷ (true ∷ bits) ∷ []) (all_bits count)

-- for all values of the bits that have places, they are carried on to values that meet the clauses
-- exactly where what they spell falsifies the obligation
abbrev says : FlatDesign → Obligation → Bool
says design o =
    let made = encoding design o in
    list_all (λ bits.
    let given = zip (map (λ (place : BitPlace). place.variable) made.bits) bits in
    let v = decoded design made.bits (λ n. unwrap_or (given_for given n) false) in
    let values = carried (drop 1 made.clauses) given (true ∷ []) (made.variables - 1) in
    beq (meets (value_of values) made.clauses) (falsifies design v o))
    (all_bits (length made.bits))

abbrev all_say : FlatDesign → (k : ℕ) → Bool
all_say design k = list_all (says design) (numbered design k)

-- ---- designs

pub of_owners : all_say turns 1 && all_say turns 2 && all_say owned 2 && all_say owned 3 ≡ true
unfolding put ascending with_clause
of_owners = refl

pub of_wires :
    all_say wired 3 && all_say wired 4 && all_say by_two 1 && all_say by_two 2
    && all_say mended 1 && all_say mended 2 ≡ true
unfolding put ascending with_clause
of_wires = refl

pub of_bodies :
    all_say cased 1 && all_say cased 2 && all_say cased 3 && all_say followed_signals 1 ≡ true
unfolding put ascending with_clause
of_bodies = refl

-- with a fact, and an expression that has to hold in this cycle or in the next one
pub of_holds :
    says held_bit (asks (name 1 1) Now) && says held_bit (asks (name 2 1) Next)
    && says held_bit (asks (name 1 1) Next) && says held_bit (asks (name 2 1) Now) ≡ true
unfolding put ascending with_clause
of_holds = refl
