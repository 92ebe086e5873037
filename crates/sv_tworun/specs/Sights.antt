-- Private: how the code goes. Words for the search for the first signal that tells two views apart.
-- What it means is said in Comparisons.antt.
use Rattle.std.specs.Prelude.{◌≡◌, ℕ, ◌<◌, Bool, cond, not, nat_eq, min, IsTrue, IsFalse}
use Rattle.std.specs.Prelude.{Option, Some, None, option_map, MatchOption}
use Rattle.std.specs.Option.{option_eq}
use Rattle.sv_system.specs.System.{System, Environment}
use Rattle.sv_lattice.specs.declared.points.Point.{Point}
use Rattle.sv_flat.specs.declared.signals.SigId.{SigId}
use Rattle.sv_tworun.specs.declared.compared.Compared.{Compared}
use Rattle.sv_tworun.specs.declared.compared.Compared.TheVariants.{InputsDiffer, ViewsDiffer}
use Rattle.sv_tworun.specs.Comparisons.{InputsApart, ViewsApart}

-- what the level sees of a signal: its value, if its label flows to the level
abbrev pub sight : System ℕ Point → (level : Point) → Environment ℕ → (signal : ℕ) → Option ℕ
sight system level e s = cond (system.flows (system.label s e) level) (Some (e s)) None

-- the level does not see the same of the signal in both environments
abbrev pub differs : System ℕ Point → (level : Point) → Environment ℕ → Environment ℕ →
    (signal : ℕ) → Bool
differs system level e f s =
    not (option_eq nat_eq (sight system level e s) (sight system level f s))

-- the first number below n that passes
pub record IsFirst (n : ℕ) (passes : ℕ → Bool) (s : ℕ) : Type 0 where
  pub below : s < n
  pub here : IsTrue (passes s)
  pub before : (t : ℕ) → t < s → IsFalse (passes t)

-- a search for the first number below n that passes has this answer
abbrev pub FindsFirst : ℕ → (passes : ℕ → Bool) → Option ℕ → Type 0
FindsFirst n passes answer =
    MatchOption answer ((t : ℕ) → t < n → IsFalse (passes t)) (IsFirst n passes)

-- the lower of two numbers, where both are there
abbrev pub lower_of : Option ℕ → Option ℕ → Option ℕ
lower_of None other = other
lower_of (Some a) None = Some a
lower_of (Some a) (Some b) = Some (min a b)

-- what a cycle shows, by the first signal that tells apart what is given, and the views
abbrev pub shown_by : (cycle : ℕ) → (given seen : Option SigId) → Option Compared
shown_by cycle (Some signal) seen = Some (InputsDiffer cycle signal)
shown_by cycle None seen = option_map (λ signal. ViewsDiffer cycle signal) seen

-- it is the difference that a cycle with these environments shows
abbrev pub IsDifference : System ℕ Point → (level : Point) → (cycle : ℕ) → Environment ℕ →
    Environment ℕ → Compared → Type 0
IsDifference system level cycle e f (InputsDiffer at signal) =
    (at ≡ cycle) × InputsApart system level cycle signal.0 e f
IsDifference system level cycle e f (ViewsDiffer at signal) =
    (at ≡ cycle) × ViewsApart system level cycle signal.0 e f
IsDifference system level cycle e f _ = ⊥
