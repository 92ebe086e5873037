-- When two states of a run are the same (IEEE 1364-2005, clause 9.2), of a statement by names and
-- of its flat form by numbers: values and pending updates.
use Rattle.std.specs.Prelude.{◌≡◌, ℕ, ◌^◌, ◌<◌, Bool, List, map, Contains, Some, IsTrue}
use Rattle.sv_system.specs.System.{Environment}
use Rattle.sv_ast.specs.Scopes.{Scope, signal, width_of}
use Rattle.sv_ast.specs.Instances.{is_signal}
use Rattle.sv_ast.specs.Runs.{Running}
use Rattle.sv_flat.specs.Runs.{Updates}
use Rattle.sv_elab_rules.specs.Names.{Names}
use Rattle.sv_width.specs.Agreement.{HaveValues}

-- each signal's value fits its length
abbrev pub ValuesFit : Scope → (environment : Environment (List ℕ)) → Type 0
ValuesFit scope environment = (n : List ℕ) (width : ℕ) (signed : Bool)
    → scope n ≡ Some (signal width signed) → environment n < 2 ^ width

-- a signal gets a value that fits its length
abbrev pub IsUpdate : Scope → List ℕ × ℕ → Type 0
IsUpdate scope u = IsTrue (is_signal (scope u.0)) × (u.1 < 2 ^ width_of (scope u.0))

-- an update by the signal's number
abbrev pub by_number : Names → List ℕ × ℕ → ℕ × ℕ
by_number names u = (names.number u.0, u.1)

pub record AreSame (names : Names) (flat : Environment ℕ × Updates) (source : Running)
    : Type 0 where
  pub values : HaveValues names source.environment flat.0
  pub updates : flat.1 ≡ map (by_number names) source.updates
  pub fits : ValuesFit names.scope source.environment
  pub updates_fit : (u : List ℕ × ℕ) → Contains source.updates u → IsUpdate names.scope u
