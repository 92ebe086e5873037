-- When the names of an instance belong to the signals of a flat design: each signal has a number of
-- its own there, with its length.
use Rattle.std.specs.Prelude.{◌≡◌, ℕ, ◌^◌, ◌<◌, ◌≤◌, Bool, List, Some, IsTrue}
use Rattle.sv_ast.specs.Scopes.{Number, parameter, signal}
use Rattle.sv_ast.specs.Instances.{is_signal}
use Rattle.sv_flat.specs.Design.{SignalForm}
use Rattle.sv_elab_rules.specs.Names.{Names}
use Rattle.sv_width.specs.Agreement.{AllDeclared, HaveSignals}

pub record IsNumbering (names : Names) (signals : List SignalForm) : Type 0 where
  pub declared : AllDeclared names
  pub listed : HaveSignals names signals
  -- two signals have two numbers
  pub apart : (n m : List ℕ)
      → IsTrue (is_signal (names.scope n)) → IsTrue (is_signal (names.scope m))
      → names.number n ≡ names.number m → n ≡ m
  -- a signal has a bit
  pub widths : (n : List ℕ) (width : ℕ) (signed : Bool)
      → names.scope n ≡ Some (signal width signed) → 1 ≤ width
  -- a parameter's value fits its length
  pub parameters : (n : List ℕ) (v : Number)
      → names.scope n ≡ Some (parameter v) → v.value < 2 ^ v.width
