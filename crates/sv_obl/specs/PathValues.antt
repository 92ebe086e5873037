-- When a path is taken.
use Rattle.std.specs.Prelude.{◌≡◌, ℕ, Bool, List, All, Contains}
use Rattle.sv_num.specs.Vectors.{is_true}
use Rattle.sv_system.specs.System.{Environment}
use Rattle.sv_flat.specs.Design.{SignalForm, TypedTree, FlatStatement, ProcessKind}
use Rattle.sv_flat.specs.Values.{value}
use Rattle.sv_obl.specs.Paths.{StepForm, Path, paths}

-- the expression is not 0 in the environment
abbrev pub is_true_in : List SignalForm → Environment ℕ → TypedTree → Bool
is_true_in signals environment e = is_true (value signals environment e)

-- each condition has its truth in the environment
abbrev pub Holds : List SignalForm → Environment ℕ → List StepForm → Type 0
Holds signals environment steps =
    All (λ (step : StepForm). is_true_in signals environment step.condition ≡ step.truth) steps

-- of all paths of the target through a process, this one alone is taken in the environment
pub record IsTaken (signals : List SignalForm) (environment : Environment ℕ) (target : ℕ)
    (kind : ProcessKind) (body : FlatStatement) (path : Path) : Type 0 where
  pub among : Contains (paths signals target kind body) path
  pub holds : Holds signals environment path.steps
  pub alone : (other : Path) → Contains (paths signals target kind body) other →
      Holds signals environment other.steps → other ≡ path
