-- When a list of signals and an environment are those of some names.
use Rattle.std.specs.Prelude.{◌≡◌, ℕ, ◌≤◌, Bool, false, List, Some, IsTrue}
use Rattle.sv_system.specs.System.{Environment}
use Rattle.sv_ast.specs.Scopes.{Scope, Binding, signal, width_of}
use Rattle.sv_ast.specs.Tree.{ExpressionTree, ExpressionTrees, literal, named, bit_of, part_of}
use Rattle.sv_ast.specs.Tree.{unary, binary, choice, join, replication, no_expressions}
use Rattle.sv_ast.specs.Tree.{more_expressions}
use Rattle.sv_flat.specs.Design.{SignalForm}
use Rattle.sv_flat.specs.Values.{signal_width}
use Rattle.sv_flat.specs.Soundness.{is_signal}
use Rattle.sv_elab_rules.specs.Names.{Names}

-- all declarations are made
abbrev pub AllDeclared : Names → Type 0
AllDeclared names = (n : List ℕ) → names.later n ≡ false

-- the signal that a name stands for has its number in the list, with its length
abbrev pub HaveSignals : Names → List SignalForm → Type 0
HaveSignals names signals =
    (n : List ℕ) (width : ℕ) (signed : Bool) → names.scope n ≡ Some (signal width signed)
    → IsTrue (is_signal signals (names.number n)) × (signal_width signals (names.number n) ≡ width)

-- the signal that a name stands for has the same value by its name and by its number
abbrev pub HaveValues : Names → (by_name : Environment (List ℕ)) → (by_number : Environment ℕ)
    → Type 0
HaveValues names by_name by_number =
    (n : List ℕ) (width : ℕ) (signed : Bool) → names.scope n ≡ Some (signal width signed)
    → by_number (names.number n) ≡ by_name n

-- a length of 1 to 64 bits
abbrev pub IsLength : ℕ → Type 0
IsLength n = (1 ≤ n) × (n ≤ 64)

-- what names stand for has such a length
abbrev pub HaveLengths : Scope → Type 0
HaveLengths scope = (n : List ℕ) (b : Binding) → scope n ≡ Some b → IsLength (width_of (Some b))

abbrev mutual
  -- each number in the expression has such a length
  pub NumbersHaveLengths : ExpressionTree → Type 0
  NumbersHaveLengths (literal l p) = IsLength l.width
  NumbersHaveLengths (named n p) = Unit {0}
  NumbersHaveLengths (bit_of n p i) = NumbersHaveLengths i
  NumbersHaveLengths (part_of n p h l) = NumbersHaveLengths h × NumbersHaveLengths l
  NumbersHaveLengths (unary op p e) = NumbersHaveLengths e
  NumbersHaveLengths (binary op p a b) = NumbersHaveLengths a × NumbersHaveLengths b
  NumbersHaveLengths (choice p c a b) =
      NumbersHaveLengths c × NumbersHaveLengths a × NumbersHaveLengths b
  NumbersHaveLengths (join p es) = PartsHaveLengths es
  NumbersHaveLengths (replication p k es) = NumbersHaveLengths k × PartsHaveLengths es

  pub PartsHaveLengths : ExpressionTrees → Type 0
  PartsHaveLengths no_expressions = Unit {0}
  PartsHaveLengths (more_expressions e es) = NumbersHaveLengths e × PartsHaveLengths es
