-- What names stand for inside one instance, as the walk has it: also with the numbers of signals
-- (IEEE 1364-2005, clauses 3.7 and 12.7; the numbers, and what is in reach where, are this
-- project's profile).
use Rattle.std.specs.Prelude.{ℕ, ◌+◌, Bool, true, false, ◌||◌, List, [], ◌∷◌, Option, Some, None}
use Rattle.std.specs.Prelude.{if◌then◌else◌}
use Rattle.std.specs.List.{list_any}
use Rattle.std.specs.Str.{bytes_eq}
use Rattle.sv_ast.specs.Scopes.{Scope, Binding, parameter, signal}
use Rattle.sv_ast.specs.Tree.{ItemTree, declared, ModuleTree}
use Rattle.sv_ast.specs.Instances.{entry, all_items, is_signal}

-- what a name stands for, the number of the signal of a name, and whether a declaration that is
-- still to come makes the name a signal
pub record Names : Type 0 where
  pub scope : Scope
  pub number : List ℕ → ℕ
  pub later : List ℕ → Bool

-- whether the name stands for something
abbrev pub is_bound : Option Binding → Bool
is_bound (Some binding) = true
is_bound None = false

abbrev pub is_parameter : Option Binding → Bool
is_parameter (Some (parameter n)) = true
is_parameter (Some (signal width signed)) = false
is_parameter None = false

-- whether the name stands for a signal or a parameter in reach, or will stand for a signal
abbrev pub in_reach : Names → List ℕ → Bool
in_reach names n = is_bound (names.scope n) || names.later n

-- whether a signal is meant: in reach, or declared later where the name stands for nothing yet
abbrev pub means_signal : Names → List ℕ → Bool
means_signal names n = if is_bound (names.scope n) then is_signal (names.scope n) else names.later n

-- the number of a signal, where the signals of the list have the numbers from `next` on; 0 for a
-- name that is no signal
abbrev pub number_from : (next : ℕ) → List (List ℕ × Binding) → List ℕ → ℕ
number_from next [] n = 0
number_from next ((m, parameter v) ∷ bindings) n = number_from next bindings n
number_from next ((m, signal width signed) ∷ bindings) n =
    if bytes_eq n m then next else number_from (next + 1) bindings n

-- the names of an instance whose declarations are all made; its first signal has the number `base`
abbrev pub names_of : (base : ℕ) → List (List ℕ × Binding) → Names
names_of base bindings =
    record { scope = entry bindings; number = number_from base bindings; later = λ n. false }

-- whether the item declares a signal of that name
abbrev pub item_declares : List ℕ → ItemTree → Bool
item_declares n (declared d) = bytes_eq n d.name
item_declares n _ = false

-- the names at a declaration of a module: those before it are in reach, and the module's other
-- signals come later
abbrev pub names_at : (base : ℕ) → ModuleTree → (earlier : List (List ℕ × Binding)) → Names
names_at base m earlier = record {
  scope = entry earlier;
  number = number_from base earlier;
  later = λ n. list_any (item_declares n) (all_items m);
}
