-- What a scope knows of names, as the walk has it.
use Rattle.std.specs.Prelude.{◌≡◌, ℕ, Bool, false, List, [], ◌∷◌, ◌++◌, Option, Some, None}
use Rattle.std.specs.Prelude.{option_map, is_some, IsTrue}
use Rattle.std.specs.List.{list_any}
use Rattle.std.specs.Str.{bytes_eq}
use Rattle.sv_num.specs.declared.faults.Fault.{Fault}
use Rattle.sv_num.specs.declared.faults.Fault.TheVariants.{Rule, OutOfMemory}
use Rattle.sv_num.specs.declared.faults.Place.{Place}
use Rattle.sv_num.specs.declared.vectors.Bits.{Bits}
use Rattle.sv_num.specs.Vectors.{width_of, is_signed, value_of}
use Rattle.sv_ast.specs.Scopes.{Number, Binding, parameter, signal, Scope as Bindings}
use Rattle.sv_ast.specs.Instances.{entry}
use Rattle.sv_elab_rules.specs.Names.{Names}
use Rattle.sv_elab_rules.specs.Rules.{twice}
use Rattle.sv_width.specs.Answers.{step_of}
use Rattle.sv_flat.specs.declared.signals.SigId.{SigId}
use Rattle.sv_width.specs.declared.meanings.KnownSignal.{KnownSignal}
use Rattle.sv_width.specs.declared.meanings.Meaning.{Meaning}
use Rattle.sv_width.specs.declared.meanings.Meaning.TheVariants as meaning

-- what is known of names: what they mean, in the order of their declarations, and the names that
-- later declarations make signals
pub record Known : Type 0 where
  pub meanings : List (List ℕ × Meaning)
  pub announced : List (List ℕ)

-- a value at its length and signedness
abbrev pub number_of : Bits → Number
number_of bits = record { width = width_of bits; signed = is_signed bits; value = value_of bits }

abbrev pub binding_of : Meaning → Binding
binding_of (meaning.Param bits) = parameter (number_of bits)
binding_of (meaning.Signal s) = signal s.width s.signed

-- the number of a signal
abbrev pub signal_number : Option Meaning → ℕ
signal_number (Some (meaning.Signal s)) = s.signal.0
signal_number (Some (meaning.Param bits)) = 0
signal_number None = 0

-- what a name means
abbrev pub meaning_of : Known → List ℕ → Option Meaning
meaning_of known n = entry known.meanings n

-- what names stand for
abbrev pub bindings_of : Known → Bindings
bindings_of known n = option_map binding_of (meaning_of known n)

abbrev pub number_in : Known → List ℕ → ℕ
number_in known n = signal_number (meaning_of known n)

-- the names where all declarations are made
abbrev pub names_of : Known → Names
names_of known = record {
  scope = bindings_of known;
  number = number_in known;
  later = λ n. false;
}

-- the names at a declaration, where the announced ones come later
abbrev pub names_ahead : Known → Names
names_ahead known = record {
  scope = bindings_of known;
  number = number_in known;
  later = λ n. list_any (bytes_eq n) known.announced;
}

-- one more declaration, behind the others
abbrev pub with_meaning : Known → List ℕ → Meaning → Known
with_meaning known n m = record {
  meanings = known.meanings ++ (n, m) ∷ [];
  announced = known.announced;
}

-- one more signal, behind the other declarations
abbrev pub IsWithSignal : (old new : Known) → List ℕ → SigId → (width : ℕ) →
    (signed : Bool) → Type 0
IsWithSignal old new n id width signed =
    (s : KnownSignal) × (s.signal ≡ id) × (s.width ≡ width) × (s.signed ≡ signed)
    × (new ≡ with_meaning old n (meaning.Signal s))

-- the fault is want of memory, or refuses a name that stands for something already
abbrev pub IsTwice : Known → List ℕ → Place → Fault → Type 0
IsTwice known n place (Rule r) = (step_of r ≡ twice place n) × IsTrue (is_some (meaning_of known n))
IsTwice known n place OutOfMemory = Unit {0}
