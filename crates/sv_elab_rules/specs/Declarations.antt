-- The walk of an instance's parameters and declarations, in textual order: of each its range, its
-- value, its name, and the number of signals (IEEE 1364-2005, clauses 4.2, 4.3 for ranges, 4.10 and
-- 12.3).
use Rattle.std.specs.Prelude.{ℕ, ◌+◌, Bool, false, not, ◌||◌, nat_lt, List, [], ◌∷◌, ◌++◌, length}
use Rattle.std.specs.Prelude.{Option, Some, None, if◌then◌else◌, ℤ, pos, negsuc, ◌==◌, ◌&&◌, Ok}
use Rattle.std.specs.Prelude.{Err}
use Rattle.std.specs.List.{join_with_byte}
use Rattle.sv_lattice.specs.declared.labels.Label.TheVariants.{Point as Declared_point}
use Rattle.sv_ast.specs.declared.declarations.DeclKind.{DeclKind}
use Rattle.sv_ast.specs.declared.declarations.DeclKind.TheVariants.{Input, OutputWire, OutputReg}
use Rattle.sv_ast.specs.declared.declarations.DeclKind.TheVariants.{Wire, Reg}
use Rattle.sv_ast.specs.Scopes.{Number, Binding, parameter, signal}
use Rattle.sv_ast.specs.Tree.{ExpressionTree, SpanTree, DeclarationTree, ParameterTree, ItemTree}
use Rattle.sv_ast.specs.Tree.{parameter_item, declared, ModuleTree}
use Rattle.sv_ast.specs.Values.{whole_number}
use Rattle.sv_ast.specs.Instances.{entry, is_empty, span_width, in_range}
use Rattle.sv_ast.specs.GrammarModules.{place_of}
use Rattle.sv_flat.specs.declared.signals.SigKind.{SigKind}
use Rattle.sv_flat.specs.declared.signals.SigKind.TheVariants as kinds
use Rattle.sv_flat.specs.Design.{SignalForm}
use Rattle.sv_elab_rules.specs.Walks.{Walk, Steps, done, ask, ◌>>=◌}
use Rattle.sv_elab_rules.specs.Rules.{twice, too_many, bad_range}
use Rattle.sv_elab_rules.specs.Names.{Names, is_bound, names_at}
use Rattle.sv_elab_rules.specs.ExpressionSteps.{is_below, constant_walk}

-- an instance: the names of the instances down to it, the modules that it stands inside of with its
-- own, and what it sets
pub record Site : Type 0 where
  pub path : List (List ℕ)
  pub around : List (List ℕ)
  pub master : ModuleTree
  pub set : List (List ℕ × Number)

-- what an instance has declared so far
pub record Declared : Type 0 where
  pub bindings : List (List ℕ × Binding)
  pub signals : List SignalForm

-- a range is `[m:0]` with m below the limit
abbrev pub is_range : (limit : ℕ) → (high low : ℤ) → Bool
is_range limit high (pos low) = is_below limit high && low == 0
is_range limit high (negsuc low) = false

-- both bounds are constants
unfoldable pub range_steps : Names → Option SpanTree → Steps
range_steps names None = done tt
range_steps names (Some span) = do
  _ ← constant_walk names span.high
  _ ← constant_walk names span.low
  ask (is_range 64 (whole_number names.scope span.high) (whole_number names.scope span.low))
      (bad_range (place_of span.high))

-- what the instance sets a parameter to, if it does: neither a local one nor one whose name was
-- declared before
abbrev pub override_of : Site → (earlier : List (List ℕ × Binding)) → ParameterTree → Option Number
override_of site earlier p =
    if p.local || is_bound (entry earlier p.name) then None else entry site.set p.name

-- the final value of a parameter: what it is set to, or else its default
unfoldable pub final_walk : Names → Option Number → ExpressionTree → Walk Number
final_walk names (Some n) default = done n
final_walk names None default = constant_walk names default

unfoldable pub parameter_walk : (base : ℕ) → Site → Declared → ParameterTree → Walk Declared
parameter_walk base site so_far p =
    let names = names_at base site.master so_far.bindings in do
      _ ← range_steps names p.span
      final ← final_walk names (override_of site so_far.bindings p) p.value
      _ ← ask (not (is_bound (entry so_far.bindings p.name))) (twice p.place p.name)
      done (record {
        bindings = so_far.bindings
            ++ (p.name, parameter (in_range names.scope p.signed p.span final)) ∷ [];
        signals = so_far.signals;
      })

-- what a declaration makes of a signal
abbrev pub kind_of : (top : Bool) → DeclKind → SigKind
kind_of top Input = if top then kinds.TopInput else kinds.Input
kind_of top OutputWire = kinds.Output
kind_of top OutputReg = kinds.OutputReg
kind_of top Wire = kinds.Net
kind_of top Reg = kinds.Reg

-- the name of a signal from the top on: the names of the instances and its own, joined by `.`
abbrev pub full_name : Site → List ℕ → List ℕ
full_name site n = join_with_byte 46 (site.path ++ n ∷ [])

-- a signal with a point as its label
abbrev pub declared_signal : Site → (width point : ℕ) → DeclarationTree → SignalForm
declared_signal site width point d = record {
  name = full_name site d.name;
  width = width;
  signed = d.signed;
  kind = kind_of (is_empty site.path) d.kind;
  label = Declared_point (record { 0 = point });
  place = d.place;
}

-- a declared signal before the limit of signals is asked: its range, its name, and at first the least
-- point
unfoldable pub signal_ahead : (base least : ℕ) → Site → Declared → DeclarationTree → Walk Declared
signal_ahead base least site so_far d =
    let names = names_at base site.master so_far.bindings in
    let width = span_width names.scope d.span in do
      _ ← range_steps names d.span
      _ ← ask (not (is_bound (entry so_far.bindings d.name))) (twice d.place d.name)
      done (record {
        bindings = so_far.bindings ++ (d.name, signal width d.signed) ∷ [];
        signals = so_far.signals ++ declared_signal site width least d ∷ [];
      })

-- a declared signal; `base` signals stand before the instance
unfoldable pub signal_walk : (base least : ℕ) → Site → Declared → DeclarationTree → Walk Declared
signal_walk base least site so_far d = do
  next ← signal_ahead base least site so_far d
  _ ← ask (nat_lt (base + length so_far.signals) 4096) (too_many d.place)
  done next

unfoldable pub declaration_walk : (base least : ℕ) → Site → Declared → ItemTree → Walk Declared
declaration_walk base least site so_far (parameter_item p) = parameter_walk base site so_far p
declaration_walk base least site so_far (declared d) = signal_walk base least site so_far d
declaration_walk base least site so_far _ = done so_far

unfoldable pub declarations_walk : (base least : ℕ) → Site → Declared → List ItemTree →
    Walk Declared
declarations_walk base least site so_far [] = done so_far
declarations_walk base least site so_far (item ∷ items) = do
  next ← declaration_walk base least site so_far item
  declarations_walk base least site next items

-- a declaration before the limit of signals is asked
unfoldable pub declaration_ahead : (base least : ℕ) → Site → Declared → ItemTree → Walk Declared
declaration_ahead base least site so_far (parameter_item p) = parameter_walk base site so_far p
declaration_ahead base least site so_far (declared d) = signal_ahead base least site so_far d
declaration_ahead base least site so_far _ = done so_far

-- what the items declare, up to the first that breaks another rule than the limit of signals
unfoldable pub declared_until : (base least : ℕ) → Site → Declared → List ItemTree → Declared
declared_until base least site so_far [] = so_far
declared_until base least site so_far (item ∷ items) =
    elim (declaration_ahead base least site so_far item).end [
      | Ok next ↦ declared_until base least site next items
      | Err s ↦ so_far
    ]

abbrev pub nothing_declared : Declared
nothing_declared = record { bindings = []; signals = [] }
