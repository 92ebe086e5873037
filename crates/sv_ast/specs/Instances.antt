-- What an instance of a module is made of: parameters with values, signals with types, and links
-- (IEEE 1364-2005, clauses 12.1 to 12.3). A look-up may find nothing; such texts are refused.
use Rattle.std.specs.Prelude.{ℕ, ◌+◌, Bool, true, false, not, if◌then◌else◌, List, [], ◌∷◌, ◌++◌}
use Rattle.std.specs.Prelude.{map, filter, find, zip, filter_map, flat_map, Option, Some, None}
use Rattle.std.specs.Prelude.{option_and_then, option_to_list, unwrap_or}
use Rattle.std.specs.List.{list_any}
use Rattle.std.specs.Str.{bytes_eq}
-- `entry`: what a list says of a name
pub use Rattle.sv_token.specs.Bytes.{entry}
use Rattle.sv_ast.specs.Scopes.{Scope, Number, Binding, parameter, signal}
use Rattle.sv_ast.specs.Tree.{ExpressionTree, named, SpanTree, DeclarationTree, ParameterTree}
use Rattle.sv_ast.specs.Tree.{NamedOverride, OverrideTrees, named_overrides, ordered_overrides}
use Rattle.sv_ast.specs.Tree.{NamedLink, LinkTrees, named_links, ordered_links, InstanceTree}
use Rattle.sv_ast.specs.Tree.{ItemTree, parameter_item, declared, instance_item, ModuleTree}
use Rattle.sv_num.specs.Parts.{extended}
use Rattle.sv_ast.specs.Values.{constant_of, bound_of}

-- Modules and their top (clause 12.1.1).

-- the first module of a name
abbrev pub module_named : List ModuleTree → List ℕ → Option ModuleTree
module_named modules n = find (λ (m : ModuleTree). bytes_eq n m.name) modules

-- the instance that an item is
abbrev pub instance_of : ItemTree → Option InstanceTree
instance_of (instance_item i) = Some i
instance_of _ = None

-- the instances in a module, in textual order
abbrev pub instances : ModuleTree → List InstanceTree
instances m = filter_map instance_of m.items

-- the names of the modules that a module has instances of
abbrev pub masters : ModuleTree → List (List ℕ)
masters m = map (λ (i : InstanceTree). i.master) (instances m)

-- the modules that no module has an instance of
abbrev pub uninstanced : List ModuleTree → List ModuleTree
uninstanced modules =
    filter (λ (m : ModuleTree). not (list_any (bytes_eq m.name) (flat_map masters modules))) modules

-- the member of a list that has exactly one
abbrev pub only : {X : Type 0} → List X → Option X
only (x ∷ []) = Some x
only _ = None

-- the top module: the one asked for (this project's profile), or else the only uninstanced one
abbrev pub top_module : List ModuleTree → (asked : Option (List ℕ)) → Option ModuleTree
top_module modules (Some n) = module_named modules n
top_module modules None = only (uninstanced modules)

-- Parameters (clauses 4.10 and 12.2).

-- whether a list has no member
abbrev pub is_empty : {X : Type 0} → List X → Bool
is_empty [] = true
is_empty (x ∷ xs) = false

-- the parameter that an item declares
abbrev pub parameter_of : ItemTree → Option ParameterTree
parameter_of (parameter_item p) = Some p
parameter_of _ = None

-- the parameters that an instance may set, in textual order: those of the header or, where it has
-- none, those of the body that are not local (this project's profile)
abbrev pub open_parameters : ModuleTree → List ParameterTree
open_parameters m = if is_empty m.parameters
    then filter (λ (p : ParameterTree). not p.local) (filter_map parameter_of m.items)
    else m.parameters

-- the parameters that an instance sets, each with its value: a constant of the instance outside
abbrev pub settings : (outer : Scope) → ModuleTree → OverrideTrees → List (List ℕ × Number)
settings outer m (named_overrides os) =
    map (λ (o : NamedOverride). (o.name, constant_of outer o.value)) os
settings outer m (ordered_overrides es) =
    zip (map (λ (p : ParameterTree). p.name) (open_parameters m)) (map (constant_of outer) es)

-- the length that a range gives, 1 without one (clause 4.3.1)
abbrev pub span_width : Scope → Option SpanTree → ℕ
span_width scope (Some span) = bound_of scope span.high + 1
span_width scope None = 1

-- a parameter's value from its final one: without a range as it is, with one converted as in an
-- assignment to that range (clause 4.10.1)
abbrev pub in_range : Scope → (signed : Bool) → Option SpanTree → (final : Number) → Number
in_range scope signed None final = final
in_range scope signed (Some span) final = record {
  width = span_width scope (Some span);
  signed = signed;
  value = extended final.signed final.width (span_width scope (Some span)) final.value;
}

-- a parameter's value: what the instance sets it to, or else its default, in the given scope
abbrev pub parameter_value : List (List ℕ × Number) → Scope → ParameterTree → Number
parameter_value set scope p =
    in_range scope p.signed p.span (unwrap_or (entry set p.name) (constant_of scope p.value))

-- What the names of an instance stand for.

-- header parameters, ports and items, in textual order
abbrev pub all_items : ModuleTree → List ItemTree
all_items m = map parameter_item m.parameters ++ map declared m.ports ++ m.items

-- the name that an item declares for expressions, with what it stands for
abbrev pub binding_of : List (List ℕ × Number) → Scope → ItemTree → Option (List ℕ × Binding)
binding_of set scope (parameter_item p) = Some (p.name, parameter (parameter_value set scope p))
binding_of set scope (declared d) = Some (d.name, signal (span_width scope d.span) d.signed)
binding_of set scope _ = None

-- the bindings of some items after the earlier ones, each item in the scope of those before it
abbrev pub bindings_after : List (List ℕ × Number) → (earlier : List (List ℕ × Binding))
    → List ItemTree → List (List ℕ × Binding)
bindings_after set earlier [] = earlier
bindings_after set earlier (i ∷ is) =
    bindings_after set (earlier ++ option_to_list (binding_of set (entry earlier) i)) is

-- the bindings of an instance, in textual order
abbrev pub bindings : List (List ℕ × Number) → ModuleTree → List (List ℕ × Binding)
bindings set m = bindings_after set [] (all_items m)

-- the scope of an instance
abbrev pub scope_of : List (List ℕ × Number) → ModuleTree → Scope
scope_of set m = entry (bindings set m)

-- Ports and links (clause 12.3).

-- the first port of a name
abbrev pub port_named : ModuleTree → List ℕ → Option DeclarationTree
port_named m n = find (λ (d : DeclarationTree). bytes_eq n d.name) m.ports

-- the ports that an instance links, in textual order: each with its expression, or none where the
-- link is empty
abbrev pub linked_ports : ModuleTree → LinkTrees → List (List ℕ × Option ExpressionTree)
linked_ports m (named_links ls) = map (λ (l : NamedLink). (l.name, l.value)) ls
linked_ports m (ordered_links es) =
    zip (map (λ (d : DeclarationTree). d.name) m.ports) (map Some es)

-- the name that an expression is, where it is a whole name
abbrev pub whole_name : ExpressionTree → Option (List ℕ)
whole_name (named n p) = Some n
whole_name _ = None

-- whether a name stands for a signal
abbrev pub is_signal : Option Binding → Bool
is_signal (Some (signal width signed)) = true
is_signal _ = false

-- the signal that an expression names as a whole
abbrev pub whole_signal : Scope → ExpressionTree → Option (List ℕ)
whole_signal scope e =
    option_and_then (λ n. if is_signal (scope n) then Some n else None) (whole_name e)
