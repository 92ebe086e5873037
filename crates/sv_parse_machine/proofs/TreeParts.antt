-- Trees of the grammar by their parts: what makes one of them, and that two are the same where
-- their parts are.
use Rattle.std.proofs.Common.{◌≡◌, ℕ, Bool, List, Option}
use Rattle.sv_num.specs.declared.faults.Place.{Place}
use Rattle.sv_ast.specs.declared.declarations.DeclKind.{DeclKind}
use Rattle.sv_ast.specs.Tree.{ExpressionTree, SpanTree, LabelTree, OverrideTrees, LinkTrees}
use Rattle.sv_ast.specs.Tree.{DeclarationTree, ParameterTree, MemoryTree, InstanceTree, ModuleTree}
use Rattle.sv_ast.specs.Tree.{MapTree}

abbrev pub typed_parameter : (local signed : Bool) → Option SpanTree → List ℕ → Place →
    ExpressionTree → ParameterTree
typed_parameter local signed span x p e =
    record { local = local; signed = signed; span = span; name = x; place = p; value = e }

abbrev pub declared_tree : DeclKind → Bool → Option SpanTree → Option LabelTree → List ℕ → Place →
    Option ExpressionTree → DeclarationTree
declared_tree k signed span label x p value = record {
  kind = k;
  signed = signed;
  span = span;
  label = label;
  name = x;
  place = p;
  value = value;
}

abbrev pub instance_tree : List ℕ → Place → OverrideTrees → List ℕ → Place → LinkTrees → InstanceTree
instance_tree master q overrides x p k = record {
  master = master;
  place = q;
  overrides = overrides;
  name = x;
  name_place = p;
  links = k;
}

pub same_declaration : (a b : DeclarationTree) → a.kind ≡ b.kind → a.signed ≡ b.signed
    → a.span ≡ b.span → a.label ≡ b.label → a.name ≡ b.name → a.place ≡ b.place → a.value ≡ b.value
    → a ≡ b
same_declaration a b kind signed span label name place value i = record {
  kind = kind i;
  signed = signed i;
  span = span i;
  label = label i;
  name = name i;
  place = place i;
  value = value i;
}

pub same_parameter : (a b : ParameterTree) → a.local ≡ b.local → a.signed ≡ b.signed
    → a.span ≡ b.span → a.name ≡ b.name → a.place ≡ b.place → a.value ≡ b.value → a ≡ b
same_parameter a b local signed span name place value i = record {
  local = local i;
  signed = signed i;
  span = span i;
  name = name i;
  place = place i;
  value = value i;
}

pub same_instance : (a b : InstanceTree) → a.master ≡ b.master → a.place ≡ b.place
    → a.overrides ≡ b.overrides → a.name ≡ b.name → a.name_place ≡ b.name_place → a.links ≡ b.links
    → a ≡ b
same_instance a b master place overrides name name_place links i = record {
  master = master i;
  place = place i;
  overrides = overrides i;
  name = name i;
  name_place = name_place i;
  links = links i;
}

pub same_memory : (a b : MemoryTree) → a.signed ≡ b.signed → a.span ≡ b.span → a.label ≡ b.label
    → a.name ≡ b.name → a.place ≡ b.place → a.first ≡ b.first → a.last ≡ b.last → a ≡ b
same_memory a b signed span label name place first last i = record {
  signed = signed i;
  span = span i;
  label = label i;
  name = name i;
  place = place i;
  first = first i;
  last = last i;
}

pub same_module : (a b : ModuleTree) → a.name ≡ b.name → a.place ≡ b.place
    → a.parameters ≡ b.parameters → a.ports ≡ b.ports → a.items ≡ b.items → a ≡ b
same_module a b name place parameters ports items i = record {
  name = name i;
  place = place i;
  parameters = parameters i;
  ports = ports i;
  items = items i;
}

pub same_map : (a b : MapTree) → a.name ≡ b.name → a.place ≡ b.place → a.span ≡ b.span
    → a.second ≡ b.second → a.rows ≡ b.rows → a.other ≡ b.other → a ≡ b
same_map a b name place span second rows other i = record {
  name = name i;
  place = place i;
  span = span i;
  second = second i;
  rows = rows i;
  other = other i;
}
