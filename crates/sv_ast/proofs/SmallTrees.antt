-- Trees of small texts, written shortly: every place is the same, and names are texts.
use Prim.Native.String.{String}
use Rattle.std.proofs.Common.{ℕ, Bool, true, false, List, [], ◌∷◌, Option, Some, None, map, cond}
use Rattle.std.specs.List.{slice_split}
use Rattle.std.specs.Str.{bytes_eq, byte}
use Rattle.sv_ast.specs.Scopes.{Scope, signal}
use Rattle.sv_ast.specs.Parts.{Path, same_path}
use Rattle.std.specs.Prelude.{codes, ◌==◌, ◌-◌, option_map}
use Rattle.sv_num.specs.declared.faults.Place.{Place}
use Rattle.sv_num.specs.declared.operators.BinOp.{BinOp}
use Rattle.sv_system.specs.System.{Environment}
use Rattle.sv_ast.specs.declared.declarations.DeclKind.{DeclKind}
use Rattle.sv_ast.specs.declared.declarations.DeclKind.TheVariants as kind
use Rattle.sv_ast.specs.Tree.{ExpressionTree, literal, named, binary, ExpressionTrees}
use Rattle.sv_ast.specs.Tree.{no_expressions, more_expressions, whole, bit_at, part_from}
use Rattle.sv_ast.specs.Tree.{TargetTree, StatementTree, assignment, block, StatementTrees}
use Rattle.sv_ast.specs.Tree.{no_statements, more_statements, ArmTrees, more_arms, if_else}
use Rattle.sv_ast.specs.Tree.{SpanTree, LabelTree, DeclarationTree, ParameterTree, PlacedName}
use Rattle.sv_ast.specs.Tree.{NamedLink, LinkTrees, OverrideTrees, NamedOverride, ItemTree}
use Rattle.sv_ast.specs.Tree.{continuous, always_item, instance_item, ModuleTree, LatticeTree}
use Rattle.sv_ast.specs.Tree.{KeyTree, RowTree, MapTree, TextTree}

abbrev pub somewhere : Place
somewhere = record { line = 1; column = 1 }

-- a plain decimal
abbrev pub decimal_of : ℕ → ExpressionTree
decimal_of n = literal (record { width = 32; signed = true; value = n; sized = false }) somewhere

-- a number of so many bits
abbrev pub sized_of : ℕ → Bool → ℕ → ExpressionTree
sized_of width signed n =
    literal (record { width = width; signed = signed; value = n; sized = true }) somewhere

abbrev pub name : String → ExpressionTree
name t = named (codes t) somewhere

abbrev pub op : BinOp → ExpressionTree → ExpressionTree → ExpressionTree
op o a b = binary o somewhere a b

abbrev pub joined : List ExpressionTree → ExpressionTrees
joined [] = no_expressions
joined (e ∷ es) = more_expressions e (joined es)

-- Targets and statements.

abbrev pub to : String → TargetTree
to t = record { name = codes t; place = somewhere; selection = whole }

abbrev pub to_bit : String → ℕ → TargetTree
to_bit t k = record { name = codes t; place = somewhere; selection = bit_at (decimal_of k) }

abbrev pub to_part : String → ℕ → ℕ → TargetTree
to_part t high low = record {
  name = codes t;
  place = somewhere;
  selection = part_from (decimal_of high) (decimal_of low);
}

-- `targets = e;`
abbrev pub puts : List TargetTree → ExpressionTree → StatementTree
puts ts e = assignment ts somewhere true e

-- `targets <= e;`
abbrev pub posts : List TargetTree → ExpressionTree → StatementTree
posts ts e = assignment ts somewhere false e

-- `t = e;`
abbrev pub gets : String → ExpressionTree → StatementTree
gets t e = puts (to t ∷ []) e

-- `t <= e;`
abbrev pub gets_later : String → ExpressionTree → StatementTree
gets_later t e = posts (to t ∷ []) e

abbrev pub sequence : List StatementTree → StatementTrees
sequence [] = no_statements
sequence (s ∷ ss) = more_statements s (sequence ss)

abbrev pub begin_end : List StatementTree → StatementTree
begin_end ss = block (sequence ss)

-- `if (c) first else second`
abbrev pub either : ExpressionTree → StatementTree → StatementTree → StatementTree
either c first second = if_else somewhere c first second

-- `items: s`, and the default where there are no items
abbrev pub arm : List ExpressionTree → StatementTree → ArmTrees → ArmTrees
arm items s more = more_arms somewhere items s more

-- Scopes and environments.

abbrev pub signals_are : List (String × ℕ) → Scope
signals_are [] n = None
signals_are ((t, width) ∷ ss) n =
    cond (bytes_eq n (codes t)) (Some (signal width false)) (signals_are ss n)

-- 0 for all other names
abbrev pub values_are : List (String × ℕ) → Environment (List ℕ)
values_are [] n = 0
values_are ((t, v) ∷ vs) n = cond (bytes_eq n (codes t)) v (values_are vs n)

-- names with blanks between them
abbrev pub names : String → List (List ℕ)
names t = slice_split (λ b. b == byte " ") (codes t)

-- a path, written as `u.q`
abbrev pub path : String → Path
path t = slice_split (λ b. b == byte ".") (codes t)

-- paths with blanks between them
abbrev pub paths : String → List Path
paths t = map (slice_split (λ b. b == byte ".")) (names t)

-- 0 for all other paths
abbrev pub paths_are : List (String × ℕ) → Path → ℕ
paths_are [] p = 0
paths_are ((t, v) ∷ vs) p = cond (same_path p (path t)) v (paths_are vs p)

-- Declarations.

-- the range of so many bits
abbrev pub bits : ℕ → Option SpanTree
bits n = Some (record { high = decimal_of (n - 1); low = decimal_of 0 })

abbrev pub declaration_with : DeclKind → Bool → Option SpanTree → Option LabelTree → String →
    DeclarationTree
declaration_with k signed span label t = record {
  kind = k;
  signed = signed;
  span = span;
  label = label;
  name = codes t;
  place = somewhere;
  value = None;
}

-- a signal with a range or without one, unsigned and without a label
abbrev pub declares : DeclKind → Option SpanTree → String → DeclarationTree
declares k span t = declaration_with k false span None t

abbrev pub input : Option SpanTree → String → DeclarationTree
input = declares kind.Input

abbrev pub output : Option SpanTree → String → DeclarationTree
output = declares kind.OutputWire

abbrev pub output_reg : Option SpanTree → String → DeclarationTree
output_reg = declares kind.OutputReg

abbrev pub parameter_with : Bool → Bool → Option SpanTree → String → ExpressionTree → ParameterTree
parameter_with local signed span t e = record {
  local = local;
  signed = signed;
  span = span;
  name = codes t;
  place = somewhere;
  value = e;
}

-- Items and modules.

abbrev pub assigns_to : String → ExpressionTree → ItemTree
assigns_to t e = continuous (to t ∷ []) somewhere e

abbrev pub whenever : StatementTree → ItemTree
whenever s = always_item somewhere None s

abbrev pub on_edge : String → StatementTree → ItemTree
on_edge t s = always_item somewhere (Some (record { name = codes t; place = somewhere })) s

abbrev pub link : String → Option ExpressionTree → NamedLink
link t e = record { name = codes t; place = somewhere; value = e }

abbrev pub sets : String → ExpressionTree → NamedOverride
sets t e = record { name = codes t; place = somewhere; value = e }

abbrev pub stands : String → OverrideTrees → String → LinkTrees → ItemTree
stands master os t ls = instance_item (record {
  master = codes master;
  place = somewhere;
  overrides = os;
  name = codes t;
  name_place = somewhere;
  links = ls;
})

abbrev pub module_with : String → List ParameterTree → List DeclarationTree → List ItemTree →
    ModuleTree
module_with t ps ports items = record {
  name = codes t;
  place = somewhere;
  parameters = ps;
  ports = ports;
  items = items;
}

abbrev pub text_of : List ModuleTree → TextTree
text_of ms = record { lattice = None; maps = []; modules = ms }

-- Lattices and label maps.

abbrev pub placed : String → PlacedName
placed t = record { name = codes t; place = somewhere }

abbrev pub lattice_with : List String → List (String × String) → LatticeTree
lattice_with ps qs = record {
  place = somewhere;
  points = map placed ps;
  pairs = map (λ (q : String × String). record { lower = placed q.0; upper = placed q.1 }) qs;
}

-- a plain number as a key
abbrev pub key : ℕ → KeyTree
key n =
    record {
      value = record { width = 32; signed = true; value = n; sized = false };
      place = somewhere;
    }

abbrev pub map_with : String → Option SpanTree → List RowTree → Option String → MapTree
map_with t second rows other = record {
  name = codes t;
  place = somewhere;
  span = record { high = decimal_of 0; low = decimal_of 0 };
  second = second;
  rows = rows;
  other = option_map codes other;
}

abbrev pub row : KeyTree → Option KeyTree → String → RowTree
row first second t = record { first = first; second = second; to = codes t }
