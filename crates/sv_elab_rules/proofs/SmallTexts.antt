-- Words for small texts that stand on one line: each part with the column of its place.
use Prim.Native.String.{String}
use Rattle.std.proofs.Common.{◌≡◌, ℕ, true, false, Bool, List, [], ◌∷◌, Option, Some, None, map}
use Rattle.std.specs.Prelude.{codes, Result, Err}
use Rattle.sv_num.specs.declared.faults.Place.{Place}
use Rattle.sv_num.specs.declared.operators.BinOp.{BinOp}
use Rattle.sv_ast.specs.declared.declarations.DeclKind.{DeclKind}
use Rattle.sv_ast.specs.declared.declarations.DeclKind.TheVariants as kind
use Rattle.sv_ast.specs.Tree.{ExpressionTree, ExpressionTrees, literal, named, bit_of, part_of}
use Rattle.sv_ast.specs.Tree.{binary, join, replication, no_expressions, more_expressions, whole}
use Rattle.sv_ast.specs.Tree.{bit_at, part_from, TargetTree, StatementTree, assignment}
use Rattle.sv_ast.specs.Tree.{StatementTrees, no_statements, more_statements, SpanTree, LabelTree}
use Rattle.sv_ast.specs.Tree.{point_label, table_label, DeclarationTree, ParameterTree}
use Rattle.sv_ast.specs.Tree.{NamedOverride, OverrideTrees, ordered_overrides, NamedLink, LinkTrees}
use Rattle.sv_ast.specs.Tree.{ordered_links, PlacedName, ItemTree, parameter_item, declared}
use Rattle.sv_ast.specs.Tree.{continuous, always_item, instance_item, ModuleTree, PairTree}
use Rattle.sv_ast.specs.Tree.{LatticeTree, KeyTree, RowTree, MapTree, TextTree}
use Rattle.sv_elab_rules.specs.Walks.{WalkStep}
use Rattle.sv_elab_rules.specs.Rules.{step}
use Rattle.sv_elab_rules.specs.Texts.{walk_of}
use Rattle.sv_flat.specs.Design.{FlatDesign}

abbrev pub at : (column : ℕ) → Place
at c = record { line = 1; column = c }

-- Expressions.

abbrev pub name : String → ℕ → ExpressionTree
name n c = named (codes n) (at c)

-- a plain decimal, and a number with its length
abbrev pub decimal : (n column : ℕ) → ExpressionTree
decimal n c = literal (record { width = 32; signed = true; value = n; sized = false }) (at c)

abbrev pub bits : (width n column : ℕ) → ExpressionTree
bits w n c = literal (record { width = w; signed = false; value = n; sized = true }) (at c)

abbrev pub op : BinOp → ℕ → ExpressionTree → ExpressionTree → ExpressionTree
op o c a b = binary o (at c) a b

abbrev pub bit : String → ℕ → ExpressionTree → ExpressionTree
bit n c i = bit_of (codes n) (at c) i

abbrev pub part : String → ℕ → ExpressionTree → ExpressionTree → ExpressionTree
part n c h l = part_of (codes n) (at c) h l

abbrev pub listed : List ExpressionTree → ExpressionTrees
listed [] = no_expressions
listed (e ∷ es) = more_expressions e (listed es)

abbrev pub joined : ℕ → List ExpressionTree → ExpressionTree
joined c es = join (at c) (listed es)

abbrev pub times : ℕ → ExpressionTree → List ExpressionTree → ExpressionTree
times c k es = replication (at c) k (listed es)

-- Statements.

abbrev pub target : String → ℕ → TargetTree
target n c = record { name = codes n; place = at c; selection = whole }

abbrev pub target_bit : String → ℕ → ExpressionTree → TargetTree
target_bit n c i = record { name = codes n; place = at c; selection = bit_at i }

abbrev pub target_part : String → ℕ → ExpressionTree → ExpressionTree → TargetTree
target_part n c h l = record { name = codes n; place = at c; selection = part_from h l }

abbrev pub gets : List TargetTree → ℕ → ExpressionTree → StatementTree
gets ts c e = assignment ts (at c) true e

abbrev pub gets_later : List TargetTree → ℕ → ExpressionTree → StatementTree
gets_later ts c e = assignment ts (at c) false e

abbrev pub in_order : List StatementTree → StatementTrees
in_order [] = no_statements
in_order (s ∷ ss) = more_statements s (in_order ss)

-- Declarations.

abbrev pub range : ExpressionTree → ExpressionTree → Option SpanTree
range h l = Some (record { high = h; low = l })

abbrev pub declares : DeclKind → Option SpanTree → Option LabelTree → String → ℕ
    → Option ExpressionTree
    → DeclarationTree
declares k r l n c v =
    record {
      kind = k;
      signed = false;
      span = r;
      label = l;
      name = codes n;
      place = at c;
      value = v;
    }

abbrev pub input : Option SpanTree → String → ℕ → DeclarationTree
input r n c = declares kind.Input r None n c None

abbrev pub output : Option SpanTree → String → ℕ → DeclarationTree
output r n c = declares kind.OutputWire r None n c None

abbrev pub output_reg : Option SpanTree → String → ℕ → DeclarationTree
output_reg r n c = declares kind.OutputReg r None n c None

abbrev pub wire : Option SpanTree → String → ℕ → ItemTree
wire r n c = declared (declares kind.Wire r None n c None)

abbrev pub wire_with : Option SpanTree → String → ℕ → ExpressionTree → ItemTree
wire_with r n c e = declared (declares kind.Wire r None n c (Some e))

abbrev pub point_of : String → ℕ → Option LabelTree
point_of n c = Some (point_label (codes n) (at c))

abbrev pub table_of : String → ℕ → String → Option LabelTree
table_of n c s = Some (table_label (codes n) (codes s) None (at c))

abbrev pub pair_table : String → ℕ → String → String → Option LabelTree
pair_table n c s t = Some (table_label (codes n) (codes s) (Some (codes t)) (at c))

abbrev pub parameter_tree : Bool → Option SpanTree → String → ℕ → ExpressionTree → ParameterTree
parameter_tree l r n c e =
    record { local = l; signed = false; span = r; name = codes n; place = at c; value = e }

abbrev pub sets_default : Option SpanTree → String → ℕ → ExpressionTree → ParameterTree
sets_default = parameter_tree false

abbrev pub local : Option SpanTree → String → ℕ → ExpressionTree → ItemTree
local r n c e = parameter_item (parameter_tree true r n c e)

abbrev pub parameter : Option SpanTree → String → ℕ → ExpressionTree → ItemTree
parameter r n c e = parameter_item (parameter_tree false r n c e)

abbrev pub assigns : List TargetTree → ℕ → ExpressionTree → ItemTree
assigns ts c e = continuous ts (at c) e

abbrev pub always : ℕ → StatementTree → ItemTree
always c s = always_item (at c) None s

abbrev pub placed : String → ℕ → PlacedName
placed n c = record { name = codes n; place = at c }

abbrev pub on_edge : ℕ → String → ℕ → StatementTree → ItemTree
on_edge c n d s = always_item (at c) (Some (placed n d)) s

-- Instances.

abbrev pub no_overrides : OverrideTrees
no_overrides = ordered_overrides []

abbrev pub override : String → ℕ → ExpressionTree → NamedOverride
override n c e = record { name = codes n; place = at c; value = e }

abbrev pub no_links : LinkTrees
no_links = ordered_links []

abbrev pub link : String → ℕ → ExpressionTree → NamedLink
link n c e = record { name = codes n; place = at c; value = Some e }

abbrev pub no_link : String → ℕ → NamedLink
no_link n c = record { name = codes n; place = at c; value = None }

-- an instance of a module
abbrev pub stands : String → ℕ → OverrideTrees → String → ℕ → LinkTrees → ItemTree
stands m c os n d ls =
    instance_item (record {
      master = codes m;
      place = at c;
      overrides = os;
      name = codes n;
      name_place = at d;
      links = ls;
    })

-- Texts.

abbrev pub module_of : String → ℕ → List ParameterTree → List DeclarationTree → List ItemTree
    → ModuleTree
module_of n c ps ports items =
    record { name = codes n; place = at c; parameters = ps; ports = ports; items = items }

abbrev pub pair : String → ℕ → String → ℕ → PairTree
pair a c b d = record { lower = placed a c; upper = placed b d }

abbrev pub lattice_of : ℕ → List PlacedName → List PairTree → Option LatticeTree
lattice_of c points pairs = Some (record { place = at c; points = points; pairs = pairs })

-- a row with one key, and one with two; each key is a plain decimal
abbrev pub key : (n column : ℕ) → KeyTree
key n c =
    record { value = record { width = 32; signed = true; value = n; sized = false }; place = at c }

abbrev pub row : (n column : ℕ) → String → RowTree
row n c p = record { first = key n c; second = None; to = codes p }

abbrev pub pair_row : (n column m second : ℕ) → String → RowTree
pair_row n c m d p = record { first = key n c; second = Some (key m d); to = codes p }

abbrev pub map_tree : String → ℕ → SpanTree → Option SpanTree → List RowTree →
    Option (List ℕ) → MapTree
map_tree n c s t rows other =
    record { name = codes n; place = at c; span = s; second = t; rows = rows; other = other }

abbrev pub span : ExpressionTree → ExpressionTree → SpanTree
span h l = record { high = h; low = l }

abbrev pub text_of : Option LatticeTree → List MapTree → List ModuleTree → TextTree
text_of l maps modules = record { lattice = l; maps = maps; modules = modules }

-- a text of the module `m` alone
abbrev pub alone : List DeclarationTree → List ItemTree → TextTree
alone ports items = text_of None [] (module_of "m" 8 [] ports items ∷ [])

-- a walk ends at that step of line 1
abbrev pub breaks : (rule column : ℕ) → List String → Result FlatDesign WalkStep
breaks rule c names = Err (step rule (at c) (map codes names))

-- the walk of a text ends at that step
abbrev pub Breaks : (rule column : ℕ) → List String → TextTree → Type 0
Breaks rule column names text = (walk_of text None).end ≡ breaks rule column names

-- that of a text of the module `m` alone
abbrev pub ModuleBreaks : (rule column : ℕ) → List String → List DeclarationTree → List ItemTree →
    Type 0
ModuleBreaks rule column names ports items =
    Breaks rule column names (alone ports items)

-- and of a text of that module and another one
abbrev pub ModulesBreak : (rule column : ℕ) → List String → List DeclarationTree → List ItemTree →
    ModuleTree → Type 0
ModulesBreak rule column names ports items next =
    Breaks rule column names (text_of None [] (module_of "m" 8 [] ports items ∷ next ∷ []))

-- a text of a lattice, or of some maps, before a module of nothing
abbrev pub LatticeBreaks : (rule column : ℕ) → List String → (module_column : ℕ) →
    List PlacedName → List PairTree → Type 0
LatticeBreaks rule column names c points pairs =
    Breaks rule column names
    (text_of (lattice_of 1 points pairs) [] (module_of "m" c [] [] [] ∷ []))

abbrev pub MapsBreak : (rule column : ℕ) → List String → (module_column : ℕ) → List MapTree → Type 0
MapsBreak rule column names c maps =
    Breaks rule column names (text_of None maps (module_of "m" c [] [] [] ∷ []))
