-- What the tokens of whole texts mean, by examples.
use Rattle.std.proofs.Common.{◌≡◌, ℕ, Bool, true, false, List, [], ◌∷◌, Option, Some, None, refl}
use Rattle.std.specs.Prelude.{codes}
use Rattle.sv_num.specs.declared.operators.BinOp.TheVariants as binop
use Rattle.sv_ast.specs.declared.declarations.DeclKind.{DeclKind}
use Rattle.sv_ast.specs.declared.declarations.DeclKind.TheVariants as kinds
use Rattle.sv_ast.specs.Tree.{ExpressionTree, binary, whole, SpanTree, point_label, table_label}
use Rattle.sv_ast.specs.Tree.{DeclarationTree, ParameterTree, by_index, null, assignment, if_else}
use Rattle.sv_ast.specs.Tree.{OverrideTrees, named_overrides, ordered_overrides, LinkTrees, named_links}
use Rattle.sv_ast.specs.Tree.{ordered_links}
use Rattle.sv_ast.specs.Tree.{PlacedName, ItemTree, parameter_item, declared, memory_item}
use Rattle.sv_ast.specs.Tree.{continuous, released, always_item, invariant_item, instance_item}
use Rattle.sv_ast.specs.Tree.{KeyTree, TextTree}
use Rattle.sv_ast.proofs.GrammarComputed.{read, text_of}
use Rattle.sv_ast.proofs.SmallTrees.{declares}
use Rattle.sv_ast.proofs.GrammarExamples.{at, plain, number, target, sets, a, b, c, d}

-- a text of one module named m
abbrev module_m : List ParameterTree → List DeclarationTree → List ItemTree → TextTree
module_m qs ds is =
    record {
      lattice = None;
      maps = [];
      modules = record {
        name = codes "m";
        place = at 8;
        parameters = qs;
        ports = ds;
        items = is;
      } ∷ [];
    }

abbrev span : ExpressionTree → ExpressionTree → Option SpanTree
span high low = Some (record { high = high; low = low })

abbrev placed : List ℕ → ℕ → PlacedName
placed x n = record { name = x; place = at n }

-- a declaration without signedness, range, label and value
abbrev plainly : DeclKind → List ℕ → ℕ → DeclarationTree
plainly k x n = record (declares k None "") { name = x; place = at n }

abbrev parameter_at : (local signed : Bool) → Option SpanTree → List ℕ → ℕ → ExpressionTree →
    ParameterTree
parameter_at local signed range x n e =
    record { local = local; signed = signed; span = range; name = x; place = at n; value = e }

abbrev instance_at : List ℕ → ℕ → OverrideTrees → List ℕ → ℕ → LinkTrees → ItemTree
instance_at master n overrides x m links =
    instance_item (record {
      master = master;
      place = at n;
      overrides = overrides;
      name = x;
      name_place = at m;
      links = links;
    })

-- ---- headers

pub empty_module : text_of (codes "module m; endmodule") ≡ Some (module_m [] [] [])
unfolding read
empty_module = refl

pub no_ports : text_of (codes "module m(); endmodule") ≡ Some (module_m [] [] [])
unfolding read
no_ports = refl

abbrev high_output : List ℕ → ℕ → DeclarationTree
high_output x n =
    record (plainly kinds.OutputWire x n) {
      signed = true;
      span = span (number 1 25) (number 0 27);
      label = Some (point_label (codes "H") (at 31));
    }

-- a name alone takes kind, signedness, range and label of the port before it
pub ports : text_of (codes "module m(output signed [1:0] {H} a, b, input c); endmodule")
    ≡ Some (module_m []
    (high_output (codes "a") 34 ∷ high_output (codes "b") 37 ∷ plainly kinds.Input (codes "c") 46
    ∷ [])
    [])
unfolding read
ports = refl

-- a parameter without the word takes signedness and range of the one before it; with the word and
-- no range it has none
pub header_parameters :
    text_of (codes "module m #(parameter signed [3:0] A = 1, B = 2, parameter C = 3); endmodule")
    ≡ Some (module_m
    (parameter_at false true (span (number 3 30) (number 0 32)) (codes "A") 35 (number 1 39)
    ∷ parameter_at false true (span (number 3 30) (number 0 32)) (codes "B") 42 (number 2 46)
    ∷ parameter_at false false None (codes "C") 59 (number 3 63)
    ∷ [])
    [] [])
unfolding read
header_parameters = refl

-- ---- items

pub later_names : text_of
    (codes "module m; wire [1:0] a = 1, b; localparam A = 2, B = 3; endmodule")
    ≡ Some (module_m [] []
    (declared (record (plainly kinds.Wire (codes "a") 22) {
      span = span (number 1 17) (number 0 19);
      value = Some (number 1 26);
    })
    ∷ declared (record (plainly kinds.Wire (codes "b") 29) {
      span = span (number 1 17) (number 0 19);
    })
    ∷ parameter_item (parameter_at true false None (codes "A") 43 (number 2 47))
    ∷ parameter_item (parameter_at true false None (codes "B") 50 (number 3 54))
    ∷ []))
unfolding read
later_names = refl

pub assigned_joins : text_of (codes "module m; assign a = 1, {b, c} = d; endmodule")
    ≡ Some (module_m [] []
    (continuous (target (codes "a") 18 whole ∷ []) (at 18) (number 1 22)
    ∷ continuous (target (codes "b") 26 whole ∷ target (codes "c") 29 whole ∷ []) (at 26) (d 34)
    ∷ []))
unfolding read
assigned_joins = refl

pub processes : text_of
    (codes "module m; always @* ; always @(*) ; always @(posedge c) d <= a; endmodule")
    ≡ Some (module_m [] []
    (always_item (at 11) None null
    ∷ always_item (at 23) None null
    ∷ always_item (at 37) (Some (placed (codes "c") 54))
    (assignment (target (codes "d") 57 whole ∷ []) (at 57) false (a 62))
    ∷ []))
unfolding read
processes = refl

abbrev w_is_4 : OverrideTrees
w_is_4 = named_overrides (record { name = codes "W"; place = at 16; value = number 4 18 } ∷ [])

-- links by name, one of them to nothing, and by order; later instances take module and overrides of
-- the one before
pub instances : text_of (codes "module m; n #(.W(4)) u(.x(), .y(c)), v(c, d); n w(); endmodule")
    ≡ Some (module_m [] []
    (instance_at (codes "n") 11 w_is_4 (codes "u") 22
    (named_links (record { name = codes "x"; place = at 25; value = None }
    ∷ record { name = codes "y"; place = at 31; value = Some (c 33) } ∷ []))
    ∷ instance_at (codes "n") 11 w_is_4 (codes "v") 38 (ordered_links (c 40 ∷ d 43 ∷ []))
    ∷ instance_at (codes "n") 47 (ordered_overrides []) (codes "w") 49 (ordered_links [])
    ∷ []))
unfolding read
instances = refl

pub memories : text_of (codes "module m; reg [3:0] {D(#)} r [0:1]; reg q; endmodule")
    ≡ Some (module_m [] []
    (memory_item (record {
      signed = false;
      span = span (number 3 16) (number 0 18);
      label = Some (by_index (codes "D") (at 22));
      name = codes "r";
      place = at 28;
      first = plain 0;
      last = plain 1;
    })
    ∷ declared (plainly kinds.Reg (codes "q") 41)
    ∷ []))
unfolding read
memories = refl

pub releases_and_invariants :
    text_of (codes "module m; assign y = $release(a == b, L); invariant a != b; endmodule")
    ≡ Some (module_m [] []
    (released (placed (codes "y") 18) (binary binop.Eq (at 33) (a 31) (b 36))
    (placed (codes "L") 39)
    ∷ invariant_item (at 55) (binary binop.Ne (at 55) (a 53) (b 58))
    ∷ []))
unfolding read
releases_and_invariants = refl

pub nearest_if_and_left_nesting :
    text_of
    (codes
    "module m; always @* if (a) if (b) y = 1; else y = 2; else y = 3; assign d = 7-2-1; endmodule")
    ≡ Some (module_m [] []
    (always_item (at 11) None
    (if_else (at 21) (a 25)
    (if_else (at 28) (b 32) (sets (codes "y") 35 (number 1 39)) (sets (codes "y") 47 (number 2 51)))
    (sets (codes "y") 59 (number 3 63)))
    ∷ continuous (target (codes "d") 73 whole ∷ []) (at 73)
    (binary binop.Sub (at 80) (binary binop.Sub (at 78) (number 7 77) (number 2 79)) (number 1 81))
    ∷ []))
unfolding read
nearest_if_and_left_nesting = refl

-- ---- lattices, label maps, labels

pub lattices : text_of (codes "lattice point L, H; L <= H; point T; endlattice module m; endmodule")
    ≡ Some (record {
      lattice = Some (record {
        place = at 1;
        points = placed (codes "L") 15 ∷ placed (codes "H") 18 ∷ placed (codes "T") 35 ∷ [];
        pairs = record { lower = placed (codes "L") 21; upper = placed (codes "H") 26 } ∷ [];
      });
      maps = [];
      modules =
          record { name = codes "m"; place = at 56; parameters = []; ports = []; items = [] } ∷ [];
    })
unfolding read
lattices = refl

abbrev key : ℕ → ℕ → KeyTree
key v n = record { value = plain v; place = at n }

pub maps_of_two_ranges :
    text_of
    (codes "labelmap T [0:0] [1:0] 0, 2: L; default: H; endlabelmap module m; endmodule")
    ≡ Some (record {
      lattice = None;
      maps = record {
        name = codes "T";
        place = at 10;
        span = record { high = number 0 13; low = number 0 15 };
        second = span (number 1 19) (number 0 21);
        rows = record { first = key 0 24; second = Some (key 2 27); to = codes "L" } ∷ [];
        other = Some (codes "H");
      } ∷ [];
      modules = record {
        name = codes "m";
        place = at 64;
        parameters = [];
        ports = [];
        items = [];
      } ∷ [];
    })
unfolding read
maps_of_two_ranges = refl

-- labels by two signals and by one
pub labels_by_signals : text_of (codes "module m; wire {T(p, q)} a; wire {U(p)} b; endmodule")
    ≡ Some (module_m [] []
    (declared (record (plainly kinds.Wire (codes "a") 26) {
      label = Some (table_label (codes "T") (codes "p") (Some (codes "q")) (at 17));
    })
    ∷ declared (record (plainly kinds.Wire (codes "b") 41) {
      label = Some (table_label (codes "U") (codes "p") None (at 35));
    })
    ∷ []))
unfolding read
labels_by_signals = refl
