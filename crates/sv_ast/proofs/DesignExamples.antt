-- Cycle systems of small texts.
use Prim.Native.String.{String}
use Rattle.std.proofs.Common.{◌≡◌, ℕ, true, false, List, [], ◌∷◌, Some, None, map, length, refl}
use Rattle.std.specs.Prelude.{codes, fold, filter, flat_map, not, ◌==◌}
use Rattle.sv_num.specs.declared.operators.UnOp.TheVariants as unop
use Rattle.sv_num.specs.declared.operators.BinOp.TheVariants as binop
use Rattle.sv_system.specs.System.{System, Environment}
use Rattle.sv_ast.specs.declared.declarations.DeclKind.TheVariants as kind
use Rattle.sv_ast.specs.Tree.{ExpressionTree, unary, part_of, named_overrides, ordered_overrides}
use Rattle.sv_ast.specs.Tree.{named_links, ordered_links, point_label, table_label, if_only}
use Rattle.sv_ast.specs.Tree.{case_of, no_arms, declared, ItemTree, ModuleTree, TextTree}
use Rattle.sv_ast.specs.Values.{value, signed_of}
use Rattle.sv_ast.specs.Runs.{run}
use Rattle.sv_ast.specs.Parts.{Path, parts_from}
use Rattle.sv_ast.specs.Processes.{processes_from}
use Rattle.sv_ast.specs.Meaning.{system}
use Rattle.sv_ast.proofs.SmallTrees.{somewhere, decimal_of, sized_of, name, op, to, to_part, puts}
use Rattle.sv_ast.proofs.SmallTrees.{begin_end, either, arm, bits, declaration_with, declares}
use Rattle.sv_ast.proofs.SmallTrees.{input, output, output_reg, parameter_with, assigns_to}
use Rattle.sv_ast.proofs.SmallTrees.{whenever, on_edge, link, sets, stands, module_with, text_of}
use Rattle.sv_ast.proofs.SmallTrees.{key, map_with, row, names, paths, paths_are, gets, gets_later}

abbrev Design : Type 0
Design = System Path (List ℕ)

-- the values of all signals in order
abbrev shown : Design → Environment Path → List ℕ
shown d e = map e d.signals

-- the values after each process has run once, in order
abbrev after_all : Design → Environment Path → List ℕ
after_all d e = shown d (fold (λ f change. change f) e d.processes)

-- the values after the clock edge of the registers, in order
abbrev stepped : Design → Environment Path → List ℕ
stepped d e = map (d.next e) (filter d.is_register d.signals)

-- Lengths: s = a + b has nine bits and h = (a + b) >> 1 eight.

abbrev sums : TextTree
sums = text_of (module_with "m" []
    (input (bits 8) "a" ∷ input (bits 8) "b" ∷ output (bits 9) "s" ∷ output (bits 8) "h" ∷ [])
    (assigns_to "s" (op binop.Add (name "a") (name "b"))
    ∷ assigns_to "h" (op binop.Shr (op binop.Add (name "a") (name "b")) (decimal_of 1)) ∷ [])
    ∷ [])

pub the_length_of_the_target : after_all (system sums None) (paths_are (("a", 255) ∷ ("b", 1) ∷ []))
    ≡ 255 ∷ 1 ∷ 256 ∷ 0 ∷ []
unfolding system parts_from processes_from run value signed_of
the_length_of_the_target = refl

pub signals_in_order : (system sums None).signals ≡ paths "a b s h"
unfolding system parts_from
signals_in_order = refl

pub widths_in_order : map (system sums None).width (system sums None).signals ≡ 8 ∷ 8 ∷ 9 ∷ 8 ∷ []
unfolding system parts_from value signed_of
widths_in_order = refl

pub inputs_of_the_top : filter (system sums None).is_input (system sums None).signals ≡ paths "a b"
unfolding system parts_from
inputs_of_the_top = refl

-- The nearest else, and 7 - 2 - 1.

abbrev nested : TextTree
nested = text_of (module_with "m" []
    (input None "a" ∷ input None "b" ∷ output_reg (bits 2) "y" ∷ output (bits 4) "d" ∷ [])
    (whenever (either (name "a")
    (either (name "b") (gets "y" (decimal_of 1)) (gets "y" (decimal_of 2)))
    (gets "y" (decimal_of 3)))
    ∷ assigns_to "d" (op binop.Sub (op binop.Sub (decimal_of 7) (decimal_of 2))
    (decimal_of 1)) ∷ [])
    ∷ [])

pub both_are_one : after_all (system nested None) (paths_are (("a", 1) ∷ ("b", 1) ∷ []))
    ≡ 1 ∷ 1 ∷ 1 ∷ 4 ∷ []
unfolding system parts_from processes_from run value signed_of
both_are_one = refl

pub the_first_is_one : after_all (system nested None) (paths_are (("a", 1) ∷ []))
    ≡ 1 ∷ 0 ∷ 2 ∷ 4 ∷ []
unfolding system parts_from processes_from run value signed_of
the_first_is_one = refl

-- `reg` alone makes no register
pub no_register : filter (system nested None).is_register (system nested None).signals ≡ []
unfolding system parts_from
no_register = refl

pub the_second_is_one : after_all (system nested None) (paths_are (("b", 1) ∷ []))
    ≡ 0 ∷ 1 ∷ 3 ∷ 4 ∷ []
unfolding system parts_from processes_from run value signed_of
the_second_is_one = refl

-- A complete case.

abbrev turned : TextTree
turned = text_of (module_with "m" [] (input (bits 2) "s" ∷ output_reg (bits 2) "y" ∷ [])
    (whenever (case_of somewhere (name "s")
    (arm (decimal_of 0 ∷ []) (gets "y" (decimal_of 3))
    (arm (decimal_of 1 ∷ []) (gets "y" (decimal_of 2))
    (arm (decimal_of 2 ∷ []) (gets "y" (decimal_of 1))
    (arm (decimal_of 3 ∷ []) (gets "y" (decimal_of 0)) no_arms))))) ∷ [])
    ∷ [])

pub complete_case : map (λ s. after_all (system turned None) (paths_are (("s", s) ∷ [])))
    (0 ∷ 1 ∷ 2 ∷ 3 ∷ [])
    ≡ (0 ∷ 3 ∷ []) ∷ (1 ∷ 2 ∷ []) ∷ (2 ∷ 1 ∷ []) ∷ (3 ∷ 0 ∷ []) ∷ []
unfolding system parts_from processes_from run value signed_of
complete_case = refl

-- Two instances with their own parameters and registers.

abbrev counter : ModuleTree
counter = module_with "cnt" (parameter_with false false None "W" (decimal_of 2) ∷ [])
    (input None "clk" ∷ input None "en"
    ∷ output_reg (Some (record {
      high = op binop.Sub (name "W") (decimal_of 1);
      low = decimal_of 0;
    })) "q" ∷ [])
    (on_edge "clk" (if_only somewhere (name "en")
    (gets_later "q" (op binop.Add (name "q") (decimal_of 1)))) ∷ [])

abbrev two_counters : TextTree
two_counters = text_of (counter
    ∷ module_with "top" []
    (input None "clk" ∷ input None "en" ∷ output (bits 4) "a" ∷ output (bits 8) "b" ∷ [])
    (stands "cnt" (named_overrides (sets "W" (decimal_of 4) ∷ [])) "u"
    (named_links
    (link "clk" (Some (name "clk")) ∷ link "en" (Some (name "en")) ∷
    link "q" (Some (name "a")) ∷ []))
    ∷ stands "cnt" (ordered_overrides (decimal_of 8 ∷ [])) "v"
    (ordered_links (name "clk" ∷ name "en" ∷ name "b" ∷ [])) ∷ [])
    ∷ [])

pub signals_of_instances : (system two_counters None).signals
    ≡ paths "en a b u.en u.q v.en v.q"
unfolding system parts_from
signals_of_instances = refl

pub widths_of_instances : map (system two_counters None).width (system two_counters None).signals
    ≡ 1 ∷ 4 ∷ 8 ∷ 1 ∷ 4 ∷ 1 ∷ 8 ∷ []
unfolding system parts_from value signed_of
widths_of_instances = refl

-- inputs of instances are no inputs of the design
pub one_input : filter (system two_counters None).is_input (system two_counters None).signals
    ≡ paths "en"
unfolding system parts_from
one_input = refl

pub two_registers : filter (system two_counters None).is_register (system two_counters None).signals
    ≡ paths "u.q v.q"
unfolding system parts_from
two_registers = refl

-- the links of `clk` are no processes
pub four_links : length (system two_counters None).processes ≡ 4
unfolding system parts_from processes_from
four_links = refl

abbrev both_full : ℕ → Environment Path
both_full en = paths_are (("en", en) ∷ ("u.en", en) ∷ ("v.en", en) ∷ ("u.q", 15) ∷ ("v.q", 15) ∷ [])

pub links_carry_values :
    after_all (system two_counters None) (paths_are (("en", 1) ∷ ("u.q", 15) ∷ ("v.q", 15) ∷ []))
    ≡ 1 ∷ 15 ∷ 15 ∷ 1 ∷ 15 ∷ 1 ∷ 15 ∷ []
unfolding system parts_from processes_from run value signed_of
links_carry_values = refl

pub each_counts_at_its_width : stepped (system two_counters None) (both_full 1) ≡ 0 ∷ 16 ∷ []
unfolding system parts_from processes_from run value signed_of
each_counts_at_its_width = refl

pub registers_keep_their_values : stepped (system two_counters None) (both_full 0) ≡ 15 ∷ 15 ∷ []
unfolding system parts_from processes_from run value signed_of
registers_keep_their_values = refl

-- under the module asked for
pub another_top : (system two_counters (Some (codes "cnt"))).signals ≡ paths "en q"
unfolding system parts_from
another_top = refl

-- Literals.

abbrev literals : TextTree
literals = text_of (module_with "m" []
    (output (bits 8) "a" ∷ output (bits 64) "b" ∷ output None "c" ∷ output None "d" ∷ [])
    (assigns_to "a" (sized_of 8 false 0xff) ∷ assigns_to "b" (sized_of 64 false 0xffffffffffffffff)
    ∷ assigns_to "c" (op binop.Lt (unary unop.Minus somewhere (decimal_of 1)) (decimal_of 0))
    ∷ assigns_to "d" (op binop.Lt (sized_of 8 false 255)
    (unary unop.Minus somewhere (decimal_of 1))) ∷ [])
    ∷ [])

pub literals_are_sized : after_all (system literals None) (paths_are [])
    ≡ 0xff ∷ 0xffffffffffffffff ∷ 1 ∷ 1 ∷ []
unfolding system parts_from processes_from run value signed_of
literals_are_sized = refl

-- Joins and parts on the left: {c, s} = a + b, and p from the low half of a and the high half of b.

abbrev low_part : String → ℕ → ℕ → ExpressionTree
low_part t high low = part_of (codes t) somewhere (decimal_of high) (decimal_of low)

abbrev pieces_on_the_left : TextTree
pieces_on_the_left = text_of (module_with "m" []
    (input (bits 4) "a" ∷ input (bits 4) "b" ∷ output_reg (bits 4) "s" ∷ output_reg None "c"
    ∷ output_reg (bits 4) "p" ∷ [])
    (whenever (puts (to "c" ∷ to "s" ∷ []) (op binop.Add (name "a") (name "b")))
    ∷ whenever (begin_end
    (puts (to_part "p" 1 0 ∷ []) (low_part "a" 1 0)
    ∷ puts (to_part "p" 3 2 ∷ []) (low_part "b" 3 2) ∷ [])) ∷ [])
    ∷ [])

pub a_carry_and_two_halves :
    after_all (system pieces_on_the_left None) (paths_are (("a", 15) ∷ ("b", 1) ∷ []))
    ≡ 15 ∷ 1 ∷ 0 ∷ 1 ∷ 3 ∷ []
unfolding system parts_from processes_from run value signed_of
a_carry_and_two_halves = refl

-- Earlier values: t = h; z = t; t = a; y = t;

abbrev earlier_values : TextTree
earlier_values = text_of (module_with "m" []
    (input None "a" ∷ input None "h" ∷ output_reg None "y" ∷ output_reg None "z" ∷ [])
    (declared (declares kind.Reg None "t")
    ∷ whenever (begin_end
    (gets "t" (name "h") ∷ gets "z" (name "t") ∷ gets "t" (name "a") ∷
    gets "y" (name "t") ∷ [])) ∷ [])
    ∷ [])

pub each_read_in_its_place : after_all (system earlier_values None) (paths_are (("h", 1) ∷ []))
    ≡ 0 ∷ 1 ∷ 0 ∷ 1 ∷ 0 ∷ []
unfolding system parts_from processes_from run value signed_of
each_read_in_its_place = refl

-- Labels: {Dom(p)} q and {Two(p, q)} d.

abbrev by_pairs : TextTree
by_pairs = record {
  lattice = None;
  maps = map_with "Dom" None (row (key 0) None "L" ∷ []) (Some "H")
      ∷ map_with "Two" (bits 1) (row (key 0) (Some (key 0)) "L" ∷ []) (Some "H") ∷ [];
  modules = module_with "m" []
      (input None "p"
      ∷ declaration_with kind.Input false None
      (Some (table_label (codes "Dom") (codes "p") None somewhere)) "q"
      ∷ declaration_with kind.Input false None
      (Some (table_label (codes "Two") (codes "p") (Some (codes "q")) somewhere)) "d"
      ∷ declaration_with kind.OutputWire false None (Some (point_label (codes "H") somewhere))
      "y" ∷ [])
      (assigns_to "y" (name "d") ∷ [])
      ∷ [];
}

abbrev labels : Design → Environment Path → List (List ℕ)
labels d e = map (λ s. d.label s e) d.signals

pub labels_of_zeros : labels (system by_pairs None) (paths_are []) ≡ names "L L L H"
unfolding system parts_from
labels_of_zeros = refl

pub labels_of_q : labels (system by_pairs None) (paths_are (("q", 1) ∷ [])) ≡ names "L L H H"
unfolding system parts_from
labels_of_q = refl

pub labels_of_p : labels (system by_pairs None) (paths_are (("p", 1) ∷ [])) ≡ names "L H H H"
unfolding system parts_from
labels_of_p = refl

pub points_flow_by_the_lattice :
    (system by_pairs None).flows (codes "L") (codes "H")
    ∷ (system by_pairs None).flows (codes "H") (codes "L") ∷ []
    ≡ true ∷ false ∷ []
unfolding system
points_flow_by_the_lattice = refl

-- In an instance a label is selected by the instance's own signal.

abbrev lanes : TextTree
lanes = record {
  lattice = None;
  maps = map_with "Dom" None (row (key 0) None "L" ∷ []) (Some "H") ∷ [];
  modules = module_with "lane" []
      (input None "turn" ∷ declaration_with kind.Input false None
      (Some (table_label (codes "Dom") (codes "turn") None somewhere)) "d" ∷ []) []
      ∷ module_with "top" [] (input None "turn" ∷ input None "x" ∷ [])
      (stands "lane" (named_overrides []) "u"
      (named_links (link "turn" None ∷ link "d" (Some (name "x")) ∷ [])) ∷ [])
      ∷ [];
}

pub the_selector_is_inside : map (λ (s : String).
    labels (system lanes None) (paths_are ((s, 1) ∷ [])))
    ("u.turn" ∷ "turn" ∷ [])
    ≡ names "L L L H" ∷ names "L L L L" ∷ []
unfolding system parts_from
the_selector_is_inside = refl

-- the empty link is no process
pub one_link : length (system lanes None).processes ≡ 1
unfolding system parts_from processes_from
one_link = refl

-- The order of the processes: item by item, of an instance its links and then what stands inside
-- it.

-- module s(input i, output o); wire m = ~i; assign o = ~m; endmodule
abbrev two_inverters : ModuleTree
two_inverters = module_with "s" [] (input None "i" ∷ output None "o" ∷ [])
    (declared (record (declares kind.Wire None "m")
    { value = Some (unary unop.Invert somewhere (name "i")) })
    ∷ assigns_to "o" (unary unop.Invert somewhere (name "m")) ∷ [])

abbrev inverters_between : String → String → String → ItemTree
inverters_between t i o = stands "s" (named_overrides []) t (ordered_links (name i ∷ name o ∷ []))

-- module t(input a, output y); wire x, z; s u(x, z), v(z, y), w(a, x); endmodule
abbrev three_instances : TextTree
three_instances = text_of (two_inverters
    ∷ module_with "t" [] (input None "a" ∷ output None "y" ∷ [])
    (declared (declares kind.Wire None "x") ∷ declared (declares kind.Wire None "z")
    ∷ inverters_between "u" "x" "z" ∷ inverters_between "v" "z" "y"
    ∷ inverters_between "w" "a" "x" ∷ [])
    ∷ [])

-- the signals that each process changes, process by process, each from the same environment
abbrev changed_in_order : Design → Environment Path → List Path
changed_in_order d e = flat_map (λ f. filter (λ s. not (f e s == e s)) d.signals) d.processes

-- in this environment every process changes its target
pub order_of_the_walk :
    changed_in_order (system three_instances None)
    (paths_are (("a", 1) ∷ ("y", 1) ∷ ("x", 1) ∷ ("z", 1) ∷ []))
    ≡ paths "u.i z u.m u.o v.i y v.m v.o w.i x w.m w.o"
unfolding system parts_from processes_from run value signed_of
order_of_the_walk = refl

-- module t(input clk, input d, output y, output z); reg q; assign y = q;
-- always @(posedge clk) q <= d; s u(q, z); wire w = d; endmodule
-- an `assign`, an instance and a `wire` in textual order; what is clocked is none of the processes
abbrev items_between : TextTree
items_between = text_of (two_inverters
    ∷ module_with "t" []
    (input None "clk" ∷ input None "d" ∷ output None "y" ∷ output None "z" ∷ [])
    (declared (declares kind.Reg None "q") ∷ assigns_to "y" (name "q")
    ∷ on_edge "clk" (gets_later "q" (name "d")) ∷ inverters_between "u" "q" "z"
    ∷ declared (record (declares kind.Wire None "w") { value = Some (name "d") }) ∷ [])
    ∷ [])

pub order_of_items :
    changed_in_order (system items_between None)
    (paths_are (("d", 1) ∷ ("y", 1) ∷ ("z", 1) ∷ ("u.i", 1) ∷ ("u.m", 1) ∷ ("u.o", 0) ∷ []))
    ≡ paths "y u.i z u.m w"
unfolding system parts_from processes_from run value signed_of
order_of_items = refl
