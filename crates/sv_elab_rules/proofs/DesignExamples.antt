-- Flat designs of small texts, compared whole or in the part that an example is about.
use Prim.Native.String.{String}
use Rattle.std.proofs.Common.{◌≡◌, ℕ, ◌+◌, ◌-◌, true, false, List, [], ◌∷◌, Option, Some, None, map}
use Rattle.std.proofs.Common.{refl}
use Rattle.std.specs.Prelude.{codes, option_map}
use Rattle.sv_num.specs.declared.operators.UnOp.TheVariants as unop
use Rattle.sv_num.specs.declared.operators.BinOp.TheVariants as binop
use Rattle.sv_lattice.specs.declared.labels.Label.{Label}
use Rattle.sv_lattice.specs.declared.labels.Label.TheVariants as label
use Rattle.sv_ast.specs.Tree.{unary, named_overrides, ordered_overrides, named_links, ordered_links}
use Rattle.sv_ast.specs.Tree.{ExpressionTree, ArmTrees, if_only, case_of, more_arms, no_arms, block}
use Rattle.sv_ast.specs.Tree.{TextTree}
use Rattle.sv_ast.specs.declared.declarations.DeclKind.TheVariants as kind
use Rattle.sv_flat.specs.declared.signals.SigKind.{SigKind}
use Rattle.sv_flat.specs.declared.signals.SigKind.TheVariants as signal_kind
use Rattle.sv_flat.specs.Design.{SignalForm, TypedTree, typed, constant, read, binary, PieceForm}
use Rattle.sv_flat.specs.Design.{FlatStatement, nothing, after, assign, branch, ProcessKind}
use Rattle.sv_flat.specs.Design.{continuous, port_in, port_out, combinational, clocked, ProcessForm}
use Rattle.sv_flat.specs.Design.{FlatDesign}
use Rattle.sv_elab_rules.specs.Texts.{flat_of}
use Rattle.sv_elab_rules.proofs.Computing.{computing}
use Rattle.sv_elab_rules.proofs.SmallTexts.{at, name, decimal, bits, op, target, target_part, gets}
use Rattle.sv_elab_rules.proofs.SmallTexts.{gets_later, in_order, range, declares, input, output}
use Rattle.sv_elab_rules.proofs.SmallTexts.{output_reg, wire_with, point_of, pair_table, sets_default}
use Rattle.sv_elab_rules.proofs.SmallTexts.{parameter, assigns, always, on_edge, override, link, stands}
use Rattle.sv_elab_rules.proofs.SmallTexts.{module_of, placed, pair, lattice_of, pair_row, map_tree, span}
use Rattle.sv_elab_rules.proofs.SmallTexts.{text_of, alone}

-- point 0, the least one where the text has no lattice
abbrev low : Label
low = label.Point (record { 0 = 0 })

abbrev signal_form : String → ℕ → SigKind → ℕ → SignalForm
signal_form n w k c =
    record { name = codes n; width = w; signed = false; kind = k; label = low; place = at c }

-- an unsigned signal at a length
abbrev reads : (width signal column : ℕ) → TypedTree
reads w s c = typed w false (read s (at c))

abbrev constant_at : (width value : ℕ) → TypedTree
constant_at w n = typed w false (constant n)

-- a piece for a whole signal of so many bits, from the value's bit `from` up
abbrev piece : (signal column width from : ℕ) → PieceForm
piece s c w from = record { signal = s; place = at c; high = w - 1; low = 0; from = from }

abbrev process : ℕ → ProcessKind → FlatStatement → ProcessForm
process c k body = record { place = at c; kind = k; body = body }

-- a whole signal of so many bits gets a value, at once or later
abbrev now : (signal column width : ℕ) → TypedTree → FlatStatement
now s c w e = assign (piece s c w 0 ∷ []) (at c) true e

abbrev later : (signal column width : ℕ) → TypedTree → FlatStatement
later s c w e = assign (piece s c w 0 ∷ []) (at c) false e

-- the processes of a text, if it has a flat design
abbrev processes : TextTree → Option (List ProcessForm)
processes text = option_map (λ (d : FlatDesign). d.processes) (flat_of text None)

abbrev labels : TextTree → Option (List Label)
labels text =
    option_map (λ (d : FlatDesign). map (λ (s : SignalForm). s.label) d.signals) (flat_of text None)

abbrev equal : (selector item : TypedTree) → TypedTree
equal a b = typed 1 false (binary binop.Eq a b)

-- Two instances of one module, each with a width and signals of its own.

-- module cnt #(parameter W = 2) (input clk, input en, output reg [W-1:0] q); always @(posedge clk)
-- if (en) q <= q + 1; endmodule module top(input clk, input en, output [3:0] a, output [7:0] b);
-- cnt #(.W(4)) u (.clk(clk), .en(en), .q(a)); cnt #(8) v (clk, en, b); endmodule
abbrev counters : TextTree
counters =
    text_of None []
    (module_of "cnt" 8 (sets_default None "W" 24 (decimal 2 28) ∷ [])
    (input None "clk" 38
    ∷ input None "en" 49
    ∷ output_reg
    (range (op binop.Sub 66 (name "W" 65) (decimal 1 67)) (decimal 0 69))
    "q"
    72 ∷ [])
    (on_edge 76 "clk" 93
    (if_only (at 98) (name "en" 102)
    (gets_later (target "q" 106 ∷ []) 106
    (op binop.Add 113 (name "q" 111) (decimal 1 115)))) ∷ [])
    ∷ module_of "top" 135 []
    (input None "clk" 145
    ∷ input None "en" 156
    ∷ output (range (decimal 3 168) (decimal 0 170)) "a" 173
    ∷ output (range (decimal 7 184) (decimal 0 186)) "b" 189 ∷ [])
    (stands "cnt" 193 (named_overrides (override "W" 200 (decimal 4 202) ∷ [])) "u" 206
    (named_links
    (link "clk" 210 (name "clk" 214)
    ∷ link "en" 221 (name "en" 224)
    ∷ link "q" 230 (name "a" 232) ∷ []))
    ∷ stands "cnt" 237 (ordered_overrides (decimal 8 243 ∷ [])) "v" 246
    (ordered_links (name "clk" 249 ∷ name "en" 254 ∷ name "b" 258 ∷ [])) ∷ []) ∷ [])

pub two_counters : flat_of counters None ≡ Some (record {
  signals =
      signal_form "clk" 1 signal_kind.TopInput 145
      ∷ signal_form "en" 1 signal_kind.TopInput 156
      ∷ signal_form "a" 4 signal_kind.Output 173
      ∷ signal_form "b" 8 signal_kind.Output 189
      ∷ signal_form "u.clk" 1 signal_kind.Input 38
      ∷ signal_form "u.en" 1 signal_kind.Input 49
      ∷ signal_form "u.q" 4 signal_kind.OutputReg 72
      ∷ signal_form "v.clk" 1 signal_kind.Input 38
      ∷ signal_form "v.en" 1 signal_kind.Input 49
      ∷ signal_form "v.q" 8 signal_kind.OutputReg 72 ∷ [];
  processes =
      process 214 port_in (now 4 214 1 (reads 1 0 214))
      ∷ process 224 port_in (now 5 224 1 (reads 1 1 224))
      ∷ process 232 port_out (now 2 232 4 (reads 4 6 232))
      ∷ process 76 (clocked 4) (branch (at 98) (reads 1 5 102)
      (later 6 106 4 (typed 32 false (binary binop.Add (reads 32 6 111) (constant_at 32 1))))
      nothing)
      ∷ process 249 port_in (now 7 249 1 (reads 1 0 249))
      ∷ process 254 port_in (now 8 254 1 (reads 1 1 254))
      ∷ process 258 port_out (now 3 258 8 (reads 8 9 258))
      ∷ process 76 (clocked 7) (branch (at 98) (reads 1 8 102)
      (later 9 106 8 (typed 32 false (binary binop.Add (reads 32 9 111) (constant_at 32 1))))
      nothing) ∷ [];
  lattice = 0b11 ∷ 0b10 ∷ [];
  points = codes "L" ∷ codes "H" ∷ [];
  maps = [];
  invariants = [];
})
unfolding computing
two_counters = refl

-- A case is a chain of `if`; the items of an arm are joined, and the default stands at its end.

-- module m(input [1:0] s, output reg [1:0] y); always @* case (s) 0, 3: y = 1; default: y = 0; 1: y
-- = 2; endcase endmodule
abbrev chained : TextTree
chained = alone (input (range (decimal 1 17) (decimal 0 19)) "s" 22
    ∷ output_reg (range (decimal 1 37) (decimal 0 39)) "y" 42 ∷ [])
    (always 46
    (case_of (at 56) (name "s" 62)
    (more_arms (at 65) (decimal 0 65 ∷ decimal 3 68 ∷ [])
    (gets (target "y" 71 ∷ []) 71 (decimal 1 75))
    (more_arms (at 78) [] (gets (target "y" 87 ∷ []) 87 (decimal 0 91))
    (more_arms (at 94) (decimal 1 94 ∷ [])
    (gets (target "y" 97 ∷ []) 97 (decimal 2 101))
    no_arms)))) ∷ [])

pub a_case_is_a_chain : processes chained ≡ Some (process 46 combinational
    (branch (at 65)
    (typed 1 false (binary binop.LogicOr
    (equal (reads 32 0 62) (constant_at 32 0))
    (equal (reads 32 0 62) (constant_at 32 3))))
    (now 1 71 2 (typed 32 true (constant 1)))
    (branch (at 94) (equal (reads 32 0 62) (constant_at 32 1))
    (now 1 97 2 (typed 32 true (constant 2)))
    (now 1 87 2 (typed 32 true (constant 0))))) ∷ [])
unfolding computing
a_case_is_a_chain = refl

-- module m(input s, output reg y); always @* case (..) .. endcase endmodule
abbrev cased : (selector : ExpressionTree) → ArmTrees → TextTree
cased e arms = alone (input None "s" 16 ∷ output_reg None "y" 30 ∷ [])
    (always 34 (case_of (at 44) e arms) ∷ [])

-- n: y = v;
abbrev sets_y : (column n v : ℕ) → ArmTrees → ArmTrees
sets_y c n v arms =
    more_arms (at c) (decimal n c ∷ [])
    (gets (target "y" (c + 3) ∷ []) (c + 3) (decimal v (c + 7)))
    arms

-- A case whose items leave nothing out takes its last arm as its default.

-- module m(input s, output reg y); always @* case (s) 0: y = 1; 1: y = 0; endcase endmodule
abbrev complete : TextTree
complete = cased (name "s" 50) (sets_y 53 0 1 (sets_y 63 1 0 no_arms))

pub a_complete_case : processes complete ≡ Some (process 34 combinational
    (branch (at 53) (equal (reads 32 0 50) (constant_at 32 0))
    (now 1 56 1 (typed 32 true (constant 1)))
    (now 1 66 1 (typed 32 true (constant 0)))) ∷ [])
unfolding computing
a_complete_case = refl

-- With one arm it reads nothing.

-- module m(input s, output reg y); always @* case (s) 0, 1: y = 1; endcase endmodule
abbrev one_arm : TextTree
one_arm = cased (name "s" 50)
    (more_arms (at 53) (decimal 0 53 ∷ decimal 1 56 ∷ [])
    (gets (target "y" 59 ∷ []) 59 (decimal 1 63))
    no_arms)

pub a_complete_case_with_one_arm : processes one_arm ≡ Some
    (process 34 combinational (now 1 59 1 (typed 32 true (constant 1))) ∷ [])
unfolding computing
a_complete_case_with_one_arm = refl

-- At 32 bits s + 1'b1 may be 2, so nothing may be assigned.

-- module m(input s, output reg y); always @* case (s + 1'b1) 0: y = 1; 1: y = 0; endcase endmodule
abbrev carried : TextTree
carried = cased (op binop.Add 52 (name "s" 50) (bits 1 1 54))
    (sets_y 60 0 1 (sets_y 70 1 0 no_arms))

pub a_carry_passes_the_own_bits : processes carried ≡ Some (process 34 combinational
    (branch (at 60) (equal (typed 32 false (binary binop.Add (reads 32 0 50) (constant_at 32 1)))
    (constant_at 32 0))
    (now 1 63 1 (typed 32 true (constant 1)))
    (branch (at 70) (equal (typed 32 false (binary binop.Add (reads 32 0 50) (constant_at 32 1)))
    (constant_at 32 1))
    (now 1 73 1 (typed 32 true (constant 0)))
    nothing)) ∷ [])
unfolding computing
a_carry_passes_the_own_bits = refl

-- A division of constants stands as its value at the pushed length and signedness.

-- module m(input [7:0] a, output [8:0] y); assign y = a + 8'd255 / 8'd2; wire [31:0] w = -7 / 2;
-- endmodule
abbrev divided : TextTree
divided = alone (input (range (decimal 7 17) (decimal 0 19)) "a" 22
    ∷ output (range (decimal 8 33) (decimal 0 35)) "y" 38 ∷ [])
    (assigns (target "y" 49 ∷ []) 49
    (op binop.Add 55 (name "a" 53) (op binop.Div 64 (bits 8 255 57) (bits 8 2 66)))
    ∷ wire_with (range (decimal 31 78) (decimal 0 81)) "w" 84
    (op binop.Div 91 (unary unop.Minus (at 88) (decimal 7 89)) (decimal 2 93)) ∷ [])

pub divisions_are_values : processes divided ≡ Some
    (process 49 continuous
    (now 1 49 9 (typed 9 false (binary binop.Add (reads 9 0 53) (constant_at 9 127))))
    ∷ process 84 continuous (now 2 84 32 (typed 32 true (constant 0xfffffffd))) ∷ [])
unfolding computing
divisions_are_values = refl

-- Targets: the last one has the lowest bits, and the right side is taken at the sum of their
-- lengths.

-- module m(input [3:0] a, input [3:0] b, output reg [3:0] s, output reg c, output reg [3:0] p);
-- always @* {c, s} = a + b; always @* begin p[1:0] = a; p[3:2] = b; end endmodule
abbrev carrying : TextTree
carrying = alone (input (range (decimal 3 17) (decimal 0 19)) "a" 22
    ∷ input (range (decimal 3 32) (decimal 0 34)) "b" 37
    ∷ output_reg (range (decimal 3 52) (decimal 0 54)) "s" 57
    ∷ output_reg None "c" 71
    ∷ output_reg (range (decimal 3 86) (decimal 0 88)) "p" 91 ∷ [])
    (always 95
    (gets (target "c" 106 ∷ target "s" 109 ∷ []) 106
    (op binop.Add 116 (name "a" 114) (name "b" 118)))
    ∷ always 121
    (block
    (in_order
    (gets (target_part "p" 137 (decimal 1 139) (decimal 0 141) ∷ []) 137
    (name "a" 146)
    ∷ gets (target_part "p" 149 (decimal 3 151) (decimal 2 153) ∷ []) 149
    (name "b" 158) ∷ []))) ∷ [])

pub pieces_of_a_sum : processes carrying ≡ Some
    (process 95 combinational (assign (piece 3 106 1 4 ∷ piece 2 109 4 0 ∷ []) (at 106) true
    (typed 5 false (binary binop.Add (reads 5 0 114) (reads 5 1 118))))
    ∷ process 121 combinational (after
    (assign (record { signal = 4; place = at 137; high = 1; low = 0; from = 0 } ∷ []) (at 137) true
    (reads 4 0 146))
    (after
    (assign (record { signal = 4; place = at 149; high = 3; low = 2; from = 0 } ∷ []) (at 149) true
    (reads 4 1 158))
    nothing)) ∷ [])
unfolding computing
pieces_of_a_sum = refl

-- A parameter with a range takes its value at the expression's own length, and then the range.

-- module m(output [7:0] y); parameter [7:0] U = 4'hf + 4'h1; assign y = U; endmodule
abbrev ranged : TextTree
ranged = alone (output (range (decimal 7 18) (decimal 0 20)) "y" 23 ∷ [])
    (parameter (range (decimal 7 38) (decimal 0 40)) "U" 43
    (op binop.Add 52 (bits 4 15 47) (bits 4 1 54))
    ∷ assigns (target "y" 67 ∷ []) 67 (name "U" 71) ∷ [])

pub a_carry_is_lost_before_the_range : processes ranged ≡
    Some (process 67 continuous (now 0 67 8 (constant_at 8 0)) ∷ [])
unfolding computing
a_carry_is_lost_before_the_range = refl

-- Labels of two selectors, and the rows of their map.

-- labelmap T [0:0] [1:0] 0, 0: L; 1, 3: L; default: H; endlabelmap module m(input s, input [1:0] t,
-- input {T(s, t)} a); endmodule
abbrev selected : TextTree
selected =
    text_of None
    (map_tree "T" 10 (span (decimal 0 13) (decimal 0 15)) (range (decimal 1 19) (decimal 0 21))
    (pair_row 0 24 0 27 "L" ∷ pair_row 1 33 3 36 "L" ∷ [])
    (Some (codes "H")) ∷ [])
    (module_of "m" 73 []
    (input None "s" 81
    ∷ input (range (decimal 1 91) (decimal 0 93)) "t" 96
    ∷ declares kind.Input None (pair_table "T" 106 "s" "t") "a" 115 None ∷ [])
    [] ∷ [])

pub a_label_of_two_selectors : labels selected ≡ Some (low ∷ low ∷ label.Table 0 0 (Some 1) ∷ [])
unfolding computing
a_label_of_two_selectors = refl

pub rows_in_order : option_map (λ (d : FlatDesign). d.maps) (flat_of selected None) ≡
    Some ((record {
      first = 1;
      second = Some 2;
      rows = map (λ n. record { 0 = n }) (0 ∷ 1 ∷ 1 ∷ 1 ∷ 1 ∷ 1 ∷ 1 ∷ 0 ∷ []);
    }) ∷ [])
unfolding computing
rows_in_order = refl

-- A signal without a label has the least point.

-- lattice point D, B, C, A; B <= D; C <= D; A <= B; A <= C; endlattice module m(input a, input {D}
-- b); endmodule
abbrev turned : TextTree
turned =
    text_of
    (lattice_of 1
    (placed "D" 15 ∷ placed "B" 18 ∷ placed "C" 21 ∷ placed "A" 24 ∷ [])
    (pair "B" 27 "D" 32 ∷ pair "C" 35 "D" 40 ∷ pair "A" 43 "B" 48 ∷ pair "A" 51 "C" 56 ∷ []))
    []
    (module_of "m" 77 []
    (input None "a" 85 ∷ declares kind.Input None (point_of "D" 95) "b" 98 None ∷ [])
    [] ∷ [])

pub the_least_point :
    labels turned ≡ Some (label.Point (record { 0 = 3 }) ∷ label.Point (record { 0 = 0 }) ∷ [])
unfolding computing
the_least_point = refl

pub the_flows_of_four_points : option_map (λ (d : FlatDesign). d.lattice) (flat_of turned None)
    ≡ Some (0b0001 ∷ 0b0011 ∷ 0b0101 ∷ 0b1111 ∷ [])
unfolding computing
the_flows_of_four_points = refl
