-- Texts that break two rules: which one is met first.
use Rattle.std.proofs.Common.{◌≡◌, List, [], ◌∷◌, Some, None, refl}
use Rattle.std.specs.Prelude.{codes}
use Rattle.sv_num.specs.declared.operators.BinOp.TheVariants as binop
use Rattle.sv_ast.specs.declared.declarations.DeclKind.TheVariants as kind
use Rattle.sv_ast.specs.Tree.{named_overrides, ordered_links, named_links, case_of, more_arms}
use Rattle.sv_ast.specs.Tree.{no_arms, ItemTree, declared}
use Rattle.sv_elab_rules.specs.Texts.{walk_of}
use Rattle.sv_elab_rules.proofs.Computing.{computing}
use Rattle.sv_elab_rules.proofs.SmallTexts.{at, name, decimal, bits, op, bit, joined, target}
use Rattle.sv_elab_rules.proofs.SmallTexts.{target_bit, gets, range, declares, input, output}
use Rattle.sv_elab_rules.proofs.SmallTexts.{output_reg, wire, wire_with, point_of, parameter}
use Rattle.sv_elab_rules.proofs.SmallTexts.{assigns, always, override, no_overrides, no_links, link}
use Rattle.sv_elab_rules.proofs.SmallTexts.{stands, module_of, placed, pair, row, map_tree, span}
use Rattle.sv_elab_rules.proofs.SmallTexts.{text_of, breaks, ModuleBreaks, ModulesBreak}
use Rattle.sv_elab_rules.proofs.SmallTexts.{LatticeBreaks, MapsBreak}

-- The lattice and the maps.

-- lattice point A; A <= Z; point A; endlattice module m; endmodule
pub names_of_points_in_textual_order : LatticeBreaks 302 23 ("Z" ∷ []) 53
    (placed "A" 15 ∷ placed "A" 32 ∷ []) (pair "A" 18 "Z" 23 ∷ [])
unfolding computing
names_of_points_in_textual_order = refl

-- labelmap D [0:0] 0: L; endlabelmap labelmap E [9:0] default: L; endlabelmap module m; endmodule
pub a_map_before_the_next_one : MapsBreak 308 10 ("D" ∷ []) 84
    (map_tree "D" 10 (span (decimal 0 13) (decimal 0 15)) None (row 0 18 "L" ∷ []) None
    ∷ map_tree "E" 45 (span (decimal 9 48) (decimal 0 50)) None [] (Some (codes "L")) ∷ [])
unfolding computing
a_map_before_the_next_one = refl

-- Declarations before labels, labels before values.

-- module m; wire {Q} w; wire [z:0] x; endmodule
pub a_later_range_before_an_earlier_label : ModuleBreaks 401 29 ("z" ∷ []) []
    (declared (declares kind.Wire None (point_of "Q" 17) "w" 20 None)
    ∷ wire (range (name "z" 29) (decimal 0 31)) "x" 34 ∷ [])
unfolding computing
a_later_range_before_an_earlier_label = refl

-- module m; wire w = nope; wire {R} x; endmodule
pub a_later_label_before_an_earlier_value : ModuleBreaks 410 32 ("R" ∷ []) []
    (wire_with None "w" 16 (name "nope" 20)
    ∷ declared (declares kind.Wire None (point_of "R" 32) "x" 35 None) ∷ [])
unfolding computing
a_later_label_before_an_earlier_value = refl

-- module m; wire x; wire [z:0] x; endmodule
pub a_range_before_the_name : ModuleBreaks 401 25 ("z" ∷ []) []
    (wire None "x" 16 ∷ wire (range (name "z" 25) (decimal 0 27)) "x" 30 ∷ [])
unfolding computing
a_range_before_the_name = refl

-- module m(input a); wire w = x; wire x = nope; endmodule
pub a_signal_may_be_named_before_it_is_declared : ModuleBreaks 401 41 ("nope" ∷ [])
    (input None "a" 16 ∷ [])
    (wire_with None "w" 25 (name "x" 29) ∷ wire_with None "x" 37 (name "nope" 41) ∷ [])
unfolding computing
a_signal_may_be_named_before_it_is_declared = refl

-- module m; wire [x:0] w; wire x; endmodule
pub a_later_signal_is_no_constant : ModuleBreaks 404 17 [] []
    (wire (range (name "x" 17) (decimal 0 19)) "w" 22 ∷ wire None "x" 30 ∷ [])
unfolding computing
a_later_signal_is_no_constant = refl

-- module m; wire [P:0] w; parameter P = 1; endmodule
pub a_later_parameter_is_unknown : ModuleBreaks 401 17 ("P" ∷ []) []
    (wire (range (name "P" 17) (decimal 0 19)) "w" 22
    ∷ parameter None "P" 35 (decimal 1 39) ∷ [])
unfolding computing
a_later_parameter_is_unknown = refl

-- module m; s #(.P(3)) u(); endmodule module s; parameter P = z; wire [Q:0] w; endmodule
pub a_default_that_is_overridden_is_not_asked : ModulesBreak 401 70 ("Q" ∷ []) []
    (stands "s" 11 (named_overrides (override "P" 16 (decimal 3 18) ∷ [])) "u" 22 no_links ∷ [])
    (module_of "s" 44 [] [] (parameter None "P" 57 (name "z" 61)
    ∷ wire (range (name "Q" 70) (decimal 0 72)) "w" 75 ∷ []))
unfolding computing
a_default_that_is_overridden_is_not_asked = refl

-- Expressions.

-- module m; wire w = 1 / 0 + nope; endmodule
pub a_zero_divisor_after_the_other_rules : ModuleBreaks 401 28 ("nope" ∷ []) []
    (wire_with None "w" 16
    (op binop.Add 26 (op binop.Div 22 (decimal 1 20) (decimal 0 24)) (name "nope" 28)) ∷ [])
unfolding computing
a_zero_divisor_after_the_other_rules = refl

-- module m(input [3:0] v); wire w = v[1 / 0] + nope; endmodule
pub a_constant_index_is_taken_whole : ModuleBreaks 405 41 []
    (input (range (decimal 3 17) (decimal 0 19)) "v" 22 ∷ [])
    (wire_with None "w" 31
    (op binop.Add 44
    (bit "v" 35 (op binop.Div 39 (decimal 1 37) (decimal 0 41)))
    (name "nope" 46)) ∷ [])
unfolding computing
a_constant_index_is_taken_whole = refl

-- module m(input [63:0] a); wire w = {a, 3}; endmodule
pub the_lower_number_first : ModuleBreaks 402 36 []
    (input (range (decimal 63 17) (decimal 0 20)) "a" 23 ∷ [])
    (wire_with None "w" 32 (joined 36 (name "a" 37 ∷ decimal 3 40 ∷ [])) ∷ [])
unfolding computing
the_lower_number_first = refl

-- module m; wire [15:0] w = 8'd1 / (8'd255 + 8'd1); wire x = 8'd1 / (8'd255 + 8'd1); endmodule
pub the_pushed_length_of_a_divisor : ModuleBreaks 405 75 [] []
    (wire_with (range (decimal 15 17) (decimal 0 20)) "w" 23
    (op binop.Div 32 (bits 8 1 27) (op binop.Add 42 (bits 8 255 35) (bits 8 1 44)))
    ∷ wire_with None "x" 56
    (op binop.Div 65 (bits 8 1 60) (op binop.Add 75 (bits 8 255 68) (bits 8 1 77))) ∷ [])
unfolding computing
the_pushed_length_of_a_divisor = refl

-- Statements.

-- module m(output reg [63:0] y); always @* {y, y[0]} = nope; endmodule
pub targets_before_the_right_side : ModuleBreaks 402 43 []
    (output_reg (range (decimal 63 22) (decimal 0 25)) "y" 28 ∷ [])
    (always 32
    (gets (target "y" 43 ∷ target_bit "y" 46 (decimal 0 48) ∷ []) 43 (name "nope" 54)) ∷ [])
unfolding computing
targets_before_the_right_side = refl

-- module m(output reg y); always @* case (1 / 0) nope: y = 0; endcase endmodule
pub a_selector_with_its_divisors_before_the_items : ModuleBreaks 405 45 []
    (output_reg None "y" 21 ∷ [])
    (always 25
    (case_of (at 35) (op binop.Div 43 (decimal 1 41) (decimal 0 45))
    (more_arms (at 48) (name "nope" 48 ∷ [])
    (gets (target "y" 54 ∷ []) 54 (decimal 0 58))
    no_arms)) ∷ [])
unfolding computing
a_selector_with_its_divisors_before_the_items = refl

-- module m(input v, output reg y); always @* case (v) 0: y = e; f: y = 1; endcase endmodule
pub a_body_before_the_next_items : ModuleBreaks 401 60 ("e" ∷ [])
    (input None "v" 16 ∷ output_reg None "y" 30 ∷ [])
    (always 34
    (case_of (at 44) (name "v" 50)
    (more_arms (at 53) (decimal 0 53 ∷ [])
    (gets (target "y" 56 ∷ []) 56 (name "e" 60))
    (more_arms (at 63) (name "f" 63 ∷ [])
    (gets (target "y" 66 ∷ []) 66 (decimal 1 70))
    no_arms))) ∷ [])
unfolding computing
a_body_before_the_next_items = refl

-- Instances.

-- module m; wire u; q u(); endmodule
pub the_module_before_the_name : ModuleBreaks 311 19 ("q" ∷ []) []
    (wire None "u" 16 ∷ stands "q" 19 no_overrides "u" 21 no_links ∷ [])
unfolding computing
the_module_before_the_name = refl

-- module m; wire u; m u(); endmodule
pub the_name_before_the_module_around : (walk_of (
    text_of None []
    (module_of "m" 8 [] []
    (wire None "u" 16 ∷ stands "m" 19 no_overrides "u" 21 no_links ∷ []) ∷ []))
    (Some (codes "m"))).end
    ≡ breaks 312 21 ("u" ∷ [])
unfolding computing
the_name_before_the_module_around = refl

-- module m; s #(.X(1)) u(nope); endmodule module s(input i); endmodule
pub overrides_before_links : ModulesBreak 316 16 ("X" ∷ []) []
    (stands "s" 11 (named_overrides (override "X" 16 (decimal 1 18) ∷ [])) "u" 22
    (ordered_links (name "nope" 24 ∷ [])) ∷ [])
    (module_of "s" 48 [] (input None "i" 56 ∷ []) [])
unfolding computing
overrides_before_links = refl

-- module m; s u(nope); endmodule module s(input i); wire w = z; endmodule
pub links_before_the_inside : ModulesBreak 401 15 ("nope" ∷ []) []
    (stands "s" 11 no_overrides "u" 13 (ordered_links (name "nope" 15 ∷ [])) ∷ [])
    (module_of "s" 39 [] (input None "i" 47 ∷ []) (wire_with None "w" 56 (name "z" 60) ∷ []))
unfolding computing
links_before_the_inside = refl

-- s u(8'd1 / (8'd255 + 8'd1));
abbrev linked_to_a_quotient : List ItemTree
linked_to_a_quotient =
    stands "s" 11 no_overrides "u" 13
    (ordered_links
    (op binop.Div 20 (bits 8 1 15) (op binop.Add 30 (bits 8 255 23) (bits 8 1 32)) ∷ [])) ∷ []

-- module m; s u(8'd1 / (8'd255 + 8'd1)); endmodule module s(input [15:0] i, input [z:0] j);
-- endmodule
pub the_width_of_a_port_before_a_broken_one : ModulesBreak 401 82 ("z" ∷ []) []
    linked_to_a_quotient
    (module_of "s" 57 [] (input (range (decimal 15 66) (decimal 0 69)) "i" 72
    ∷ input (range (name "z" 82) (decimal 0 84)) "j" 87 ∷ []) [])
unfolding computing
the_width_of_a_port_before_a_broken_one = refl

-- module m(input x, output y); s u(.a(4'd8 / (4'd15 + 4'd1)), .b(x), .o(y)); endmodule
-- module s(input [7:0] a, input [3:1] b, output o); assign o = a[0]; endmodule
pub the_width_of_a_linked_port_before_a_broken_one : ModulesBreak 409 117 []
    (input None "x" 16 ∷ output None "y" 26 ∷ [])
    (stands "s" 30 no_overrides "u" 32
    (named_links
    (link "a" 35 (op binop.Div 42 (bits 4 8 37) (op binop.Add 51 (bits 4 15 45) (bits 4 1 53)))
    ∷ link "b" 62 (name "x" 64) ∷ link "o" 69 (name "y" 71) ∷ [])) ∷ [])
    (module_of "s" 93 [] (input (range (decimal 7 102) (decimal 0 104)) "a" 107
    ∷ input (range (decimal 3 117) (decimal 1 119)) "b" 122 ∷ output None "o" 132 ∷ [])
    (assigns (target "o" 143 ∷ []) 143 (bit "a" 147 (decimal 0 149)) ∷ []))
unfolding computing
the_width_of_a_linked_port_before_a_broken_one = refl

-- module m; s u(4'd1 / (4'd8 + 4'd8)); endmodule module s(input [z:0] i); endmodule
pub no_width_of_a_broken_port : ModulesBreak 405 28 [] []
    (stands "s" 11 no_overrides "u" 13
    (ordered_links (op binop.Div 20 (bits 4 1 15)
    (op binop.Add 28 (bits 4 8 23) (bits 4 8 30)) ∷ [])) ∷ [])
    (module_of "s" 55 [] (input (range (name "z" 64) (decimal 0 66)) "i" 69 ∷ []) [])
unfolding computing
no_width_of_a_broken_port = refl

-- module m; s u(8'd1 / (8'd255 + 8'd1)); endmodule module s(input [15:0] i); wire w = z; endmodule
pub the_width_of_a_port : ModulesBreak 401 85 ("z" ∷ []) []
    linked_to_a_quotient
    (module_of "s" 57 [] (input (range (decimal 15 66) (decimal 0 69)) "i" 72 ∷ [])
    (wire_with None "w" 81 (name "z" 85) ∷ []))
unfolding computing
the_width_of_a_port = refl
