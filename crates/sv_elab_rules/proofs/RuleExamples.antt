-- For each rule a text that breaks it, with the place and the names.
use Rattle.std.proofs.Common.{◌≡◌, List, [], ◌∷◌, Some, None, refl}
use Rattle.std.specs.Prelude.{codes}
use Rattle.sv_num.specs.declared.operators.BinOp.TheVariants as binop
use Rattle.sv_ast.specs.declared.declarations.DeclKind.TheVariants as kind
use Rattle.sv_ast.specs.Tree.{named_overrides, ordered_overrides, named_links, ordered_links}
use Rattle.sv_ast.specs.Tree.{LinkTrees, ItemTree, declared}
use Rattle.sv_elab_rules.specs.Texts.{walk_of}
use Rattle.sv_elab_rules.proofs.Computing.{computing}
use Rattle.sv_elab_rules.proofs.SmallTexts.{name, decimal, op, bit, part, joined, times, target}
use Rattle.sv_elab_rules.proofs.SmallTexts.{gets_later, range, declares, input, output, output_reg}
use Rattle.sv_elab_rules.proofs.SmallTexts.{wire, wire_with, point_of, table_of, local, parameter}
use Rattle.sv_elab_rules.proofs.SmallTexts.{on_edge, override, no_overrides, link, no_link}
use Rattle.sv_elab_rules.proofs.SmallTexts.{no_links, stands, module_of, placed, pair, row}
use Rattle.sv_elab_rules.proofs.SmallTexts.{map_tree, span, text_of, breaks, Breaks, ModuleBreaks}
use Rattle.sv_elab_rules.proofs.SmallTexts.{ModulesBreak, LatticeBreaks, MapsBreak}

-- The lattice.

-- lattice endlattice module m; endmodule
pub no_point : LatticeBreaks 301 1 [] 27
    [] []
unfolding computing
no_point = refl

-- lattice point A; A <= Z; endlattice module m; endmodule
pub an_unknown_point : LatticeBreaks 302 23 ("Z" ∷ []) 44
    (placed "A" 15 ∷ []) (pair "A" 18 "Z" 23 ∷ [])
unfolding computing
an_unknown_point = refl

-- lattice point A, B; A <= B; B <= A; endlattice module m; endmodule
pub points_that_flow_to_each_other : LatticeBreaks 303 1 ("A" ∷ "B" ∷ []) 55
    (placed "A" 15 ∷ placed "B" 18 ∷ []) (pair "A" 21 "B" 26 ∷ pair "B" 29 "A" 34 ∷ [])
unfolding computing
points_that_flow_to_each_other = refl

-- lattice point A, B, C; A <= B; A <= C; endlattice module m; endmodule
pub two_points_without_a_join : LatticeBreaks 304 1 ("B" ∷ "C" ∷ []) 58
    (placed "A" 15 ∷ placed "B" 18 ∷ placed "C" 21 ∷ [])
    (pair "A" 24 "B" 29 ∷ pair "A" 32 "C" 37 ∷ [])
unfolding computing
two_points_without_a_join = refl

-- lattice point A, B, C; A <= C; B <= C; endlattice module m; endmodule
pub two_points_without_a_meet : LatticeBreaks 305 1 ("A" ∷ "B" ∷ []) 58
    (placed "A" 15 ∷ placed "B" 18 ∷ placed "C" 21 ∷ [])
    (pair "A" 24 "C" 29 ∷ pair "B" 32 "C" 37 ∷ [])
unfolding computing
two_points_without_a_meet = refl

-- Label maps.

-- labelmap D [0:0] default: H; endlabelmap labelmap D [0:0] default: H; endlabelmap module m;
-- endmodule
pub a_map_twice : MapsBreak 306 51 ("D" ∷ []) 90
    (map_tree "D" 10 (span (decimal 0 13) (decimal 0 15)) None [] (Some (codes "H"))
    ∷ map_tree "D" 51 (span (decimal 0 54) (decimal 0 56)) None [] (Some (codes "H")) ∷ [])
unfolding computing
a_map_twice = refl

-- labelmap D [1:0] 4: L; default: H; endlabelmap module m; endmodule
pub a_key_out_of_range : MapsBreak 307 10 ("D" ∷ []) 55
    (map_tree "D" 10 (span (decimal 1 13) (decimal 0 15)) None (row 4 18 "L" ∷ [])
    (Some (codes "H")) ∷ [])
unfolding computing
a_key_out_of_range = refl

-- labelmap T [4:0] [3:0] default: H; endlabelmap module m; endmodule
pub more_than_eight_bits : MapsBreak 307 10 ("T" ∷ []) 55
    (map_tree "T" 10 (span (decimal 4 13) (decimal 0 15)) (range (decimal 3 19) (decimal 0 21))
    []
    (Some (codes "H")) ∷ [])
unfolding computing
more_than_eight_bits = refl

-- labelmap D [1:0] 0: L; 1: L; 3: H; endlabelmap module m; endmodule
pub a_key_without_a_row : MapsBreak 308 10 ("D" ∷ []) 55
    (map_tree "D" 10 (span (decimal 1 13) (decimal 0 15)) None
    (row 0 18 "L" ∷ row 1 24 "L" ∷ row 3 30 "H" ∷ [])
    None ∷ [])
unfolding computing
a_key_without_a_row = refl

-- Modules and instances.

-- module m; endmodule module n; endmodule
pub two_modules_without_instances : ModulesBreak 310 1 [] [] []
    (module_of "n" 28 [] [] [])
unfolding computing
two_modules_without_instances = refl

-- module m; q u(); endmodule
pub an_instance_of_no_module : ModuleBreaks 311 11 ("q" ∷ []) []
    (stands "q" 11 no_overrides "u" 13 no_links ∷ [])
unfolding computing
an_instance_of_no_module = refl

-- module m; endmodule module m; endmodule
pub a_module_twice : ModulesBreak 312 28 ("m" ∷ []) [] []
    (module_of "m" 28 [] [] [])
unfolding computing
a_module_twice = refl

-- module m; wire x, x; endmodule
pub a_signal_twice : ModuleBreaks 312 19 ("x" ∷ []) []
    (wire None "x" 16 ∷ wire None "x" 19 ∷ [])
unfolding computing
a_signal_twice = refl

-- module m; wire u; s u(); endmodule module s; endmodule
pub an_instance_named_as_a_signal : ModulesBreak 312 21 ("u" ∷ []) []
    (wire None "u" 16 ∷ stands "s" 19 no_overrides "u" 21 no_links ∷ [])
    (module_of "s" 43 [] [] [])
unfolding computing
an_instance_named_as_a_signal = refl

-- module m; s u(.z()); endmodule module s(input i); endmodule
pub an_unknown_port : ModulesBreak 313 16 ("z" ∷ []) []
    (stands "s" 11 no_overrides "u" 13 (named_links (no_link "z" 16 ∷ [])) ∷ [])
    (module_of "s" 39 [] (input None "i" 47 ∷ []) [])
unfolding computing
an_unknown_port = refl

-- wire w; s u(..);
abbrev linked_to_a_wire : LinkTrees → List ItemTree
linked_to_a_wire links = wire None "w" 16 ∷ stands "s" 19 no_overrides "u" 21 links ∷ []

-- module m; wire w; s u(.i(), .i(w)); endmodule module s(input i); endmodule
pub a_port_linked_again : ModulesBreak 313 30 ("i" ∷ []) []
    (linked_to_a_wire (named_links (no_link "i" 24 ∷ link "i" 30 (name "w" 32) ∷ [])))
    (module_of "s" 54 [] (input None "i" 62 ∷ []) [])
unfolding computing
a_port_linked_again = refl

-- module m; wire w; s u(w, w); endmodule module s(input i); endmodule
pub a_link_too_many : ModulesBreak 313 26 [] []
    (linked_to_a_wire (ordered_links (name "w" 23 ∷ name "w" 26 ∷ [])))
    (module_of "s" 47 [] (input None "i" 55 ∷ []) [])
unfolding computing
a_link_too_many = refl

-- module m; wire w; s u(.o(w[0])); endmodule module s(output o); endmodule
pub an_output_linked_to_a_bit : ModulesBreak 313 26 ("o" ∷ []) []
    (linked_to_a_wire (named_links (link "o" 24 (bit "w" 26 (decimal 0 28)) ∷ [])))
    (module_of "s" 51 [] (output None "o" 60 ∷ []) [])
unfolding computing
an_output_linked_to_a_bit = refl

-- module m; m u(); endmodule
pub a_module_inside_itself : (walk_of (
    text_of None [] (module_of "m" 8 [] [] (stands "m" 11 no_overrides "u" 13 no_links ∷ []) ∷ []))
    (Some (codes "m"))).end
    ≡ breaks 314 11 ("m" ∷ [])
unfolding computing
a_module_inside_itself = refl

-- module m; s #(.R(1)) u(); endmodule module s; localparam R = 3; endmodule
pub an_override_of_a_local_parameter : ModulesBreak 316 16 ("R" ∷ []) []
    (stands "s" 11 (named_overrides (override "R" 16 (decimal 1 18) ∷ [])) "u" 22 no_links ∷ [])
    (module_of "s" 44 [] [] (local None "R" 58 (decimal 3 62) ∷ []))
unfolding computing
an_override_of_a_local_parameter = refl

-- module m; s #(1, 2) u(); endmodule module s; parameter R = 3; endmodule
pub an_override_too_many : ModulesBreak 316 18 [] []
    (stands "s" 11 (ordered_overrides (decimal 1 15 ∷ decimal 2 18 ∷ [])) "u" 21 no_links ∷ [])
    (module_of "s" 43 [] [] (parameter None "R" 56 (decimal 3 60) ∷ []))
unfolding computing
an_override_too_many = refl

-- Expressions.

-- module m; wire w = nope; endmodule
pub an_unknown_name : ModuleBreaks 401 20 ("nope" ∷ []) []
    (wire_with None "w" 16 (name "nope" 20) ∷ [])
unfolding computing
an_unknown_name = refl

-- module m; parameter P = 5; wire w = P[0]; endmodule
pub a_bit_of_a_parameter : ModuleBreaks 401 37 ("P" ∷ []) []
    (parameter None "P" 21 (decimal 5 25)
    ∷ wire_with None "w" 33 (bit "P" 37 (decimal 0 39)) ∷ [])
unfolding computing
a_bit_of_a_parameter = refl

-- module m(output reg y); parameter K = 1; always @(posedge K) y <= 1; endmodule
pub a_parameter_after_posedge : ModuleBreaks 401 59 ("K" ∷ []) (output_reg None "y" 21 ∷ [])
    (parameter None "K" 35 (decimal 1 39)
    ∷ on_edge 42 "K" 59 (gets_later (target "y" 62 ∷ []) 62 (decimal 1 67)) ∷ [])
unfolding computing
a_parameter_after_posedge = refl

-- module m(input [63:0] a); wire w = {a, a[0]}; endmodule
pub a_join_of_more_than_64_bits : ModuleBreaks 402 36 []
    (input (range (decimal 63 17) (decimal 0 20)) "a" 23 ∷ [])
    (wire_with None "w" 32 (joined 36 (name "a" 37 ∷ bit "a" 40 (decimal 0 42) ∷ [])) ∷ [])
unfolding computing
a_join_of_more_than_64_bits = refl

-- module m(input [3:0] v); wire w = v[4]; endmodule
pub an_index_out_of_range : ModuleBreaks 403 37 []
    (input (range (decimal 3 17) (decimal 0 19)) "v" 22 ∷ [])
    (wire_with None "w" 31 (bit "v" 35 (decimal 4 37)) ∷ [])
unfolding computing
an_index_out_of_range = refl

-- module m(input [3:0] v); wire w = v[0:1]; endmodule
pub a_part_the_wrong_way_round : ModuleBreaks 403 35 []
    (input (range (decimal 3 17) (decimal 0 19)) "v" 22 ∷ [])
    (wire_with None "w" 31 (part "v" 35 (decimal 0 37) (decimal 1 39)) ∷ [])
unfolding computing
a_part_the_wrong_way_round = refl

-- module m(input a); wire [a:0] w; endmodule
pub a_signal_in_a_range : ModuleBreaks 404 26 [] (input None "a" 16 ∷ [])
    (wire (range (name "a" 26) (decimal 0 28)) "w" 31 ∷ [])
unfolding computing
a_signal_in_a_range = refl

-- module m; wire w = 1 / 0; endmodule
pub a_divisor_of_zero : ModuleBreaks 405 24 [] []
    (wire_with None "w" 16 (op binop.Div 22 (decimal 1 20) (decimal 0 24)) ∷ [])
unfolding computing
a_divisor_of_zero = refl

-- module m(input a); wire w = a / 2; endmodule
pub a_division_of_a_signal : ModuleBreaks 406 31 [] (input None "a" 16 ∷ [])
    (wire_with None "w" 25 (op binop.Div 31 (name "a" 29) (decimal 2 33)) ∷ [])
unfolding computing
a_division_of_a_signal = refl

-- module m(input a); wire w = {a, 3}; endmodule
pub an_unsized_part : ModuleBreaks 407 33 [] (input None "a" 16 ∷ [])
    (wire_with None "w" 25 (joined 29 (name "a" 30 ∷ decimal 3 33 ∷ [])) ∷ [])
unfolding computing
an_unsized_part = refl

-- module m(input a); wire w = {0{a}}; endmodule
pub a_count_of_zero : ModuleBreaks 408 30 [] (input None "a" 16 ∷ [])
    (wire_with None "w" 25 (times 29 (decimal 0 30) (name "a" 32 ∷ [])) ∷ [])
unfolding computing
a_count_of_zero = refl

-- module m; wire [0:1] w; endmodule
pub a_range_the_wrong_way_round : ModuleBreaks 409 17 [] []
    (wire (range (decimal 0 17) (decimal 1 19)) "w" 22 ∷ [])
unfolding computing
a_range_the_wrong_way_round = refl

-- Labels.

-- module m; wire {Q} w; endmodule
pub an_unknown_label : ModuleBreaks 410 17 ("Q" ∷ []) []
    (declared (declares kind.Wire None (point_of "Q" 17) "w" 20 None) ∷ [])
unfolding computing
an_unknown_label = refl

-- labelmap D [0:0] default: H; endlabelmap module m(input [1:0] s); wire {D(s)} w; endmodule
pub a_selector_of_another_width : Breaks 410 73 ("s" ∷ [])
    (text_of None
    (map_tree "D" 10 (span (decimal 0 13) (decimal 0 15)) None [] (Some (codes "H")) ∷ [])
    (module_of "m" 49 [] (input (range (decimal 1 58) (decimal 0 60)) "s" 63 ∷ [])
    (declared (declares kind.Wire None (table_of "D" 73 "s") "w" 79 None) ∷ []) ∷ []))
unfolding computing
a_selector_of_another_width = refl

-- labelmap T [0:0] [0:0] default: H; endlabelmap module m(input s); wire {T(s)} w; endmodule
pub a_selector_too_few : Breaks 410 73 ("T" ∷ [])
    (text_of None
    (map_tree "T" 10 (span (decimal 0 13) (decimal 0 15)) (range (decimal 0 19) (decimal 0 21))
    []
    (Some (codes "H")) ∷ [])
    (module_of "m" 55 [] (input None "s" 63 ∷ [])
    (declared (declares kind.Wire None (table_of "T" 73 "s") "w" 79 None) ∷ []) ∷ []))
unfolding computing
a_selector_too_few = refl
