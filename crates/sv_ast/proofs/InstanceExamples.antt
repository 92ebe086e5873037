-- Parameters, scopes, links and tops of small modules.
use Rattle.std.proofs.Common.{◌≡◌, ℕ, true, false, List, [], ◌∷◌, Some, None, map, refl}
use Rattle.std.specs.Prelude.{codes, option_map}
use Rattle.sv_num.specs.declared.operators.BinOp.TheVariants as binop
use Rattle.sv_ast.specs.Scopes.{Scope, Binding, parameter, signal}
use Rattle.sv_ast.specs.Tree.{ExpressionTree, parameter_item, ModuleTree, ParameterTree}
use Rattle.sv_ast.specs.Tree.{named_overrides, ordered_overrides, named_links, ordered_links}
use Rattle.sv_ast.specs.Values.{value, signed_of}
use Rattle.sv_ast.specs.Instances.{entry, module_named, top_module, masters, open_parameters}
use Rattle.sv_ast.specs.Instances.{settings, span_width, parameter_value, bindings, scope_of}
use Rattle.sv_ast.specs.Instances.{linked_ports, whole_name, whole_signal}
use Rattle.sv_ast.proofs.SmallTrees.{decimal_of, sized_of, name, op, bits, input, output}
use Rattle.sv_ast.proofs.SmallTrees.{parameter_with, sets, link, stands, module_with, names}

-- `f` needs nothing, `g` has an instance of `f`, `h` one of itself
abbrev f : ModuleTree
f = module_with "f" [] (input None "i" ∷ output (bits 4) "o" ∷ []) []

abbrev g : ModuleTree
g = module_with "g" [] [] (stands "f" (named_overrides []) "u" (named_links []) ∷ [])

abbrev h : ModuleTree
h = module_with "h" [] [] (stands "h" (named_overrides []) "u" (named_links []) ∷ [])

abbrev name_of : ModuleTree → List ℕ
name_of m = m.name

pub the_top_has_no_instances : option_map name_of (top_module (f ∷ g ∷ []) None) ≡ Some (codes "g")
the_top_has_no_instances = refl

pub another_top_is_asked_for : option_map name_of (top_module (f ∷ g ∷ []) (Some (codes "f")))
    ≡ Some (codes "f")
another_top_is_asked_for = refl

pub two_tops_are_none : top_module (g ∷ module_with "k" [] [] [] ∷ f ∷ []) None ≡ None
two_tops_are_none = refl

pub an_absent_top_is_none : top_module (f ∷ []) (Some (codes "g")) ≡ None
an_absent_top_is_none = refl

-- a module inside itself is no top, but may be asked for
pub an_instance_of_itself : top_module (h ∷ []) None ≡ None
an_instance_of_itself = refl

pub an_asked_instance_of_itself : option_map name_of (top_module (h ∷ []) (Some (codes "h")))
    ≡ Some (codes "h")
an_asked_instance_of_itself = refl

abbrev no_scope : Scope
no_scope n = None

-- module p #(parameter W = 2, parameter D = W * 2) (input [D-1:0] a, input b);
-- parameter B = 7; localparam C = D + 1; endmodule
abbrev p : ModuleTree
p = module_with "p"
    (parameter_with false false None "W" (decimal_of 2)
    ∷ parameter_with false false None "D" (op binop.Mul (name "W") (decimal_of 2)) ∷ [])
    (input (Some (record { high = op binop.Sub (name "D") (decimal_of 1); low = decimal_of 0 })) "a"
    ∷ input None "b" ∷ [])
    (parameter_item (parameter_with false false None "B" (decimal_of 7))
    ∷ parameter_item (parameter_with true false None "C" (op binop.Add (name "D") (decimal_of 1)))
    ∷ [])

-- a 32-bit signed value, as a plain decimal has it
abbrev plain : ℕ → Binding
plain n = parameter (record { width = 32; signed = true; value = n })

abbrev named_parameter : ParameterTree → List ℕ
named_parameter q = q.name

pub body_parameters_beside_a_header_are_local : map named_parameter (open_parameters p)
    ≡ names "W D"
body_parameters_beside_a_header_are_local = refl

pub body_parameters_without_a_header_are_open :
    map named_parameter (open_parameters
    (module_with "q" [] []
    (parameter_item (parameter_with true false None "A" (decimal_of 1))
    ∷ parameter_item (parameter_with false false None "B" (decimal_of 1)) ∷ [])))
    ≡ names "B"
body_parameters_without_a_header_are_open = refl

pub defaults : bindings [] p
    ≡ (codes "W", plain 2) ∷ (codes "D", plain 4) ∷ (codes "a", signal 4 false)
    ∷ (codes "b", signal 1 false) ∷ (codes "B", plain 7) ∷ (codes "C", plain 5) ∷ []
unfolding value signed_of
defaults = refl

-- #(.W(4)): what depends on W follows
pub an_override_by_name :
    bindings (settings no_scope p (named_overrides (sets "W" (decimal_of 4) ∷ []))) p
    ≡ (codes "W", plain 4) ∷ (codes "D", plain 8) ∷ (codes "a", signal 8 false)
    ∷ (codes "b", signal 1 false) ∷ (codes "B", plain 7) ∷ (codes "C", plain 9) ∷ []
unfolding value signed_of
an_override_by_name = refl

-- #(4, 3): the second is D
pub overrides_by_order :
    scope_of (settings no_scope p (ordered_overrides (decimal_of 4 ∷ decimal_of 3 ∷ []))) p
    (codes "a")
    ≡ Some (signal 3 false)
unfolding value signed_of
overrides_by_order = refl

-- an override is a constant of the outer module: W is 2 inside, and 5 outside
pub an_override_is_taken_outside :
    scope_of (settings (λ n. Some (plain 5)) p (named_overrides (sets "D" (name "W") ∷ []))) p
    (codes "D")
    ≡ Some (plain 5)
unfolding value signed_of
an_override_is_taken_outside = refl

pub no_binding_of_another_name : scope_of [] p (codes "c") ≡ None
unfolding value signed_of
no_binding_of_another_name = refl

-- 4'hf + 4'h1
abbrev sum_of_four_bits : ExpressionTree
sum_of_four_bits = op binop.Add (sized_of 4 false 15) (sized_of 4 false 1)

-- parameter [7:0] U = 4'hf + 4'h1 is 0: the value is taken before it is converted
pub converted_after_its_value : parameter_value [] no_scope
    (parameter_with false false (bits 8) "U" sum_of_four_bits)
    ≡ record { width = 8; signed = false; value = 0 }
unfolding value signed_of
converted_after_its_value = refl

pub without_a_range_as_it_is : parameter_value [] no_scope
    (parameter_with false false None "U" (sized_of 4 false 15))
    ≡ record { width = 4; signed = false; value = 15 }
unfolding value signed_of
without_a_range_as_it_is = refl

-- parameter [7:0] S = 4'shf is ff: the highest bit of the value fills
pub the_sign_of_the_value_fills : parameter_value [] no_scope
    (parameter_with false false (bits 8) "S" (sized_of 4 true 15))
    ≡ record { width = 8; signed = false; value = 255 }
unfolding value signed_of
the_sign_of_the_value_fills = refl

-- parameter signed [7:0] S = 4'hf is f
pub the_sign_of_the_range_does_not_fill : parameter_value [] no_scope
    (parameter_with false true (bits 8) "S" (sized_of 4 false 15))
    ≡ record { width = 8; signed = true; value = 15 }
unfolding value signed_of
the_sign_of_the_range_does_not_fill = refl

-- an overridden parameter keeps its range: parameter [1:0] R with 7
pub an_override_is_converted : parameter_value
    ((codes "R", record { width = 32; signed = true; value = 7 }) ∷ []) no_scope
    (parameter_with false false (bits 2) "R" (decimal_of 0))
    ≡ record { width = 2; signed = false; value = 3 }
unfolding value signed_of
an_override_is_converted = refl

pub eight_bits : span_width no_scope (bits 8) ≡ 8
unfolding value signed_of
eight_bits = refl

pub one_bit_without_a_range : span_width no_scope None ≡ 1
one_bit_without_a_range = refl

-- the least range
pub one_bit_of_a_range : span_width no_scope (bits 1) ≡ 1
unfolding value signed_of
one_bit_of_a_range = refl

pub a_link_by_name :
    entry (linked_ports f (named_links (link "o" (Some (name "x")) ∷ []))) (codes "o")
    ≡ Some (Some (name "x"))
a_link_by_name = refl

pub an_empty_link :
    entry (linked_ports f (named_links (link "i" None ∷ link "o" (Some (name "x")) ∷ [])))
    (codes "i")
    ≡ Some None
an_empty_link = refl

pub a_missing_link :
    entry (linked_ports f (named_links (link "o" (Some (name "x")) ∷ []))) (codes "i")
    ≡ None
a_missing_link = refl

pub links_by_order : linked_ports f (ordered_links (name "x" ∷ name "y" ∷ []))
    ≡ (codes "i", Some (name "x")) ∷ (codes "o", Some (name "y")) ∷ []
links_by_order = refl

pub the_last_ports_may_be_left_out :
    entry (linked_ports f (ordered_links (name "x" ∷ []))) (codes "o")
    ≡ None
the_last_ports_may_be_left_out = refl

pub a_whole_name : whole_name (name "x") ≡ Some (codes "x")
a_whole_name = refl

pub a_number_is_no_whole_name : whole_name (decimal_of 1) ≡ None
a_number_is_no_whole_name = refl

pub a_sum_is_no_whole_name : whole_name (op binop.Add (name "x") (name "y")) ≡ None
a_sum_is_no_whole_name = refl

pub the_first_module_of_a_name : module_named (f ∷ g ∷ module_with "f" [] [] [] ∷ []) (codes "f")
    ≡ Some f
the_first_module_of_a_name = refl

pub no_module_of_a_name : module_named (f ∷ g ∷ []) (codes "h") ≡ None
no_module_of_a_name = refl

pub masters_of_g : masters g ≡ names "f"
masters_of_g = refl

-- of the names of p, a is a signal and W a parameter
pub a_whole_signal : whole_signal (scope_of [] p) (name "a") ≡ Some (codes "a")
unfolding value signed_of
a_whole_signal = refl

pub a_parameter_is_no_signal : whole_signal (scope_of [] p) (name "W") ≡ None
unfolding value signed_of
a_parameter_is_no_signal = refl

pub an_unknown_name_is_no_signal : whole_signal (scope_of [] p) (name "x") ≡ None
unfolding value signed_of
an_unknown_name_is_no_signal = refl
