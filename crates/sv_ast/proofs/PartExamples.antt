-- Instances, links, clocks and processes of small modules.
use Prim.Native.String.{String}
use Rattle.std.proofs.Common.{◌≡◌, ℕ, true, false, List, [], ◌∷◌, Some, None, map, refl}
use Rattle.std.specs.Prelude.{codes, filter, flat_map, is_some}
use Rattle.sv_num.specs.declared.operators.UnOp.TheVariants as unop
use Rattle.sv_num.specs.declared.operators.BinOp.TheVariants as binop
use Rattle.sv_ast.specs.declared.declarations.DeclKind.TheVariants as kind
use Rattle.sv_ast.specs.Tree.{ExpressionTree, DeclarationTree, unary, named_overrides, named_links}
use Rattle.sv_ast.specs.Tree.{ordered_links, null, declared, released, invariant_item, ModuleTree}
use Rattle.sv_ast.specs.Tree.{ItemTree, TextTree, StatementTree}
use Rattle.sv_ast.specs.Values.{value, signed_of}
use Rattle.sv_ast.specs.Runs.{run}
use Rattle.sv_ast.specs.Parts.{Path, same_path, Part, part_with, parts_from, parts, children}
use Rattle.sv_ast.specs.Parts.{PortLink, port_path, linked_path, links_of, signals_of, signal_path}
use Rattle.sv_ast.specs.Reach.{holds}
use Rattle.sv_ast.specs.ClockPaths.{clock_paths}
use Rattle.sv_ast.specs.Processes.{name_in, changed_by, updates_by, combinational_body}
use Rattle.sv_ast.specs.Processes.{clocked_body, assigns, link_in, link_out, link_change}
use Rattle.sv_ast.proofs.SmallTrees.{somewhere, begin_end, decimal_of, name, op, bits}
use Rattle.sv_ast.proofs.SmallTrees.{declaration_with, declares, input, output, assigns_to}
use Rattle.sv_ast.proofs.SmallTrees.{whenever, on_edge, link, stands, module_with, text_of, placed}
use Rattle.sv_ast.proofs.SmallTrees.{path, paths, paths_are, gets, gets_later}

-- A clock through two instances: `top` has `a` and `b` of `middle`, and each of these has `u` of
-- `leaf`, whose register uses it.

abbrev leaf : ModuleTree
leaf = module_with "leaf" [] (input None "clk" ∷ input None "d" ∷ [])
    (declared (declares kind.Reg None "q") ∷ on_edge "clk" (gets_later "q" (name "d")) ∷ [])

abbrev middle : ModuleTree
middle = module_with "middle" [] (input None "c" ∷ input None "d" ∷ [])
    (stands "leaf" (named_overrides []) "u"
    (named_links (link "d" (Some (name "d")) ∷ link "clk" (Some (name "c")) ∷ [])) ∷ [])

-- its input is linked to the clock, though nothing inside uses it
abbrev idle : ModuleTree
idle = module_with "idle" [] (input None "i" ∷ []) []

abbrev top : ModuleTree
top = module_with "top" [] (input None "ck" ∷ input None "x" ∷ [])
    (stands "middle" (named_overrides []) "a" (ordered_links (name "ck" ∷ name "x" ∷ []))
    ∷ stands "middle" (named_overrides []) "b"
    (ordered_links (name "ck" ∷ unary unop.Invert somewhere (name "x") ∷ []))
    ∷ stands "idle" (named_overrides []) "c" (ordered_links (name "ck" ∷ [])) ∷ [])

abbrev clocked_text : TextTree
clocked_text = text_of (leaf ∷ middle ∷ idle ∷ top ∷ [])

abbrev path_of : Part → Path
path_of p = p.path

pub each_before_those_inside_it : map path_of (parts clocked_text None)
    ≡ [] ∷ paths "a a.u b b.u c"
unfolding parts_from
each_before_those_inside_it = refl

pub parts_under_another_module : map path_of (parts clocked_text (Some (codes "middle")))
    ≡ [] ∷ paths "u"
unfolding parts_from
parts_under_another_module = refl

pub no_part_without_a_top : parts clocked_text (Some (codes "bottom")) ≡ []
no_part_without_a_top = refl

-- an instance of no module has no part
pub an_unknown_module : map path_of (children [] (part_with [] [] middle)) ≡ []
an_unknown_module = refl

pub an_instance_of_a_known_module :
    map path_of (children (leaf ∷ []) (part_with (path "a") [] middle)) ≡ paths "a.u"
an_instance_of_a_known_module = refl

-- no deeper than the levels allow
pub two_levels : map path_of (parts_from 2 (leaf ∷ middle ∷ idle ∷ []) (part_with [] [] top))
    ≡ [] ∷ paths "a b c"
unfolding parts_from
two_levels = refl

pub ports_before_other_declarations : map signal_path (signals_of (part_with (path "u") [] leaf))
    ≡ paths "u.clk u.d u.q"
ports_before_other_declarations = refl

pub links_in_textual_order : map port_path (links_of (leaf ∷ []) (part_with (path "a") [] middle))
    ≡ paths "a.u.d a.u.clk"
links_in_textual_order = refl

pub names_that_are_linked : map linked_path (links_of (middle ∷ idle ∷ []) (part_with [] [] top))
    ≡ Some (path "ck") ∷ Some (path "x") ∷ Some (path "ck") ∷ None ∷ Some (path "ck") ∷ []
names_that_are_linked = refl

-- the clocks of a text in signal order
abbrev clocks_of : TextTree → List Path
clocks_of text = filter
    (holds same_path (clock_paths (parts text None)
    (flat_map (links_of text.modules) (parts text None))))
    (map signal_path (flat_map signals_of (parts text None)))

pub clocks_through_two_instances : clocks_of clocked_text
    ≡ paths "ck a.c a.u.clk b.c b.u.clk c.i"
unfolding parts_from
clocks_through_two_instances = refl

pub no_clock_without_an_edge :
    clocks_of (text_of (idle
    ∷ module_with "t" [] (input None "ck" ∷ [])
    (stands "idle" (named_overrides []) "c" (ordered_links (name "ck" ∷ [])) ∷ []) ∷ []))
    ≡ []
unfolding parts_from
no_clock_without_an_edge = refl

-- a clock that is linked to no whole name
pub an_expression_is_no_clock : clocks_of (text_of (leaf ∷ module_with "t" [] (input None "ck" ∷ [])
    (stands "leaf" (named_overrides []) "u"
    (ordered_links (unary unop.Invert somewhere (name "ck") ∷ [])) ∷ []) ∷ [])) ≡ paths "u.clk"
unfolding parts_from
an_expression_is_no_clock = refl

-- an output that is linked to a clock is no clock; a name that is linked to an output that is a
-- clock is one
abbrev source : List ItemTree → ModuleTree
source items = module_with "source" [] (output None "o" ∷ []) items

abbrev with_source : List ItemTree → List ItemTree → TextTree
with_source outside inside = text_of
    (source inside ∷ module_with "t" [] []
    (declared (declares kind.Wire None "k")
    ∷ stands "source" (named_overrides []) "u" (ordered_links (name "k" ∷ [])) ∷ outside) ∷ [])

pub an_output_that_drives_a_clock : clocks_of (with_source (on_edge "k" null ∷ []) []) ≡ paths "k"
unfolding parts_from
an_output_that_drives_a_clock = refl

pub an_output_that_is_a_clock : clocks_of (with_source [] (on_edge "o" null ∷ [])) ≡ paths "k u.o"
unfolding parts_from
an_output_that_is_a_clock = refl

-- Names of paths.

pub a_name_of_the_top : name_in [] (path "x") ≡ Some (codes "x")
a_name_of_the_top = refl

pub a_name_two_instances_below : name_in (path "a.u") (path "a.u.q") ≡ Some (codes "q")
a_name_two_instances_below = refl

pub a_path_of_an_instance_inside : name_in (path "a") (path "a.u.q") ≡ None
a_path_of_an_instance_inside = refl

pub a_path_of_another_instance : name_in (path "a") (path "b.d") ≡ None
a_path_of_another_instance = refl

pub a_path_outside : name_in (path "a") (path "a") ≡ None
a_path_outside = refl

-- Runs in an instance.

abbrev second_leaf : Part
second_leaf = part_with (path "b.u") [] leaf

abbrev copies : StatementTree
copies = gets "q" (name "d")

-- no other instance is read, and none changes
pub its_own_signal_changes : map (λ (p : String × String).
    changed_by second_leaf copies (paths_are ((p.0, 1) ∷ [])) (path p.1))
    (("b.u.d", "b.u.q") ∷ ("a.u.d", "b.u.q") ∷ ("b.u.d", "a.u.q") ∷ [])
    ≡ 1 ∷ 0 ∷ 0 ∷ []
unfolding run value signed_of
its_own_signal_changes = refl

pub an_update_of_its_own_signal :
    updates_by second_leaf (gets_later "q" (name "d")) (paths_are (("b.u.d", 1) ∷ []))
    ≡ (path "b.u.q", 1) ∷ []
unfolding run value signed_of
an_update_of_its_own_signal = refl

pub updates_in_order :
    updates_by second_leaf
    (begin_end (gets_later "q" (decimal_of 0) ∷ gets_later "q" (decimal_of 1) ∷ []))
    (paths_are [])
    ≡ (path "b.u.q", 0) ∷ (path "b.u.q", 1) ∷ []
unfolding run value signed_of
updates_in_order = refl

pub no_updates_of_a_blocking_assignment :
    updates_by second_leaf copies (paths_are (("b.u.d", 1) ∷ [])) ≡ []
unfolding run value signed_of
no_updates_of_a_blocking_assignment = refl

-- Items.

pub a_wire_with_a_value :
    combinational_body (declared (record (declares kind.Wire None "w") { value = Some (name "x") }))
    ≡ Some (assigns (codes "w") somewhere (name "x"))
a_wire_with_a_value = refl

pub a_wire_without_one : combinational_body (declared (declares kind.Wire None "w")) ≡ None
a_wire_without_one = refl

pub an_assign : combinational_body (assigns_to "w" (name "x"))
    ≡ Some (gets "w" (name "x"))
an_assign = refl

pub a_release : combinational_body (released (placed "w") (name "x") (placed "L"))
    ≡ Some (gets "w" (name "x"))
a_release = refl

pub a_block_without_a_clock : combinational_body (whenever null) ≡ Some null
a_block_without_a_clock = refl

pub a_block_with_a_clock : combinational_body (on_edge "c" null) ≡ None
a_block_with_a_clock = refl

pub the_body_at_the_edge : clocked_body (on_edge "c" null) ≡ Some null
the_body_at_the_edge = refl

pub no_body_at_an_edge : clocked_body (whenever null) ≡ None
no_body_at_an_edge = refl

pub an_invariant_is_no_process : combinational_body (invariant_item somewhere (name "x")) ≡ None
an_invariant_is_no_process = refl

-- Links with other lengths and signs: between a port, and x and y of four bits, n of eight or m of
-- two.

abbrev ported : DeclarationTree → Part
ported d = part_with (path "u") [] (module_with "p" [] (d ∷ []) [])

abbrev around : Part
around = part_with [] []
    (module_with "t" [] (input (bits 4) "x" ∷ input (bits 4) "y" ∷ output (bits 8) "n"
    ∷ output (bits 2) "m" ∷ []) [])

abbrev port_with : DeclarationTree → ExpressionTree → PortLink
port_with d e = record { outer = around; inner = ported d; port = d; expression = e }

pub a_sum_keeps_its_carry :
    link_in (port_with (input (bits 8) "i") (op binop.Add (name "x") (name "y")))
    (paths_are (("x", 15) ∷ ("y", 15) ∷ [])) (path "u.i")
    ≡ 30
unfolding value signed_of
a_sum_keeps_its_carry = refl

pub an_input_is_cut :
    link_in (port_with (input (bits 2) "i") (name "x")) (paths_are (("x", 14) ∷ [])) (path "u.i")
    ≡ 2
unfolding value signed_of
an_input_is_cut = refl

-- what an output `o` of the value carries to the name outside
abbrev carried_out : DeclarationTree → String → ℕ → ℕ
carried_out d n v =
    link_out (port_with d (name n)) (codes n) (paths_are (("u.o", v) ∷ [])) (path n)

pub an_output_without_a_sign : carried_out (output (bits 4) "o") "n" 8 ≡ 0x08
unfolding value signed_of
an_output_without_a_sign = refl

pub an_output_with_a_sign :
    carried_out (declaration_with kind.OutputWire true (bits 4) None "o") "n" 8 ≡ 0xf8
unfolding value signed_of
an_output_with_a_sign = refl

pub an_output_is_cut : carried_out (output (bits 4) "o") "m" 14 ≡ 2
unfolding value signed_of
an_output_is_cut = refl

pub an_output_to_an_expression_is_no_process :
    is_some (link_change (port_with (output None "o") (decimal_of 1)))
    ≡ false
an_output_to_an_expression_is_no_process = refl

pub an_input_from_an_expression_is_one :
    is_some (link_change (port_with (input None "i") (decimal_of 1)))
    ≡ true
an_input_from_an_expression_is_one = refl
