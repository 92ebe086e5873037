-- A small text with a released value: what has a process in its flat design, its clock, the paths
-- of its numbers, its parts, and the orders of its draws.
use Rattle.std.proofs.Common.{◌≡◌, [], ◌∷◌, None, length, map, refl}
use Rattle.std.specs.Prelude.{codes}
use Rattle.sv_ast.specs.Parts.{parts, parts_from, Part}
use Rattle.sv_ast.specs.Processes.{processes, processes_from}
use Rattle.sv_ast.specs.Tree.{TextTree, released}
use Rattle.sv_flat.specs.Schedules.{round}
use Rattle.sv_elab_rules.proofs.SmallTexts.{name, target, gets_later, input, output_reg, wire, on_edge}
use Rattle.sv_elab_rules.proofs.SmallTexts.{placed, no_overrides, no_links, stands, module_of, text_of}
use Rattle.sv_elab_laws.specs.Rounds.{tick_numbers, drawn_after, clocked_in}
use Rattle.sv_elab_laws.specs.SideBySide.{made_from, made_of, edges_from, edges_of, text_signals}
use Rattle.sv_elab_laws.specs.SideBySide.{path_at}

-- module m(input c, input a, output reg q); wire w; release w = a to L;
-- always @(posedge c) q <= a; s u(); endmodule module s(input b); endmodule
abbrev small : TextTree
small = text_of None []
    (module_of "m" 8 []
    (input None "c" 16 ∷ input None "a" 25 ∷ output_reg None "q" 39 ∷ [])
    (wire None "w" 48
    ∷ released (placed "w" 59) (name "a" 63) (placed "L" 68)
    ∷ on_edge 71 "c" 87 (gets_later (target "q" 90 ∷ []) 92 (name "a" 95))
    ∷ stands "s" 98 no_overrides "u" 100 no_links ∷ [])
    ∷ module_of "s" 122 [] (input None "b" 130 ∷ []) [] ∷ [])

pub a_released_value_has_no_process : length (made_of small None) ≡ 1
unfolding made_from
a_released_value_has_no_process = refl

pub in_the_text_it_has_one : length (processes small None) ≡ 2
unfolding processes_from
in_the_text_it_has_one = refl

pub its_clock_is_behind_posedge : edges_of small None ≡ (codes "c" ∷ []) ∷ []
unfolding edges_from
its_clock_is_behind_posedge = refl

pub one_process_is_clocked : length (clocked_in small None) ≡ 1
unfolding processes_from
one_process_is_clocked = refl

pub inner_signals_come_last : path_at (text_signals small None) 4 ≡ codes "u" ∷ codes "b" ∷ []
unfolding parts_from
inner_signals_come_last = refl

pub an_instance_is_a_part :
    map (λ (p : Part). p.path) (parts small None) ≡ [] ∷ (codes "u" ∷ []) ∷ []
unfolding parts_from
an_instance_is_a_part = refl

pub even_cycles_ascend : tick_numbers 3 4 ≡ 0 ∷ 1 ∷ 2 ∷ []
even_cycles_ascend = refl

pub odd_cycles_descend : tick_numbers 3 5 ≡ 2 ∷ 1 ∷ 0 ∷ []
odd_cycles_descend = refl

pub a_round_of_one_draws_nothing : drawn_after 1 7 3 ≡ 7
a_round_of_one_draws_nothing = refl

pub a_round_of_two_draws_once : drawn_after 2 7 1 ≡ (round 2 7).state
a_round_of_two_draws_once = refl
