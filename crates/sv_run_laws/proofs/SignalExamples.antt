-- The signals of a small text, the table of a small map, and what a stimulus asks of the text.
use Rattle.std.proofs.Common.{◌≡◌, [], ◌∷◌, Some, None, map, refl}
use Rattle.std.specs.Prelude.{codes}
use Rattle.sv_lattice.specs.declared.labels.Label.TheVariants as label
use Rattle.sv_ast.specs.Meaning.{system}
use Rattle.sv_ast.specs.Tree.{TextTree}
use Rattle.sv_ast.specs.Parts.{Part, part_with, parts_from, signal_path}
use Rattle.sv_ast.specs.Values.{length_of, signed_of, value}
use Rattle.sv_flat.specs.declared.signals.SigKind.TheVariants as kinds
use Rattle.sv_elab_rules.proofs.SmallTexts.{decimal, input, output, wire, no_overrides}
use Rattle.sv_elab_rules.proofs.SmallTexts.{no_links, stands, module_of, text_of, map_tree, span, row}
use Rattle.sv_elab_rules.proofs.SmallTexts.{table_of, point_of}
use Rattle.sv_run_laws.specs.LabelRows.{selector_width}
use Rattle.sv_run_laws.specs.Signals.{text_signals, dotted, signal_kind, IsLabel}
use Rattle.sv_run_laws.specs.SimulatedTexts.{level_asked_of, text_form}

-- module m(input a); wire w; s u(); endmodule module s(input a, output b); endmodule
abbrev small : TextTree
small = text_of None []
    (module_of "m" 8 [] (input None "a" 16 ∷ [])
    (wire None "w" 24 ∷ stands "s" 27 no_overrides "u" 29 no_links ∷ [])
    ∷ module_of "s" 52 [] (input None "a" 60 ∷ output None "b" 70 ∷ []) [] ∷ [])

pub names_from_the_top_on :
    map (λ s. dotted (signal_path s)) (text_signals small None) ≡
    codes "a" ∷ codes "w" ∷ codes "u.a" ∷ codes "u.b" ∷ []
unfolding parts_from
names_from_the_top_on = refl

pub inputs_of_the_top_are_told_apart : map signal_kind (text_signals small None) ≡
    kinds.TopInput ∷ kinds.Net ∷ kinds.Input ∷ kinds.Output ∷ []
unfolding parts_from
inputs_of_the_top_are_told_apart = refl

-- labelmap D [0:0] 0: L; default: H; endlabelmap, before that text
abbrev with_map : TextTree
with_map = record small {
  maps = map_tree "D" 1 (span (decimal 0 3) (decimal 0 5)) None (row 0 8 "L" ∷ [])
      (Some (codes "H")) ∷ [];
}

-- the top module
abbrev top : Part
top = part_with [] [] (module_of "m" 8 [] [] [])

-- a wire with the label D(a) there, whose map has the number 0, as the signal a
pub a_label_of_a_map :
    IsLabel with_map (text_signals small None) top (table_of "D" 20 "a") (label.Table 0 0 None)
unfolding parts_from
a_label_of_a_map = (refl, refl, tt)

pub no_label_is_the_least_point :
    IsLabel small (text_signals small None) top None (label.Point (record { 0 = 0 }))
no_label_is_the_least_point = refl

pub a_point_has_its_number :
    IsLabel small (text_signals small None) top (point_of "H" 20) (label.Point (record { 0 = 1 }))
a_point_has_its_number = refl

pub four_bits : selector_width (span (decimal 3 1) (decimal 0 3)) ≡ 4
unfolding length_of signed_of value
four_bits = refl

pub a_point_is_shown : level_asked_of small (Some (codes "H")) ≡ Some (Some (codes "H"))
a_point_is_shown = refl

pub another_name_is_refused : level_asked_of small (Some (codes "M")) ≡ None
another_name_is_refused = refl

pub inputs_of_the_top_are_given : (text_form small None).header ≡ codes "inputs a"
unfolding parts_from system
inputs_of_the_top_are_given = refl
