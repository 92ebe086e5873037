-- A whole text, as the machine sees it.
use Rattle.std.specs.Prelude.{ℕ, List, [], ◌∷◌}
use Rattle.sv_token.specs.Lexemes.{Placed}
use Rattle.sv_ast.specs.GrammarForms.{Form, ◌⨾◌}
use Rattle.sv_ast.specs.GrammarExpressions.{Limits}
use Rattle.sv_parse_machine.specs.Symbols.{perhaps_lattice, perhaps_maps, one_module}
use Rattle.sv_parse_machine.proofs.OuterForms.{times, one_module_form, outer_forms}

-- any number of modules
abbrev pub modules_form : Limits → Form
modules_form l ts rest = (k : ℕ) × times (one_module_form l) k ts rest

abbrev pub text_form : Limits → List Placed → Type 0
text_form l ts =
    (outer_forms l (perhaps_lattice ∷ perhaps_maps ∷ one_module ∷ []) ⨾ modules_form l) ts []
