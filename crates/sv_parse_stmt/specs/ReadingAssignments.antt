-- Private: how the code goes. What the private functions say of what they read of an assignment:
-- from the tokens that they are handed to those that they give back stands a form of the grammar.
use Rattle.std.specs.Prelude.{◌≡◌, List, [], ◌∷◌}
use Rattle.sv_token.specs.declared.keywords.WordKind.TheVariants as words
use Rattle.sv_token.specs.declared.signs.SignKind.TheVariants as signs
use Rattle.sv_ast.specs.Tree.{TargetTree, PlacedName, ItemTree, continuous, released}
use Rattle.sv_ast.specs.GrammarForms.{Form, ◌⨾◌, ◌or◌, given, never, a_word, a_sign, commas}
use Rattle.sv_ast.specs.GrammarForms.{in_parentheses}
use Rattle.sv_ast.specs.GrammarStatements.{BeginAt, only}
use Rattle.sv_ast.specs.GrammarDeclarations.{IsValue}
use Rattle.sv_ast.specs.GrammarModules.{IsPlacedName, IsContinuous}
use Rattle.sv_ast.specs.GrammarRules.{all_limits}
use Rattle.sv_parse_machine.specs.Symbols.{State, outer, punctuation, plain_name, expression}

-- the value of an assignment to the targets
abbrev pub AssignsTo : List TargetTree → ItemTree → Form
AssignsTo targets (continuous ts p e) = given ((ts ≡ targets) × BeginAt p ts) (IsValue all_limits e)
AssignsTo targets _ = never

-- what stands behind `$release`
abbrev pub ReleasesAs : PlacedName → ItemTree → Form
ReleasesAs target (released t e point) =
    given (t ≡ target) (in_parentheses (IsValue all_limits e ⨾ a_sign signs.Comma
    ⨾ IsPlacedName point))
ReleasesAs target _ = never

-- a release, behind `assign`
abbrev pub IsReleaseEnd : ItemTree → Form
IsReleaseEnd (released target e point) =
    IsPlacedName target
    ⨾ a_sign signs.Equals
    ⨾ a_word words.Release
    ⨾ in_parentheses (IsValue all_limits e ⨾ a_sign signs.Comma ⨾ IsPlacedName point)
IsReleaseEnd _ = never

-- what stands behind `assign`
abbrev pub IsAssignEnd : List ItemTree → Form
IsAssignEnd items = commas (IsContinuous all_limits) items or only IsReleaseEnd items

-- ---- what is still to come, as the table of modules has it

-- behind the targets of an assignment
abbrev pub behind_targets : State
behind_targets = outer (punctuation signs.Equals) ∷ outer (expression 0) ∷ []

-- behind the word of a release
abbrev pub behind_release : State
behind_release =
    outer (punctuation signs.OpenParenthesis)
    ∷ outer (expression 0)
    ∷ outer (punctuation signs.Comma)
    ∷ outer plain_name
    ∷ outer (punctuation signs.CloseParenthesis)
    ∷ []
