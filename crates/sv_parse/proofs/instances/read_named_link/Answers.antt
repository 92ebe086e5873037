use Rattle.sv_ast.specs.GrammarForms.{perhaps}
use Rattle.sv_ast.specs.GrammarDeclarations.{IsValue}
use Rattle.sv_ast.specs.GrammarRules.{all_limits}
use Rattle.sv_parse.proofs.ReadingInstances.{dotted_is}
use Rattle.std.proofs.Common.{[], ◌∷◌}
use Rattle.std.specs.Option.{option_map}
use Rattle.sv_ast.specs.Views.{expression_tree}
use Rattle.sv_parse_machine.specs.Symbols.{outer, punctuation, plain_name, link}
use Rattle.sv_parse_machine.proofs.ReadSteps.{reads_then, reads_before}
use Rattle.sv_parse_expr.proofs.Halting.{passed, stops_then, stops_before}
use Rattle.sv_token.specs.declared.signs.SignKind.TheVariants as signs
use Rattle.sv_parse.proofs.instances.read_named_link.Goals as goal

pub returns-clause-is : goal.returns-clause-is
returns-clause-is c =
    dotted_is c.in_ok-name.name c.in_ok-name.place
    (perhaps (IsValue all_limits) (option_map expression_tree c.in_ok-value.value)) _ _ _
    c.in_ok-name.ensures.is c.in_ok-value.ensures.is

pub returns-in_err-name-clause-halts : goal.returns-in_err-name-clause-halts
returns-in_err-name-clause-halts c =
    passed _ _ _ c.from_residual.ensures.1
    (stops_before (outer (punctuation signs.Dot) ∷ outer plain_name ∷
    outer (punctuation signs.OpenParenthesis) ∷ []) (outer link ∷ []) _ _
    c.in_err-name.ensures.halts)

pub returns-in_err-value-clause-halts : goal.returns-in_err-value-clause-halts
returns-in_err-value-clause-halts c =
    passed _ _ _ c.from_residual-in_err-value.ensures.1
    (stops_then (outer (punctuation signs.Dot) ∷ outer plain_name ∷
    outer (punctuation signs.OpenParenthesis) ∷
    outer link ∷ []) (outer link ∷ []) _ _ _
    (reads_before (outer (punctuation signs.Dot) ∷ outer plain_name ∷
    outer (punctuation signs.OpenParenthesis) ∷ []) [] (outer link ∷ []) _ _
    c.in_ok-name.ensures.reads)
    c.in_err-value.ensures.halts)

pub returns-clause-reads : goal.returns-clause-reads
returns-clause-reads c =
    (reads_then (outer (punctuation signs.Dot) ∷ outer plain_name ∷
    outer (punctuation signs.OpenParenthesis) ∷
    outer link ∷ []) (outer link ∷ []) [] _ _ _
    (reads_before (outer (punctuation signs.Dot) ∷ outer plain_name ∷
    outer (punctuation signs.OpenParenthesis) ∷ []) [] (outer link ∷ []) _ _
    c.in_ok-name.ensures.reads)
    c.in_ok-value.ensures.reads)
