use Rattle.std.proofs.Common.{map, refl, [], ◌∷◌}
use Rattle.sv_ast.specs.Views.{declaration_tree}
use Rattle.sv_token.specs.declared.signs.SignKind.TheVariants as signs
use Rattle.sv_parse.proofs.ReadingDeclarations.{wires_are}
use Rattle.sv_parse_expr.proofs.Halting.{passed}
use Rattle.sv_parse_machine.specs.Symbols.{outer, more_wires, items, punctuation}
use Rattle.sv_parse.proofs.DeclarationRuns.{wires_go_on}
use Rattle.sv_parse_machine.proofs.ReadSteps.{reads_then, reads_before}
use Rattle.sv_parse_machine.proofs.ReadLists.{ends_more_wires}
use Rattle.sv_parse.proofs.declarations.read_wires.Goals as goal

pub returns-clause-is : goal.returns-clause-is
returns-clause-is c = (
  map declaration_tree c.in_ok-wires.wires.items,
  c.in_ok-declared.ensures,
  wires_are _ _ _ c.in_ok-wires.ensures.is,
)

pub returns-in_err-wires-clause-halts : goal.returns-in_err-wires-clause-halts
returns-in_err-wires-clause-halts c =
    λ next. passed _ _ _ c.from_residual.ensures.1
    (c.in_err-wires.ensures.halts (outer more_wires ∷ outer items ∷ []) [] wires_go_on refl next)

pub returns-clause-reads : goal.returns-clause-reads
returns-clause-reads c =
    λ next. reads_then _ _ _ _ _ _
    (c.in_ok-wires.ensures.reads (outer more_wires ∷ outer items ∷ []) [] wires_go_on refl next)
    (reads_before (outer more_wires ∷ []) (outer (punctuation signs.Semicolon) ∷ [])
    (outer items ∷ []) _ _ (ends_more_wires _ c.in_ok-wires.ensures.ends))
