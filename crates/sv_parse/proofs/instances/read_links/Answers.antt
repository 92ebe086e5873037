use Rattle.std.proofs.Common.{[], ◌∷◌, refl, ap, map}
use Rattle.sv_parse_machine.specs.Symbols.{outer, punctuation, links}
use Rattle.sv_parse_machine.proofs.ReadSteps.{reads_then}
use Rattle.sv_parse_machine.proofs.ReadRows.{sign_taken}
use Rattle.sv_parse_expr.proofs.Halting.{passed, stops_then}
use Rattle.sv_token.specs.declared.signs.SignKind.TheVariants as signs
use Rattle.sv_ast.specs.Views.{expression_tree}
use Rattle.sv_parse.proofs.ReadingInstances.{no_links}
use Rattle.sv_parse.proofs.instances.read_links.Goals as goal

pub returns-in-Some-clause-reads : goal.returns-in-Some-clause-reads
returns-in-Some-clause-reads c =
    (sign_taken links signs.CloseParenthesis [] _ _ refl
    (c.in-Some.ensures.is c.args.input.bytes.now))

pub returns-in_err-links-clause-halts : goal.returns-in_err-links-clause-halts
returns-in_err-links-clause-halts c =
    passed _ _ _ c.from_residual.ensures.1
    (c.in_err-links.ensures.halts (c.in_default.ensures.none c.args.input.bytes.now))

pub returns-in_err-rest-clause-halts : goal.returns-in_err-rest-clause-halts
returns-in_err-rest-clause-halts c =
    passed _ _ _ c.from_residual-in_err-rest.ensures.1
    (stops_then (outer links ∷ []) (outer (punctuation signs.CloseParenthesis) ∷ []) _ _ _
    (c.in_ok-links.ensures.reads (c.in_default.ensures.none c.args.input.bytes.now))
    (c.in_err-rest.ensures.halts c.args.input.bytes.now))

pub returns-clause-reads : goal.returns-clause-reads
returns-clause-reads c =
    (reads_then (outer links ∷ []) (outer (punctuation signs.CloseParenthesis) ∷ []) [] _ _ _
    (c.in_ok-links.ensures.reads (c.in_default.ensures.none c.args.input.bytes.now))
    (c.in_ok-rest.ensures.reads c.args.input.bytes.now refl))

pub returns-in-Some-clause-is : goal.returns-in-Some-clause-is
returns-in-Some-clause-is c = (
  _,
  no_links _ _ (ap (map expression_tree) c.new.ensures.items),
  (c.in-Some.ensures.is c.args.input.bytes.now),
)
