use Rattle.std.proofs.Common.{refl, inl, inr}
use Rattle.sv_token.specs.declared.keywords.WordKind.TheVariants as words
use Rattle.sv_parse.proofs.ReadingDeclarations.{header_parameter_is}
use Rattle.sv_parse_expr.proofs.Halting.{passed, stops_then}
use Rattle.sv_parse_machine.proofs.ReadRows.{word_taken}
use Rattle.sv_parse_machine.specs.Symbols.{later_header_parameter}
use Rattle.sv_parse.specs.ReadingDeclarations.{typed_value}
use Rattle.sv_parse_machine.proofs.ReadSteps.{reads_then}
use Rattle.sv_parse.proofs.DeclarationRuns.{later_parameter_alike}
use Rattle.sv_parse.proofs.parameters.HeaderParamsListed.later.Goals as goal

pub returns-in-Some-clause-is : goal.returns-in-Some-clause-is
returns-in-Some-clause-is c =
    inl (header_parameter_is _ _ _ _ (c.in-Some.ensures.is c.args.input.bytes.now)
    c.in_ok-param.ensures.is)

pub returns-clause-is : goal.returns-clause-is
returns-clause-is c = inr c.in_ok-alike.ensures.is

pub returns-in_err-param-clause-halts : goal.returns-in_err-param-clause-halts
returns-in_err-param-clause-halts c =
    passed _ _ _ c.from_residual.ensures.1
    (stops_then _ _ _ _ _
    (word_taken later_header_parameter words.Parameter typed_value _ _ refl
    (c.in-Some.ensures.is c.args.input.bytes.now))
    (c.in_err-param.ensures.halts))

pub returns-in-Some-clause-reads : goal.returns-in-Some-clause-reads
returns-in-Some-clause-reads c =
    reads_then _ _ _ _ _ _
    (word_taken later_header_parameter words.Parameter typed_value _ _ refl
    (c.in-Some.ensures.is c.args.input.bytes.now))
    (c.in_ok-param.ensures.reads)

pub returns-in_err-alike-clause-halts : goal.returns-in_err-alike-clause-halts
returns-in_err-alike-clause-halts c =
    passed _ _ _ c.from_residual-in_err-alike.ensures.1
    (stops_then _ _ _ _ _
    (later_parameter_alike _ (c.in_default.ensures.none c.args.input.bytes.now))
    (c.in_err-alike.ensures.halts))
