use Rattle.std.proofs.Common.{refl, ◌∷◌}
use Rattle.sv_token.specs.declared.signs.SignKind.TheVariants as signs
use Rattle.sv_token.specs.declared.keywords.WordKind.TheVariants as words
use Rattle.sv_parse_expr.specs.Parses.{placed}
use Rattle.sv_parse.proofs.ReadingDeclarations.{range_is}
use Rattle.sv_parse_expr.proofs.Halting.{passed, stops_then}
use Rattle.sv_parse_machine.proofs.ReadRows.{word_taken, sign_taken}
use Rattle.sv_parse_machine.specs.Symbols.{parameter_type, punctuation}
use Rattle.sv_parse_machine.specs.ModuleTable.{value_range}
use Rattle.sv_parse.proofs.DeclarationRuns.{front_stop, and_stop, and_read}
use Rattle.sv_parse_machine.proofs.ReadSteps.{reads_then}
use Rattle.sv_parse.proofs.parameters.read_param_type.Goals as goal

pub returns-in-Some-clause-is : goal.returns-in-Some-clause-is
returns-in-Some-clause-is c = (
  _,
  c.in-Some.ensures.is c.args.input.bytes.now,
  range_is _ _ _ _ (c.in_ok-rest.ensures.is c.args.input.bytes.now) c.in_ok-span.ensures.is,
)

pub returns-in-Some-behind-clause-is : goal.returns-in-Some-behind-clause-is
returns-in-Some-behind-clause-is c = (
  placed c.args.input,
  refl,
  range_is _ _ _ _
      (c.in-Some-behind.ensures.is c.args.input.bytes.now) c.in_ok-span-2.ensures.is,
)

pub returns-in_err-rest-clause-halts : goal.returns-in_err-rest-clause-halts
returns-in_err-rest-clause-halts c =
    passed _ _ _ c.from_residual.ensures.1
    (stops_then _ _ _ _ _
    (word_taken parameter_type words.Signed (punctuation signs.OpenBracket ∷ value_range) _ _
    refl (c.in-Some.ensures.is c.args.input.bytes.now))
    (front_stop _ _ _ _ (c.in_err-rest.ensures.halts c.args.input.bytes.now)))

pub returns-in_err-span-clause-halts : goal.returns-in_err-span-clause-halts
returns-in_err-span-clause-halts c =
    passed _ _ _ c.from_residual-in_err-span.ensures.1
    (stops_then _ _ _ _ _
    (word_taken parameter_type words.Signed (punctuation signs.OpenBracket ∷ value_range) _ _
    refl (c.in-Some.ensures.is c.args.input.bytes.now))
    (and_stop _ _ _ _ _ (c.in_ok-rest.ensures.reads c.args.input.bytes.now refl)
    (c.in_err-span.ensures.halts)))

pub returns-in-Some-clause-reads : goal.returns-in-Some-clause-reads
returns-in-Some-clause-reads c =
    reads_then _ _ _ _ _ _
    (word_taken parameter_type words.Signed (punctuation signs.OpenBracket ∷ value_range) _ _
    refl (c.in-Some.ensures.is c.args.input.bytes.now))
    (and_read _ _ _ _ _ _ (c.in_ok-rest.ensures.reads c.args.input.bytes.now refl)
    (c.in_ok-span.ensures.reads))

pub returns-in_err-span-2-clause-halts : goal.returns-in_err-span-2-clause-halts
returns-in_err-span-2-clause-halts c =
    passed _ _ _ c.from_residual-in_err-span-2.ensures.1
    (stops_then _ _ _ _ _
    (sign_taken parameter_type signs.OpenBracket value_range _ _ refl
    (c.in-Some-behind.ensures.is c.args.input.bytes.now))
    (c.in_err-span-2.ensures.halts))

pub returns-in-Some-behind-clause-reads : goal.returns-in-Some-behind-clause-reads
returns-in-Some-behind-clause-reads c =
    reads_then _ _ _ _ _ _
    (sign_taken parameter_type signs.OpenBracket value_range _ _ refl
    (c.in-Some-behind.ensures.is c.args.input.bytes.now))
    (c.in_ok-span-2.ensures.reads)
