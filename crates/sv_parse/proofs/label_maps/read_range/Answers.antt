use Rattle.sv_token.specs.Lexemes.{placed_tokens}
use Rattle.sv_parse.specs.ReadingItems.{range_tree}
use Rattle.std.proofs.Common.{refl}
use Rattle.sv_parse_expr.proofs.Halting.{passed}
use Rattle.sv_parse.proofs.ReadingItems.{key_range_is}
use Rattle.sv_parse.proofs.DeclarationRuns.{and_read, and_stop, front_stop}
use Rattle.sv_parse.proofs.label_maps.read_range.Goals as goal

pub returns-clause-is : goal.returns-clause-is
returns-clause-is c =
    λ bytes. key_range_is (range_tree c.in_ok-range.range) (placed_tokens bytes c.args.tokens.now)
    (placed_tokens bytes c.in_ok-rest.rest.now) (placed_tokens bytes c.in_ok-range.rest.now)
    (c.in_ok-rest.ensures.is bytes) (c.in_ok-range.ensures.is bytes)

pub returns-in_err-rest-clause-halts : goal.returns-in_err-rest-clause-halts
returns-in_err-rest-clause-halts c = λ bytes.
    passed _ _ _ c.from_residual.ensures.1 (front_stop _ _ _ _ (c.in_err-rest.ensures.halts bytes))

pub returns-in_err-range-clause-halts : goal.returns-in_err-range-clause-halts
returns-in_err-range-clause-halts c = λ bytes.
    passed _ _ _ c.from_residual-in_err-range.ensures.1
    (and_stop _ _ _ _ _ (c.in_ok-rest.ensures.reads bytes refl)
    (c.in_err-range.ensures.halts bytes))

pub returns-clause-reads : goal.returns-clause-reads
returns-clause-reads c = λ bytes.
    and_read _ _ _ _ _ _ (c.in_ok-rest.ensures.reads bytes refl) (c.in_ok-range.ensures.reads bytes)
