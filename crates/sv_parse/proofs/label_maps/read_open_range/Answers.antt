use Rattle.sv_token.specs.Lexemes.{placed_tokens}
use Rattle.std.proofs.Common.{refl}
use Rattle.sv_parse_expr.proofs.Halting.{passed}
use Rattle.sv_parse.proofs.DeclarationRuns.{and_read, and_stop, front_stop}
use Rattle.sv_parse.proofs.label_maps.read_open_range.Goals as goal

pub returns-clause-is : goal.returns-clause-is
returns-clause-is c =
    λ bytes. (
      placed_tokens bytes c.in_ok-high.rest.now,
      c.in_ok-high.ensures.is
          bytes,
      (
        placed_tokens bytes c.in_ok-rest.rest.now,
        c.in_ok-rest.ensures.is
            bytes,
        (
          placed_tokens bytes c.in_ok-low.rest.now,
          c.in_ok-low.ensures.is
              bytes,
          c.in_ok-rest-2.ensures.is bytes,
        ),
      ),
    )

pub returns-in_err-high-clause-halts : goal.returns-in_err-high-clause-halts
returns-in_err-high-clause-halts c = λ bytes.
    passed _ _ _ c.from_residual.ensures.1 (front_stop _ _ _ _ (c.in_err-high.ensures.halts bytes))

pub returns-in_err-rest-clause-halts : goal.returns-in_err-rest-clause-halts
returns-in_err-rest-clause-halts c = λ bytes.
    passed _ _ _ c.from_residual-in_err-rest.ensures.1
    (and_stop _ _ _ _ _ (c.in_ok-high.ensures.reads bytes)
    (front_stop _ _ _ _ (c.in_err-rest.ensures.halts bytes)))

pub returns-in_err-low-clause-halts : goal.returns-in_err-low-clause-halts
returns-in_err-low-clause-halts c = λ bytes.
    passed _ _ _ c.from_residual-in_err-low.ensures.1
    (and_stop _ _ _ _ _ (c.in_ok-high.ensures.reads bytes)
    (and_stop _ _ _ _ _ (c.in_ok-rest.ensures.reads bytes refl)
    (front_stop _ _ _ _ (c.in_err-low.ensures.halts bytes))))

pub returns-in_err-rest-2-clause-halts : goal.returns-in_err-rest-2-clause-halts
returns-in_err-rest-2-clause-halts c = λ bytes.
    passed _ _ _ c.from_residual-in_err-rest-2.ensures.1
    (and_stop _ _ _ _ _ (c.in_ok-high.ensures.reads bytes)
    (and_stop _ _ _ _ _ (c.in_ok-rest.ensures.reads bytes refl)
    (and_stop _ _ _ _ _ (c.in_ok-low.ensures.reads bytes) (c.in_err-rest-2.ensures.halts bytes))))

pub returns-clause-reads : goal.returns-clause-reads
returns-clause-reads c = λ bytes.
    and_read _ _ _ _ _ _ (c.in_ok-high.ensures.reads bytes)
    (and_read _ _ _ _ _ _ (c.in_ok-rest.ensures.reads bytes refl)
    (and_read _ _ _ _ _ _ (c.in_ok-low.ensures.reads bytes)
    (c.in_ok-rest-2.ensures.reads bytes refl)))
