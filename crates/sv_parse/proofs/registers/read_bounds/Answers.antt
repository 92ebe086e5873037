use Rattle.std.proofs.Common.{refl}
use Rattle.sv_token.specs.Lexemes.{placed_tokens}
use Rattle.sv_parse_expr.proofs.Halting.{passed}
use Rattle.sv_parse.proofs.DeclarationRuns.{front_stop, and_stop}
use Rattle.sv_parse.proofs.registers.read_bounds.Goals as goal

pub returns-clause-is : goal.returns-clause-is
returns-clause-is c =
    λ bytes. (
      placed_tokens bytes c.in_ok-rest.rest.now,
      c.in_ok-rest.ensures.is bytes,
      (
        placed_tokens bytes c.in_ok-last.rest.now,
        (
          placed_tokens bytes c.in_ok-first.rest.now,
          (c.in_ok-first._place, c.in_ok-first.ensures.is bytes),
          (
            placed_tokens bytes c.in_ok-rest-2.rest.now,
            c.in_ok-rest-2.ensures.is
                bytes,
            (c.in_ok-last._at, c.in_ok-last.ensures.is bytes),
          ),
        ),
        c.in_ok-rest-3.ensures.is bytes,
      ),
    )

pub returns-in_err-rest-clause-halts : goal.returns-in_err-rest-clause-halts
returns-in_err-rest-clause-halts c =
    λ bytes. passed _ _ _ c.from_residual.ensures.1
    (front_stop _ _ _ _ (c.in_err-rest.ensures.halts bytes))

pub returns-in_err-first-clause-halts : goal.returns-in_err-first-clause-halts
returns-in_err-first-clause-halts c =
    λ bytes. passed _ _ _ c.from_residual-in_err-first.ensures.1
    (and_stop _ _ _ _ _ (c.in_ok-rest.ensures.reads bytes refl)
    (front_stop _ _ _ _ (c.in_err-first.ensures.halts bytes)))

pub returns-in_err-rest-2-clause-halts : goal.returns-in_err-rest-2-clause-halts
returns-in_err-rest-2-clause-halts c =
    λ bytes. passed _ _ _ c.from_residual-in_err-rest-2.ensures.1
    (and_stop _ _ _ _ _ (c.in_ok-rest.ensures.reads bytes refl)
    (and_stop _ _ _ _ _ (c.in_ok-first.ensures.reads bytes)
    (front_stop _ _ _ _ (c.in_err-rest-2.ensures.halts bytes))))

pub returns-in_err-last-clause-halts : goal.returns-in_err-last-clause-halts
returns-in_err-last-clause-halts c =
    λ bytes. passed _ _ _ c.from_residual-in_err-last.ensures.1
    (and_stop _ _ _ _ _ (c.in_ok-rest.ensures.reads bytes refl)
    (and_stop _ _ _ _ _ (c.in_ok-first.ensures.reads bytes)
    (and_stop _ _ _ _ _ (c.in_ok-rest-2.ensures.reads bytes refl)
    (front_stop _ _ _ _ (c.in_err-last.ensures.halts bytes)))))

pub returns-in_err-rest-3-clause-halts : goal.returns-in_err-rest-3-clause-halts
returns-in_err-rest-3-clause-halts c =
    λ bytes. passed _ _ _ c.from_residual-in_err-rest-3.ensures.1
    (and_stop _ _ _ _ _ (c.in_ok-rest.ensures.reads bytes refl)
    (and_stop _ _ _ _ _ (c.in_ok-first.ensures.reads bytes)
    (and_stop _ _ _ _ _ (c.in_ok-rest-2.ensures.reads bytes refl)
    (and_stop _ _ _ _ _ (c.in_ok-last.ensures.reads bytes)
    (c.in_err-rest-3.ensures.halts bytes)))))
