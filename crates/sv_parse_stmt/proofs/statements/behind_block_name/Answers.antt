use Rattle.std.proofs.Common.{[], ◌∷◌, refl, inl}
use Rattle.sv_token.specs.declared.signs.SignKind.TheVariants as signs
use Rattle.sv_parse_machine.specs.Symbols.{outer, plain_name, perhaps_block_name}
use Rattle.sv_parse_machine.proofs.ReadRows.{sign_taken}
use Rattle.sv_parse_expr.proofs.Halting.{passed}
use Rattle.sv_parse_expr.proofs.ReadingRuns.{then_read, then_stop}
use Rattle.sv_parse_stmt.proofs.statements.behind_block_name.Goals as goal

pub returns-in_ok-_name-in-Some-clause-is : goal.returns-in_ok-_name-in-Some-clause-is
returns-in_ok-_name-in-Some-clause-is c =
    inl (
      _,
      c.in-Some.ensures.is c.args.input.bytes.now,
      (c.in_ok-_name-in-Some._name, (c.in_ok-_name-in-Some._at, c.in_ok-_name-in-Some.ensures.is)),
    )

pub returns-in_err-_name-in-Some-clause-halts : goal.returns-in_err-_name-in-Some-clause-halts
returns-in_err-_name-in-Some-clause-halts c =
    passed _ _ _ c.from_residual.ensures.1
    (then_stop _ (outer plain_name ∷ []) [] _ _ _
    (sign_taken perhaps_block_name signs.Colon (plain_name ∷ []) _ _ refl
    (c.in-Some.ensures.is c.args.input.bytes.now)) c.in_err-_name-in-Some.ensures.halts)

pub returns-in_ok-_name-in-Some-clause-reads : goal.returns-in_ok-_name-in-Some-clause-reads
returns-in_ok-_name-in-Some-clause-reads c =
    then_read _ (outer plain_name ∷ []) [] _ _ _
    (sign_taken perhaps_block_name signs.Colon (plain_name ∷ []) _ _ refl
    (c.in-Some.ensures.is c.args.input.bytes.now)) c.in_ok-_name-in-Some.ensures.reads
