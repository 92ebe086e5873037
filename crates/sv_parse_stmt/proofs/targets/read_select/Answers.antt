use Rattle.std.proofs.Common.{[], ◌∷◌, refl}
use Rattle.sv_token.specs.declared.signs.SignKind.TheVariants as signs
use Rattle.sv_parse_machine.specs.Symbols.{outer, expression, perhaps_bits, bits_end}
use Rattle.sv_parse_machine.proofs.ReadSteps.{reads_then}
use Rattle.sv_parse_machine.proofs.ReadRows.{sign_taken}
use Rattle.sv_parse_machine.proofs.SkippedRows.{skips_symbol}
use Rattle.sv_parse_expr.proofs.Halting.{passed, stops_then}
use Rattle.sv_parse_expr.proofs.ReadingRuns.{then_stop}
use Rattle.sv_parse_stmt.proofs.SymbolsAlike.{bits_begun}
use Rattle.sv_parse_stmt.proofs.targets.read_select.Goals as goal

pub returns-in-Some-behind-clause-is : goal.returns-in-Some-behind-clause-is
returns-in-Some-behind-clause-is c = (
  _,
  c.in-Some.ensures.is c.args.input.bytes.now,
  (_, c.in_ok-first.ensures.is, c.in-Some-behind.ensures.is c.args.input.bytes.now),
)

pub returns-clause-is : goal.returns-clause-is
returns-clause-is c =
    let low = c.in_ok-low.ensures.is in (
      _,
      c.in-Some.ensures.is c.args.input.bytes.now,
      (low.2.0, (_, c.in_ok-first.ensures.is, (low.0, low.1, low.2.1)), low.2.2),
    )

-- ---- the machine of the grammar

pub returns-in_default-clause-reads : goal.returns-in_default-clause-reads
returns-in_default-clause-reads c =
    skips_symbol (perhaps_bits c.args.levels) tt _ (c.in_default.ensures.none c.args.input.bytes.now)

pub returns-in_err-first-clause-halts : goal.returns-in_err-first-clause-halts
returns-in_err-first-clause-halts c =
    let n = c.args.levels in
    passed _ _ _ c.from_residual.ensures.1
    (then_stop _ (outer (expression n) ∷ []) (outer (bits_end n) ∷ []) _ _ _
    (sign_taken (perhaps_bits n) signs.OpenBracket (expression n ∷ bits_end n ∷ []) _ _ refl
    (c.in-Some.ensures.is c.args.input.bytes.now))
    c.in_err-first.ensures.halts)

pub returns-in-Some-behind-clause-reads : goal.returns-in-Some-behind-clause-reads
returns-in-Some-behind-clause-reads c =
    let n = c.args.levels in
    reads_then _ (outer (bits_end n) ∷ []) [] _ _ _
    (bits_begun n _ _ _ (c.in-Some.ensures.is c.args.input.bytes.now) c.in_ok-first.ensures.reads)
    (sign_taken (bits_end n) signs.CloseBracket [] _ _ refl
    (c.in-Some-behind.ensures.is c.args.input.bytes.now))

pub returns-in_err-low-clause-halts : goal.returns-in_err-low-clause-halts
returns-in_err-low-clause-halts c =
    let n = c.args.levels in
    passed _ _ _ c.from_residual-in_err-low.ensures.1
    (stops_then _ (outer (bits_end n) ∷ []) _ _ _
    (bits_begun n _ _ _ (c.in-Some.ensures.is c.args.input.bytes.now) c.in_ok-first.ensures.reads)
    (c.in_err-low.ensures.halts (c.in_default-behind.ensures.none c.args.input.bytes.now)))

pub returns-clause-reads : goal.returns-clause-reads
returns-clause-reads c =
    let n = c.args.levels in
    reads_then _ (outer (bits_end n) ∷ []) [] _ _ _
    (bits_begun n _ _ _ (c.in-Some.ensures.is c.args.input.bytes.now) c.in_ok-first.ensures.reads)
    c.in_ok-low.ensures.reads
