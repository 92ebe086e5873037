use Rattle.std.proofs.Common.{[], ◌∷◌, refl}
use Rattle.sv_parse_machine.specs.Symbols.{outer, perhaps_ports, ports}
use Rattle.sv_parse_machine.proofs.ReadSteps.{reads_then}
use Rattle.sv_parse_machine.proofs.ReadRows.{sign_taken}
use Rattle.sv_parse_machine.proofs.SkippedRows.{skips_symbol}
use Rattle.sv_parse_expr.proofs.Halting.{passed, stops_then}
use Rattle.sv_parse.proofs.ReadingItems.{port_list_is}
use Rattle.sv_token.specs.declared.signs.SignKind.TheVariants as signs
use Rattle.sv_parse.proofs.modules.read_port_list.Goals as goal

pub returns-in_err-ports-in-Some-clause-halts : goal.returns-in_err-ports-in-Some-clause-halts
returns-in_err-ports-in-Some-clause-halts c =
    passed _ _ _ c.from_residual.ensures.1
    (stops_then (outer perhaps_ports ∷ []) (outer ports ∷ []) _ _ _
    (sign_taken perhaps_ports signs.OpenParenthesis (ports ∷ []) _ _ refl
    (c.in-Some.ensures.is c.args.input.bytes.now))
    c.in_err-ports-in-Some.ensures.halts)

pub returns-in_ok-ports-in-Some-clause-reads : goal.returns-in_ok-ports-in-Some-clause-reads
returns-in_ok-ports-in-Some-clause-reads c =
    (reads_then (outer perhaps_ports ∷ []) (outer ports ∷ []) [] _ _ _
    (sign_taken perhaps_ports signs.OpenParenthesis (ports ∷ []) _ _ refl
    (c.in-Some.ensures.is c.args.input.bytes.now))
    c.in_ok-ports-in-Some.ensures.reads)

pub returns-in-None-clause-reads : goal.returns-in-None-clause-reads
returns-in-None-clause-reads c =
    (skips_symbol perhaps_ports tt _ (c.in-None.ensures.none c.args.input.bytes.now))

pub returns-in_ok-ports-in-Some-clause-is : goal.returns-in_ok-ports-in-Some-clause-is
returns-in_ok-ports-in-Some-clause-is c =
    port_list_is _ _ _ _ (c.in-Some.ensures.is c.args.input.bytes.now)
    c.in_ok-ports-in-Some.ensures.is
