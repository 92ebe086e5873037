use Rattle.std.proofs.Common.{[], ◌∷◌}
use Rattle.sv_parse_machine.specs.Symbols.{outer, punctuation, plain_name, plain_number, rows}
use Rattle.sv_parse_machine.specs.Symbols.{perhaps_second_key}
use Rattle.sv_parse_machine.proofs.ReadSteps.{reads_then, reads_before}
use Rattle.sv_parse_expr.proofs.Halting.{passed, stops_then, stops_before}
use Rattle.sv_parse.proofs.ReadingSymbols.{begins_row}
use Rattle.sv_parse.proofs.ReadingItems.{each_end, pushed_each}
use Rattle.sv_token.specs.declared.signs.SignKind.TheVariants as signs
use Rattle.std.proofs.Common.{rules}
use Rattle.sv_ast.specs.Views.{row_tree}
use Rattle.sv_parse.proofs.label_maps.read_rows.Goals as goal

pub returns-in_err-row-clause-halts : goal.returns-in_err-row-clause-halts
returns-in_err-row-clause-halts c =
    passed _ _ _ c.from_residual.ensures.1
    (stops_then (outer rows ∷ []) (outer rows ∷ []) _ _ _ c.loop-alloc.invariant.reads
    (stops_then (outer rows ∷ [])
    (outer plain_number ∷ outer perhaps_second_key ∷ outer (punctuation signs.Colon) ∷
    outer plain_name ∷ outer (punctuation signs.Semicolon) ∷
    outer rows ∷ []) _ _ _
    (begins_row _ (c.loop-alloc-test.ensures.default c.args.input.bytes.now (search rules))
    (c.loop-alloc-test.ensures.last c.args.input.bytes.now (search rules)))
    (stops_before (outer plain_number ∷ outer perhaps_second_key ∷ outer (punctuation signs.Colon) ∷
    outer plain_name ∷ outer (punctuation signs.Semicolon) ∷ []) (outer rows ∷ []) _ _
    c.in_err-row.ensures.halts)))

pub loop-alloc-preserved : goal.loop-alloc-preserved
loop-alloc-preserved c = record {
  are =
      pushed_each _ _ row_tree _ _ _ _ _ _ _ c.in_ok-push.ensures.items c.loop-alloc.invariant.are
      c.in_ok-row.ensures.is;
  shorter = search rules;
  reads =
      reads_then (outer rows ∷ []) (outer rows ∷ []) (outer rows ∷ []) _ _ _
      c.loop-alloc.invariant.reads
      (reads_then (outer rows ∷ [])
      (outer plain_number ∷ outer perhaps_second_key ∷ outer (punctuation signs.Colon) ∷
      outer plain_name ∷ outer (punctuation signs.Semicolon) ∷
      outer rows ∷ []) (outer rows ∷ []) _ _ _
      (begins_row _ (c.loop-alloc-test.ensures.default c.args.input.bytes.now (search rules))
      (c.loop-alloc-test.ensures.last c.args.input.bytes.now (search rules)))
      (reads_before (outer plain_number ∷ outer perhaps_second_key ∷
      outer (punctuation signs.Colon) ∷ outer plain_name ∷
      outer (punctuation signs.Semicolon) ∷ []) [] (outer rows ∷ []) _ _
      c.in_ok-row.ensures.reads));
}

pub returns-clause-is : goal.returns-clause-is
returns-clause-is c = each_end _ _ _ _ _ c.loop-alloc.invariant.are
