use Rattle.std.proofs.Common.{[], ◌∷◌}
use Rattle.sv_parse_machine.specs.Symbols.{outer, perhaps_maps}
use Rattle.sv_parse_machine.proofs.ReadSteps.{reads_then}
use Rattle.sv_parse_machine.proofs.SkippedRows.{skips_symbol}
use Rattle.sv_parse_expr.proofs.Halting.{passed, stops_then}
use Rattle.sv_parse.proofs.ReadingSymbols.{word_is_next}
use Rattle.sv_parse.proofs.ReadingItems.{each_end, pushed_each}
use Rattle.sv_token.specs.declared.keywords.WordKind.TheVariants as words
use Rattle.std.proofs.Common.{rules}
use Rattle.sv_ast.specs.Views.{map_tree}
use Rattle.sv_parse.proofs.modules.read_maps.Goals as goal

pub returns-clause-is : goal.returns-clause-is
returns-clause-is c = each_end _ _ _ _ _ c.loop-maps.invariant.are

pub returns-clause-reads : goal.returns-clause-reads
returns-clause-reads c =
    reads_then (outer perhaps_maps ∷ []) (outer perhaps_maps ∷ []) [] _ _ _
    c.loop-maps.invariant.reads
    (skips_symbol perhaps_maps tt _ (c.in_default.ensures.none c.args.input.bytes.now))

pub returns-in_err-map-clause-halts : goal.returns-in_err-map-clause-halts
returns-in_err-map-clause-halts c =
    passed _ _ _ c.from_residual.ensures.1
    (stops_then (outer perhaps_maps ∷ []) (outer perhaps_maps ∷ []) _ _ _
    c.loop-maps.invariant.reads
    (c.in_err-map.ensures.halts
    (word_is_next words.Labelmap _ _ (c.in-Some.ensures.is c.args.input.bytes.now))))

pub loop-maps-preserved : goal.loop-maps-preserved
loop-maps-preserved c = record {
  are =
      pushed_each _ _ map_tree _ _ _ _ _ _ _ c.in_ok-push.ensures.items c.loop-maps.invariant.are
      c.in_ok-map.ensures.is;
  shorter = search rules;
  reads =
      reads_then (outer perhaps_maps ∷ []) (outer perhaps_maps ∷ []) (outer perhaps_maps ∷ []) _ _ _
      c.loop-maps.invariant.reads
      (c.in_ok-map.ensures.reads
      (word_is_next words.Labelmap _ _ (c.in-Some.ensures.is c.args.input.bytes.now)));
}
