use Rattle.std.proofs.Common.{[], ◌∷◌, refl}
use Rattle.sv_parse_machine.specs.Symbols.{outer, lattice_lines}
use Rattle.sv_parse_machine.proofs.ReadSteps.{reads_then}
use Rattle.sv_parse_machine.proofs.ReadRows.{word_taken}
use Rattle.sv_parse_expr.proofs.Halting.{passed, stops_then}
use Rattle.sv_parse.proofs.ReadingItems.{lines_end, lines_more}
use Rattle.sv_token.specs.declared.keywords.WordKind.TheVariants as words
use Rattle.std.proofs.Common.{rules}
use Rattle.sv_parse.proofs.lattices.read_lines.Goals as goal

pub returns-in-Some-clause-is : goal.returns-in-Some-clause-is
returns-in-Some-clause-is c =
    lines_end _ _ _ _ _ c.loop-after.invariant.are (c.in-Some.ensures.is c.args.input.bytes.now)

pub returns-in-Some-clause-reads : goal.returns-in-Some-clause-reads
returns-in-Some-clause-reads c =
    reads_then (outer lattice_lines ∷ []) (outer lattice_lines ∷ []) [] _ _ _
    c.loop-after.invariant.reads
    (word_taken lattice_lines words.Endlattice [] _ _ refl
    (c.in-Some.ensures.is c.args.input.bytes.now))

pub returns-in_err-more-clause-halts : goal.returns-in_err-more-clause-halts
returns-in_err-more-clause-halts c =
    passed _ _ _ c.from_residual.ensures.1
    (stops_then (outer lattice_lines ∷ []) (outer lattice_lines ∷ []) _ _ _
    c.loop-after.invariant.reads
    (c.in_err-more.ensures.halts (c.in_default.ensures.none c.args.input.bytes.now)))

pub loop-after-preserved : goal.loop-after-preserved
loop-after-preserved c = record {
  are = lines_more _ _ _ _ _ _ _ c.loop-after.invariant.are c.in_ok-more.ensures.is;
  shorter = search rules;
  reads =
      reads_then (outer lattice_lines ∷ []) (outer lattice_lines ∷ []) (outer lattice_lines ∷ []) _
      _ _ c.loop-after.invariant.reads
      (c.in_ok-more.ensures.reads (c.in_default.ensures.none c.args.input.bytes.now));
}
