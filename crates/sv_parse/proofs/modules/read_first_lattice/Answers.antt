use Rattle.sv_parse_machine.specs.Symbols.{perhaps_lattice}
use Rattle.sv_parse_machine.proofs.SkippedRows.{skips_symbol}
use Rattle.sv_parse_expr.proofs.Halting.{passed}
use Rattle.sv_parse.proofs.ReadingSymbols.{word_is_next}
use Rattle.sv_token.specs.declared.keywords.WordKind.TheVariants as words
use Rattle.sv_parse.proofs.modules.read_first_lattice.Goals as goal

pub returns-in_err-lattice-in-Some-clause-halts : goal.returns-in_err-lattice-in-Some-clause-halts
returns-in_err-lattice-in-Some-clause-halts c =
    passed _ _ _ c.from_residual.ensures.1
    (c.in_err-lattice-in-Some.ensures.halts
    (word_is_next words.Lattice _ _ (c.in-Some.ensures.is c.args.input.bytes.now)))

pub returns-in_ok-lattice-in-Some-clause-reads : goal.returns-in_ok-lattice-in-Some-clause-reads
returns-in_ok-lattice-in-Some-clause-reads c =
    (c.in_ok-lattice-in-Some.ensures.reads
    (word_is_next words.Lattice _ _ (c.in-Some.ensures.is c.args.input.bytes.now)))

pub returns-in-None-clause-reads : goal.returns-in-None-clause-reads
returns-in-None-clause-reads c =
    (skips_symbol perhaps_lattice tt _ (c.in-None.ensures.none c.args.input.bytes.now))
