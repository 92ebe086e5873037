use Rattle.std.proofs.Common.{[], ◌∷◌, refl}
use Rattle.sv_parse_machine.specs.Symbols.{outer, lattice_lines, perhaps_lattice}
use Rattle.sv_parse_machine.proofs.ReadSteps.{reads_then}
use Rattle.sv_parse_machine.proofs.ReadRows.{word_taken}
use Rattle.sv_parse_expr.proofs.Halting.{passed, stops_then}
use Rattle.sv_parse_stmt.proofs.SymbolsAlike.{word_is_there}
use Rattle.sv_parse.proofs.ReadingItems.{lattice_is}
use Rattle.sv_token.specs.declared.keywords.WordKind.TheVariants as words
use Rattle.sv_parse.proofs.lattices.read_lattice.Goals as goal

pub returns-in_err-place-clause-halts : goal.returns-in_err-place-clause-halts
returns-in_err-place-clause-halts c = λ is.
    passed _ _ _ c.from_residual.ensures.1
    (word_is_there _ words.Lattice _ _ _ _ is (c.in_err-place.ensures.stops c.args.input.bytes.now))

pub returns-in_err-points-clause-halts : goal.returns-in_err-points-clause-halts
returns-in_err-points-clause-halts c = λ is.
    passed _ _ _ c.from_residual-in_err-points.ensures.1
    (stops_then (outer perhaps_lattice ∷ []) (outer lattice_lines ∷ []) _ _ _
    (word_taken perhaps_lattice words.Lattice (lattice_lines ∷ []) _ _ refl
    (c.in_ok-place.place, c.in_ok-place.ensures.is c.args.input.bytes.now))
    c.in_err-points.ensures.halts)

pub returns-clause-reads : goal.returns-clause-reads
returns-clause-reads c = λ is.
    (reads_then (outer perhaps_lattice ∷ []) (outer lattice_lines ∷ []) [] _ _ _
    (word_taken perhaps_lattice words.Lattice (lattice_lines ∷ []) _ _ refl
    (c.in_ok-place.place, c.in_ok-place.ensures.is c.args.input.bytes.now))
    c.in_ok-points.ensures.reads)

pub returns-clause-is : goal.returns-clause-is
returns-clause-is c =
    lattice_is _ _ _ _ (c.in_ok-place.ensures.is c.args.input.bytes.now) c.in_ok-points.ensures.is
