use Rattle.std.proofs.Common.{[], ◌∷◌}
use Rattle.sv_parse_machine.specs.Symbols.{outer, perhaps_lattice, perhaps_maps, one_module}
use Rattle.sv_parse_expr.proofs.Halting.{passed, stops_before}
use Rattle.sv_parse.proofs.WholeTexts.{fails_behind, halting_fails}
use Rattle.sv_parse.proofs.ReadingItems.{text_is}
use Rattle.sv_parse.proofs.modules.text.Goals as goal

pub returns-clause-is : goal.returns-clause-is
returns-clause-is c =
    text_is _ _ _ _ c.in_ok-lattice.ensures.is c.in_ok-maps.ensures.is c.in_ok-modules.ensures.are

pub returns-in_err-lattice-clause-fails : goal.returns-in_err-lattice-clause-fails
returns-in_err-lattice-clause-fails c =
    passed _ _ _ c.from_residual.ensures.1
    (halting_fails (outer perhaps_lattice ∷ outer perhaps_maps ∷ outer one_module ∷ []) _ _
    (stops_before (outer perhaps_lattice ∷ []) (outer perhaps_maps ∷ outer one_module ∷ []) _ _
    c.in_err-lattice.ensures.halts))

pub returns-in_err-maps-clause-fails : goal.returns-in_err-maps-clause-fails
returns-in_err-maps-clause-fails c =
    passed _ _ _ c.from_residual-in_err-maps.ensures.1
    (fails_behind (outer perhaps_lattice ∷ []) [] (outer perhaps_maps ∷ outer one_module ∷ []) _ _ _
    c.in_ok-lattice.ensures.reads
    (halting_fails (outer perhaps_maps ∷ outer one_module ∷ []) _ _
    (stops_before (outer perhaps_maps ∷ []) (outer one_module ∷ []) _ _
    c.in_err-maps.ensures.halts)))

pub returns-in_err-modules-clause-fails : goal.returns-in_err-modules-clause-fails
returns-in_err-modules-clause-fails c =
    passed _ _ _ c.from_residual-in_err-modules.ensures.1
    (fails_behind (outer perhaps_lattice ∷ []) [] (outer perhaps_maps ∷ outer one_module ∷ []) _ _ _
    c.in_ok-lattice.ensures.reads
    (fails_behind (outer perhaps_maps ∷ []) [] (outer one_module ∷ []) _ _ _
    c.in_ok-maps.ensures.reads c.in_err-modules.ensures.fails))
