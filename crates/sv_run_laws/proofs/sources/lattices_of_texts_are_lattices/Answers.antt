use Rattle.sv_run_laws.proofs.SourceLattices.{source_lattice, design_passes}
use Rattle.sv_run_laws.proofs.sources.lattices_of_texts_are_lattices.Goals as goal

pub returns-clause-lattice : goal.returns-clause-lattice
returns-clause-lattice c text passes = source_lattice text passes.0 passes.1

pub returns-clause-passes : goal.returns-clause-passes
returns-clause-passes c text asked design flat = (design_passes text asked design flat).0

pub returns-clause-table : goal.returns-clause-table
returns-clause-table c text asked design flat = (design_passes text asked design flat).1
