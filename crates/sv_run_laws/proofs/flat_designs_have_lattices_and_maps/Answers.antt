use Rattle.sv_run_laws.proofs.CheckedDesigns.{walked_design}
use Rattle.sv_run_laws.proofs.flat_designs_have_lattices_and_maps.Goals as goal

pub returns-clause-lattice : goal.returns-clause-lattice
returns-clause-lattice c text asked design flat = (walked_design text asked design flat).0

pub returns-clause-maps : goal.returns-clause-maps
returns-clause-maps c text asked design flat = (walked_design text asked design flat).1
