use Rattle.std.proofs.Common.{length, rules}
use Rattle.std.proofs.iter.runs.Sources.{range_runs}
use Rattle.sv_lattice.specs.Tables.{AreApart}
use Rattle.sv_lattice.proofs.SearchLemmas.{row_by_row}
use Rattle.sv_lattice.proofs.bounds.first_circle.Goals as goal

pub returns : goal.returns
returns c =
    row_by_row (length c.args.table.now) (AreApart c.args.table.now) _
    (λ a r f called. search rules) (λ x o q called. search rules) range_runs
    c.find_map.result c.find_map.ensures.runs
