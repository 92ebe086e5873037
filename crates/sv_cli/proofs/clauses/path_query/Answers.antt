use Rattle.std.proofs.Common.{◌≤◌, length, sym, arith}
use Rattle.std.proofs.lemmas.Option.{slice_get_past}
use Rattle.sv_flat.specs.Views.{design_of}
use Rattle.sv_paths.specs.ListParts.{obligations_on}
use Rattle.sv_cli.proofs.clauses.path_query.Goals as goal

pub query-requires-clause-there : goal.query-requires-clause-there
query-requires-clause-there c =
    let counted = c.len.ensures (design_of c.args.design.now) c.requires in
    omega (arith, c.if-place-len.true)

pub returns-else-place-len-clause-found : goal.returns-else-place-len-clause-found
returns-else-place-len-clause-found c =
    let os = obligations_on (design_of c.args.design.now) c.args.paths.now in
    let counted = c.len.ensures (design_of c.args.design.now) c.requires in
    let past : length os ≤ c.args.place = omega (arith, c.if-place-len.false) in
    sym (slice_get_past os c.args.place past)
