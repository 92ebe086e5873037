use Rattle.std.proofs.Common.{◌<◌, length, refl, sym, subst, arith}
use Rattle.std.proofs.lemmas.Option.{slice_get_read}
use Rattle.sv_flat.specs.Views.{design_of}
use Rattle.sv_judge.specs.Walking.{IsNext}
use Rattle.sv_judge.proofs.verifying.verify_part.Goals as goal

pub verify_next-requires-clause-next : goal.verify_next-requires-clause-next
verify_next-requires-clause-next c =
    let queries = c.args.queries.now in
    let k = c.loop-query.query-index in
    let query = c.query-item.result in
    let inside : k < length queries = omega arith in
    subst (λ n. IsNext (design_of c.args.design.now) n query) (sym c.loop-query.invariant.counted)
    (c.requires.next k query
    (slice_get_read queries (length queries) k query refl inside c.query-item.is))

pub overflow_add-place : goal.overflow_add-place
overflow_add-place c =
    let queries = c.args.queries.now in
    let k = c.loop-query.query-index in
    let query = c.query-item.result in
    let inside : k < length queries = omega arith in
    let few =
    (c.requires.next k query
    (slice_get_read queries (length queries) k query refl inside c.query-item.is)).few in
    omega arith
