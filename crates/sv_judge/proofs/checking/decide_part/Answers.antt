use Rattle.std.proofs.Common.{rules, ◌+◌, length, refl, sym, ◌∙◌, ap, subst}
use Rattle.std.proofs.lemmas.Iterator.Adapters.{YieldsList-from_vec}
use Rattle.std.proofs.lemmas.Iterator.Consumers.{YieldsList-turn, YieldsList-end}
use Rattle.std.proofs.lemmas.Option.{slice_get_read}
use Rattle.sv_flat.specs.Views.{design_of}
use Rattle.sv_judge.specs.Walking.{IsNext}
use Rattle.sv_judge.proofs.checking.decide_part.Goals as goal

pub decide_next-requires-clause-next : goal.decide_next-requires-clause-next
decide_next-requires-clause-next c =
    let items = c.args.queries.items in
    let place = length c.loop-query.yielded in
    let turn =
    YieldsList-turn
    (YieldsList-from_vec {s = c.into_iter-query-iterator.result} items (search rules)
    (search rules)) c.loop-query.yielded _ c.loop-query.yielded_by _ c.next.new.self
    c.in-Some.query c.in-Some.is c.next.ensures.steps in
    subst (λ n. IsNext (design_of c.args.design.now) n c.in-Some.query)
    (sym c.loop-query.invariant.counted)
    (c.requires.next place c.in-Some.query
    (slice_get_read items (length items) place c.in-Some.query refl turn.0 turn.1))

pub returns-clause-count : goal.returns-clause-count
returns-clause-count c =
    let items = c.args.queries.items in
    let end =
    YieldsList-end
    (YieldsList-from_vec {s = c.into_iter-query-iterator.result} items (search rules)
    (search rules)) c.loop-query.yielded _ c.loop-query.yielded_by _ c.next.new.self
    c.in-None.is c.next.ensures.steps in
    c.loop-query.invariant.counted ∙ ap (λ n. c.args.progress.now.count + n) end.1
