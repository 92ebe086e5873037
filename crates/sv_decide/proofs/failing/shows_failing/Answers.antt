use Rattle.std.proofs.Common.{◌∙◌}
use Rattle.sv_flat.specs.ByNumber.{by_number}
use Rattle.sv_decide.proofs.AskedSignals.{facts_formed, path_formed, reads_known, shown_is}
use Rattle.sv_decide.proofs.failing.shows_failing.Goals as goal

pub parts_fail-requires-clause-facts : goal.parts_fail-requires-clause-facts
parts_fail-requires-clause-facts c =
    facts_formed c.args.design.now c.args.query.now c.requires.query c.deref.result.now
    c.deref.ensures.value

pub parts_fail-requires-clause-path : goal.parts_fail-requires-clause-path
parts_fail-requires-clause-path c =
    path_formed c.args.design.now c.args.query.now c.requires.query c.deref-2.result.now
    c.deref-2.ensures.value

pub parts_fail-requires-clause-reads : goal.parts_fail-requires-clause-reads
parts_fail-requires-clause-reads c =
    reads_known c.args.design.now c.args.query.now c.requires.query c.deref-3.result.now
    c.deref-3.ensures.value

pub returns : goal.returns
returns c =
    c.parts_fail.ensures
    ∙ shown_is c.args.design.now c.args.query.now c.requires.query (by_number c.args.values.now)
    c.args.asked c.deref.result.now c.deref-2.result.now c.deref-3.result.now
    c.deref.ensures.value c.deref-2.ensures.value c.deref-3.ensures.value
