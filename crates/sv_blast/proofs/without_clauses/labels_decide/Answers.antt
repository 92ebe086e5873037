use Rattle.sv_blast.proofs.QuerySignals.{listed_known, asked_known}
use Rattle.sv_blast.proofs.without_clauses.labels_decide.Goals as goal

pub none_stays-requires-clause-known : goal.none_stays-requires-clause-known
none_stays-requires-clause-known c =
    let is = c.know_design.ensures.design in
    listed_known c.args.design.now is.is_sound is.is_admitted c.args.query.now c.requires
    c.deref.result.now c.deref.ensures.value

pub none_stays-requires-clause-target : goal.none_stays-requires-clause-target
none_stays-requires-clause-target c =
    let is = c.know_design.ensures.design in
    asked_known c.args.design.now is.is_sound is.is_admitted c.args.query.now c.requires _
    c.in-Flow.is

pub none_stays-requires-in-Selector-clause-known : goal.none_stays-requires-in-Selector-clause-known
none_stays-requires-in-Selector-clause-known c =
    let is = c.know_design.ensures.design in
    listed_known c.args.design.now is.is_sound is.is_admitted c.args.query.now c.requires
    c.deref-in-Selector.result.now c.deref-in-Selector.ensures.value

pub none_stays-requires-in-Selector-clause-target : goal.none_stays-requires-in-Selector-clause-target
none_stays-requires-in-Selector-clause-target c =
    let is = c.know_design.ensures.design in
    asked_known c.args.design.now is.is_sound is.is_admitted c.args.query.now c.requires _
    c.in-Selector.is
