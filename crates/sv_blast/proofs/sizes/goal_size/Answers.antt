use Rattle.sv_blast.proofs.QuerySignals.{listed_known, asked_known}
use Rattle.sv_blast.proofs.sizes.goal_size.Goals as goal

pub flow_size-requires-clause-known : goal.flow_size-requires-clause-known
flow_size-requires-clause-known c =
    let is = c.signals-signals.ensures.design in
    listed_known c.args.design.now is.is_sound is.is_admitted c.args.query.now c.requires
    c.deref.result.now c.deref.ensures.value

pub flow_size-requires-clause-target : goal.flow_size-requires-clause-target
flow_size-requires-clause-target c =
    let is = c.signals-signals.ensures.design in
    asked_known c.args.design.now is.is_sound is.is_admitted c.args.query.now c.requires _
    c.in-Flow.is

pub flow_size-requires-in-Selector-clause-known : goal.flow_size-requires-in-Selector-clause-known
flow_size-requires-in-Selector-clause-known c =
    let is = c.signals-signals.ensures.design in
    listed_known c.args.design.now is.is_sound is.is_admitted c.args.query.now c.requires
    c.deref-in-Selector.result.now c.deref-in-Selector.ensures.value

pub flow_size-requires-in-Selector-clause-target : goal.flow_size-requires-in-Selector-clause-target
flow_size-requires-in-Selector-clause-target c =
    let is = c.signals-signals.ensures.design in
    asked_known c.args.design.now is.is_sound is.is_admitted c.args.query.now c.requires _
    c.in-Selector.is
