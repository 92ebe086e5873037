use Rattle.std.proofs.Common.{◌<◌, List, length, sym, ap, subst}
use Rattle.std.specs.Prelude.{All, is_some}
use Rattle.sv_flat.specs.declared.signals.SigId.{SigId}
use Rattle.sv_flat.specs.ByNumber.{FitSignals}
use Rattle.sv_flat.specs.Views.{design_of}
use Rattle.sv_design.specs.Numbers.{numbers}
use Rattle.sv_obl.specs.Valuations.{valuation_of}
use Rattle.sv_obl.specs.Views.{obligation_of}
use Rattle.sv_report.proofs.StayFacts.{Shows, asked_known, reads_known, shows, first_of}
use Rattle.sv_report.proofs.StayFacts.{first_known}
use Rattle.sv_report.proofs.reads.first_to_stay.Goals as goal
use Rattle.sv_report.proofs.reads.first_to_stay.Goals.{After-first_staying}

pub label_in-point-requires-clause-known : goal.label_in-point-requires-clause-known
label_in-point-requires-clause-known c =
    subst (λ s. s < length c.args.design.now.signals.items) (sym c.asked_by-asked.ensures.signal)
    (asked_known c.args.design.now (obligation_of c.args.query.now) c.requires.query
    c.requires.flow)

pub label_in-point-requires-clause-fit : goal.label_in-point-requires-clause-fit
label_in-point-requires-clause-fit c =
    subst (FitSignals (design_of c.args.design.now).signals) (sym c.deref.ensures.value)
    c.in_ok-frames.ensures.there_fit

pub first_staying-requires-clause-known : goal.first_staying-requires-clause-known
first_staying-requires-clause-known c =
    subst (λ (reads : List SigId). All (λ s. s < length c.args.design.now.signals.items)
    (numbers reads)) (sym c.deref-2.ensures.value)
    (reads_known c.args.design.now (obligation_of c.args.query.now) c.requires.query)

pub first_staying-requires-clause-fit : goal.first_staying-requires-clause-fit
first_staying-requires-clause-fit c =
    subst (FitSignals (design_of c.args.design.now).signals) (sym c.deref-3.ensures.value)
    c.in_ok-frames.ensures.here_fit

-- the first read is shown
shown : (c : After-first_staying) → Shows (design_of c.args.design.now)
    (obligation_of c.args.query.now) (valuation_of (design_of c.args.design.now) c.args.v.now)
    c.first_staying.result
shown c =
    shows (design_of c.args.design.now) c.label_in-point.ensures.design
    (valuation_of (design_of c.args.design.now) c.args.v.now) (obligation_of c.args.query.now)
    c.asked_by-asked.result.frame c.asked_by-asked.result.signal.0 c.deref-3.result.now
    c.in_ok-frames.frames.here.items c.deref.result.now c.in_ok-frames.frames.there.items
    (numbers c.deref-2.result.now) c.label_in-point.result c.first_staying.result
    c.requires.flow c.requires.query c.requires.fails c.asked_by-asked.ensures.frame
    c.asked_by-asked.ensures.signal c.in_ok-frames.ensures.settled
    c.in_ok-frames.ensures.in_frame c.first_staying.ensures c.label_in-point.ensures.label
    c.deref-3.ensures.value c.deref.ensures.value
    (ap (λ (reads : List SigId). numbers reads) c.deref-2.ensures.value)

pub unwrap-requires : goal.unwrap-requires
unwrap-requires c = ap is_some (shown (goal.at.unwrap-requires c).After-first_staying).is

pub returns-clause-first : goal.returns-clause-first
returns-clause-first c =
    first_of (design_of c.args.design.now) (obligation_of c.args.query.now)
    (valuation_of (design_of c.args.design.now) c.args.v.now) c.first_staying.result
    c.unwrap.result c.unwrap.ensures
    (shown (goal.at.returns-clause-first c).After-first_staying)

pub returns-clause-known : goal.returns-clause-known
returns-clause-known c =
    first_known c.args.design.now (obligation_of c.args.query.now)
    (valuation_of (design_of c.args.design.now) c.args.v.now) c.unwrap.result.0 c.requires.query
    (returns-clause-first c)
