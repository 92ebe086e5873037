use Rattle.std.proofs.Common.{[], map, sym, ap, ◌∙◌, subst}
use Rattle.sv_flat.specs.Views.{design_of}
use Rattle.sv_trace.specs.Forms.{form_of}
use Rattle.sv_trace.specs.Reading.{Reading, HasRead}
use Rattle.sv_trace.specs.Stimulus.{read_whole}
use Rattle.sv_trace.proofs.StimFacts.{feed_fault, finish_fault, answered_none, one_taken}
use Rattle.sv_trace.proofs.StimFacts.{fit_inputs, none_fit, one_fits}
use Rattle.sv_trace.proofs.stim.read_stim.Goals as goal

pub returns-in_err-feed-clause-fault : goal.returns-in_err-feed-clause-fault
returns-in_err-feed-clause-fault c =
    feed_fault (form_of (design_of c.args.design.now)) c.args.bytes.now c.in_ok-reader.reader
    c.feed.new.self c.in_err-feed.field-0.0 c.from_residual-in_err-feed.result
    c.from_residual-in_err-feed.ensures.1 c.in_ok-reader.ensures.fed
    (c.in_err-feed.ensures.form ∙ c.in_ok-reader.ensures.form) c.in_err-feed.ensures.answer
    c.in_err-feed.ensures.read

pub returns-in_err-finish-clause-fault : goal.returns-in_err-finish-clause-fault
returns-in_err-finish-clause-fault c =
    finish_fault (form_of (design_of c.args.design.now)) c.args.bytes.now c.feed.new.self
    c.finish.new.self c.in_err-finish.field-0.0 c.from_residual-in_err-finish.result
    c.from_residual-in_err-finish.ensures.1
    (c.in_ok-feed.ensures.read [] [] c.in_ok-reader.ensures.fed)
    (c.in_err-finish.ensures.form ∙ (c.in_ok-feed.ensures.form ∙ c.in_ok-reader.ensures.form))
    c.in_err-finish.ensures.answer c.in_err-finish.ensures.read

pub cycles-init : goal.cycles-init
cycles-init c =
    let bytes = c.args.bytes.now in
    let new = c.finish.new.self in
    let form = c.in_ok-finish.ensures.form ∙ (c.in_ok-feed.ensures.form
    ∙ c.in_ok-reader.ensures.form) in
    record {
      form = form;
      fault = answered_none new.fault c.in_ok-finish.ensures.answer;
      read =
          subst (λ vs. HasRead (read_whole (form_of (design_of c.args.design.now)) bytes)
          (map (λ v. v.items) vs) new) (sym c.new-cycles.ensures.items)
          (subst (λ f. HasRead (read_whole f bytes) [] new) form
          (c.in_ok-finish.ensures.read bytes []
          (c.in_ok-feed.ensures.read [] [] c.in_ok-reader.ensures.fed)));
      fits = none_fit (λ v. v.items) (fit_inputs (design_of c.args.design.now))
          c.new-cycles.result.items c.new-cycles.ensures.items;
    }

pub cycles-preserved : goal.cycles-preserved
cycles-preserved c =
    let read = read_whole (form_of (design_of c.args.design.now)) c.args.bytes.now in
    record {
      form = ap (λ (r : Reading). r.form) c.next_cycle.ensures.same ∙ c.cycles.invariant.form;
      fault = ap (λ (r : Reading). r.fault) c.next_cycle.ensures.same ∙ c.cycles.invariant.fault;
      read = one_taken (λ v. v.items) read c.cycles.cycles.items c.push.new.self.items
          c.in-Some.cycle c.next_cycle.new.self
          (c.in-Some.ensures.read read (map (λ v. v.items) c.cycles.cycles.items)
          c.cycles.invariant.read)
          c.in_ok-push.ensures.items;
      fits = one_fits (λ v. v.items) (fit_inputs (design_of c.args.design.now))
          c.cycles.cycles.items c.push.new.self.items c.in-Some.cycle c.cycles.invariant.fits
          (c.in-Some.ensures.fits (design_of c.args.design.now) c.cycles.invariant.form)
          c.in_ok-push.ensures.items;
    }

pub returns-clause-start : goal.returns-clause-start
returns-clause-start c =
    c.into_start.ensures.fits (design_of c.args.design.now)
    (ap (λ (r : Reading). r.form) c.next_cycle.ensures.same ∙ c.cycles.invariant.form)
