use Rattle.std.proofs.Common.{◌<◌, length, codes, sym, subst, ap, ◌∙◌}
use Rattle.serde_json.specs.Data.{object}
use Rattle.serde_json.specs.View.{members_view}
use Rattle.serde_json.proofs.Views.{view-Object}
use Rattle.sv_flat.specs.SignalLists.{registers, inputs}
use Rattle.sv_flat.specs.Views.{design_of}
use Rattle.sv_obl.specs.SignalNames.{name_of}
use Rattle.sv_obl.specs.Views.{obligation_of}
use Rattle.sv_report.specs.JsonTexts.{name_data, values_data, next_data}
use Rattle.sv_report.proofs.JsonFacts.{put_in}
use Rattle.sv_report.proofs.StayFacts.{asked_known}
use Rattle.sv_report.proofs.json_flows.flow_value.Goals as goal

pub signal_value-requires-2 : goal.signal_value-requires-2
signal_value-requires-2 c =
    subst (λ s. s < length c.args.design.now.signals.items) (sym c.asked_by-asked.ensures.signal)
    (asked_known c.args.design.now (obligation_of c.args.query.now) c.requires.query
    c.requires.flow)

pub registers_value-requires : goal.registers_value-requires
registers_value-requires c = ap length c.deref-2.ensures.value ∙ c.requires.fits.of_registers.count

pub inputs_value-requires : goal.inputs_value-requires
inputs_value-requires c = ap length c.deref.ensures.value ∙ c.requires.fits.of_inputs.count

pub returns : goal.returns
returns c =
    let design = design_of c.args.design.now in
    view-Object c.put-7.new.map
    ∙ ap object
    (put_in (codes "verdict") c.in_ok-put-7.ensures.ok c.in_ok-refused.ensures
    (put_in (codes "target") c.in_ok-put-6.ensures.ok
    (c.in_ok-target.ensures
    ∙ ap (λ s. name_data (name_of design.signals s)) c.asked_by-asked.ensures.signal)
    (put_in (codes "reg") c.in_ok-put-5.ensures.ok
    (c.in_ok-regs.ensures
    ∙ ap (values_data design.signals (registers design)) c.deref-2.ensures.value)
    (put_in (codes "obligation") c.in_ok-put-4.ensures.ok c.from.ensures
    (put_in (codes "next") c.in_ok-put-3.ensures.ok
    (c.in_ok-next.ensures
    ∙ ap (λ frame. next_data design frame c.args.v.now) c.asked_by-asked.ensures.frame)
    (put_in (codes "in") c.in_ok-put-2.ensures.ok
    (c.in_ok-inputs.ensures
    ∙ ap (values_data design.signals (inputs design)) c.deref.ensures.value)
    (put_in (codes "from") c.in_ok-put.ensures.ok c.in_ok-from.ensures
    (ap members_view c.new-members.ensures.empty))))))))
