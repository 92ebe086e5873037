use Rattle.std.proofs.Common.{length, sym, ap, ◌∙◌}
use Rattle.std.proofs.lemmas.Result.{IfOk-weaker}
use Rattle.sv_flat.specs.FlatSystem.{flat_system}
use Rattle.sv_flat.specs.Views.{design_of}
use Rattle.sv_trace.proofs.FormFacts.{all_known}
use Rattle.sv_report.proofs.JsonFacts.{same_values}
use Rattle.sv_report.proofs.json_values.inputs_value.Goals as goal

pub values_value-requires-clause-known : goal.values_value-requires-clause-known
values_value-requires-clause-known c =
    let flat = c.args.design.now in
    all_known flat c.signals.result.now c.signals.ensures.signals
    (flat_system (design_of flat)).is_input c.inputs.result.now c.inputs.ensures.inputs

pub values_value-requires-clause-count : goal.values_value-requires-clause-count
values_value-requires-clause-count c = c.requires ∙ ap length (sym c.inputs.ensures.inputs)

pub returns : goal.returns
returns c =
    let flat = c.args.design.now in
    IfOk-weaker c.values_value.result _ _
    (λ value is. is
    ∙ same_values c.signals.result.now flat.signals.items _ _ c.args.values.now
    c.signals.ensures.signals c.inputs.ensures.inputs)
    c.values_value.ensures
