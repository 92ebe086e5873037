use Rattle.sv_flat.specs.FlatSystem.{flat_system}
use Rattle.sv_flat.specs.Views.{design_of}
use Rattle.sv_trace.proofs.FormFacts.{all_known}
use Rattle.sv_report.proofs.flow_texts.push_next_lines.Goals as goal

pub push_value_lines-requires-clause-known : goal.push_value_lines-requires-clause-known
push_value_lines-requires-clause-known c =
    let flat = c.args.design.now in
    all_known flat c.signals-signals.result.now c.signals-signals.ensures.signals
    (flat_system (design_of flat)).is_input c.inputs-inputs.result.now
    c.inputs-inputs.ensures.inputs
