use Rattle.std.proofs.Common.{◌<◌, length}
use Rattle.std.specs.Prelude.{All}
use Rattle.sv_design.specs.Numbers.{numbers}
use Rattle.sv_flat.specs.FlatSystem.{flat_system}
use Rattle.sv_flat.specs.Processes.{is_register}
use Rattle.sv_flat.specs.Views.{design_of}
use Rattle.sv_trace.proofs.FormFacts.{all_known}
use Rattle.sv_trace.proofs.forms.StimulusForm.new.Goals as goal
use Rattle.sv_trace.proofs.forms.StimulusForm.new.Goals.{After-inputs-inputs}

-- the inputs are signals
inputs_known : (c : After-inputs-inputs) →
    All (λ s. s < length c.signals-signals.result.now) (numbers c.inputs-inputs.result.now)
inputs_known c =
    all_known c.args.design.now c.signals-signals.result.now c.signals-signals.ensures.signals
    (flat_system (design_of c.args.design.now)).is_input c.inputs-inputs.result.now
    c.inputs-inputs.ensures.inputs

pub header_line-requires : goal.header_line-requires
header_line-requires c =
    record { known = inputs_known (goal.at.header_line-requires c).After-inputs-inputs }

pub widths_of-requires : goal.widths_of-requires
widths_of-requires c =
    record { known = inputs_known (goal.at.widths_of-requires c).After-inputs-inputs }

pub registers_of-requires : goal.registers_of-requires
registers_of-requires c =
    let flat = c.args.design.now in
    record {
      known = all_known flat c.signals-signals.result.now c.signals-signals.ensures.signals
          (is_register (design_of flat)) c.registers-registers.result.now
          c.registers-registers.ensures.registers;
    }
