use Rattle.std.proofs.Common.{◌<◌, ◌++◌, codes, length, sym, ap, subst, ◌∙◌}
use Rattle.sv_flat.specs.Processes.{is_register}
use Rattle.sv_flat.specs.FlatSystem.{flat_system}
use Rattle.sv_flat.specs.SignalLists.{registers, inputs}
use Rattle.sv_flat.specs.Views.{design_of}
use Rattle.sv_design.specs.Numbers.{numbers}
use Rattle.sv_obl.specs.Validity.{goal_frame}
use Rattle.sv_obl.specs.Views.{goal_form, obligation_of}
use Rattle.sv_trace.proofs.FormFacts.{all_known}
use Rattle.sv_report.specs.FlowText.{asked_signal, value_lines, flow_line, next_lines}
use Rattle.sv_report.proofs.FlowTextFacts.{whole, same_line, same_lines}
use Rattle.sv_report.proofs.StayFacts.{asked_known}
use Rattle.sv_report.proofs.flow_texts.flow_text.Goals as goal

pub push_flow_line-requires-clause-signal : goal.push_flow_line-requires-clause-signal
push_flow_line-requires-clause-signal c =
    subst (λ s. s < length c.signals-signals.result.now) (sym c.asked_by-asked.ensures.signal)
    (subst (λ n. asked_signal (goal_form c.args.query.now.goal) < n)
    (ap length (sym c.signals-signals.ensures.signals))
    (asked_known c.args.design.now (obligation_of c.args.query.now) c.requires.query
    c.requires.flow))

pub push_flow_line-requires-clause-read : goal.push_flow_line-requires-clause-read
push_flow_line-requires-clause-read c =
    subst (λ n. c.in_ok-read.read.0 < n) (ap length (sym c.signals-signals.ensures.signals))
    c.in_ok-read.ensures.known

pub push_value_lines-requires-clause-known : goal.push_value_lines-requires-clause-known
push_value_lines-requires-clause-known c =
    all_known c.args.design.now c.signals-signals.result.now c.signals-signals.ensures.signals
    (is_register (design_of c.args.design.now)) c.registers.result.now c.registers.ensures.registers

pub push_value_lines-requires-clause-count : goal.push_value_lines-requires-clause-count
push_value_lines-requires-clause-count c =
    ap length c.deref.ensures.value ∙ c.requires.fits.of_registers.count
    ∙ ap length (sym c.registers.ensures.registers)

pub push_value_lines-requires-2-clause-known : goal.push_value_lines-requires-2-clause-known
push_value_lines-requires-2-clause-known c =
    let flat = c.args.design.now in
    all_known flat c.signals-signals.result.now c.signals-signals.ensures.signals
    (flat_system (design_of flat)).is_input c.inputs.result.now c.inputs.ensures.inputs

pub push_value_lines-requires-2-clause-count : goal.push_value_lines-requires-2-clause-count
push_value_lines-requires-2-clause-count c =
    ap length c.deref-2.ensures.value ∙ c.requires.fits.of_inputs.count
    ∙ ap length (sym c.inputs.ensures.inputs)

pub returns : goal.returns
returns c =
    let flat = c.args.design.now in
    let design = design_of flat in
    let v = c.args.v.now in
    let goal = goal_form c.args.query.now.goal in
    let read = c.in_ok-read.read.0 in
    let signals = c.signals-signals.result.now in
    let are = c.signals-signals.ensures.signals in
    record {
      read = read;
      first = c.in_ok-read.ensures.first;
      prints = whole
          (flow_line design.signals c.args.number (asked_signal goal) read)
          (value_lines design.signals (codes "reg ") (registers design) v.regs.items)
          (value_lines design.signals (codes "in ") (inputs design) v.inputs.items)
          (next_lines design (goal_frame goal) v)
          c.new-text.result.items c.push_flow_line.new.text.items
          c.push_value_lines.new.text.items c.push_value_lines-2.new.text.items
          c.push_next_lines.new.text.items
          c.new-text.ensures.items
          (c.in_ok-push_flow_line.ensures
          ∙ ap (λ text. c.new-text.result.items ++ text)
          (same_line c.args.number c.asked_by-asked.result.signal.0 read signals flat.signals.items
          are
          ∙ ap (λ s. flow_line design.signals c.args.number s read)
          c.asked_by-asked.ensures.signal))
          (c.in_ok-push_value_lines.ensures
          ∙ ap (λ text. c.push_flow_line.new.text.items ++ text)
          (same_lines (codes "reg ") signals flat.signals.items (numbers c.registers.result.now)
          (registers design) c.deref.result.now v.regs.items are c.registers.ensures.registers
          c.deref.ensures.value))
          (c.in_ok-push_value_lines-2.ensures
          ∙ ap (λ text. c.push_value_lines.new.text.items ++ text)
          (same_lines (codes "in ") signals flat.signals.items (numbers c.inputs.result.now)
          (inputs design) c.deref-2.result.now v.inputs.items are c.inputs.ensures.inputs
          c.deref-2.ensures.value))
          (c.in_ok-push_next_lines.ensures
          ∙ ap (λ frame. c.push_value_lines-2.new.text.items ++ next_lines design frame v)
          c.asked_by-asked.ensures.frame);
    }
