use Rattle.std.proofs.Common.{◌≡◌, ◌++◌, codes, rules}
use Rattle.std.specs.Prelude.{decimal}
use Rattle.sv_flat.specs.ByNumber.{signal_forms}
use Rattle.sv_obl.specs.SignalNames.{name_of}
use Rattle.sv_report.proofs.FlowTextFacts.{line_parts}
use Rattle.sv_report.proofs.flow_texts.push_flow_line.Goals as goal

pub returns : goal.returns
returns c =
    let signals = signal_forms c.args.signals.now in
    let before : c.as_bytes.result.now ≡ codes "refused flow " ++ decimal c.args.number ++ codes " "
    = search rules in
    line_parts (codes "refused flow " ++ decimal c.args.number ++ codes " ")
    (name_of signals c.args.signal.0) (codes " from ") (name_of signals c.args.read.0)
    (codes "\n") c.as_bytes.result.now c.args.text.now.items c.push_name.new.text.items
    c.push_name-2.new.text.items c.push.new.self.items before c.in_ok-push_name.ensures
    c.in_ok-push_name-2.ensures c.in_ok-push.ensures.items
