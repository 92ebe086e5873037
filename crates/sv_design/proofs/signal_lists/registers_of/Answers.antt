use Rattle.std.proofs.Common.{length, ◌∙◌}
use Rattle.std.proofs.Math.ListN.{length-map}
use Rattle.sv_flat.specs.Processes.{is_register}
use Rattle.sv_flat.specs.Views.{design_of, signal_form}
use Rattle.sv_rules.proofs.TableFacts.{listed_are}
use Rattle.sv_design.proofs.signal_lists.registers_of.Goals as goal

pub returns : goal.returns
returns c =
    let design = design_of c.args.flat.now in
    c.in_ok-signals.ensures
    ∙ listed_are (length c.args.flat.now.signals.items) c.args.table.now (is_register design)
    (length design.signals) c.requires.table
    (length-map c.args.flat.now.signals.items signal_form)
