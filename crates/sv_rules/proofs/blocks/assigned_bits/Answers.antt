use Rattle.sv_flat.specs.Views.{flat_statement}
use Rattle.sv_rules.proofs.Passes.{only_assigned}
use Rattle.sv_rules.proofs.blocks.assigned_bits.Goals as goal

pub returns : goal.returns
returns c =
    only_assigned c.new-bits.result c.add_assigned.new.bits (flat_statement c.args.body.now)
    c.new-bits.ensures c.in_ok-add_assigned.ensures
