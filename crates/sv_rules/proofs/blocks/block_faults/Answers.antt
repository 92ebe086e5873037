use Rattle.std.proofs.Common.{sym, ap}
use Rattle.sv_flat.specs.Readings.{BitSet, no_bits}
use Rattle.sv_flat.specs.Views.{design_of, flat_statement}
use Rattle.sv_rules.proofs.BlockPasses.{targets_are, in_surrounding-nothing}
use Rattle.sv_rules.proofs.blocks.block_faults.Goals as goal

pub returns : goal.returns
returns c =
    let design = design_of c.args.flat.now in
    let body = flat_statement c.args.process.now.body in
    let targets = targets_are design.signals body c.in_ok-assigned.assigned c.requires.body
    c.in_ok-assigned.ensures in (
      c.first_latch-latch.ensures body c.requires.body targets c.in_ok-phase.ensures.1,
      c.in_ok-phase.ensures.0 body no_bits no_bits targets (λ s b.
          sym (ap (λ (z : BitSet). z s b) in_surrounding-nothing)),
    )
