use Rattle.std.proofs.Common.{sym, ap, ◌∙◌}
use Rattle.sv_flat.specs.ByNumber.{by_number}
use Rattle.sv_flat.specs.Views.{design_of}
use Rattle.sv_event.proofs.PlaceFacts.{comb_inside, numbered_is}
use Rattle.sv_event.proofs.runs.run_numbered.Goals as goal

pub run_at-requires-clause-place : goal.run_at-requires-clause-place
run_at-requires-clause-place c =
    comb_inside (design_of c.args.design.now) c.args.combs.now c.requires.combs c.args.process
    c.requires.process

pub returns-clause-run : goal.returns-clause-run
returns-clause-run c =
    c.run_at.ensures.run
    ∙ ap (λ r. r (by_number c.args.values.now))
    (sym (numbered_is (design_of c.args.design.now) c.args.combs.now c.requires.combs
    c.args.process c.requires.process))
