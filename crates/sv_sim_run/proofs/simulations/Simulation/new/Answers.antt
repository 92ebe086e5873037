use Rattle.std.proofs.Common.{refl, ◌∙◌}
use Rattle.std.proofs.lemmas.Bool.{false≢true}
use Rattle.sv_flat.specs.SignalLists.{system_signals}
use Rattle.sv_flat.specs.Views.{design_of}
use Rattle.sv_sim_run.proofs.StepFacts.{come_new}
use Rattle.sv_sim_run.proofs.ValueFacts.{count_is}
use Rattle.sv_sim_run.proofs.simulations.Simulation.new.Goals as goal

pub returns-clause-made : goal.returns-clause-made
returns-clause-made c =
    let flat = design_of c.args.design.now in
    record {
      admitted = c.seen-count.ensures.design;
      runner = c.in_ok-new-2.ensures.design;
      orders = c.in_ok-new-2.ensures.made;
      form = c.in_ok-new.ensures.form;
      level = c.requires;
      room = c.in_ok-vec.ensures.len
          ∙ count_is c.seen-count.result.now (system_signals flat) c.seen-count.ensures.seen;
      begun = λ started. absurd (false≢true started);
    }

pub returns-clause-come : goal.returns-clause-come
returns-clause-come c = λ before.
    come_new _ before c.in_ok-new.ensures.fed refl refl c.in_ok-new-2.ensures.rounds
    c.new-3.ensures.items
