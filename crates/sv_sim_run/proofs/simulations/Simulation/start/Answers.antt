use Rattle.std.proofs.Common.{◌≡◌, ℕ, refl, sym, subst, ◌∙◌}
use Rattle.std.specs.Prelude.{IfSome}
use Rattle.sv_flat.specs.SignalLists.{registers}
use Rattle.sv_flat.specs.Schedules.{starting}
use Rattle.sv_flat.specs.Given.{FitListed, given}
use Rattle.sv_sim_run.specs.Progress.{flat_of}
use Rattle.sv_sim_run.specs.Runners.{values_in, order_in}
use Rattle.sv_sim_run.proofs.CallFacts.{made_runner}
use Rattle.sv_sim_run.proofs.GivenFacts.{own_values, registers_apart}
use Rattle.sv_sim_run.proofs.ProgressFacts.{started_now}
use Rattle.sv_sim_run.proofs.StepFacts.{known_start}
use Rattle.sv_sim_run.proofs.simulations.Simulation.start.Goals as goal

pub load-requires-clause-fit : goal.load-requires-clause-fit
load-requires-clause-fit c =
    let s = c.args.self.now in
    let known = known_start s.reader.said.begun c.in-Some.start.now s.reader.said.start
    c.in-Some.ensures.start in
    subst (λ vs. FitListed (flat_of s).signals (registers (flat_of s)) vs) (sym known.0)
    (c.in-Some.ensures.fits (flat_of s) c.requires.made.form)

pub returns-in_err-load-clause-made : goal.returns-in_err-load-clause-made
returns-in_err-load-clause-made c =
    made_runner c.args.self.now _ c.requires.made refl c.load.ensures.design c.load.ensures.made
    refl

pub returns-in_ok-load-clause-made : goal.returns-in_ok-load-clause-made
returns-in_ok-load-clause-made c =
    let s = c.args.self.now in
    let known = known_start s.reader.said.begun c.in-Some.start.now s.reader.said.start
    c.in-Some.ensures.start in
    record {
      admitted = c.requires.made.admitted;
      runner = c.load.ensures.design ∙ c.requires.made.runner;
      orders = c.load.ensures.made;
      form = c.requires.made.form;
      level = c.requires.made.level;
      room = c.requires.made.room;
      begun = λ _. known.1;
    }

pub returns-in_ok-load-clause-ran : goal.returns-in_ok-load-clause-ran
returns-in_ok-load-clause-ran c = λ taken before accepted ran.
    let s = c.args.self.now in
    let flat = flat_of s in
    let known = known_start s.reader.said.begun c.in-Some.start.now s.reader.said.start
    c.in-Some.ensures.start in
    let fit = c.in-Some.ensures.fits flat c.requires.made.form in
    let r = c.load.new.self in
    started_now s _ r taken before accepted refl c.if-self.false c.load.ensures.order
    c.load.ensures.rounds
    (c.in_ok-load.ensures.registers ∙ known.0
    ∙ sym (own_values (registers flat) s.reader.said.start (λ k. 0) (registers_apart flat)
    fit.count))
    (subst
    (λ vs. IfSome (order_in r) (λ _. (k : ℕ) → values_in r k ≡
    starting flat (given (registers flat) vs) k))
    known.0 c.in_ok-load.ensures.start)
    ran
