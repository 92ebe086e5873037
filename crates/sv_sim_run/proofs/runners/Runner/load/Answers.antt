use Rattle.std.proofs.Common.{◌≡◌, ℕ, map, sym, ap, subst, ◌∙◌}
use Rattle.sv_system.specs.System.{Environment}
use Rattle.sv_flat.specs.declared.designs.Flat.{Flat}
use Rattle.sv_flat.specs.ByNumber.{by_number}
use Rattle.sv_flat.specs.Schedules.{starting}
use Rattle.sv_flat.specs.SignalLists.{system_signals, registers}
use Rattle.sv_flat.specs.Views.{design_of}
use Rattle.sv_flat.specs.Given.{FitListed, with_given, given}
use Rattle.sv_sim_run.specs.Runners.{IsDrawn, IsRunner, OthersAreZero, design_in}
use Rattle.sv_sim_run.proofs.GivenFacts.{own_values, registers_apart, seen_fit, seen_keep_zeros}
use Rattle.sv_sim_run.proofs.GivenFacts.{started_is, started_registers}
use Rattle.sv_sim_run.proofs.RunnerFacts.{moved}
use Rattle.sv_sim_run.proofs.runners.Runner.load.Goals as goal
use Rattle.sv_sim_run.proofs.runners.Runner.load.Goals.{After-put_values, In_ok-started-in-Drawn}

pub returns-in-Plain-clause-registers : goal.returns-in-Plain-clause-registers
returns-in-Plain-clause-registers c =
    let sim = c.in-Plain.sim in
    let design = design_of c.args.design.now in
    let start = c.args.start.now in
    let same : sim.design ≡ c.args.design.now =
    sym (ap design_in c.in-Plain.is) ∙ c.requires.design in
    ap (λ (e : Environment ℕ). map e (registers design))
    (c.load.ensures.values
    ∙ ap (λ (flat : Flat). with_given (registers (design_of flat)) start (by_number sim.values))
    same)
    ∙ own_values (registers design) start (by_number sim.values) (registers_apart design)
    c.requires.fit.count

-- the design of a runner in drawn orders
drawn_design : (c : In_ok-started-in-Drawn) →
    c.in-Drawn.drawn.event.design ≡ c.args.design.now
drawn_design c = sym (ap design_in c.in-Drawn.is) ∙ c.requires.design

drawn_made : (c : In_ok-started-in-Drawn) → IsDrawn c.in-Drawn.drawn
drawn_made c = subst IsRunner c.in-Drawn.is c.requires.made

pub put_values-requires : goal.put_values-requires
put_values-requires c =
    let design = design_of c.args.design.now in
    subst (λ (flat : Flat).
    FitListed (design_of flat).signals (system_signals (design_of flat)) c.deref.result.now)
    (sym (drawn_design (goal.at.put_values-requires c).In_ok-started-in-Drawn))
    (subst (FitListed design.signals (system_signals design))
    (sym (c.deref.ensures.value ∙ c.in_ok-started-in-Drawn.ensures.values))
    (seen_fit design c.args.start.now c.requires.fit))

pub returns-in_ok-started-in-Drawn-clause-made : goal.returns-in_ok-started-in-Drawn-clause-made
returns-in_ok-started-in-Drawn-clause-made c =
    let run = c.in-Drawn.drawn in
    let new = c.put_values.new.self in
    let made =
    drawn_made (goal.at.returns-in_ok-started-in-Drawn-clause-made c).In_ok-started-in-Drawn in
    moved run new run.rounds made c.put_values.ensures.design
    (seen_keep_zeros (design_of run.event.design) c.deref.result.now (by_number run.event.values)
    (by_number new.values) c.put_values.ensures.values made.others)

-- each signal has its starting value
starts : (c : After-put_values) (s : ℕ) → by_number c.put_values.new.self.values s ≡
    starting (design_of c.args.design.now)
    (given (registers (design_of c.args.design.now)) c.args.start.now) s
starts c s =
    let run = c.in-Drawn.drawn in
    let old = by_number run.event.values in
    let design = design_of c.args.design.now in
    let here = (goal.at.After-put_values c).In_ok-started-in-Drawn in
    let same = drawn_design here in
    let made = drawn_made here in
    let fine = c.started.ensures.design in
    ap (λ (e : Environment ℕ). e s) c.put_values.ensures.values
    ∙ ap (λ (flat : Flat). with_given (system_signals (design_of flat)) c.deref.result.now old s)
    same
    ∙ ap (λ vs. with_given (system_signals design) vs old s)
    (c.deref.ensures.value ∙ c.in_ok-started-in-Drawn.ensures.values)
    ∙ started_is design fine.is_sound fine.is_admitted c.args.start.now old
    (subst (λ (flat : Flat). OthersAreZero (design_of flat) old) same made.others) s

pub returns-in_ok-started-in-Drawn-clause-start : goal.returns-in_ok-started-in-Drawn-clause-start
returns-in_ok-started-in-Drawn-clause-start c =
    starts (goal.at.returns-in_ok-started-in-Drawn-clause-start c).After-put_values

pub returns-in_ok-started-in-Drawn-clause-registers :
    goal.returns-in_ok-started-in-Drawn-clause-registers
returns-in_ok-started-in-Drawn-clause-registers c =
    let fine = c.started.ensures.design in
    started_registers (design_of c.args.design.now) fine.is_sound fine.is_admitted c.args.start.now
    (by_number c.put_values.new.self.values) c.requires.fit.count
    (starts (goal.at.returns-in_ok-started-in-Drawn-clause-registers c).After-put_values)
