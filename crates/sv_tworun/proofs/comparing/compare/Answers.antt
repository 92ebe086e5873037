use Rattle.std.proofs.Common.{◌≡◌, refl, sym, ap, subst, ◌∙◌, arith, add-one}
use Rattle.sv_system.specs.System.{view}
use Rattle.sv_flat.specs.declared.designs.Flat.{Flat}
use Rattle.sv_flat.specs.ByNumber.{by_number}
use Rattle.sv_flat.specs.FlatSystem.{flat_system}
use Rattle.sv_flat.specs.SignalLists.{registers}
use Rattle.sv_flat.specs.Views.{design_of}
use Rattle.sv_flat.specs.Given.{with_given}
use Rattle.sv_tworun.specs.Forms.{run_of}
use Rattle.sv_tworun.specs.Sights.{IsDifference}
use Rattle.sv_tworun.proofs.LeakFacts.{no_leak}
use Rattle.sv_tworun.proofs.RunFacts.{AreAlike, HasInCycle, begins, still_alike, found_there}
use Rattle.sv_tworun.proofs.RunFacts.{found_at_end}
use Rattle.sv_tworun.proofs.RunTraces.{compared}
use Rattle.sv_tworun.proofs.StimFacts.{shorter, length_of, cycle_fits, stim_in_cycle, stim_goes_on}
use Rattle.sv_tworun.proofs.comparing.compare.Goals as goal
use Rattle.sv_tworun.proofs.comparing.compare.Goals.{After-settle, After-values-in-loop-cycle}

pub settle-requires : goal.settle-requires
settle-requires c =
    let least = shorter c.args.a.now c.args.b.now c.common_cycles-count.result
    c.common_cycles-count.ensures in
    cycle_fits c.args.design.now c.loop-cycle.one.design c.loop-cycle.invariant.one_design
    c.args.a.now c.requires.first c.loop-cycle.cycle c.index.result.now
    c.deref-in-loop-cycle.result.now (let test = c.loop-cycle-test.true in omega (arith, least))
    c.index.ensures c.deref-in-loop-cycle.ensures.value

pub settle-requires-in-loop-cycle : goal.settle-requires-in-loop-cycle
settle-requires-in-loop-cycle c =
    let least = shorter c.args.a.now c.args.b.now c.common_cycles-count.result
    c.common_cycles-count.ensures in
    cycle_fits c.args.design.now c.loop-cycle.other.design c.loop-cycle.invariant.other_design
    c.args.b.now c.requires.second c.loop-cycle.cycle c.index-in-loop-cycle.result.now
    c.deref-in-loop-cycle-2.result.now (let test = c.loop-cycle-test.true in omega (arith, least))
    c.index-in-loop-cycle.ensures c.deref-in-loop-cycle-2.ensures.value

pub returns-clause-comparison : goal.returns-clause-comparison
returns-clause-comparison c =
    let least = c.common_cycles-count.ensures in
    let one_long = length_of c.args.a.now c.len.result c.len.ensures in
    let other_long = length_of c.args.b.now c.len-2.result c.len-2.ensures in
    compared (design_of c.args.design.now) c.know_design.ensures.design c.args.level
    (run_of c.args.a.now) (run_of c.args.b.now) c.at_the_end.result c.requires.first
    c.requires.second
    (found_at_end (design_of c.args.design.now) c.args.level (run_of c.args.a.now)
    (run_of c.args.b.now) c.len.result c.len-2.result c.at_the_end.result
    (subst (AreAlike (design_of c.args.design.now) c.args.level (run_of c.args.a.now)
    (run_of c.args.b.now))
    (let test = c.loop-cycle-test.false in let end = c.loop-cycle.auto.cycle-end in
    let one = c.len.ensures ∙ c.args.a.now.cycles.ok.0 in
    let other = c.len-2.ensures ∙ c.args.b.now.cycles.ok.0 in omega (arith, least, one, other))
    c.loop-cycle.invariant.alike)
    one_long other_long c.at_the_end.ensures.equal c.at_the_end.ensures.shorter)

pub returns-clause-no_leak : goal.returns-clause-no_leak
returns-clause-no_leak c holds =
    no_leak (design_of c.args.design.now) holds c.args.level
    (run_of c.args.a.now) (run_of c.args.b.now) c.at_the_end.result (returns-clause-comparison c)

pub loop-cycle-init : goal.loop-cycle-init
loop-cycle-init c =
    let flat = c.args.design.now in
    let one = c.load.ensures.design ∙ c.in_ok-one.ensures.design in
    let other = c.load-2.ensures.design ∙ c.in_ok-other.ensures.design in
    record {
      one_design = one;
      other_design = other;
      first = begins (design_of flat) (run_of c.args.a.now) c.in_ok-one.one.values
          c.load.new.self.values c.requires.first.start
          (c.load.ensures.values
          ∙ ap (λ (d : Flat). with_given (registers (design_of d)) c.deref.result.now
          (by_number c.in_ok-one.one.values)) c.in_ok-one.ensures.design
          ∙ ap (λ vs. with_given (registers (design_of flat)) vs
          (by_number c.in_ok-one.one.values)) c.deref.ensures.value);
      second = begins (design_of flat) (run_of c.args.b.now) c.in_ok-other.other.values
          c.load-2.new.self.values c.requires.second.start
          (c.load-2.ensures.values
          ∙ ap (λ (d : Flat). with_given (registers (design_of d)) c.deref-2.result.now
          (by_number c.in_ok-other.other.values)) c.in_ok-other.ensures.design
          ∙ ap (λ vs. with_given (registers (design_of flat)) vs
          (by_number c.in_ok-other.other.values)) c.deref-2.ensures.value);
      alike = λ one other of_first of_second. refl;
    }

-- what the stimuli give in this cycle
first_in_cycle : (c : After-settle) → HasInCycle (design_of c.args.design.now) (run_of c.args.a.now)
    c.loop-cycle.cycle c.settle.new.self.values
first_in_cycle c =
    let least = shorter c.args.a.now c.args.b.now c.common_cycles-count.result
    c.common_cycles-count.ensures in
    stim_in_cycle c.args.design.now c.loop-cycle.one.design c.loop-cycle.invariant.one_design
    c.know_design.ensures.design c.args.a.now c.loop-cycle.cycle c.index.result.now
    c.deref-in-loop-cycle.result.now c.loop-cycle.one.values c.settle.new.self.values
    (let test = c.loop-cycle-test.true in omega (arith, least)) c.index.ensures
    c.deref-in-loop-cycle.ensures.value c.settle.ensures.values c.loop-cycle.invariant.first

second_in_cycle : (c : After-values-in-loop-cycle) →
    HasInCycle (design_of c.args.design.now) (run_of c.args.b.now) c.loop-cycle.cycle
    c.settle-in-loop-cycle.new.self.values
second_in_cycle c =
    let least = shorter c.args.a.now c.args.b.now c.common_cycles-count.result
    c.common_cycles-count.ensures in
    stim_in_cycle c.args.design.now c.loop-cycle.other.design c.loop-cycle.invariant.other_design
    c.know_design.ensures.design c.args.b.now c.loop-cycle.cycle c.index-in-loop-cycle.result.now
    c.deref-in-loop-cycle-2.result.now c.loop-cycle.other.values
    c.settle-in-loop-cycle.new.self.values
    (let test = c.loop-cycle-test.true in omega (arith, least)) c.index-in-loop-cycle.ensures
    c.deref-in-loop-cycle-2.ensures.value c.settle-in-loop-cycle.ensures.values
    c.loop-cycle.invariant.second

pub returns-in-Some-clause-comparison : goal.returns-in-Some-clause-comparison
returns-in-Some-clause-comparison c =
    let flat = c.args.design.now in
    let is = c.in-Some.ensures.design in
    let system = flat_system (design_of flat) in
    let k = c.loop-cycle.cycle in
    let one = c.settle.new.self.values in
    let other = c.settle-in-loop-cycle.new.self.values in
    compared (design_of flat) is c.args.level (run_of c.args.a.now) (run_of c.args.b.now)
    c.in-Some.difference c.requires.first c.requires.second
    (found_there (design_of flat) is c.args.level (run_of c.args.a.now) (run_of c.args.b.now) k
    one other c.in-Some.difference c.loop-cycle.invariant.alike
    (first_in_cycle (goal.at.returns-in-Some-clause-comparison c).After-settle)
    (second_in_cycle (goal.at.returns-in-Some-clause-comparison c).After-values-in-loop-cycle)
    (subst (λ vs. IsDifference system c.args.level k (by_number one) (by_number vs)
    c.in-Some.difference) c.values-in-loop-cycle.ensures.values
    (subst (λ vs. IsDifference system c.args.level k (by_number vs)
    (by_number c.values-in-loop-cycle.result.now) c.in-Some.difference) c.values.ensures.values
    c.in-Some.ensures.found)))

pub returns-in-Some-clause-no_leak : goal.returns-in-Some-clause-no_leak
returns-in-Some-clause-no_leak c holds =
    no_leak (design_of c.args.design.now) holds c.args.level
    (run_of c.args.a.now) (run_of c.args.b.now) c.in-Some.difference
    (returns-in-Some-clause-comparison c)

pub loop-cycle-preserved : goal.loop-cycle-preserved
loop-cycle-preserved c =
    let flat = c.args.design.now in
    let is = c.in_default.ensures.design in
    let system = flat_system (design_of flat) in
    let k = c.loop-cycle.cycle in
    let one = c.settle.new.self.values in
    let other = c.settle-in-loop-cycle.new.self.values in
    let one_same = c.settle.ensures.design ∙ c.loop-cycle.invariant.one_design in
    let other_same = c.settle-in-loop-cycle.ensures.design
    ∙ c.loop-cycle.invariant.other_design in
    let least = shorter c.args.a.now c.args.b.now c.common_cycles-count.result
    c.common_cycles-count.ensures in
    record {
      one_design = c.tick.ensures.design ∙ one_same;
      other_design = c.tick-in-loop-cycle.ensures.design ∙ other_same;
      first = stim_goes_on flat c.loop-cycle.one.design c.loop-cycle.invariant.one_design is
          c.args.a.now k c.index.result.now c.deref-in-loop-cycle.result.now
          c.loop-cycle.one.values one
          (let test = c.loop-cycle-test.true in omega (arith, least)) c.index.ensures
          c.deref-in-loop-cycle.ensures.value c.settle.ensures.values
          c.loop-cycle.invariant.first c.tick.new.self.values c.settle.new.self.design one_same
          c.tick.ensures.values;
      second = stim_goes_on flat c.loop-cycle.other.design c.loop-cycle.invariant.other_design is
          c.args.b.now k c.index-in-loop-cycle.result.now c.deref-in-loop-cycle-2.result.now
          c.loop-cycle.other.values other
          (let test = c.loop-cycle-test.true in omega (arith, least)) c.index-in-loop-cycle.ensures
          c.deref-in-loop-cycle-2.ensures.value c.settle-in-loop-cycle.ensures.values
          c.loop-cycle.invariant.second c.tick-in-loop-cycle.new.self.values
          c.settle-in-loop-cycle.new.self.design other_same c.tick-in-loop-cycle.ensures.values;
      alike = subst (AreAlike (design_of flat) c.args.level (run_of c.args.a.now)
          (run_of c.args.b.now)) (sym (add-one k))
          (still_alike (design_of flat) is c.args.level (run_of c.args.a.now)
          (run_of c.args.b.now) k one other c.loop-cycle.invariant.alike
          (first_in_cycle (goal.at.loop-cycle-preserved c).After-settle)
          (second_in_cycle (goal.at.loop-cycle-preserved c).After-values-in-loop-cycle)
          (subst (λ vs. view system c.args.level (by_number one) ≡
          view system c.args.level (by_number vs)) c.values-in-loop-cycle.ensures.values
          (subst (λ vs. view system c.args.level (by_number vs) ≡
          view system c.args.level (by_number c.values-in-loop-cycle.result.now))
          c.values.ensures.values c.in_default.ensures.found)));
    }
