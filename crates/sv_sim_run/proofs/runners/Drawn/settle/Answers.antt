use Rattle.std.proofs.Common.{◌≡◌, ℕ, ◌+◌, ◌%◌, ◌^◌, ◌∙◌, subst, arith}
use Rattle.sv_system.specs.System.{Environment}
use Rattle.sv_system.specs.Schedules.{IsTheSettled}
use Rattle.sv_flat.specs.declared.designs.Flat.{Flat}
use Rattle.sv_flat.specs.ByNumber.{by_number}
use Rattle.sv_flat.specs.FlatSystem.{flat_system}
use Rattle.sv_flat.specs.Schedules.{IsRoundCount, after_rounds}
use Rattle.sv_flat.specs.Views.{design_of}
use Rattle.sv_sim_run.specs.Runners.{with_values}
use Rattle.sv_sim_run.proofs.RunnerFacts.{after_inputs, drawn_settles, moved, rounds_keep_zeros}
use Rattle.sv_sim_run.proofs.runners.Drawn.settle.Goals as goal
use Rattle.sv_sim_run.proofs.runners.Drawn.settle.Goals.{After-rounds-count}

-- what holds after the inputs are set, by the cycle's order number, said of the values before
from_old : (c : After-rounds-count) (P : ℕ → Flat → Environment ℕ → Type 0)
    → P c.order_of_cycle.result c.set_inputs.new.self.design
    (by_number c.set_inputs.new.self.values)
    → P ((c.args.self.now.number + c.args.cycle) % 2 ^ 64) c.args.self.now.event.design
    (with_values (design_of c.args.self.now.event.design) c.args.inputs.now
    (by_number c.args.self.now.event.values))
from_old c P holds =
    let old = c.args.self.now.event in
    subst
    (λ n. P n old.design
    (with_values (design_of old.design) c.args.inputs.now (by_number old.values)))
    c.order_of_cycle.ensures
    (after_inputs old c.set_inputs.new.self c.args.inputs.now c.requires.fit.count
    c.set_inputs.ensures.design c.set_inputs.ensures.values (P c.order_of_cycle.result) holds)

-- the rounds that were run
ran : (c : After-rounds-count) → by_number c.rounds-count.new.self.values ≡
    after_rounds (design_of c.args.self.now.event.design)
    ((c.args.self.now.number + c.args.cycle) % 2 ^ 64) c.rounds-count.result
    (with_values (design_of c.args.self.now.event.design) c.args.inputs.now
    (by_number c.args.self.now.event.values))
ran c =
    from_old c
    (λ (n : ℕ) (flat : Flat) (e : Environment ℕ). by_number c.rounds-count.new.self.values ≡
    after_rounds (design_of flat) n c.rounds-count.result e)
    c.rounds-count.ensures.values

pub returns-clause-made : goal.returns-clause-made
returns-clause-made c =
    let old = c.args.self.now in
    let new = c.rounds-count.new.self in
    let fine = c.requires.made.admitted in
    moved old new c.with_rounds-self.result c.requires.made
    (c.rounds-count.ensures.design ∙ c.set_inputs.ensures.design)
    (rounds_keep_zeros (design_of old.event.design) fine.is_sound fine.is_admitted
    c.args.inputs.now ((old.number + c.args.cycle) % 2 ^ 64) c.rounds-count.result
    (by_number old.event.values) (by_number new.values)
    (ran (goal.at.returns-clause-made c).After-rounds-count) c.requires.made.others)

pub returns-clause-settled : goal.returns-clause-settled
returns-clause-settled c =
    let old = c.args.self.now in
    let new = c.rounds-count.new.self in
    let fine = c.requires.made.admitted in
    drawn_settles (design_of old.event.design) fine.is_sound fine.is_admitted c.args.inputs.now
    (by_number old.event.values) (by_number new.values)
    (from_old (goal.at.returns-clause-settled c).After-rounds-count
    (λ (n : ℕ) (flat : Flat) (e : Environment ℕ).
    IsTheSettled (flat_system (design_of flat)) e e (by_number new.values))
    c.rounds-count.ensures.settled)

pub returns-clause-counted : goal.returns-clause-counted
returns-clause-counted c =
    let old = c.args.self.now in
    let here = (goal.at.returns-clause-counted c).After-rounds-count in (
      c.rounds-count.result,
      record {
        counted = from_old here (λ (n : ℕ) (flat : Flat) (e : Environment ℕ).
            IsRoundCount (design_of flat) n e c.rounds-count.result)
            c.rounds-count.ensures.count;
        left = ran here;
      },
      c.with_rounds-self.ensures,
      omega (arith, c.rounds-count.type_inv),
    )
