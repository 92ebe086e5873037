use Rattle.std.proofs.Common.{rules, ◌∙◌, map, take, drop, ap, arith}
use Rattle.std.specs.Result.{IsErrOf}
use Rattle.sv_gates.specs.Formulas.{Formula}
use Rattle.sv_gates.specs.declared.gates.GateFault.TheVariants.{Full}
use Rattle.sv_obl.specs.Views.{step_form}
use Rattle.sv_blast.specs.Coded.{place_form}
use Rattle.sv_blast.specs.Encoders.{design_in, obligation_in}
use Rattle.sv_blast.specs.Framed.{literals_of}
use Rattle.sv_blast.proofs.FramedSteps.{now_path, next_path, places_path}
use Rattle.sv_blast.proofs.RestSteps.{gates_made, framed_last, units_there, facts_inside}
use Rattle.sv_blast.proofs.RestSteps.{conditions_inside}
use Rattle.sv_blast.proofs.WholeEncodings.{encoding_path, last_same, conditions_within}
use Rattle.sv_blast.proofs.encoding.Encoder.rest.Goals as goal

pub failing-requires-clause-now : goal.failing-requires-clause-now
failing-requires-clause-now c =
    now_path c.args.self.now c.make_truths.new.made c.in_ok-make_truths.ensures.begun.frames

pub failing-requires-clause-next : goal.failing-requires-clause-next
failing-requires-clause-next c =
    next_path c.args.self.now c.make_truths.new.made c.in_ok-make_truths.ensures.begun.frames

pub failing-requires-clause-gates : goal.failing-requires-clause-gates
failing-requires-clause-gates c =
    gates_made c.args.self.now c.make_truths.new.made c.in_ok-make_truths.ensures.begun
    c.know_design.ensures.checked c.requires.encoder.query c.in_ok-make_truths.ensures.all

pub add_units-requires-clause-facts : goal.add_units-requires-clause-facts
add_units-requires-clause-facts c =
    facts_inside c.args.self.now c.make_truths.new.made c.in_ok-make_truths.ensures.begun
    c.know_design.ensures.checked c.requires.encoder.query c.in_ok-make_truths.ensures.all
    c.len.result c.failing.new.gates c.in_ok-fails.fails c.in_ok-fails.ensures.made
    c.deref-2.result.now
    (c.deref-2.ensures.value ∙ c.in_ok-facts.ensures
    ∙ ap literals_of (c.split_at.ensures.front ∙ ap (take c.len.result) c.deref.ensures.value))

pub add_units-requires-clause-conditions : goal.add_units-requires-clause-conditions
add_units-requires-clause-conditions c =
    conditions_inside c.args.self.now c.make_truths.new.made c.in_ok-make_truths.ensures.begun
    c.know_design.ensures.checked c.requires.encoder.query c.in_ok-make_truths.ensures.all
    c.len.result c.failing.new.gates c.in_ok-fails.fails c.in_ok-fails.ensures.made
    c.deref-4.result.now
    (c.deref-4.ensures.value ∙ c.in_ok-conditions.ensures
    ∙ ap literals_of (c.split_at.ensures.back ∙ ap (drop c.len.result) c.deref.ensures.value))

pub returns : goal.returns
returns c =
    let made = c.make_truths.new.made in
    let begun = c.in_ok-make_truths.ensures.begun in
    let checked = c.know_design.ensures.checked in
    let query = c.requires.encoder.query in
    let all = c.in_ok-make_truths.ensures.all in
    let path = units_there c.args.self.now made begun checked query all c.len.result (omega arith)
    c.deref-2.result.now c.deref-4.result.now
    (c.deref-2.ensures.value ∙ c.in_ok-facts.ensures
    ∙ ap literals_of (c.split_at.ensures.front ∙ ap (take c.len.result) c.deref.ensures.value))
    (c.deref-4.ensures.value ∙ c.in_ok-conditions.ensures
    ∙ ap literals_of (c.split_at.ensures.back ∙ ap (drop c.len.result) c.deref.ensures.value))
    (map step_form c.deref-3.result.now) (ap (map step_form) c.deref-3.ensures.value)
    c.failing.new.gates c.in_ok-fails.fails c.in_ok-fails.ensures.made in
    let last = c.in_ok-add_units.ensures.made ∙ path in
    record {
      framed = framed_last c.args.self.now made begun checked query all c.add_units.new.gates last;
      coded = encoding_path (design_in c.args.self.now) (obligation_in c.args.self.now)
          c.add_units.new.gates.variables (map place_form made.bits.items)
          c.add_units.new.gates.clauses (ap (λ (z : Formula). z.variables) last)
          (places_path c.args.self.now made begun.frames) (ap (λ (z : Formula). z.clauses) last);
      full = search rules;
    }

pub returns-in_err-make_truths-clause-full : goal.returns-in_err-make_truths-clause-full
returns-in_err-make_truths-clause-full c =
    let same : IsErrOf c.from_residual.result Full → IsErrOf c.make_truths.result Full =
    search rules in
    let flat = c.args.self.now.design.now in
    let o = obligation_in c.args.self.now in
    let checked = c.know_design.ensures.checked in
    let query = c.requires.encoder.query in
    let equal = last_same flat checked o query in
    let more = conditions_within flat checked o query in
    λ e.
    let most = c.make_truths.ensures.full (same e) in
    omega (arith, most, equal, more)

pub returns-in_err-fails-clause-full : goal.returns-in_err-fails-clause-full
returns-in_err-fails-clause-full c =
    let same : IsErrOf c.from_residual-in_err-fails.result Full → IsErrOf c.failing.result Full =
    search rules in
    let equal = last_same c.args.self.now.design.now c.know_design.ensures.checked
    (obligation_in c.args.self.now) c.requires.encoder.query in
    λ e.
    let most = c.failing.ensures.full (same e) in
    omega (arith, most, equal)
