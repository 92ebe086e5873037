use Rattle.std.proofs.Common.{rules, ◌≡◌, ◌∙◌, ◌<◌, ◌≤◌, ◌++◌, length, map, false, ap, sym, subst}
use Rattle.std.proofs.Common.{arith}
use Rattle.std.specs.Prelude.{All}
use Rattle.std.specs.Result.{IsErrOf}
use Rattle.sv_gates.specs.Formulas.{Formula, most_variables}
use Rattle.sv_gates.specs.declared.gates.GateFault.TheVariants.{Full}
use Rattle.sv_encoding.specs.Cones.{now_cone}
use Rattle.sv_encoding.specs.Encoding.{bit_places, given_in, settled_in}
use Rattle.sv_encoding.specs.Expressions.{Words}
use Rattle.sv_blast.specs.Coded.{place_form}
use Rattle.sv_blast.specs.Encoders.{design_in, obligation_in}
use Rattle.sv_blast.specs.Steps.{AreReady, after_given}
use Rattle.sv_blast.specs.WordTables.{words_of, StandsOf}
use Rattle.sv_blast.proofs.FrameSteps.{taken, taken_all, given_from, given_made, settled_from}
use Rattle.sv_blast.proofs.StepFacts.{given_known, given_narrow, now_ready, settled_more}
use Rattle.sv_blast.proofs.encoding.Encoder.words_now.Goals as goal
use Rattle.sv_blast.proofs.encoding.Encoder.words_now.Goals.{In_ok-make_fresh}

pub make_fresh-requires : goal.make_fresh-requires
make_fresh-requires c = record {
  known = taken_all (λ s. s < length c.args.self.now.design.now.signals.items)
      (given_in (design_in c.args.self.now)) c.deref-2.ensures.value c.in_ok-given.ensures
      c.deref.ensures.value c.requires.encoder.now
      (given_known c.args.self.now.design.now c.know_design.ensures.checked
      (obligation_in c.args.self.now) c.requires.encoder.query);
}

-- the words of what is given are in hand
given_there : (c : In_ok-make_fresh) →
    after_given (design_in c.args.self.now) (obligation_in c.args.self.now)
    ≡ (c.make_fresh.new.gates, words_of c.make_fresh.new.words)
given_there c =
    given_made (design_in c.args.self.now) (obligation_in c.args.self.now) _
    (taken (given_in (design_in c.args.self.now)) c.deref-2.ensures.value c.in_ok-given.ensures
    c.deref.ensures.value c.requires.encoder.now)
    _ c.new-words.ensures _ c.requires.begin _ c.in_ok-make_fresh.ensures.made

pub add_places-requires : goal.add_places-requires
add_places-requires c =
    let design = design_in c.args.self.now in
    let o = obligation_in c.args.self.now in
    taken_all (λ s. length (words_of c.make_fresh.new.words s) ≤ 64) (given_in design)
    c.deref-3.ensures.value c.in_ok-given.ensures c.deref.ensures.value c.requires.encoder.now
    (subst (λ (z : Formula × Words). All (λ s. length (z.1 s) ≤ 64)
    (given_in design (now_cone design o)))
    (given_there (goal.at.add_places-requires c).In_ok-make_fresh)
    (given_narrow c.args.self.now.design.now c.know_design.ensures.checked o
    c.requires.encoder.query))

pub make_settled-requires-clause-bodies : goal.make_settled-requires-clause-bodies
make_settled-requires-clause-bodies c = c.requires.encoder.bodies

pub make_settled-requires-clause-ready : goal.make_settled-requires-clause-ready
make_settled-requires-clause-ready c =
    let design = design_in c.args.self.now in
    let o = obligation_in c.args.self.now in
    subst (AreReady design (StandsOf design.signals c.make_fresh.new.gates.variables
    (words_of c.make_fresh.new.words)))
    (sym (taken (settled_in design) c.deref-5.ensures.value c.in_ok-settled.ensures
    c.deref-4.ensures.value c.requires.encoder.now))
    (subst (λ (z : Formula × Words). AreReady design (StandsOf design.signals (z.0).variables z.1)
    (settled_in design (now_cone design o)))
    (given_there (goal.at.make_settled-requires-clause-ready c).In_ok-make_fresh)
    (now_ready c.args.self.now.design.now c.know_design.ensures.checked o
    c.requires.encoder.query))

pub returns-clause-made : goal.returns-clause-made
returns-clause-made c =
    let design = design_in c.args.self.now in
    sym (settled_from design (obligation_in c.args.self.now) _
    (taken (given_in design) c.deref-2.ensures.value c.in_ok-given.ensures c.deref.ensures.value
    c.requires.encoder.now)
    _ c.new-words.ensures _ c.requires.begin _ c.in_ok-make_fresh.ensures.made _
    (taken (settled_in design) c.deref-5.ensures.value c.in_ok-settled.ensures
    c.deref-4.ensures.value c.requires.encoder.now))
    ∙ c.in_ok-make_settled.ensures.made

pub returns-clause-bits : goal.returns-clause-bits
returns-clause-bits c =
    let design = design_in c.args.self.now in
    let o = obligation_in c.args.self.now in
    let old = map place_form c.args.bits.now.items in
    c.in_ok-add_places.ensures
    ∙ ap (λ z. old ++ bit_places false (words_of c.make_fresh.new.words) z)
    (taken (given_in design) c.deref-3.ensures.value c.in_ok-given.ensures c.deref.ensures.value
    c.requires.encoder.now)
    ∙ ap (λ (z : Formula × Words). old ++ bit_places false z.1 (given_in design (now_cone design o)))
    (sym (given_there (goal.at.returns-clause-bits c).In_ok-make_fresh))

pub returns-in_err-make_fresh-clause-full : goal.returns-in_err-make_fresh-clause-full
returns-in_err-make_fresh-clause-full c =
    let same : IsErrOf c.from_residual-in_err-make_fresh.result Full →
    IsErrOf c.make_fresh.result Full = search rules in
    let design = design_in c.args.self.now in
    let o = obligation_in c.args.self.now in
    let more = settled_more c.args.self.now.design.now c.know_design.ensures.checked o
    c.requires.encoder.query in
    λ e.
    let first = subst (λ (z : Formula × Words). most_variables < (z.0).variables)
    (given_from design o _ (taken (given_in design) c.deref-2.ensures.value c.in_ok-given.ensures
    c.deref.ensures.value c.requires.encoder.now)
    _ c.new-words.ensures _ c.requires.begin) (c.make_fresh.ensures.full (same e)) in
    omega (arith, first, more)

pub returns-in_err-make_settled-clause-full : goal.returns-in_err-make_settled-clause-full
returns-in_err-make_settled-clause-full c =
    let same : IsErrOf c.from_residual-in_err-make_settled.result Full →
    IsErrOf c.make_settled.result Full = search rules in
    let design = design_in c.args.self.now in
    λ e. subst (λ (z : Formula × Words). most_variables < (z.0).variables)
    (settled_from design (obligation_in c.args.self.now) _
    (taken (given_in design) c.deref-2.ensures.value c.in_ok-given.ensures c.deref.ensures.value
    c.requires.encoder.now)
    _ c.new-words.ensures _ c.requires.begin _ c.in_ok-make_fresh.ensures.made _
    (taken (settled_in design) c.deref-5.ensures.value c.in_ok-settled.ensures
    c.deref-4.ensures.value c.requires.encoder.now))
    (c.make_settled.ensures.full (same e))
