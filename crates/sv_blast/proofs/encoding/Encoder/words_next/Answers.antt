use Rattle.std.proofs.Common.{rules, ◌≡◌, ◌∙◌, ◌<◌, ◌≤◌, ◌++◌, length, map, true, ap, sym, subst}
use Rattle.std.proofs.Common.{arith}
use Rattle.std.specs.Prelude.{All, IsTrue, Contains}
use Rattle.std.specs.Result.{IsErrOf}
use Rattle.sv_flat.specs.Processes.{is_register}
use Rattle.sv_design.specs.Numbers.{numbers}
use Rattle.sv_gates.specs.Formulas.{Formula, most_variables}
use Rattle.sv_gates.specs.declared.gates.GateFault.TheVariants.{Full}
use Rattle.sv_encoding.specs.Cones.{registers_in, next_cone}
use Rattle.sv_encoding.specs.Encoding.{bit_places, inputs_in, settled_in}
use Rattle.sv_encoding.specs.Expressions.{Words}
use Rattle.sv_blast.specs.Coded.{place_form}
use Rattle.sv_blast.specs.Encoders.{design_in, obligation_in}
use Rattle.sv_blast.specs.Steps.{AreReady, after_settled, after_next, settled_in_turn}
use Rattle.sv_blast.specs.WordTables.{words_of, StandsOf}
use Rattle.sv_blast.proofs.FrameSteps.{taken, taken_all, inputs_from, inputs_made, registers_from}
use Rattle.sv_blast.proofs.FrameSteps.{registers_made, next_from}
use Rattle.sv_blast.proofs.StepFacts.{inputs_known, inputs_narrow, registers_are, read_ready}
use Rattle.sv_blast.proofs.StepFacts.{next_ready, registers_more, next_more}
use Rattle.sv_blast.proofs.encoding.Encoder.words_next.Goals as goal
use Rattle.sv_blast.proofs.encoding.Encoder.words_next.Goals.{After-make_settled}

pub make_fresh-requires : goal.make_fresh-requires
make_fresh-requires c = record {
  known = taken_all (λ s. s < length c.args.self.now.design.now.signals.items)
      (inputs_in (design_in c.args.self.now)) c.deref-2.ensures.value c.in_ok-inputs.ensures
      c.deref.ensures.value c.requires.encoder.next
      (inputs_known c.args.self.now.design.now c.know_design.ensures.checked
      (obligation_in c.args.self.now) c.requires.encoder.query);
}

pub add_places-requires : goal.add_places-requires
add_places-requires c =
    let design = design_in c.args.self.now in
    let o = obligation_in c.args.self.now in
    taken_all (λ s. length (words_of c.make_fresh.new.words s) ≤ 64) (inputs_in design)
    c.deref-3.ensures.value c.in_ok-inputs.ensures c.deref.ensures.value c.requires.encoder.next
    (subst (λ (z : Formula × Words). All (λ s. length (z.1 s) ≤ 64)
    (inputs_in design (next_cone design o)))
    (inputs_made design o _
    (taken (inputs_in design) c.deref-2.ensures.value c.in_ok-inputs.ensures c.deref.ensures.value
    c.requires.encoder.next)
    _ c.new-words.ensures _ _ c.requires.now _ c.in_ok-make_fresh.ensures.made)
    (inputs_narrow c.args.self.now.design.now c.know_design.ensures.checked o
    c.requires.encoder.query))

pub make_next-requires-clause-bodies : goal.make_next-requires-clause-bodies
make_next-requires-clause-bodies c = c.requires.encoder.bodies

pub make_next-requires-clause-registers : goal.make_next-requires-clause-registers
make_next-requires-clause-registers c =
    let design = design_in c.args.self.now in
    taken_all (λ s. IsTrue (is_register design s)) (registers_in design) c.deref-5.ensures.value
    c.in_ok-registers.ensures c.deref-4.ensures.value c.requires.encoder.next
    (registers_are c.args.self.now.design.now c.know_design.ensures.checked
    (obligation_in c.args.self.now) c.requires.encoder.query)

pub make_next-requires-clause-read : goal.make_next-requires-clause-read
make_next-requires-clause-read c =
    let design = design_in c.args.self.now in
    let o = obligation_in c.args.self.now in
    λ s t at reads.
    subst (λ (w : Words). StandsOf design.signals c.make_fresh.new.gates.variables w t)
    (ap (λ (z : Formula × Words). z.1) c.requires.now)
    (subst (λ (z : Formula × Words). StandsOf design.signals (z.0).variables
    (after_settled design o).1 t)
    (inputs_made design o _
    (taken (inputs_in design) c.deref-2.ensures.value c.in_ok-inputs.ensures c.deref.ensures.value
    c.requires.encoder.next)
    _ c.new-words.ensures _ _ c.requires.now _ c.in_ok-make_fresh.ensures.made)
    (read_ready c.args.self.now.design.now c.know_design.ensures.checked o
    c.requires.encoder.query s t
    (subst (λ z. Contains z s)
    (taken (registers_in design) c.deref-5.ensures.value c.in_ok-registers.ensures
    c.deref-4.ensures.value c.requires.encoder.next) at) reads))

pub make_settled-requires-clause-bodies : goal.make_settled-requires-clause-bodies
make_settled-requires-clause-bodies c = c.requires.encoder.bodies

pub make_settled-requires-clause-ready : goal.make_settled-requires-clause-ready
make_settled-requires-clause-ready c =
    let design = design_in c.args.self.now in
    let o = obligation_in c.args.self.now in
    subst (AreReady design (StandsOf design.signals c.make_next.new.gates.variables
    (words_of c.make_next.new.words)))
    (sym (taken (settled_in design) c.deref-7.ensures.value c.in_ok-settled.ensures
    c.deref-6.ensures.value c.requires.encoder.next))
    (subst (λ (z : Formula × Words). AreReady design (StandsOf design.signals (z.0).variables z.1)
    (settled_in design (next_cone design o)))
    (registers_made design o _
    (taken (inputs_in design) c.deref-2.ensures.value c.in_ok-inputs.ensures c.deref.ensures.value
    c.requires.encoder.next)
    _ c.new-words.ensures _ _ c.requires.now _ c.in_ok-make_fresh.ensures.made _
    (taken (registers_in design) c.deref-5.ensures.value c.in_ok-registers.ensures
    c.deref-4.ensures.value c.requires.encoder.next)
    _ c.in_ok-make_next.ensures.made)
    (next_ready c.args.self.now.design.now c.know_design.ensures.checked o
    c.requires.encoder.query))

-- the words that are settled last are those of the next cycle
next_there : (c : After-make_settled) →
    settled_in_turn (design_in c.args.self.now) (numbers c.deref-7.result.now)
    (words_of c.make_next.new.words) c.make_next.new.gates
    ≡ after_next (design_in c.args.self.now) (obligation_in c.args.self.now)
next_there c =
    let design = design_in c.args.self.now in
    next_from design (obligation_in c.args.self.now) _
    (taken (inputs_in design) c.deref-2.ensures.value c.in_ok-inputs.ensures c.deref.ensures.value
    c.requires.encoder.next)
    _ c.new-words.ensures _ _ c.requires.now _ c.in_ok-make_fresh.ensures.made _
    (taken (registers_in design) c.deref-5.ensures.value c.in_ok-registers.ensures
    c.deref-4.ensures.value c.requires.encoder.next)
    _ c.in_ok-make_next.ensures.made _
    (taken (settled_in design) c.deref-7.ensures.value c.in_ok-settled.ensures
    c.deref-6.ensures.value c.requires.encoder.next)

pub returns-clause-made : goal.returns-clause-made
returns-clause-made c =
    sym (next_there (goal.at.returns-clause-made c).After-make_settled)
    ∙ c.in_ok-make_settled.ensures.made

pub returns-clause-bits : goal.returns-clause-bits
returns-clause-bits c =
    let design = design_in c.args.self.now in
    let o = obligation_in c.args.self.now in
    let old = map place_form c.args.bits.now.items in
    c.in_ok-add_places.ensures
    ∙ ap (λ z. old ++ bit_places true (words_of c.make_fresh.new.words) z)
    (taken (inputs_in design) c.deref-3.ensures.value c.in_ok-inputs.ensures c.deref.ensures.value
    c.requires.encoder.next)
    ∙ ap (λ (z : Formula × Words). old ++ bit_places true z.1 (inputs_in design (next_cone design o)))
    (sym (inputs_made design o _
    (taken (inputs_in design) c.deref-2.ensures.value c.in_ok-inputs.ensures c.deref.ensures.value
    c.requires.encoder.next)
    _ c.new-words.ensures _ _ c.requires.now _ c.in_ok-make_fresh.ensures.made))

pub returns-in_err-make_fresh-clause-full : goal.returns-in_err-make_fresh-clause-full
returns-in_err-make_fresh-clause-full c =
    let same : IsErrOf c.from_residual-in_err-make_fresh.result Full →
    IsErrOf c.make_fresh.result Full = search rules in
    let design = design_in c.args.self.now in
    let o = obligation_in c.args.self.now in
    let first = registers_more c.args.self.now.design.now c.know_design.ensures.checked o
    c.requires.encoder.query in
    let second = next_more c.args.self.now.design.now c.know_design.ensures.checked o
    c.requires.encoder.query in
    λ e.
    let most = subst (λ (z : Formula × Words). most_variables < (z.0).variables)
    (inputs_from design o _
    (taken (inputs_in design) c.deref-2.ensures.value c.in_ok-inputs.ensures c.deref.ensures.value
    c.requires.encoder.next)
    _ c.new-words.ensures _ _ c.requires.now) (c.make_fresh.ensures.full (same e)) in
    omega (arith, most, first, second)

pub returns-in_err-make_next-clause-full : goal.returns-in_err-make_next-clause-full
returns-in_err-make_next-clause-full c =
    let same : IsErrOf c.from_residual-in_err-make_next.result Full →
    IsErrOf c.make_next.result Full = search rules in
    let design = design_in c.args.self.now in
    λ e.
    let most = subst (λ (z : Formula × Words). most_variables < (z.0).variables)
    (registers_from design (obligation_in c.args.self.now) _
    (taken (inputs_in design) c.deref-2.ensures.value c.in_ok-inputs.ensures c.deref.ensures.value
    c.requires.encoder.next)
    _ c.new-words.ensures _ _ c.requires.now _ c.in_ok-make_fresh.ensures.made _
    (taken (registers_in design) c.deref-5.ensures.value c.in_ok-registers.ensures
    c.deref-4.ensures.value c.requires.encoder.next))
    (c.make_next.ensures.full (same e)) in
    omega (
      arith,
      most,
      next_more c.args.self.now.design.now c.know_design.ensures.checked
          (obligation_in c.args.self.now) c.requires.encoder.query,
    )

pub returns-in_err-make_settled-clause-full : goal.returns-in_err-make_settled-clause-full
returns-in_err-make_settled-clause-full c =
    let same : IsErrOf c.from_residual-in_err-make_settled.result Full →
    IsErrOf c.make_settled.result Full = search rules in
    λ e. subst (λ (z : Formula × Words). most_variables < (z.0).variables)
    (next_there (goal.at.returns-in_err-make_settled-clause-full c).After-make_settled)
    (c.make_settled.ensures.full (same e))
