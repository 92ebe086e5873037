use Rattle.std.proofs.Common.{◌+◌, ◌++◌, map, drop, sym, ap, subst, ◌∙◌}
use Rattle.std.specs.Prelude.{flat_map}
use Rattle.sv_flat.specs.Design.{ProcessForm}
use Rattle.sv_flat.specs.Assignments.{wrong_assigns}
use Rattle.sv_flat.specs.Views.{design_of, process_form}
use Rattle.sv_rules.specs.First.{FindsFirst}
use Rattle.sv_rules.specs.WrongAssigns.{wrong_in}
use Rattle.sv_rules.proofs.Firsts.{finds_both}
use Rattle.sv_rules.proofs.Sound.{body_at, next_process}
use Rattle.sv_rules.proofs.WrongFacts.{one_process_more}
use Rattle.sv_rules.proofs.assignments.first_wrong_assign.Goals as goal

pub wrong_target-requires-clause-stmt : goal.wrong_target-requires-clause-stmt
wrong_target-requires-clause-stmt c =
    body_at c.args.flat.now c.deref-process-items.result.now c.loop-process.process-index
    c.process-item.result
    c.deref-process-items.ensures.value c.loop-process-test.true c.process-item.is c.requires

pub loop-process-preserved : goal.loop-process-preserved
loop-process-preserved c =
    let design = design_of c.args.flat.now in
    let items = c.deref-process-items.result.now in
    let p = process_form c.process-item.result in
    let done = c.loop-process.invariant.0 in
    let next = next_process items c.loop-process.process-index c.process-item.result
    c.loop-process-test.true c.process-item.is in
    let left = map process_form (drop (c.loop-process.process-index + 1) items) in
    let this = wrong_in design p.kind p.body in (
      done ++ this,
      subst (FindsFirst 601 (done ++ this)) (sym c.first_of-found.ensures)
          (finds_both done this 601 c.loop-process.found c.in_ok-wrong.wrong
          c.loop-process.invariant.1 c.in_ok-wrong.ensures),
      one_process_more design (wrong_assigns design) done p left
          (c.loop-process.invariant.2
          ∙ ap (λ ps. done ++ flat_map (λ (q : ProcessForm).
          wrong_in design q.kind q.body) ps) next),
    )
