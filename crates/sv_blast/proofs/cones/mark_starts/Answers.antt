use Rattle.std.proofs.Common.{length, map, sym, subst}
use Rattle.std.specs.Prelude.{flat_map}
use Rattle.sv_flat.specs.Reads.{reads_for}
use Rattle.sv_flat.specs.Sets.{holds}
use Rattle.sv_flat.specs.Views.{design_of, typed_trees}
use Rattle.sv_graph.specs.Marks.{Marks}
use Rattle.sv_design.specs.Numbers.{numbers}
use Rattle.sv_obl.specs.Paths.{StepForm}
use Rattle.sv_obl.specs.Views.{obligation_of, step_form}
use Rattle.sv_encoding.specs.Cones.{label_selectors}
use Rattle.sv_blast.specs.NamedMarks.{is_named_in, AreBelow}
use Rattle.sv_blast.proofs.ConeStarts.{reads_below, registers_below, goal_below, now_marked}
use Rattle.sv_blast.proofs.cones.mark_starts.Goals as goal

pub mark_all_selectors-requires : goal.mark_all_selectors-requires
mark_all_selectors-requires c =
    let o = obligation_of c.args.query.now in
    subst (λ ss. AreBelow (length c.args.design.now.signals.items) (numbers ss)) (sym c.deref-3.ensures.value)
    (reads_below c.args.design.now c.requires.design o c.requires.query)

pub mark_asked_now-requires-clause-known : goal.mark_asked_now-requires-clause-known
mark_asked_now-requires-clause-known c =
    let o = obligation_of c.args.query.now in
    goal_below c.args.design.now c.requires.design o c.requires.query

pub mark_all_reads-requires : goal.mark_all_reads-requires
mark_all_reads-requires c =
    let o = obligation_of c.args.query.now in
    subst (AreBelow (length c.args.design.now.signals.items)) (sym c.requires.registers)
    (registers_below c.args.design.now c.requires.design o c.requires.query)

pub returns : goal.returns
returns c =
    let design = design_of c.args.design.now in
    let a = c.args.table.now in
    let b = c.mark_all_names.new.table in
    let c' = c.mark_conditions.new.table in
    let d = c.mark_all_selectors.new.table in
    let e = c.mark_asked_now.new.table in
    now_marked c.args.design.now c.requires.design (obligation_of c.args.query.now)
    c.requires.query a b c' d e
    c.mark_all_reads.new.table c.requires.size c.mark_all_names.auto.table
    c.mark_conditions.auto.table c.mark_all_selectors.auto.table c.mark_asked_now.auto.table
    (subst (λ es. Marks a b (is_named_in (typed_trees es))) c.deref.ensures.value
    c.mark_all_names.ensures)
    (subst (λ ss. Marks b c' (is_named_in (map (λ (step : StepForm). step.condition)
    (map step_form ss)))) c.deref-2.ensures.value c.mark_conditions.ensures)
    (subst (λ ss. Marks c' d (holds (flat_map (label_selectors design) (numbers ss))))
    c.deref-3.ensures.value c.mark_all_selectors.ensures)
    c.mark_asked_now.ensures
    (subst (λ ss. Marks e c.mark_all_reads.new.table (holds (flat_map (reads_for design) ss)))
    c.requires.registers c.mark_all_reads.ensures)
