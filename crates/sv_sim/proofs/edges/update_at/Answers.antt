use Rattle.std.proofs.Common.{List, sym, ap, subst, ◌∙◌}
use Rattle.std.specs.Prelude.{IsTrue}
use Rattle.sv_flat.specs.declared.signals.Signal.{Signal}
use Rattle.sv_flat.specs.ByNumber.{by_number, signal_forms, is_nonblocking, updated}
use Rattle.sv_flat.specs.Design.{ProcessForm}
use Rattle.sv_flat.specs.Runs.{run}
use Rattle.sv_flat.specs.Views.{design_of, flat_statement}
use Rattle.sv_sim.specs.Simulations.{process_at}
use Rattle.sv_sim.proofs.AtPlace.{process_there, is_among, statement_there}
use Rattle.sv_sim.proofs.EdgeFacts.{clocked_is_nonblocking}
use Rattle.sv_sim.proofs.edges.update_at.Goals as goal

pub update_body-requires-clause-sound : goal.update_body-requires-clause-sound
update_body-requires-clause-sound c =
    statement_there c.args.design.now c.processes-processes.ensures.design c.signals.result.now
    c.processes-processes.result.now c.index-processes-place.result c.args.place c.requires.place
    c.signals.ensures.signals c.processes-processes.ensures.processes c.index-processes-place.is

pub update_body-requires-clause-nonblocking : goal.update_body-requires-clause-nonblocking
update_body-requires-clause-nonblocking c =
    let design = design_of c.args.design.now in
    let process = c.index-processes-place.result in
    let fine = c.processes-processes.ensures.design in
    let is = process_there design c.processes-processes.result.now
    c.processes-processes.ensures.processes c.args.place process c.requires.place
    c.index-processes-place.is in
    subst (λ (p : ProcessForm). IsTrue (is_nonblocking p.body)) (sym is)
    (clocked_is_nonblocking design fine.is_sound fine.is_admitted
    (process_at design c.args.place)
    (is_among design fine.is_sound fine.is_admitted c.args.place c.requires.place)
    c.requires.clocked)

pub returns-clause-run : goal.returns-clause-run
returns-clause-run c updates before =
    let design = design_of c.args.design.now in
    let process = c.index-processes-place.result in
    let e = by_number c.args.values.now in
    let is = process_there design c.processes-processes.result.now
    c.processes-processes.ensures.processes c.args.place process c.requires.place
    c.index-processes-place.is in
    c.update_body.ensures.run updates before
    ∙ ap (λ (ss : List Signal).
    updated e (run (signal_forms ss) (flat_statement process.body) (e, updates)).1)
    c.signals.ensures.signals
    ∙ ap (λ (p : ProcessForm). updated e (run design.signals p.body (e, updates)).1) is
