use Rattle.std.proofs.Common.{◌<◌, get_or, sym, subst, ◌∙◌}
use Rattle.sv_flat.specs.Clocks.{processes_of}
use Rattle.sv_flat.specs.Views.{design_of}
use Rattle.sv_obl.proofs.DrivenBodies.{inside_marked, marked_for, none_for, held_copies}
use Rattle.sv_obl.proofs.OneDriver.{no_process, found_again}
use Rattle.sv_obl.proofs.body_slices.Bodies.marked.Goals as goal

pub index-requires : goal.index-requires
index-requires c =
    let processes = processes_of (design_of c.args.design.now) in
    subst (λ n. c.in-Some.place < n) (sym c.args.self.now.marked.ok.0)
    (inside_marked c.args.design.now c.driver.ensures.design c.args.target.0 c.requires.known
    c.args.self.now.marked.items c.requires.bodies.marked c.in-Some.place
    (sym c.driver.ensures.driver ∙ c.in-Some.is) (get_or processes c.in-Some.place no_process)
    (found_again processes c.in-Some.place no_process))

pub returns-in-Some-clause-body : goal.returns-in-Some-clause-body
returns-in-Some-clause-body c =
    let processes = processes_of (design_of c.args.design.now) in
    marked_for c.args.design.now c.driver.ensures.design c.args.target.0 c.requires.known
    c.args.self.now.marked.items c.requires.bodies.marked c.in-Some.place
    (sym c.driver.ensures.driver ∙ c.in-Some.is) (get_or processes c.in-Some.place no_process)
    (found_again processes c.in-Some.place no_process) c.index.result.now c.index.ensures
    c.as_ref.result c.as_ref.ensures.value

pub returns-in-Some-clause-copies : goal.returns-in-Some-clause-copies
returns-in-Some-clause-copies c =
    let design = design_of c.args.design.now in
    let processes = processes_of design in
    held_copies design c.args.self.now c.requires.bodies c.in-Some.place
    (inside_marked c.args.design.now c.driver.ensures.design c.args.target.0 c.requires.known
    c.args.self.now.marked.items c.requires.bodies.marked c.in-Some.place
    (sym c.driver.ensures.driver ∙ c.in-Some.is) (get_or processes c.in-Some.place no_process)
    (found_again processes c.in-Some.place no_process))
    c.index.result.now c.index.ensures c.as_ref.result c.as_ref.ensures.value

pub returns-in-None-clause-body : goal.returns-in-None-clause-body
returns-in-None-clause-body c =
    none_for c.args.design.now c.driver.ensures.design c.args.target.0 c.requires.known
    (sym c.driver.ensures.driver ∙ c.in-None.is)
