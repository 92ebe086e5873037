use Rattle.std.proofs.Common.{◌<◌, sym, subst, ◌∙◌}
use Rattle.sv_flat.specs.Views.{design_of}
use Rattle.sv_obl.specs.BodySlices.{sliced, SameParts, slice_statement, driven_body}
use Rattle.sv_obl.specs.IndexedBodies.{looked_up}
use Rattle.sv_obl.specs.SliceRoutes.{IsSliceOf}
use Rattle.sv_obl.proofs.DrivenSlices.{undriven_slice, has_body, driven_slice}
use Rattle.sv_obl.proofs.SliceChains.{on_ok}
use Rattle.sv_obl.proofs.body_slices.Bodies.slice.Goals as goal

pub index-requires : goal.index-requires
index-requires c =
    subst (λ n. c.in-Some.place < n) (sym c.args.self.now.indexed.ok.0)
    (has_body c.args.design.now c.driver.ensures.design c.args.target.0 c.requires.known
    c.args.self.now.indexed.items c.requires.bodies.indexed c.in-Some.place
    (sym c.driver.ensures.driver ∙ c.in-Some.is))

pub returns-in-Some : goal.returns-in-Some
returns-in-Some c =
    let flat = c.args.design.now in
    let is = c.driver.ensures.design in
    let s = c.args.target.0 in
    let bodies = c.args.self.now.indexed.items in
    let k = c.in-Some.place in
    let driven = sym c.driver.ensures.driver ∙ c.in-Some.is in
    let x = c.index.result.now in
    on_ok c.slice_for.result (IsSliceOf s (looked_up s x))
    (λ slice. SameParts (slice_statement slice) (sliced s (driven_body (design_of flat) s)))
    (λ slice is_slice. driven_slice flat is s c.requires.known bodies c.requires.bodies.indexed k driven x
    slice c.index.ensures is_slice)
    c.slice_for.ensures

pub returns-in-None : goal.returns-in-None
returns-in-None c =
    undriven_slice c.args.design.now c.driver.ensures.design c.args.target.0 c.requires.known
    (sym c.driver.ensures.driver ∙ c.in-None.is)
