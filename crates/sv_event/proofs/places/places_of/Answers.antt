use Rattle.std.proofs.Common.{◌<◌, length, sym, ap, subst, ◌∙◌}
use Rattle.std.proofs.lemmas.List.{length-map}
use Rattle.sv_flat.specs.Views.{design_of, process_form}
use Rattle.sv_sim.proofs.AtPlace.{process_there}
use Rattle.sv_event.specs.Places.{is_of_kind}
use Rattle.sv_event.proofs.PlaceFacts.{more_within, more_are}
use Rattle.sv_event.proofs.places.places_of.Goals as goal

pub loop-place-preserved : goal.loop-place-preserved
loop-place-preserved c =
    let design = design_of c.args.design.now in
    let place = c.loop-place.place in
    let items = c.processes-processes.result.now in
    let inside = subst (λ n. place < n)
    (sym (length-map items process_form) ∙ ap length c.processes-processes.ensures.processes)
    c.loop-place-test.true in
    let is = process_there design items c.processes-processes.ensures.processes place
    c.index-processes-place.result inside c.index-processes-place.is in
    let old = c.loop-place.places.items in
    let new = c.push_if.new.places.items in (
      more_within design c.args.clocked old new place c.is_wanted.result inside
          c.in_ok-push_if.ensures c.loop-place.invariant.0,
      more_are design c.args.clocked old new place c.is_wanted.result inside
          (c.is_wanted.ensures ∙ ap (is_of_kind c.args.clocked) is) c.in_ok-push_if.ensures
          c.loop-place.invariant.1,
    )
