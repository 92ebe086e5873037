use Rattle.std.proofs.Common.{◌≡◌, ◌&&◌, nat_lt, length, ap, ◌∙◌, arith}
use Rattle.std.specs.List.{list_all, range_with_len}
use Rattle.sv_flat.specs.Schedules.{clocked_count}
use Rattle.sv_flat.specs.Views.{design_of}
use Rattle.sv_event.specs.Events.{EventState}
use Rattle.sv_event.specs.Seen.{stands_once}
use Rattle.sv_event.proofs.TickFacts.{clocked_size}
use Rattle.sv_event.proofs.event.Event.is_order.Goals as goal

pub returns : goal.returns
returns c =
    let now = c.self.inside in
    let order = c.args.order.now in
    let size : c.len.result ≡ length now.clocked.items = omega (arith, c.len.ensures) in
    c.is_order.ensures
    ∙ ap (λ n. list_all (λ k. nat_lt k n) order
    && list_all (stands_once order) (range_with_len 0 n))
    (size
    ∙ clocked_size (design_of now.design.now) now.clocked.items c.self.invariant.clocked_are
    ∙ ap (λ (v : EventState). clocked_count (design_of v.design)) c.self.view_is)
