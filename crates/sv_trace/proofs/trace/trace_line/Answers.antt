use Rattle.std.proofs.Common.{[], ◌∷◌, ◌++◌, ap, ◌∙◌, decimal}
use Rattle.std.specs.Prelude.{flat_map}
use Rattle.sv_flat.specs.ByNumber.{by_number}
use Rattle.sv_flat.specs.Views.{design_of}
use Rattle.sv_trace.specs.Traces.{pair_text, shown}
use Rattle.sv_trace.proofs.Shown.{line_agrees}
use Rattle.sv_trace.proofs.trace.trace_line.Goals as goal

pub returns : goal.returns
returns c =
    let design = design_of c.args.design.now in
    let table = c.as_slice.result.now in
    let text = flat_map (pair_text design) (shown design c.args.level (by_number table)) in
    λ environment e.
    c.in_ok-push.ensures.items
    ∙ ap (λ line. line ++ 10 ∷ [])
    (c.in_ok-push_shown.ensures
    ∙ ap (λ line. line ++ text)
    (c.in_ok-push_number.ensures.pushed ∙ ap (λ line. line ++ decimal c.args.cycle)
    c.new-line.ensures.items)
    ∙ ap (λ t. decimal c.args.cycle ++ t)
    (line_agrees design c.in_ok-table.ensures.design.is_sound
    c.in_ok-table.ensures.design.is_admitted c.args.level environment c.args.values.now table e
    (λ s. ap (λ vs. by_number vs s) c.as_slice.ensures.value ∙ c.in_ok-table.ensures.given s)))
