use Rattle.std.proofs.Common.{◌<◌, ◌∷◌, [], List, Bool, length, refl, sym, ap, subst, ◌∙◌}
use Rattle.sv_flat.specs.Clocks.{links_in, lists_pair}
use Rattle.sv_flat.specs.Sets.{holds, least_set}
use Rattle.sv_graph.specs.Graphs.{has_edge}
use Rattle.sv_graph.specs.Marks.{IsTable}
use Rattle.sv_graph.specs.Numbers.{number_if_any}
use Rattle.sv_rules.specs.Tops.{FindsFirstOfBoth}
use Rattle.sv_rules.proofs.TopTables.{all_brought, none_leads, some_leads}
use Rattle.sv_rules.proofs.tops.leading_top.Goals as goal

pub first_of_both-top-requires-clause-over : goal.first_of_both-top-requires-clause-over
first_of_both-top-requires-clause-over c =
    let origins = c.args.origins.now in
    let table = c.in_ok-above-in-Some.ensures (has_edge origins)
    (all_brought origins (has_edge origins) (λ a b. refl)) in
    c.requires.tops ∙ sym table.0 ∙ sym (ap length c.deref.ensures.value)

pub first_of_both-top-requires-clause-few : goal.first_of_both-top-requires-clause-few
first_of_both-top-requires-clause-few c =
    let origins = c.args.origins.now in
    let table = c.in_ok-above-in-Some.ensures (has_edge origins)
    (all_brought origins (has_edge origins) (λ a b. refl)) in
    subst (λ n. n < 4294967296) (sym table.0 ∙ sym (ap length c.deref.ensures.value)) c.requires.few

pub returns-in_ok-above-in-Some : goal.returns-in_ok-above-in-Some
returns-in_ok-above-in-Some c = λ design are clocks leads top_are.
    let origins = c.args.origins.now in
    let tops = c.args.tops.now in
    let clock = c.in-Some.clock.0 in
    let above = c.in_ok-above-in-Some.above.items in
    let up = lists_pair (links_in design) in
    let reached = c.in_ok-above-in-Some.ensures up
    (all_brought origins up (λ a b. sym (are.edges a b))) in
    let top = number_if_any c.first_of_both-top.result in
    some_leads design c.args.clocks.now c.args.led.now tops clocks leads top_are clock
    c.in-Some.ensures above
    (subst (λ m. IsTable m above (holds (least_set m up (clock ∷ [])))) are.over reached) top
    (subst (λ (ts : List Bool). FindsFirstOfBoth ts tops top) c.deref.ensures.value
    c.first_of_both-top.ensures)

pub returns-in-None : goal.returns-in-None
returns-in-None c = λ design are clocks leads top_are.
    none_leads design c.args.clocks.now c.args.led.now c.args.tops.now clocks leads top_are
    c.in-None.ensures
