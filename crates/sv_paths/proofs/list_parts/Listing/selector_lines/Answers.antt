use Rattle.std.proofs.Common.{◌≡◌, List, length, map, All, sym, ap, subst, ◌∙◌}
use Rattle.sv_flat.specs.Views.{design_of, signal_form}
use Rattle.sv_obl.specs.declared.queries.Query.{Query}
use Rattle.sv_obl.specs.Views.{obligation_of, IsAmong}
use Rattle.sv_obl.proofs.FormLists.{length_mapped}
use Rattle.sv_paths.proofs.WrittenFacts.{among_all}
use Rattle.sv_paths.proofs.list_parts.Listing.selector_lines.Goals as goal

pub push_queries-requires-clause-among : goal.push_queries-requires-clause-among
push_queries-requires-clause-among c =
    let design = design_of c.args.design.now in
    let many : length design.signals ≡ length c.signals.result.now =
    length_mapped signal_form c.args.design.now.signals.items
    ∙ ap length (sym c.signals.ensures.signals) in
    subst (λ n. All (IsAmong n) (map obligation_of c.deref.result.now)) many
    (subst (λ (qs : List Query). All (IsAmong (length design.signals)) (map obligation_of qs))
    (sym c.deref.ensures.value)
    (among_all design (map obligation_of c.in_ok-queries.queries.items)
    c.in_ok-queries.ensures.queries))
