use Rattle.std.proofs.Common.{ℕ, List, sym, ap, ◌∙◌}
use Rattle.std.specs.Str.{bytes_eq}
use Rattle.indexmap.specs.IndexMap.{insert_entry}
use Rattle.indexmap.proofs.CallerLemmas.{insert_entry-new}
use Rattle.sv_ast.specs.Instances.{entry}
use Rattle.sv_width.proofs.EntryLemmas.{none_there}
use Rattle.sv_elab.proofs.PlaceLemmas.{place_kept, place_added}
use Rattle.sv_elab.proofs.links.note_place.Goals as goal

pub returns-in_ok-insert : goal.returns-in_ok-insert
returns-in_ok-insert c = λ n.
    let es = c.args.places.now.entries in
    let name = c.args.name.now in
    let none = none_there _ (sym c.if-not-contains_key.ensures) in
    let entries = c.in_ok-insert.ensures.entries
    ∙ ap (λ k. insert_entry bytes_eq es k c.args.place) c.in_ok-copy.ensures
    ∙ insert_entry-new bytes_eq c.args.places.now name c.args.place none in
    ap (λ (xs : List (List ℕ × ℕ)). entry xs n) entries ∙ place_added es name c.args.place n

pub returns-else-not-contains_key : goal.returns-else-not-contains_key
returns-else-not-contains_key c =
    place_kept c.args.places.now.entries c.args.name.now c.args.place
    (sym c.if-not-contains_key.ensures)
