use Rattle.std.proofs.Common.{◌≡◌, ℕ, List, None, sym, ap, ◌∙◌}
use Rattle.std.specs.Prelude.{is_some}
use Rattle.std.specs.Map.{lookup}
use Rattle.std.specs.Str.{bytes_eq}
use Rattle.indexmap.proofs.CallerLemmas.{insert_entry-new}
use Rattle.sv_width.specs.declared.meanings.Meaning.{Meaning}
use Rattle.sv_width.specs.Scopes.{Known, meaning_of, with_meaning}
use Rattle.sv_width.proofs.EntryLemmas.{lookup_is_entry, none_there, refuses_twice}
use Rattle.sv_width.proofs.scope.Scope.add.Goals as goal

pub returns-then-contains_key-clause-refusal : goal.returns-then-contains_key-clause-refusal
returns-then-contains_key-clause-refusal c =
    refuses_twice c.args.self.now c.args.name c.args.place c.broken.result c.in_ok-vec.field-0.items
    c.broken.ensures c.in_ok-vec.ensures.items
    (sym (ap (λ (k : Known). is_some (meaning_of k c.args.name)) c.self.view_is)
    ∙ sym (ap is_some (lookup_is_entry c.args.name c.self.inside.meanings.entries))
    ∙ sym c.contains_key.ensures ∙ c.if-contains_key.true)

pub returns-clause-added : goal.returns-clause-added
returns-clause-added c =
    let none : lookup (bytes_eq c.args.name) c.self.inside.meanings.entries ≡ None =
    none_there _ (sym c.contains_key.ensures ∙ c.if-contains_key.false) in
    ap (λ (es : List (List ℕ × Meaning)).
    record { meanings = es; announced = c.self.inside.announced.keys })
    (c.in_ok-insert.ensures.entries
    ∙ insert_entry-new bytes_eq c.self.inside.meanings c.args.name c.args.meaning none)
    ∙ ap (λ (k : Known). with_meaning k c.args.name c.args.meaning) c.self.view_is

pub returns-clause-new : goal.returns-clause-new
returns-clause-new c =
    sym (ap (λ (k : Known). meaning_of k c.args.name) c.self.view_is)
    ∙ sym (lookup_is_entry c.args.name c.self.inside.meanings.entries)
    ∙ none_there _ (sym c.contains_key.ensures ∙ c.if-contains_key.false)
