use Rattle.std.proofs.Common.{◌+◌, sym, ap, ◌∙◌, map}
use Rattle.std.specs.Prelude.{unwrap_or}
use Rattle.std.specs.Str.{bytes_eq}
use Rattle.std.proofs.lemmas.Iterator.Adapters.{position_from-zero}
use Rattle.sv_ast.specs.Tree.{DeclarationTree}
use Rattle.sv_ast.specs.Views.{declaration_tree}
use Rattle.sv_width.proofs.Breaches.{ok_weaker}
use Rattle.sv_width.proofs.EntryLemmas.{lookup_is_entry}
use Rattle.sv_elab.proofs.links.Ports.signal.Goals as goal

pub returns : goal.returns
returns c =
    let p = c.args.self.now in
    let n = c.args.name.now in
    let place = c.unwrap_or.ensures ∙ ap (λ o. unwrap_or o 0)
    (c.copied.ensures ∙ c.get.ensures.value ∙ lookup_is_entry n p.places.entries ∙ c.requires n
    ∙ sym (position_from-zero (λ (d : DeclarationTree).
    bytes_eq n d.name) (map declaration_tree p.master.now.ports.items))) in
    ok_weaker c.signal_at.result _ _ (λ id h. h ∙ ap (λ k. p.base + k) place) c.signal_at.ensures
