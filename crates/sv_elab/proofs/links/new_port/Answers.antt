use Rattle.std.proofs.Common.{◌≡◌, ◌-◌, get_or, Some, None, sym, ap, ◌∙◌}
use Rattle.std.proofs.Common.{arith}
use Rattle.std.specs.Str.{bytes_eq}
use Rattle.sv_ast.specs.declared.declarations.Decl.{Decl}
use Rattle.sv_ast.specs.Tree.{DeclarationTree}
use Rattle.sv_ast.specs.Views.{declaration_tree}
use Rattle.sv_elab_rules.specs.Rules.{wrong_link}
use Rattle.sv_width.proofs.EntryLemmas.{lookup_is_entry}
use Rattle.sv_width.proofs.Breaches.{breach_by}
use Rattle.sv_elab.specs.Instances.{ports_form, port_walk, place_from}
use Rattle.sv_elab.proofs.LinkEnds.{port_unknown, port_new}
use Rattle.sv_elab.proofs.PlaceLemmas.{find_none, find_some, place_within}
use Rattle.sv_elab.proofs.links.new_port.Goals as goal

pub returns-in-None-clause-broken : goal.returns-in-None-clause-broken
returns-in-None-clause-broken c =
    let p = c.args.ports.now in
    let n = c.args.name.now in
    let none : place_from 0 p.master.now.ports.items n ≡ None =
    sym (c.in-None.ensures.value ∙ lookup_is_entry n p.places.entries ∙ c.requires n) in
    breach_by c.refusal_naming.result (wrong_link c.args.place n) c.refusal_naming.ensures
    (port_walk (ports_form p) c.args.linked.now.keys c.args.place n).end
    (port_unknown (ports_form p) c.args.linked.now.keys c.args.place n
    (find_none declaration_tree (λ (d : DeclarationTree).
    bytes_eq n d.name) p.master.now.ports.items 0 none))

pub index-requires : goal.index-requires
index-requires c =
    let p = c.args.ports.now in
    let n = c.args.name.now in
    let at : place_from 0 p.master.now.ports.items n ≡ Some c.in-Some.index.now =
    sym (c.in-Some.ensures.value ∙ lookup_is_entry n p.places.entries ∙ c.requires n) in
    let within = place_within declaration_tree (λ (d : DeclarationTree).
    bytes_eq n d.name) p.master.now.ports.items 0 c.in-Some.index.now at in
    omega (arith, within.1, p.master.now.ports.ok.0)

pub returns-clause-found : goal.returns-clause-found
returns-clause-found c =
    let p = c.args.ports.now in
    let n = c.args.name.now in
    let i = c.in-Some.index.now in
    let items = p.master.now.ports.items in
    let at : place_from 0 items n ≡ Some i =
    sym (c.in-Some.ensures.value ∙ lookup_is_entry n p.places.entries ∙ c.requires n) in
    let zero_off : i - 0 ≡ i = omega arith in
    port_new (ports_form p) c.args.linked.now.keys c.args.place n
    (declaration_tree c.index.result.now)
    (find_some declaration_tree (λ (d : DeclarationTree).
    bytes_eq n d.name) items 0 i c.index.result.now at
    ∙ ap (λ k. Some (declaration_tree (get_or items k c.index.result.now))) zero_off
    ∙ ap (λ (d : Decl). Some (declaration_tree d)) (sym c.index.ensures))
    (sym c.in_ok-add_name.ensures.new ∙ c.if-not-branch.false)
