use Rattle.std.proofs.Common.{◌≡◌, List, map, sym, ap, ◌∙◌}
use Rattle.std.proofs.lemmas.Result.{err_from_is_err_and}
use Rattle.sv_ast.specs.declared.modules.Item.{Item}
use Rattle.sv_ast.specs.Instances.{all_items}
use Rattle.sv_ast.specs.Views.{module_tree, item_tree}
use Rattle.sv_elab_rules.specs.Declarations.{declarations_walk, nothing_declared}
use Rattle.sv_elab_decl.specs.Sites.{site_of, declared_of}
use Rattle.sv_elab_decl.proofs.Faults.{breach_on}
use Rattle.sv_elab_decl.proofs.SiteLemmas.{header_passed}
use Rattle.sv_elab_decl.proofs.declarations.body.Goals as goal

pub returns-in_err-declare_items-clause-broken : goal.returns-in_err-declare_items-clause-broken
returns-in_err-declare_items-clause-broken c =
    let base = c.args.site.now.base in
    let least = c.args.tables.now.least.0 in
    let s = site_of c.args.site.now in
    let d = declared_of c.args.declared in
    let p = err_from_is_err_and c.from_residual.result c.from_residual.ensures.1 in
    rw (p.1, p.2)
    (breach_on c.in_err-declare_items.field-0.0
    (declarations_walk base least s d (map item_tree c.deref.result.now)).end
    (declarations_walk base least s nothing_declared (all_items s.master)).end
    (λ t e. header_passed base least s d c.requires.header.ends
    ∙ ap (λ (is : List Item). (declarations_walk base least s d (map item_tree is)).end)
    (sym c.deref.ensures.value)
    ∙ e) c.in_err-declare_items.ensures.broken)

pub returns-clause-found : goal.returns-clause-found
returns-clause-found c =
    let base = c.args.site.now.base in
    let least = c.args.tables.now.least.0 in
    let s = site_of c.args.site.now in
    header_passed base least s (declared_of c.args.declared) c.requires.header.ends
    ∙ ap (λ (is : List Item).
    (declarations_walk base least s (declared_of c.args.declared) (map item_tree is)).end)
    (sym c.deref.ensures.value)
    ∙ c.in_ok-declare_items.ensures.found
