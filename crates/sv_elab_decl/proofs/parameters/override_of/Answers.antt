use Rattle.std.proofs.Common.{Bool, Option, sym, ap}
use Rattle.std.proofs.Common.{◌∙◌}
use Rattle.std.specs.Prelude.{option_map, is_some, ◌||◌}
use Rattle.sv_num.specs.declared.vectors.Bits.{Bits}
use Rattle.sv_ast.specs.Instances.{entry}
use Rattle.sv_ast.specs.Views.{parameter_tree}
use Rattle.sv_elab_rules.specs.Names.{is_bound}
use Rattle.sv_width.specs.declared.meanings.Meaning.{Meaning}
use Rattle.sv_width.specs.Scopes.{number_of}
use Rattle.sv_elab_decl.specs.Sites.{site_of, bindings_in}
use Rattle.sv_elab_decl.proofs.Entries.{lookup_is_entry}
use Rattle.sv_elab_decl.proofs.NameLemmas.{bound_is, settings_are, no_override, some_override}
use Rattle.sv_elab_decl.proofs.parameters.override_of.Goals as goal
use Rattle.sv_elab_decl.proofs.parameters.override_of.Goals.{then-param-via-then-param}
use Rattle.sv_elab_decl.proofs.parameters.override_of.Goals.{then-param-via-else-param+then-is_some}

pub returns-then-param : goal.returns-then-param
returns-then-param c =
    let p = parameter_tree c.args.param.now in
    let known = c.args.scope.now in
    let bs = bindings_in known in
    no_override (site_of c.args.site.now) bs p
    (elim c.then-param.branch [
      | then-param-via-then-param w ↦
          ap (λ (b : Bool). b || is_bound (entry bs p.name)) w.if-param.true
      | then-param-via-else-param+then-is_some w ↦
          ap (λ (b : Bool). b || is_bound (entry bs p.name)) w.if-param.false
          ∙ bound_is known p.name
          ∙ ap (λ (r : Option Meaning). is_some r) (sym w.find.ensures)
          ∙ sym w.is_some.ensures
          ∙ w.if-is_some.true
    ])

pub returns : goal.returns
returns c =
    let p = parameter_tree c.args.param.now in
    let known = c.args.scope.now in
    let bs = bindings_in known in
    let values = c.args.site.now.set.now.entries in
    ap (λ (r : Option Bits). option_map number_of r)
    (c.copied.ensures ∙ c.get.ensures.value ∙ lookup_is_entry p.name values)
    ∙ sym (settings_are values p.name)
    ∙ some_override (site_of c.args.site.now) bs p
    (ap (λ (b : Bool). b || is_bound (entry bs p.name)) c.if-param.false
    ∙ bound_is known p.name
    ∙ ap (λ (r : Option Meaning). is_some r) (sym c.find.ensures)
    ∙ sym c.is_some.ensures
    ∙ c.if-is_some.false)
