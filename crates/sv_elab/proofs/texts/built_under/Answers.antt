use Rattle.std.proofs.Common.{sym, ap, ◌∙◌}
use Rattle.std.proofs.lemmas.Result.{err_from_is_err_and}
use Rattle.sv_ast.specs.Views.{module_tree}
use Rattle.sv_width.proofs.Breaches.{ok_weaker, err_weaker}
use Rattle.sv_elab.specs.Modules.{names_of, asked_name}
use Rattle.sv_elab.proofs.DeclaredLattices.{breach_on}
use Rattle.sv_elab.proofs.TextCode.{modules_shaped, names_breach, top_breach, top_shaped, built_at}
use Rattle.sv_elab.proofs.TextCode.{tables_same}
use Rattle.sv_elab.proofs.texts.built_under.Goals as goal

pub returns-in_err-names-clause-broken : goal.returns-in_err-names-clause-broken
returns-in_err-names-clause-broken c =
    let p = err_from_is_err_and c.from_residual.result c.from_residual.ensures.1 in
    rw (p.1, p.2) (names_breach c.args.text.now (asked_name c.args.top) c.args.points.now
    c.args.maps.now.entries c.deref.result.now c.deref.ensures.value c.in_err-names.field-0.0
    c.in_err-names.ensures.broken)

pub top_module-requires : goal.top_module-requires
top_module-requires c =
    c.in_ok-names.ensures.names
    ∙ ap names_of (c.deref.ensures.value ∙ sym c.deref-2.ensures.value)

pub returns-in_err-master-clause-broken : goal.returns-in_err-master-clause-broken
returns-in_err-master-clause-broken c =
    let p = err_from_is_err_and c.from_residual-in_err-master.result
    c.from_residual-in_err-master.ensures.1 in
    rw (p.1, p.2) (top_breach c.args.text.now (asked_name c.args.top) c.args.points.now
    c.args.maps.now.entries c.deref.result.now c.deref.ensures.value c.in_ok-names.ensures.asked
    c.deref-2.result.now c.deref-2.ensures.value c.in_err-master.field-0.0
    c.in_err-master.ensures.broken)

pub top_instance-requires-clause-ready : goal.top_instance-requires-clause-ready
top_instance-requires-clause-ready c = record {
  names =
      c.in_ok-names.ensures.names
      ∙ ap names_of (c.deref.ensures.value ∙ sym c.deref-3.ensures.value);
  shaped =
      modules_shaped c.args.text.now c.deref-3.result.now c.deref-3.ensures.value
      c.requires.shaped;
  points = c.names-2.ensures.few;
  maps = c.requires.maps;
}

pub top_instance-requires-clause-shaped : goal.top_instance-requires-clause-shaped
top_instance-requires-clause-shaped c =
    top_shaped c.args.text.now (asked_name c.args.top) c.args.points.now
    c.args.maps.now.entries c.deref.result.now c.deref.ensures.value c.in_ok-names.ensures.asked
    c.deref-2.result.now c.deref-2.ensures.value (module_tree c.in_ok-master.master.now)
    c.in_ok-master.ensures.found c.requires.shaped

pub returns : goal.returns
returns c =
    let at = built_at c.args.text.now (asked_name c.args.top) c.args.points.now
    c.args.maps.now.entries c.deref.result.now c.deref.ensures.value c.in_ok-names.ensures.asked
    c.deref-2.result.now c.deref-2.ensures.value (module_tree c.in_ok-master.master.now)
    c.in_ok-master.ensures.found _ (tables_same c.args.points.now c.args.maps.now.entries
    c.args.text.now.modules.items c.deref-3.result.now c.names-2.result.now.keys c.least.result.0
    c.deref-3.ensures.value c.names-2.ensures.names c.least.ensures) in
    record {
      found = ok_weaker c.top_instance.result _ _ (λ b h. at ∙ h) c.top_instance.ensures.found;
      broken = err_weaker c.top_instance.result _ _ (λ f h. breach_on f _ _ (λ s e. at ∙ e) h)
          c.top_instance.ensures.broken;
    }
