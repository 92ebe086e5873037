use Rattle.std.proofs.Common.{◌+◌, [], ◌++◌, drop, map, sym, ap, ◌∙◌}
use Rattle.sv_ast.specs.Views.{module_tree}
use Rattle.sv_elab_rules.specs.Texts.{module_names}
use Rattle.sv_elab.specs.Modules.{names_of}
use Rattle.sv_elab.proofs.NameLemmas.{left_more, left_none}
use Rattle.sv_elab.proofs.ModuleLemmas.{twice_end, fresh_end, none_end, fresh_key}
use Rattle.sv_elab.proofs.modules.module_names.Goals as goal

pub returns-then-not-branch-clause-broken : goal.returns-then-not-branch-clause-broken
returns-then-not-branch-clause-broken c =
    let ms = c.args.modules.now in
    let i = c.loop-module.module-index in
    let m = c.module-item.result in
    let keys = c.loop-module.names.keys in
    c.refusal_naming.ensures (module_names [] (map module_tree ms)).end
    (sym c.loop-module.invariant.walk
    ∙ ap (λ rest. (module_names keys (map module_tree rest)).end)
    (left_more ms i m c.loop-module-test.true c.module-item.is)
    ∙ twice_end keys (module_tree m) (map module_tree (drop (i + 1) ms))
    (sym c.in_ok-add_name.ensures.new ∙ c.if-not-branch.true))

pub loop-module-preserved : goal.loop-module-preserved
loop-module-preserved c =
    let ms = c.args.modules.now in
    let i = c.loop-module.module-index in
    let m = c.module-item.result in
    let keys = c.loop-module.names.keys in
    let split = left_more ms i m c.loop-module-test.true c.module-item.is in
    let fresh = sym c.in_ok-add_name.ensures.new ∙ c.if-not-branch.false in
    rw c.in_ok-add_name.ensures.added (record {
      walk = sym (fresh_end keys (module_tree m) (map module_tree (drop (i + 1) ms)) fresh)
          ∙ ap (λ rest. (module_names keys (map module_tree rest)).end) (sym split)
          ∙ c.loop-module.invariant.walk;
      all = fresh_key keys m.name (names_of (drop (i + 1) ms)) (names_of ms) fresh
          (ap (λ rest. keys ++ names_of rest) (sym split) ∙ c.loop-module.invariant.all);
    })

pub returns-clause-asked : goal.returns-clause-asked
returns-clause-asked c =
    sym c.loop-module.invariant.walk
    ∙ ap (λ rest. (module_names c.loop-module.names.keys (map module_tree rest)).end)
    (left_none c.args.modules.now c.loop-module.module-index c.loop-module-test.false)
    ∙ none_end c.loop-module.names.keys
