use Rattle.std.proofs.Common.{map, sym, ap, ◌∙◌}
use Rattle.sv_ast.specs.Instances.{only, top_module}
use Rattle.sv_ast.specs.Views.{module_tree}
use Rattle.sv_elab.specs.Modules.{asked_name}
use Rattle.sv_elab.proofs.ModuleLemmas.{same_others}
use Rattle.sv_elab.proofs.modules.find_top.Goals as goal

pub returns-in_ok-masters-in-None : goal.returns-in_ok-masters-in-None
returns-in_ok-masters-in-None c =
    let ms = map module_tree c.args.modules.now in
    c.only_other.ensures
    ∙ ap only (same_others c.in_ok-masters-in-None.masters.keys ms ms
    c.in_ok-masters-in-None.ensures)
    ∙ ap (λ a. top_module ms (asked_name a)) (sym c.in-None.is)
