use Rattle.std.proofs.Common.{map, sym}
use Rattle.std.specs.Str.{bytes_eq}
use Rattle.sv_ast.specs.Shape.{is_shaped_module}
use Rattle.sv_ast.specs.Tree.{ModuleTree}
use Rattle.sv_ast.specs.Views.{module_tree}
use Rattle.sv_elab.proofs.TextLemmas.{found_passes}
use Rattle.sv_elab.proofs.instances.master_of.Goals as goal

pub returns-clause-shaped : goal.returns-clause-shaped
returns-clause-shaped c =
    found_passes is_shaped_module (λ (m : ModuleTree). bytes_eq c.args.instance.now.«module» m.name)
    (map module_tree c.args.shared.now.tables.modules.now) (module_tree c.in-Some.master.now)
    c.requires.shaped (sym c.in-Some.ensures)
