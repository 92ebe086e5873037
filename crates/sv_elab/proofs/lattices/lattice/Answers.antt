use Rattle.std.proofs.Common.{sym, ap, ◌∙◌}
use Rattle.std.specs.Prelude.{Ok, option_map}
use Rattle.sv_ast.specs.Views.{lattice_tree}
use Rattle.sv_elab_rules.specs.Lattices.{PointOrder, lattice_walk}
use Rattle.sv_elab.proofs.lattices.lattice.Goals as goal

pub returns-in_ok-default-in-None-clause-found : goal.returns-in_ok-default-in-None-clause-found
unfolding lattice_walk
returns-in_ok-default-in-None-clause-found c =
    ap (λ l. (lattice_walk (option_map lattice_tree l)).end) c.in-None.is
    ∙ ap (λ (o : PointOrder). Ok o) (sym c.in_ok-default-in-None.ensures)
