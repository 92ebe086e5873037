use Rattle.std.proofs.Common.{◌≡◌, true, ◌++◌, drop, map}
use Rattle.std.specs.List.{list_all}
use Rattle.sv_ast.specs.Shape.{is_shaped_target}
use Rattle.sv_ast.specs.Views.{target_tree}
use Rattle.sv_elab_rules.specs.Walks.{each}
use Rattle.sv_elab_rules.specs.Targets.{target_steps}
use Rattle.sv_width.specs.Scopes.{names_of}
use Rattle.sv_elab_stmt.specs.Targets.{piece_at, target_piece}
use Rattle.sv_elab_stmt.proofs.targets.parts_of.Given as goal

-- the targets that are left are asked as all are, and the parts so far with theirs are all
abbrev pub invariant-loop-target : goal.invariant-loop-target
invariant-loop-target l = record {
  asks : (each (target_steps (names_of l.scope))
      (map target_tree (drop l.target-index l.targets))).end
      ≡ (each (target_steps (names_of l.scope)) (map target_tree l.targets)).end;
  gives : map (piece_at 0) l.parts.items ++ map (target_piece (names_of l.scope) 0)
      (map target_tree (drop l.target-index l.targets))
      ≡ map (target_piece (names_of l.scope) 0) (map target_tree l.targets);
  shaped : list_all is_shaped_target (map target_tree (drop l.target-index l.targets)) ≡ true;
}
