use Rattle.std.proofs.Common.{◌≡◌, length, take, drop, map}
use Rattle.sv_flat.specs.Views.{signal_form}
use Rattle.sv_elab_rules.specs.LabelSteps.{labels_walk}
use Rattle.sv_width.specs.Scopes.{names_of}
use Rattle.sv_elab_decl.specs.Overridden.{declaration_trees}
use Rattle.sv_elab_decl.specs.Sites.{tables_of}
use Rattle.sv_elab_decl.proofs.LabelEnds.{behind}
use Rattle.sv_elab_decl.proofs.labelling.labels.Given as goal

-- the signals that have their labels, with what the walk over the others finds, are as of the whole
-- walk
abbrev pub invariant-loop-index : goal.invariant-loop-index
invariant-loop-index l = record {
  walk : behind (map signal_form (take l.index l.signals.items))
      (labels_walk (tables_of l.tables) (names_of l.scope)
      (declaration_trees (drop l.index l.decl-items))
      (map signal_form (drop l.index l.signals.items))).end
      ≡ (labels_walk (tables_of l.tables) (names_of l.scope) (declaration_trees l.decl-items)
      (map signal_form l.fn.signals.items)).end;
  size : length l.signals.items ≡ length l.decl-items;
}
