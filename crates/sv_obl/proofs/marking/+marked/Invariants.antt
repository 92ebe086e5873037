use Rattle.std.proofs.Common.{◌≡◌, ◌++◌, drop, map, true}
use Rattle.sv_flat.specs.ByNumber.{signal_forms}
use Rattle.sv_flat.specs.Views.{typed_trees}
use Rattle.sv_rules.specs.Surroundings.{in_surrounding}
use Rattle.sv_obl.specs.Wanted.{marked_tree}
use Rattle.sv_obl.proofs.marking.+marked.Given as goal

-- those so far, and those that are left
abbrev pub invariant-marked_parts-loop-expr : goal.invariant-marked_parts-loop-expr
invariant-marked_parts-loop-expr l =
    let tree = marked_tree (signal_forms l.signals) true (in_surrounding l.later) in
    typed_trees l.parts.items ++ map tree (typed_trees (drop l.expr-index l.exprs))
    ≡ map tree (typed_trees l.exprs)
