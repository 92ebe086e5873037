use Rattle.std.proofs.Common.{◌+◌, drop, map, ap, sym, ◌∙◌}
use Rattle.sv_ast.specs.Views.{pair_tree}
use Rattle.sv_elab_rules.specs.Lattices.{pair_questions}
use Rattle.sv_elab.specs.Earliest.{earlier, earliest, name_step}
use Rattle.sv_elab.proofs.NameLemmas.{pair_more, left_more}
use Rattle.sv_elab.proofs.wrong_names.with_pairs.Goals as goal

pub loop-lower-preserved : goal.loop-lower-preserved
loop-lower-preserved c =
    let x = c.loop-lower-item.result in
    let pairs = c.args.pairs.now in
    let keys = c.args.names.now.keys in
    let i = c.loop-lower.lower-index in
    let w = name_step c.loop-lower.wrong in
    rw (
      c.earlier-wrong-in-loop-lower.ensures,
      c.earlier-wrong.ensures,
      c.contains-in-loop-lower.ensures,
      c.contains.ensures,
    )
    (pair_more w keys x (drop (i + 1) pairs)
    ∙ ap (λ xs. earlier w (earliest (pair_questions keys (map pair_tree xs))))
    (sym (left_more pairs i x c.loop-lower-test.true c.loop-lower-item.is))
    ∙ c.loop-lower.invariant)
