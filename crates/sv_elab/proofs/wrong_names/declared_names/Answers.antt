use Rattle.std.proofs.Common.{◌+◌, drop, subst}
use Rattle.sv_elab.specs.Earliest.{name_step}
use Rattle.sv_elab.proofs.NameLemmas.{NamesLeft, next_left, left_more}
use Rattle.sv_elab.proofs.wrong_names.declared_names.Goals as goal

pub loop-name-preserved : goal.loop-name-preserved
loop-name-preserved c =
    let x = c.loop-name-item.result in
    let points = c.args.points.now in
    let i = c.loop-name.name-index in
    let left = subst (λ xs.
    NamesLeft points (name_step c.loop-name.wrong) c.loop-name.names.keys xs)
    (left_more points i x c.loop-name-test.true c.loop-name-item.is) c.loop-name.invariant in
    rw (c.earlier-wrong.ensures, c.in_ok-is_new.ensures.new, c.in_ok-is_new.ensures.added)
    (next_left points (name_step c.loop-name.wrong) c.loop-name.names.keys x
    (drop (i + 1) points) left)
