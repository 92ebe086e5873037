use Rattle.std.proofs.Common.{ℕ, false, cond, length, min, sym, ap, ◌∙◌}
use Rattle.std.specs.Prelude.{slice_index_or}
use Rattle.std.specs.List.{range_with_len}
use Rattle.sv_blast.specs.PointSizes.{stays_from}
use Rattle.sv_blast.proofs.SizeSums.{capped_more, capped_same, below_more}
use Rattle.sv_blast.proofs.sizes_of_labels.stay_count.Goals as goal
use Rattle.sv_blast.proofs.sizes_of_labels.stay_count.Goals.{then-label-point, else-label-point}

pub loop-point-preserved : goal.loop-point-preserved
loop-point-preserved c =
    let k = c.loop-point.point in
    let lattice = c.args.lattice.now in
    let from = λ (p : ℕ). stays_from lattice p c.args.target.now
    (range_with_len 0 (length lattice)) in
    let one = λ (p : ℕ). cond (slice_index_or c.args.label.now p false) (from p) 0 in
    elim c.if-label-point.branch [
      | then-label-point w ↦
          capped_more _ (one k) _ _ _ _ c.loop-point.invariant
          (w.stays_from.ensures
          ∙ ap (λ b. min (cond b (from k) 0) 4194305) (sym w.if-label-point.true))
          (w.total-is ∙ w.sum-total.ensures) (below_more one k)
      | else-label-point w ↦
          w.total-is
          ∙ capped_same _ (one k) _ _ c.loop-point.invariant
          (ap (λ b. cond b (from k) 0) w.if-label-point.false) (below_more one k)
    ]
