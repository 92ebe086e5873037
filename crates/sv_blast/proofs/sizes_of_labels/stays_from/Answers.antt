use Rattle.std.proofs.Common.{ℕ, false, cond, not, ◌&&◌, min, sym, ap, ◌∙◌}
use Rattle.std.specs.Prelude.{slice_index_or}
use Rattle.sv_lattice.specs.Tables.{flow_test}
use Rattle.sv_blast.proofs.SizeSums.{capped_more, capped_same, below_more}
use Rattle.sv_blast.proofs.sizes_of_labels.stays_from.Goals as goal
use Rattle.sv_blast.proofs.sizes_of_labels.stays_from.Goals.{then-stays, else-stays}

pub loop-point-preserved : goal.loop-point-preserved
loop-point-preserved c =
    let k = c.loop-point.point in
    let one = λ (q : ℕ). cond (slice_index_or c.args.target.now q false
    && not (flow_test c.args.lattice.now c.args.from q)) 1 0 in
    elim c.if-stays.branch [
      | then-stays w ↦
          capped_more _ (one k) _ _ 1 _ c.loop-point.invariant
          (ap (λ b. min (cond b 1 0) 4194305) (sym w.if-stays.true ∙ c.stays.ensures))
          (w.total-is ∙ w.sum-total.ensures) (below_more one k)
      | else-stays w ↦
          w.total-is
          ∙ capped_same _ (one k) _ _ c.loop-point.invariant
          (ap (λ b. cond b 1 0) (sym c.stays.ensures ∙ w.if-stays.false)) (below_more one k)
    ]
