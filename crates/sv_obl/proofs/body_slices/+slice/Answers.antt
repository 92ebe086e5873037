use Rattle.std.proofs.Common.{◌+◌, [], get_or, map, take, refl, sym, ap, subst, ◌∙◌}
use Rattle.std.specs.Prelude.{IfOk}
use Rattle.sv_obl.specs.SliceRoutes.{IsSliceOf, AreSlicesOf, EndsIn}
use Rattle.sv_obl.specs.IndexedBodies.{looked_up, numbers_at, numbers_found, chosen}
use Rattle.sv_obl.proofs.SliceChains.{on_ok}
use Rattle.sv_obl.proofs.IndexedFacts.{block_passed, block_slice, block_looked_up, next_slice}
use Rattle.sv_obl.proofs.IndexedFacts.{no_next_slice}
use Rattle.sv_obl.proofs.body_slices.+slice.Goals as goal
use Rattle.sv_obl.proofs.body_slices.+slice.Goals.{part_slices-then-number-parts+in_ok-slice+in_ok-push}
use Rattle.sv_obl.proofs.body_slices.+slice.Goals.{part_slices-else-number-parts}

pub slice_for-returns-in-Assign : goal.slice_for-returns-in-Assign
slice_for-returns-in-Assign t c =
    let s = c.args.target.0 in
    subst (λ x. IsSliceOf s (looked_up s x) c.assign_slice.result) (sym c.in-Assign.is)
    c.assign_slice.ensures

pub slice_for-returns-in-Block : goal.slice_for-returns-in-Block
slice_for-returns-in-Block t c =
    let s = c.args.target.0 in
    let numbers = c.in-Block.numbers in
    subst (λ x. IfOk c.block_slice.result (IsSliceOf s x))
    (ap (λ xs. chosen (map (looked_up s) xs) (numbers_at numbers s)) c.deref.ensures.value
    ∙ sym (block_looked_up s c.in-Block.parts numbers) ∙ sym (ap (looked_up s) c.in-Block.is))
    c.block_slice.ensures

pub block_slice-returns-in_ok-slices-in-Some : goal.block_slice-returns-in_ok-slices-in-Some
block_slice-returns-in_ok-slices-in-Some t c =
    let s = c.args.target.0 in
    let parts = c.args.parts.now in
    let numbers = c.args.numbers.now in
    let those = c.in-Some.those.now.items in
    let slices = c.in_ok-slices-in-Some.slices.items in
    on_ok c.together.result (EndsIn slices [])
    (λ whole. IsSliceOf s (chosen (map (looked_up s) parts) (numbers_at numbers s)) whole)
    (λ whole ends. block_slice s parts numbers those slices whole
    (ap numbers_found (sym c.in-Some.ensures.value))
    (subst (λ ns. AreSlicesOf s (chosen (map (looked_up s) parts) ns) slices)
    c.deref.ensures.value c.in_ok-slices-in-Some.ensures) ends)
    c.together.ensures

pub block_slice-returns-in-None : goal.block_slice-returns-in-None
block_slice-returns-in-None t c =
    block_passed c.args.target.0 c.args.parts.now c.args.numbers.now (sym c.in-None.ensures.value)

pub part_slices-loop-number-preserved : goal.part_slices-loop-number-preserved
part_slices-loop-number-preserved t c =
    let s = c.args.target.0 in
    let parts = c.args.parts.now in
    let numbers = c.args.numbers.now in
    let i = c.loop-number.number-index in
    let k = get_or numbers i 0 in
    let before = c.loop-number.slices.items in
    let are = c.loop-number.invariant in
    elim c.if-number-parts.branch [
      | part_slices-then-number-parts+in_ok-slice+in_ok-push w ↦
          let part = w.index-parts-number.result in
          subst (λ v. AreSlicesOf s
          (chosen (map (looked_up s) parts) (take (i + 1) numbers)) v.items) (sym w.slices-is)
          (next_slice s parts numbers i k part before w.push.new.self.items w.in_ok-slice.slice
          c.loop-number-test.true refl w.if-number-parts.true w.index-parts-number.is are
          w.in_ok-slice.ensures w.in_ok-push.ensures.items)
      | part_slices-else-number-parts w ↦
          subst (λ v. AreSlicesOf s
          (chosen (map (looked_up s) parts) (take (i + 1) numbers)) v.items) (sym w.slices-is)
          (no_next_slice s parts numbers i k before c.loop-number-test.true refl
          w.if-number-parts.false are)
    ]
