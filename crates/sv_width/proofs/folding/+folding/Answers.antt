use Rattle.std.proofs.Common.{◌≡◌, min, refl, sym, ap, subst, ◌∙◌}
use Rattle.std.proofs.lemmas.Result.{err_from_is_err_and}
use Rattle.sv_width.specs.declared.measured.Measured.{Measured}
use Rattle.sv_width.specs.Outcomes.{IsFolded}
use Rattle.sv_width.specs.Pushed.{joined_width, behind_times, folded_of, joined_from, divisors_of}
use Rattle.sv_width.specs.Pushed.{divisors_in}
use Rattle.sv_width.specs.Views.{measured_tree, measured_trees, parts_of}
use Rattle.sv_width.proofs.Folds.{capped_times}
use Rattle.sv_width.proofs.Low.{bit_low}
use Rattle.sv_width.proofs.MRows.{row_at, parts_refused}
use Rattle.sv_width.proofs.folding.+folding.Goals as goal

pub folded-of_type-requires-then-gives_one_bit-clause-low :
    goal.folded-of_type-requires-then-gives_one_bit-clause-low
folded-of_type-requires-then-gives_one_bit-clause-low t c =
    let bits = c.in_ok-bits-in-Unary.bits in
    rw (c.value.ensures.value, c.apply_unary.ensures.value)
    (bit_low c.in-Unary.op (sym c.gives_one_bit.ensures ∙ c.if-gives_one_bit.true) c.args.to.width
    bits.width bits.signed bits.value c.args.to.in_range.0)

pub folded-returns-in_err-value-in-Join-clause-broken :
    goal.folded-returns-in_err-value-in-Join-clause-broken
unfolding divisors_of divisors_in
folded-returns-in_err-value-in-Join-clause-broken t c =
    let p = err_from_is_err_and c.from_residual-in_err-value-in-Join.result
    c.from_residual-in_err-value-in-Join.ensures.1 in
    rw (p.1, p.2)
    (parts_refused c.args.expr.now _ c.args.to.width c.args.to.signed c.in-Join.parts
    c.deref-in-Join.result.now c.in_err-value-in-Join.field-0.0 c.in-Join.is refl
    c.deref-in-Join.ensures.value c.in_err-value-in-Join.ensures.broken)

pub folded-returns-in_err-value-in-Repeat-clause-broken :
    goal.folded-returns-in_err-value-in-Repeat-clause-broken
unfolding divisors_of divisors_in
folded-returns-in_err-value-in-Repeat-clause-broken t c =
    let p = err_from_is_err_and c.from_residual-in_err-value-in-Repeat.result
    c.from_residual-in_err-value-in-Repeat.ensures.1 in
    rw (p.1, p.2)
    (parts_refused c.args.expr.now _ c.args.to.width c.args.to.signed c.in-Repeat.parts
    c.deref-in-Repeat.result.now c.in_err-value-in-Repeat.field-0.0 c.in-Repeat.is refl
    c.deref-in-Repeat.ensures.value c.in_err-value-in-Repeat.ensures.broken)

pub folded-returns-in_ok-value-in-Join-clause-found :
    goal.folded-returns-in_ok-value-in-Join-clause-found
unfolding folded_of joined_from divisors_of divisors_in
folded-returns-in_ok-value-in-Join-clause-found t c =
    let parts = row_at c.in-Join.parts c.deref-in-Join.result.now
    c.deref-in-Join.ensures.value in
    subst (λ (e : Measured).
    IsFolded (measured_tree e) c.args.to.width c.args.to.signed c.of_type-in-Join.result)
    (sym c.in-Join.is) (
      sym (ap (λ es. (divisors_in es).end) parts) ∙ c.in_ok-value-in-Join.ensures.asked,
      c.of_type-in-Join.ensures.width,
      c.of_type-in-Join.ensures.signed,
      c.of_type-in-Join.ensures.value ∙ c.in_ok-value-in-Join.ensures.value
          ∙ ap (λ es. joined_from es c.args.to.width 0) parts,
    )

pub folded-returns-in_ok-value-in-Repeat-clause-found :
    goal.folded-returns-in_ok-value-in-Repeat-clause-found
unfolding folded_of joined_from divisors_of divisors_in
folded-returns-in_ok-value-in-Repeat-clause-found t c =
    let n = c.args.to.width in
    let parts = row_at c.in-Repeat.parts c.deref-in-Repeat.result.now
    c.deref-in-Repeat.ensures.value in
    let width : c.joined_width.result ≡
    min (joined_width (parts_of (measured_trees c.deref-in-Repeat.result.now))) 65 =
    c.joined_width.ensures
    ∙ ap (λ es. min (joined_width (parts_of (measured_trees es))) 65)
    (c.deref-in-Repeat-2.ensures.value ∙ sym c.deref-in-Repeat.ensures.value) in
    subst (λ (e : Measured).
    IsFolded (measured_tree e) c.args.to.width c.args.to.signed c.of_type-in-Repeat.result)
    (sym c.in-Repeat.is) (
      sym (ap (λ es. (divisors_in es).end) parts) ∙ c.in_ok-value-in-Repeat.ensures.asked,
      c.of_type-in-Repeat.ensures.width,
      c.of_type-in-Repeat.ensures.signed,
      c.of_type-in-Repeat.ensures.value ∙ c.repeated-whole.ensures.value
          ∙ ap (λ w. behind_times c.args.to.width c.in-Repeat.count w c.in_ok-value-in-Repeat.value)
          width
          ∙ capped_times c.args.to.width c.in-Repeat.count
          (joined_width (parts_of (measured_trees c.deref-in-Repeat.result.now)))
          c.in_ok-value-in-Repeat.value c.args.to.in_range.1
          ∙ ap (λ v. behind_times c.args.to.width c.in-Repeat.count
          (joined_width (parts_of (measured_trees c.deref-in-Repeat.result.now))) v)
          c.in_ok-value-in-Repeat.ensures.value
          ∙ ap (λ es. behind_times c.args.to.width c.in-Repeat.count (joined_width es)
          (joined_from es c.args.to.width 0)) parts,
    )
