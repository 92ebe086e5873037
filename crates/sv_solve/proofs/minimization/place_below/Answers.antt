use Rattle.std.proofs.Common.{sym, ap, ◌∙◌, neg_ℤ, take}
use Rattle.sv_clause.specs.Literals.{stands}
use Rattle.sv_solve.proofs.Places.{not_stands_take, not_stands_take_le}
use Rattle.sv_solve.proofs.minimization.place_below.Goals as goal

pub returns-then-not-contains-clause-none : goal.returns-then-not-contains-clause-none
returns-then-not-contains-clause-none c =
    not_stands_take (neg_ℤ c.args.literal.now) c.args.trail.now.literals c.args.mark
    (ap (λ z. stands z c.args.trail.now.literals) (sym c.negated-negation.ensures)
    ∙ sym c.if-not-contains.ensures)

pub returns-then-place-mark-clause-none : goal.returns-then-place-mark-clause-none
returns-then-place-mark-clause-none c =
    let trail = c.args.trail.now.literals in
    let place = c.place_of-place.result in
    not_stands_take_le (neg_ℤ c.args.literal.now) trail c.args.mark place c.if-place-mark.true
    (ap (λ z. stands z (take place trail))
    (sym (c.place_of-place.ensures.value ∙ c.negated-negation.ensures))
    ∙ (c.len-len.ensures.each_open place c.place_of-place.ensures.within).0)
