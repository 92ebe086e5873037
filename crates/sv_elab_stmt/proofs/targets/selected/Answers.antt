use Rattle.std.proofs.Common.{◌≡◌, ◌-◌, false, refl, sym, ap, subst, ◌∙◌}
use Rattle.std.specs.Prelude.{Err}
use Rattle.sv_num.specs.Vectors.{number_of as whole_number_of}
use Rattle.sv_ast.specs.Views.{expression_tree, selection_of}
use Rattle.sv_elab_rules.specs.Rules.{bad_select}
use Rattle.sv_elab_rules.specs.ExpressionSteps.{is_part}
use Rattle.sv_elab_rules.specs.Targets.{selection_steps}
use Rattle.sv_width.specs.Answers.{IsBreach}
use Rattle.sv_width.specs.Scopes.{names_of}
use Rattle.sv_width.proofs.SameValue.{either}
use Rattle.sv_width.proofs.Breaches.{breach_by}
use Rattle.sv_elab_stmt.proofs.TargetFacts.{IsChosen, whole_chosen, bit_chosen, bit_refused}
use Rattle.sv_elab_stmt.proofs.TargetFacts.{bit_unfound}
use Rattle.sv_elab_stmt.proofs.TargetFacts.{part_chosen, part_refused, high_unfound, low_unfound}
use Rattle.sv_elab_stmt.proofs.WalkFacts.{handed_on}
use Rattle.sv_elab_stmt.proofs.targets.selected.Goals as goal

pub returns-in_err-bits-in-Bit-clause-broken : goal.returns-in_err-bits-in-Bit-clause-broken
returns-in_err-bits-in-Bit-clause-broken c =
    let names = names_of c.args.scope.now in
    let t = c.args.target.now in
    let fault = c.in_err-bits-in-Bit.field-0.0 in
    handed_on c.from_residual.result _ _ c.from_residual.ensures.1
    (subst (λ sel. IsBreach (selection_steps names t.name t.place sel).end fault)
    (sym (ap selection_of c.in-Bit.is))
    (bit_unfound names t.name t.place (expression_tree c.in-Bit.index) fault
    c.in_err-bits-in-Bit.ensures.broken))

pub returns-in_err-high-in-Part-clause-broken : goal.returns-in_err-high-in-Part-clause-broken
returns-in_err-high-in-Part-clause-broken c =
    let t = c.args.target.now in
    handed_on c.from_residual-in_err-high-in-Part.result _ _
    c.from_residual-in_err-high-in-Part.ensures.1
    (subst (λ sel. IsBreach (selection_steps (names_of c.args.scope.now) t.name t.place sel).end
    c.in_err-high-in-Part.field-0.0)
    (sym (ap selection_of c.in-Part.is))
    (high_unfound (names_of c.args.scope.now) t.name t.place (expression_tree c.in-Part.high)
    (expression_tree c.in-Part.low) c.in_err-high-in-Part.field-0.0
    c.in_err-high-in-Part.ensures.broken))

pub returns-in_err-low-in-Part-clause-broken : goal.returns-in_err-low-in-Part-clause-broken
returns-in_err-low-in-Part-clause-broken c =
    let names = names_of c.args.scope.now in
    let t = c.args.target.now in
    let fault = c.in_err-low-in-Part.field-0.0 in
    handed_on c.from_residual-in_err-low-in-Part.result _ _
    c.from_residual-in_err-low-in-Part.ensures.1
    (subst (λ sel. IsBreach (selection_steps names t.name t.place sel).end fault)
    (sym (ap selection_of c.in-Part.is))
    (low_unfound names t.name t.place (expression_tree c.in-Part.high)
    (expression_tree c.in-Part.low) _ fault
    c.in_ok-high-in-Part.ensures.found c.in_err-low-in-Part.ensures.broken))

pub returns-in-Whole-clause-found : goal.returns-in-Whole-clause-found
returns-in-Whole-clause-found c =
    let names = names_of c.args.scope.now in
    let t = c.args.target.now in
    subst (λ sel. IsChosen names t.name t.place sel (c.args.width - 1) 0)
    (sym (ap selection_of c.in-Whole.is))
    (whole_chosen names t.name t.place c.args.width c.requires.known c.requires.some)

pub returns-in-Some-clause-found : goal.returns-in-Some-clause-found
returns-in-Some-clause-found c =
    let names = names_of c.args.scope.now in
    let t = c.args.target.now in
    let inside = rw c.in-Some.is at c.bit_inside.ensures in
    subst (λ sel. IsChosen names t.name t.place sel c.in-Some.bit c.in-Some.bit)
    (sym (ap selection_of c.in-Bit.is))
    (bit_chosen names t.name t.place c.args.width c.requires.known (expression_tree c.in-Bit.index)
    c.in_ok-bits-in-Bit.bits c.in-Some.bit c.in_ok-bits-in-Bit.ensures.found inside.0 inside.1
    inside.2)

pub returns-in-None-clause-broken : goal.returns-in-None-clause-broken
returns-in-None-clause-broken c =
    let names = names_of c.args.scope.now in
    let t = c.args.target.now in
    let e = expression_tree c.in-Bit.index in
    let outside = rw c.in-None.is at c.bit_inside.ensures in
    breach_by c.refusal.result (bad_select c.place.result) c.refusal.ensures
    (selection_steps names t.name t.place (selection_of t.select)).end
    (ap (λ x. (selection_steps names t.name t.place (selection_of x)).end) c.in-Bit.is
    ∙ bit_refused names t.name t.place c.args.width c.requires.known e c.in_ok-bits-in-Bit.bits
    c.in_ok-bits-in-Bit.ensures.found outside
    ∙ ap (λ p. Err (bad_select p)) (sym c.place.ensures))

pub returns-in-Some-part_inside-clause-found : goal.returns-in-Some-part_inside-clause-found
returns-in-Some-part_inside-clause-found c =
    let names = names_of c.args.scope.now in
    let t = c.args.target.now in
    let inside = c.in-Some-part_inside.ensures in
    subst (λ sel. IsChosen names t.name t.place sel c.in-Some-part_inside.bounds.0
    c.in-Some-part_inside.bounds.1)
    (sym (ap selection_of c.in-Part.is))
    (part_chosen names t.name t.place c.args.width c.requires.known (expression_tree c.in-Part.high)
    (expression_tree c.in-Part.low)
    c.in_ok-high-in-Part.high c.in_ok-low-in-Part.low c.in-Some-part_inside.bounds.0
    c.in-Some-part_inside.bounds.1
    c.in_ok-high-in-Part.ensures.found c.in_ok-low-in-Part.ensures.found inside.order.0
    inside.order.1 (inside.inside.0 refl) inside.high inside.low)

pub returns-in-None-part_inside-clause-broken : goal.returns-in-None-part_inside-clause-broken
returns-in-None-part_inside-clause-broken c =
    let names = names_of c.args.scope.now in
    let t = c.args.target.now in
    let outside : is_part c.args.width (whole_number_of c.in_ok-high-in-Part.high)
    (whole_number_of c.in_ok-low-in-Part.low) ≡ false =
    either _ (λ h. absurd (cc (c.in-None-part_inside.ensures.inside.1 h))) (λ h. h) in
    breach_by c.refusal-in-None-part_inside.result (bad_select t.place)
    c.refusal-in-None-part_inside.ensures
    (selection_steps names t.name t.place (selection_of t.select)).end
    (ap (λ x. (selection_steps names t.name t.place (selection_of x)).end) c.in-Part.is
    ∙ part_refused names t.name t.place c.args.width c.requires.known
    (expression_tree c.in-Part.high) (expression_tree c.in-Part.low)
    c.in_ok-high-in-Part.high c.in_ok-low-in-Part.low c.in_ok-high-in-Part.ensures.found
    c.in_ok-low-in-Part.ensures.found outside)
