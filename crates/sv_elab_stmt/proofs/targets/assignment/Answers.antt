use Rattle.std.proofs.Common.{◌≡◌, ℕ, ◌≤◌, ◌<◌, min, Bool, true, false, map, refl, sym, ap}
use Rattle.std.proofs.Common.{subst, ◌∙◌, arith}
use Rattle.std.specs.Prelude.{nat_le}
use Rattle.std.specs.List.{list_all}
use Rattle.std.proofs.lemmas.Bool.{and_from, leb-true}
use Rattle.sv_ast.specs.Runs.{targets_width}
use Rattle.sv_ast.specs.Views.{expression_tree, target_tree}
use Rattle.sv_flat.specs.Soundness.{is_whole}
use Rattle.sv_flat.specs.Views.{piece_form, typed_tree}
use Rattle.sv_elab_rules.specs.Rules.{too_wide}
use Rattle.sv_elab_rules.specs.ExpressionSteps.{expression_walk}
use Rattle.sv_elab_rules.specs.Targets.{assignment_walk, pieces_of}
use Rattle.sv_width.specs.Answers.{IsBreach}
use Rattle.sv_width.specs.Scopes.{names_of}
use Rattle.sv_width.proofs.Ends.{expression_lengths, known_lengths}
use Rattle.sv_width.proofs.Breaches.{breach_by}
use Rattle.sv_elab_stmt.specs.Targets.{parts_width, placed}
use Rattle.sv_elab_stmt.proofs.TargetFacts.{parts_have, parts_placed, targets_broken, targets_wide}
use Rattle.sv_elab_stmt.proofs.TargetFacts.{value_broken, assigned}
use Rattle.sv_width.proofs.SoundStatements.{assignment_sound, pieces_whole}
use Rattle.sv_elab_stmt.proofs.WalkFacts.{handed_on}
use Rattle.sv_elab_stmt.proofs.targets.assignment.Goals as goal

too_many : (n w : ℕ) → w ≡ min n 4294967295 → 64 < w → nat_le n 64 ≡ false
too_many n w is many = by (nat_le n 64) refl
  where
    by : (b : Bool) → nat_le n 64 ≡ b → b ≡ false
    by true h = absurd (omega (arith, leb-true n 64 h, is, many))
    by false h = refl

few_enough : (n w : ℕ) → w ≡ min n 4294967295 → w ≤ 64 → n ≡ w
few_enough n w is few = omega (arith, is, few)

pub returns-in_err-parts-clause-broken : goal.returns-in_err-parts-clause-broken
returns-in_err-parts-clause-broken c =
    handed_on c.from_residual.result _ _ c.from_residual.ensures.1
    (targets_broken (names_of c.args.scope.now) (map target_tree c.args.targets.now) c.args.place
    c.args.blocking
    (expression_tree c.args.value.now) c.in_err-parts.field-0.0 c.in_err-parts.ensures.broken)

pub returns-then-width-gt64-clause-broken : goal.returns-then-width-gt64-clause-broken
returns-then-width-gt64-clause-broken c =
    let names = names_of c.args.scope.now in
    let ts = map target_tree c.args.targets.now in
    let found = c.in_ok-parts.ensures.found in
    let width = ap parts_width c.deref.ensures.value
    ∙ parts_have names (known_lengths c.args.scope.now) ts c.in_ok-parts.parts.items found in
    breach_by c.refusal.result (too_wide c.args.place) c.refusal.ensures
    (assignment_walk names ts c.args.place c.args.blocking (expression_tree c.args.value.now)).end
    (targets_wide names ts c.args.place c.args.blocking (expression_tree c.args.value.now) found.0
    (sym (ap (λ n. nat_le n 64) width)
    ∙ too_many _ c.total_width-width.result c.total_width-width.ensures c.if-width-gt64.true))

pub returns-in_err-value-clause-broken : goal.returns-in_err-value-clause-broken
returns-in_err-value-clause-broken c =
    let names = names_of c.args.scope.now in
    let ts = map target_tree c.args.targets.now in
    let e = expression_tree c.args.value.now in
    let found = c.in_ok-parts.ensures.found in
    let fault = c.in_err-value.field-0.0 in
    let have = ap parts_width c.deref.ensures.value
    ∙ parts_have names (known_lengths c.args.scope.now) ts c.in_ok-parts.parts.items found in
    let same = few_enough _ c.total_width-width.result c.total_width-width.ensures
    c.if-width-gt64.false in
    let few : targets_width names.scope ts ≤ 64 =
    omega (arith, have, same, c.if-width-gt64.false) in
    handed_on c.from_residual-in_err-value.result _ _ c.from_residual-in_err-value.ensures.1
    (value_broken names ts c.args.place c.args.blocking e fault found.0 few
    (subst (λ n. IsBreach (expression_walk names e n).end fault) (sym same ∙ have)
    c.in_err-value.ensures.broken))

pub returns-clause-found : goal.returns-clause-found
returns-clause-found c =
    let names = names_of c.args.scope.now in
    let ts = map target_tree c.args.targets.now in
    let e = expression_tree c.args.value.now in
    let found = c.in_ok-parts.ensures.found in
    let parts = c.in_ok-parts.parts.items in
    let lengths = known_lengths c.args.scope.now in
    let have = ap parts_width c.deref.ensures.value ∙ parts_have names lengths ts parts found in
    let same = few_enough _ c.total_width-width.result c.total_width-width.ensures
    c.if-width-gt64.false in
    let few : targets_width names.scope ts ≤ 64 =
    omega (arith, have, same, c.if-width-gt64.false) in
    assigned names ts c.args.place c.args.blocking e (map piece_form c.in_ok-pieces.field-0.items)
    (typed_tree c.in_ok-value.value)
    found.0 few
    (ap (λ n. (expression_walk names e n).end) (sym (sym same ∙ have))
    ∙ c.in_ok-value.ensures.found)
    (c.in_ok-pieces.ensures ∙ ap placed c.deref-2.ensures.value
    ∙ parts_placed names lengths ts parts found)

pub returns-clause-sound : goal.returns-clause-sound
returns-clause-sound c = λ signals has_signals.
    assignment_sound (names_of c.args.scope.now) (λ n.
    refl) (known_lengths c.args.scope.now) signals has_signals
    (map target_tree c.args.targets.now) c.args.place c.args.blocking
    (expression_tree c.args.value.now) c.requires.value
    (expression_lengths c.args.value.now) _ (returns-clause-found c)

pub returns-clause-one : goal.returns-clause-one
returns-clause-one c = λ signals has_signals blocking whole.
    let names = names_of c.args.scope.now in
    let ts = map target_tree c.args.targets.now in
    let found = c.in_ok-parts.ensures.found in
    let lengths = known_lengths c.args.scope.now in
    let pieces : map piece_form c.in_ok-pieces.field-0.items ≡ pieces_of names ts =
    c.in_ok-pieces.ensures ∙ ap placed c.deref-2.ensures.value
    ∙ parts_placed names lengths ts c.in_ok-parts.parts.items found in
    and_from c.args.blocking
    (list_all (is_whole signals) (map piece_form c.in_ok-pieces.field-0.items)) blocking
    (ap (λ ps. list_all (is_whole signals) ps) pieces
    ∙ pieces_whole names (λ n. refl) lengths signals has_signals ts found.0 whole)
