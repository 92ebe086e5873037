use Rattle.std.proofs.Common.{◌≡◌, Bool, true, false, sym, ap, subst, ◌∙◌}
use Rattle.std.specs.Prelude.{Ok, Err}
use Rattle.sv_ast.specs.Tree.{named}
use Rattle.sv_elab_rules.specs.Rules.{not_constant}
use Rattle.sv_elab_rules.specs.ExpressionSteps.{asked}
use Rattle.sv_width.specs.Measured as measured
use Rattle.sv_width.specs.Scopes.{number_of, signal_number}
use Rattle.sv_width.specs.Settings.{names_in, is_constant}
use Rattle.sv_width.proofs.Named.{stands_for, number_at, later_constant, parameter_asked}
use Rattle.sv_width.proofs.Named.{parameter_measured, signal_asked, signal_refused, signal_measured}
use Rattle.sv_width.proofs.Named.{absent_asked}
use Rattle.sv_width.proofs.lookups.named.Goals as goal

pub returns-in-Some-Param-clause-found : goal.returns-in-Some-Param-clause-found
returns-in-Some-Param-clause-found c =
    let h = rw c.in-Some-Param.field-0-is at c.in-Some-Param.ensures in
    let there = stands_for c.args.setting c.args.scope.now c.args.name.now _ h in (
      parameter_asked (names_in c.args.setting c.args.scope.now) c.args.name.now c.args.place
          (is_constant c.args.setting) (number_of c.in-Some-Param.bits) there,
      c.value.ensures ∙ parameter_measured (names_in c.args.setting c.args.scope.now)
          c.args.name.now c.args.place (number_of c.in-Some-Param.bits) there,
    )

pub returns-then-is_constant-clause-broken : goal.returns-then-is_constant-clause-broken
returns-then-is_constant-clause-broken c =
    let h = rw c.in-Some-Signal.field-0-is at c.in-Some-Signal.ensures in
    let there = stands_for c.args.setting c.args.scope.now c.args.name.now _ h in
    c.refusal.ensures (asked (names_in c.args.setting c.args.scope.now) (is_constant c.args.setting)
    (named c.args.name.now c.args.place)).end
    (subst (λ (b : Bool).
    (asked (names_in c.args.setting c.args.scope.now) b
    (named c.args.name.now c.args.place)).end ≡ Err (not_constant c.args.place))
    (sym c.if-is_constant.true ∙ c.is_constant.ensures)
    (signal_refused (names_in c.args.setting c.args.scope.now) c.args.name.now c.args.place
    c.in-Some-Signal.known.width c.in-Some-Signal.known.signed there))

pub returns-else-is_constant-clause-found : goal.returns-else-is_constant-clause-found
returns-else-is_constant-clause-found c =
    let h = rw c.in-Some-Signal.field-0-is at c.in-Some-Signal.ensures in
    let there = stands_for c.args.setting c.args.scope.now c.args.name.now _ h in
    let number = number_at c.args.setting c.args.scope.now c.args.name.now
    ∙ ap signal_number (sym h) in (
      subst (λ (b : Bool).
          (asked (names_in c.args.setting c.args.scope.now) b
          (named c.args.name.now c.args.place)).end ≡ Ok tt)
          (sym c.if-is_constant.false ∙ c.is_constant.ensures)
          (signal_asked (names_in c.args.setting c.args.scope.now) c.args.name.now c.args.place
          c.in-Some-Signal.known.width c.in-Some-Signal.known.signed there),
      c.whole_signal.ensures
          ∙ ap (λ k. measured.read (record {
            width = c.in-Some-Signal.known.width;
            signed = c.in-Some-Signal.known.signed;
            names_signal = true;
          }) k c.args.place) (sym number)
          ∙ signal_measured (names_in c.args.setting c.args.scope.now) c.args.name.now c.args.place
          c.in-Some-Signal.known.width c.in-Some-Signal.known.signed there,
    )

pub returns-in-None-clause-broken : goal.returns-in-None-clause-broken
returns-in-None-clause-broken c =
    let there = stands_for c.args.setting c.args.scope.now c.args.name.now _ c.in-None.ensures in
    c.absent.ensures (asked (names_in c.args.setting c.args.scope.now) (is_constant c.args.setting)
    (named c.args.name.now c.args.place)).end
    (absent_asked (names_in c.args.setting c.args.scope.now) c.args.name.now c.args.place
    (is_constant c.args.setting) there
    (later_constant c.args.setting c.args.scope.now c.args.name.now))
