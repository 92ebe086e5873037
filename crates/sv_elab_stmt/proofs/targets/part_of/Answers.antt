use Rattle.std.proofs.Common.{◌≡◌, true, sym, ap}
use Rattle.std.specs.Prelude.{option_map}
use Rattle.sv_ast.specs.Instances.{is_signal}
use Rattle.sv_ast.specs.Views.{target_tree}
use Rattle.sv_elab_rules.specs.Targets.{target_steps}
use Rattle.sv_width.specs.Scopes.{names_of, bindings_of, binding_of, signal_number}
use Rattle.sv_elab_stmt.proofs.TargetFacts.{target_unknown, target_unselected, target_found}
use Rattle.sv_elab_stmt.proofs.WalkFacts.{handed_on}
use Rattle.sv_elab_stmt.proofs.targets.part_of.Goals as goal
use Rattle.sv_elab_stmt.proofs.targets.part_of.Goals.{In-Some-Signal}

-- the name that was found is a signal's
there : (c : In-Some-Signal) →
    is_signal (bindings_of c.args.scope.now c.args.target.now.name) ≡ true
there c =
    let h = rw c.in-Some-Signal.field-0-is at c.in-Some-Signal.ensures in
    ap (λ m. is_signal (option_map binding_of m)) (sym h)

pub returns-in_err-high-in-Some-Signal-clause-broken :
    goal.returns-in_err-high-in-Some-Signal-clause-broken
returns-in_err-high-in-Some-Signal-clause-broken c =
    let a = (goal.at.returns-in_err-high-in-Some-Signal-clause-broken c).In-Some-Signal in
    handed_on c.from_residual.result _ _ c.from_residual.ensures.1
    (target_unselected (names_of c.args.scope.now) (target_tree c.args.target.now)
    c.in_err-high-in-Some-Signal.field-0.0 (there a)
    c.in_err-high-in-Some-Signal.ensures.broken)

pub returns-in_ok-high-in-Some-Signal-clause-found :
    goal.returns-in_ok-high-in-Some-Signal-clause-found
returns-in_ok-high-in-Some-Signal-clause-found c =
    let a = (goal.at.returns-in_ok-high-in-Some-Signal-clause-found c).In-Some-Signal in
    let h = rw c.in-Some-Signal.field-0-is at c.in-Some-Signal.ensures in
    target_found (names_of c.args.scope.now) (target_tree c.args.target.now)
    c.in-Some-Signal.known.signal.0
    c.in_ok-high-in-Some-Signal.high c.in_ok-high-in-Some-Signal.low (there a)
    (ap signal_number h)
    c.in_ok-high-in-Some-Signal.ensures.found

pub returns-in-Some-Param-clause-broken : goal.returns-in-Some-Param-clause-broken
returns-in-Some-Param-clause-broken c =
    let names = names_of c.args.scope.now in
    let t = c.args.target.now in
    let h = rw c.in-Some-Param.field-0-is at c.in-Some-Param.ensures in
    c.unknown_name.ensures (target_steps names (target_tree t)).end
    (target_unknown names (target_tree t) (ap (λ m. is_signal (option_map binding_of m)) (sym h)))

pub returns-in-None-clause-broken : goal.returns-in-None-clause-broken
returns-in-None-clause-broken c =
    let names = names_of c.args.scope.now in
    let t = c.args.target.now in
    c.unknown_name-in-None.ensures (target_steps names (target_tree t)).end
    (target_unknown names (target_tree t)
    (ap (λ m. is_signal (option_map binding_of m)) (sym c.in-None.ensures)))
