use Rattle.std.proofs.Common.{◌≡◌, ◌+◌, ◌<◌, ◌≤◌, length, List, [], ◌∷◌, ◌++◌, drop, sym}
use Rattle.std.proofs.Common.{ap, ◌∙◌, arith}
use Rattle.std.specs.Prelude.{Err}
use Rattle.std.specs.Borrow.{Bor}
use Rattle.std.specs.List.{list_all}
use Rattle.std.proofs.lemmas.Result.{err_from_is_err_and}
use Rattle.sv_num.specs.declared.faults.Place.{Place}
use Rattle.sv_ast.specs.declared.declarations.Param.{Param}
use Rattle.sv_ast.specs.declared.expressions.Expr.{Expr}
use Rattle.sv_ast.specs.Instances.{open_parameters}
use Rattle.sv_ast.specs.Shape.{is_shaped_expression}
use Rattle.sv_ast.specs.Tree.{ParameterTree, ExpressionTree}
use Rattle.sv_ast.specs.Views.{expression_tree, expression_trees, parameter_tree, module_tree}
use Rattle.sv_elab_rules.specs.Rules.{overrides_over}
use Rattle.sv_elab_rules.specs.ExpressionSteps.{constant_walk}
use Rattle.sv_elab_rules.specs.Overrides.{ordered_walk}
use Rattle.sv_width.specs.Scopes.{names_of, number_of}
use Rattle.sv_width.proofs.Breaches.{breach_by}
use Rattle.sv_elab_decl.specs.Overridden.{parameter_trees}
use Rattle.sv_elab_decl.proofs.Faults.{breach_on}
use Rattle.sv_elab_decl.proofs.Lists.{left_more, left_none, all_parts}
use Rattle.sv_elab_decl.proofs.OverrideEnds.{ordered_none, ordered_over, ordered_stops, ordered_more}
use Rattle.sv_elab_decl.proofs.OverrideEnds.{set_alike}
use Rattle.sv_elab_decl.proofs.overriding.ordered.Goals as goal
use Rattle.sv_elab_decl.proofs.overriding.ordered.Goals.{After-index-param}

pub returns-then-index-len-clause-broken : goal.returns-then-index-len-clause-broken
returns-then-index-len-clause-broken c =
    let outer = names_of c.args.outer.now in
    let values = c.args.values.now in
    let free = c.in_ok-free.free.items in
    let i = c.loop-index.index in
    let value = c.index-values-index.result in
    let set = c.loop-index.invariant.walk.0 in
    let past : length free ≤ i = omega (arith, c.if-index-len.true, c.len.ensures) in
    breach_by c.refusal.result (overrides_over c.place.result) c.refusal.ensures
    (ordered_walk outer (open_parameters (module_tree c.args.master.now)) []
    (expression_trees values)).end
    (sym c.loop-index.invariant.walk.1
    ∙ ap (λ (ps : List (Bor Param)).
    (ordered_walk outer (parameter_trees ps) set (expression_trees (drop i values))).end)
    (left_none free i past)
    ∙ ap (λ (es : List Expr). (ordered_walk outer [] set (expression_trees es)).end)
    (left_more values i value c.loop-index-test.true c.index-values-index.is)
    ∙ ordered_over outer set (expression_tree value) (expression_trees (drop (i + 1) values))
    ∙ ap (λ (p : Place). Err (overrides_over p)) (sym c.place.ensures))

-- the parameter and the value at hand, and those behind them
abbrev param_at : After-index-param → ParameterTree
param_at c = parameter_tree c.index-param.result.now.now

abbrev free_at : After-index-param → List ParameterTree
free_at c = parameter_trees (drop (c.loop-index.index + 1) c.in_ok-free.free.items)

abbrev value_at : After-index-param → ExpressionTree
value_at c = expression_tree c.index-values-index.result

abbrev rest_at : After-index-param → List ExpressionTree
rest_at c = expression_trees (drop (c.loop-index.index + 1) c.args.values.now)

-- the walk has come to them
here : (c : After-index-param) →
    (ordered_walk (names_of c.args.outer.now) (open_parameters (module_tree c.args.master.now)) []
    (expression_trees c.args.values.now)).end
    ≡ (ordered_walk (names_of c.args.outer.now) (param_at c ∷ free_at c)
    c.loop-index.invariant.walk.0 (value_at c ∷ rest_at c)).end
here c =
    let outer = names_of c.args.outer.now in
    let values = c.args.values.now in
    let free = c.in_ok-free.free.items in
    let i = c.loop-index.index in
    let param = c.index-param.result.now in
    let set = c.loop-index.invariant.walk.0 in
    let within : i < length free = omega (arith, c.if-index-len.false, c.len.ensures) in
    sym c.loop-index.invariant.walk.1
    ∙ ap (λ (ps : List (Bor Param)).
    (ordered_walk outer (parameter_trees ps) set (expression_trees (drop i values))).end)
    (left_more free i param within c.index-param.ensures)
    ∙ ap (λ (es : List Expr).
    (ordered_walk outer (parameter_trees (param ∷ drop (i + 1) free)) set
    (expression_trees es)).end)
    (left_more values i c.index-values-index.result c.loop-index-test.true c.index-values-index.is)

pub returns-in_err-bits-clause-broken : goal.returns-in_err-bits-clause-broken
returns-in_err-bits-clause-broken c =
    let a = (goal.at.returns-in_err-bits-clause-broken c).After-index-param in
    let outer = names_of c.args.outer.now in
    let q = err_from_is_err_and c.from_residual-in_err-bits.result
    c.from_residual-in_err-bits.ensures.1 in
    rw (q.1, q.2)
    (breach_on c.in_err-bits.field-0.0 (constant_walk outer (value_at a)).end
    (ordered_walk outer (open_parameters (module_tree c.args.master.now)) []
    (expression_trees c.args.values.now)).end
    (λ s e. here a
    ∙ ordered_stops outer (param_at a) (free_at a) c.loop-index.invariant.walk.0 (value_at a)
    (rest_at a) s e) c.in_err-bits.ensures.broken)

pub loop-index-preserved : goal.loop-index-preserved
loop-index-preserved c =
    let a = (goal.at.loop-index-preserved c).After-index-param in
    let set = c.loop-index.invariant.walk.0 in
    let param = c.index-param.result.now in
    let bits = c.in_ok-bits.bits in
    let split = left_more c.args.values.now c.loop-index.index c.index-values-index.result
    c.loop-index-test.true c.index-values-index.is in
    record {
      walk = (
        set ++ (param.now.name, number_of bits) ∷ [],
        sym (ordered_more (names_of c.args.outer.now) (param_at a) (free_at a) set (value_at a)
            (rest_at a) (number_of bits) c.in_ok-bits.ensures.found)
            ∙ sym (here a),
        set_alike set c.loop-index.set.entries c.set_once.new.set.entries param.now.name bits
            c.loop-index.invariant.walk.2 c.in_ok-set_once.ensures,
      );
      shaped =
          (all_parts is_shaped_expression (value_at a) (rest_at a)
          (ap (λ (es : List Expr). list_all is_shaped_expression (expression_trees es)) (sym split)
          ∙ c.loop-index.invariant.shaped)).1;
    }

pub returns-clause-found : goal.returns-clause-found
returns-clause-found c =
    let outer = names_of c.args.outer.now in
    let values = c.args.values.now in
    let free = c.in_ok-free.free.items in
    let i = c.loop-index.index in
    let set = c.loop-index.invariant.walk.0 in (
      set,
      sym c.loop-index.invariant.walk.1
          ∙ ap (λ (es : List Expr).
          (ordered_walk outer (parameter_trees (drop i free)) set (expression_trees es)).end)
          (left_none values i c.loop-index-test.false)
          ∙ ordered_none outer (parameter_trees (drop i free)) set,
      c.loop-index.invariant.walk.2,
    )
