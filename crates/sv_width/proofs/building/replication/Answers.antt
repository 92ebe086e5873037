use Rattle.std.proofs.Common.{◌≡◌, ℕ, ◌*◌, ◌/◌, ◌<◌, ◌≤◌, min, Bool, true, false, sym, ap, subst}
use Rattle.std.proofs.Common.{◌∙◌, arith}
use Rattle.std.specs.Prelude.{nat_le}
use Rattle.std.proofs.lemmas.Result.{err_from_is_err_and}
use Rattle.sv_num.specs.Vectors.{number_of}
use Rattle.sv_ast.specs.Values.{natural}
use Rattle.sv_ast.specs.Views.{expression_trees, parts_of as tree_parts}
use Rattle.sv_elab_rules.specs.Walks.{ask, ◌>>=◌}
use Rattle.sv_elab_rules.specs.Rules.{too_wide, bad_count}
use Rattle.sv_elab_rules.specs.ExpressionSteps.{is_count, sized_parts}
use Rattle.sv_width.specs.Measured as measured
use Rattle.sv_width.specs.Measured.{MeasuredTrees}
use Rattle.sv_width.specs.Outcomes.{some_named, replication_steps}
use Rattle.sv_width.specs.Pushed.{joined_width}
use Rattle.sv_width.specs.Views.{measured_trees, parts_of}
use Rattle.sv_width.proofs.Folds.{natural_or, too_many, product_few, few_parts, no_count}
use Rattle.sv_width.proofs.Measures.{breach_first, breach_after, passes_on}
use Rattle.sv_width.proofs.MRows.{row_parts-hidden}
use Rattle.sv_width.proofs.building.replication.Goals as goal
use Rattle.sv_width.proofs.building.replication.Goals.{After-from}

times_is : (c : After-from) → c.unwrap_or-times.result ≡ natural (number_of c.args.count)
times_is c =
    c.unwrap_or-times.ensures
    ∙ natural_or (number_of c.args.count) c.natural.result c.natural.ensures

abbrev parts_in : After-from → MeasuredTrees
parts_in c = parts_of (measured_trees c.args.operands.items)

width_is : (c : After-from) → c.joined_width-width.result ≡ min (joined_width (parts_in c)) 65
width_is c =
    c.joined_width-width.ensures
    ∙ ap (λ es. min (joined_width (parts_of (measured_trees es))) 65) c.deref.ensures.value

limit_is : (c : After-from) → c.from.result ≡ 64 / min (joined_width (parts_in c)) 65
limit_is c = c.from.ensures ∙ ap (λ w. 64 / w) (width_is c)

-- the length is a length
fits : (c : After-from) → c.unwrap_or-times.result ≤ c.from.result →
    nat_le (natural (number_of c.args.count) * joined_width (parts_in c)) 64 ≡ true
fits c few =
    ap (λ t. nat_le (t * joined_width (parts_in c)) 64) (sym (times_is c))
    ∙ product_few c.unwrap_or-times.result (joined_width (parts_in c)) c.requires
    (subst (λ m. c.unwrap_or-times.result ≤ m) (limit_is c) few)

pub returns-then-times-from-clause-broken : goal.returns-then-times-from-clause-broken
returns-then-times-from-clause-broken c =
    let a = (goal.at.returns-then-times-from-clause-broken c).After-from in
    let over = ap (λ t. nat_le (t * joined_width (parts_in a)) 64) (sym (times_is a))
    ∙ too_many c.unwrap_or-times.result (joined_width (parts_in a)) c.requires
    (subst (λ m. m < c.unwrap_or-times.result) (limit_is a) c.if-times-from.true) in
    c.refusal.ensures (replication_steps c.args.place c.args.at (number_of c.args.count)
    (tree_parts (expression_trees c.args.parts.now)) (parts_in a)).end
    (ap (λ (b : Bool). (ask b (too_wide c.args.place) >>= λ _.
    sized_parts (tree_parts (expression_trees c.args.parts.now)) >>= λ _.
    ask (is_count (number_of c.args.count)) (bad_count c.args.at)).end) over)

pub returns-in_err-sized_parts-clause-broken : goal.returns-in_err-sized_parts-clause-broken
returns-in_err-sized_parts-clause-broken c =
    let a = (goal.at.returns-in_err-sized_parts-clause-broken c).After-from in
    let p = err_from_is_err_and c.from_residual.result c.from_residual.ensures.1 in
    rw (p.1, p.2)
    (breach_after (ask (nat_le (natural (number_of c.args.count) * joined_width (parts_in a)) 64)
    (too_wide c.args.place)) _ tt _
    (ap (λ (b : Bool). (ask b (too_wide c.args.place)).end) (fits a c.if-times-from.false))
    (breach_first (sized_parts (tree_parts (expression_trees c.args.parts.now))) _ _
    c.in_err-sized_parts.ensures.broken))

pub returns-then-times-eq0-clause-broken : goal.returns-then-times-eq0-clause-broken
returns-then-times-eq0-clause-broken c =
    let a = (goal.at.returns-then-times-eq0-clause-broken c).After-from in
    c.refusal-then-times-eq0.ensures
    (replication_steps c.args.place c.args.at (number_of c.args.count)
    (tree_parts (expression_trees c.args.parts.now)) (parts_in a)).end
    (passes_on (ask (nat_le (natural (number_of c.args.count) * joined_width (parts_in a)) 64)
    (too_wide c.args.place)) _ _
    (ap (λ (b : Bool). (ask b (too_wide c.args.place)).end) (fits a c.if-times-from.false))
    (passes_on (sized_parts (tree_parts (expression_trees c.args.parts.now))) _ _
    c.in_ok-sized_parts.ensures.asked
    (ap (λ (b : Bool). (ask b (bad_count c.args.at)).end)
    (no_count (number_of c.args.count) (sym (times_is a) ∙ c.if-times-eq0.true)))))

pub returns-clause-found : goal.returns-clause-found
returns-clause-found c =
    let a = (goal.at.returns-clause-found c).After-from in
    let parts : MeasuredTrees = parts_in a in
    let T : ℕ = c.unwrap_or-times.result in
    let J : ℕ = c.joined_width-width.result in
    let N : Bool = c.some_named.result in
    let one : 1 ≤ T = omega (arith, c.if-times-eq0.false) in
    let width : J ≡ joined_width parts = width_is a
    ∙ few_parts T (joined_width parts) c.requires
    (subst (λ m. T ≤ m) (limit_is a) c.if-times-from.false) one in
    let named : N ≡ some_named parts =
    c.some_named.ensures
    ∙ ap (λ es. some_named (parts_of (measured_trees es))) c.deref-2.ensures.value in
    ap (λ (r : MeasuredTrees).
    measured.replication (record { width = T * J; signed = false; names_signal = N }) T r)
    (row_parts-hidden c.args.operands)
    ∙ ap (λ t. measured.replication (record { width = t * J; signed = false; names_signal = N }) t
    parts) (times_is a)
    ∙ ap (λ w. measured.replication (record {
      width = natural (number_of c.args.count) * w;
      signed = false;
      names_signal = N;
    }) (natural (number_of c.args.count)) parts) width
    ∙ ap (λ (b : Bool). measured.replication
    (record {
      width = natural (number_of c.args.count) * joined_width parts;
      signed = false;
      names_signal = b;
    }) (natural (number_of c.args.count)) parts) named
