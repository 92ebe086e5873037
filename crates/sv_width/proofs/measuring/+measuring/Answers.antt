use Rattle.std.proofs.Common.{rules, ◌≡◌, ℕ, ◌+◌, Bool, true, false, drop, refl}
use Rattle.std.proofs.Common.{sym, ap, subst, ◌∙◌}
use Rattle.std.specs.Prelude.{◌&&◌, IsTrue, Result}
use Rattle.std.proofs.lemmas.Bool.{and_parts}
use Rattle.std.proofs.lemmas.List.{map_push}
use Rattle.std.proofs.lemmas.Result.{err_from_is_err_and}
use Rattle.sv_system.proofs.Fronts.{before, before_push, before_end}
use Rattle.sv_num.specs.declared.faults.Fault.{Fault}
use Rattle.sv_num.specs.declared.faults.Place.{Place}
use Rattle.sv_num.specs.declared.vectors.Bits.{Bits}
use Rattle.sv_num.specs.Vectors.{as_number, number_of as whole_of}
use Rattle.sv_ast.specs.declared.expressions.Expr.{Expr, the_lemmas}
use Rattle.sv_ast.specs.declared.expressions.Expr.TheBlock.{hidden-the_row-Expr-0}
use Rattle.sv_ast.specs.Scopes.{Number}
use Rattle.sv_ast.specs.Tree.{ExpressionTree, ExpressionTrees, join, replication}
use Rattle.sv_ast.specs.Values.{length_of, joined_length, signed_of}
use Rattle.sv_elab_rules.specs.TypedExpressions.{names_signal, some_names_signal}
use Rattle.sv_ast.specs.Shape.{is_shaped_expression, are_shaped_parts, has_part}
use Rattle.sv_ast.specs.Views.{expression_tree, expression_trees, row_parts, parts_of}
use Rattle.sv_ast.specs.GrammarModules.{place_of}
use Rattle.sv_elab_rules.specs.Walks.{WalkStep, ask}
use Rattle.sv_elab_rules.specs.Rules.{bad_select}
use Rattle.sv_elab_rules.specs.Names.{Names}
use Rattle.sv_elab_rules.specs.ExpressionSteps.{asked, asked_parts, own_divisors, is_below}
use Rattle.sv_width.specs.declared.lookups.Reach.{Reach}
use Rattle.sv_width.specs.declared.lookups.Setting.{Setting}
use Rattle.sv_width.specs.declared.lookups.Setting.TheVariants.{Open, Constant}
use Rattle.sv_width.specs.declared.measured.Measured.{Measured}
use Rattle.sv_width.specs.Answers.{IsBreach}
use Rattle.sv_width.specs.Scopes.{Known, names_of}
use Rattle.sv_width.specs.Settings.{names_in, reach_names, is_constant}
use Rattle.sv_width.specs.Measured as measured
use Rattle.sv_width.specs.Measured.{MeasuredTree, more_parts, own_form, measured_of}
use Rattle.sv_width.specs.Measured.{measured_parts}
use Rattle.sv_width.specs.Outcomes.{binary_own, replication_steps, IsMeasure}
use Rattle.sv_width.specs.Pushed.{divisors_of}
use Rattle.sv_width.specs.Outcomes.{IsFolded, IsValue, constant_steps}
use Rattle.sv_width.specs.Outcomes.{constant_index_steps}
use Rattle.sv_width.specs.Views.{measured_tree, measured_trees, parts_of as measured_row}
use Rattle.sv_width.proofs.Breaches.{ok_both, ok_weaker, err_weaker}
use Rattle.sv_width.proofs.Rest.{row_at, parts_split, parts_done}
use Rattle.sv_width.proofs.Arms.{unary_broken, Found, bit_found, bit_broken, part_high_broken}
use Rattle.sv_width.proofs.Arms.{part_low_broken, part_broken, part_found, unary_found}
use Rattle.sv_width.proofs.Arms.{binary_found, binary_left_broken, binary_right_broken}
use Rattle.sv_width.proofs.Arms.{binary_broken, choice_found, choice_first_broken}
use Rattle.sv_width.proofs.Arms.{choice_second_broken, choice_third_broken, join_found}
use Rattle.sv_width.proofs.Arms.{join_parts_broken, join_broken, count_broken}
use Rattle.sv_width.proofs.Arms.{repeated_parts_broken, replication_found, replication_broken}
use Rattle.sv_width.proofs.Measures.{breach_first, breach_after, passes_on, bit_refused}
use Rattle.sv_width.proofs.Measures.{part_refused}
use Rattle.sv_width.proofs.Ends.{some_width, replication_shape, expression_lengths, list_lengths}
use Rattle.sv_width.proofs.Ends.{setting_lengths, setting_known, own_divisors_at, value_at_own}
use Rattle.sv_width.proofs.measuring.+measuring.Goals as goal

breach_at : (names : Names) (c : Bool) (e d : Expr) (f : Fault) → e ≡ d
    → IsBreach (asked names c (expression_tree d)).end f
    → IsBreach (asked names c (expression_tree e)).end f
breach_at names c e d f is h =
    subst (λ (x : Expr). IsBreach (asked names c (expression_tree x)).end f) (sym is) h

found_at : (names : Names) (c : Bool) (e d : Expr) (m : Measured) → e ≡ d
    → Found names c (expression_tree d) (measured_tree m)
    → IsMeasure names c (expression_tree e) m
found_at names c e d m is h =
    subst (λ (x : Expr). IsMeasure names c (expression_tree x) m) (sym is) h

open_breach : (r : Reach) (e : ExpressionTree) (f : Fault) → r.setting ≡ Open
    → IsBreach (asked (names_of r.scope.now) false e).end f
    → IsBreach (asked (reach_names r) (is_constant r.setting) e).end f
open_breach r e f is h =
    subst (λ (x : Setting).
    IsBreach (asked (names_in x r.scope.now) (is_constant x) e).end f) (sym is) h

open_found : (r : Reach) (e : ExpressionTree) (t : MeasuredTree) → r.setting ≡ Open
    → Found (names_of r.scope.now) false e t
    → Found (reach_names r) (is_constant r.setting) e t
open_found r e t is h =
    subst (λ (x : Setting). Found (names_in x r.scope.now) (is_constant x) e t) (sym is) h

value_in : (r : Reach) (e : ExpressionTree) (bits : Bits) → r.setting ≡ Open →
    IsValue (reach_names r) e bits → IsValue (names_of r.scope.now) e bits
value_in r e bits is h = subst (λ (x : Setting). IsValue (names_in x r.scope.now) e bits) is h

steps_in : (r : Reach) (e : ExpressionTree) (f : Fault) → r.setting ≡ Open
    → IsBreach (constant_steps (reach_names r) e).end f
    → IsBreach (constant_steps (names_of r.scope.now) e).end f
steps_in r e f is h =
    subst (λ (x : Setting). IsBreach (constant_steps (names_in x r.scope.now) e).end f) is h

-- a constant at its own length and signedness: what it asks of divisors, and its value
module _ (setting : Setting) (known : Known) (e : Expr)
    (shaped : IsTrue (is_shaped_expression (expression_tree e))) (m : Measured)
    (found : IsMeasure (names_in setting known) true (expression_tree e) m) (n : ℕ) (s : Bool)
    (width : n ≡ (own_form (measured_tree m)).width)
    (signed : s ≡ (own_form (measured_tree m)).signed) where
  constant_divisors : (divisors_of (measured_tree m) n s).end
      ≡ (own_divisors (names_in setting known).scope (expression_tree e)).end
  constant_divisors =
      own_divisors_at (names_in setting known) (setting_lengths setting known) true (λ no.
      absurd (cc no)) (expression_tree e) shaped (expression_lengths e) found.0 (measured_tree m)
      found.1 n s width signed

  constant_value : (bits : Bits) → IsFolded (measured_tree m) n s bits
      → IsValue (names_in setting known) (expression_tree e) bits
  constant_value bits folded = (
    found.0,
    sym constant_divisors ∙ folded.0,
    value_at_own (names_in setting known) (setting_lengths setting known) true (λ no.
        absurd (cc no)) (expression_tree e) shaped (expression_lengths e) found.0 (measured_tree m)
        found.1 n s bits width signed folded,
  )

  constant_broken : (f : Fault) → IsBreach (divisors_of (measured_tree m) n s).end f
      → IsBreach (constant_steps (names_in setting known) (expression_tree e)).end f
  constant_broken f h =
      breach_after (asked (names_in setting known) true (expression_tree e)) _ tt f found.0
      (subst (λ (r : Result (Unit {0}) WalkStep). IsBreach r f) constant_divisors h)

-- an index is asked where its value lies
index_asked : (known : Known) (e : Expr) (width : ℕ) (bits : Bits) (is : Bool)
    → IsValue (names_of known) (expression_tree e) bits
    → is ≡ is_below width (whole_of bits)
    → (constant_index_steps (names_of known) width (expression_tree e)).end
    ≡ (ask is (bad_select (place_of (expression_tree e)))).end
index_asked known e width bits is value below =
    passes_on (asked (names_of known) true (expression_tree e)) _ _ value.0
    (passes_on (own_divisors (names_of known).scope (expression_tree e)) _ _ value.1
    (ap (λ (b : Bool). (ask b (bad_select (place_of (expression_tree e)))).end)
    (sym (below ∙ ap (λ (z : Number). is_below width (as_number z.width z.signed z.value))
    value.2))))

pub measured-returns-in-Number-clause-found : goal.measured-returns-in-Number-clause-found
unfolding asked asked_parts measured_of measured_parts length_of joined_length signed_of
    names_signal
    some_names_signal
measured-returns-in-Number-clause-found t c =
    found_at (reach_names c.args.reach.now) (is_constant c.args.reach.now.setting) c.args.expr.now
    _ c.value.result c.in-Number.is (refl, c.value.ensures)

pub measured-measured_join-requires : goal.measured-measured_join-requires
measured-measured_join-requires t c =
    let rows = row_at c.in-Join.parts c.deref-in-Join.result.now c.deref-in-Join.ensures.value in
    let both = and_parts (has_part (row_parts (hidden-the_row-Expr-0 c.in-Join.parts)))
    (are_shaped_parts (row_parts (hidden-the_row-Expr-0 c.in-Join.parts)))
    (subst (λ (e : Expr). IsTrue (is_shaped_expression (expression_tree e))) c.in-Join.is
    c.requires) in (
      search (rules, the_lemmas),
      (
        subst (λ es. IsTrue (has_part es)) (sym rows) both.0,
        subst (λ es.
            IsTrue (are_shaped_parts es)) (sym rows) both.1,
      ),
    )

pub measured-returns-in-Join-clause-found : goal.measured-returns-in-Join-clause-found
measured-returns-in-Join-clause-found t c =
    ok_weaker c.measured_join.result _ _ (λ m h.
    found_at (reach_names c.args.reach.now) (is_constant c.args.reach.now.setting)
    c.args.expr.now _ m c.in-Join.is
    (subst (λ es. Found (reach_names c.args.reach.now) (is_constant c.args.reach.now.setting)
    (join c.in-Join.place es) (measured_tree m))
    (row_at c.in-Join.parts c.deref-in-Join.result.now c.deref-in-Join.ensures.value) h))
    c.measured_join.ensures.found

pub measured-returns-in-Join-clause-broken : goal.measured-returns-in-Join-clause-broken
measured-returns-in-Join-clause-broken t c =
    err_weaker c.measured_join.result _ _ (λ f h.
    breach_at (reach_names c.args.reach.now) (is_constant c.args.reach.now.setting)
    c.args.expr.now _ f c.in-Join.is
    (subst (λ es. IsBreach
    (asked (reach_names c.args.reach.now) (is_constant c.args.reach.now.setting)
    (join c.in-Join.place es)).end f)
    (row_at c.in-Join.parts c.deref-in-Join.result.now c.deref-in-Join.ensures.value) h))
    c.measured_join.ensures.broken

pub measured-measured_replication-requires : goal.measured-measured_replication-requires
measured-measured_replication-requires t c =
    let rows = row_at c.in-Repeat.parts c.deref-in-Repeat-2.result.now
    c.deref-in-Repeat-2.ensures.value in
    let shape = subst (λ (e : Expr).
    IsTrue (is_shaped_expression (expression_tree e))) c.in-Repeat.is c.requires in
    let both = replication_shape c.in-Repeat.place (expression_tree c.in-Repeat.count.value)
    (row_parts (hidden-the_row-Expr-0 c.in-Repeat.parts)) shape in
    let count = (and_parts (is_shaped_expression (expression_tree c.in-Repeat.count.value))
    (has_part (row_parts (hidden-the_row-Expr-0 c.in-Repeat.parts)))
    (and_parts (is_shaped_expression (expression_tree c.in-Repeat.count.value)
    && has_part (row_parts (hidden-the_row-Expr-0 c.in-Repeat.parts)))
    (are_shaped_parts (row_parts (hidden-the_row-Expr-0 c.in-Repeat.parts))) shape).0).0 in (
      search (rules, the_lemmas),
      (
        subst (λ (e : Expr).
            IsTrue (is_shaped_expression (expression_tree e)))
            (sym c.deref-in-Repeat.ensures) count,
        (
          subst (λ es. IsTrue (has_part es)) (sym rows) both.0,
          subst (λ es.
              IsTrue (are_shaped_parts es)) (sym rows) both.1,
        ),
      ),
    )

pub measured-returns-in-Repeat-clause-found : goal.measured-returns-in-Repeat-clause-found
measured-returns-in-Repeat-clause-found t c =
    ok_weaker c.measured_replication.result _ _ (λ m h.
    found_at (reach_names c.args.reach.now) (is_constant c.args.reach.now.setting)
    c.args.expr.now _ m c.in-Repeat.is
    (subst (λ es. Found (reach_names c.args.reach.now) (is_constant c.args.reach.now.setting)
    (replication c.in-Repeat.place (expression_tree c.in-Repeat.count.value) es)
    (measured_tree m)) (row_at c.in-Repeat.parts c.deref-in-Repeat-2.result.now
    c.deref-in-Repeat-2.ensures.value)
    (subst (λ (x : Expr).
    Found (reach_names c.args.reach.now) (is_constant c.args.reach.now.setting)
    (replication c.in-Repeat.place (expression_tree x)
    (parts_of (expression_trees c.deref-in-Repeat-2.result.now))) (measured_tree m))
    c.deref-in-Repeat.ensures h))) c.measured_replication.ensures.found

pub measured-returns-in-Repeat-clause-broken : goal.measured-returns-in-Repeat-clause-broken
measured-returns-in-Repeat-clause-broken t c =
    err_weaker c.measured_replication.result _ _ (λ f h.
    breach_at (reach_names c.args.reach.now) (is_constant c.args.reach.now.setting)
    c.args.expr.now _ f c.in-Repeat.is
    (subst (λ es. IsBreach
    (asked (reach_names c.args.reach.now) (is_constant c.args.reach.now.setting)
    (replication c.in-Repeat.place (expression_tree c.in-Repeat.count.value) es)).end f)
    (row_at c.in-Repeat.parts c.deref-in-Repeat-2.result.now c.deref-in-Repeat-2.ensures.value)
    (subst (λ (x : Expr).
    IsBreach (asked (reach_names c.args.reach.now) (is_constant c.args.reach.now.setting)
    (replication c.in-Repeat.place (expression_tree x)
    (parts_of (expression_trees c.deref-in-Repeat-2.result.now)))).end f)
    c.deref-in-Repeat.ensures h))) c.measured_replication.ensures.broken

pub measured_bit-returns-in_err-known-clause-broken :
    goal.measured_bit-returns-in_err-known-clause-broken
measured_bit-returns-in_err-known-clause-broken t c =
    let p = err_from_is_err_and c.from_residual.result c.from_residual.ensures.1 in
    rw (p.1, p.2)
    (bit_refused (reach_names c.args.reach.now) (is_constant c.args.reach.now.setting)
    c.args.name.now c.args.place (expression_tree c.args.index.now) c.in_err-known.field-0.0
    c.in_err-known.ensures.broken)

pub measured_bit-returns-in_err-index-clause-broken :
    goal.measured_bit-returns-in_err-index-clause-broken
measured_bit-returns-in_err-index-clause-broken t c =
    let p = err_from_is_err_and c.from_residual-in_err-index.result
    c.from_residual-in_err-index.ensures.1 in
    rw (p.1, p.2)
    (open_breach c.args.reach.now _ c.in_err-index.field-0.0
    c.in_ok-known.ensures.open
    (bit_broken c.args.reach.now.scope.now c.args.name.now c.args.place c.in_ok-known.known
    c.in_ok-known.ensures.found (expression_tree c.args.index.now) c.in_err-index.field-0.0
    c.in_err-index.ensures.broken))

pub measured_bit-returns-clause-found : goal.measured_bit-returns-clause-found
measured_bit-returns-clause-found t c =
    open_found c.args.reach.now _ _ c.in_ok-known.ensures.open
    (bit_found c.args.reach.now.scope.now c.args.name.now c.args.place c.in_ok-known.known
    c.in_ok-known.ensures.found (expression_tree c.args.index.now)
    (measured_tree c.in_ok-index.index) _
    c.in_ok-index.ensures.asked c.in_ok-index.ensures.found c.in_ok-bit.ensures.found)

pub measured_part-returns-in_err-known-clause-broken :
    goal.measured_part-returns-in_err-known-clause-broken
measured_part-returns-in_err-known-clause-broken t c =
    let p = err_from_is_err_and c.from_residual.result c.from_residual.ensures.1 in
    rw (p.1, p.2)
    (part_refused (reach_names c.args.reach.now) (is_constant c.args.reach.now.setting)
    c.args.name.now c.args.place (expression_tree c.args.high.now)
    (expression_tree c.args.low.now) c.in_err-known.field-0.0 c.in_err-known.ensures.broken)

pub measured_part-returns-in_err-high-clause-broken :
    goal.measured_part-returns-in_err-high-clause-broken
measured_part-returns-in_err-high-clause-broken t c =
    let p = err_from_is_err_and c.from_residual-in_err-high.result
    c.from_residual-in_err-high.ensures.1 in
    rw (p.1, p.2)
    (open_breach c.args.reach.now _ c.in_err-high.field-0.0
    c.in_ok-known.ensures.open
    (part_high_broken c.args.reach.now.scope.now c.args.name.now c.args.place c.in_ok-known.known
    c.in_ok-known.ensures.found (expression_tree c.args.high.now)
    (expression_tree c.args.low.now) c.in_err-high.field-0.0
    (steps_in c.args.reach.now _ c.in_err-high.field-0.0 c.in_ok-known.ensures.open
    c.in_err-high.ensures.broken)))

pub measured_part-returns-in_err-low-clause-broken :
    goal.measured_part-returns-in_err-low-clause-broken
measured_part-returns-in_err-low-clause-broken t c =
    let p = err_from_is_err_and c.from_residual-in_err-low.result
    c.from_residual-in_err-low.ensures.1 in
    rw (p.1, p.2)
    (open_breach c.args.reach.now _ c.in_err-low.field-0.0 c.in_ok-known.ensures.open
    (part_low_broken c.args.reach.now.scope.now c.args.name.now c.args.place c.in_ok-known.known
    c.in_ok-known.ensures.found (expression_tree c.args.high.now)
    (expression_tree c.args.low.now) c.in_ok-high.high c.in_err-low.field-0.0
    (value_in c.args.reach.now _ c.in_ok-high.high c.in_ok-known.ensures.open
    c.in_ok-high.ensures.found)
    (steps_in c.args.reach.now _ c.in_err-low.field-0.0 c.in_ok-known.ensures.open
    c.in_err-low.ensures.broken)))

pub measured_part-returns-clause-found : goal.measured_part-returns-clause-found
measured_part-returns-clause-found t c =
    ok_both c.part.result _ _ _ (λ inside m made.
    open_found c.args.reach.now _ _ c.in_ok-known.ensures.open
    (part_found c.args.reach.now.scope.now c.args.name.now c.args.place c.in_ok-known.known
    c.in_ok-known.ensures.found (expression_tree c.args.high.now)
    (expression_tree c.args.low.now) c.in_ok-high.high c.in_ok-low.low (measured_tree m)
    (value_in c.args.reach.now _ c.in_ok-high.high c.in_ok-known.ensures.open
    c.in_ok-high.ensures.found)
    (value_in c.args.reach.now _ c.in_ok-low.low c.in_ok-known.ensures.open
    c.in_ok-low.ensures.found) inside made)) c.part.ensures.asked c.part.ensures.found

pub measured_part-returns-clause-broken : goal.measured_part-returns-clause-broken
measured_part-returns-clause-broken t c =
    err_weaker c.part.result _ _ (λ f h.
    open_breach c.args.reach.now _ f c.in_ok-known.ensures.open
    (part_broken c.args.reach.now.scope.now c.args.name.now c.args.place c.in_ok-known.known
    c.in_ok-known.ensures.found (expression_tree c.args.high.now)
    (expression_tree c.args.low.now) c.in_ok-high.high c.in_ok-low.low f
    (value_in c.args.reach.now _ c.in_ok-high.high c.in_ok-known.ensures.open
    c.in_ok-high.ensures.found)
    (value_in c.args.reach.now _ c.in_ok-low.low c.in_ok-known.ensures.open
    c.in_ok-low.ensures.found) h)) c.part.ensures.broken

pub measured_unary-returns-in_err-operand-clause-broken :
    goal.measured_unary-returns-in_err-operand-clause-broken
measured_unary-returns-in_err-operand-clause-broken t c =
    let p = err_from_is_err_and c.from_residual.result c.from_residual.ensures.1 in
    rw (p.1, p.2)
    (unary_broken (reach_names c.args.reach.now) (is_constant c.args.reach.now.setting) c.args.op
    c.args.place (expression_tree c.args.operand.now) c.in_err-operand.field-0.0
    c.in_err-operand.ensures.broken)

pub measured_unary-returns-clause-found : goal.measured_unary-returns-clause-found
measured_unary-returns-clause-found t c =
    unary_found (reach_names c.args.reach.now) (is_constant c.args.reach.now.setting) c.args.op
    c.args.place (expression_tree c.args.operand.now) (measured_tree c.in_ok-operand.operand) _
    c.in_ok-operand.ensures.found c.in_ok-unary.ensures.found

pub measured_binary-returns-in_err-left-clause-broken :
    goal.measured_binary-returns-in_err-left-clause-broken
measured_binary-returns-in_err-left-clause-broken t c =
    let p = err_from_is_err_and c.from_residual.result c.from_residual.ensures.1 in
    rw (p.1, p.2)
    (binary_left_broken (reach_names c.args.reach.now) (is_constant c.args.reach.now.setting)
    c.args.op c.args.place (expression_tree c.args.left.now) (expression_tree c.args.right.now)
    c.in_err-left.field-0.0 c.in_err-left.ensures.broken)

pub measured_binary-returns-in_err-right-clause-broken :
    goal.measured_binary-returns-in_err-right-clause-broken
measured_binary-returns-in_err-right-clause-broken t c =
    let p = err_from_is_err_and c.from_residual-in_err-right.result
    c.from_residual-in_err-right.ensures.1 in
    rw (p.1, p.2)
    (binary_right_broken (reach_names c.args.reach.now) (is_constant c.args.reach.now.setting)
    c.args.op c.args.place (expression_tree c.args.left.now) (expression_tree c.args.right.now)
    c.in_err-right.field-0.0
    c.in_ok-left.ensures.found.0 c.in_err-right.ensures.broken)

pub measured_binary-returns-clause-found : goal.measured_binary-returns-clause-found
measured_binary-returns-clause-found t c =
    ok_both c.binary.result _ _ _ (λ passes m made.
    binary_found (reach_names c.args.reach.now) (is_constant c.args.reach.now.setting)
    c.args.op c.args.place (expression_tree c.args.left.now) (expression_tree c.args.right.now)
    (measured_tree c.in_ok-left.left) (measured_tree c.in_ok-right.right) (measured_tree m)
    c.in_ok-left.ensures.found c.in_ok-right.ensures.found passes
    (made ∙ ap (λ (x : Place).
    measured.binary (binary_own c.args.op (measured_tree c.in_ok-left.left)
    (measured_tree c.in_ok-right.right)) c.args.op x (measured_tree c.in_ok-left.left)
    (measured_tree c.in_ok-right.right)) c.place-after.ensures)) c.binary.ensures.asked
    c.binary.ensures.found

pub measured_binary-returns-clause-broken : goal.measured_binary-returns-clause-broken
measured_binary-returns-clause-broken t c =
    err_weaker c.binary.result _ _ (λ f h.
    binary_broken (reach_names c.args.reach.now) (is_constant c.args.reach.now.setting)
    c.args.op c.args.place (expression_tree c.args.left.now) (expression_tree c.args.right.now)
    (measured_tree c.in_ok-left.left) (measured_tree c.in_ok-right.right) f
    c.in_ok-left.ensures.found c.in_ok-right.ensures.found h) c.binary.ensures.broken

pub measured_choice-returns-in_err-cond-clause-broken :
    goal.measured_choice-returns-in_err-cond-clause-broken
measured_choice-returns-in_err-cond-clause-broken t c =
    let p = err_from_is_err_and c.from_residual.result c.from_residual.ensures.1 in
    rw (p.1, p.2)
    (choice_first_broken (reach_names c.args.reach.now) (is_constant c.args.reach.now.setting)
    c.args.place (expression_tree c.args.cond.now) (expression_tree c.args.yes.now)
    (expression_tree c.args.no.now) c.in_err-cond.field-0.0 c.in_err-cond.ensures.broken)

pub measured_choice-returns-in_err-yes-clause-broken :
    goal.measured_choice-returns-in_err-yes-clause-broken
measured_choice-returns-in_err-yes-clause-broken t c =
    let p = err_from_is_err_and c.from_residual-in_err-yes.result
    c.from_residual-in_err-yes.ensures.1 in
    rw (p.1, p.2)
    (choice_second_broken (reach_names c.args.reach.now) (is_constant c.args.reach.now.setting)
    c.args.place (expression_tree c.args.cond.now) (expression_tree c.args.yes.now)
    (expression_tree c.args.no.now) c.in_err-yes.field-0.0
    c.in_ok-cond.ensures.found.0 c.in_err-yes.ensures.broken)

pub measured_choice-returns-in_err-no-clause-broken :
    goal.measured_choice-returns-in_err-no-clause-broken
measured_choice-returns-in_err-no-clause-broken t c =
    let p = err_from_is_err_and c.from_residual-in_err-no.result
    c.from_residual-in_err-no.ensures.1 in
    rw (p.1, p.2)
    (choice_third_broken (reach_names c.args.reach.now) (is_constant c.args.reach.now.setting)
    c.args.place (expression_tree c.args.cond.now) (expression_tree c.args.yes.now)
    (expression_tree c.args.no.now) c.in_err-no.field-0.0
    c.in_ok-cond.ensures.found.0 c.in_ok-yes.ensures.found.0 c.in_err-no.ensures.broken)

pub measured_choice-returns-clause-found : goal.measured_choice-returns-clause-found
measured_choice-returns-clause-found t c =
    choice_found (reach_names c.args.reach.now) (is_constant c.args.reach.now.setting)
    c.args.place (expression_tree c.args.cond.now) (expression_tree c.args.yes.now)
    (expression_tree c.args.no.now)
    (measured_tree c.in_ok-cond.cond) (measured_tree c.in_ok-yes.yes)
    (measured_tree c.in_ok-no.no) _
    c.in_ok-cond.ensures.found c.in_ok-yes.ensures.found c.in_ok-no.ensures.found
    c.in_ok-choice.ensures.found

pub measured_join-join-requires : goal.measured_join-join-requires
measured_join-join-requires t c =
    some_width (reach_names c.args.reach.now)
    (setting_lengths c.args.reach.now.setting c.args.reach.now.scope.now)
    (is_constant c.args.reach.now.setting)
    (setting_known c.args.reach.now.setting c.args.reach.now.scope.now)
    (parts_of (expression_trees c.args.parts.now))
    (measured_row (measured_trees c.in_ok-operands.operands.items))
    c.in_ok-operands.ensures.found.0 c.in_ok-operands.ensures.found.1 c.requires.some
    c.requires.shaped (list_lengths c.args.parts.now)

pub measured_join-returns-in_err-operands-clause-broken :
    goal.measured_join-returns-in_err-operands-clause-broken
measured_join-returns-in_err-operands-clause-broken t c =
    let p = err_from_is_err_and c.from_residual.result c.from_residual.ensures.1 in
    rw (p.1, p.2)
    (join_parts_broken (reach_names c.args.reach.now) (is_constant c.args.reach.now.setting)
    c.args.place (parts_of (expression_trees c.args.parts.now)) c.in_err-operands.field-0.0
    c.in_err-operands.ensures.broken)

pub measured_join-returns-clause-found : goal.measured_join-returns-clause-found
measured_join-returns-clause-found t c =
    ok_both c.join.result _ _ _ (λ passes m made.
    join_found (reach_names c.args.reach.now) (is_constant c.args.reach.now.setting)
    c.args.place (parts_of (expression_trees c.args.parts.now))
    (measured_row (measured_trees c.in_ok-operands.operands.items)) (measured_tree m)
    c.in_ok-operands.ensures.found.0 c.in_ok-operands.ensures.found.1 passes made)
    c.join.ensures.asked c.join.ensures.found

pub measured_join-returns-clause-broken : goal.measured_join-returns-clause-broken
measured_join-returns-clause-broken t c =
    err_weaker c.join.result _ _ (λ f h.
    join_broken (reach_names c.args.reach.now) (is_constant c.args.reach.now.setting)
    c.args.place (parts_of (expression_trees c.args.parts.now))
    (measured_row (measured_trees c.in_ok-operands.operands.items)) f
    c.in_ok-operands.ensures.found.0 c.in_ok-operands.ensures.found.1 h) c.join.ensures.broken

pub measured_replication-returns-in_err-count-clause-broken :
    goal.measured_replication-returns-in_err-count-clause-broken
measured_replication-returns-in_err-count-clause-broken t c =
    let p = err_from_is_err_and c.from_residual.result c.from_residual.ensures.1 in
    rw (p.1, p.2)
    (count_broken (reach_names c.args.reach.now) (is_constant c.args.reach.now.setting)
    c.args.place (expression_tree c.args.count.now)
    (parts_of (expression_trees c.args.parts.now)) c.in_err-count.field-0.0
    c.in_err-count.ensures.broken)

pub measured_replication-returns-in_err-operands-clause-broken :
    goal.measured_replication-returns-in_err-operands-clause-broken
measured_replication-returns-in_err-operands-clause-broken t c =
    let p = err_from_is_err_and c.from_residual-in_err-operands.result
    c.from_residual-in_err-operands.ensures.1 in
    rw (p.1, p.2)
    (repeated_parts_broken (reach_names c.args.reach.now) (is_constant c.args.reach.now.setting)
    c.args.place (expression_tree c.args.count.now)
    (parts_of (expression_trees c.args.parts.now)) c.in_ok-count.count
    c.in_err-operands.field-0.0
    c.in_ok-count.ensures.found c.in_err-operands.ensures.broken)

pub measured_replication-replication-requires : goal.measured_replication-replication-requires
measured_replication-replication-requires t c =
    some_width (reach_names c.args.reach.now)
    (setting_lengths c.args.reach.now.setting c.args.reach.now.scope.now)
    (is_constant c.args.reach.now.setting)
    (setting_known c.args.reach.now.setting c.args.reach.now.scope.now)
    (parts_of (expression_trees c.args.parts.now))
    (measured_row (measured_trees c.in_ok-operands.operands.items))
    c.in_ok-operands.ensures.found.0 c.in_ok-operands.ensures.found.1 c.requires.some
    c.requires.shaped (list_lengths c.args.parts.now)

pub measured_replication-returns-clause-found : goal.measured_replication-returns-clause-found
measured_replication-returns-clause-found t c =
    ok_both c.replication.result _ _ _ (λ passes m made.
    replication_found (reach_names c.args.reach.now) (is_constant c.args.reach.now.setting)
    c.args.place (expression_tree c.args.count.now)
    (parts_of (expression_trees c.args.parts.now)) c.in_ok-count.count
    (measured_row (measured_trees c.in_ok-operands.operands.items)) (measured_tree m)
    c.in_ok-count.ensures.found c.in_ok-operands.ensures.found.0 c.in_ok-operands.ensures.found.1
    (sym (ap (λ (x : Place).
    (replication_steps c.args.place x (whole_of c.in_ok-count.count)
    (parts_of (expression_trees c.args.parts.now))
    (measured_row (measured_trees c.in_ok-operands.operands.items))).end) c.place-at.ensures)
    ∙ passes) made) c.replication.ensures.asked c.replication.ensures.found

pub measured_replication-returns-clause-broken : goal.measured_replication-returns-clause-broken
measured_replication-returns-clause-broken t c =
    err_weaker c.replication.result _ _ (λ f h.
    replication_broken (reach_names c.args.reach.now) (is_constant c.args.reach.now.setting)
    c.args.place (expression_tree c.args.count.now)
    (parts_of (expression_trees c.args.parts.now)) c.in_ok-count.count
    (measured_row (measured_trees c.in_ok-operands.operands.items)) f
    c.in_ok-count.ensures.found c.in_ok-operands.ensures.found.0 c.in_ok-operands.ensures.found.1
    (subst (λ (r : Result (Unit {0}) WalkStep).
    IsBreach r f) (ap (λ (x : Place).
    (replication_steps c.args.place x (whole_of c.in_ok-count.count)
    (parts_of (expression_trees c.args.parts.now))
    (measured_row (measured_trees c.in_ok-operands.operands.items))).end) c.place-at.ensures)
    h)) c.replication.ensures.broken

pub constant_index-returns-in_err-bits-clause-broken :
    goal.constant_index-returns-in_err-bits-clause-broken
constant_index-returns-in_err-bits-clause-broken t c =
    let p = err_from_is_err_and c.from_residual-in_err-bits.result
    c.from_residual-in_err-bits.ensures.1 in
    rw (p.1, p.2)
    (breach_after (asked (names_of c.args.scope.now) true (expression_tree c.args.index.now)) _ tt
    c.in_err-bits.field-0.0 c.in_ok-operand.ensures.found.0
    (breach_first (own_divisors (names_of c.args.scope.now).scope
    (expression_tree c.args.index.now)) _ c.in_err-bits.field-0.0
    (subst (λ (r : Result (Unit {0}) WalkStep). IsBreach r c.in_err-bits.field-0.0)
    (constant_divisors Constant c.args.scope.now c.args.index.now c.requires
    c.in_ok-operand.operand c.in_ok-operand.ensures.found c.own_type.result.width
    c.own_type.result.signed c.own_type.ensures.width c.own_type.ensures.signed)
    c.in_err-bits.ensures.broken)))

pub constant_index-returns-then-is_below-clause-asked :
    goal.constant_index-returns-then-is_below-clause-asked
constant_index-returns-then-is_below-clause-asked t c =
    index_asked c.args.scope.now c.args.index.now c.args.width c.in_ok-bits.bits true
    (constant_value Constant c.args.scope.now c.args.index.now c.requires c.in_ok-operand.operand
    c.in_ok-operand.ensures.found c.own_type.result.width c.own_type.result.signed
    c.own_type.ensures.width c.own_type.ensures.signed c.in_ok-bits.bits c.in_ok-bits.ensures.found)
    (sym c.if-is_below.true ∙ c.is_below.ensures)

pub constant_index-returns-else-is_below-clause-broken :
    goal.constant_index-returns-else-is_below-clause-broken
constant_index-returns-else-is_below-clause-broken t c =
    c.refusal.ensures (constant_index_steps (names_of c.args.scope.now) c.args.width
    (expression_tree c.args.index.now)).end
    (index_asked c.args.scope.now c.args.index.now c.args.width c.in_ok-bits.bits false
    (constant_value Constant c.args.scope.now c.args.index.now c.requires c.in_ok-operand.operand
    c.in_ok-operand.ensures.found c.own_type.result.width c.own_type.result.signed
    c.own_type.ensures.width c.own_type.ensures.signed c.in_ok-bits.bits c.in_ok-bits.ensures.found)
    (sym c.if-is_below.false ∙ c.is_below.ensures)
    ∙ ap (λ (p : Place). (ask false (bad_select p)).end) (sym c.place.ensures))

-- what is measured inside a constant
measured_inside : (r : Reach) (inside : Setting) (e : ExpressionTree) (m : Measured)
    → names_in inside r.scope.now ≡ reach_names r → is_constant inside ≡ true
    → IsMeasure (names_in inside r.scope.now) (is_constant inside) e m
    → IsMeasure (reach_names r) true e m
measured_inside r inside e m names constant found =
    subst (λ (n : Names). IsMeasure n true e m) names
    (subst (λ (b : Bool). IsMeasure (names_in inside r.scope.now) b e m) constant found)

pub measured_constant-returns-clause-found : goal.measured_constant-returns-clause-found
measured_constant-returns-clause-found t c =
    ok_weaker c.folded.result _ _
    (constant_value c.args.reach.now.setting c.args.reach.now.scope.now c.args.expr.now c.requires
    c.in_ok-operand.operand
    (measured_inside c.args.reach.now c.inside.result (expression_tree c.args.expr.now)
    c.in_ok-operand.operand (c.inside.ensures.names c.args.reach.now.scope.now)
    c.inside.ensures.constant c.in_ok-operand.ensures.found)
    c.own_type.result.width c.own_type.result.signed c.own_type.ensures.width
    c.own_type.ensures.signed) c.folded.ensures.found

pub measured_constant-returns-clause-broken : goal.measured_constant-returns-clause-broken
measured_constant-returns-clause-broken t c =
    err_weaker c.folded.result _ _
    (constant_broken c.args.reach.now.setting c.args.reach.now.scope.now c.args.expr.now c.requires
    c.in_ok-operand.operand
    (measured_inside c.args.reach.now c.inside.result (expression_tree c.args.expr.now)
    c.in_ok-operand.operand (c.inside.ensures.names c.args.reach.now.scope.now)
    c.inside.ensures.constant c.in_ok-operand.ensures.found)
    c.own_type.result.width c.own_type.result.signed c.own_type.ensures.width
    c.own_type.ensures.signed) c.folded.ensures.broken

pub measured_parts-returns-in_err-measured-clause-broken :
    goal.measured_parts-returns-in_err-measured-clause-broken
unfolding asked asked_parts
measured_parts-returns-in_err-measured-clause-broken t c =
    let p = err_from_is_err_and c.from_residual-in_err-measured.result
    c.from_residual-in_err-measured.ensures.1 in
    rw (p.1, p.2)
    (subst (λ (r : Result (Unit {0}) WalkStep).
    IsBreach r c.in_err-measured.field-0.0) c.loop-expr.invariant.asks
    (subst (λ (es : ExpressionTrees).
    IsBreach (asked_parts (reach_names c.args.reach.now)
    (is_constant c.args.reach.now.setting) es).end c.in_err-measured.field-0.0)
    (sym (parts_split c.args.exprs.now c.loop-expr.expr-index c.expr-item.result
    c.loop-expr-test.true c.expr-item.is))
    (breach_first (asked (reach_names c.args.reach.now) (is_constant c.args.reach.now.setting)
    (expression_tree c.expr-item.result)) _ c.in_err-measured.field-0.0
    c.in_err-measured.ensures.broken)))

pub measured_parts-loop-expr-preserved : goal.measured_parts-loop-expr-preserved
unfolding asked asked_parts measured_of measured_parts
measured_parts-loop-expr-preserved t c = record {
  shaped =
      (and_parts (is_shaped_expression (expression_tree c.expr-item.result))
      (are_shaped_parts (parts_of
      (expression_trees (drop (c.loop-expr.expr-index + 1) c.args.exprs.now))))
      (subst (λ (es : ExpressionTrees).
      IsTrue (are_shaped_parts es))
      (parts_split c.args.exprs.now c.loop-expr.expr-index c.expr-item.result
      c.loop-expr-test.true c.expr-item.is) c.loop-expr.invariant.shaped)).1;
  asks =
      sym (passes_on (asked (reach_names c.args.reach.now) (is_constant c.args.reach.now.setting)
      (expression_tree c.expr-item.result)) _
      (asked_parts (reach_names c.args.reach.now) (is_constant c.args.reach.now.setting)
      (parts_of (expression_trees (drop (c.loop-expr.expr-index + 1) c.args.exprs.now)))).end
      c.in_ok-measured.ensures.found.0 refl)
      ∙ sym (ap (λ (es : ExpressionTrees).
      (asked_parts (reach_names c.args.reach.now) (is_constant c.args.reach.now.setting)
      es).end) (parts_split c.args.exprs.now c.loop-expr.expr-index c.expr-item.result
      c.loop-expr-test.true c.expr-item.is)) ∙ c.loop-expr.invariant.asks;
  gives =
      ap (λ ms. before more_parts (measured_trees ms)
      (measured_parts (reach_names c.args.reach.now)
      (parts_of (expression_trees (drop (c.loop-expr.expr-index + 1) c.args.exprs.now)))))
      c.in_ok-push.ensures.items
      ∙ ap (λ ts. before more_parts ts
      (measured_parts (reach_names c.args.reach.now)
      (parts_of (expression_trees (drop (c.loop-expr.expr-index + 1) c.args.exprs.now)))))
      (map_push measured_tree c.loop-expr.operands.items c.in_ok-measured.field-0)
      ∙ before_push more_parts (measured_trees c.loop-expr.operands.items)
      (measured_tree c.in_ok-measured.field-0)
      (measured_parts (reach_names c.args.reach.now)
      (parts_of (expression_trees (drop (c.loop-expr.expr-index + 1) c.args.exprs.now))))
      ∙ ap (λ (x : MeasuredTree).
      before more_parts (measured_trees c.loop-expr.operands.items)
      (more_parts x (measured_parts (reach_names c.args.reach.now)
      (parts_of (expression_trees (drop (c.loop-expr.expr-index + 1) c.args.exprs.now))))))
      c.in_ok-measured.ensures.found.1
      ∙ sym (ap (λ (es : ExpressionTrees).
      before more_parts (measured_trees c.loop-expr.operands.items)
      (measured_parts (reach_names c.args.reach.now) es))
      (parts_split c.args.exprs.now c.loop-expr.expr-index c.expr-item.result
      c.loop-expr-test.true c.expr-item.is))
      ∙ c.loop-expr.invariant.gives;
}

pub measured_parts-returns-clause-found : goal.measured_parts-returns-clause-found
unfolding asked asked_parts measured_of measured_parts
measured_parts-returns-clause-found t c =
    let none = parts_done c.args.exprs.now c.loop-expr.expr-index c.loop-expr-test.false in (
      sym c.loop-expr.invariant.asks ∙ ap (λ (es : ExpressionTrees).
          (asked_parts (reach_names c.args.reach.now) (is_constant c.args.reach.now.setting)
          es).end) none,
      sym (before_end more_parts measured_row (λ t ts. refl)
          (measured_trees c.loop-expr.operands.items))
          ∙ sym (ap (λ (es : ExpressionTrees).
          before more_parts (measured_trees c.loop-expr.operands.items)
          (measured_parts (reach_names c.args.reach.now) es)) none)
          ∙ c.loop-expr.invariant.gives,
    )
