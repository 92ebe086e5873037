use Rattle.std.proofs.Common.{◌≡◌, ◌+◌, ◌-◌, [], ◌∷◌, ◌++◌, refl, ◌∙◌, arith}
use Rattle.sv_token.specs.Lexemes.{placed_tokens}
use Rattle.sv_parse_expr.specs.Parses.{placed}
use Rattle.sv_parse_expr.proofs.ReadingExpressions.{looser, tree_of, pushed_parts, name_is, select_is}
use Rattle.sv_parse_expr.proofs.ReadingExpressions.{group_is, unary_is, binary_is, choice_is, join_is}
use Rattle.sv_parse_expr.proofs.ReadingExpressions.{repeat_is, parts_are, open_parts_more, open_parts_end}
use Rattle.sv_token.specs.declared.signs.SignKind.TheVariants as signs
use Rattle.sv_parse_machine.specs.Symbols.{inner, operand, tail, selection, selection_end, members}
use Rattle.sv_parse_machine.specs.Symbols.{members_or_count, inner_colon, inner_parenthesis}
use Rattle.sv_parse_machine.specs.Symbols.{inner_bracket, inner_brace}
use Rattle.sv_parse_machine.specs.ExpressionTable.{inside}
use Rattle.sv_parse_machine.proofs.ReadSteps.{reads_then, reads_before}
use Rattle.sv_parse_expr.specs.declared.stop.GrammarBreach.TheVariants.{Stuck}
use Rattle.sv_parse_expr.specs.declared.stop.Expected.TheVariants as expected
use Rattle.sv_parse_expr.proofs.Halting.{passed, stops_then, stops_before, stops_here, stops_by}
use Rattle.sv_parse_expr.proofs.ReadingRuns.{then_stop, sign_takes, sign_is_there, infix_takes}
use Rattle.sv_parse_expr.proofs.ReadingRuns.{prefix_takes, prefix_halts, name_takes, name_halts, whole}
use Rattle.sv_parse_expr.proofs.ReadingRuns.{sign_inside, opened_read, colon_closes, parenthesis_closes}
use Rattle.sv_parse_expr.proofs.ReadingRuns.{bracket_closes, brace_closes, any_looser, looser_behind}
use Rattle.sv_parse_expr.proofs.ReadingRuns.{tail_skipped, infix_read, prefix_read, then_read}
use Rattle.sv_parse_expr.proofs.ReadingRuns.{choice_opened, name_read, dot_halts, group_read}
use Rattle.sv_parse_expr.proofs.ReadingRuns.{selection_opened, first_bound, both_bounds, first_part}
use Rattle.sv_parse_expr.proofs.ReadingRuns.{count_read, join_begun, parts_end, repeated_parts}
use Rattle.sv_parse_expr.proofs.expressions.+expression.Goals as goal

pub read_bounds-returns-in-Some-clause-is : goal.read_bounds-returns-in-Some-clause-is
read_bounds-returns-in-Some-clause-is t c = (
  (placed_tokens c.args.input.bytes.now c.in_ok-first.rest.now),
  c.in_ok-first.ensures.is,
  c.in-Some.ensures.is c.args.input.bytes.now,
)

pub read_bounds-returns-clause-is : goal.read_bounds-returns-clause-is
read_bounds-returns-clause-is t c =
    let bytes = c.args.input.bytes.now in (
      placed_tokens bytes c.in_ok-first.rest.now,
      c.in_ok-first.ensures.is,
      (
        placed_tokens bytes c.in_ok-rest.rest.now,
        c.in_ok-rest.ensures.is bytes,
        (
          placed_tokens bytes c.in_ok-low.rest.now,
          c.in_ok-low.ensures.is,
          c.in_ok-rest-2.ensures.is bytes,
        ),
      ),
    )

-- what holds of a number in any text holds of it in this one
pub read_operand-returns-in-Number-clause-is : goal.read_operand-returns-in-Number-clause-is
read_operand-returns-in-Number-clause-is t c = c.read_literal.ensures.is c.args.input.bytes.now

pub read_operand-returns-in-Number-clause-reads : goal.read_operand-returns-in-Number-clause-reads
read_operand-returns-in-Number-clause-reads t c =
    c.read_literal.ensures.reads c.args.input.bytes.now

pub read_group-returns-clause-is : goal.read_group-returns-clause-is
read_group-returns-clause-is t c =
    group_is c.args.room.levels _ _ _ _ _ _ c.in_ok-inside.ensures.levels
    c.in_ok-inside.ensures.within (c.in_ok-rest.ensures.is c.args.input.bytes.now)
    c.in_ok-expr.ensures.is (c.in_ok-rest-2.ensures.is c.args.input.bytes.now)

pub read_prefixed-returns-clause-is : goal.read_prefixed-returns-clause-is
read_prefixed-returns-clause-is t c =
    tree_of c.args.room.levels 0 _ _ _ _ c.in_ok-unary.ensures
    (unary_is c.args.room.levels _ _ _ _ _ _ _ c.in_ok-inside.ensures.levels
    c.in_ok-inside.ensures.within (c.in-Some.ensures.is c.args.input.bytes.now)
    c.in_ok-expr.ensures.is)

pub read_named-returns-in-Some-clause-is : goal.read_named-returns-in-Some-clause-is
read_named-returns-in-Some-clause-is t c =
    tree_of c.args.room.levels 0 _ _ _ _ c.in_ok-selected.ensures
    (select_is c.args.room.levels _ _ _ _ _ _ _ _ _ c.in_ok-inside.ensures.levels
    c.in_ok-inside.ensures.within c.in_ok-name.ensures.is
    (c.in-Some.ensures.is c.args.input.bytes.now) c.in_ok-high.ensures.is)

pub read_named-returns-clause-is : goal.read_named-returns-clause-is
read_named-returns-clause-is t c =
    name_is c.args.room.levels _ _ _ _ c.in_ok-name.ensures.is

pub read_inner-returns-in_default-clause-is : goal.read_inner-returns-in_default-clause-is
read_inner-returns-in_default-clause-is t c =
    looser c.args.room.levels 10 11 _ _ _ (omega arith) c.in_ok-cond.ensures.is

pub read_inner-returns-clause-is : goal.read_inner-returns-clause-is
read_inner-returns-clause-is t c =
    tree_of c.args.room.levels 11 _ _ _ _ c.in_ok-choice.ensures
    (choice_is c.args.room.levels _ _ _ _ _ _ _ _ _ _ _ c.in_ok-inside.ensures.levels
    c.in_ok-inside.ensures.within c.in_ok-cond.ensures.is
    (c.in-Some.ensures.is c.args.input.bytes.now) c.in_ok-yes.ensures.is
    (c.in_ok-rest.ensures.is c.args.input.bytes.now) c.in_ok-no.ensures.is)

pub read_braces-returns-in-Some-behind-clause-is : goal.read_braces-returns-in-Some-behind-clause-is
read_braces-returns-in-Some-behind-clause-is t c =
    tree_of c.args.room.levels 0 _ _ _ _ c.in_ok-repeat.ensures
    (repeat_is c.args.room.levels _ _ _ _ _ _ _ _ _ _ c.in_ok-inside.ensures.levels
    c.in_ok-inside.ensures.within c.in_ok-innermost.ensures.levels
    c.in_ok-innermost.ensures.within (c.in-Some.ensures.is c.args.input.bytes.now)
    c.in_ok-first.ensures.is (c.in-Some-behind.ensures.is c.args.input.bytes.now)
    c.in_ok-parts.ensures.is)

pub read_braces-returns-clause-is : goal.read_braces-returns-clause-is
read_braces-returns-clause-is t c =
    tree_of c.args.room.levels 0 _ _ _ _ c.join.ensures
    (join_is c.args.room.levels _ _ _ _ _ _ _ _ _ c.in_ok-inside.ensures.levels
    c.in_ok-inside.ensures.within (c.in-Some.ensures.is c.args.input.bytes.now)
    c.in_ok-first.ensures.is c.in_ok-parts-2.ensures.is
    (c.in_ok-rest.ensures.is c.args.input.bytes.now))

pub read_repeated-returns-clause-is : goal.read_repeated-returns-clause-is
read_repeated-returns-clause-is t c = (
  (placed_tokens c.args.input.bytes.now c.in_ok-parts.rest.now),
  parts_are c.args.room.levels _ _ _ _ _
      c.in_ok-first.ensures.is c.in_ok-parts.ensures.is,
  (
    (placed_tokens c.args.input.bytes.now c.in_ok-rest.rest.now),
    c.in_ok-rest.ensures.is
        c.args.input.bytes.now,
    c.in_ok-rest-2.ensures.is c.args.input.bytes.now,
  ),
)

pub read_chain-returns-then-precedence-eq0-clause-is :
    goal.read_chain-returns-then-precedence-eq0-clause-is
read_chain-returns-then-precedence-eq0-clause-is t c =
    looser c.args.room.levels 0 c.args.precedence _ _ _ (omega arith) c.in_ok-operand.ensures.is

pub read_chain-loop-op-init : goal.read_chain-loop-op-init
read_chain-loop-op-init t c = record {
  is =
      looser c.args.room.levels (c.args.precedence - 1) c.args.precedence _ _ _ (omega arith)
      c.in_ok-left.ensures.is;
  shorter = c.in_ok-left.ensures.shorter;
  counted = c.in_ok-left.ensures.counted;
  reads = λ start same. c.in_ok-left.ensures.reads start same;
  looser = c.in_ok-left.ensures.looser;
}

pub read_chain-loop-op-preserved : goal.read_chain-loop-op-preserved
read_chain-loop-op-preserved t c = record {
  is = tree_of c.args.room.levels c.args.precedence _ _ _ _ c.in_ok-left-2.ensures
      (binary_is c.args.room.levels c.args.precedence (c.args.precedence - 1) _ _ _ _ _ _ _ _
      c.in-Some.ensures.precedence (omega arith) c.loop-op.invariant.is
      (c.in-Some.ensures.is c.args.input.bytes.now) c.in_ok-right.ensures.is);
  shorter =
      omega (
        arith,
        c.in_ok-right.ensures.shorter,
        c.in-Some.ensures.one,
        c.loop-op.invariant.shorter,
      );
  counted = c.in_ok-right.ensures.counted;
  reads = λ start same.
      reads_then _ _ _ _ _ _ (c.loop-op.invariant.reads start same)
      (reads_then _ _ _ _ _ _
      (infix_read c.args.input.bytes.now _ _ start c.args.room.beyond c.args.room.levels _ _ same
      c.in_ok-count.ensures.counted (c.in-Some.ensures.is c.args.input.bytes.now))
      (c.in_ok-right.ensures.reads start same));
  looser = c.in_ok-right.ensures.looser;
}

pub read_later_parts-loop-after-preserved : goal.read_later_parts-loop-after-preserved
read_later_parts-loop-after-preserved t c = record {
  are = pushed_parts c.args.room.levels _ _ _ _ _ _ c.in_ok-push-2.ensures.items
      (open_parts_more c.args.room.levels _ _ _ _ _ _ _ c.loop-after.invariant.are
      (c.in-Some.ensures.is c.args.input.bytes.now) c.in_ok-part.ensures.is);
  shorter =
      omega (
        arith,
        c.in_ok-part.ensures.shorter,
        c.in-Some.ensures.one,
        c.loop-after.invariant.shorter,
      );
  reads = λ start same.
      reads_then _ _ _ _ _ _ (c.loop-after.invariant.reads start same)
      (then_read _ (whole start c.args.room.levels)
      (inner start (members c.args.room.levels) ∷ []) _ _ _
      (sign_inside c.args.input.bytes.now _ _ start c.args.room.beyond (members c.args.room.levels)
      0 (inside c.args.room.levels (members c.args.room.levels ∷ [])) signs.Comma same
      c.in_ok-count.ensures.counted (omega arith) refl
      (c.in-Some.ensures.is c.args.input.bytes.now)) (c.in_ok-part.ensures.reads start same));
}

pub read_later_parts-returns-clause-is : goal.read_later_parts-returns-clause-is
read_later_parts-returns-clause-is t c =
    open_parts_end c.args.room.levels _ _ _ _ c.loop-after.invariant.are

-- ---- the machine of the grammar

pub read_group-returns-clause-reads : goal.read_group-returns-clause-reads
read_group-returns-clause-reads t c = λ start same.
    let n = c.args.room.levels in
    let m = c.in_ok-inside.inside.levels in
    let same_inside : c.in_ok-inside.inside.beyond ≡ start - 1024 =
    c.in_ok-inside.ensures.beyond ∙ same in
    then_read _ (inner start inner_parenthesis ∷ []) [] _ _ _
    (group_read c.args.input.bytes.now _ _ _ start c.args.room.beyond n m same
    c.in_ok-inside.ensures.counted c.in_ok-inside.ensures.levels c.in_ok-inside.ensures.within
    (c.in_ok-rest.ensures.is c.args.input.bytes.now) (c.in_ok-expr.ensures.reads start same_inside))
    (c.in_ok-rest-2.ensures.reads c.args.input.bytes.now start inner_parenthesis same_inside
    parenthesis_closes)

pub read_prefixed-returns-clause-reads : goal.read_prefixed-returns-clause-reads
read_prefixed-returns-clause-reads t c = λ start same.
    reads_then _ _ _ _ _ _
    (prefix_read c.args.input.bytes.now _ _ start c.args.room.beyond c.args.room.levels
    c.in_ok-inside.inside.levels _ _ same c.in_ok-inside.ensures.counted
    c.in_ok-inside.ensures.levels c.in_ok-inside.ensures.within
    (c.in-Some.ensures.is c.args.input.bytes.now))
    (c.in_ok-expr.ensures.reads start (c.in_ok-inside.ensures.beyond ∙ same))

pub read_inner-returns-clause-reads : goal.read_inner-returns-clause-reads
read_inner-returns-clause-reads t c = λ start same.
    let n = c.args.room.levels in
    let m = c.in_ok-inside.inside.levels in
    let same_inside : c.in_ok-inside.inside.beyond ≡ start - 1024 =
    c.in_ok-inside.ensures.beyond ∙ same in
    then_read _ (whole start m) [] _ _ _
    (then_read _ (inner start inner_colon ∷ []) (whole start m) _ _ _
    (then_read _ (whole start m) (inner start inner_colon ∷ whole start m) _ _ _
    (choice_opened c.args.input.bytes.now _ _ _ start c.args.room.beyond n m _ same
    c.in_ok-inside.ensures.counted c.in_ok-inside.ensures.levels c.in_ok-inside.ensures.within
    (c.in_ok-cond.ensures.reads start same) (c.in-Some.ensures.is c.args.input.bytes.now))
    (c.in_ok-yes.ensures.reads start same_inside))
    (c.in_ok-rest.ensures.reads c.args.input.bytes.now start inner_colon same_inside colon_closes))
    (c.in_ok-no.ensures.reads start same_inside)

pub read_inner-returns-in_default-clause-reads : goal.read_inner-returns-in_default-clause-reads
read_inner-returns-in_default-clause-reads t c = λ start same.
    reads_then _ _ _ _ _ _ (c.in_ok-cond.ensures.reads start same)
    (tail_skipped start c.args.room.levels _ c.in_ok-cond.ensures.looser
    (c.in_default.ensures.none c.args.input.bytes.now))

pub read_inner-returns-in_err-inside-clause-halts :
    goal.read_inner-returns-in_err-inside-clause-halts
read_inner-returns-in_err-inside-clause-halts t c = λ start same.
    let n = c.args.room.levels in
    passed _ _ _ c.from_residual-in_err-inside.ensures.1
    (stops_then _ (inner start (tail n) ∷ []) _ _ _ (c.in_ok-cond.ensures.reads start same)
    (c.in_err-inside.ensures.halts c.args.input.bytes.now start (tail n)
    (inside (n + 1) (inner_colon ∷ inside (n + 1) [])) same
    (sign_takes (tail n) (n + 1) _ signs.Question _ _ refl
    (c.in-Some.place, c.in-Some.ensures.is c.args.input.bytes.now))))

pub read_inner-returns-in_err-yes-clause-halts : goal.read_inner-returns-in_err-yes-clause-halts
read_inner-returns-in_err-yes-clause-halts t c = λ start same.
    let n = c.args.room.levels in
    let m = c.in_ok-inside.inside.levels in
    let same_inside : c.in_ok-inside.inside.beyond ≡ start - 1024 =
    c.in_ok-inside.ensures.beyond ∙ same in
    passed _ _ _ c.from_residual-in_err-yes.ensures.1
    (then_stop _ (whole start m) (inner start inner_colon ∷ whole start m) _ _ _
    (choice_opened c.args.input.bytes.now _ _ _ start c.args.room.beyond n m _ same
    c.in_ok-inside.ensures.counted c.in_ok-inside.ensures.levels c.in_ok-inside.ensures.within
    (c.in_ok-cond.ensures.reads start same) (c.in-Some.ensures.is c.args.input.bytes.now))
    (c.in_err-yes.ensures.halts start same_inside))

pub read_inner-returns-in_err-rest-clause-halts : goal.read_inner-returns-in_err-rest-clause-halts
read_inner-returns-in_err-rest-clause-halts t c = λ start same.
    let n = c.args.room.levels in
    let m = c.in_ok-inside.inside.levels in
    let same_inside : c.in_ok-inside.inside.beyond ≡ start - 1024 =
    c.in_ok-inside.ensures.beyond ∙ same in
    passed _ _ _ c.from_residual-in_err-rest.ensures.1
    (then_stop _ (inner start inner_colon ∷ []) (whole start m) _ _ _
    (then_read _ (whole start m) (inner start inner_colon ∷ whole start m) _ _ _
    (choice_opened c.args.input.bytes.now _ _ _ start c.args.room.beyond n m _ same
    c.in_ok-inside.ensures.counted c.in_ok-inside.ensures.levels c.in_ok-inside.ensures.within
    (c.in_ok-cond.ensures.reads start same) (c.in-Some.ensures.is c.args.input.bytes.now))
    (c.in_ok-yes.ensures.reads start same_inside))
    (c.in_err-rest.ensures.halts c.args.input.bytes.now start inner_colon same_inside colon_closes))

pub read_inner-returns-in_err-no-clause-halts : goal.read_inner-returns-in_err-no-clause-halts
read_inner-returns-in_err-no-clause-halts t c = λ start same.
    let n = c.args.room.levels in
    let m = c.in_ok-inside.inside.levels in
    let same_inside : c.in_ok-inside.inside.beyond ≡ start - 1024 =
    c.in_ok-inside.ensures.beyond ∙ same in
    passed _ _ _ c.from_residual-in_err-no.ensures.1
    (then_stop _ (whole start m) [] _ _ _
    (then_read _ (inner start inner_colon ∷ []) (whole start m) _ _ _
    (then_read _ (whole start m) (inner start inner_colon ∷ whole start m) _ _ _
    (choice_opened c.args.input.bytes.now _ _ _ start c.args.room.beyond n m _ same
    c.in_ok-inside.ensures.counted c.in_ok-inside.ensures.levels c.in_ok-inside.ensures.within
    (c.in_ok-cond.ensures.reads start same) (c.in-Some.ensures.is c.args.input.bytes.now))
    (c.in_ok-yes.ensures.reads start same_inside))
    (c.in_ok-rest.ensures.reads c.args.input.bytes.now start inner_colon same_inside colon_closes))
    (c.in_err-no.ensures.halts start same_inside))

pub read_chain-returns-then-precedence-eq0-clause-reads :
    goal.read_chain-returns-then-precedence-eq0-clause-reads
read_chain-returns-then-precedence-eq0-clause-reads t c = λ start same.
    reads_before (inner start (operand c.args.room.levels) ∷ []) []
    (inner start (tail c.args.room.levels) ∷ []) _ _ (c.in_ok-operand.ensures.reads start same)

pub read_chain-returns-then-precedence-eq0-clause-looser :
    goal.read_chain-returns-then-precedence-eq0-clause-looser
read_chain-returns-then-precedence-eq0-clause-looser t c =
    any_looser c.args.precedence _ c.if-precedence-eq0.true

pub read_chain-returns-in_err-operand-clause-halts :
    goal.read_chain-returns-in_err-operand-clause-halts
read_chain-returns-in_err-operand-clause-halts t c = λ start same.
    passed _ _ _ c.from_residual.ensures.1
    (stops_before (inner start (operand c.args.room.levels) ∷ [])
    (inner start (tail c.args.room.levels) ∷ []) _ _
    (c.in_err-operand.ensures.halts start same))

pub read_chain-returns-in_err-count-clause-halts : goal.read_chain-returns-in_err-count-clause-halts
read_chain-returns-in_err-count-clause-halts t c = λ start same.
    let n = c.args.room.levels in
    passed _ _ _ c.from_residual-in_err-count.ensures.1
    (stops_then _ (inner start (tail n) ∷ []) _ _ _ (c.loop-op.invariant.reads start same)
    (c.in_err-count.ensures.halts c.args.input.bytes.now start (tail n) (inside n []) same
    (infix_takes n _ _ _ _ (c.in-Some.ensures.is c.args.input.bytes.now))))

pub read_chain-returns-in_err-right-clause-halts : goal.read_chain-returns-in_err-right-clause-halts
read_chain-returns-in_err-right-clause-halts t c = λ start same.
    let n = c.args.room.levels in
    passed _ _ _ c.from_residual-in_err-right.ensures.1
    (stops_then _ (whole start n) _ _ _
    (reads_then _ (inner start (tail n) ∷ []) _ _ _ _ (c.loop-op.invariant.reads start same)
    (infix_read c.args.input.bytes.now _ _ start c.args.room.beyond n _ _ same
    c.in_ok-count.ensures.counted (c.in-Some.ensures.is c.args.input.bytes.now)))
    (c.in_err-right.ensures.halts start same))

pub read_chain-returns-clause-looser : goal.read_chain-returns-clause-looser
read_chain-returns-clause-looser t c =
    looser_behind c.args.precedence _ (omega arith) c.loop-op.invariant.looser
    (c.in_default.ensures.none c.args.input.bytes.now)

pub read_group-returns-in_err-rest-clause-halts : goal.read_group-returns-in_err-rest-clause-halts
read_group-returns-in_err-rest-clause-halts t c = λ start same comes.
    passed _ _ _ c.from_residual.ensures.1
    (sign_is_there _ signs.OpenParenthesis (placed c.args.input) _ _ _
    comes (c.in_err-rest.ensures.stops c.args.input.bytes.now))

pub read_group-returns-in_err-inside-clause-halts :
    goal.read_group-returns-in_err-inside-clause-halts
read_group-returns-in_err-inside-clause-halts t c = λ start same comes.
    let n = c.args.room.levels in
    passed _ _ _ c.from_residual-in_err-inside.ensures.1
    (c.in_err-inside.ensures.halts c.args.input.bytes.now start (operand n)
    (inside (n + 1) (inner_parenthesis ∷ [])) same
    (sign_takes (operand n) (n + 1) _ signs.OpenParenthesis _ _ refl
    (c.in_ok-rest.ensures.is c.args.input.bytes.now)))

pub read_group-returns-in_err-expr-clause-halts : goal.read_group-returns-in_err-expr-clause-halts
read_group-returns-in_err-expr-clause-halts t c = λ start same comes.
    let n = c.args.room.levels in
    let m = c.in_ok-inside.inside.levels in
    let same_inside : c.in_ok-inside.inside.beyond ≡ start - 1024 =
    c.in_ok-inside.ensures.beyond ∙ same in
    passed _ _ _ c.from_residual-in_err-expr.ensures.1
    (then_stop _ (whole start m) (inner start inner_parenthesis ∷ []) _ _ _
    (opened_read c.args.input.bytes.now _ _ start c.args.room.beyond n m (operand n) (λ l.
    inside l (inner_parenthesis ∷ [])) signs.OpenParenthesis same c.in_ok-inside.ensures.counted
    c.in_ok-inside.ensures.levels c.in_ok-inside.ensures.within refl
    (c.in_ok-rest.ensures.is c.args.input.bytes.now))
    (c.in_err-expr.ensures.halts start same_inside))

pub read_group-returns-in_err-rest-2-clause-halts :
    goal.read_group-returns-in_err-rest-2-clause-halts
read_group-returns-in_err-rest-2-clause-halts t c = λ start same comes.
    let n = c.args.room.levels in
    let m = c.in_ok-inside.inside.levels in
    let same_inside : c.in_ok-inside.inside.beyond ≡ start - 1024 =
    c.in_ok-inside.ensures.beyond ∙ same in
    passed _ _ _ c.from_residual-in_err-rest-2.ensures.1
    (then_stop _ (inner start inner_parenthesis ∷ []) [] _ _ _
    (group_read c.args.input.bytes.now _ _ _ start c.args.room.beyond n m same
    c.in_ok-inside.ensures.counted c.in_ok-inside.ensures.levels c.in_ok-inside.ensures.within
    (c.in_ok-rest.ensures.is c.args.input.bytes.now) (c.in_ok-expr.ensures.reads start same_inside))
    (c.in_err-rest-2.ensures.halts c.args.input.bytes.now start inner_parenthesis same_inside
    parenthesis_closes))

pub read_prefixed-returns-in_default-clause-halts :
    goal.read_prefixed-returns-in_default-clause-halts
read_prefixed-returns-in_default-clause-halts t c = λ start same comes.
    stops_here c.args.input.bytes.now c.args.input.rest.now _ (Stuck expected.Something)
    c.unexpected.result
    (prefix_halts start c.args.room.levels _ comes
    (c.in_default.ensures.none c.args.input.bytes.now)) c.unexpected.ensures

pub read_prefixed-returns-in_err-inside-clause-halts :
    goal.read_prefixed-returns-in_err-inside-clause-halts
read_prefixed-returns-in_err-inside-clause-halts t c = λ start same comes.
    let n = c.args.room.levels in
    passed _ _ _ c.from_residual.ensures.1
    (c.in_err-inside.ensures.halts c.args.input.bytes.now start (operand n) (operand (n + 1) ∷ [])
    same (prefix_takes n _ _ _ _ (c.in-Some.ensures.is c.args.input.bytes.now)))

pub read_prefixed-returns-in_err-expr-clause-halts :
    goal.read_prefixed-returns-in_err-expr-clause-halts
read_prefixed-returns-in_err-expr-clause-halts t c = λ start same comes.
    passed _ _ _ c.from_residual-in_err-expr.ensures.1
    (stops_then _ _ _ _ _
    (prefix_read c.args.input.bytes.now _ _ start c.args.room.beyond c.args.room.levels
    c.in_ok-inside.inside.levels _ _ same c.in_ok-inside.ensures.counted
    c.in_ok-inside.ensures.levels c.in_ok-inside.ensures.within
    (c.in-Some.ensures.is c.args.input.bytes.now))
    (c.in_err-expr.ensures.halts start (c.in_ok-inside.ensures.beyond ∙ same)))

pub read_named-returns-in_err-name-clause-halts : goal.read_named-returns-in_err-name-clause-halts
read_named-returns-in_err-name-clause-halts t c = λ start same comes.
    passed _ _ _ c.from_residual.ensures.1
    (stops_by c.args.input.bytes.now c.args.input.rest.now _ _ _ (λ none.
    name_halts start c.args.room.levels _ comes none) c.in_err-name.ensures.stops)

pub read_named-returns-in_err-count-clause-halts : goal.read_named-returns-in_err-count-clause-halts
read_named-returns-in_err-count-clause-halts t c = λ start same comes.
    let n = c.args.room.levels in
    passed _ _ _ c.from_residual-in_err-count.ensures.1
    (c.in_err-count.ensures.halts c.args.input.bytes.now start (operand n) (selection n ∷ []) same
    (name_takes n _ _ _ _ c.in_ok-name.ensures.is))

pub read_named-returns-in_err-inside-clause-halts :
    goal.read_named-returns-in_err-inside-clause-halts
read_named-returns-in_err-inside-clause-halts t c = λ start same comes.
    let n = c.args.room.levels in
    passed _ _ _ c.from_residual-in_err-inside.ensures.1
    (stops_then _ (inner start (selection n) ∷ []) _ _ _
    (name_read c.args.input.bytes.now _ _ start c.args.room.beyond n _ _ same
    c.in_ok-count.ensures.counted c.in_ok-name.ensures.is)
    (c.in_err-inside.ensures.halts c.args.input.bytes.now start (selection n)
    (inside (n + 1) (selection_end (n + 1) ∷ [])) same
    (sign_takes (selection n) (n + 1) _ signs.OpenBracket _ _ refl
    (c.in-Some.ensures.is c.args.input.bytes.now))))

pub read_named-returns-in_err-high-clause-halts : goal.read_named-returns-in_err-high-clause-halts
read_named-returns-in_err-high-clause-halts t c = λ start same comes.
    let n = c.args.room.levels in
    let m = c.in_ok-inside.inside.levels in
    passed _ _ _ c.from_residual-in_err-high.ensures.1
    (stops_then _ (whole start m ++ (inner start (selection_end m) ∷ [])) _ _ _
    (selection_opened c.args.input.bytes.now _ _ _ start c.args.room.beyond n m _ _ same
    c.in_ok-count.ensures.counted c.in_ok-inside.ensures.counted c.in_ok-inside.ensures.levels
    c.in_ok-inside.ensures.within c.in_ok-name.ensures.is
    (c.in-Some.ensures.is c.args.input.bytes.now))
    (c.in_err-high.ensures.halts start (c.in_ok-inside.ensures.beyond ∙ same)))

pub read_named-returns-in-Some-clause-reads : goal.read_named-returns-in-Some-clause-reads
read_named-returns-in-Some-clause-reads t c = λ start same.
    let n = c.args.room.levels in
    let m = c.in_ok-inside.inside.levels in
    reads_then _ (whole start m ++ (inner start (selection_end m) ∷ [])) _ _ _ _
    (selection_opened c.args.input.bytes.now _ _ _ start c.args.room.beyond n m _ _ same
    c.in_ok-count.ensures.counted c.in_ok-inside.ensures.counted c.in_ok-inside.ensures.levels
    c.in_ok-inside.ensures.within c.in_ok-name.ensures.is
    (c.in-Some.ensures.is c.args.input.bytes.now))
    (c.in_ok-high.ensures.reads start (c.in_ok-inside.ensures.beyond ∙ same))

pub read_bounds-returns-in_err-first-clause-halts :
    goal.read_bounds-returns-in_err-first-clause-halts
read_bounds-returns-in_err-first-clause-halts t c = λ start same.
    let n = c.args.room.levels in
    passed _ _ _ c.from_residual.ensures.1
    (stops_before (whole start n) (inner start (selection_end n) ∷ []) _ _
    (c.in_err-first.ensures.halts start same))

pub read_bounds-returns-in-Some-clause-reads : goal.read_bounds-returns-in-Some-clause-reads
read_bounds-returns-in-Some-clause-reads t c = λ start same.
    let n = c.args.room.levels in
    reads_then _ (inner start (selection_end n) ∷ []) _ _ _ _
    (reads_before (whole start n) [] (inner start (selection_end n) ∷ []) _ _
    (c.in_ok-first.ensures.reads start same))
    (sign_inside c.args.input.bytes.now _ _ start c.args.room.beyond (selection_end n) 0 []
    signs.CloseBracket same c.in_ok-count.ensures.counted (omega arith) refl
    (c.in-Some.ensures.is c.args.input.bytes.now))

pub read_repeated-returns-clause-reads : goal.read_repeated-returns-clause-reads
read_repeated-returns-clause-reads t c = λ start same.
    then_read _ (inner start inner_brace ∷ []) [] _ _ _
    (then_read _ (inner start inner_brace ∷ []) (inner start inner_brace ∷ []) _ _ _
    (repeated_parts start c.args.room.levels _ _ _ (c.in_ok-first.ensures.reads start same)
    (c.in_ok-parts.ensures.reads start same) c.in_ok-parts.ensures.ends)
    (c.in_ok-rest.ensures.reads c.args.input.bytes.now start inner_brace same brace_closes))
    (c.in_ok-rest-2.ensures.reads c.args.input.bytes.now start inner_brace same brace_closes)

pub read_repeated-returns-in_err-rest-clause-halts :
    goal.read_repeated-returns-in_err-rest-clause-halts
read_repeated-returns-in_err-rest-clause-halts t c = λ start same.
    passed _ _ _ c.from_residual-in_err-rest.ensures.1
    (then_stop _ (inner start inner_brace ∷ []) (inner start inner_brace ∷ []) _ _ _
    (repeated_parts start c.args.room.levels _ _ _ (c.in_ok-first.ensures.reads start same)
    (c.in_ok-parts.ensures.reads start same) c.in_ok-parts.ensures.ends)
    (c.in_err-rest.ensures.halts c.args.input.bytes.now start inner_brace same brace_closes))

pub read_repeated-returns-in_err-rest-2-clause-halts :
    goal.read_repeated-returns-in_err-rest-2-clause-halts
read_repeated-returns-in_err-rest-2-clause-halts t c = λ start same.
    passed _ _ _ c.from_residual-in_err-rest-2.ensures.1
    (then_stop _ (inner start inner_brace ∷ []) [] _ _ _
    (then_read _ (inner start inner_brace ∷ []) (inner start inner_brace ∷ []) _ _ _
    (repeated_parts start c.args.room.levels _ _ _ (c.in_ok-first.ensures.reads start same)
    (c.in_ok-parts.ensures.reads start same) c.in_ok-parts.ensures.ends)
    (c.in_ok-rest.ensures.reads c.args.input.bytes.now start inner_brace same brace_closes))
    (c.in_err-rest-2.ensures.halts c.args.input.bytes.now start inner_brace same brace_closes))

pub read_later_parts-returns-in_err-count-clause-halts :
    goal.read_later_parts-returns-in_err-count-clause-halts
read_later_parts-returns-in_err-count-clause-halts t c = λ start same.
    let n = c.args.room.levels in
    passed _ _ _ c.from_residual-in_err-count.ensures.1
    (stops_then _ (inner start (members n) ∷ []) _ _ _ (c.loop-after.invariant.reads start same)
    (c.in_err-count.ensures.halts c.args.input.bytes.now start (members n)
    (inside n (members n ∷ [])) same (sign_takes (members n) 0 _ signs.Comma _ _ refl
    (c.in-Some.ensures.is c.args.input.bytes.now))))

pub read_later_parts-returns-in_err-part-clause-halts :
    goal.read_later_parts-returns-in_err-part-clause-halts
read_later_parts-returns-in_err-part-clause-halts t c = λ start same.
    let n = c.args.room.levels in
    passed _ _ _ c.from_residual-in_err-part.ensures.1
    (stops_then _ (inner start (members n) ∷ []) _ _ _ (c.loop-after.invariant.reads start same)
    (then_stop _ (whole start n) (inner start (members n) ∷ []) _ _ _
    (sign_inside c.args.input.bytes.now _ _ start c.args.room.beyond (members n) 0
    (inside n (members n ∷ [])) signs.Comma same c.in_ok-count.ensures.counted (omega arith)
    refl (c.in-Some.ensures.is c.args.input.bytes.now))
    (c.in_err-part.ensures.halts start same)))

pub read_braces-returns-in_err-inside-clause-halts :
    goal.read_braces-returns-in_err-inside-clause-halts
read_braces-returns-in_err-inside-clause-halts t c = λ start same comes.
    let n = c.args.room.levels in
    passed _ _ _ c.from_residual.ensures.1
    (c.in_err-inside.ensures.halts c.args.input.bytes.now start (operand n)
    (inside (n + 1) (members_or_count (n + 1) ∷ [])) same
    (sign_takes (operand n) (n + 1) _ signs.OpenBrace _ _ refl
    (c.in-Some.place, c.in-Some.ensures.is c.args.input.bytes.now)))

pub read_braces-returns-in_err-innermost-clause-halts :
    goal.read_braces-returns-in_err-innermost-clause-halts
read_braces-returns-in_err-innermost-clause-halts t c = λ start same comes.
    let n = c.args.room.levels in
    let m = c.in_ok-inside.inside.levels in
    let same_inside : c.in_ok-inside.inside.beyond ≡ start - 1024 =
    c.in_ok-inside.ensures.beyond ∙ same in
    passed _ _ _ c.from_residual-in_err-innermost.ensures.1
    (stops_then _ (inner start (members_or_count m) ∷ []) _ _ _
    (first_part c.args.input.bytes.now _ _ _ start c.args.room.beyond n m same
    c.in_ok-inside.ensures.counted c.in_ok-inside.ensures.levels c.in_ok-inside.ensures.within
    (c.in-Some.place, c.in-Some.ensures.is c.args.input.bytes.now)
    (c.in_ok-first.ensures.reads start same_inside))
    (c.in_err-innermost.ensures.halts c.args.input.bytes.now start (members_or_count m)
    (inside (m + 1) (members (m + 1) ∷ inner_brace ∷ [])) same_inside
    (sign_takes (members_or_count m) (m + 1) _ signs.OpenBrace _ _ refl
    (c.in-Some-behind.ensures.is c.args.input.bytes.now))))

pub read_braces-returns-in_err-parts-clause-halts :
    goal.read_braces-returns-in_err-parts-clause-halts
read_braces-returns-in_err-parts-clause-halts t c = λ start same comes.
    let n = c.args.room.levels in
    let m = c.in_ok-inside.inside.levels in
    let same_inside : c.in_ok-inside.inside.beyond ≡ start - 1024 =
    c.in_ok-inside.ensures.beyond ∙ same in
    let k = c.in_ok-innermost.innermost.levels in
    passed _ _ _ c.from_residual-in_err-parts.ensures.1
    (stops_then _ (whole start k ++ (inner start (members k) ∷ inner start inner_brace ∷ [])) _ _ _
    (count_read c.args.input.bytes.now _ _ _ start c.in_ok-inside.inside.beyond n m k same_inside
    c.in_ok-innermost.ensures.counted c.in_ok-innermost.ensures.levels
    c.in_ok-innermost.ensures.within
    (first_part c.args.input.bytes.now _ _ _ start c.args.room.beyond n m same
    c.in_ok-inside.ensures.counted c.in_ok-inside.ensures.levels c.in_ok-inside.ensures.within
    (c.in-Some.place, c.in-Some.ensures.is c.args.input.bytes.now)
    (c.in_ok-first.ensures.reads start same_inside))
    (c.in-Some-behind.ensures.is c.args.input.bytes.now))
    (c.in_err-parts.ensures.halts start (c.in_ok-innermost.ensures.beyond ∙ same_inside)))

pub read_braces-returns-in-Some-behind-clause-reads :
    goal.read_braces-returns-in-Some-behind-clause-reads
read_braces-returns-in-Some-behind-clause-reads t c = λ start same.
    let n = c.args.room.levels in
    let m = c.in_ok-inside.inside.levels in
    let same_inside : c.in_ok-inside.inside.beyond ≡ start - 1024 =
    c.in_ok-inside.ensures.beyond ∙ same in
    let k = c.in_ok-innermost.innermost.levels in
    reads_then _ (whole start k ++ (inner start (members k) ∷ inner start inner_brace ∷ [])) _ _ _ _
    (count_read c.args.input.bytes.now _ _ _ start c.in_ok-inside.inside.beyond n m k same_inside
    c.in_ok-innermost.ensures.counted c.in_ok-innermost.ensures.levels
    c.in_ok-innermost.ensures.within
    (first_part c.args.input.bytes.now _ _ _ start c.args.room.beyond n m same
    c.in_ok-inside.ensures.counted c.in_ok-inside.ensures.levels c.in_ok-inside.ensures.within
    (c.in-Some.place, c.in-Some.ensures.is c.args.input.bytes.now)
    (c.in_ok-first.ensures.reads start same_inside))
    (c.in-Some-behind.ensures.is c.args.input.bytes.now))
    (c.in_ok-parts.ensures.reads start (c.in_ok-innermost.ensures.beyond ∙ same_inside))

pub read_braces-returns-in_err-parts-2-clause-halts :
    goal.read_braces-returns-in_err-parts-2-clause-halts
read_braces-returns-in_err-parts-2-clause-halts t c = λ start same comes.
    let n = c.args.room.levels in
    let m = c.in_ok-inside.inside.levels in
    let same_inside : c.in_ok-inside.inside.beyond ≡ start - 1024 =
    c.in_ok-inside.ensures.beyond ∙ same in
    passed _ _ _ c.from_residual-in_err-parts-2.ensures.1
    (stops_then _ (inner start (members m) ∷ []) _ _ _
    (join_begun start n m _ _
    (first_part c.args.input.bytes.now _ _ _ start c.args.room.beyond n m same
    c.in_ok-inside.ensures.counted c.in_ok-inside.ensures.levels c.in_ok-inside.ensures.within
    (c.in-Some.place, c.in-Some.ensures.is c.args.input.bytes.now)
    (c.in_ok-first.ensures.reads start same_inside))
    (c.in_default-behind.ensures.none c.args.input.bytes.now))
    (c.in_err-parts-2.ensures.halts start same_inside))

pub read_braces-returns-in_err-rest-clause-halts : goal.read_braces-returns-in_err-rest-clause-halts
read_braces-returns-in_err-rest-clause-halts t c = λ start same comes.
    let n = c.args.room.levels in
    let m = c.in_ok-inside.inside.levels in
    let same_inside : c.in_ok-inside.inside.beyond ≡ start - 1024 =
    c.in_ok-inside.ensures.beyond ∙ same in
    passed _ _ _ c.from_residual-in_err-rest.ensures.1
    (stops_then _ (inner start inner_brace ∷ []) _ _ _
    (parts_end _ start m _ _ _
    (join_begun start n m _ _
    (first_part c.args.input.bytes.now _ _ _ start c.args.room.beyond n m same
    c.in_ok-inside.ensures.counted c.in_ok-inside.ensures.levels c.in_ok-inside.ensures.within
    (c.in-Some.place, c.in-Some.ensures.is c.args.input.bytes.now)
    (c.in_ok-first.ensures.reads start same_inside))
    (c.in_default-behind.ensures.none c.args.input.bytes.now))
    (c.in_ok-parts-2.ensures.reads start same_inside) c.in_ok-parts-2.ensures.ends)
    (c.in_err-rest.ensures.halts c.args.input.bytes.now start inner_brace same_inside brace_closes))

pub read_braces-returns-clause-reads : goal.read_braces-returns-clause-reads
read_braces-returns-clause-reads t c = λ start same.
    let n = c.args.room.levels in
    let m = c.in_ok-inside.inside.levels in
    let same_inside : c.in_ok-inside.inside.beyond ≡ start - 1024 =
    c.in_ok-inside.ensures.beyond ∙ same in
    reads_then _ (inner start inner_brace ∷ []) _ _ _ _
    (parts_end _ start m _ _ _
    (join_begun start n m _ _
    (first_part c.args.input.bytes.now _ _ _ start c.args.room.beyond n m same
    c.in_ok-inside.ensures.counted c.in_ok-inside.ensures.levels c.in_ok-inside.ensures.within
    (c.in-Some.place, c.in-Some.ensures.is c.args.input.bytes.now)
    (c.in_ok-first.ensures.reads start same_inside))
    (c.in_default-behind.ensures.none c.args.input.bytes.now))
    (c.in_ok-parts-2.ensures.reads start same_inside) c.in_ok-parts-2.ensures.ends)
    (c.in_ok-rest.ensures.reads c.args.input.bytes.now start inner_brace same_inside brace_closes)

pub read_bounds-returns-in_err-count-clause-halts :
    goal.read_bounds-returns-in_err-count-clause-halts
read_bounds-returns-in_err-count-clause-halts t c = λ start same.
    let n = c.args.room.levels in
    passed _ _ _ c.from_residual-in_err-count.ensures.1
    (stops_then _ (inner start (selection_end n) ∷ []) _ _ _
    (reads_before (whole start n) [] (inner start (selection_end n) ∷ []) _ _
    (c.in_ok-first.ensures.reads start same))
    (c.in_err-count.ensures.halts c.args.input.bytes.now start (selection_end n) [] same
    (sign_takes (selection_end n) 0 [] signs.CloseBracket _ _ refl
    (c.in-Some.ensures.is c.args.input.bytes.now))))

pub read_bounds-returns-in_err-rest-clause-halts : goal.read_bounds-returns-in_err-rest-clause-halts
read_bounds-returns-in_err-rest-clause-halts t c = λ start same.
    let n = c.args.room.levels in
    passed _ _ _ c.from_residual-in_err-rest.ensures.1
    (then_stop _ (inner start inner_colon ∷ [])
    (whole start n ++ (inner start inner_bracket ∷ [])) _ _ _
    (first_bound start n _ _ (c.in_ok-first.ensures.reads start same)
    (c.in_default.ensures.none c.args.input.bytes.now))
    (c.in_err-rest.ensures.halts c.args.input.bytes.now start inner_colon same colon_closes))

pub read_bounds-returns-in_err-low-clause-halts : goal.read_bounds-returns-in_err-low-clause-halts
read_bounds-returns-in_err-low-clause-halts t c = λ start same.
    let n = c.args.room.levels in
    passed _ _ _ c.from_residual-in_err-low.ensures.1
    (then_stop _ (whole start n) (inner start inner_bracket ∷ []) _ _ _
    (then_read _ (inner start inner_colon ∷ [])
    (whole start n ++ (inner start inner_bracket ∷ [])) _ _ _
    (first_bound start n _ _ (c.in_ok-first.ensures.reads start same)
    (c.in_default.ensures.none c.args.input.bytes.now))
    (c.in_ok-rest.ensures.reads c.args.input.bytes.now start inner_colon same colon_closes))
    (c.in_err-low.ensures.halts start same))

pub read_bounds-returns-in_err-rest-2-clause-halts :
    goal.read_bounds-returns-in_err-rest-2-clause-halts
read_bounds-returns-in_err-rest-2-clause-halts t c = λ start same.
    let n = c.args.room.levels in
    passed _ _ _ c.from_residual-in_err-rest-2.ensures.1
    (stops_then _ (inner start inner_bracket ∷ []) _ _ _
    (both_bounds start n _ _ _ _
    (first_bound start n _ _ (c.in_ok-first.ensures.reads start same)
    (c.in_default.ensures.none c.args.input.bytes.now))
    (c.in_ok-rest.ensures.reads c.args.input.bytes.now start inner_colon same colon_closes)
    (c.in_ok-low.ensures.reads start same))
    (c.in_err-rest-2.ensures.halts c.args.input.bytes.now start inner_bracket same bracket_closes))

pub read_bounds-returns-clause-reads : goal.read_bounds-returns-clause-reads
read_bounds-returns-clause-reads t c = λ start same.
    let n = c.args.room.levels in
    reads_then _ (inner start inner_bracket ∷ []) _ _ _ _
    (both_bounds start n _ _ _ _
    (first_bound start n _ _ (c.in_ok-first.ensures.reads start same)
    (c.in_default.ensures.none c.args.input.bytes.now))
    (c.in_ok-rest.ensures.reads c.args.input.bytes.now start inner_colon same colon_closes)
    (c.in_ok-low.ensures.reads start same))
    (c.in_ok-rest-2.ensures.reads c.args.input.bytes.now start inner_bracket same bracket_closes)

pub read_named-returns-in-Some-behind-clause-halts :
    goal.read_named-returns-in-Some-behind-clause-halts
read_named-returns-in-Some-behind-clause-halts t c = λ start same comes.
    let n = c.args.room.levels in
    stops_then _ (inner start (selection n) ∷ []) _ _ _
    (name_read c.args.input.bytes.now _ _ start c.args.room.beyond n _ _ same
    c.in_ok-count.ensures.counted c.in_ok-name.ensures.is)
    (stops_here c.args.input.bytes.now c.in_ok-name.rest.now _ (Stuck expected.BehindName)
    c.stuck.result
    (dot_halts start n _ _ (c.in-Some-behind.ensures.is c.args.input.bytes.now)) c.stuck.ensures)
