use Rattle.std.proofs.Common.{◌≡◌, Bool, false, length, sym, subst, ◌∙◌, rules, [], ◌∷◌, refl, ap}
use Rattle.std.proofs.Common.{arith}
use Rattle.std.proofs.lemmas.List.{length_push}
use Rattle.sv_token.specs.Lexemes.{placed_tokens}
use Rattle.sv_parse_expr.specs.Parses.{placed}
use Rattle.sv_ast.specs.Tree as tree
use Rattle.sv_ast.specs.Views.{expression_tree}
use Rattle.sv_ast.proofs.Rows.{row_statements-hidden, row_arms-hidden}
use Rattle.sv_parse_stmt.proofs.ReadingStatements.{statement_of, word_is, block_is, if_only_is}
use Rattle.sv_parse_stmt.proofs.ReadingStatements.{if_else_is, case_is, statements_more}
use Rattle.sv_parse_stmt.proofs.ReadingStatements.{statements_end, arms_more, arms_end}
use Rattle.sv_token.specs.declared.keywords.WordKind.TheVariants as words
use Rattle.sv_parse_machine.specs.Symbols.{outer, statement, statements, perhaps_block_name, perhaps_else}
use Rattle.sv_parse_machine.specs.Symbols.{arms}
use Rattle.sv_parse_machine.proofs.ReadSteps.{reads_then}
use Rattle.sv_parse_machine.proofs.ReadRows.{word_taken}
use Rattle.sv_parse_machine.proofs.SkippedRows.{skips_symbol}
use Rattle.sv_parse_expr.proofs.Halting.{passed, stops_then}
use Rattle.sv_parse_expr.proofs.ReadingRuns.{then_read, then_stop}
use Rattle.sv_parse_stmt.proofs.SymbolsAlike.{one_statement, word_is_there}
use Rattle.sv_parse_stmt.proofs.ArmRuns.{case_ends}
use Rattle.sv_parse_stmt.proofs.StatementRuns.{level_opens, level_stops, block_behind, if_behind}
use Rattle.sv_parse_stmt.proofs.StatementRuns.{case_behind, in_brackets, if_condition, if_first}
use Rattle.sv_parse_stmt.proofs.StatementRuns.{case_selector, pushed_statements, pushed_arms}
use Rattle.sv_parse_stmt.proofs.StatementRuns.{some_trees, few_trees, one_more_arm, next_sign}
use Rattle.sv_token.specs.declared.signs.SignKind.TheVariants as signs
use Rattle.sv_ast.specs.Views.{arm_tree, arm_trees}
use Rattle.sv_parse_stmt.proofs.ReadingStatements.{AreOpenArms}
use Rattle.sv_parse_stmt.proofs.statements.+statement.Goals as goal

pub read_block-returns-clause-is : goal.read_block-returns-clause-is
read_block-returns-clause-is t c =
    statement_of c.args.levels _ _ _ _ (ap tree.block (row_statements-hidden c.in_ok-stmts.stmts))
    (block_is c.args.levels _ _ _ _ _ _ c.in_ok-inside.ensures.is c.in_ok-inside.ensures.within
    (word_is _ _ _ _ (c.in_ok-_place.ensures.is c.args.input.bytes.now)) c.in_ok-rest.ensures.is
    c.in_ok-stmts.ensures.is)

pub read_conditional-returns-in_default-clause-is :
    goal.read_conditional-returns-in_default-clause-is
read_conditional-returns-in_default-clause-is t c =
    statement_of c.args.levels _ _ _ _ c.in_ok-if_only.ensures
    (if_only_is c.args.levels _ _ _ _ _ _ _ _ c.in_ok-inside.ensures.is
    c.in_ok-inside.ensures.within (c.in_ok-place.ensures.is c.args.input.bytes.now)
    c.in_ok-cond.ensures.is c.in_ok-yes.ensures.is
    (c.in_default.ensures.other c.args.input.bytes.now))

pub read_conditional-returns-clause-is : goal.read_conditional-returns-clause-is
read_conditional-returns-clause-is t c =
    statement_of c.args.levels _ _ _ _ c.in_ok-if_else.ensures
    (if_else_is c.args.levels _ _ _ _ _ _ _ _ _ _ _ c.in_ok-inside.ensures.is
    c.in_ok-inside.ensures.within (c.in_ok-place.ensures.is c.args.input.bytes.now)
    c.in_ok-cond.ensures.is c.in_ok-yes.ensures.is (c.in-Some.ensures.is c.args.input.bytes.now)
    c.in_ok-no.ensures.is)

pub read_arm-returns-clause-is : goal.read_arm-returns-clause-is
read_arm-returns-clause-is t c = (_, c.in_ok-place.ensures.is, c.in_ok-body.ensures.is)

-- ---- the machine of the grammar: a block

pub read_block-returns-in_err-_place-clause-halts :
    goal.read_block-returns-in_err-_place-clause-halts
read_block-returns-in_err-_place-clause-halts t c = λ comes.
    passed _ _ _ c.from_residual.ensures.1
    (word_is_there _ words.Begin _ _ _ _ comes
    (c.in_err-_place.ensures.stops c.args.input.bytes.now))

pub read_block-returns-in_err-inside-clause-halts :
    goal.read_block-returns-in_err-inside-clause-halts
read_block-returns-in_err-inside-clause-halts t c = λ comes.
    passed _ _ _ c.from_residual-in_err-inside.ensures.1
    (level_stops c.args.input.bytes.now c.args.input.rest.now words.Begin block_behind c.args.levels
    _ _ (λ k. refl) c.in_err-inside.ensures.deep
    (word_is _ _ _ _ (c.in_ok-_place.ensures.is c.args.input.bytes.now))
    c.in_err-inside.ensures.stops)

pub read_block-returns-in_err-rest-clause-halts : goal.read_block-returns-in_err-rest-clause-halts
read_block-returns-in_err-rest-clause-halts t c = λ comes.
    passed _ _ _ c.from_residual-in_err-rest.ensures.1
    (then_stop _ (outer perhaps_block_name ∷ [])
    (outer (statements c.in_ok-inside.inside) ∷ []) _ _ _
    (level_opens words.Begin block_behind c.args.levels _ _ _ (λ k. refl) c.in_ok-inside.ensures.is
    c.in_ok-inside.ensures.within
    (word_is _ _ _ _ (c.in_ok-_place.ensures.is c.args.input.bytes.now)))
    c.in_err-rest.ensures.halts)

pub read_block-returns-in_err-stmts-clause-halts : goal.read_block-returns-in_err-stmts-clause-halts
read_block-returns-in_err-stmts-clause-halts t c = λ comes.
    passed _ _ _ c.from_residual-in_err-stmts.ensures.1
    (stops_then _ (outer (statements c.in_ok-inside.inside) ∷ []) _ _ _
    (then_read _ (outer perhaps_block_name ∷ [])
    (outer (statements c.in_ok-inside.inside) ∷ []) _ _ _
    (level_opens words.Begin block_behind c.args.levels _ _ _ (λ k. refl) c.in_ok-inside.ensures.is
    c.in_ok-inside.ensures.within
    (word_is _ _ _ _ (c.in_ok-_place.ensures.is c.args.input.bytes.now)))
    c.in_ok-rest.ensures.reads)
    c.in_err-stmts.ensures.halts)

pub read_block-returns-clause-reads : goal.read_block-returns-clause-reads
read_block-returns-clause-reads t c =
    reads_then _ (outer (statements c.in_ok-inside.inside) ∷ []) [] _ _ _
    (then_read _ (outer perhaps_block_name ∷ [])
    (outer (statements c.in_ok-inside.inside) ∷ []) _ _ _
    (level_opens words.Begin block_behind c.args.levels _ _ _ (λ k. refl) c.in_ok-inside.ensures.is
    c.in_ok-inside.ensures.within
    (word_is _ _ _ _ (c.in_ok-_place.ensures.is c.args.input.bytes.now)))
    c.in_ok-rest.ensures.reads)
    c.in_ok-stmts.ensures.reads

-- ---- an `if`

pub read_conditional-returns-in_err-place-clause-halts :
    goal.read_conditional-returns-in_err-place-clause-halts
read_conditional-returns-in_err-place-clause-halts t c = λ comes.
    passed _ _ _ c.from_residual.ensures.1
    (word_is_there _ words.If _ _ _ _ comes (c.in_err-place.ensures.stops c.args.input.bytes.now))

pub read_conditional-returns-in_err-inside-clause-halts :
    goal.read_conditional-returns-in_err-inside-clause-halts
read_conditional-returns-in_err-inside-clause-halts t c = λ comes.
    passed _ _ _ c.from_residual-in_err-inside.ensures.1
    (level_stops c.args.input.bytes.now c.args.input.rest.now words.If if_behind c.args.levels
    _ _ (λ k. refl) c.in_err-inside.ensures.deep
    (word_is _ _ _ _ (c.in_ok-place.ensures.is c.args.input.bytes.now))
    c.in_err-inside.ensures.stops)

pub read_conditional-returns-in_err-cond-clause-halts :
    goal.read_conditional-returns-in_err-cond-clause-halts
read_conditional-returns-in_err-cond-clause-halts t c = λ comes.
    passed _ _ _ c.from_residual-in_err-cond.ensures.1
    (then_stop _ (in_brackets c.in_ok-inside.inside)
    (outer (statement c.in_ok-inside.inside) ∷
    outer (perhaps_else c.in_ok-inside.inside) ∷ []) _ _ _
    (level_opens words.If if_behind c.args.levels _ _ _ (λ k. refl) c.in_ok-inside.ensures.is
    c.in_ok-inside.ensures.within
    (word_is _ _ _ _ (c.in_ok-place.ensures.is c.args.input.bytes.now)))
    c.in_err-cond.ensures.halts)

pub read_conditional-returns-in_err-yes-clause-halts :
    goal.read_conditional-returns-in_err-yes-clause-halts
read_conditional-returns-in_err-yes-clause-halts t c = λ comes.
    passed _ _ _ c.from_residual-in_err-yes.ensures.1
    (then_stop _ (outer (statement c.in_ok-inside.inside) ∷ [])
    (outer (perhaps_else c.in_ok-inside.inside) ∷ []) _ _ _
    (if_condition c.args.levels _ _ _ _ c.in_ok-inside.ensures.is c.in_ok-inside.ensures.within
    (word_is _ _ _ _ (c.in_ok-place.ensures.is c.args.input.bytes.now)) c.in_ok-cond.ensures.reads)
    c.in_err-yes.ensures.halts)

pub read_conditional-returns-in_default-clause-reads :
    goal.read_conditional-returns-in_default-clause-reads
read_conditional-returns-in_default-clause-reads t c =
    reads_then _ (outer (perhaps_else c.in_ok-inside.inside) ∷ []) [] _ _ _
    (if_first c.args.levels _ _ _ _ _ c.in_ok-inside.ensures.is c.in_ok-inside.ensures.within
    (word_is _ _ _ _ (c.in_ok-place.ensures.is c.args.input.bytes.now)) c.in_ok-cond.ensures.reads
    c.in_ok-yes.ensures.reads)
    (skips_symbol (perhaps_else c.in_ok-inside.inside) tt _
    (c.in_default.ensures.none c.args.input.bytes.now))

pub read_conditional-returns-in_err-no-clause-halts :
    goal.read_conditional-returns-in_err-no-clause-halts
read_conditional-returns-in_err-no-clause-halts t c = λ comes.
    passed _ _ _ c.from_residual-in_err-no.ensures.1
    (stops_then _ (outer (statement c.in_ok-inside.inside) ∷ []) _ _ _
    (reads_then _ (outer (perhaps_else c.in_ok-inside.inside) ∷ [])
    (outer (statement c.in_ok-inside.inside) ∷ []) _ _ _
    (if_first c.args.levels _ _ _ _ _ c.in_ok-inside.ensures.is c.in_ok-inside.ensures.within
    (word_is _ _ _ _ (c.in_ok-place.ensures.is c.args.input.bytes.now)) c.in_ok-cond.ensures.reads
    c.in_ok-yes.ensures.reads)
    (word_taken (perhaps_else c.in_ok-inside.inside) words.Else
    (statement c.in_ok-inside.inside ∷ []) _ _ refl (c.in-Some.ensures.is c.args.input.bytes.now)))
    c.in_err-no.ensures.halts)

pub read_conditional-returns-clause-reads : goal.read_conditional-returns-clause-reads
read_conditional-returns-clause-reads t c =
    reads_then _ (outer (statement c.in_ok-inside.inside) ∷ []) [] _ _ _
    (reads_then _ (outer (perhaps_else c.in_ok-inside.inside) ∷ [])
    (outer (statement c.in_ok-inside.inside) ∷ []) _ _ _
    (if_first c.args.levels _ _ _ _ _ c.in_ok-inside.ensures.is c.in_ok-inside.ensures.within
    (word_is _ _ _ _ (c.in_ok-place.ensures.is c.args.input.bytes.now)) c.in_ok-cond.ensures.reads
    c.in_ok-yes.ensures.reads)
    (word_taken (perhaps_else c.in_ok-inside.inside) words.Else
    (statement c.in_ok-inside.inside ∷ []) _ _ refl (c.in-Some.ensures.is c.args.input.bytes.now)))
    c.in_ok-no.ensures.reads

-- ---- a `case`

pub read_case-returns-clause-is : goal.read_case-returns-clause-is
read_case-returns-clause-is t c =
    statement_of c.args.levels _ _ _ _
    (ap (tree.case_of c.in_ok-place.place (expression_tree c.in_ok-selector.selector))
    (row_arms-hidden c.in_ok-arms.arms))
    (case_is c.args.levels _ _ _ _ _ _ _ _ c.in_ok-inside.ensures.is c.in_ok-inside.ensures.within
    (c.in_ok-place.ensures.is c.args.input.bytes.now) c.in_ok-selector.ensures.is
    c.in_ok-arms.ensures.is)

pub read_case-returns-in_err-place-clause-halts : goal.read_case-returns-in_err-place-clause-halts
read_case-returns-in_err-place-clause-halts t c = λ comes.
    passed _ _ _ c.from_residual.ensures.1
    (word_is_there _ words.Case _ _ _ _ comes (c.in_err-place.ensures.stops c.args.input.bytes.now))

pub read_case-returns-in_err-inside-clause-halts : goal.read_case-returns-in_err-inside-clause-halts
read_case-returns-in_err-inside-clause-halts t c = λ comes.
    passed _ _ _ c.from_residual-in_err-inside.ensures.1
    (level_stops c.args.input.bytes.now c.args.input.rest.now words.Case case_behind c.args.levels
    _ _ (λ k. refl) c.in_err-inside.ensures.deep
    (word_is _ _ _ _ (c.in_ok-place.ensures.is c.args.input.bytes.now))
    c.in_err-inside.ensures.stops)

pub read_case-returns-in_err-selector-clause-halts :
    goal.read_case-returns-in_err-selector-clause-halts
read_case-returns-in_err-selector-clause-halts t c = λ comes.
    passed _ _ _ c.from_residual-in_err-selector.ensures.1
    (then_stop _ (in_brackets c.in_ok-inside.inside)
    (outer (arms c.in_ok-inside.inside 0 false) ∷ []) _ _ _
    (level_opens words.Case case_behind c.args.levels _ _ _ (λ k. refl) c.in_ok-inside.ensures.is
    c.in_ok-inside.ensures.within
    (word_is _ _ _ _ (c.in_ok-place.ensures.is c.args.input.bytes.now)))
    c.in_err-selector.ensures.halts)

pub read_case-returns-in_err-arms-clause-halts : goal.read_case-returns-in_err-arms-clause-halts
read_case-returns-in_err-arms-clause-halts t c = λ comes.
    passed _ _ _ c.from_residual-in_err-arms.ensures.1
    (stops_then _ (outer (arms c.in_ok-inside.inside 0 false) ∷ []) _ _ _
    (case_selector c.args.levels _ _ _ _ c.in_ok-inside.ensures.is c.in_ok-inside.ensures.within
    (word_is _ _ _ _ (c.in_ok-place.ensures.is c.args.input.bytes.now))
    c.in_ok-selector.ensures.reads)
    c.in_err-arms.ensures.halts)

pub read_case-returns-clause-reads : goal.read_case-returns-clause-reads
read_case-returns-clause-reads t c =
    reads_then _ (outer (arms c.in_ok-inside.inside 0 false) ∷ []) [] _ _ _
    (case_selector c.args.levels _ _ _ _ c.in_ok-inside.ensures.is c.in_ok-inside.ensures.within
    (word_is _ _ _ _ (c.in_ok-place.ensures.is c.args.input.bytes.now))
    c.in_ok-selector.ensures.reads)
    c.in_ok-arms.ensures.reads

-- ---- an arm

pub read_arm-returns-in_err-place-clause-halts : goal.read_arm-returns-in_err-place-clause-halts
read_arm-returns-in_err-place-clause-halts t c =
    λ comes. passed _ _ _ c.from_residual.ensures.1 (c.in_err-place.ensures.halts comes)

-- ---- the statements of a block

pub read_statements-returns-in-Some-clause-is : goal.read_statements-returns-in-Some-clause-is
read_statements-returns-in-Some-clause-is t c = (
  _,
  statements_end c.args.levels _ _ _ c.loop-after.invariant.are,
  c.in-Some.ensures.is c.args.input.bytes.now,
)

pub read_statements-returns-in-Some-clause-reads : goal.read_statements-returns-in-Some-clause-reads
read_statements-returns-in-Some-clause-reads t c =
    reads_then _ (outer (statements c.args.levels) ∷ []) [] _ _ _ c.loop-after.invariant.reads
    (word_taken (statements c.args.levels) words.End [] _ _ refl
    (c.in-Some.ensures.is c.args.input.bytes.now))

pub read_statements-returns-in_err-stmt-clause-halts :
    goal.read_statements-returns-in_err-stmt-clause-halts
read_statements-returns-in_err-stmt-clause-halts t c =
    let n = c.args.levels in
    passed _ _ _ c.from_residual.ensures.1
    (then_stop _ (outer (statement n) ∷ []) (outer (statements n) ∷ []) _ _ _
    (reads_then _ (outer (statements n) ∷ []) (outer (statement n) ∷ outer (statements n) ∷ []) _ _
    _ c.loop-after.invariant.reads
    (one_statement n _ (c.in_default.ensures.none c.args.input.bytes.now)))
    c.in_err-stmt.ensures.halts)

pub read_statements-loop-after-preserved : goal.read_statements-loop-after-preserved
read_statements-loop-after-preserved t c =
    let n = c.args.levels in
    record {
      are =
          pushed_statements n _ _ c.in_ok-stmt.stmt _ _ c.in_ok-push.ensures.items
          (statements_more n _ _ _ _ _ c.loop-after.invariant.are c.in_ok-stmt.ensures.is);
      shorter = omega (arith, c.loop-after.invariant.shorter, c.in_ok-stmt.ensures.shorter);
      reads =
          then_read _ (outer (statement n) ∷ []) (outer (statements n) ∷ []) _ _ _
          (reads_then _ (outer (statements n) ∷ [])
          (outer (statement n) ∷ outer (statements n) ∷ []) _ _ _ c.loop-after.invariant.reads
          (one_statement n _ (c.in_default.ensures.none c.args.input.bytes.now)))
          c.in_ok-stmt.ensures.reads;
    }

-- ---- the arms of a case

pub read_arms-returns-in-Some-clause-is : goal.read_arms-returns-in-Some-clause-is
read_arms-returns-in-Some-clause-is t c =
    let size : c.len-before.result ≡ length c.loop-after.arms.items =
    omega (arith, c.len-before.ensures, c.loop-after.arms.ok.0) in (
      _,
      arms_end c.args.levels _ _ _ _
          (some_trees c.loop-after.arms.items _ size c.in-Some.ensures.some)
          c.loop-after.invariant.are,
      c.in-Some.ensures.is c.args.input.bytes.now,
    )

pub read_arms-returns-in-Some-clause-reads : goal.read_arms-returns-in-Some-clause-reads
read_arms-returns-in-Some-clause-reads t c =
    reads_then _ (outer (arms c.args.levels (length c.loop-after.arms.items)
    c.loop-after.has_default) ∷ []) [] _ _ _ c.loop-after.invariant.reads
    (case_ends c.args.levels _ _ _ _ (omega (arith, c.len-before.ensures, c.in-Some.ensures.some))
    (c.in-Some.ensures.is c.args.input.bytes.now))

pub read_arms-loop-after-preserved : goal.read_arms-loop-after-preserved
read_arms-loop-after-preserved t c =
    let n = c.args.levels in
    let size : c.len-before.result ≡ length c.loop-after.arms.items =
    omega (arith, c.len-before.ensures, c.loop-after.arms.ok.0) in
    record {
      are =
          subst
          (λ (default : Bool).
          AreOpenArms n (arm_trees c.push.new.self.items) default
          (placed c.args.input)
          (placed_tokens c.args.input.bytes.now c.in_ok-arm.more.now))
          (sym c.is_default_behind-has_default.ensures)
          (pushed_arms n _ _ c.in_ok-arm.arm _ _ _ c.in_ok-push.ensures.items
          (arms_more n _ c.loop-after.has_default (arm_tree c.in_ok-arm.arm) _ _ _ _
          c.loop-after.invariant.are
          (few_trees c.loop-after.arms.items _ size c.in_ok-arm.ensures.few)
          c.in_ok-arm.ensures.is.1 c.in_ok-arm.ensures.is.2));
      shorter = omega (arith, c.loop-after.invariant.shorter, c.in_ok-arm.ensures.shorter);
      reads =
          one_more_arm n _ (length c.loop-after.arms.items) _ _ _ _ _ _ _ size
          (ap length c.in_ok-push.ensures.items
          ∙ length_push c.loop-after.arms.items c.in_ok-arm.arm)
          c.is_default_behind-has_default.ensures
          c.loop-after.invariant.reads
          (c.in_ok-arm.ensures.reads (c.in_default.ensures.none c.args.input.bytes.now));
    }

-- ---- `;`

-- what holds of a `;` in any text holds of it in this one
pub read_statement-returns-in-Sign-Semicolon-clause-is :
    goal.read_statement-returns-in-Sign-Semicolon-clause-is
read_statement-returns-in-Sign-Semicolon-clause-is t c =
    c.read_null.ensures.is c.args.input.bytes.now c.args.levels

pub read_statement-returns-in-Sign-Semicolon-clause-reads :
    goal.read_statement-returns-in-Sign-Semicolon-clause-reads
read_statement-returns-in-Sign-Semicolon-clause-reads t c =
    c.read_null.ensures.reads c.args.input.bytes.now c.args.levels

pub read_statement-returns-in-Sign-Semicolon-clause-halts :
    goal.read_statement-returns-in-Sign-Semicolon-clause-halts
read_statement-returns-in-Sign-Semicolon-clause-halts t c =
    c.read_null.ensures.halts c.args.input.bytes.now c.args.levels
    (next_sign c.args.input.bytes.now c.args.input.rest.now c.first-item.result signs.Semicolon
    c.in-len1-up.len_at_least c.first-item.is (search rules))
