use Rattle.std.proofs.Common.{[], ◌++◌, ◌∙◌, true, false, sym, ap, subst, rules, arith}
use Rattle.std.specs.Result.{IsErrOf}
use Rattle.sv_flat.specs.ByNumber.{signal_forms}
use Rattle.sv_flat.specs.declared.expressions.FNode.{the_lemmas}
use Rattle.sv_flat.specs.Views.{typed_tree, node_tree}
use Rattle.sv_flat.proofs.ConstantFacts.{constant_formed}
use Rattle.sv_flat.proofs.Parts.{parts_at, formed_at}
use Rattle.sv_gates.specs.Formulas.{most_variables}
use Rattle.sv_gates.specs.declared.gates.GateFault.TheVariants.{Full}
use Rattle.sv_gates.proofs.ExtendingLaws.{begins_trans}
use Rattle.sv_circuits.specs.Circuits.{IsWord}
use Rattle.sv_circuits.proofs.WordKeeps.{word_up}
use Rattle.sv_encoding.specs.Expressions.{expression_word}
use Rattle.sv_blast.specs.WordTables.{words_of}
use Rattle.sv_blast.proofs.Growing.{not_zero_grows}
use Rattle.sv_blast.proofs.LoopStages.{join_more, join_full, stand_at}
use Rattle.sv_blast.proofs.NodeSteps.{constant_bit, indexed_full}
use Rattle.sv_blast.proofs.PartSteps.{left_ready, right_ready, condition_ready, first_ready}
use Rattle.sv_blast.proofs.PartSteps.{second_ready, index_ready, piece_ready, operand_full}
use Rattle.sv_blast.proofs.PartSteps.{left_full}
use Rattle.sv_blast.proofs.PartSteps.{right_full, condition_full, first_full, second_full}
use Rattle.sv_blast.proofs.PartSteps.{held_full}
use Rattle.sv_blast.proofs.PartSteps.{mended_full, join_parts_ready, repeat_parts_ready}
use Rattle.sv_blast.proofs.PartSteps.{join_parts_full, repeat_parts_full, join_made, repeat_made}
use Rattle.sv_blast.proofs.expressions.Names.+expression_words.Goals as goal

-- ---- whether an expression is not 0

pub is_true-returns-in_err-word-clause-full : goal.is_true-returns-in_err-word-clause-full
is_true-returns-in_err-word-clause-full t c =
    let same : IsErrOf c.from_residual.result Full → IsErrOf c.expression.result Full =
    search rules in
    let made = expression_word (signal_forms c.args.self.now.signals.now)
    (words_of c.args.self.now.words.now)
    (typed_tree c.args.expr.now) c.args.gates.now in
    λ e. omega (arith, c.expression.ensures.full (same e), not_zero_grows made.1 made.0)

-- ---- bits by an index

pub bit-bit_at-requires-clause-formed : goal.bit-bit_at-requires-clause-formed
bit-bit_at-requires-clause-formed t c =
    constant_formed (signal_forms c.args.self.now.signals.now) [] (typed_tree c.args.index.now)
    (sym c.is_constant.ensures ∙ c.if-is_constant.true) c.requires.formed

pub bit-returns-then-is_constant-clause-made : goal.bit-returns-then-is_constant-clause-made
bit-returns-then-is_constant-clause-made t c =
    constant_bit (signal_forms c.args.self.now.signals.now) (words_of c.args.self.now.words.now)
    c.args.word.now (typed_tree c.args.index.now) c.args.gates.now c.bit_at.result
    (sym c.is_constant.ensures ∙ c.if-is_constant.true) c.bit_at.ensures.value

pub bit-returns-in_err-number-clause-full : goal.bit-returns-in_err-number-clause-full
bit-returns-in_err-number-clause-full t c =
    let same : IsErrOf c.from_residual.result Full → IsErrOf c.expression.result Full =
    search rules in
    λ e. indexed_full (signal_forms c.args.self.now.signals.now)
    (words_of c.args.self.now.words.now) most_variables c.args.word.now
    (typed_tree c.args.index.now) c.args.gates.now
    (sym c.is_constant.ensures ∙ c.if-is_constant.false) (c.expression.ensures.full (same e))

pub bit-picked-requires-clause-word : goal.bit-picked-requires-clause-word
bit-picked-requires-clause-word t c =
    word_up _ _ c.args.word.now c.in_ok-number.ensures.begins.grows c.requires.word

-- ---- unary operators

pub expression-returns-in_err-operand-in-Unary-clause-full :
    goal.expression-returns-in_err-operand-in-Unary-clause-full
expression-returns-in_err-operand-in-Unary-clause-full t c =
    let same : IsErrOf c.from_residual-in_err-operand-in-Unary.result Full →
    IsErrOf c.expression.result Full =
    search rules in
    λ e. operand_full (signal_forms c.args.self.now.signals.now)
    (words_of c.args.self.now.words.now)
    c.args.expr.now c.args.gates.now most_variables
    c.in-Unary.op c.in-Unary.operand.value (ap node_tree c.in-Unary.is)
    _ c.deref-in-Unary.ensures (c.expression.ensures.full (same e))

-- ---- binary operators

pub expression-operand-requires : goal.expression-operand-requires
expression-operand-requires t c = (
  search (rules, the_lemmas),
  left_ready (signal_forms c.args.self.now.signals.now) (words_of c.args.self.now.words.now)
      c.args.expr.now c.args.gates.now.variables c.requires.formed c.requires.words
      c.in-Binary.op c.in-Binary.left.value c.in-Binary.right.value (ap node_tree c.in-Binary.is)
      _ c.deref-in-Binary.ensures,
)

pub expression-operand-requires-in-Binary : goal.expression-operand-requires-in-Binary
expression-operand-requires-in-Binary t c = (
  search (rules, the_lemmas),
  right_ready (signal_forms c.args.self.now.signals.now) (words_of c.args.self.now.words.now)
      c.args.expr.now c.args.gates.now.variables c.requires.formed c.requires.words
      c.in-Binary.op c.in-Binary.left.value c.in-Binary.right.value (ap node_tree c.in-Binary.is)
      _ c.in_ok-first-in-Binary.ensures.begins.grows _ c.deref-in-Binary-2.ensures,
)

pub expression-returns-in_err-first-in-Binary-clause-full :
    goal.expression-returns-in_err-first-in-Binary-clause-full
expression-returns-in_err-first-in-Binary-clause-full t c =
    let same : IsErrOf c.from_residual-in_err-first-in-Binary.result Full →
    IsErrOf c.operand.result Full =
    search rules in
    λ e. left_full (signal_forms c.args.self.now.signals.now) (words_of c.args.self.now.words.now)
    c.args.expr.now c.args.gates.now most_variables
    c.in-Binary.op c.in-Binary.left.value c.in-Binary.right.value (ap node_tree c.in-Binary.is)
    c.class_of-class.result c.class_of-class.ensures _ c.deref-in-Binary.ensures
    (c.operand.ensures.full (same e))

pub expression-returns-in_err-second-in-Binary-clause-full :
    goal.expression-returns-in_err-second-in-Binary-clause-full
expression-returns-in_err-second-in-Binary-clause-full t c =
    let same : IsErrOf c.from_residual-in_err-second-in-Binary.result Full →
    IsErrOf c.operand-in-Binary.result Full =
    search rules in
    λ e. right_full (signal_forms c.args.self.now.signals.now) (words_of c.args.self.now.words.now)
    c.args.expr.now c.args.gates.now most_variables
    c.in-Binary.op c.in-Binary.left.value c.in-Binary.right.value (ap node_tree c.in-Binary.is)
    c.class_of-class.result c.class_of-class.ensures _ c.deref-in-Binary.ensures
    _ _ c.in_ok-first-in-Binary.ensures.made _ c.deref-in-Binary-2.ensures
    (c.operand-in-Binary.ensures.full (same e))

pub expression-binary_at-requires-clause-left : goal.expression-binary_at-requires-clause-left
expression-binary_at-requires-clause-left t c =
    subst (IsWord c.operand-in-Binary.new.gates.variables) (sym c.deref-in-Binary-4.ensures.value)
    (word_up _ _ c.in_ok-first-in-Binary.first.items
    c.in_ok-second-in-Binary.ensures.begins.grows c.in_ok-first-in-Binary.ensures.within)

-- ---- choices

pub expression-is_true-requires : goal.expression-is_true-requires
expression-is_true-requires t c = (
  search (rules, the_lemmas),
  condition_ready (signal_forms c.args.self.now.signals.now) (words_of c.args.self.now.words.now)
      c.args.expr.now c.args.gates.now.variables c.requires.formed c.requires.words
      c.in-Choice.field-0 c.in-Choice.cond.value c.in-Choice.yes.value c.in-Choice.no.value
      (ap node_tree c.in-Choice.is)
      _ c.deref-in-Choice.ensures,
)

pub expression-expression-requires-in-Choice : goal.expression-expression-requires-in-Choice
expression-expression-requires-in-Choice t c = (
  search (rules, the_lemmas),
  first_ready (signal_forms c.args.self.now.signals.now) (words_of c.args.self.now.words.now)
      c.args.expr.now c.args.gates.now.variables c.requires.formed c.requires.words
      c.in-Choice.field-0 c.in-Choice.cond.value c.in-Choice.yes.value c.in-Choice.no.value
      (ap node_tree c.in-Choice.is)
      _ c.in_ok-condition-in-Choice.ensures.begins.grows _ c.deref-in-Choice-2.ensures,
)

pub expression-expression-requires-in-Choice-2 : goal.expression-expression-requires-in-Choice-2
expression-expression-requires-in-Choice-2 t c =
    let up = (begins_trans _ _ _ c.in_ok-condition-in-Choice.ensures.begins
    c.in_ok-first-in-Choice.ensures.begins).grows in (
      search (rules, the_lemmas),
      second_ready (signal_forms c.args.self.now.signals.now) (words_of c.args.self.now.words.now)
          c.args.expr.now c.args.gates.now.variables c.requires.formed c.requires.words
          c.in-Choice.field-0 c.in-Choice.cond.value c.in-Choice.yes.value c.in-Choice.no.value
          (ap node_tree c.in-Choice.is)
          _ up _ c.deref-in-Choice-3.ensures,
    )

pub expression-returns-in_err-condition-in-Choice-clause-full :
    goal.expression-returns-in_err-condition-in-Choice-clause-full
expression-returns-in_err-condition-in-Choice-clause-full t c =
    let same : IsErrOf c.from_residual-in_err-condition-in-Choice.result Full →
    IsErrOf c.is_true.result Full =
    search rules in
    λ e. condition_full (signal_forms c.args.self.now.signals.now)
    (words_of c.args.self.now.words.now)
    c.args.expr.now c.args.gates.now most_variables
    c.in-Choice.field-0 c.in-Choice.cond.value c.in-Choice.yes.value c.in-Choice.no.value
    (ap node_tree c.in-Choice.is)
    _ c.deref-in-Choice.ensures (c.is_true.ensures.full (same e))

pub expression-returns-in_err-first-in-Choice-clause-full :
    goal.expression-returns-in_err-first-in-Choice-clause-full
expression-returns-in_err-first-in-Choice-clause-full t c =
    let same : IsErrOf c.from_residual-in_err-first-in-Choice.result Full →
    IsErrOf c.expression-in-Choice.result Full =
    search rules in
    λ e. first_full (signal_forms c.args.self.now.signals.now) (words_of c.args.self.now.words.now)
    c.args.expr.now c.args.gates.now most_variables
    c.in-Choice.field-0 c.in-Choice.cond.value c.in-Choice.yes.value c.in-Choice.no.value
    (ap node_tree c.in-Choice.is)
    _ c.deref-in-Choice.ensures _ _ c.in_ok-condition-in-Choice.ensures.made
    _ c.deref-in-Choice-2.ensures (c.expression-in-Choice.ensures.full (same e))

pub expression-returns-in_err-second-in-Choice-clause-full :
    goal.expression-returns-in_err-second-in-Choice-clause-full
expression-returns-in_err-second-in-Choice-clause-full t c =
    let same : IsErrOf c.from_residual-in_err-second-in-Choice.result Full →
    IsErrOf c.expression-in-Choice-2.result Full =
    search rules in
    λ e. second_full (signal_forms c.args.self.now.signals.now) (words_of c.args.self.now.words.now)
    c.args.expr.now c.args.gates.now most_variables
    c.in-Choice.field-0 c.in-Choice.cond.value c.in-Choice.yes.value c.in-Choice.no.value
    (ap node_tree c.in-Choice.is)
    _ c.deref-in-Choice.ensures _ _ c.in_ok-condition-in-Choice.ensures.made
    _ c.deref-in-Choice-2.ensures _ _ c.in_ok-first-in-Choice.ensures.made
    _ c.deref-in-Choice-3.ensures (c.expression-in-Choice-2.ensures.full (same e))

pub expression-chosen_at-requires-clause-first : goal.expression-chosen_at-requires-clause-first
expression-chosen_at-requires-clause-first t c =
    subst (IsWord c.expression-in-Choice-2.new.gates.variables)
    (sym c.deref-in-Choice-4.ensures.value)
    (word_up _ _ c.in_ok-first-in-Choice.first.items
    c.in_ok-second-in-Choice.ensures.begins.grows c.in_ok-first-in-Choice.ensures.within)

-- ---- concatenations

pub expression-joined-requires : goal.expression-joined-requires
expression-joined-requires t c = (
  search (rules, the_lemmas),
  join_parts_ready (signal_forms c.args.self.now.signals.now) (words_of c.args.self.now.words.now)
      c.args.expr.now c.in-Join.parts _ c.deref-in-Join.ensures.value
      c.args.gates.now.variables c.requires.formed c.requires.words (ap node_tree c.in-Join.is),
)

pub expression-returns-in_err-word-in-Join-clause-full :
    goal.expression-returns-in_err-word-in-Join-clause-full
expression-returns-in_err-word-in-Join-clause-full t c =
    let same : IsErrOf c.from_residual-in_err-word-in-Join.result Full →
    IsErrOf c.joined.result Full =
    search rules in
    λ e. join_parts_full (signal_forms c.args.self.now.signals.now)
    (words_of c.args.self.now.words.now)
    c.args.expr.now c.in-Join.parts _ c.deref-in-Join.ensures.value c.args.gates.now most_variables
    (ap node_tree c.in-Join.is) (c.joined.ensures.full (same e))

pub expression-returns-in_ok-filled_at-in-Join-clause-made :
    goal.expression-returns-in_ok-filled_at-in-Join-clause-made
expression-returns-in_ok-filled_at-in-Join-clause-made t c =
    join_made (signal_forms c.args.self.now.signals.now) (words_of c.args.self.now.words.now)
    c.args.expr.now c.in-Join.parts _ c.deref-in-Join.ensures.value c.args.gates.now
    c.joined.new.gates c.in_ok-word-in-Join.word.items c.deref-in-Join-2.result.now
    c.in_ok-filled_at-in-Join.field-0.items c.in_ok-word-in-Join.ensures.made
    c.deref-in-Join-2.ensures.value (ap node_tree c.in-Join.is)
    c.in_ok-filled_at-in-Join.ensures.made

pub expression-joined-requires-in-Repeat : goal.expression-joined-requires-in-Repeat
expression-joined-requires-in-Repeat t c = (
  search (rules, the_lemmas),
  repeat_parts_ready (signal_forms c.args.self.now.signals.now) (words_of c.args.self.now.words.now)
      c.args.expr.now c.in-Repeat.parts _ c.deref-in-Repeat.ensures.value
      c.args.gates.now.variables c.requires.formed c.requires.words c.in-Repeat.count
      (ap node_tree c.in-Repeat.is),
)

pub expression-returns-in_err-word-in-Repeat-clause-full :
    goal.expression-returns-in_err-word-in-Repeat-clause-full
expression-returns-in_err-word-in-Repeat-clause-full t c =
    let same : IsErrOf c.from_residual-in_err-word-in-Repeat.result Full →
    IsErrOf c.joined-in-Repeat.result Full =
    search rules in
    λ e. repeat_parts_full (signal_forms c.args.self.now.signals.now)
    (words_of c.args.self.now.words.now)
    c.args.expr.now c.in-Repeat.parts _ c.deref-in-Repeat.ensures.value c.args.gates.now
    most_variables
    c.in-Repeat.count (ap node_tree c.in-Repeat.is) (c.joined-in-Repeat.ensures.full (same e))

pub expression-returns-in_ok-repeated_at-in-Repeat-clause-made :
    goal.expression-returns-in_ok-repeated_at-in-Repeat-clause-made
expression-returns-in_ok-repeated_at-in-Repeat-clause-made t c =
    repeat_made (signal_forms c.args.self.now.signals.now) (words_of c.args.self.now.words.now)
    c.args.expr.now c.in-Repeat.parts _ c.deref-in-Repeat.ensures.value c.args.gates.now
    c.joined-in-Repeat.new.gates c.in_ok-word-in-Repeat.word.items c.deref-in-Repeat-2.result.now
    c.in_ok-repeated_at-in-Repeat.field-0.items c.in_ok-word-in-Repeat.ensures.made
    c.deref-in-Repeat-2.ensures.value c.in-Repeat.count (ap node_tree c.in-Repeat.is)
    c.in_ok-repeated_at-in-Repeat.ensures.made

-- ---- what was put in for names

pub expression-returns-in_err-word-in-HeldBit-clause-full :
    goal.expression-returns-in_err-word-in-HeldBit-clause-full
expression-returns-in_err-word-in-HeldBit-clause-full t c =
    let same : IsErrOf c.from_residual-in_err-word-in-HeldBit.result Full →
    IsErrOf c.cut-in-HeldBit.result Full =
    search rules in
    λ e. held_full (signal_forms c.args.self.now.signals.now) (words_of c.args.self.now.words.now)
    c.args.expr.now c.args.gates.now most_variables
    c.in-HeldBit.signal.0 c.in-HeldBit.field-1 c.in-HeldBit.value.value c.in-HeldBit.index.value
    (ap node_tree c.in-HeldBit.is)
    _ c.deref-in-HeldBit.ensures (c.cut-in-HeldBit.ensures.full (same e))

pub expression-bit-requires-in-HeldBit : goal.expression-bit-requires-in-HeldBit
expression-bit-requires-in-HeldBit t c =
    let ready = index_ready (signal_forms c.args.self.now.signals.now)
    (words_of c.args.self.now.words.now)
    c.args.expr.now c.args.gates.now.variables c.requires.formed c.requires.words
    c.in-HeldBit.signal.0 c.in-HeldBit.field-1 c.in-HeldBit.value.value c.in-HeldBit.index.value
    (ap node_tree c.in-HeldBit.is)
    _ c.in_ok-word-in-HeldBit.ensures.begins.grows _ c.deref-in-HeldBit-3.ensures in (
      search (rules, the_lemmas),
      (
        ready.0,
        (ready.1, rw c.deref-in-HeldBit-2.ensures.value c.in_ok-word-in-HeldBit.ensures.within),
      ),
    )

pub expression-returns-in_err-word-in-Mend-clause-full :
    goal.expression-returns-in_err-word-in-Mend-clause-full
expression-returns-in_err-word-in-Mend-clause-full t c =
    let same : IsErrOf c.from_residual-in_err-word-in-Mend.result Full →
    IsErrOf c.cut-in-Mend.result Full =
    search rules in
    λ e. mended_full (signal_forms c.args.self.now.signals.now) (words_of c.args.self.now.words.now)
    c.args.expr.now c.args.gates.now most_variables
    c.in-Mend.signal.0 c.in-Mend.old.value c.in-Mend.high c.in-Mend.low c.in-Mend.piece.value
    (ap node_tree c.in-Mend.is)
    _ c.deref-in-Mend.ensures (c.cut-in-Mend.ensures.full (same e))

pub expression-expression-requires-in-Mend : goal.expression-expression-requires-in-Mend
expression-expression-requires-in-Mend t c = (
  search (rules, the_lemmas),
  piece_ready (signal_forms c.args.self.now.signals.now) (words_of c.args.self.now.words.now)
      c.args.expr.now c.args.gates.now.variables c.requires.formed c.requires.words
      c.in-Mend.signal.0 c.in-Mend.old.value c.in-Mend.high c.in-Mend.low c.in-Mend.piece.value
      (ap node_tree c.in-Mend.is)
      _ c.in_ok-word-in-Mend.ensures.begins.grows _ c.deref-in-Mend-2.ensures,
)

pub expression-replaced_at-requires-clause-word : goal.expression-replaced_at-requires-clause-word
expression-replaced_at-requires-clause-word t c =
    subst (IsWord c.expression-in-Mend.new.gates.variables) (sym c.deref-in-Mend-4.ensures.value)
    (word_up _ _ c.in_ok-word-in-Mend.word.items c.in_ok-piece-in-Mend.ensures.begins.grows
    c.in_ok-word-in-Mend.ensures.within)

-- ---- parts one after the other

pub joined-expression-requires : goal.joined-expression-requires
joined-expression-requires t c =
    let signals = signal_forms c.args.self.now.signals.now in
    let words = words_of c.args.self.now.words.now in (
      search (rules, the_lemmas),
      (
        formed_at signals c.args.parts.now c.parts.part-index c.part-item.result c.parts-test.true
            c.part-item.is c.requires.formed,
        stand_at signals words _ _ c.args.parts.now c.parts.part-index c.part-item.result
            c.parts.invariant.begins.grows c.parts-test.true c.part-item.is c.requires.words,
      ),
    )

pub joined-returns-in_err-word-clause-full : goal.joined-returns-in_err-word-clause-full
joined-returns-in_err-word-clause-full t c =
    let same : IsErrOf c.from_residual.result Full → IsErrOf c.expression.result Full =
    search rules in
    let at = parts_at c.args.parts.now c.parts.part-index c.part-item.result c.parts-test.true
    c.part-item.is in
    λ e. join_full (signal_forms c.args.self.now.signals.now) (words_of c.args.self.now.words.now) _
    _ _
    (typed_tree c.part-item.result) _ c.parts.gates c.parts.above.items most_variables
    c.parts.invariant at (c.expression.ensures.full (same e))

pub joined-parts-preserved : goal.joined-parts-preserved
joined-parts-preserved t c =
    let at = parts_at c.args.parts.now c.parts.part-index c.part-item.result c.parts-test.true
    c.part-item.is in
    join_more (signal_forms c.args.self.now.signals.now) (words_of c.args.self.now.words.now) _ _ _
    (typed_tree c.part-item.result) _ c.parts.gates c.expression.new.gates c.parts.above.items
    c.in_ok-word.word.items _ c.parts.invariant at c.in_ok-word.ensures.made
    c.in_ok-word.ensures.within c.in_ok-word.ensures.begins
    (c.in_ok-extend_from_slice.ensures.items
    ∙ ap (λ z. c.in_ok-word.word.items ++ z) c.deref.ensures.value)
