use Rattle.std.proofs.Common.{◌≡◌, ◌+◌, ◌*◌, ◌^◌, ◌<◌, sym, ap, ap₂, subst, ◌∙◌, arith, rules}
use Rattle.std.proofs.Common.{drop}
use Rattle.sv_flat.specs.ByNumber.{signal_forms, by_number}
use Rattle.sv_flat.specs.declared.expressions.FNode.{the_lemmas}
use Rattle.sv_num.specs.Parts.{repeated}
use Rattle.sv_flat.specs.Values.{node_value, joined, parts_width}
use Rattle.sv_flat.specs.Views.{node_tree, typed_tree}
use Rattle.sv_flat.proofs.BitFacts.{fits_in_word}
use Rattle.sv_flat.proofs.NodeForms.{wider, between_below, part_few, held_part_few, slice_few}
use Rattle.sv_flat.proofs.NodeForms.{unary_gives, binary_gives, join_few, repeat_few, one_of}
use Rattle.sv_flat.proofs.Parts.{trees, parts_at, formed_at, one_more}
use Rattle.sv_flat.proofs.ReplacedBits.{beside_below}
use Rattle.sv_flat.proofs.Rows.{row_parts-hidden}
use Rattle.sv_flat.proofs.values.Environment.+expression_values.Goals as goal

-- ---- parts

pub joined-value_of-requires : goal.joined-value_of-requires
joined-value_of-requires t c = (
  search (rules, the_lemmas),
  (
    formed_at (signal_forms c.args.self.now.signals.now) c.args.parts.now c.loop-part.part-index
        c.part-item.result c.loop-part-test.true c.part-item.is c.requires.formed,
    c.requires.fit,
  ),
)

pub joined-beside-value-requires : goal.joined-beside-value-requires
joined-beside-value-requires t c =
    let e = c.part-item.result in
    let at = parts_at c.args.parts.now c.loop-part.part-index e c.loop-part-test.true
    c.part-item.is in
    let width : parts_width (trees (drop c.loop-part.part-index c.args.parts.now)) ≡
    e.width + parts_width (trees (drop (c.loop-part.part-index + 1) c.args.parts.now)) = ap
    parts_width at in
    fits_in_word (c.loop-part.width + e.width) _
    (omega (arith, width, c.loop-part.invariant.0, c.requires.few))
    (beside_below c.loop-part.value c.value_of.result c.loop-part.width e.width
    c.loop-part.invariant.2 c.value_of.ensures.range)

pub joined-loop-part-preserved : goal.joined-loop-part-preserved
joined-loop-part-preserved t c =
    let e = c.part-item.result in
    let signals = signal_forms c.args.self.now.signals.now in
    let values = by_number c.args.self.now.values.now in
    let left = trees (drop (c.loop-part.part-index + 1) c.args.parts.now) in
    let at = parts_at c.args.parts.now c.loop-part.part-index e c.loop-part-test.true
    c.part-item.is in
    let width : parts_width (trees (drop c.loop-part.part-index c.args.parts.now)) ≡
    e.width + parts_width left = ap parts_width at in (
      omega (arith, width, c.loop-part.invariant.0),
      ap (λ z. z * 2 ^ parts_width left + joined signals values left) (c.beside-value.ensures
          ∙ ap (λ v. c.loop-part.value * 2 ^ e.width + v) c.value_of.ensures.value)
          ∙ one_more c.loop-part.value _ e.width (parts_width left) (joined signals values left)
          ∙ ap₂ (λ k j. c.loop-part.value * 2 ^ k + j) (sym width)
          (sym (ap (joined signals values) at))
          ∙ c.loop-part.invariant.1,
      subst (λ z. z < 2 ^ (c.loop-part.width + e.width)) (sym c.beside-value.ensures)
          (beside_below c.loop-part.value c.value_of.result c.loop-part.width e.width
          c.loop-part.invariant.2 c.value_of.ensures.range),
    )

-- ---- joins and replications

pub node_value-joined-requires : goal.node_value-joined-requires
node_value-joined-requires t c =
    let is = c.deref-in-Join.ensures.value in
    let form = join_few (signal_forms c.args.self.now.signals.now) c.args.width c.args.signed
    (node_tree c.args.node.now) c.in-Join.parts (ap node_tree c.in-Join.is) c.requires.formed in (
      search (rules, the_lemmas),
      (rw is (omega (arith, form.0, c.requires.few)), (rw is form.1, c.requires.fit)),
    )

pub node_value-joined-requires-in-Repeat : goal.node_value-joined-requires-in-Repeat
node_value-joined-requires-in-Repeat t c =
    let is = c.deref-in-Repeat.ensures.value in
    let form = repeat_few (signal_forms c.args.self.now.signals.now) c.args.width c.args.signed
    (node_tree c.args.node.now) c.in-Repeat.count c.in-Repeat.parts
    (ap node_tree c.in-Repeat.is) c.requires.formed in
    let one = one_of c.in-Repeat.count (parts_width (trees c.in-Repeat.parts.items)) c.args.width
    form.0 form.1 in (
      search (rules, the_lemmas),
      (rw is (omega (arith, one, c.requires.few)), (rw is form.2, c.requires.fit)),
    )

pub node_value-repeated-requires-clause-few : goal.node_value-repeated-requires-clause-few
node_value-repeated-requires-clause-few t c =
    let form = repeat_few (signal_forms c.args.self.now.signals.now) c.args.width c.args.signed
    (node_tree c.args.node.now) c.in-Repeat.count c.in-Repeat.parts
    (ap node_tree c.in-Repeat.is) c.requires.formed in
    rw (c.joined-in-Repeat.ensures.width, c.deref-in-Repeat.ensures.value)
    (omega (arith, form.1, c.requires.few))

pub node_value-returns-in-Join-clause-value : goal.node_value-returns-in-Join-clause-value
node_value-returns-in-Join-clause-value t c =
    let signals = signal_forms c.args.self.now.signals.now in
    let values = by_number c.args.self.now.values.now in
    c.joined.ensures.value
    ∙ ap (λ es. joined signals values (trees es)) c.deref-in-Join.ensures.value
    ∙ ap (joined signals values) (sym (row_parts-hidden c.in-Join.parts))
    ∙ ap (node_value signals values c.args.width c.args.signed) (sym (ap node_tree c.in-Join.is))

pub node_value-returns-in-Join-clause-range : goal.node_value-returns-in-Join-clause-range
node_value-returns-in-Join-clause-range t c =
    let is = c.deref-in-Join.ensures.value in
    let form = join_few (signal_forms c.args.self.now.signals.now) c.args.width c.args.signed
    (node_tree c.args.node.now) c.in-Join.parts (ap node_tree c.in-Join.is) c.requires.formed in
    wider c.joined.result.0 c.args.width c.joined.result.1 (rw (c.joined.ensures.width, is) form.0)
    c.joined.ensures.range

pub node_value-returns-in-Repeat-clause-value : goal.node_value-returns-in-Repeat-clause-value
node_value-returns-in-Repeat-clause-value t c =
    let signals = signal_forms c.args.self.now.signals.now in
    let values = by_number c.args.self.now.values.now in
    let es = ap trees c.deref-in-Repeat.ensures.value ∙ sym (row_parts-hidden c.in-Repeat.parts) in
    c.repeated.ensures.value
    ∙ ap₂ (repeated c.in-Repeat.count) (c.joined-in-Repeat.ensures.width ∙ ap parts_width es)
    (c.joined-in-Repeat.ensures.value ∙ ap (joined signals values) es)
    ∙ ap (node_value signals values c.args.width c.args.signed) (sym (ap node_tree c.in-Repeat.is))

pub node_value-returns-in-Repeat-clause-range : goal.node_value-returns-in-Repeat-clause-range
node_value-returns-in-Repeat-clause-range t c =
    let is = c.deref-in-Repeat.ensures.value in
    let form = repeat_few (signal_forms c.args.self.now.signals.now) c.args.width c.args.signed
    (node_tree c.args.node.now) c.in-Repeat.count c.in-Repeat.parts
    (ap node_tree c.in-Repeat.is) c.requires.formed in
    wider (c.in-Repeat.count * c.joined-in-Repeat.result.0) c.args.width c.repeated.result
    (rw (c.joined-in-Repeat.ensures.width, is) form.1) c.repeated.ensures.range

-- ---- ranges

pub node_value-returns-in-Bit-clause-range : goal.node_value-returns-in-Bit-clause-range
node_value-returns-in-Bit-clause-range t c =
    wider 1 c.args.width c.indexed.result c.requires.some c.indexed.ensures.range

pub node_value-returns-in-HeldBit-clause-range : goal.node_value-returns-in-HeldBit-clause-range
node_value-returns-in-HeldBit-clause-range t c =
    wider 1 c.args.width c.indexed-in-HeldBit.result c.requires.some
    c.indexed-in-HeldBit.ensures.range

pub node_value-returns-in-Part-clause-range : goal.node_value-returns-in-Part-clause-range
node_value-returns-in-Part-clause-range t c =
    rw c.bits_between.ensures (between_below c.in-Part.high c.in-Part.low _ c.args.width
    (part_few (signal_forms c.args.self.now.signals.now) c.args.width c.args.signed
    (node_tree c.args.node.now) _ _ c.in-Part.high c.in-Part.low (ap node_tree c.in-Part.is)
    c.requires.formed))

pub node_value-returns-in-HeldPart-clause-range : goal.node_value-returns-in-HeldPart-clause-range
node_value-returns-in-HeldPart-clause-range t c =
    rw c.bits_between-in-HeldPart.ensures
    (between_below c.in-HeldPart.high c.in-HeldPart.low _ c.args.width
    (held_part_few (signal_forms c.args.self.now.signals.now) c.args.width c.args.signed
    (node_tree c.args.node.now) _ _ _ c.in-HeldPart.high c.in-HeldPart.low
    (ap node_tree c.in-HeldPart.is) c.requires.formed))

pub node_value-returns-in-Slice-clause-range : goal.node_value-returns-in-Slice-clause-range
node_value-returns-in-Slice-clause-range t c =
    rw c.bits_between-in-Slice.ensures (between_below c.in-Slice.high c.in-Slice.low _ c.args.width
    (slice_few (signal_forms c.args.self.now.signals.now) c.args.width c.args.signed
    (node_tree c.args.node.now) _ c.in-Slice.high c.in-Slice.low (ap node_tree c.in-Slice.is)
    c.requires.formed))

pub node_value-returns-in-Unary-clause-range : goal.node_value-returns-in-Unary-clause-range
node_value-returns-in-Unary-clause-range t c =
    wider c.apply_unary.result.width c.args.width c.value.result
    (rw (c.apply_unary.ensures.width, c.typed_value.ensures.width, c.deref-in-Unary.ensures)
    (unary_gives (signal_forms c.args.self.now.signals.now) c.args.width c.args.signed
    (node_tree c.args.node.now) c.in-Unary.op (typed_tree c.in-Unary.operand.value)
    c.requires.some (ap node_tree c.in-Unary.is) c.requires.formed))
    c.value.ensures.range

pub node_value-returns-in-Binary-clause-range : goal.node_value-returns-in-Binary-clause-range
node_value-returns-in-Binary-clause-range t c =
    wider c.apply_binary.result.width c.args.width c.value-in-Binary.result
    (rw (c.apply_binary.ensures.width, c.typed_value-left.ensures.width, c.deref-in-Binary.ensures)
    (binary_gives (signal_forms c.args.self.now.signals.now) c.args.width c.args.signed
    (node_tree c.args.node.now) c.in-Binary.op (typed_tree c.in-Binary.left.value)
    (typed_tree c.in-Binary.right.value) c.requires.some (ap node_tree c.in-Binary.is)
    c.requires.formed))
    c.value-in-Binary.ensures.range
