use Rattle.std.proofs.Common.{◌+◌, ◌^◌, ◌≤◌, ◌∙◌, arith}
use Rattle.std.proofs.Math.Pow.{pow_mono}
use Rattle.sv_num.proofs.BitsLemmas.{joined_low, joined_word}
use Rattle.sv_num.proofs.parts.concat.Goals as goal

pub overflow_add-high : goal.overflow_add-high
overflow_add-high c =
    let a = c.args.a in
    let b = c.args.b in
    let more : 2 ^ (a.width + b.width) ≤ 2 ^ 64 = pow_mono c.requires in
    rw (
      c.value.ensures.value,
      c.width.ensures.width,
      c.value-2.ensures.value,
      joined_word a.value
          b.value a.width b.width a.in_range.2 c.requires,
    )
    (omega (arith, joined_low a.value b.value a.width b.width a.in_range.2 b.in_range.2))

pub of_type-requires-clause-low : goal.of_type-requires-clause-low
of_type-requires-clause-low c =
    let a = c.args.a in
    let b = c.args.b in
    rw (
      c.value.ensures.value,
      c.width.ensures.width,
      c.value-2.ensures.value,
      c.width-2.ensures.width,
      c.width-3.ensures.width,
      joined_word a.value b.value a.width
          b.width a.in_range.2 c.requires,
    )
    (joined_low a.value b.value a.width b.width a.in_range.2 b.in_range.2)

pub returns-clause-value : goal.returns-clause-value
returns-clause-value c =
    let a = c.args.a in
    let b = c.args.b in
    let given = rw (c.value.ensures.value, c.width.ensures.width, c.value-2.ensures.value) at
    c.of_type.ensures.value in
    given ∙ joined_word a.value b.value a.width b.width a.in_range.2 c.requires
