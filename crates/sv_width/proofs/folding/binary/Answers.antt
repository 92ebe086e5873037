use Rattle.std.proofs.Common.{◌^◌, ◌<◌, subst}
use Rattle.sv_width.proofs.Folds.{one_type}
use Rattle.sv_width.proofs.Low.{binary_low}
use Rattle.sv_width.proofs.folding.binary.Goals as goal

pub apply_binary-requires-clause-types : goal.apply_binary-requires-clause-types
apply_binary-requires-clause-types c =
    one_type c.args.op c.args.types.to.width c.args.types.a.width c.args.types.b.width
    c.args.types.to.signed c.args.types.a.signed c.args.types.b.signed c.args.left c.args.right
    c.requires.left c.requires.left_signed c.requires.right c.requires.right_signed

pub of_type-requires-clause-low : goal.of_type-requires-clause-low
of_type-requires-clause-low c =
    let n = c.args.types.to.width in
    let la = c.args.types.a.width in
    let lb = c.args.types.b.width in
    let op = c.args.op in
    rw (
      c.value-value.ensures.value,
      c.apply_binary.ensures.value,
      c.requires.left,
      c.requires.left_signed,
    )
    (binary_low op n c.args.types.to.signed la lb c.args.types.a.signed c.args.types.b.signed
    c.args.left.value c.args.right.value
    c.args.types.to.in_range.0
    (subst (λ w. c.args.left.value < 2 ^ w) c.requires.left c.args.left.in_range.2)
    (subst (λ w. c.args.right.value < 2 ^ w) c.requires.right c.args.right.in_range.2))
