use Rattle.std.proofs.Common.{length, drop, take, ◌-◌, refl, sym}
use Rattle.std.proofs.lemmas.List.{take_rest}
use Rattle.sv_token.specs.Bytes.{next_is, begins_name}
use Rattle.sv_token.proofs.GapLaws.{directive_is, directive_other}
use Rattle.sv_token.proofs.gaps.directive_at.Goals as goal

pub returns-then-is_skipped : goal.returns-then-is_skipped
returns-then-is_skipped c =
    let same = directive_is c.args.bytes.now _ c.name_length.result c.is_skipped.result
    (next_is begins_name (take (length c.args.bytes.now - 1) (drop 1 c.args.bytes.now)))
    (take_rest c.args.bytes.now 1) c.name_length.ensures.is c.is_skipped.ensures refl in
    let skipped = rw c.if-is_skipped.true at same in
    rw c.rest_of_line.ensures (sym skipped)

pub returns-then-name_is_next : goal.returns-then-name_is_next
returns-then-name_is_next c =
    let other = directive_other c.args.bytes.now c.name_length.result c.is_skipped.result
    c.name_is_next.result c.name_length.ensures.is c.is_skipped.ensures c.name_is_next.ensures
    c.if-is_skipped.false in
    rw c.left_out.ensures (sym (rw c.if-name_is_next.true at other))

pub returns-else-name_is_next : goal.returns-else-name_is_next
returns-else-name_is_next c =
    let other = directive_other c.args.bytes.now c.name_length.result c.is_skipped.result
    c.name_is_next.result c.name_length.ensures.is c.is_skipped.ensures c.name_is_next.ensures
    c.if-is_skipped.false in
    sym (rw c.if-name_is_next.false at other)
