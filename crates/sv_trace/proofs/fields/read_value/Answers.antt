use Rattle.std.proofs.Common.{◌≡◌, ◌<◌, ◌+◌, ◌*◌, get_or, sym, ap, ◌∙◌, arith, refl}
use Rattle.std.specs.Char.{digit_value}
use Rattle.sv_trace.proofs.Values.{has_room_for_digit, one_more, whole_is_one}
use Rattle.sv_trace.proofs.fields.read_value.Goals as goal

pub overflow_mul-value : goal.overflow_mul-value
overflow_mul-value c =
    let room = has_room_for_digit c.args.digits.now c.digits.digit-index c.digits.value
    (omega arith) (omega arith) c.digits.invariant.0 c.digits.invariant.1 in
    omega (arith, room)

pub overflow_add-value : goal.overflow_add-value
overflow_add-value c =
    let room = has_room_for_digit c.args.digits.now c.digits.digit-index c.digits.value
    (omega arith) (omega arith) c.digits.invariant.0 c.digits.invariant.1 in
    let small = c.in-Some.ensures.value.0 in
    let is = c.in-Some.ensures.value.1 in
    omega (arith, room, small, is, c.from-in-digits.ensures)

pub digits-preserved : goal.digits-preserved
digits-preserved c =
    let d : digit_value c.from.result ≡ digit_value
    (get_or c.args.digits.now c.digits.digit-index 0) =
    ap digit_value c.from.ensures in
    let is : c.from-in-digits.result ≡ digit_value (get_or c.args.digits.now c.digits.digit-index
    0) =
    c.from-in-digits.ensures ∙ (c.in-Some.ensures.value.1 ∙ d) in
    let small : digit_value (get_or c.args.digits.now c.digits.digit-index 0) < 16 =
    omega (arith, d, c.in-Some.ensures.value.0) in
    let more = one_more c.args.digits.now c.digits.digit-index c.digits.value (omega arith) small
    c.digits.invariant.0 c.digits.invariant.1 in
    (more.0, ap (λ n. c.digits.value * 16 + n) is ∙ more.1)

pub returns-clause-found : goal.returns-clause-found
returns-clause-found c =
    sym (whole_is_one c.args.width c.args.digits.now c.digits.digit-index c.digits.value
    (sym c.is_empty.ensures ∙ c.if-is_empty.false) (omega arith) (omega arith)
    c.digits.invariant.0 c.digits.invariant.1 (c.if-not-has_room.ensures.0 refl))
