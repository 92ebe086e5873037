use Rattle.std.proofs.Common.{◌∙◌, sym}
use Rattle.sv_token.proofs.NumeralLaws.{four_by, known_by}
use Rattle.sv_token.proofs.numerals.based_at.Goals as goal

pub returns-then-has_four_state : goal.returns-then-has_four_state
returns-then-has_four_state c =
    rw c.left_out.ensures
    (sym (four_by c.args.bytes.now c.args.quote c.args.size c.args.head c.digits_length.result
    c.requires.some c.requires.few c.requires.within c.digits_length.ensures.is
    (sym c.underscore_is_next.ensures ∙ c.if-underscore_is_next.false)
    (sym c.has_four_state.ensures ∙ c.if-has_four_state.true)))

pub returns-in-Some : goal.returns-in-Some
returns-in-Some c =
    rw c.based_literal.ensures
    (sym (rw c.in-Some.is at (known_by c.args.bytes.now c.args.quote c.args.size c.args.head
    c.digits_length.result c.checked_value.result c.requires.some c.requires.few c.requires.within
    c.digits_length.ensures.is (sym c.underscore_is_next.ensures ∙ c.if-underscore_is_next.false)
    (sym c.has_four_state.ensures ∙ c.if-has_four_state.false) c.checked_value.ensures)))

pub returns-in-None : goal.returns-in-None
returns-in-None c =
    sym (rw c.in-None.is at (known_by c.args.bytes.now c.args.quote c.args.size c.args.head
    c.digits_length.result c.checked_value.result c.requires.some c.requires.few c.requires.within
    c.digits_length.ensures.is (sym c.underscore_is_next.ensures ∙ c.if-underscore_is_next.false)
    (sym c.has_four_state.ensures ∙ c.if-has_four_state.false) c.checked_value.ensures))
