use Rattle.std.proofs.Common.{sym, ap, ◌∙◌, get_or, arith}
use Rattle.std.proofs.lemmas.List.{take_rest}
use Rattle.sv_token.specs.Fronts.{gap}
use Rattle.sv_token.specs.Gaps.{rest_of_line}
use Rattle.sv_token.proofs.FrontLaws.{IsOther, blank_front, line_front, block_front}
use Rattle.sv_token.proofs.FrontLaws.{directive_front, escaped_front, text_front, system_front}
use Rattle.sv_token.proofs.FrontLaws.{unsized_front, other_front}
use Rattle.sv_token.proofs.lexer.front_at.Goals as goal

pub returns-then-is_blank : goal.returns-then-is_blank
returns-then-is_blank c =
    sym (blank_front c.args.bytes.now c.requires (sym c.is_blank.ensures ∙ c.if-is_blank.true))

pub returns-then-starts_with : goal.returns-then-starts_with
returns-then-starts_with c =
    let clear = sym c.is_blank.ensures ∙ c.if-is_blank.false in
    let line = sym c.starts_with.ensures.value ∙ c.if-starts_with.true in
    ap gap (c.rest_of_line.ensures ∙ ap rest_of_line (take_rest c.args.bytes.now 1))
    ∙ sym (line_front c.args.bytes.now c.requires clear line)

pub returns-then-starts_with-2 : goal.returns-then-starts_with-2
returns-then-starts_with-2 c =
    let clear = sym c.is_blank.ensures ∙ c.if-is_blank.false in
    let line = sym c.starts_with.ensures.value ∙ c.if-starts_with.false in
    let block = sym c.starts_with-2.ensures.value ∙ c.if-starts_with-2.true in
    c.block_comment_at.ensures ∙ sym (block_front c.args.bytes.now c.requires clear line block)

pub returns-in-96 : goal.returns-in-96
returns-in-96 c =
    c.directive_at.ensures ∙ sym (directive_front c.args.bytes.now c.requires c.in-96.is)

pub returns-in-92 : goal.returns-in-92
returns-in-92 c =
    rw c.left_out.ensures (sym (escaped_front c.args.bytes.now c.requires c.in-92.is))

pub returns-in-34 : goal.returns-in-34
returns-in-34 c =
    rw c.left_out-in-34.ensures (sym (text_front c.args.bytes.now c.requires c.in-34.is))

pub returns-in-36 : goal.returns-in-36
returns-in-36 c =
    c.system_name_at.ensures ∙ sym (system_front c.args.bytes.now c.requires c.in-36.is)

pub returns-in-39 : goal.returns-in-39
returns-in-39 c =
    c.unsized_number_at.ensures ∙ sym (unsized_front c.args.bytes.now c.requires c.in-39.is)

pub returns-in_default : goal.returns-in_default
returns-in_default c =
    let clear = sym c.is_blank.ensures ∙ c.if-is_blank.false in
    let line = sym c.starts_with.ensures.value ∙ c.if-starts_with.false in
    let block = sym c.starts_with-2.ensures.value ∙ c.if-starts_with-2.false in
    let other : IsOther (get_or c.args.bytes.now 0 0) =
    record {
      tick = λ e. omega (arith, e);
      backslash = λ e. omega (arith, e);
      quote = λ e. omega (arith, e);
      dollar = λ e. omega (arith, e);
      apostrophe = λ e. omega (arith, e);
    } in
    let same = other_front c.args.bytes.now c.requires clear line block other in
    let digit = sym c.is_digit.ensures ∙ c.if-is_digit.true in
    c.number_at.ensures ∙ sym (rw digit at same)

pub returns-in_default-2 : goal.returns-in_default-2
returns-in_default-2 c =
    let clear = sym c.is_blank.ensures ∙ c.if-is_blank.false in
    let line = sym c.starts_with.ensures.value ∙ c.if-starts_with.false in
    let block = sym c.starts_with-2.ensures.value ∙ c.if-starts_with-2.false in
    let other : IsOther (get_or c.args.bytes.now 0 0) =
    record {
      tick = λ e. omega (arith, e);
      backslash = λ e. omega (arith, e);
      quote = λ e. omega (arith, e);
      dollar = λ e. omega (arith, e);
      apostrophe = λ e. omega (arith, e);
    } in
    let same = other_front c.args.bytes.now c.requires clear line block other in
    let digit = sym c.is_digit.ensures ∙ c.if-is_digit.false in
    let name = sym c.begins_name.ensures ∙ c.if-begins_name.true in
    c.name_at.ensures ∙ sym (rw name at (rw digit at same))

pub returns-in_default-3 : goal.returns-in_default-3
returns-in_default-3 c =
    let clear = sym c.is_blank.ensures ∙ c.if-is_blank.false in
    let line = sym c.starts_with.ensures.value ∙ c.if-starts_with.false in
    let block = sym c.starts_with-2.ensures.value ∙ c.if-starts_with-2.false in
    let other : IsOther (get_or c.args.bytes.now 0 0) =
    record {
      tick = λ e. omega (arith, e);
      backslash = λ e. omega (arith, e);
      quote = λ e. omega (arith, e);
      dollar = λ e. omega (arith, e);
      apostrophe = λ e. omega (arith, e);
    } in
    let same = other_front c.args.bytes.now c.requires clear line block other in
    let digit = sym c.is_digit.ensures ∙ c.if-is_digit.false in
    let name = sym c.begins_name.ensures ∙ c.if-begins_name.false in
    c.sign_at.ensures ∙ sym (rw name at (rw digit at same))
