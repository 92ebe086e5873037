use Rattle.std.proofs.Common.{ℕ, ◌∙◌, ap, sym, take, drop, ◌+◌, Some}
use Rattle.std.proofs.lemmas.List.{take_rest}
use Rattle.std.specs.List.{prefix_len}
use Rattle.sv_token.specs.Numerals.{quoted_head_at, continues_decimal, value_in, based_at}
use Rattle.sv_token.specs.Views.{head_behind}
use Rattle.sv_token.proofs.NumeralLaws.{number_none, number_sized, bad_size}
use Rattle.sv_token.proofs.numerals.number_at.Goals as goal

pub returns-in_default : goal.returns-in_default
returns-in_default c =
    let n : ℕ = 1 + c.decimal_length-count.result in
    let is = ap (λ (k : ℕ).
    1 + k) (c.decimal_length-count.ensures.is
    ∙ ap (prefix_len continues_decimal) (take_rest c.args.bytes.now 1)) in
    c.decimal_at.ensures
    ∙ sym (number_none c.args.bytes.now n c.requires is (c.in_default.ensures.is
    ∙ ap quoted_head_at (take_rest c.args.bytes.now n)))

pub returns-in-None : goal.returns-in-None
returns-in-None c =
    let n : ℕ = 1 + c.decimal_length-count.result in
    let found = number_sized c.args.bytes.now c.decimal_length-count.result c.in-Some.head
    c.requires c.decimal_length-count.ensures.is c.in-Some.ensures.is in
    sym (found ∙ bad_size (drop 1 c.args.bytes.now) (Some (value_in 10 (take n c.args.bytes.now)))
    (head_behind c.args.bytes.now (n + 1) c.in-Some.head) c.in-None.ensures)

pub returns-in-Some-size_in : goal.returns-in-Some-size_in
returns-in-Some-size_in c =
    let n : ℕ = 1 + c.decimal_length-count.result in
    let found = number_sized c.args.bytes.now c.decimal_length-count.result c.in-Some.head
    c.requires c.decimal_length-count.ensures.is c.in-Some.ensures.is in
    c.based_at.ensures
    ∙ ap (λ (v : ℕ). based_at (drop 1 c.args.bytes.now) (Some v)
    (head_behind c.args.bytes.now (n + 1) c.in-Some.head)) c.in-Some-size_in.ensures.0
    ∙ sym found
