use Rattle.std.proofs.Common.{ap}
use Rattle.sv_token.proofs.Agreement.{has_tokens_or_break, not_both, tokens_are_one, break_is_one}
use Rattle.sv_token.proofs.laws.bytes_have_tokens_or_break_a_rule.Goals as goal

pub returns-clause-tokens_or_broken : goal.returns-clause-tokens_or_broken
returns-clause-tokens_or_broken c bytes = has_tokens_or_break bytes

pub returns-clause-never_both : goal.returns-clause-never_both
returns-clause-never_both c bytes tokens are number names place breaks = not_both are breaks

pub returns-clause-one_list : goal.returns-clause-one_list
returns-clause-one_list c bytes one other first second = tokens_are_one first second

pub returns-clause-one_rule : goal.returns-clause-one_rule
returns-clause-one_rule c bytes number other names others place elsewhere first second =
    let same = break_is_one first second in
    (ap (λ x. x.0) same, ap (λ x. x.1) same, ap (λ x. x.2) same)
