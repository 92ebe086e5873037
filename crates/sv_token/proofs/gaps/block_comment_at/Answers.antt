use Rattle.std.proofs.Common.{sym, ap, ◌∙◌}
use Rattle.std.proofs.lemmas.List.{take_rest}
use Rattle.sv_token.specs.Gaps.{close_length}
use Rattle.sv_token.proofs.GapLaws.{comment_is}
use Rattle.sv_token.proofs.gaps.block_comment_at.Goals as goal

pub returns-in-Some : goal.returns-in-Some
returns-in-Some c =
    let same = comment_is c.args.bytes.now c.close_length.result c.requires
    (c.close_length.ensures.is ∙ ap close_length (take_rest c.args.bytes.now 2)) in
    sym (rw c.in-Some.is at same)

pub returns-in-None : goal.returns-in-None
returns-in-None c =
    let same = comment_is c.args.bytes.now c.close_length.result c.requires
    (c.close_length.ensures.is ∙ ap close_length (take_rest c.args.bytes.now 2)) in
    sym (rw c.in-None.is at same)
