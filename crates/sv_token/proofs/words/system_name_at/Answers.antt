use Rattle.std.proofs.Common.{sym}
use Rattle.sv_token.proofs.WordLaws.{system_name_is, system_name_none}
use Rattle.sv_token.proofs.words.system_name_at.Goals as goal

pub returns-in-Some : goal.returns-in-Some
returns-in-Some c =
    let same = system_name_is c.args.bytes.now c.name_length-more.result c.word_of.result
    c.requires.some c.requires.dollar c.name_length-more.ensures.is c.word_of.ensures in
    sym (rw c.in-Some.is at same)

pub returns-in-None : goal.returns-in-None
returns-in-None c =
    let same = system_name_none c.args.bytes.now c.name_length-more.result c.word_of.result
    c.name_is_next.result c.requires.some c.requires.dollar c.name_length-more.ensures.is
    c.word_of.ensures c.in-None.is c.name_is_next.ensures in
    rw c.left_out.ensures (sym (rw c.if-name_is_next.true at same))

pub returns-in-None-2 : goal.returns-in-None-2
returns-in-None-2 c =
    let same = system_name_none c.args.bytes.now c.name_length-more.result c.word_of.result
    c.name_is_next.result c.requires.some c.requires.dollar c.name_length-more.ensures.is
    c.word_of.ensures c.in-None.is c.name_is_next.ensures in
    sym (rw c.if-name_is_next.false at same)
