use Rattle.std.proofs.Common.{sym}
use Rattle.sv_token.proofs.WordLaws.{name_is}
use Rattle.sv_token.proofs.words.name_at.Goals as goal

pub returns-in-Some : goal.returns-in-Some
returns-in-Some c =
    let same = name_is c.args.bytes.now c.name_length-more.result c.word_of.result c.requires
    c.name_length-more.ensures.is c.word_of.ensures in
    sym (rw c.in-Some.is at same)

pub returns-in-None : goal.returns-in-None
returns-in-None c =
    let same = name_is c.args.bytes.now c.name_length-more.result c.word_of.result c.requires
    c.name_length-more.ensures.is c.word_of.ensures in
    sym (rw c.in-None.is at same)
