use Rattle.std.proofs.Common.{◌≡◌, vec_len}
use Rattle.sv_blast.specs.FollowedWords.{pairs, with_words}
use Rattle.sv_blast.specs.WordTables.{words_of}
use Rattle.sv_blast.proofs.followed_arms.put_words.Given as goal

abbrev pub invariant-others : goal.invariant-others
invariant-others l =
    with_words (pairs l.others.items) (words_of l.words)
    ≡ with_words (pairs l.fn.others.items) (words_of l.fn.words)

abbrev pub decreases-others : goal.decreases-others
decreases-others l = vec_len l.others
