use Rattle.std.proofs.Common.{vec_len}
use Rattle.sv_blast.specs.FollowedWords.{forms_in, IsAtHand, choices_back}
use Rattle.sv_blast.specs.WordTables.{words_of}
use Rattle.sv_blast.proofs.CopyChoices.{BackAt}
use Rattle.sv_blast.proofs.followed.Followed.choose_back.Given as goal

abbrev pub invariant-arms : goal.invariant-arms
invariant-arms l =
    BackAt (forms_in l.self) (IsAtHand l.self)
    (choices_back l.fn.arms.items (l.fn.gates, words_of l.fn.words)) l.fn.gates l.gates
    l.arms.items (words_of l.words)

abbrev pub decreases-arms : goal.decreases-arms
decreases-arms l = vec_len l.arms
