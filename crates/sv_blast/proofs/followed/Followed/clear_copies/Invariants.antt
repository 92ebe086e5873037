use Rattle.sv_blast.specs.FollowedWords.{forms_in, follows_in}
use Rattle.sv_blast.specs.WordTables.{words_of}
use Rattle.sv_blast.proofs.FollowedLoops.{ClearAt}
use Rattle.sv_blast.proofs.followed.Followed.clear_copies.Given as goal

abbrev pub invariant-loop-number : goal.invariant-loop-number
invariant-loop-number l =
    ClearAt (forms_in l.self) (follows_in l.self) (words_of l.fn.words) l.number (words_of l.words)
