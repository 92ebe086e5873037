use Rattle.std.proofs.Common.{◌≡◌, ◌++◌, drop}
use Rattle.sv_design.specs.Numbers.{numbers}
use Rattle.sv_blast.specs.FollowedWords.{pairs, words_at}
use Rattle.sv_blast.specs.WordTables.{words_of}
use Rattle.sv_blast.proofs.followed_arms.words_at.Given as goal

-- those so far, and those that are left
abbrev pub invariant-loop-copy : goal.invariant-loop-copy
invariant-loop-copy l =
    pairs l.found.items ++ words_at (words_of l.words) (numbers (drop l.copy-index l.copies))
    ≡ words_at (words_of l.words) (numbers l.copies)
