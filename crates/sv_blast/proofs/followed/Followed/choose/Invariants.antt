use Rattle.std.proofs.Common.{drop}
use Rattle.sv_blast.specs.FollowedWords.{forms_in, IsAtHand, pairs, choices}
use Rattle.sv_blast.specs.WordTables.{words_of}
use Rattle.sv_blast.proofs.CopyChoices.{ChoosingAt}
use Rattle.sv_blast.proofs.followed.Followed.choose.Given as goal

abbrev pub invariant-loop-first : goal.invariant-loop-first
invariant-loop-first l =
    ChoosingAt (forms_in l.self) (IsAtHand l.self)
    (choices l.arm.condition (pairs l.arm.words.items) (words_of l.fn.words) l.fn.gates)
    l.arm.condition (pairs (drop l.first-index l.arm.words.items)) l.fn.gates l.gates
    (words_of l.words)
