use Rattle.std.proofs.Common.{◌+◌, ◌*◌, ◌≤◌}
use Rattle.sv_obl.specs.declared.marked.Marked.{size-Marked}
use Rattle.sv_obl.specs.MarkedBodies.{marked_statement, TellsTargets}
use Rattle.sv_encoding.specs.Bodies.{words_after}
use Rattle.sv_blast.specs.FollowedWords.{forms_in, follows_in, IsAtHand}
use Rattle.sv_blast.specs.WordTables.{words_of}
use Rattle.sv_blast.proofs.FollowedArms.{DownAt}
use Rattle.sv_blast.proofs.followed.Followed.+followed_statements.Given as goal

abbrev pub decreases-first_arm : goal.decreases-first_arm
decreases-first_arm l = 3 * size-Marked l.yes.now + 2

abbrev pub decreases-after : goal.decreases-after
decreases-after l = 3 * size-Marked l.stmt.now + 1

abbrev pub decreases-after_plain : goal.decreases-after_plain
decreases-after_plain l = 3 * size-Marked l.stmt.now

-- what is left of the statement, which is no deeper, and the arms that are open come to the whole
abbrev pub invariant-after-loop-rest : goal.invariant-after-loop-rest
invariant-after-loop-rest l =
    DownAt (forms_in l.self) (follows_in l.self) (IsAtHand l.self)
    (words_after (forms_in l.self) (follows_in l.self) (marked_statement l.fn.stmt)
    (words_of l.fn.words) l.fn.gates) l.fn.gates l.gates l.arms.items (marked_statement l.rest)
    (words_of l.words)
    × (TellsTargets l.rest × (size-Marked l.rest ≤ size-Marked l.fn.stmt))
