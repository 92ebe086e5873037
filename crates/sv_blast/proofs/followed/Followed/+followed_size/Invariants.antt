use Rattle.std.proofs.Common.{◌≤◌}
use Rattle.sv_obl.specs.declared.marked.Marked.{size-Marked}
use Rattle.sv_obl.specs.MarkedBodies.{marked_statement, TellsTargets}
use Rattle.sv_encoding.specs.Sizes.{statement_size}
use Rattle.sv_blast.specs.FollowedWords.{forms_in, follows_in}
use Rattle.sv_blast.proofs.FollowedSizes.{SizeAt}
use Rattle.sv_blast.proofs.followed.Followed.+followed_size.Given as goal

-- the gates so far, and those of what is left
abbrev pub invariant-parts : goal.invariant-parts
invariant-parts l =
    SizeAt (forms_in l.self) (follows_in l.self)
    (statement_size (forms_in l.self) (follows_in l.self) (marked_statement l.initial.rest)) l.total
    (marked_statement l.rest)
    × (TellsTargets l.rest × (size-Marked l.rest ≤ size-Marked l.initial.rest))
