use Rattle.std.proofs.Common.{filter, nat_cmp}
use Rattle.std.specs.BTreeSet.{IsOrdered}
use Rattle.sv_graph.specs.Marks.{is_marked}
use Rattle.sv_encoding.specs.Sizes.{widths_of}
use Rattle.sv_blast.specs.FollowedWords.{forms_in}
use Rattle.sv_blast.proofs.FollowedLoops.{WidthsAt}
use Rattle.sv_blast.proofs.followed.Followed.widths.Given as goal

abbrev pub invariant-loop-target : goal.invariant-loop-target
invariant-loop-target l =
    let marked = is_marked l.self.follows.now in
    WidthsAt (forms_in l.self) marked (widths_of (forms_in l.self) (filter marked l.targets.keys))
    l.total l.target-iterator
    × IsOrdered nat_cmp l.targets
