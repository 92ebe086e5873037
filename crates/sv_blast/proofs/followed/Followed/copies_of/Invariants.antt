use Rattle.std.proofs.Common.{◌≡◌, ◌++◌, map, filter, nat_cmp}
use Rattle.std.specs.BTreeSet.{IsOrdered}
use Rattle.sv_graph.specs.Marks.{is_marked}
use Rattle.sv_design.specs.Numbers.{numbers}
use Rattle.sv_obl.specs.Wanted.{copy_of}
use Rattle.sv_blast.specs.FollowedWords.{forms_in}
use Rattle.sv_blast.proofs.followed.Followed.copies_of.Given as goal

-- those so far, and those that are left
abbrev pub invariant-loop-target : goal.invariant-loop-target
invariant-loop-target l =
    let marked = is_marked l.self.follows.now in
    let copy = copy_of (forms_in l.self) in
    (numbers l.copies.items ++ map copy (filter marked l.target-iterator)
    ≡ map copy (filter marked l.targets.keys))
    × IsOrdered nat_cmp l.targets
