use Rattle.std.proofs.Common.{drop}
use Rattle.sv_design.specs.Numbers.{numbers}
use Rattle.sv_blast.specs.WordTables.{words_of}
use Rattle.sv_blast.proofs.FollowedLoops.{HaveRead}
use Rattle.sv_blast.proofs.followed.Followed.read_words.Given as goal

abbrev pub invariant-loop-signal : goal.invariant-loop-signal
invariant-loop-signal l =
    HaveRead (numbers l.self.reads.now) (numbers (drop l.signal-index l.self.reads.now))
    (words_of l.own) (words_of l.words)
