use Rattle.std.proofs.Common.{◌≡◌, ◌↔◌, List, ℕ, vec_len}
use Rattle.std.specs.Prelude.{IsTrue}
use Rattle.sv_sim_run.specs.Fronts.{Takes, IsUnderWay}
use Rattle.sv_sim_run.specs.Progress.{IsSameAs}
use Rattle.sv_sim_run.proofs.stimuli.read_all.Given as goal

-- what was taken so far, and how far the simulation has come with it
abbrev pub invariant-pieces : goal.invariant-pieces
invariant-pieces g l = record {
  same : IsSameAs l.initial.simulation l.simulation;
  way : (taken : List ℕ)
      × Takes g.S.Source.tells (g.S.Source.given l.initial.input) (g.S.Source.given l.input)
      (g.S.Source.left l.initial.input) (g.S.Source.left l.input) taken
      × IsUnderWay taken l.left (g.K.Sink.accepted l.initial.out) (g.K.Sink.accepted l.out)
      l.simulation;
  room : vec_len l.buffer ≡ 4096;
  sink_kept : g.K.Sink.faults l.out ≡ g.K.Sink.faults l.initial.out;
  source_kept : g.S.Source.faults l.input ≡ g.S.Source.faults l.initial.input;
  unended : IsTrue (g.S.Source.ended l.input) ↔ IsTrue (g.S.Source.ended l.initial.input);
}

abbrev pub decreases-pieces : goal.decreases-pieces
decreases-pieces g l = l.left
