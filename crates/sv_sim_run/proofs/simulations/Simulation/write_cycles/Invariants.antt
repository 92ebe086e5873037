use Rattle.std.proofs.Common.{◌≡◌, List, ℕ, true, length}
use Rattle.sv_trace.specs.Reading.{HasFed, HasRead}
use Rattle.sv_trace.specs.Stimulus.{LinesRead}
use Rattle.sv_sim_run.specs.Progress.{IsSimulating, IsSameAs, HasRoom, HasRunCycles}
use Rattle.sv_sim_run.proofs.simulations.Simulation.write_cycles.Given as goal

-- some of the cycles that were read were run
abbrev pub invariant-loop-inputs : goal.invariant-loop-inputs
invariant-loop-inputs g l = record {
  made : IsSimulating l.self;
  room : HasRoom l.self;
  same : IsSameAs l.initial.self l.self;
  begun : l.self.reader.said.begun ≡ true → l.self.is_started ≡ true;
  fed : (bytes before : List ℕ) (taken : List (List ℕ)) →
      HasFed bytes taken l.initial.self.reader →
      HasRunCycles taken before (g.K.Sink.accepted l.initial.out) l.initial.self →
      (now : List (List ℕ)) × HasFed bytes now l.self.reader
      × HasRunCycles now before (g.K.Sink.accepted l.out) l.self;
  read_all : (read : LinesRead) (before : List ℕ) (taken : List (List ℕ)) →
      HasRead read taken l.initial.self.reader →
      HasRunCycles taken before (g.K.Sink.accepted l.initial.out) l.initial.self →
      (now : List (List ℕ)) × HasRead read now l.self.reader
      × HasRunCycles now before (g.K.Sink.accepted l.out) l.self;
  fault : l.self.reader.fault ≡ l.initial.self.reader.fault;
  finished : l.self.reader.finished ≡ l.initial.self.reader.finished;
  kept : g.K.Sink.faults l.out ≡ g.K.Sink.faults l.initial.out;
}

abbrev pub decreases-loop-inputs : goal.decreases-loop-inputs
decreases-loop-inputs g l = length l.self.reader.said.cycles
