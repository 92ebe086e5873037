use Rattle.std.proofs.Common.{◌≡◌, None, All, length, map}
use Rattle.sv_flat.specs.SignalLists.{inputs}
use Rattle.sv_flat.specs.Views.{design_of}
use Rattle.sv_flat.specs.Given.{FitListed}
use Rattle.sv_trace.specs.Forms.{form_of}
use Rattle.sv_trace.specs.Reading.{HasRead}
use Rattle.sv_trace.specs.Stimulus.{read_whole}
use Rattle.sv_trace.proofs.stim.read_stim.Given as goal

abbrev pub invariant-cycles : goal.invariant-cycles
invariant-cycles l = record {
  form : l.reader.form ≡ form_of (design_of l.design);
  fault : l.reader.fault ≡ None;
  read : HasRead (read_whole (form_of (design_of l.design)) l.bytes)
      (map (λ cycle. cycle.items) l.cycles.items) l.reader;
  fits : All (FitListed (design_of l.design).signals (inputs (design_of l.design)))
      (map (λ cycle. cycle.items) l.cycles.items);
}

abbrev pub decreases-cycles : goal.decreases-cycles
decreases-cycles l = length l.reader.said.cycles
