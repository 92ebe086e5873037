use Rattle.std.proofs.Common.{◌≡◌, ℕ}
use Rattle.std.specs.Prelude.{IsTrue}
use Rattle.sv_flat.specs.Assigned.{assigns, always_assigns}
use Rattle.sv_flat.specs.Design.{FlatStatement}
use Rattle.sv_flat.specs.Soundness.{statement_sound}
use Rattle.sv_flat.specs.Views.{design_of}
use Rattle.sv_graph.specs.BitSets.{in_bits, has_some}
use Rattle.sv_rules.specs.Phases.{SameBits}
use Rattle.sv_rules.proofs.BlockPasses.{LatchesSoFar}
use Rattle.sv_rules.proofs.blocks.first_latch.Given as goal

abbrev pub invariant-loop-signal : goal.invariant-loop-signal
invariant-loop-signal l =
    (body : FlatStatement) → IsTrue (statement_sound (design_of l.flat).signals body)
    → ((s : ℕ) → has_some l.assigned s ≡ assigns body s)
    → SameBits (in_bits l.always) (always_assigns body)
    → LatchesSoFar (design_of l.flat) l.place body l.signal-iterator l.found
