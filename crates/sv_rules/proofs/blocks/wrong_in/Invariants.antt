use Rattle.std.proofs.Common.{ℕ, Bool, drop, map}
use Rattle.sv_flat.specs.Readings.{reading_of, readings_of}
use Rattle.sv_flat.specs.Views.{design_of, typed_tree}
use Rattle.sv_rules.specs.ReadForms.{read_forms}
use Rattle.sv_rules.specs.Surroundings.{in_surrounding}
use Rattle.sv_rules.proofs.PhaseFacts.{ReadsSoFar}
use Rattle.sv_rules.proofs.blocks.wrong_in.Given as goal

-- the names so far, and those that are left
abbrev pub invariant-loop-read : goal.invariant-loop-read
invariant-loop-read l = (serves : ℕ → Bool)
    → let signals = (design_of l.flat).signals in
    ReadsSoFar signals l.targets (in_surrounding l.assigned) (readings_of signals (typed_tree l.expr) serves)
    (λ assigned follows.
    map (reading_of serves assigned follows)
    (read_forms (drop l.read-index l.read-items))) l.found
