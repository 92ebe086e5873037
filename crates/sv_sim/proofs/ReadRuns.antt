-- What a run of a process gives a signal hangs on what is read for it: on the inputs, the
-- registers, and the signals of any list that has what is read for each of its signals.
use Rattle.std.proofs.Common.{◌≡◌, ℕ, ◌&&◌, not, List}
use Rattle.std.specs.Prelude.{Contains, IsTrue, IsFalse}
use Rattle.sv_system.specs.System.{Environment}
use Rattle.sv_flat.specs.Design.{ProcessForm, FlatDesign}
use Rattle.sv_flat.specs.Admission.{IsAdmitted}
use Rattle.sv_flat.specs.Assigned.{assigns}
use Rattle.sv_flat.specs.Clocks.{is_clock, processes_of}
use Rattle.sv_flat.specs.FlatSystem.{combinational_processes, run_of}
use Rattle.sv_flat.specs.Processes.{is_clocked, is_top_input, is_register}
use Rattle.sv_flat.specs.Reads.{is_combinational, is_read_for}
use Rattle.sv_flat.specs.Sets.{holds}
use Rattle.sv_flat.specs.Soundness.{sound}
use Rattle.sv_flat.proofs.AdmittedFacts.{targets_are_combinational}
use Rattle.sv_flat.proofs.FlatScheduled.{in_processes, unclocked}
use Rattle.sv_flat.proofs.LeastSets.{holds-from_Contains, Contains-from_holds}
use Rattle.sv_flat.proofs.RunReads.{same_values as by_reads}

-- the list has the combinational signals that are read for its signals
abbrev pub IsClosed : FlatDesign → List ℕ → Type 0
IsClosed design signals = (s r : ℕ) → Contains signals s → IsTrue (is_combinational design r)
    → IsTrue (is_read_for design s r) → Contains signals r

module _ (design : FlatDesign) (is_sound : IsTrue (sound design))
    (admitted : IsAdmitted design) (p : ProcessForm)
    (at : Contains (combinational_processes design) p) (signals : List ℕ)
    (closed : IsClosed design signals) (e f : Environment ℕ)
    (inputs : (t : ℕ) → IsTrue (is_top_input design t && not (is_clock design t)) → e t ≡ f t)
    (registers : (t : ℕ) → IsTrue (is_register design t) → e t ≡ f t)
    (others : (t : ℕ) → IsFalse (assigns p.body t) → IsTrue (is_combinational design t) →
    Contains signals t → e t ≡ f t) where
  process : Contains (processes_of design) p
  process = in_processes design is_sound admitted p at

  no_clocked : IsFalse (is_clocked p.kind)
  no_clocked = unclocked design is_sound admitted p at

  -- the process gives its targets in the list the same values from both environments
  pub same_values : (s : ℕ) → IsTrue (assigns p.body s) → Contains signals s →
      run_of design p e s ≡ run_of design p f s
  same_values s assigned listed =
      by_reads design is_sound admitted p process no_clocked (holds signals) e f inputs registers
      (λ t r among own own_r read.
      holds-from_Contains signals r (closed t r (Contains-from_holds signals t among)
      (targets_are_combinational design is_sound admitted p r process no_clocked own_r) read))
      (λ t r among own out comb read.
      others r out comb (closed t r (Contains-from_holds signals t among) comb read))
      s assigned (holds-from_Contains signals s listed)
