-- The registers of an admitted design are signals, and are listed.
use Rattle.std.proofs.Common.{ℕ, ◌<◌, ◌&&◌, length, ltb-true}
use Rattle.std.specs.Prelude.{Contains, IsTrue}
use Rattle.sv_flat.specs.Admission.{IsAdmitted}
use Rattle.sv_flat.specs.Assigned.{assigns}
use Rattle.sv_flat.specs.Design.{ProcessForm, FlatDesign}
use Rattle.sv_flat.specs.Processes.{is_clocked, is_register}
use Rattle.sv_flat.specs.SignalLists.{registers}
use Rattle.sv_flat.specs.Soundness.{sound}
use Rattle.sv_flat.proofs.AdmittedFacts.{assigned_is_signal, body_is_sound, clocked_is_process}
use Rattle.sv_flat.proofs.Depths.{first_of, second_of}
use Rattle.sv_flat.proofs.LeastSets.{from_some, in_those}

module _ (design : FlatDesign) (is_sound : IsTrue (sound design))
    (admitted : IsAdmitted design) where
  -- a register is a signal
  register_inside : (s : ℕ) → IsTrue (is_register design s) → s < length design.signals
  register_inside s register =
      let found = from_some (λ (q : ProcessForm). is_clocked q.kind && assigns q.body s)
      design.processes register in
      let q = found.0 in
      let at = clocked_is_process design is_sound admitted q found.1
      (first_of (is_clocked q.kind) (assigns q.body s) found.2) in
      ltb-true s (length design.signals)
      (assigned_is_signal design.signals q.body (body_is_sound design is_sound admitted q at) s
      (second_of (is_clocked q.kind) (assigns q.body s) found.2))

  pub register_listed : (s : ℕ) → IsTrue (is_register design s) → Contains (registers design) s
  register_listed s register =
      in_those (length design.signals) (is_register design) s (register_inside s register) register
