-- In an admitted design trails tell the paths of each body in which earlier reads are wanted.
use Rattle.std.proofs.Common.{◌≡◌, Bool, true, false, ◌||◌, List, [], ◌∷◌, ◌++◌, length, map}
use Rattle.std.proofs.Common.{filter, refl, sym, subst, ◌∙◌, ltb-true}
use Rattle.std.specs.Prelude.{Contains, IsTrue}
use Rattle.std.proofs.lemmas.Bool.{or_right}
use Rattle.sv_system.proofs.Lists.{Contains-nil, Contains-head, Contains-later, Contains-map}
use Rattle.sv_system.proofs.Lists.{Contains-filter}
use Rattle.sv_flat.specs.Admission.{IsAdmitted}
use Rattle.sv_flat.specs.Assignments.{TargetForm, targets_after, targets, is_wrong_sign, is_wrong_kind}
use Rattle.sv_flat.specs.Assignments.{is_twice, is_wrong_target, target_breach, wrong_assigns}
use Rattle.sv_flat.specs.Blocks.{latches, phase_faults}
use Rattle.sv_flat.specs.Breaches.{Breach}
use Rattle.sv_flat.specs.Clocks.{processes_of}
use Rattle.sv_flat.specs.Design.{PieceForm, FlatStatement, nothing, after, assign, branch}
use Rattle.sv_flat.specs.Design.{ProcessForm, FlatDesign}
use Rattle.sv_flat.specs.Drivers.{clock_faults, driver_faults, undriven}
use Rattle.sv_flat.specs.Processes.{kind_of, is_block}
use Rattle.sv_flat.specs.Readings.{no_bits}
use Rattle.sv_flat.specs.Soundness.{sound}
use Rattle.sv_flat.proofs.AdmittedFacts.{empty_left, is_process, body_is_sound, assigned_is_signal}
use Rattle.sv_flat.proofs.Members.{Contains-left, Contains-right}
use Rattle.sv_obl.specs.Wanted.{marked}
use Rattle.sv_obl.proofs.PathLists.{in_flat_map}
use Rattle.sv_obl.proofs.PathTells.{marked_assigns}
use Rattle.sv_paths.proofs.TrailPaths.{AssignsSignals, LonePieces}
use Rattle.sv_paths.proofs.TrailPremises.{Untwice, NoneTwice, lone_pieces, marked_lone}

-- ---- targets

pieces_untwice : (before pieces : List PieceForm) (blocking : Bool)
    → ((t : TargetForm) → Contains (targets_after before pieces blocking) t → is_twice t ≡ false)
    → Untwice before pieces
pieces_untwice before [] blocking each = tt
pieces_untwice before (p ∷ ps) blocking each =
    let here : TargetForm = record { piece = p; before = before; blocking = blocking } in
    let later = targets_after (p ∷ before) ps blocking in (
      each here (Contains-head here later),
      pieces_untwice (p ∷ before) ps blocking (λ t at. each t (Contains-later here later t at)),
    )

none_twice : (statement : FlatStatement)
    → ((t : TargetForm) → Contains (targets statement) t → is_twice t ≡ false)
    → NoneTwice statement
none_twice nothing each = tt
none_twice (after first second) each = (
  none_twice first (λ t at. each t (Contains-left (targets first) (targets second) t at)),
  none_twice second (λ t at. each t (Contains-right (targets first) (targets second) t at)),
)
none_twice (assign pieces place blocking right) each = pieces_untwice [] pieces blocking each
none_twice (branch place condition first second) each = (
  none_twice first (λ t at. each t (Contains-left (targets first) (targets second) t at)),
  none_twice second (λ t at. each t (Contains-right (targets first) (targets second) t at)),
)

module _ (design : FlatDesign) (is_sound : IsTrue (sound design)) (admitted : IsAdmitted design)
    (p : ProcessForm) (at : Contains (processes_of design) p) where
  none_wrong : wrong_assigns design ≡ []
  none_wrong =
      let to_clocks = wrong_assigns design ++ clock_faults design in
      let to_drivers = to_clocks ++ driver_faults design in
      let to_undriven = to_drivers ++ undriven design in
      let to_latches = to_undriven ++ latches design in
      empty_left (wrong_assigns design) (clock_faults design)
      (empty_left to_clocks (driver_faults design)
      (empty_left to_drivers (undriven design)
      (empty_left to_undriven (latches design)
      (empty_left to_latches (phase_faults design) admitted.unbroken))))

  target_once : (t : TargetForm) → Contains (targets p.body) t → is_twice t ≡ false
  target_once t t_at = by_test (is_twice t) refl
    where
      broken : is_twice t ≡ true → Contains (wrong_assigns design) (target_breach t)
      broken twice = in_flat_map
          (λ (q : ProcessForm). map target_breach
          (filter (is_wrong_target design q.kind) (targets q.body)))
          design.processes p (target_breach t) (is_process design is_sound admitted p at)
          (Contains-map target_breach (filter (is_wrong_target design p.kind) (targets p.body)) t
          (Contains-filter (is_wrong_target design p.kind) (targets p.body) t t_at
          (or_right (is_wrong_sign p.kind t.blocking
          || is_wrong_kind p.kind (kind_of design t.piece.signal)) (is_twice t) twice)))

      by_test : (b : Bool) → is_twice t ≡ b → b ≡ false
      by_test true twice = absurd (Contains-nil (target_breach t)
          (subst (λ (bs : List Breach). Contains bs (target_breach t)) none_wrong (broken twice)))
      by_test false once = refl

  -- the premises of what trails tell
  pub marked_pieces :
      LonePieces design.signals (marked design.signals (is_block p.kind) p.body no_bits)
  marked_pieces = marked_lone design.signals (is_block p.kind) p.body no_bits
      (lone_pieces design.signals p.body (body_is_sound design is_sound admitted p at)
      (none_twice p.body target_once))

  pub marked_signals :
      AssignsSignals design.signals (marked design.signals (is_block p.kind) p.body no_bits)
  marked_signals k is = ltb-true k (length design.signals)
      (assigned_is_signal design.signals p.body (body_is_sound design is_sound admitted p at) k
      (sym (marked_assigns design.signals (is_block p.kind) p.body no_bits k) ∙ is))
