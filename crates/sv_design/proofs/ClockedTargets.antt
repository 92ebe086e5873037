-- What a clocked process of an admitted design assigns.
use Rattle.std.proofs.Common.{◌≡◌, Bool, not, [], ◌∷◌, map, refl, ap}
use Rattle.std.specs.Prelude.{Contains, IsTrue, IsFalse, filter}
use Rattle.std.proofs.lemmas.Bool.{false≢true}
use Rattle.sv_system.proofs.Lists.{Contains-head}
use Rattle.sv_flat.specs.Admission.{IsAdmitted}
use Rattle.sv_flat.specs.Assignments.{TargetForm, targets, targets_after, is_wrong_sign}
use Rattle.sv_flat.specs.Assignments.{is_wrong_target, target_breach}
use Rattle.sv_flat.specs.ByNumber.{is_nonblocking}
use Rattle.sv_flat.specs.Clocks.{processes_of}
use Rattle.sv_flat.specs.Design.{FlatStatement, nothing, after, assign, branch, ProcessKind}
use Rattle.sv_flat.specs.Design.{continuous, port_in, port_out, combinational, clocked, release}
use Rattle.sv_flat.specs.Design.{ProcessForm, FlatDesign}
use Rattle.sv_flat.specs.Processes.{is_clocked}
use Rattle.sv_flat.specs.Soundness.{sound}
use Rattle.sv_flat.proofs.AdmittedFacts.{and_true, none_pass, empty_part, no_wrong_assigns}
use Rattle.sv_flat.proofs.AdmittedFacts.{is_process}
use Rattle.sv_flat.proofs.Members.{Contains-left, Contains-right}
use Rattle.sv_flat.proofs.SameRuns.{or_none_left}

not_true : (b : Bool) → IsFalse b → IsTrue (not b)
not_true b h = ap not h

-- where no target's assignment is `=`, none is
pub nonblocking_targets : (body : FlatStatement)
    → ((t : TargetForm) → Contains (targets body) t → IsFalse t.blocking)
    → IsTrue (is_nonblocking body)
nonblocking_targets nothing each = refl
nonblocking_targets (after first second) each = and_true (is_nonblocking first)
    (is_nonblocking second)
    (nonblocking_targets first
    (λ t at. each t (Contains-left (targets first) (targets second) t at)))
    (nonblocking_targets second
    (λ t at. each t (Contains-right (targets first) (targets second) t at)))
nonblocking_targets (assign [] place blocking right) each = refl
nonblocking_targets (assign (p ∷ pieces) place blocking right) each = not_true blocking
    (each (record { piece = p; before = []; blocking = blocking })
    (Contains-head (record { piece = p; before = []; blocking = blocking })
    (targets_after (p ∷ []) pieces blocking)))
nonblocking_targets (branch place condition first second) each = and_true (is_nonblocking first)
    (is_nonblocking second)
    (nonblocking_targets first
    (λ t at. each t (Contains-left (targets first) (targets second) t at)))
    (nonblocking_targets second
    (λ t at. each t (Contains-right (targets first) (targets second) t at)))

clocked_sign : (k : ProcessKind) (b : Bool) → IsTrue (is_clocked k) → IsFalse (is_wrong_sign k b) →
    IsFalse b
clocked_sign (clocked clock) b h fine = fine
clocked_sign continuous b h fine = absurd (false≢true h)
clocked_sign port_in b h fine = absurd (false≢true h)
clocked_sign port_out b h fine = absurd (false≢true h)
clocked_sign combinational b h fine = absurd (false≢true h)
clocked_sign (release point) b h fine = absurd (false≢true h)

-- it has no assignment of a kind that is not its own
none_wrong : (design : FlatDesign) → IsTrue (sound design) → IsAdmitted design → (p : ProcessForm)
    → Contains (processes_of design) p
    → map target_breach (filter (is_wrong_target design p.kind) (targets p.body)) ≡ []
none_wrong design is_sound admitted p at =
    empty_part (λ (q : ProcessForm).
    map target_breach (filter (is_wrong_target design q.kind) (targets q.body)))
    design.processes (no_wrong_assigns design is_sound admitted) p
    (is_process design is_sound admitted p at)

-- it assigns each target by `<=`
pub is_by_edge : (design : FlatDesign) → IsTrue (sound design) → IsAdmitted design
    → (p : ProcessForm) → Contains (processes_of design) p → IsTrue (is_clocked p.kind)
    → (t : TargetForm) → Contains (targets p.body) t → IsFalse t.blocking
is_by_edge design is_sound admitted p at clock t t_at =
    let right = none_pass target_breach (is_wrong_target design p.kind) (targets p.body)
    (none_wrong design is_sound admitted p at) t t_at in
    clocked_sign p.kind t.blocking clock
    (or_none_left (is_wrong_sign p.kind t.blocking) _ (or_none_left _ _ right))
