-- Registers are signals, and no clocks.
use Rattle.std.proofs.Common.{◌≡◌, ℕ, true, List, length, Option}
use Rattle.std.proofs.Common.{ap, ◌⊎◌, inl, inr, ⊎_elim}
use Rattle.std.specs.Prelude.{not, ◌&&◌, Contains, IsTrue}
use Rattle.std.specs.List.{list_any}
use Rattle.std.proofs.lemmas.Bool.{and_parts, ltb-true, cases_Bool, both_ways}
use Rattle.std.proofs.lemmas.Bool.{and_left}
use Rattle.sv_system.proofs.Lists.{Contains-filter}
use Rattle.sv_ast.specs.Tree.{TextTree}
use Rattle.sv_flat.specs.Design.{ProcessForm, FlatDesign}
use Rattle.sv_flat.specs.Assigned.{assigns}
use Rattle.sv_flat.specs.Admission.{IsAdmitted}
use Rattle.sv_flat.specs.Soundness.{sound}
use Rattle.sv_flat.specs.Sets.{holds as in_set}
use Rattle.sv_flat.specs.Processes.{is_clocked, is_register}
use Rattle.sv_flat.specs.Clocks.{is_port_in, is_clock_link, clocks, processes_of}
use Rattle.sv_flat.proofs.LeastSets.{from_some, Contains-from_holds, holds-from_Contains}
use Rattle.sv_flat.proofs.AdmittedFacts.{body_is_sound, assigned_is_signal, assigns_no_clock}
use Rattle.sv_elab_laws.proofs.PartsTexts.{SideBySide}
use Rattle.sv_elab_laws.proofs.JoinedClocks.{clocked_no_link}
use Rattle.sv_elab_laws.proofs.JoinedNumbers.{flat_signals, is_flat_signal}

pub contains_or_not : (ks : List ℕ) (k : ℕ) → Contains ks k ⊎ (Contains ks k → ⊥)
contains_or_not ks k = ⊎_elim
    (λ yes'. inl (Contains-from_holds ks k yes'))
    (λ no'. inr (λ at. both_ways (in_set ks k) no' (holds-from_Contains ks k at)))
    (cases_Bool (in_set ks k))

pub clocked_in_processes : (design : FlatDesign) (f : ProcessForm) → Contains design.processes f
    → is_clocked f.kind ≡ true
    → Contains (processes_of design) f
clocked_in_processes design f at clocked =
    Contains-filter (λ z. not (is_clock_link design z)) design.processes f at
    (ap not (and_left (is_port_in f.kind) (list_any (assigns f.body) (clocks design))
    (clocked_no_link f.kind clocked).0))

pub register_within :
    (text : TextTree) (top : Option (List ℕ)) (design : FlatDesign)
    (side : SideBySide text top design)
    → IsTrue (sound design) → IsAdmitted design → (k : ℕ) → is_register design k ≡ true
    → Contains (flat_signals text top design side) k
register_within text top design side is_sound admitted k h =
    let f = from_some (λ (p : ProcessForm).
    is_clocked p.kind && assigns p.body k) design.processes h in
    let both = and_parts (is_clocked f.0.kind) (assigns f.0.body k) f.2 in
    let inside = clocked_in_processes design f.0 f.1 both.0 in
    is_flat_signal text top design side k
    (ltb-true k (length design.signals)
    (assigned_is_signal design.signals f.0.body
    (body_is_sound design is_sound admitted f.0 inside) k both.1))
    (assigns_no_clock design is_sound admitted f.0 k inside both.1)
