-- What the updates of a process hang on.
use Rattle.std.proofs.Common.{◌≡◌, ℕ, ◌==◌, List, [], ◌∷◌, ◌++◌, refl, ap, ◌∙◌}
use Rattle.std.specs.Prelude.{Contains, IsTrue, IsFalse, flat_map}
use Rattle.std.proofs.lemmas.Bool.{eq-eqb}
use Rattle.sv_system.specs.System.{Environment}
use Rattle.sv_system.proofs.Lists.{Contains-head, Contains-later}
use Rattle.sv_flat.specs.Design.{ProcessForm, FlatDesign}
use Rattle.sv_flat.specs.Admission.{IsAdmitted}
use Rattle.sv_flat.specs.Clocks.{is_clock, processes_of}
use Rattle.sv_flat.specs.Readings.{Reading, readings, no_bits}
use Rattle.sv_flat.specs.Runs.{updates_of}
use Rattle.sv_flat.specs.Soundness.{is_signal, sound}
use Rattle.sv_flat.proofs.AdmittedFacts.{body_is_sound, assigned_is_signal, assigns_no_clock}
use Rattle.sv_flat.proofs.AdmittedFacts.{some_width}
use Rattle.sv_flat.proofs.ClockFacts.{reads_no_clock}
use Rattle.sv_flat.proofs.LeastSets.{some_from}
use Rattle.sv_flat.proofs.ReadSignals.{readings_signals}
use Rattle.sv_flat.proofs.SameUpdates.{run_alike}

pub flat_map_same : {X Y : Type 0} (f g : X → List Y) (xs : List X) →
    ((x : X) → Contains xs x → f x ≡ g x) → flat_map f xs ≡ flat_map g xs
flat_map_same f g [] same = refl
flat_map_same f g (x ∷ xs) same =
    ap (λ ys. ys ++ flat_map f xs) (same x (Contains-head x xs))
    ∙ ap (λ ys. g x ++ ys) (flat_map_same f g xs (λ y at. same y (Contains-later x xs y at)))

-- the updates of a process hang on what is given, where each signal is that is no clock
pub updates_hang : (design : FlatDesign) (is_sound : IsTrue (sound design))
    (admitted : IsAdmitted design) (Given : ℕ → Type 0)
    → ((s : ℕ) → IsTrue (is_signal design.signals s) → IsFalse (is_clock design s) → Given s)
    → (p : ProcessForm) → Contains (processes_of design) p → (e f : Environment ℕ)
    → ((s : ℕ) → Given s → e s ≡ f s)
    → updates_of design.signals p.body e ≡ updates_of design.signals p.body f
updates_hang design is_sound admitted Given given p at e f same =
    let sound_body = body_is_sound design is_sound admitted p at in
    (run_alike design.signals (some_width design is_sound admitted) Given p.body sound_body
    no_bits no_bits
    (λ r r_at. given r.name.signal
    (readings_signals design.signals p.body no_bits no_bits sound_body r r_at)
    (reads_no_clock design is_sound admitted p r.name.signal at
    (some_from (λ (z : Reading). z.name.signal == r.name.signal)
    (readings design.signals p.body no_bits no_bits) r r_at
    (eq-eqb r.name.signal r.name.signal refl))))
    (λ s h. given s (assigned_is_signal design.signals p.body sound_body s h)
    (assigns_no_clock design is_sound admitted p s at h))
    (e, []) (f, []) (same, refl)).1
