-- The registers' next values do not hang on clocks, and keep their widths.
use Rattle.std.proofs.Common.{◌≡◌, ℕ, ◌<◌, ◌^◌, cond, not, ◌==◌}
use Rattle.std.proofs.Common.{length, sym, ap, subst, ◌∙◌, ⊎_elim, pow_pos, ltb-true}
use Rattle.std.proofs.Common.{lt-ltb}
use Rattle.std.specs.Prelude.{Contains, IsTrue, IsFalse}
use Rattle.sv_system.specs.System.{Environment, last_update, Fits, KindFits}
use Rattle.sv_system.proofs.Pointwise.{each, fits_at}
use Rattle.sv_flat.specs.Design.{ProcessForm, FlatDesign}
use Rattle.sv_flat.specs.Admission.{IsAdmitted}
use Rattle.sv_flat.specs.Clocks.{is_clock, processes_of}
use Rattle.sv_flat.specs.FlatSystem.{flat_system, clocked_processes, all_updates}
use Rattle.sv_flat.specs.Processes.{is_clocked, is_register}
use Rattle.sv_flat.specs.Runs.{updates_of}
use Rattle.sv_flat.specs.Soundness.{is_signal, sound}
use Rattle.sv_flat.specs.Values.{signal_width}
use Rattle.sv_flat.proofs.AdmittedFacts.{negated_true}
use Rattle.sv_flat.proofs.LeastSets.{either_way, Contains-from_filter, in_those}
use Rattle.sv_flat.proofs.LeastSets.{those_below}
use Rattle.sv_flat.proofs.LeastSets.{those_pass}
use Rattle.sv_flat.proofs.RunsFit.{AllFit, edge_fits}
use Rattle.sv_flat.proofs.AlikeUpdates.{flat_map_same, updates_hang}

module _ (design : FlatDesign) (is_sound : IsTrue (sound design))
    (admitted : IsAdmitted design) where
  abbrev IsSeen : ℕ → Type 0
  IsSeen s = Contains (flat_system design).signals s

  pub is_seen : (s : ℕ) → IsTrue (is_signal design.signals s) → IsFalse (is_clock design s) →
      Contains (flat_system design).signals s
  is_seen s inside no_clock =
      in_those (length design.signals) (λ z. not (is_clock design z)) s
      (ltb-true s (length design.signals) inside) (ap not no_clock)

  -- ---- what the next values hang on

  updates_same : (p : ProcessForm) → Contains (processes_of design) p → (e f : Environment ℕ)
      → ((s : ℕ) → IsSeen s → e s ≡ f s)
      → updates_of design.signals p.body e ≡ updates_of design.signals p.body f
  updates_same = updates_hang design is_sound admitted IsSeen is_seen

  all_updates_same : (e f : Environment ℕ) → ((s : ℕ) → IsSeen s → e s ≡ f s)
      → all_updates design (clocked_processes design) e ≡
      all_updates design (clocked_processes design) f
  all_updates_same e f same =
      flat_map_same (λ (p : ProcessForm). updates_of design.signals p.body e)
      (λ (p : ProcessForm). updates_of design.signals p.body f) (clocked_processes design)
      (λ p at. updates_same p
      (Contains-from_filter (λ (z : ProcessForm). is_clocked z.kind) (processes_of design) p at).1
      e f same)

  -- a signal's next value hangs on its value and on the signals that are no clocks
  pub next_same : (e f : Environment ℕ) (s : ℕ) → e s ≡ f s → ((t : ℕ) → IsSeen t → e t ≡ f t)
      → (flat_system design).next e s ≡ (flat_system design).next f s
  next_same e f s here same =
      ap (λ us. last_update ◌==◌ s (e s) us) (all_updates_same e f same)
      ∙ ap (λ old. last_update ◌==◌ s old (all_updates design (clocked_processes design) f)) here

  -- ---- widths

  -- the environment with clocks at 0
  abbrev pub unclocked_values : Environment ℕ → Environment ℕ
  unclocked_values e s = cond (is_clock design s) 0 (e s)

  pub unclocked_same : (e : Environment ℕ) (s : ℕ) → IsFalse (is_clock design s) →
      e s ≡ unclocked_values e s
  unclocked_same e s no_clock = sym (ap (λ b. cond b 0 (e s)) no_clock)

  pub seen_same : (e : Environment ℕ) (s : ℕ) → IsSeen s → e s ≡ unclocked_values e s
  seen_same e s seen = unclocked_same e s
      (negated_true (is_clock design s)
      (those_pass (length design.signals) (λ z. not (is_clock design z)) s seen))

  pub unclocked_fit : (e : Environment ℕ) → Fits (flat_system design) e →
      AllFit design.signals (unclocked_values e)
  unclocked_fit e fits s inside = ⊎_elim
      (λ clock. subst (λ b. cond b 0 (e s) < 2 ^ signal_width design.signals s) (sym clock)
      (pow_pos (signal_width design.signals s)))
      (λ no_clock. subst (λ v. v < 2 ^ signal_width design.signals s)
      (unclocked_same e s no_clock)
      (fits_at (flat_system design) e fits s (is_seen s inside no_clock)))
      (either_way (is_clock design s))

  -- the next value of a signal that is no clock has its width
  pub next_fits : (e : Environment ℕ) → Fits (flat_system design) e →
      KindFits (is_register design) (flat_system design) ((flat_system design).next e)
  next_fits e fits = each (λ s. IsTrue (is_register design s) →
      (flat_system design).next e s < 2 ^ signal_width design.signals s)
      (flat_system design).signals (λ s seen register.
      subst (λ v. v < 2 ^ signal_width design.signals s)
      (sym (next_same e (unclocked_values e) s (seen_same e s seen) (seen_same e)))
      (edge_fits design is_sound admitted (unclocked_values e) (unclocked_fit e fits) s
      (within s seen)))
    where
      within : (s : ℕ) → IsSeen s → IsTrue (is_signal design.signals s)
      within s seen = lt-ltb s (length design.signals)
          (those_below (length design.signals) (λ z. not (is_clock design z)) s seen)
