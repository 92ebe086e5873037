-- Runs one after the other.
use Rattle.std.proofs.Common.{◌≡◌, ℕ, suc, ◌+◌, ◌<◌, List, [], ◌∷◌, ◌++◌, length, map, take}
use Rattle.std.proofs.Common.{get_or, refl, sym, ap, ◌∙◌, arith}
use Rattle.std.specs.Prelude.{slice_index}
use Rattle.std.proofs.lemmas.List.{get_or-map, take_more}
use Rattle.sv_system.specs.System.{Environment}
use Rattle.sv_system.specs.Schedules.{after_runs}
use Rattle.sv_flat.specs.Design.{ProcessForm, FlatDesign}
use Rattle.sv_flat.specs.FlatSystem.{combinational_processes, run_of}
use Rattle.sv_flat.specs.Schedules.{numbered_run, after_schedule}
use Rattle.sv_sim.proofs.AtPlace.{idle}

-- lists of one length with the same numbers are one
pub same_lists : (xs ys : List ℕ) → length xs ≡ length ys
    → ((k : ℕ) → slice_index xs k ≡ slice_index ys k) → xs ≡ ys
same_lists [] [] count same = refl
same_lists [] (y ∷ ys) count same = absurd (omega (arith, count))
same_lists (x ∷ xs) [] count same = absurd (omega (arith, count))
same_lists (x ∷ xs) (y ∷ ys) count same =
    ap (λ z. z ∷ xs) (same 0)
    ∙ ap (λ zs. y ∷ zs) (same_lists xs ys (omega (arith, count)) (λ k. same (suc k)))

module _ (design : FlatDesign) where
  -- the environment after these processes have run
  abbrev pub after_processes : List ProcessForm → Environment ℕ → Environment ℕ
  after_processes ps e = after_runs (map (run_of design) ps) e

  pub one_more_run : (ps : List ProcessForm) (p : ProcessForm) (e : Environment ℕ) →
      after_processes (ps ++ p ∷ []) e ≡ run_of design p (after_processes ps e)
  one_more_run [] p e = refl
  one_more_run (q ∷ ps) p e = one_more_run ps p (run_of design q e)

  more_scheduled : (ks : List ℕ) (k : ℕ) (e : Environment ℕ) →
      after_schedule design (ks ++ k ∷ []) e ≡ numbered_run design k (after_schedule design ks e)
  more_scheduled [] k e = refl
  more_scheduled (m ∷ ks) k e = more_scheduled ks k (numbered_run design m e)

  pub schedule_more : (schedule : List ℕ) (i : ℕ) (e : Environment ℕ) → i < length schedule
      → after_schedule design (take (i + 1) schedule) e ≡
      numbered_run design (slice_index schedule i) (after_schedule design (take i schedule) e)
  schedule_more schedule i e inside =
      ap (λ ks. after_schedule design ks e) (take_more schedule i 0 inside)
      ∙ more_scheduled (take i schedule) (slice_index schedule i) e

  pub processes_more : (k : ℕ) (e : Environment ℕ) → k < length (combinational_processes design)
      → after_processes (take (k + 1) (combinational_processes design)) e ≡
      numbered_run design k (after_processes (take k (combinational_processes design)) e)
  processes_more k e inside =
      let ps = combinational_processes design in
      ap (λ qs. after_processes qs e) (take_more ps k idle inside)
      ∙ one_more_run (take k ps) (get_or ps k idle) e
      ∙ ap (λ r. r (after_processes (take k ps) e))
      (sym (get_or-map (run_of design) ps k idle (λ f. f) inside))
