-- A combinational signal's settled value is a function of the signals read for it.
use Rattle.std.proofs.Common.{◌≡◌, ℕ, not, ⊎_elim, sym, ap, subst, ◌∙◌}
use Rattle.std.specs.Prelude.{Contains, IsTrue}
use Rattle.std.proofs.lemmas.Bool.{false≢true}
use Rattle.sv_system.specs.System.{Environment, Fits, IsStill}
use Rattle.sv_system.proofs.Lists.{Contains-filter}
use Rattle.sv_flat.specs.Design.{ProcessForm, FlatDesign}
use Rattle.sv_flat.specs.Admission.{IsAdmitted}
use Rattle.sv_flat.specs.Clocks.{processes_of}
use Rattle.sv_flat.specs.FlatSystem.{flat_system}
use Rattle.sv_flat.specs.Processes.{is_clocked}
use Rattle.sv_flat.specs.Reads.{is_combinational, is_read_for}
use Rattle.sv_flat.specs.Soundness.{sound}
use Rattle.sv_flat.proofs.AdmittedFacts.{combinational_is_driven}
use Rattle.sv_obl.proofs.TargetReads.{reads_of, origin, read_cases, steps_same, result_same}
use Rattle.sv_obl.proofs.TargetValues.{path_gives_value, some_value_path}

module _ (design : FlatDesign) (is_sound : IsTrue (sound design))
    (admitted : IsAdmitted design) where
  pub value_from_reads : (e f : Environment ℕ) (s : ℕ) → IsTrue (is_combinational design s)
      → Fits (flat_system design) e → Fits (flat_system design) f
      → IsStill (flat_system design) e → IsStill (flat_system design) f
      → ((t : ℕ) → IsTrue (is_read_for design s t) → e t ≡ f t) → e s ≡ f s
  value_from_reads e f s comb e_fits f_fits e_still f_still same =
      let driver = combinational_is_driven design is_sound admitted s comb in
      let p = driver.0 in
      let at = driver.1 in
      let own = driver.3 in
      let among = Contains-filter (λ (q : ProcessForm). not (is_clocked q.kind))
      (processes_of design) p at (ap not driver.2) in
      let found = some_value_path design is_sound admitted p among e e_fits e_still s own in
      let q = found.0 in
      let o = origin design is_sound admitted p s at own q found.1 in
      let agree = λ (t : ℕ) (t_at : Contains (reads_of design q) t). ⊎_elim
      (λ served. same t (subst (λ z. IsTrue (is_read_for design s z)) served.3 served.2))
      (λ kept. absurd (false≢true (sym driver.2 ∙ kept.0)))
      (read_cases design is_sound admitted p s at own q o t t_at) in
      path_gives_value design is_sound admitted p among e e_fits e_still s own q found.1 found.2
      ∙ result_same design is_sound admitted p s at own q o e f agree
      ∙ sym (path_gives_value design is_sound admitted p among f f_fits f_still s own q found.1
      (sym (steps_same design is_sound admitted p s at own q o e f agree) ∙ found.2))
