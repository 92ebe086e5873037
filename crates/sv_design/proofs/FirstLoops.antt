-- The first circle is the first breach of a design that breaks no other rule.
use Rattle.std.proofs.Common.{◌≡◌, [], inr, ⊎_elim}
use Rattle.sv_flat.specs.Admission.{breaches, IsFirstBreach}
use Rattle.sv_flat.specs.Breaches.{Breach}
use Rattle.sv_flat.specs.Design.{FlatDesign}
use Rattle.sv_flat.proofs.AdmittedFacts.{none_in}
use Rattle.sv_design.specs.Circles.{IsFirstLoop}

pub first_loop : (design : FlatDesign) (b : Breach) → breaches design ≡ [] → IsFirstLoop design b →
    IsFirstBreach design b
first_loop design b none first = record {
  broken = inr first.is_loop;
  before = λ o broken. ⊎_elim
      (λ l. absurd (none_in (breaches design) none o l))
      (λ loop. first.before o loop)
      broken;
}
