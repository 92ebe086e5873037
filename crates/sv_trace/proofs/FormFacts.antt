-- What a stimulus has to know of a design, signal by signal.
use Rattle.std.proofs.Common.{◌≡◌, ℕ, zero, suc, ◌<◌, Bool, List, [], ◌∷◌, length}
use Rattle.std.proofs.Common.{subst, arith, get_or}
use Rattle.std.specs.Prelude.{All}
use Rattle.std.proofs.lemmas.List.{length-map}
use Rattle.std.proofs.lemmas.List.Elements.{All-head, All-tail}
use Rattle.sv_flat.specs.declared.designs.Flat.{Flat}
use Rattle.sv_flat.specs.declared.signals.SigId.{SigId}
use Rattle.sv_flat.specs.declared.signals.Signal.{Signal}
use Rattle.sv_flat.specs.Processes.{signals_that}
use Rattle.sv_flat.specs.Views.{design_of}
use Rattle.sv_design.specs.Numbers.{numbers}
use Rattle.sv_flat.proofs.SelectorBounds.{same_there}
use Rattle.sv_sim.proofs.Simulated.{numbers_within}

-- a listed signal is among the signals
pub known_at : (count : ℕ) (listed : List SigId) (k : ℕ) (d : SigId)
    → All (λ s. s < count) (numbers listed) → k < length listed → (get_or listed k d).0 < count
known_at count [] k d all inside = absurd (omega arith)
known_at count (s ∷ listed) zero d all inside =
    All-head (λ n. n < count) s.0 (numbers listed) all
known_at count (s ∷ listed) (suc k) d all inside =
    known_at count listed k d (All-tail (λ n. n < count) s.0 (numbers listed) all) (omega arith)

pub all_known : (flat : Flat) (signals : List Signal) → signals ≡ flat.signals.items
    → (test : ℕ → Bool) (listed : List SigId)
    → numbers listed ≡ signals_that (design_of flat) test
    → All (λ s. s < length signals) (numbers listed)
all_known flat signals is test listed are k d inside =
    let within = subst (λ n. k < n) (length-map listed (λ (s : SigId). s.0)) inside in
    subst (λ v. v < length signals) (same_there (numbers listed) k 0 d inside)
    (numbers_within flat signals is test listed are k within)
