-- Signals of a list whose numbers are all below a number.
use Rattle.std.proofs.Common.{◌≡◌, ℕ, zero, suc, ◌<◌, List, [], ◌∷◌, length, get_or, All, arith}
use Rattle.std.proofs.lemmas.List.{length-map}
use Rattle.std.proofs.lemmas.List.Elements.{All-head, All-tail}
use Rattle.sv_flat.specs.declared.designs.Flat.{Flat}
use Rattle.sv_flat.specs.declared.signals.SigId.{SigId}
use Rattle.sv_flat.specs.Views.{signal_form, design_of}
use Rattle.sv_design.specs.Numbers.{numbers}

pub known_at : (n : ℕ) (signals : List SigId) (i : ℕ) (d : SigId) →
    All (λ s. s < n) (numbers signals) → i < length signals → (get_or signals i d).0 < n
known_at n [] i d all inside = absurd (omega arith)
known_at n (s ∷ ss) zero d all inside = All-head (λ k. k < n) s.0 (numbers ss) all
known_at n (s ∷ ss) (suc i) d all inside =
    known_at n ss i d (All-tail (λ k. k < n) s.0 (numbers ss) all) (omega arith)

-- ---- the signals of a design

pub as_many : (flat : Flat) → length (design_of flat).signals ≡ length flat.signals.items
as_many flat = length-map flat.signals.items signal_form

pub known_signal : (flat : Flat) (s : ℕ) → s < length flat.signals.items →
    s < length (design_of flat).signals
known_signal flat s known = omega (arith, known, as_many flat)

pub known_signals : (flat : Flat) (ss : List ℕ) → All (λ s. s < length flat.signals.items) ss →
    All (λ s. s < length (design_of flat).signals) ss
known_signals flat ss all k d inside = known_signal flat (get_or ss k d) (all k d inside)
