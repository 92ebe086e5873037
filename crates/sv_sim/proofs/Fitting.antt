-- Environments that fit an admitted design, by number.
use Rattle.std.proofs.Common.{ℕ, not, nat_le, List, length}
use Rattle.std.proofs.Common.{lt-ltb, leb-true}
use Rattle.std.specs.Prelude.{IsTrue}
use Rattle.sv_system.specs.System.{Fits}
use Rattle.sv_system.proofs.Pointwise.{fits_from}
use Rattle.sv_flat.specs.Design.{FlatDesign}
use Rattle.sv_flat.specs.Admission.{IsAdmitted}
use Rattle.sv_flat.specs.ByNumber.{by_number, FitSignals, AreWords}
use Rattle.sv_flat.specs.Clocks.{is_clock}
use Rattle.sv_flat.specs.FlatSystem.{flat_system}
use Rattle.sv_flat.specs.Soundness.{is_one_to, label_sound, sound}
use Rattle.sv_flat.specs.Values.{signal_of}
use Rattle.sv_flat.proofs.AdmittedFacts.{signal_is_sound}
use Rattle.sv_flat.proofs.Depths.{first_of, second_of}
use Rattle.sv_flat.proofs.LeastSets.{those_below}

module _ (design : FlatDesign) (is_sound : IsTrue (sound design))
    (admitted : IsAdmitted design) where
  -- no signal has more bits than a word
  pub are_words : AreWords design.signals
  are_words s inside =
      let signal = signal_of design.signals s in
      let width = first_of (is_one_to 64 signal.width) (label_sound design signal.label)
      (signal_is_sound design is_sound admitted s (lt-ltb s (length design.signals) inside)) in
      leb-true signal.width 64
      (second_of (nat_le 1 signal.width) (nat_le signal.width 64) width)

-- values that fit their signals make an environment that does
pub numbers_fit : (design : FlatDesign) (values : List ℕ) → FitSignals design.signals values →
    Fits (flat_system design) (by_number values)
numbers_fit design values fit = fits_from (flat_system design) (by_number values) (λ s seen.
    fit.each s (those_below (length design.signals) (λ z. not (is_clock design z)) s seen))
