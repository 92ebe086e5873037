-- What is used as something else than a clock.
use Rattle.std.proofs.Common.{◌≡◌, ℕ, ◌<◌, Bool, ◌&&◌, ◌||◌, ◌==◌, nat_lt, List, length}
use Rattle.std.proofs.Common.{Option, Some, None, refl, sym, ap, ◌∙◌, ltb-true}
use Rattle.std.specs.Prelude.{IsTrue, Contains, is_none}
use Rattle.std.specs.List.{list_any, cons_option}
use Rattle.std.proofs.lemmas.Bool.{false≢true}
use Rattle.sv_lattice.specs.Labels.{map_of}
use Rattle.sv_lattice.specs.declared.labels.Label.{Label}
use Rattle.sv_lattice.specs.declared.labels.Label.TheVariants.{Point as Declared, Table}
use Rattle.sv_flat.specs.Assigned.{assigns}
use Rattle.sv_flat.specs.Clocks.{link_in, reads_signal, uses_as_signal}
use Rattle.sv_flat.specs.Design.{SignalForm, ProcessForm, InvariantForm, FlatDesign}
use Rattle.sv_flat.specs.Soundness.{well_formed, is_one_to, is_signal, selector_fits, second_fits}
use Rattle.sv_flat.specs.Soundness.{label_sound, signal_sound, invariant_sound, sound}
use Rattle.sv_flat.specs.Values.{signal_width}
use Rattle.sv_flat.proofs.Depths.{first_of, second_of, from_all}
use Rattle.sv_graph.specs.Marks.{Marks}
use Rattle.sv_rules.specs.ReadMarks.{reads_in}
use Rattle.sv_rules.specs.Selectors.{SelectsBelow, is_port}
use Rattle.sv_graph.proofs.MarkFacts.{same_marked}
use Rattle.sv_rules.proofs.ReadMarks.{reads_signal-is}
use Rattle.sv_rules.proofs.Sound.{all_signals, all_invariants}

module _ (design : FlatDesign) (p : ProcessForm) where
  -- another process uses what it drives and reads
  pub process_uses : (old new : List Bool) → None ≡ link_in p
      → Marks old new (λ s. assigns p.body s || reads_in design.signals p.body s)
      → Marks old new (λ s. uses_as_signal design s p)
  process_uses old new e marks =
      same_marked old new (λ s. assigns p.body s || reads_in design.signals p.body s) (λ s.
      uses_as_signal design s p)
      (λ s. ap (λ t. assigns p.body s || t) (sym (reads_signal-is design.signals s p.body))
      ∙ ap (λ b. b && (assigns p.body s || reads_signal design.signals p.body s))
      (ap is_none e)) marks

-- ---- labels

module _ (design : FlatDesign) where
  fits_below : (s width : ℕ) → IsTrue (selector_fits design.signals s width) →
      s < length design.signals
  fits_below s width h =
      ltb-true s (length design.signals)
      (first_of (is_signal design.signals s) (signal_width design.signals s == width) h)

  second_below : (s : ℕ) (o : Option ℕ) → IsTrue (second_fits design.signals (Some s) o) →
      s < length design.signals
  second_below s None h = absurd (false≢true h)
  second_below s (Some width) h = fits_below s width h

  sound_label_below : (label : Label) → IsTrue (label_sound design label) →
      SelectsBelow (length design.signals) label
  sound_label_below (Declared point) h = tt
  sound_label_below (Table map first None) h =
      let rows = map_of design.maps map in
      let known = nat_lt map (length design.maps) in
      let one = selector_fits design.signals first rows.first in
      fits_below first rows.first
      (second_of known one
      (first_of (known && one) (second_fits design.signals None rows.second) h))
  sound_label_below (Table map first (Some second)) h =
      let rows = map_of design.maps map in
      let known = nat_lt map (length design.maps) in
      let one = selector_fits design.signals first rows.first in
      let two = second_fits design.signals (Some second) rows.second in (
        fits_below first rows.first (second_of known one (first_of (known && one) two h)),
        second_below second rows.second (second_of (known && one) two h),
      )

  pub label_below : IsTrue (sound design) → (signal : SignalForm) → Contains design.signals signal
      → SelectsBelow (length design.signals) signal.label
  label_below h signal at =
      sound_label_below signal.label
      (second_of (is_one_to 64 signal.width) (label_sound design signal.label)
      (from_all (signal_sound design) design.signals signal (all_signals design h) at))

-- ---- links

pub port_first : (o : Option (ℕ × ℕ)) (pairs : List (ℕ × ℕ)) (s : ℕ)
    → list_any (λ (pair : ℕ × ℕ). pair.0 == s) (cons_option o pairs) ≡
    (is_port o s || list_any (λ (pair : ℕ × ℕ). pair.0 == s) pairs)
port_first None pairs s = refl
port_first (Some pair) pairs s = refl

-- ---- invariants

pub invariant_formed : (design : FlatDesign) → IsTrue (sound design) → (i : InvariantForm)
    → Contains design.invariants i
    → IsTrue (well_formed design.signals i.expression)
invariant_formed design h i at =
    from_all (invariant_sound design) design.invariants i (all_invariants design h) at
