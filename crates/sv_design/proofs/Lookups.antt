-- What a table with an entry for each signal has at a signal's number.
use Rattle.std.proofs.Common.{◌≡◌, ℕ, ◌<◌, List, length, map, get_or, ap, subst, ◌∙◌, zero-add}
use Rattle.std.proofs.lemmas.List.FromFn.{get_or-map-range_with_len, length-map-range_with_len}
use Rattle.std.proofs.Math.ListN.{length-map}
use Rattle.sv_flat.specs.declared.designs.Flat.{Flat}
use Rattle.sv_flat.specs.Design.{FlatDesign}
use Rattle.sv_flat.specs.Views.{design_of, signal_form}
use Rattle.sv_flat.specs.Processes.{signal_numbers}

module _ {X : Type 0} (of : FlatDesign → ℕ → X) (table : List X) (flat now : Flat) (s : ℕ) where
  same_table : flat ≡ now → table ≡ map (of (design_of flat)) (signal_numbers (design_of flat))
      → table ≡ map (of (design_of now)) (signal_numbers (design_of now))
  same_table same is =
      subst (λ (z : Flat). table ≡ map (of (design_of z)) (signal_numbers (design_of z))) same is

  size_of_forms : s < length now.signals.items → s < length (map signal_form now.signals.items)
  size_of_forms inside = rw length-map inside

  pub inside_table : flat ≡ now
      → table ≡ map (of (design_of flat)) (signal_numbers (design_of flat))
      → s < length now.signals.items → s < length table
  inside_table same is inside =
      rw (same_table same is, length-map-range_with_len) (size_of_forms inside)

  pub found_in_table : (d : X) → flat ≡ now
      → table ≡ map (of (design_of flat)) (signal_numbers (design_of flat))
      → s < length now.signals.items → get_or table s d ≡ of (design_of now) s
  found_in_table d same is inside =
      ap (λ (t : List X). get_or t s d) (same_table same is)
      ∙ get_or-map-range_with_len (of (design_of now)) 0
      (length (map signal_form now.signals.items)) s s d
      (size_of_forms inside) (zero-add s)
