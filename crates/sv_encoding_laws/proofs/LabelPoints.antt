-- The label of a signal can be read where the values fit, and is a point of the lattice.
use Rattle.std.proofs.Common.{◌≡◌, ℕ, zero, suc, ◌<◌, ◌^◌, ◌&&◌, ◌==◌, nat_lt, ltb-true}
use Rattle.std.proofs.Common.{List, [], ◌∷◌, length, map, get_or, Option, Some, None, All}
use Rattle.std.proofs.Common.{refl, sym, ap, subst, ◌∙◌, arith}
use Rattle.std.specs.Prelude.{IsTrue, slice_index}
use Rattle.std.proofs.lemmas.Bool.{false≢true, eqb-true}
use Rattle.std.proofs.lemmas.List.{length-map}
use Rattle.sv_lattice.specs.declared.points.Point.{Point}
use Rattle.sv_lattice.specs.declared.labels.Label.{Label}
use Rattle.sv_lattice.specs.declared.labels.Label.TheVariants.{Point as Declared, Table}
use Rattle.sv_lattice.specs.Labels.{map_of, IsReadable, FitsRange, FitsSecond, label_of}
use Rattle.sv_lattice.specs.Maps.{MapRows}
use Rattle.sv_flat.specs.declared.designs.Flat.{Flat}
use Rattle.sv_flat.specs.declared.signals.Signal.{Signal}
use Rattle.sv_flat.specs.ByNumber.{by_number, FitSignals}
use Rattle.sv_flat.specs.Design.{FlatDesign}
use Rattle.sv_flat.specs.FlatSystem.{label_in}
use Rattle.sv_flat.specs.Soundness.{is_signal, selector_fits, second_fits, label_sound}
use Rattle.sv_flat.specs.Soundness.{sound}
use Rattle.sv_flat.specs.Values.{signal_of, signal_width}
use Rattle.sv_flat.specs.Views.{signal_form, design_of}
use Rattle.sv_flat.proofs.Depths.{first_of, second_of}
use Rattle.sv_design.specs.Designs.{IsDesign}
use Rattle.sv_flat.proofs.SelectorBounds.{label_here, label_is_sound, rows_are_points, label_map}

-- the label that a list of values gives is that of their environment
pub same_label : (maps : List MapRows) (label : Label) (values : List ℕ) →
    label_of maps label values ≡ label_in maps label (by_number values)
same_label maps (Declared point) values = refl
same_label maps (Table map first None) values = refl
same_label maps (Table map first (Some second)) values = refl

-- an element, or what stands for one that is not there
either_holds : {X : Type 0} (P : X → Type 0) (xs : List X) (d : X) → All P xs → P d → (k : ℕ)
    → P (get_or xs k d)
either_holds P [] d each there k = there
either_holds P (x ∷ xs) d each there zero = each zero d (omega arith)
either_holds P (x ∷ xs) d each there (suc k) =
    either_holds P xs d (λ j e inside. each (suc j) e (omega arith)) there k

module _ (design : FlatDesign) (is_sound : IsTrue (sound design)) (values : List ℕ)
    (fit : FitSignals design.signals values) where
  in_range : (t width : ℕ) → IsTrue (selector_fits design.signals t width) →
      FitsRange values t width
  in_range t width h =
      let inside = ltb-true t (length design.signals)
      (first_of (is_signal design.signals t) (signal_width design.signals t == width) h) in (
        subst (λ n. t < n) (sym fit.count) inside,
        subst (λ w. slice_index values t < 2 ^ w)
            (eqb-true (signal_width design.signals t) width
            (second_of (is_signal design.signals t) (signal_width design.signals t == width) h))
            (fit.each t inside),
      )

  in_second : (second range : Option ℕ) → IsTrue (second_fits design.signals second range) →
      FitsSecond values second range
  in_second None None h = tt
  in_second None (Some width) h = absurd (false≢true h)
  in_second (Some t) None h = absurd (false≢true h)
  in_second (Some t) (Some width) h = in_range t width h

  readable : (label : Label) → IsTrue (label_sound design label) →
      IsReadable design.maps label values
  readable (Declared point) h = tt
  readable (Table k first second) h =
      let known = nat_lt k (length design.maps) in
      let ranged = selector_fits design.signals first (map_of design.maps k).first in
      let rest = second_fits design.signals second (map_of design.maps k).second in (
        label_map design k first second h,
        in_range first (map_of design.maps k).first
            (second_of known ranged (first_of (known && ranged) rest h)),
        in_second second (map_of design.maps k).second (second_of (known && ranged) rest h),
      )

  module _ (some_point : 0 < length design.lattice) where
    row_is_point : (k : ℕ) → k < length design.maps → (v : ℕ)
        → (get_or (map_of design.maps k).rows v (record { 0 = 0 })).0 < length design.lattice
    row_is_point k inside v =
        either_holds (λ (row : Point). row.0 < length design.lattice) (map_of design.maps k).rows
        (record { 0 = 0 }) (rows_are_points design is_sound k inside) some_point v

    is_a_point : (label : Label) → IsTrue (label_sound design label) →
        (label_of design.maps label values).0 < length design.lattice
    is_a_point (Declared point) h = ltb-true point.0 (length design.lattice) h
    is_a_point (Table k first None) h =
        row_is_point k (label_map design k first None h) _
    is_a_point (Table k first (Some second)) h =
        row_is_point k (label_map design k first (Some second) h) _

-- the same of a design as the code holds it
module _ (flat : Flat) (is : IsDesign (design_of flat)) (maps : List MapRows)
    (maps_are : maps ≡ flat.maps.items) (signals : List Signal)
    (signals_are : signals ≡ flat.signals.items) (s : ℕ) (inside : s < length flat.signals.items)
    (x : Signal) (values : List ℕ) (fit : FitSignals (design_of flat).signals values) where
  label_there : (signal_of (design_of flat).signals s).label ≡ (get_or signals s x).label
  label_there =
      label_here flat.signals.items s x inside
      ∙ ap (λ (zs : List Signal). (get_or zs s x).label) (sym signals_are)

  sound_there : IsTrue (label_sound (design_of flat) (get_or signals s x).label)
  sound_there =
      subst (λ (label : Label). IsTrue (label_sound (design_of flat) label)) label_there
      (label_is_sound (design_of flat) is.is_sound s
      (subst (λ n. s < n) (sym (length-map flat.signals.items signal_form)) inside))

  pub readable_there : IsReadable maps (get_or signals s x).label values
  readable_there =
      subst (λ (ms : List MapRows). IsReadable ms (get_or signals s x).label values) (sym maps_are)
      (readable (design_of flat) is.is_sound values fit (get_or signals s x).label sound_there)

  pub point_there : 0 < length flat.lattice →
      (label_of maps (get_or signals s x).label values).0 < length flat.lattice
  point_there some_point =
      subst (λ (ms : List MapRows).
      (label_of ms (get_or signals s x).label values).0 < length flat.lattice) (sym maps_are)
      (is_a_point (design_of flat) is.is_sound values fit some_point (get_or signals s x).label
      sound_there)

  pub label_seen : label_of maps (get_or signals s x).label values
      ≡ label_in (design_of flat).maps (signal_of (design_of flat).signals s).label
      (by_number values)
  label_seen =
      ap (λ (ms : List MapRows). label_of ms (get_or signals s x).label values) maps_are
      ∙ same_label flat.maps.items (get_or signals s x).label values
      ∙ ap (λ (label : Label). label_in flat.maps.items label (by_number values)) (sym label_there)
