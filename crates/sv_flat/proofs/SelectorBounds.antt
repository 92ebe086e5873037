-- The points, maps and selectors of a sound label are there.
use Rattle.std.proofs.Common.{◌≡◌, ℕ, zero, suc, ◌<◌, Bool, ◌&&◌, ◌==◌, nat_lt}
use Rattle.std.proofs.Common.{List, [], ◌∷◌, length, map, get_or, Option, Some, None, All, ap}
use Rattle.std.proofs.Common.{option_to_list, IfSome}
use Rattle.std.proofs.Common.{refl, arith, ltb-true}
use Rattle.std.specs.Prelude.{IsTrue}
use Rattle.std.specs.List.{list_all}
use Rattle.std.proofs.lemmas.Bool.{false≢true}
use Rattle.std.proofs.lemmas.List.Elements.{Contains-get_or}
use Rattle.sv_lattice.specs.declared.points.Point.{Point}
use Rattle.sv_lattice.specs.declared.labels.Label.TheVariants.{Table}
use Rattle.sv_lattice.specs.Labels.{map_of}
use Rattle.sv_flat.specs.declared.signals.Signal.{Signal}
use Rattle.sv_flat.specs.Design.{SignalForm, FlatDesign}
use Rattle.sv_flat.specs.Values.{signal_of, signal_width}
use Rattle.sv_flat.specs.Soundness.{is_signal, is_point, is_one_to, selector_fits, second_fits}
use Rattle.sv_flat.specs.Soundness.{label_sound, signal_sound, map_sound, process_sound, sound}
use Rattle.sv_flat.specs.Soundness.{invariant_sound}
use Rattle.sv_flat.specs.Views.{signal_form}
use Rattle.sv_flat.proofs.Depths.{first_of, second_of, from_all}
use Rattle.sv_flat.specs.Selectors.{selectors_of}
use Rattle.sv_flat.proofs.Members.{contained_all}

-- an element by its place does not depend on what else is given
pub same_there : {X : Type 0} (xs : List X) (k : ℕ) (d e : X) → k < length xs →
    get_or xs k d ≡ get_or xs k e
same_there [] k d e inside = absurd (omega arith)
same_there (x ∷ xs) zero d e inside = refl
same_there (x ∷ xs) (suc k) d e inside = same_there xs k d e (omega arith)

form_there : (signals : List Signal) (s : ℕ) (d : SignalForm) (x : Signal) → s < length signals
    → get_or (map signal_form signals) s d ≡ signal_form (get_or signals s x)
form_there [] s d x inside = absurd (omega arith)
form_there (y ∷ signals) zero d x inside = refl
form_there (y ∷ signals) (suc s) d x inside = form_there signals s d x (omega arith)

pub label_here : (signals : List Signal) (s : ℕ) (x : Signal) → s < length signals
    → (signal_of (map signal_form signals) s).label ≡ (get_or signals s x).label
label_here signals s x inside =
    ap (λ (y : SignalForm). y.label) (form_there signals s _ x inside)

pub all_selectors : (k first : ℕ) (second : Option ℕ) →
    selectors_of (Table k first second) ≡ first ∷ option_to_list second
all_selectors k first None = refl
all_selectors k first (Some t) = refl

module _ (design : FlatDesign) (is_sound : IsTrue (sound design)) where
  abbrev to_maps : Bool
  to_maps = nat_lt (length design.signals) 4294967295
      && (length design.points == length design.lattice)
      && list_all (map_sound design) design.maps

  to_signals_hold : IsTrue (to_maps && list_all (signal_sound design) design.signals)
  to_signals_hold =
      first_of (to_maps && list_all (signal_sound design) design.signals)
      (list_all (process_sound design) design.processes)
      (first_of (to_maps && list_all (signal_sound design) design.signals
      && list_all (process_sound design) design.processes)
      (list_all (invariant_sound design) design.invariants) is_sound)

  pub label_is_sound : (s : ℕ) → s < length design.signals →
      IsTrue (label_sound design (signal_of design.signals s).label)
  label_is_sound s inside =
      second_of (is_one_to 64 (signal_of design.signals s).width)
      (label_sound design (signal_of design.signals s).label)
      (from_all (signal_sound design) design.signals (signal_of design.signals s)
      (second_of to_maps (list_all (signal_sound design) design.signals) to_signals_hold)
      (Contains-get_or design.signals s _ inside))

  pub rows_are_points : (k : ℕ) → k < length design.maps →
      All (λ (row : Point). row.0 < length design.lattice) (map_of design.maps k).rows
  rows_are_points k inside =
      let each = from_all (map_sound design) design.maps (map_of design.maps k)
      (second_of (nat_lt (length design.signals) 4294967295
      && (length design.points == length design.lattice))
      (list_all (map_sound design) design.maps)
      (first_of to_maps (list_all (signal_sound design) design.signals) to_signals_hold))
      (Contains-get_or design.maps k _ inside) in
      contained_all (λ (row : Point). row.0 < length design.lattice) (map_of design.maps k).rows
      (λ row at. ltb-true row.0 (length design.lattice)
      (from_all (is_point design) (map_of design.maps k).rows row each at))

module _ (design : FlatDesign) where
  -- the parts of a sound label by a map
  pub label_parts : (k first : ℕ) (second : Option ℕ)
      → IsTrue (label_sound design (Table k first second))
      → (k < length design.maps)
      × IsTrue (selector_fits design.signals first (map_of design.maps k).first)
      × IsTrue (second_fits design.signals second (map_of design.maps k).second)
  label_parts k first second h =
      let known = nat_lt k (length design.maps) in
      let fits = selector_fits design.signals first (map_of design.maps k).first in
      let others = second_fits design.signals second (map_of design.maps k).second in
      let both = first_of (known && fits) others h in (
        ltb-true k (length design.maps) (first_of known fits both),
        second_of known fits both,
        second_of (known && fits) others h,
      )

  pub label_map : (k first : ℕ) (second : Option ℕ) →
      IsTrue (label_sound design (Table k first second)) → k < length design.maps
  label_map k first second h = (label_parts k first second h).0

  fits_known : (t width : ℕ) → IsTrue (selector_fits design.signals t width) →
      t < length design.signals
  fits_known t width h = ltb-true t (length design.signals)
      (first_of (is_signal design.signals t) (signal_width design.signals t == width) h)

  pub label_first : (k first : ℕ) (second : Option ℕ) →
      IsTrue (label_sound design (Table k first second)) → first < length design.signals
  label_first k first second h =
      fits_known first (map_of design.maps k).first (label_parts k first second h).1

  pub label_second : (k first t : ℕ) →
      IsTrue (label_sound design (Table k first (Some t))) → t < length design.signals
  label_second k first t h =
      by_range (map_of design.maps k).second (label_parts k first (Some t) h).2
    where
      by_range : (range : Option ℕ) → IsTrue (second_fits design.signals (Some t) range) →
          t < length design.signals
      by_range None h = absurd (false≢true h)
      by_range (Some width) h = fits_known t width h

  pub label_rest : (k first : ℕ) (second : Option ℕ) →
      IsTrue (label_sound design (Table k first second)) →
      IfSome second (λ t. t < length design.signals)
  label_rest k first None h = tt
  label_rest k first (Some t) h = label_second k first t h
