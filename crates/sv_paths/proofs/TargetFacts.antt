-- The walk through all targets, one after the other.
use Rattle.std.proofs.Common.{◌≡◌, ℕ, suc, ◌+◌, ◌<◌, ◌≤◌, Bool, cond, nat_lt, List, []}
use Rattle.std.proofs.Common.{◌∷◌, length, map, flat_map, get_or, Option, Some, None}
use Rattle.std.proofs.Common.{refl, sym, ap, ap₂, subst, ◌∙◌, append-nil}
use Rattle.std.proofs.Common.{length-append, arith, le-ltb, All}
use Rattle.std.specs.Prelude.{Contains, IsTrue, slice_get, option_map}
use Rattle.std.specs.List.{list_any}
use Rattle.std.proofs.lemmas.Option.{slice_get_read, slice_get-map}
use Rattle.sv_flat.specs.Design.{ProcessForm, FlatDesign}
use Rattle.sv_flat.specs.Soundness.{sound, is_signal}
use Rattle.sv_flat.specs.Admission.{IsAdmitted}
use Rattle.sv_flat.specs.Clocks.{processes_of}
use Rattle.sv_flat.specs.Processes.{drivers, is_block, is_clocked}
use Rattle.sv_flat.specs.Readings.{no_bits}
use Rattle.sv_flat.specs.SignalLists.{driver_of}
use Rattle.sv_paths.specs.Answers.{excess_at}
use Rattle.sv_paths.specs.Limits.{Excess, many_paths, large_path, many_obligations, target_paths}
use Rattle.sv_obl.specs.Obligations.{Obligation, path_obligation, target_obligations}
use Rattle.sv_obl.specs.Paths.{Path, paths}
use Rattle.sv_obl.specs.Routes.{RouteForm, open_route, routes_before}
use Rattle.sv_paths.specs.RouteObligations.{route_obligation, names_on, is_large, excess_by}
use Rattle.sv_obl.specs.Wanted.{marked}
use Rattle.sv_obl.proofs.OneDriver.{no_driver, one_driver_at}
use Rattle.sv_paths.proofs.RouteObligations.{target_is, target_large, target_count, target_below}
use Rattle.sv_obl.proofs.FormLists.{length_mapped}

-- the obligation of the path at a place
pub obligation_at : {F X : Type 0} (form : X → F) (become : F → Obligation) (xs : List X)
    (os : List Obligation) (k : ℕ) (x : X) → map become (map form xs) ≡ os → k < length xs
    → x ≡ get_or xs k x → slice_get os k ≡ Some (become (form x))
obligation_at form become xs os k x are inside is =
    ap (λ (ys : List Obligation). slice_get ys k) (sym are)
    ∙ slice_get-map become (map form xs) k
    ∙ ap (option_map become) (slice_get-map form xs k)
    ∙ ap (λ found. option_map become (option_map form found))
    (slice_get_read xs (length xs) k x refl inside is)

-- ---- one target

module _ (design : FlatDesign) (s : ℕ) where
  path_count : (ps : List ProcessForm)
      → length (flat_map (λ (p : ProcessForm).
      map (path_obligation [] design p s) (paths design.signals s p.kind p.body)) ps)
      ≡ length (flat_map (λ (p : ProcessForm). paths design.signals s p.kind p.body) ps)
  path_count [] = refl
  path_count (p ∷ ps) =
      let found = paths design.signals s p.kind p.body in
      length-append (map (path_obligation [] design p s) found) _
      ∙ ap₂ (λ a b. a + b) (length_mapped found) (path_count ps)
      ∙ sym (length-append found _)
    where
      length_mapped : (qs : List Path) →
          length (map (path_obligation [] design p s) qs) ≡ length qs
      length_mapped [] = refl
      length_mapped (q ∷ qs) = ap suc (length_mapped qs)

  -- a target has as many obligations as paths
  pub obligation_count :
      length (target_obligations [] design s) ≡ length (target_paths design s)
  obligation_count = path_count (drivers (processes_of design) s)

-- the process that drives a target is alone, and so its paths are those of the target
module _ (design : FlatDesign) (is_sound : IsTrue (sound design)) (admitted : IsAdmitted design)
    (s : ℕ) (known : IsTrue (is_signal design.signals s)) (k : ℕ) (p : ProcessForm)
    (driven : driver_of design s ≡ Some k) (there : get_or (processes_of design) k p ≡ p) where
  pub driver_there : Contains (processes_of design) p
  driver_there = subst (Contains (processes_of design)) there
      (one_driver_at design is_sound admitted s known k p driven).0

  pub driver_alone : drivers (processes_of design) s ≡ p ∷ []
  driver_alone = (one_driver_at design is_sound admitted s known k p driven).2
      ∙ ap (λ q. q ∷ []) there

  pub paths_are : target_paths design s ≡ paths design.signals s p.kind p.body
  paths_are =
      ap (flat_map (λ (q : ProcessForm). paths design.signals s q.kind q.body)) driver_alone
      ∙ append-nil (paths design.signals s p.kind p.body)

module _ (design : FlatDesign) (is_sound : IsTrue (sound design)) (admitted : IsAdmitted design)
    (s : ℕ) (inside : s < length design.signals) (known : IsTrue (is_signal design.signals s)) where
  pub none_listed : driver_of design s ≡ None → target_obligations [] design s ≡ []
  none_listed none = ap (flat_map (λ (p : ProcessForm).
      map (path_obligation [] design p s) (paths design.signals s p.kind p.body)))
      (no_driver design is_sound admitted s known none)

  -- the limits by the number of paths and whether one is large
  abbrev excess_of : (total count : ℕ) → Bool → Option Excess
  excess_of total count large =
      cond (nat_lt 4096 count) (Some (many_paths s))
      (cond large (Some (large_path s))
      (cond (nat_lt 65536 (total + count)) (Some many_obligations) None))

  pub none_passed : driver_of design s ≡ None → (total : ℕ) → total ≤ 65536 →
      excess_at design total s ≡ None
  none_passed none total few =
      let no_paths : target_paths design s ≡ [] = ap (flat_map (λ (p : ProcessForm).
      paths design.signals s p.kind p.body))
      (no_driver design is_sound admitted s known none) in
      ap (λ found. excess_of total (length found) (list_any (λ (path : Path).
      nat_lt 65536 path.nodes) found)) no_paths
      ∙ ap (λ b. cond b (Some many_obligations) None) (le-ltb 65536 (total + 0) (omega arith))

  -- ---- a target that a process drives

  module _ (k : ℕ) (p : ProcessForm) (driven : driver_of design s ≡ Some k)
      (there : get_or (processes_of design) k p ≡ p)
      (unmarked : marked design.signals (is_block p.kind) p.body no_bits ≡ p.body) where
    abbrev routes : List RouteForm
    routes = routes_before design.signals s p.body open_route

    at : Contains (processes_of design) p
    at = driver_there design is_sound admitted s known k p driven there

    pub excess_same : (total : ℕ)
        → excess_by is_large s total routes ≡ excess_at design total s
    excess_same total = sym (
        ap (λ found. excess_of total (length found) (list_any (λ (path : Path).
        nat_lt 65536 path.nodes) found))
        (paths_are design is_sound admitted s known k p driven there)
        ∙ ap₂ (excess_of total) (target_count design p s inside is_sound admitted at unmarked)
        (target_large design p s inside is_sound admitted at unmarked))

    pub listed_same : map (route_obligation (length design.signals) p s) routes
        ≡ target_obligations [] design s
    listed_same = sym (
        ap (flat_map (λ (x : ProcessForm).
        map (path_obligation [] design x s) (paths design.signals s x.kind x.body)))
        (driver_alone design is_sound admitted s known k p driven there)
        ∙ append-nil (map (path_obligation [] design p s) (paths design.signals s p.kind p.body))
        ∙ target_is design p s inside is_sound admitted at unmarked)

    pub names_within : (route : RouteForm) → Contains routes route
        → All (λ t. t < length design.signals) (names_on (is_clocked p.kind) s route)
    names_within = target_below design p s inside is_sound admitted at
