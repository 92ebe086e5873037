-- The places of the processes of one kind.
use Rattle.std.proofs.Common.{◌≡◌, ℕ, ◌+◌, ◌<◌, Bool, true, false, cond, List, [], ◌∷◌}
use Rattle.std.proofs.Common.{◌++◌, length, map, take, get_or, ⊎_elim, refl, sym, ap, subst, ◌∙◌}
use Rattle.std.specs.Prelude.{Contains, filter, slice_index}
use Rattle.std.proofs.lemmas.List.{length-map, map-append, get_or-map, take_more}
use Rattle.std.proofs.lemmas.List.Elements.{Contains-get_or}
use Rattle.sv_system.proofs.Lists.{Contains-nil, Contains-cases}
use Rattle.sv_flat.specs.Design.{ProcessForm, FlatDesign}
use Rattle.sv_flat.specs.Clocks.{processes_of}
use Rattle.sv_flat.specs.FlatSystem.{combinational_processes, run_of}
use Rattle.sv_flat.specs.Schedules.{numbered_run}
use Rattle.sv_flat.proofs.Members.{Contains-either}
use Rattle.sv_sim.specs.Simulations.{process_at}
use Rattle.sv_sim.proofs.AtPlace.{idle}
use Rattle.sv_event.specs.Places.{is_of_kind, ArePlaces}

module _ {X : Type 0} (test : X → Bool) where
  kept_with : (b : Bool) (y : X) (xs zs : List X) →
      cond b (y ∷ (xs ++ zs)) (xs ++ zs) ≡ cond b (y ∷ xs) xs ++ zs
  kept_with true y xs zs = refl
  kept_with false y xs zs = refl

  pub filter_last : (xs : List X) (x : X) →
      filter test (xs ++ x ∷ []) ≡ filter test xs ++ cond (test x) (x ∷ []) []
  filter_last [] x = refl
  filter_last (y ∷ xs) x =
      ap (λ zs. cond (test y) (y ∷ zs) zs) (filter_last xs x)
      ∙ kept_with (test y) y (filter test xs) (cond (test x) (x ∷ []) [])

made_choice : {X Y : Type 0} (f : X → Y) (b : Bool) (x : X) →
    map f (cond b (x ∷ []) []) ≡ cond b (f x ∷ []) []
made_choice f true x = refl
made_choice f false x = refl

one_at_most : (b : Bool) (x y : ℕ) → Contains (cond b (x ∷ []) []) y → x ≡ y
one_at_most true x y at = ⊎_elim (λ is. is) (λ none. absurd (Contains-nil y none))
    (Contains-cases x [] y at)
one_at_most false x y at = absurd (Contains-nil y at)

module _ (design : FlatDesign) (clocked : Bool) where
  abbrev ps : List ProcessForm
  ps = processes_of design

  pub more_within : (places new : List ℕ) (place : ℕ) (has : Bool) → place < length ps
      → new ≡ places ++ cond has (place ∷ []) []
      → ((p : ℕ) → Contains places p → p < length ps)
      → (p : ℕ) → Contains new p → p < length ps
  more_within places new place has inside is within p at = ⊎_elim
      (λ before. within p before)
      (λ last. subst (λ q. q < length ps) (one_at_most has place p last) inside)
      (Contains-either places (cond has (place ∷ []) []) p (subst (λ ns. Contains ns p) is at))

  pub more_are : (places new : List ℕ) (place : ℕ) (has : Bool) → place < length ps
      → has ≡ is_of_kind clocked (process_at design place)
      → new ≡ places ++ cond has (place ∷ []) []
      → map (process_at design) places ≡ filter (is_of_kind clocked) (take place ps)
      → map (process_at design) new ≡ filter (is_of_kind clocked) (take (place + 1) ps)
  more_are places new place has inside wanted is are =
      let p = process_at design place in
      ap (map (process_at design)) is
      ∙ map-append (process_at design) places (cond has (place ∷ []) [])
      ∙ ap (λ qs. map (process_at design) places ++ qs) (made_choice (process_at design) has place)
      ∙ ap (λ b. map (process_at design) places ++ cond b (p ∷ []) []) wanted
      ∙ ap (λ qs. qs ++ cond (is_of_kind clocked p) (p ∷ []) []) are
      ∙ sym (filter_last (is_of_kind clocked) (take place ps) p)
      ∙ ap (filter (is_of_kind clocked)) (sym (take_more ps place idle inside))

module _ (design : FlatDesign) (combs : List ℕ) (are : ArePlaces design false combs) where
  -- there are as many places as combinational processes
  pub comb_count : length combs ≡ length (combinational_processes design)
  comb_count = sym (length-map combs (process_at design)) ∙ ap length are.are

  pub comb_inside : (k : ℕ) → k < length combs →
      slice_index combs k < length (processes_of design)
  comb_inside k inside = are.within (slice_index combs k) (Contains-get_or combs k 0 inside)

  -- a run by number is one of the process at its place
  pub numbered_is : (k : ℕ) → k < length combs →
      numbered_run design k ≡ run_of design (process_at design (slice_index combs k))
  numbered_is k inside =
      let among = subst (λ n. k < n) comb_count inside in
      get_or-map (run_of design) (combinational_processes design) k idle (λ e. e) among
      ∙ ap (λ qs. run_of design (get_or qs k idle)) (sym are.are)
      ∙ ap (run_of design) (get_or-map (process_at design) combs k 0 idle inside)
