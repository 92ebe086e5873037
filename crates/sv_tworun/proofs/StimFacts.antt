-- Stimuli as runs, as the code holds them.
use Rattle.std.proofs.Common.{◌≡◌, ℕ, ◌+◌, ◌<◌, min, List, length, get_or, Some}
use Rattle.std.proofs.Common.{option_map, Vec, refl, sym, ap, ap₂, subst, ◌∙◌, add-one}
use Rattle.std.specs.Prelude.{slice_get}
use Rattle.std.specs.declared.alloc.Global.{Global}
use Rattle.std.proofs.lemmas.List.{length-map}
use Rattle.std.proofs.lemmas.List.Elements.{All-get_or}
use Rattle.std.proofs.lemmas.Option.{slice_get-map, slice_get_read}
use Rattle.std.proofs.lemmas.Option.{get_or_from_slice_get}
use Rattle.sv_system.specs.Schedules.{IsTheSettled}
use Rattle.sv_flat.specs.declared.designs.Flat.{Flat}
use Rattle.sv_flat.specs.ByNumber.{by_number}
use Rattle.sv_flat.specs.FlatSystem.{flat_system}
use Rattle.sv_flat.specs.SignalLists.{inputs}
use Rattle.sv_flat.specs.Views.{design_of}
use Rattle.sv_design.specs.Designs.{IsDesign}
use Rattle.sv_flat.specs.Given.{FitListed, given}
use Rattle.sv_trace.specs.declared.stim.Stim.{Stim}
use Rattle.sv_tworun.specs.Forms.{run_of, FitsRun}
use Rattle.sv_tworun.proofs.RunFacts.{HasReached, HasInCycle, in_cycle, goes_on}

-- ---- lengths

-- the lower of the numbers of cycles
pub shorter : (a b : Stim) (count : ℕ) → count ≡ min (length a.cycles.items) (length b.cycles.items)
    → count ≡ min (length (run_of a).cycles) (length (run_of b).cycles)
shorter a b count is =
    is
    ∙ ap₂ (λ m n. min m n) (sym (length-map a.cycles.items _)) (sym (length-map b.cycles.items _))

pub length_of : (stim : Stim) (n : ℕ) → n ≡ stim.cycles.len → length (run_of stim).cycles ≡ n
length_of stim n is = length-map stim.cycles.items _ ∙ sym (is ∙ stim.cycles.ok.0)

-- ---- cycles

cycle_there : (stim : Stim) (k : ℕ) (values : Vec ℕ Global) → k < length (run_of stim).cycles
    → values ≡ get_or stim.cycles.items k values
    → slice_get (run_of stim).cycles k ≡ Some values.items
cycle_there stim k values below is =
    slice_get-map (λ (vs : Vec ℕ Global). vs.items) stim.cycles.items k
    ∙ ap (option_map (λ (vs : Vec ℕ Global). vs.items))
    (slice_get_read stim.cycles.items (length stim.cycles.items) k values refl
    (subst (λ n. k < n) (length-map stim.cycles.items _) below) is)

-- the values of a cycle fit
pub cycle_fits : (flat d : Flat) → d ≡ flat → (stim : Stim) → FitsRun (design_of flat) (run_of stim)
    → (k : ℕ) (values : Vec ℕ Global) (now : List ℕ) → k < length (run_of stim).cycles
    → values ≡ get_or stim.cycles.items k values → now ≡ values.items
    → FitListed (design_of d).signals (inputs (design_of d)) now
cycle_fits flat d same stim fits k values now below is now_is =
    let there = cycle_there stim k values below is in
    let fit = FitListed (design_of flat).signals (inputs (design_of flat)) in
    subst (λ (e : Flat). FitListed (design_of e).signals (inputs (design_of e)) now) (sym same)
    (subst fit (sym now_is)
    (subst fit (get_or_from_slice_get (run_of stim).cycles k values.items values.items there)
    (All-get_or fit (run_of stim).cycles k values.items below fits.cycles)))

module _ (flat d : Flat) (same : d ≡ flat) (is : IsDesign (design_of flat)) (stim : Stim) (k : ℕ)
    (values : Vec ℕ Global) (now old mid : List ℕ) (below : k < length (run_of stim).cycles)
    (values_are : values ≡ get_or stim.cycles.items k values) (now_is : now ≡ values.items)
    (settled : IsTheSettled (flat_system (design_of d)) (by_number old)
    (given (inputs (design_of d)) now) (by_number mid))
    (reached : HasReached (design_of flat) (run_of stim) k old) where
  here : slice_get (run_of stim).cycles k ≡ Some now
  here = cycle_there stim k values below values_are ∙ ap Some (sym now_is)

  settled_here : IsTheSettled (flat_system (design_of flat)) (by_number old)
      (given (inputs (design_of flat)) now) (by_number mid)
  settled_here = subst (λ (e : Flat). IsTheSettled (flat_system (design_of e)) (by_number old)
      (given (inputs (design_of e)) now) (by_number mid)) same settled

  pub stim_in_cycle : HasInCycle (design_of flat) (run_of stim) k mid
  stim_in_cycle =
      in_cycle (design_of flat) is (run_of stim) k now old mid here settled_here reached

  pub stim_goes_on : (new : List ℕ) (e : Flat) → e ≡ flat
      → by_number new ≡ (flat_system (design_of e)).next (by_number mid)
      → HasReached (design_of flat) (run_of stim) (k + 1) new
  stim_goes_on new e e_same ticked =
      subst (λ n. HasReached (design_of flat) (run_of stim) n new) (sym (add-one k))
      (goes_on (design_of flat) is (run_of stim) k now old mid new here settled_here
      (ticked ∙ ap (λ (f : Flat). (flat_system (design_of f)).next (by_number mid)) e_same)
      reached)
