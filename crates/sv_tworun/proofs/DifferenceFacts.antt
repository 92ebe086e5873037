-- What the searches for the first signal that differs say of the views of a cycle.
use Rattle.std.proofs.Common.{◌≡◌, ℕ, ◌<◌, Bool, true, false, not, ◌&&◌, ◌||◌, ◌==◌, List, length}
use Rattle.std.proofs.Common.{Option, Some, None, ⊎_elim, refl, sym, ap, subst, ◌∙◌}
use Rattle.std.specs.Prelude.{IsTrue, IsFalse, Contains, All, find, MatchOption}
use Rattle.std.proofs.lemmas.Bool.{false≢true, eqb-true}
use Rattle.std.proofs.lemmas.List.{length-map}
use Rattle.sv_system.specs.System.{System, Environment, seen, view}
use Rattle.sv_system.proofs.Lists.{told_same}
use Rattle.sv_system.proofs.Pointwise.{each}
use Rattle.sv_lattice.specs.declared.points.Point.{Point}
use Rattle.sv_flat.specs.declared.designs.Flat.{Flat}
use Rattle.sv_flat.specs.declared.signals.SigId.{SigId}
use Rattle.sv_flat.specs.Clocks.{is_clock}
use Rattle.sv_flat.specs.FlatSystem.{flat_system}
use Rattle.sv_flat.specs.Processes.{is_top_input}
use Rattle.sv_flat.specs.Sets.{those}
use Rattle.sv_flat.specs.Views.{signal_form, design_of}
use Rattle.sv_flat.proofs.Depths.{second_of}
use Rattle.sv_flat.proofs.LeastSets.{or_cases, those_below, those_pass}
use Rattle.sv_flat.proofs.SameRuns.{none_found}
use Rattle.sv_design.specs.Designs.{IsDesign}
use Rattle.sv_design.specs.Numbers.{number_if_any}
use Rattle.sv_sim.proofs.OneDesign.{register_no_clock}
use Rattle.sv_tworun.specs.Comparisons.{IsFirstApart, is_given, InputsApart}
use Rattle.sv_tworun.specs.Sights.{differs, IsFirst, FindsFirst, lower_of, shown_by}
use Rattle.sv_tworun.specs.Sights.{IsDifference}
use Rattle.sv_tworun.proofs.ApartFacts.{first_found, passes_alike, lower_found, first_apart}
use Rattle.sv_tworun.proofs.ApartFacts.{none_apart}

-- ---- what is given in a cycle

module _ (system : System ℕ Point) (test : ℕ → Bool) (n : ℕ) where
  or_none : (b c : Bool) → IsFalse c → (b || c) ≡ b
  or_none true c none = refl
  or_none false c none = none

  and_none : (b c : Bool) → IsFalse b → IsFalse (b && c)
  and_none true c none = absurd (false≢true (sym none))
  and_none false c none = refl

  -- after the first cycle the inputs alone
  pub later_given : (cycle : ℕ) → (cycle ≡ 0 → ⊥) → (answer : Option ℕ)
      → FindsFirst n (λ s. system.is_input s && test s) answer
      → FindsFirst n (λ s. is_given system cycle s && test s) answer
  later_given cycle later answer found =
      passes_alike n (λ s. system.is_input s && test s)
      (λ s. is_given system cycle s && test s)
      (λ s. ap (λ b. b && test s) (sym (or_none (system.is_input s)
      ((cycle == 0) && system.is_register s)
      (and_none (cycle == 0) (system.is_register s)
      (none_found (cycle == 0) (λ start. later (eqb-true cycle 0 start)))))))
      answer found

  of_both : (b c d : Bool) → ((b && d) || (c && d)) ≡ ((b || c) && d)
  of_both true c true = refl
  of_both true true false = refl
  of_both true false false = refl
  of_both false c d = refl

  -- in the first cycle the registers too
  pub first_given : (cycle : ℕ) → cycle ≡ 0 → (one other : Option ℕ)
      → FindsFirst n (λ s. system.is_input s && test s) one
      → FindsFirst n (λ s. system.is_register s && test s) other
      → FindsFirst n (λ s. is_given system cycle s && test s) (lower_of one other)
  first_given cycle start one other inputs registers =
      subst (λ c. FindsFirst n (λ s. is_given system c s && test s) (lower_of one other))
      (sym start)
      (passes_alike n
      (λ s. (system.is_input s && test s) || (system.is_register s && test s))
      (λ s. is_given system 0 s && test s)
      (λ s. of_both (system.is_input s) (system.is_register s) (test s)) (lower_of one other)
      (lower_found n (λ s. system.is_input s && test s) (λ s. system.is_register s && test s) one
      other inputs registers))

-- ---- listed signals of a design as the code holds it

module _ (flat : Flat) where
  abbrev count : ℕ
  count = length flat.signals.items

  count_is : length (design_of flat).signals ≡ count
  count_is = length-map flat.signals.items signal_form

  -- listed signals are signals
  pub listed_inside : (test : ℕ → Bool) (listed : List ℕ)
      → listed ≡ those (length (design_of flat).signals) test
      → All (λ (s : ℕ). s < count) listed
  listed_inside test listed is =
      each (λ s. s < count) listed (λ s at.
      subst (λ n. s < n) count_is
      (those_below (length (design_of flat).signals) test s (subst (λ ss. Contains ss s) is at)))

  -- and a search of them finds the first of their kind
  pub found_of : (kind test : ℕ → Bool) (listed : List ℕ) (answer : Option ℕ)
      → listed ≡ those (length (design_of flat).signals) kind → answer ≡ find test listed
      → FindsFirst count (λ s. kind s && test s) answer
  found_of kind test listed answer are is =
      first_found kind test count listed answer (are ∙ ap (λ n. those n kind) count_is) is

  -- ---- the views of a cycle

  module _ (is : IsDesign (design_of flat)) (level : Point) (e f : Environment ℕ) where
    abbrev system : System ℕ Point
    system = flat_system (design_of flat)

    abbrev unclocked : ℕ → Bool
    unclocked s = not (is_clock (design_of flat) s)

    signals_are : system.signals ≡ those count unclocked
    signals_are = ap (λ n. those n unclocked) count_is

    given_unclocked : (cycle s : ℕ) → IsTrue (is_given system cycle s) → IsTrue (unclocked s)
    given_unclocked cycle s given = ⊎_elim
        (λ input. second_of (is_top_input (design_of flat) s) (unclocked s) input)
        (λ register. ap not (register_no_clock (design_of flat) is.is_sound is.is_admitted s
        (second_of (cycle == 0) (system.is_register s) register)))
        (or_cases (system.is_input s) ((cycle == 0) && system.is_register s) given)

    given_apart : (cycle s : ℕ)
        → IsFirst count (λ t. is_given system cycle t && differs system level e f t) s
        → InputsApart system level cycle s e f
    given_apart cycle s first =
        first_apart system level count unclocked signals_are (is_given system cycle)
        (given_unclocked cycle) e f s first

    given_alike : (cycle : ℕ)
        → ((s : ℕ) → s < count → IsFalse (is_given system cycle s && differs system level e f s))
        → seen (is_given system cycle) system level e ≡ seen (is_given system cycle) system level f
    given_alike cycle none =
        none_apart system level count unclocked signals_are (is_given system cycle)
        (given_unclocked cycle) e f none

    -- every signal of the system is no clock
    all_seen : (g : Environment ℕ) → seen unclocked system level g ≡ view system level g
    all_seen g =
        told_same (λ s. unclocked s && system.flows (system.label s g) level) (λ s.
        true && system.flows (system.label s g) level) g g system.signals
        (λ s at. ap (λ b. b && system.flows (system.label s g) level)
        (those_pass (length (design_of flat).signals) unclocked s at))
        (λ s at visible. refl)

    views_apart : (s : ℕ)
        → IsFirst count (λ t. unclocked t && differs system level e f t) s
        → IsFirstApart system.signals (view system level e) (view system level f) s
    views_apart s first =
        subst (λ pairs. IsFirstApart system.signals pairs (view system level f) s) (all_seen e)
        (subst (λ pairs. IsFirstApart system.signals (seen unclocked system level e) pairs s)
        (all_seen f)
        (first_apart system level count unclocked signals_are unclocked (λ t here. here) e f s
        first))

    views_alike :
        ((s : ℕ) → s < count → IsFalse (unclocked s && differs system level e f s))
        → view system level e ≡ view system level f
    views_alike none =
        sym (all_seen e)
        ∙ none_apart system level count unclocked signals_are unclocked (λ t here. here) e f none
        ∙ all_seen f

    pub shown_is : (cycle : ℕ) (given found : Option SigId)
        → FindsFirst count (λ s. is_given system cycle s && differs system level e f s)
        (number_if_any given)
        → FindsFirst count (λ s. unclocked s && differs system level e f s) (number_if_any found)
        → MatchOption (shown_by cycle given found) (view system level e ≡ view system level f)
        (IsDifference system level cycle e f)
    shown_is cycle (Some s) found of_given of_all = (refl, given_apart cycle s.0 of_given)
    shown_is cycle None (Some s) of_given of_all = (
      refl,
      record { alike = given_alike cycle of_given; first = views_apart s.0 of_all },
    )
    shown_is cycle None None of_given of_all = views_alike of_all
