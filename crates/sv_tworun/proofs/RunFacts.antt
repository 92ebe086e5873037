-- Two runs of an admitted design, side by side.
use Rattle.std.proofs.Common.{◌≡◌, ℕ, suc, ◌==◌, min, Bool, true, false, not, List}
use Rattle.std.proofs.Common.{map, drop, length, Some, option_map, sym, ap, ap₂, subst, ◌∙◌}
use Rattle.std.proofs.Common.{lt-ltb, refl, arith}
use Rattle.std.specs.Prelude.{Contains, slice_get}
use Rattle.std.proofs.lemmas.Bool.{false≢true, eqb-true, eq-eqb}
use Rattle.std.proofs.lemmas.List.{length-map}
use Rattle.std.proofs.lemmas.Option.{slice_get-map}
use Rattle.sv_system.specs.System.{Environment, IsTrace, seen, view}
use Rattle.sv_system.specs.Schedules.{IsTheSettled}
use Rattle.sv_lattice.specs.declared.points.Point.{Point}
use Rattle.sv_flat.specs.ByNumber.{by_number}
use Rattle.sv_flat.specs.Clocks.{is_clock}
use Rattle.sv_flat.specs.Design.{FlatDesign}
use Rattle.sv_flat.specs.FlatSystem.{flat_system}
use Rattle.sv_flat.specs.SignalLists.{inputs, registers}
use Rattle.sv_flat.specs.Values.{signal_of}
use Rattle.sv_flat.proofs.LeastSets.{those_below}
use Rattle.sv_design.specs.Designs.{IsDesign}
use Rattle.sv_flat.proofs.SelectorFacts.{label_selected, selector_is_seen}
use Rattle.sv_flat.specs.Given.{FitListed, with_given, given}
use Rattle.sv_sim.proofs.GivenValues.{listed_value}
use Rattle.sv_sim.proofs.OneDesign.{design_ordered, register_listed}
use Rattle.sv_tworun.specs.declared.compared.Compared.{Compared}
use Rattle.sv_tworun.specs.declared.compared.Compared.TheVariants.{Equal, InputsDiffer}
use Rattle.sv_tworun.specs.declared.compared.Compared.TheVariants.{ViewsDiffer, LengthsDiffer}
use Rattle.sv_tworun.specs.Comparisons.{IsFirstApart, is_given, SameViews, InputsApart, ViewsApart}
use Rattle.sv_tworun.specs.Comparisons.{AtCycle}
use Rattle.sv_tworun.specs.Forms.{Run, IsTraceOf}
use Rattle.sv_tworun.specs.Sights.{IsDifference}
use Rattle.sv_tworun.proofs.RunTraces.{IsFoundOfAll}
use Rattle.sv_tworun.proofs.TraceFacts.{same_start, trace_length, ahead, agrees, one_more}
use Rattle.sv_tworun.proofs.TraceFacts.{seen_alike, same_more}

-- ---- words

-- from these values on, what is left of the run has what is left of its trace
abbrev pub HasReached : FlatDesign → Run → (cycle : ℕ) → (values : List ℕ) → Type 0
HasReached design run cycle values =
    IsDesign design → (trace : List (Environment ℕ)) → IsTraceOf design run trace
    → IsTrace (flat_system design) (by_number values)
    (drop cycle (map (given (inputs design)) run.cycles)) (drop cycle trace)

-- before this cycle the level saw the same of both runs
abbrev pub AreAlike : FlatDesign → (level : Point) → (first second : Run) → (cycle : ℕ) → Type 0
AreAlike design level first second cycle =
    (one other : List (Environment ℕ)) → IsTraceOf design first one → IsTraceOf design second other
    → SameViews (flat_system design) level cycle one other

-- a trace has the cycle, with the values there
pub record HasThere (design : FlatDesign) (trace : List (Environment ℕ)) (cycle : ℕ)
    (values : List ℕ) : Type 0 where
  pub here : Environment ℕ
  pub is : slice_get trace cycle ≡ Some here
  pub same : (s : ℕ) → Contains (flat_system design).signals s → by_number values s ≡ here s

-- the run has these values in the cycle
abbrev pub HasInCycle : FlatDesign → Run → (cycle : ℕ) → (values : List ℕ) → Type 0
HasInCycle design run cycle values =
    (trace : List (Environment ℕ)) → IsTraceOf design run trace → HasThere design trace cycle values

-- ---- an admitted design

module _ (design : FlatDesign) (is : IsDesign design) where
  labels_alike : (e f : Environment ℕ) (s : ℕ) → Contains (flat_system design).signals s
      → ((t : ℕ) → Contains (flat_system design).signals t → e t ≡ f t)
      → (flat_system design).label s e ≡ (flat_system design).label s f
  labels_alike e f s at same =
      let inside = lt-ltb s (length design.signals)
      (those_below (length design.signals) (λ z. not (is_clock design z)) s at) in
      label_selected design.maps (signal_of design.signals s).label e f (λ t selects.
      same t (selector_is_seen design is.is_sound is.is_admitted s inside t selects))

  looks_alike : (level : Point) (kind : ℕ → Bool) (e f : Environment ℕ)
      → ((t : ℕ) → Contains (flat_system design).signals t → e t ≡ f t)
      → seen kind (flat_system design) level e ≡ seen kind (flat_system design) level f
  looks_alike level kind e f same =
      seen_alike (flat_system design) level labels_alike kind e f same

  -- ---- one run

  given_there : (run : Run) (k : ℕ) (now : List ℕ) → slice_get run.cycles k ≡ Some now
      → slice_get (map (given (inputs design)) run.cycles) k ≡ Some (given (inputs design) now)
  given_there run k now is =
      slice_get-map (given (inputs design)) run.cycles k
      ∙ ap (option_map (given (inputs design))) is

  -- settled values are those of the cycle
  pub in_cycle : (run : Run) (k : ℕ) (now old values : List ℕ)
      → slice_get run.cycles k ≡ Some now
      → IsTheSettled (flat_system design) (by_number old) (given (inputs design) now)
      (by_number values)
      → HasReached design run k old → HasInCycle design run k values
  in_cycle run k now old values here settled reached trace of_run =
      let there = ahead (flat_system design) (by_number old) (given (inputs design) now)
      (map (given (inputs design)) run.cycles) trace k (given_there run k now here)
      (reached is trace of_run) in
      record {
        here = there.here;
        is = there.is;
        same = agrees (flat_system design) (by_number old) (given (inputs design) now)
            (by_number values) (drop (suc k) (map (given (inputs design)) run.cycles)) trace k
            settled there;
      }

  -- and the next values begin what is left after it
  pub goes_on : (run : Run) (k : ℕ) (now old values new : List ℕ)
      → slice_get run.cycles k ≡ Some now
      → IsTheSettled (flat_system design) (by_number old) (given (inputs design) now)
      (by_number values)
      → by_number new ≡ (flat_system design).next (by_number values)
      → HasReached design run k old → HasReached design run (suc k) new
  goes_on run k now old values new here settled ticked reached again trace of_run =
      subst (λ e. IsTrace (flat_system design) e
      (drop (suc k) (map (given (inputs design)) run.cycles)) (drop (suc k) trace)) (sym ticked)
      (one_more (flat_system design)
      (design_ordered design is.is_sound is.is_admitted).next_within (by_number old)
      (given (inputs design) now) (by_number values) (map (given (inputs design)) run.cycles) trace
      k (given_there run k now here) settled (reached is trace of_run))

  -- ---- two runs

  module _ (level : Point) (first second : Run) where
    pub still_alike : (k : ℕ) (values others : List ℕ) → AreAlike design level first second k
        → HasInCycle design first k values → HasInCycle design second k others
        → view (flat_system design) level (by_number values) ≡
        view (flat_system design) level (by_number others)
        → AreAlike design level first second (suc k)
    still_alike k values others alike in_first in_second same one other of_first of_second =
        let here = in_first one of_first in
        let there = in_second other of_second in
        same_more (view (flat_system design) level) one other k here.here there.here here.is
        there.is (alike one other of_first of_second)
        (sym (looks_alike level (λ s. true) (by_number values) here.here here.same) ∙ same
        ∙ looks_alike level (λ s. true) (by_number others) there.here there.same)

    -- what tells the values apart tells the environments of the traces apart
    module _ (values others : List ℕ) (e f : Environment ℕ)
        (here : (s : ℕ) → Contains (flat_system design).signals s → by_number values s ≡ e s)
        (there : (s : ℕ) → Contains (flat_system design).signals s → by_number others s ≡ f s)
      where
        first_there : (kind : ℕ → Bool) (s : ℕ)
            → IsFirstApart (flat_system design).signals
            (seen kind (flat_system design) level (by_number values))
            (seen kind (flat_system design) level (by_number others)) s
            → IsFirstApart (flat_system design).signals (seen kind (flat_system design) level e)
            (seen kind (flat_system design) level f) s
        first_there kind s apart =
            subst (λ pairs. IsFirstApart (flat_system design).signals pairs
            (seen kind (flat_system design) level f) s)
            (looks_alike level kind (by_number values) e here)
            (subst (λ pairs.
            IsFirstApart (flat_system design).signals
            (seen kind (flat_system design) level (by_number values)) pairs s)
            (looks_alike level kind (by_number others) f there) apart)

        alike_there : (kind : ℕ → Bool) → seen kind (flat_system design) level (by_number values) ≡
            seen kind (flat_system design) level (by_number others)
            → seen kind (flat_system design) level e ≡ seen kind (flat_system design) level f
        alike_there kind same =
            sym (looks_alike level kind (by_number values) e here) ∙ same
            ∙ looks_alike level kind (by_number others) f there

    -- what a cycle shows of its values holds of the environments of the traces there
    seen_there : (k at : ℕ) (values others : List ℕ)
        (P : ℕ → Environment ℕ → Environment ℕ → Type 0)
        → AreAlike design level first second k → HasInCycle design first k values
        → HasInCycle design second k others → at ≡ k
        → ((e f : Environment ℕ)
        → ((s : ℕ) → Contains (flat_system design).signals s → by_number values s ≡ e s)
        → ((s : ℕ) → Contains (flat_system design).signals s → by_number others s ≡ f s) → P k e f)
        → (one other : List (Environment ℕ)) → IsTraceOf design first one
        → IsTraceOf design second other
        → SameViews (flat_system design) level at one other × AtCycle at one other (P at)
    seen_there k at values others P alike in_first in_second is shows one other of_first of_second =
        let here = in_first one of_first in
        let there = in_second other of_second in
        subst (λ cycle. SameViews (flat_system design) level cycle one other
        × AtCycle cycle one other (P cycle))
        (sym is) (
          alike one other of_first of_second,
          record {
            one = here.here;
            other = there.here;
            in_first = here.is;
            in_second = there.is;
            holds = shows here.here there.here here.same there.same;
          },
        )

    -- the difference that a cycle shows is what the comparison finds
    pub found_there : (k : ℕ) (values others : List ℕ) (found : Compared)
        → AreAlike design level first second k → HasInCycle design first k values
        → HasInCycle design second k others
        → IsDifference (flat_system design) level k (by_number values) (by_number others) found
        → IsFoundOfAll design level first second found
    found_there k values others (InputsDiffer at signal) alike in_first in_second shown =
        seen_there k at values others (λ cycle.
        InputsApart (flat_system design) level cycle signal.0) alike in_first in_second shown.0
        (λ e f here there. first_there values others e f here there
        (is_given (flat_system design) k) signal.0 shown.1)
    found_there k values others (ViewsDiffer at signal) alike in_first in_second shown =
        seen_there k at values others (λ cycle.
        ViewsApart (flat_system design) level cycle signal.0) alike in_first in_second shown.0
        (λ e f here there. record {
          alike = alike_there values others e f here there (is_given (flat_system design) k)
              (shown.1).alike;
          first = first_there values others e f here there (λ s. true) signal.0 (shown.1).first;
        })
    found_there k values others (Equal cycles) alike in_first in_second shown = absurd shown
    found_there k values others (LengthsDiffer cycles) alike in_first in_second shown =
        absurd shown

-- ---- the start and the end

module _ (design : FlatDesign) where
  -- the values that were loaded begin the run
  pub begins : (run : Run) (old values : List ℕ)
      → FitListed design.signals (registers design) run.start
      → by_number values ≡ with_given (registers design) run.start (by_number old)
      → HasReached design run 0 values
  begins run old values fit loaded is trace of_run =
      same_start (flat_system design) (given (registers design) run.start) (by_number values)
      (map (given (inputs design)) run.cycles) trace
      (λ s register. listed_value (registers design) run.start s 0 (by_number old s) fit.count
      (register_listed design is.is_sound is.is_admitted s register)
      ∙ sym (ap (λ e. e s) loaded))
      of_run

  pub as_many : (run : Run) (trace : List (Environment ℕ)) → IsTraceOf design run trace →
      length trace ≡ length run.cycles
  as_many run trace of_run =
      trace_length (flat_system design) (given (registers design) run.start)
      (map (given (inputs design)) run.cycles) trace of_run
      ∙ length-map run.cycles (given (inputs design))

  -- where no cycle shows one the lengths tell
  found_equal : (level : Point) (first second : Run) (k : ℕ)
      → AreAlike design level first second k → length first.cycles ≡ k
      → length second.cycles ≡ k → IsFoundOfAll design level first second (Equal k)
  found_equal level first second k alike one_long other_long one other of_first of_second = (
    as_many first one of_first ∙ one_long,
    as_many second other of_second ∙ other_long,
    alike one other of_first of_second,
  )

  found_shorter : (level : Point) (first second : Run) (k : ℕ)
      → AreAlike design level first second k
      → (length first.cycles ≡ length second.cycles → ⊥)
      → k ≡ min (length first.cycles) (length second.cycles)
      → IsFoundOfAll design level first second (LengthsDiffer k)
  found_shorter level first second k alike differ is_shorter one other of_first of_second = (
    (λ same. differ (sym (as_many first one of_first) ∙ same ∙ as_many second other of_second)),
    is_shorter
        ∙ sym (ap₂ (λ m n. min m n) (as_many first one of_first) (as_many second other of_second)),
    alike one other of_first of_second,
  )

  pub found_at_end : (level : Point) (first second : Run) (m n : ℕ) (found : Compared)
      → AreAlike design level first second (min m n) → length first.cycles ≡ m
      → length second.cycles ≡ n → (m ≡ n → found ≡ Equal m)
      → ((m ≡ n → ⊥) → found ≡ LengthsDiffer (min m n))
      → IsFoundOfAll design level first second found
  found_at_end level first second m n found alike one_long other_long equal shorter =
      go (m == n) refl
    where
      go : (b : Bool) → (m == n) ≡ b → IsFoundOfAll design level first second found
      go true is =
          let same = eqb-true m n is in
          subst (λ f. IsFoundOfAll design level first second f) (sym (equal same))
          (found_equal level first second m
          (subst (AreAlike design level first second) (omega (arith, same)) alike) one_long
          (other_long ∙ sym same))
      go false is =
          let differ : m ≡ n → ⊥ = λ same. false≢true (sym is ∙ eq-eqb m n same) in
          subst (λ f. IsFoundOfAll design level first second f) (sym (shorter differ))
          (found_shorter level first second (min m n) alike
          (λ same. differ (sym one_long ∙ same ∙ other_long))
          (ap₂ (λ i j. min i j) (sym one_long) (sym other_long)))
