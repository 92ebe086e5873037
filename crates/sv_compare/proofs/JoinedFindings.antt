-- What the comparison of two stimuli finds of a system is, under other names, what it finds of one
-- that is joined with it.
use Rattle.std.proofs.Common.{◌≡◌, List, [], ◌∷◌, map, Some, refl, sym, ap, ap₂, subst, ◌∙◌}
use Rattle.std.proofs.Common.{ℕ}
use Rattle.std.specs.Prelude.{Contains}
use Rattle.std.specs.List.{AllZip}
use Rattle.sv_system.specs.System.{System, Environment, Fits, IsTrace}
use Rattle.sv_system.specs.Joining.{Joined}
use Rattle.sv_system.proofs.JoinedCycles.{renamed, by_name, agree_back, agree_over}
use Rattle.sv_system.proofs.Lists.{Contains-head, Contains-later}
use Rattle.sv_trace.specs.Forms.{StimForm}
use Rattle.sv_trace.specs.Stimulus.{read_whole, start_of, cycles_of}
use Rattle.sv_sim_run.specs.Traces.{form_in, IsTraceFrom}
use Rattle.sv_run_laws.proofs.SameSimulations.{SeeAlike, forms_same, trace_from_over}
use Rattle.sv_run_laws.proofs.SameSimulations.{trace_from_back}
use Rattle.sv_tworun.specs.Forms.{Finding}
use Rattle.sv_compare.specs.ComparedTexts.{IsComparisonOf, with_names}
use Rattle.sv_compare.proofs.SameFindings.{SameNames, SayAlike, found_over}

-- names that lead back
map_back : {X Y : Type 0} (to : X → Y) (from : Y → X) (xs : List X)
    → ((x : X) → Contains xs x → from (to x) ≡ x) → map from (map to xs) ≡ xs
map_back to from [] back = refl
map_back to from (x ∷ xs) back =
    ap₂ (λ y ys. y ∷ ys) (back x (Contains-head x xs))
    (map_back to from xs (λ y at. back y (Contains-later x xs y at)))

-- what is found of a system is found of another, where its traces are carried over and say alike
module _ {Signal Point Other OtherPoint : Type 0} (first : System Signal Point)
    (second : System Other OtherPoint) (to : Signal → Other) (names : SameNames first second to)
    (point : Point) (other : OtherPoint) (carry : Environment Signal → Environment Other)
    (alike : (e : Environment Signal) → Fits first e
    → SayAlike first second to point other e (carry e)) where
  all_alike : (inputs es : List (Environment Signal)) (state : Environment Signal)
      → IsTrace first state inputs es
      → AllZip (λ e f. SayAlike first second to point other e f) es (map carry es)
  all_alike inputs [] state trace = tt
  all_alike [] (e ∷ es) state trace = absurd trace
  all_alike (now ∷ more) (e ∷ es) state trace =
      (alike e trace.0.fits, all_alike more es (first.next e) trace.1)

  module _ (name : Signal → List ℕ) (other_name : Other → List ℕ)
      (forms : form_in name first ≡ form_in other_name second)
      (traces : (start : List ℕ) (cycles : List (List ℕ)) (es : List (Environment Signal))
      → IsTraceFrom first start cycles es → IsTraceFrom second start cycles (map carry es)) where
    abbrev IsAsked : StimForm → (bytes : List ℕ) → List (Environment Other) → Type 0
    IsAsked form bytes trace =
        IsTraceFrom second (start_of form (read_whole form bytes).right)
        (cycles_of (read_whole form bytes).right) trace

    asked_carried : (bytes : List ℕ) (es : List (Environment Signal))
        → IsTraceFrom first
        (start_of (form_in name first) (read_whole (form_in name first) bytes).right)
        (cycles_of (read_whole (form_in name first) bytes).right) es
        → IsAsked (form_in other_name second) bytes (map carry es)
    asked_carried bytes es is =
        let form = form_in name first in
        let right = (read_whole form bytes).right in
        subst (λ f. IsAsked f bytes (map carry es)) forms
        (traces (start_of form right) (cycles_of right) es is)

    comparison_carried : (one two : List ℕ) (found : Finding Signal)
        → IsComparisonOf name first point one two found
        → IsComparisonOf other_name second other one two (with_names to found)
    comparison_carried one two found is = record {
      one = map carry is.one;
      other = map carry is.other;
      of_first = asked_carried one is.one is.of_first;
      of_second = asked_carried two is.other is.of_second;
      finds =
          found_over first second to names point other is.one is.other
          (map carry is.one) (map carry is.other)
          (all_alike is.of_first.inputs is.one is.of_first.state is.of_first.follows)
          (all_alike is.of_second.inputs is.other is.of_second.state is.of_second.follows)
          found is.finds;
    }

module _ {Signal Point Other OtherPoint : Type 0} (first : System Signal Point)
    (second : System Other OtherPoint) (joined : Joined first second) where
  -- ---- names

  pub to_from : (t : Other) → Contains second.signals t → joined.to (joined.from t) ≡ t
  to_from = by_name first second joined (λ t. joined.to (joined.from t) ≡ t)
      (λ s at. ap joined.to (joined.from_to s at))

  names_over : SameNames first second joined.to
  names_over = record {
    from = joined.from;
    from_to = joined.from_to;
    signals = joined.signals;
    inputs = joined.inputs;
    registers = joined.registers;
  }

  names_back : SameNames second first joined.from
  names_back = record {
    from = joined.to;
    from_to = to_from;
    signals =
        sym (map_back joined.to joined.from first.signals joined.from_to)
        ∙ ap (map joined.from) (sym joined.signals);
    inputs = by_name first second joined (λ t. second.is_input t ≡ first.is_input (joined.from t))
        (λ s at. sym (joined.inputs s at) ∙ ap first.is_input (sym (joined.from_to s at)));
    registers =
        by_name first second joined (λ t. second.is_register t ≡ first.is_register (joined.from t))
        (λ s at. sym (joined.registers s at) ∙ ap first.is_register (sym (joined.from_to s at)));
  }

  module _ (point : Point) (other : OtherPoint)
      (sees : SeeAlike first second joined (Some point) (Some other)) where
    -- ---- environments

    abbrev Over : Environment Signal → Environment Other → Type 0
    Over e f = SayAlike first second joined.to point other e f

    abbrev Back : Environment Other → Environment Signal → Type 0
    Back f e = SayAlike second first joined.from other point f e

    alike_over : (e : Environment Signal) → Fits first e → Over e (renamed joined.from e)
    alike_over e fits =
        let agree = agree_over first second joined e fits in
        record { values = agree.same; sees = sees e (renamed joined.from e) agree }

    alike_back : (f : Environment Other) → Fits second f → Back f (renamed joined.to f)
    alike_back f fits =
        let e = renamed joined.to f in
        record {
          values = λ t at. ap f (sym (to_from t at));
          sees = by_name first second joined
              (λ t. second.flows (second.label t f) other ≡
              first.flows (first.label (joined.from t) e) point)
              (λ s at.
              sym (sees e f (agree_back first second joined f fits) s at)
              ∙ ap (λ r. first.flows (first.label r e) point) (sym (joined.from_to s at)));
        }

    -- ---- comparisons

    module _ (name : Signal → List ℕ) (other_name : Other → List ℕ)
        (names : (s : Signal) → Contains first.signals s → name s ≡ other_name (joined.to s))
        (one two : List ℕ) where
      same : form_in other_name second ≡ form_in name first
      same = forms_same first second joined name other_name names

      pub comparison_over : (found : Finding Signal)
          → IsComparisonOf name first point one two found
          → IsComparisonOf other_name second other one two (with_names joined.to found)
      comparison_over =
          comparison_carried first second joined.to names_over point other
          (renamed joined.from) alike_over name other_name (sym same)
          (trace_from_over first second joined name other_name names) one two

      pub comparison_back : (found : Finding Other)
          → IsComparisonOf other_name second other one two found
          → IsComparisonOf name first point one two (with_names joined.from found)
      comparison_back =
          comparison_carried second first joined.from names_back other point
          (renamed joined.to) alike_back other_name name same
          (trace_from_back first second joined name other_name names) one two
