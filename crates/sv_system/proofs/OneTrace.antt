-- Where drivers stand in order, each start and each list of inputs has exactly one trace.
use Rattle.std.proofs.Common.{◌≡◌, List, [], ◌∷◌, ◌++◌, ⊎_elim, refl, sym, subst, ◌∙◌, append_assoc}
use Rattle.std.proofs.Common.{append-nil}
use Rattle.std.specs.Prelude.{Contains, All, IsTrue}
use Rattle.std.proofs.lemmas.List.{map-append}
use Rattle.std.proofs.lemmas.List.Elements.{All-weaker, All-contains_itself, All-head, All-tail}
use Rattle.std.proofs.lemmas.List.Elements.{Contains-append_cases, Contains-append_right}
use Rattle.sv_system.specs.System.{System, Environment, Settled, IsTrace, SameTraces, KindFits}
use Rattle.sv_system.specs.System.{HasOneTrace}
use Rattle.sv_system.specs.Facts.{Driver, Ordered}
use Rattle.sv_system.proofs.Lists.{Contains-head, Contains-nil, Contains-cases}
use Rattle.sv_system.proofs.Runs.{targets}
use Rattle.sv_system.proofs.OneCycle.{IsAtRest, rests, kinds}
use Rattle.sv_system.proofs.Settling.{settle, settle_settles}

module _ {Signal Point : Type 0} (system : System Signal Point) (facts : Ordered system) where
  module _ (e f : Environment Signal) (e_rests : IsAtRest system e) (f_rests : IsAtRest system f)
      (inputs : (s : Signal) → IsTrue (system.is_input s) → e s ≡ f s) (registers : (s : Signal) →
      IsTrue (system.is_register s) → e s ≡ f s) where
    -- along the order of the drivers
    targets_along : (before after : List (Driver Signal)) → facts.drivers ≡ before ++ after
        → ((s : Signal) → Contains (targets before) s → e s ≡ f s)
        → (s : Signal) → Contains (targets facts.drivers) s → e s ≡ f s
    targets_along before [] is agree s at =
        agree s (subst (λ ds. Contains (targets ds) s) (is ∙ append-nil before) at)
    targets_along before (d ∷ after) is agree s at =
        targets_along (before ++ d ∷ []) after (is ∙ sym (append_assoc before (d ∷ []) after))
        grown s at
      where
        among : Contains facts.drivers d
        among =
            subst (λ ds. Contains ds d) (sym is)
            (Contains-append_right before (d ∷ after) d (Contains-head d after))

        here : e d.target ≡ f d.target
        here =
            facts.still_targets e e_rests.fits e_rests.still d among
            ∙ facts.earlier before after d is e f inputs registers agree
            ∙ sym (facts.still_targets f f_rests.fits f_rests.still d among)

        grown : (t : Signal) → Contains (targets (before ++ d ∷ [])) t → e t ≡ f t
        grown t listed = ⊎_elim (agree t)
            (λ last. ⊎_elim (λ hit. subst (λ r. e r ≡ f r) hit here) (λ none.
            absurd (Contains-nil t none)) (Contains-cases d.target [] t last))
            (Contains-append_cases (targets before) (d.target ∷ []) t
            (subst (λ ts. Contains ts t) (map-append (λ (b : Driver Signal).
            b.target) before (d ∷ [])) listed))

    all_agree : (s : Signal) → Contains system.signals s → e s ≡ f s
    all_agree s within = ⊎_elim
        (λ given. ⊎_elim (inputs s) (registers s) given)
        (λ combinational. targets_along [] facts.drivers refl (λ t none.
        absurd (Contains-nil t none)) s (facts.driven s combinational))
        (kinds system s within)

  -- two states with the same registers have the same settled environment
  pub settled_agree : (state1 state2 now e f : Environment Signal)
      → ((s : Signal) → IsTrue (system.is_register s) → state1 s ≡ state2 s)
      → Settled system state1 now e → Settled system state2 now f → (s : Signal)
      → Contains system.signals s → e s ≡ f s
  settled_agree state1 state2 now e f states one two =
      all_agree e f (rests system state1 now e one) (rests system state2 now f two)
      (λ s input. one.inputs_are s input ∙ sym (two.inputs_are s input))
      (λ s register. one.registers s register ∙ states s register ∙ sym (two.registers s register))

  -- the settled environment of each cycle
  abbrev trace_of : Environment Signal → List (Environment Signal) → List (Environment Signal)
  trace_of start [] = []
  trace_of start (now ∷ more) =
      settle system facts start now ∷ trace_of (system.next (settle system facts start now)) more

  is_trace : (inputs : List (Environment Signal)) (start : Environment Signal) →
      KindFits system.is_register system start → All (KindFits system.is_input system) inputs →
      IsTrace system start inputs (trace_of start inputs)
  is_trace [] start start_fits inputs_fit = tt
  is_trace (now ∷ more) start start_fits inputs_fit =
      let settled = settle_settles system facts start now start_fits
      (All-head (KindFits system.is_input system) now more inputs_fit) in (
        settled,
        is_trace more (system.next (settle system facts start now))
            (facts.next_fits (settle system facts start now) settled.fits)
            (All-tail (KindFits system.is_input system) now more inputs_fit),
      )

  same_traces : (inputs first second : List (Environment Signal))
      (start1 start2 : Environment Signal)
      → ((s : Signal) → IsTrue (system.is_register s) → start1 s ≡ start2 s)
      → IsTrace system start1 inputs first → IsTrace system start2 inputs second
      → SameTraces system first second
  same_traces [] [] [] start1 start2 starts one two = tt
  same_traces [] (e ∷ first) second start1 start2 starts one two = absurd one
  same_traces [] [] (f ∷ second) start1 start2 starts one two = absurd two
  same_traces (now ∷ more) [] second start1 start2 starts one two = absurd one
  same_traces (now ∷ more) (e ∷ first) [] start1 start2 starts one two = absurd two
  same_traces (now ∷ more) (e ∷ first) (f ∷ second) start1 start2 starts one two =
      let registers = λ (s : Signal) (register : IsTrue (system.is_register s)).
      one.0.registers s register ∙ starts s register ∙ sym (two.0.registers s register) in
      let agree = settled_agree start1 start2 now e f starts one.0 two.0 in (
        All-weaker (Contains system.signals) (λ s.
            e s ≡ f s) agree system.signals (All-contains_itself system.signals),
        same_traces more first second (system.next e) (system.next f) (λ s register.
            facts.next_within e f s register registers agree) one.1 two.1,
      )

-- drivers in order give each start and each list of inputs exactly one trace
pub one_trace : {Signal Point : Type 0} (system : System Signal Point) → Ordered system →
    HasOneTrace system
one_trace system facts start inputs start_fits inputs_fit = (
  trace_of system facts start inputs,
  is_trace system facts inputs start start_fits inputs_fit,
  λ other trace. same_traces system facts inputs (trace_of system facts start inputs) other start
      start (λ s register. refl) (is_trace system facts inputs start start_fits inputs_fit) trace,
)
