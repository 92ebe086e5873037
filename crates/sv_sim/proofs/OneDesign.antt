-- An admitted design has the drivers in order that the law on one trace asks for: each
-- combinational signal is driven by its process, and lower signals come first.
use Rattle.std.proofs.Common.{◌≡◌, ℕ, ◌<◌, ◌^◌, true, false, not, ◌==◌, ◌&&◌, List, [], ◌∷◌}
use Rattle.std.proofs.Common.{◌++◌, map, length, refl, sym, ap, subst, ◌∙◌, ⊎_elim, None, ltb-true}
use Rattle.std.specs.Prelude.{Contains, IsTrue, IsFalse, slice_index_or, slice_get}
use Rattle.std.specs.List.{IsDistinct}
use Rattle.std.proofs.lemmas.Bool.{eqb-true, eq-eqb}
use Rattle.std.proofs.lemmas.List.{map-append}
use Rattle.sv_system.specs.System.{Environment, Run, Fits, IsStill, HasOneTrace}
use Rattle.sv_system.specs.Facts.{IsCombinational, Driver, Ordered}
use Rattle.sv_system.proofs.Lists.{Contains-head, Contains-nil, Contains-map}
use Rattle.sv_system.proofs.Lists.{Contains-from_map, Contains-filter}
use Rattle.sv_system.proofs.OneTrace.{one_trace}
use Rattle.sv_system.proofs.Pointwise.{still_at, still_from}
use Rattle.sv_system.proofs.Runs.{targets}
use Rattle.sv_flat.specs.Design.{ProcessForm, FlatDesign}
use Rattle.sv_flat.specs.Admission.{IsAdmitted}
use Rattle.sv_flat.specs.Assigned.{assigns}
use Rattle.sv_flat.specs.Clocks.{is_clock, processes_of}
use Rattle.sv_flat.specs.FlatSystem.{flat_system, combinational_processes, run_of}
use Rattle.sv_flat.specs.Processes.{is_clocked, is_top_input, is_register, drivers}
use Rattle.sv_flat.specs.Reads.{is_combinational, depth, order}
use Rattle.sv_flat.specs.SignalLists.{registers}
use Rattle.sv_flat.specs.Soundness.{is_signal, sound}
use Rattle.sv_flat.specs.Values.{signal_width}
use Rattle.sv_flat.proofs.AdmittedFacts.{some_is_some, drives, extra_at, body_is_sound}
use Rattle.sv_flat.proofs.AdmittedFacts.{assigned_is_signal, targets_are_combinational}
use Rattle.sv_flat.proofs.AdmittedFacts.{combinational_is_driven, clocked_is_process}
use Rattle.sv_flat.proofs.AdmittedFacts.{assigns_no_clock, negated_true}
use Rattle.sv_flat.proofs.Depths.{first_of, second_of}
use Rattle.sv_flat.proofs.FlatScheduled.{same_target, parts_of, in_processes, unclocked, to_system}
use Rattle.sv_flat.proofs.FlatScheduled.{of_system}
use Rattle.sv_flat.proofs.LeastSets.{either_way, from_some, in_those}
use Rattle.sv_flat.proofs.Members.{Contains-right}
use Rattle.sv_flat.proofs.Orders.{order_has, order_only}
use Rattle.sv_flat.proofs.RunsFit.{run_fits}
use Rattle.sv_flat.proofs.SameRuns.{run_leaves, none_found}
use Rattle.sv_sim.proofs.AtPlace.{idle}
use Rattle.sv_sim.proofs.ByDepth.{order_distinct, lower_first}
use Rattle.sv_sim.proofs.InOrder.{one_of_one}
use Rattle.sv_sim.proofs.NextValues.{next_same, next_fits, unclocked_values, unclocked_same}
use Rattle.sv_sim.proofs.NextValues.{unclocked_fit}

-- the first element of a list of one
only_first : {X : Type 0} (xs : List X) (x d : X) → slice_get xs 1 ≡ None → Contains xs x →
    slice_index_or xs 0 d ≡ x
only_first [] x d none at = absurd (Contains-nil x at)
only_first (y ∷ ys) x d none at = one_of_one (y ∷ ys) y x none (Contains-head y ys) at

none_first : {X : Type 0} (xs : List X) (x : X) → Contains xs x → slice_get xs 0 ≡ None → ⊥
none_first [] x at none = Contains-nil x at
none_first (y ∷ ys) x at none = some_is_some y none

module _ (design : FlatDesign) (is_sound : IsTrue (sound design))
    (admitted : IsAdmitted design) where
  -- the first process that assigns the signal
  abbrev process_for : ℕ → ProcessForm
  process_for s = slice_index_or (drivers (processes_of design) s) 0 idle

  abbrev driver_for : ℕ → Driver ℕ
  driver_for s = record { target = s; value = λ e. run_of design (process_for s) e s }

  abbrev all_drivers : List (Driver ℕ)
  all_drivers = map driver_for (order design)

  -- it is each process that does
  process_is : (p : ProcessForm) (s : ℕ) → Contains (combinational_processes design) p →
      IsTrue (assigns p.body s) → process_for s ≡ p
  process_is p s at assigned =
      let among = in_processes design is_sound admitted p at in
      let comb = targets_are_combinational design is_sound admitted p s among
      (unclocked design is_sound admitted p at) assigned in
      let parts = parts_of design is_sound admitted s comb in
      only_first (drivers (processes_of design) s) p idle
      (extra_at design is_sound admitted false s parts.1 parts.0)
      (drives design is_sound admitted p s among assigned)

  record Driven (s : ℕ) : Type 0 where
    among : Contains (combinational_processes design) (process_for s)
    assigned : IsTrue (assigns (process_for s).body s)

  driven : (s : ℕ) → IsTrue (is_combinational design s) → Driven s
  driven s comb =
      let found = combinational_is_driven design is_sound admitted s comb in
      let p = found.0 in
      let among = Contains-filter (λ (q : ProcessForm). not (is_clocked q.kind))
      (processes_of design) p found.1 (ap not found.2) in
      let is = process_is p s among found.3 in
      record {
        among = subst (Contains (combinational_processes design)) (sym is) among;
        assigned = subst (λ (q : ProcessForm). IsTrue (assigns q.body s)) (sym is) found.3;
      }

  targets_are : (ss : List ℕ) → targets (map driver_for ss) ≡ ss
  targets_are [] = refl
  targets_are (s ∷ ss) = ap (λ zs. s ∷ zs) (targets_are ss)

  record DriverIs (d : Driver ℕ) : Type 0 where
    signal : ℕ
    comb : IsTrue (is_combinational design signal)
    is : driver_for signal ≡ d

  driver_is : (d : Driver ℕ) → Contains all_drivers d → DriverIs d
  driver_is d at =
      let from = Contains-from_map driver_for (order design) d at in
      record {
        signal = from.0;
        comb = order_only design admitted.ordered from.0 from.1;
        is = from.2;
      }

  -- ---- rest

  run_among : (p : ProcessForm) → Contains (combinational_processes design) p →
      Contains (flat_system design).processes (run_of design p)
  run_among p at = Contains-map (run_of design) (combinational_processes design) p at

  still_value : (e : Environment ℕ) → IsStill (flat_system design) e → (s : ℕ) →
      IsTrue (is_combinational design s) → e s ≡ run_of design (process_for s) e s
  still_value e still s comb =
      sym (still_at (flat_system design) e still (run_of design (process_for s))
      (run_among (process_for s) (driven s comb).among) s)

  rests_from : (e : Environment ℕ)
      → ((s : ℕ) → IsTrue (is_combinational design s) → e s ≡ run_of design (process_for s) e s)
      → IsStill (flat_system design) e
  rests_from e values = still_from (flat_system design) e (λ run at s.
      let from = Contains-from_map (run_of design) (combinational_processes design) run at in
      let p = from.0 in
      subst (λ (step : Run ℕ). step e s ≡ e s) from.2
      (⊎_elim
      (λ assigned.
      let comb = targets_are_combinational design is_sound admitted p s
      (in_processes design is_sound admitted p from.1) (unclocked design is_sound admitted p from.1)
      assigned in
      ap (λ (q : ProcessForm). run_of design q e s) (sym (process_is p s from.1 assigned))
      ∙ sym (values s comb))
      (λ none. run_leaves design.signals p.body s none (e, []))
      (either_way (assigns p.body s))))

  -- ---- values

  -- some process assigns the register
  kept : (s : ℕ) → IsTrue (is_register design s) →
      (q : ProcessForm) × Contains (processes_of design) q × IsTrue (assigns q.body s)
  kept s register =
      let found = from_some (λ (q : ProcessForm). is_clocked q.kind && assigns q.body s)
      design.processes register in
      let q = found.0 in
      let clock = first_of (is_clocked q.kind) (assigns q.body s) found.2 in (
        q,
        clocked_is_process design is_sound admitted q found.1 clock,
        second_of (is_clocked q.kind) (assigns q.body s) found.2,
      )

  -- a clocked process assigns no clock
  pub register_no_clock : (t : ℕ) → IsTrue (is_register design t) → IsFalse (is_clock design t)
  register_no_clock t register =
      let by = kept t register in assigns_no_clock design is_sound admitted by.0 t by.1 by.2

  -- a register is a signal, and is listed
  register_is_signal : (s : ℕ) → IsTrue (is_register design s) →
      IsTrue (is_signal design.signals s)
  register_is_signal s register =
      let by = kept s register in
      assigned_is_signal design.signals by.0.body (body_is_sound design is_sound admitted by.0 by.1)
      s by.2

  pub register_listed : (s : ℕ) → IsTrue (is_register design s) → Contains (registers design) s
  register_listed s register =
      in_those (length design.signals) (is_register design) s
      (ltb-true s (length design.signals) (register_is_signal s register)) register

  value_same : (s : ℕ) → IsTrue (is_combinational design s) → (e f : Environment ℕ)
      → ((t : ℕ) → IsTrue (is_top_input design t && not (is_clock design t)) → e t ≡ f t)
      → ((t : ℕ) → IsTrue (is_register design t) → e t ≡ f t)
      → ((t : ℕ) → IsTrue (is_combinational design t) → depth design t < depth design s
      → e t ≡ f t)
      → run_of design (process_for s) e s ≡ run_of design (process_for s) f s
  value_same s comb e f inputs registers lower =
      let by = driven s comb in
      same_target design is_sound admitted (process_for s) by.among s by.assigned e f inputs
      registers (λ t out t_comb falls. lower t t_comb falls)

  value_fits : (s : ℕ) → IsTrue (is_combinational design s) → (e : Environment ℕ)
      → Fits (flat_system design) e
      → run_of design (process_for s) e s < 2 ^ signal_width design.signals s
  value_fits s comb e fits =
      let by = driven s comb in
      let among = in_processes design is_sound admitted (process_for s) by.among in
      let sound_body = body_is_sound design is_sound admitted (process_for s) among in
      let f = unclocked_values design is_sound admitted e in
      subst (λ v. v < 2 ^ signal_width design.signals s)
      (sym (value_same s comb e f
      (λ t input. unclocked_same design is_sound admitted e t
      (negated_true (is_clock design t)
      (second_of (is_top_input design t) (not (is_clock design t)) input)))
      (λ t register. unclocked_same design is_sound admitted e t (register_no_clock t register))
      (λ t t_comb falls. unclocked_same design is_sound admitted e t
      (parts_of design is_sound admitted t t_comb).3)))
      ((run_fits design.signals (process_for s).body (f, []) sound_body
      (unclocked_fit design is_sound admitted e fits, (λ u none. absurd (Contains-nil u none)))).0 s
      (parts_of design is_sound admitted s comb).0)

  -- no process assigns an input
  pub input_no_register : (s : ℕ) → IsTrue (is_top_input design s && not (is_clock design s)) →
      is_register design s ≡ false
  input_no_register s input = none_found (is_register design s) (λ register.
      let by = kept s register in
      none_first (drivers (processes_of design) s) by.0
      (drives design is_sound admitted by.0 s by.1 by.2)
      (extra_at design is_sound admitted true s
      (first_of (is_top_input design s) (not (is_clock design s)) input)
      (register_is_signal s register)))

  -- ---- the facts of the law

  cut_order : (before later : List (Driver ℕ)) (d : Driver ℕ) → all_drivers ≡ before ++ d ∷ later →
      order design ≡ targets before ++ d.target ∷ targets later
  cut_order before later d is =
      sym (targets_are (order design)) ∙ ap targets is
      ∙ map-append (λ (b : Driver ℕ). b.target) before (d ∷ later)

  pub design_ordered : Ordered (flat_system design)
  design_ordered = record {
    same = ◌==◌;
    same_is = eqb-true;
    is_same = λ s. eq-eqb s s refl;
    drivers = all_drivers;
    still_targets = λ e fits still d at.
        let from = driver_is d at in
        subst (λ (b : Driver ℕ). e b.target ≡ b.value e) from.is
        (still_value e still from.signal from.comb);
    targets_still = λ e fits values. rests_from e (λ s comb.
        values (driver_for s) (Contains-map driver_for (order design) s
        (order_has design admitted.ordered s comb)));
    targets_differ = subst (IsDistinct ◌==◌) (sym (targets_are (order design)))
        (order_distinct design);
    targets_combinational = λ d at.
        let from = driver_is d at in
        subst (λ (b : Driver ℕ). IsCombinational (flat_system design) b.target) from.is
        (to_system design is_sound admitted from.signal from.comb);
    driven = λ s is. subst (λ ss. Contains ss s) (sym (targets_are (order design)))
        (order_has design admitted.ordered s (of_system design is_sound admitted s is));
    not_both = input_no_register;
    values_fit = λ d at e fits.
        let from = driver_is d at in
        subst (λ (b : Driver ℕ). b.value e < 2 ^ signal_width design.signals b.target) from.is
        (value_fits from.signal from.comb e fits);
    next_fits = next_fits design is_sound admitted;
    earlier = λ before later d is e f inputs registers agree.
        let at = subst (λ ds. Contains ds d) (sym is)
        (Contains-right before (d ∷ later) d
        (Contains-head d later)) in
        let from = driver_is d at in
        subst (λ (b : Driver ℕ). order design ≡ targets before ++ b.target ∷ targets later
        → b.value e ≡ b.value f) from.is
        (λ cut. value_same from.signal from.comb e f inputs registers (λ t comb falls.
        agree t (lower_first design admitted (targets before) (targets later) from.signal cut t comb
        falls)))
        (cut_order before later d is);
    next_within = λ e f s register registers agree.
        next_same design is_sound admitted e f s (registers s register) agree;
  }

-- each start and each list of inputs has exactly one trace
pub design_has_one_trace : (design : FlatDesign) → IsTrue (sound design) → IsAdmitted design →
    HasOneTrace (flat_system design)
design_has_one_trace design is_sound admitted =
    one_trace (flat_system design) (design_ordered design is_sound admitted)
