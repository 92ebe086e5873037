-- What the signals of a cone take, each by itself, is what inputs, registers and combinational
-- signals take.
use Rattle.std.proofs.Common.{◌≡◌, ℕ, zero, suc, ◌+◌, ◌<◌, Bool, true, false, cond, not, ◌||◌}
use Rattle.std.proofs.Common.{◌&&◌, ◌==◌, List, [], ◌∷◌, ◌++◌, length, map, filter, get_or, refl, sym}
use Rattle.std.proofs.Common.{ap, ◌∙◌, ⊎_elim, arith, lt-ltb, subst, Some, None}
use Rattle.std.proofs.Common.{◌≢◌}
use Rattle.std.specs.Prelude.{sum, flat_map, Contains, IsTrue, IsFalse, slice_get}
use Rattle.std.specs.List.{range_with_len}
use Rattle.std.proofs.lemmas.Bool.{false≢true, eqb-true}
use Rattle.std.proofs.lemmas.List.{get_or_default}
use Rattle.std.proofs.lemmas.List.Kept.{AllPairs-filter}
use Rattle.sv_system.proofs.Lists.{Contains-head, Contains-later}
use Rattle.sv_flat.specs.Design.{ProcessForm, FlatDesign}
use Rattle.sv_flat.specs.Values.{signal_width}
use Rattle.sv_flat.specs.Soundness.{is_signal, sound}
use Rattle.sv_flat.specs.Assigned.{assigns}
use Rattle.sv_flat.specs.Processes.{is_top_input, is_register, is_clocked, drivers, signals_that}
use Rattle.sv_flat.specs.Clocks.{processes_of, is_clock, is_clock_link}
use Rattle.sv_flat.specs.Reads.{is_combinational, depth, order}
use Rattle.sv_flat.specs.Sets.{holds}
use Rattle.sv_flat.specs.SignalLists.{driver_of}
use Rattle.sv_flat.specs.Admission.{IsAdmitted}
use Rattle.sv_flat.proofs.AdmittedFacts.{and_true, negated_true, extra_at}
use Rattle.sv_flat.proofs.Depths.{second_of}
use Rattle.sv_flat.proofs.LeastSets.{Contains-from_filter, holds-from_Contains}
use Rattle.sv_flat.proofs.LeastSets.{those_pass, some_from}
use Rattle.sv_flat.proofs.Members.{Contains-either}
use Rattle.sv_flat.proofs.Orders.{order_has, order_only}
use Rattle.sv_flat.proofs.SameRuns.{or_none_left, or_none_right}
use Rattle.sv_obl.proofs.MadeFacts.{register_driver}
use Rattle.sv_obl.proofs.OneDriver.{one_driver_at, no_driver}
use Rattle.sv_obl.specs.DesignQueries.{IsQueryOf}
use Rattle.sv_obl.specs.Obligations.{Obligation}
use Rattle.sv_obl.proofs.PathLists.{from_flat_map}
use Rattle.sv_encoding.specs.Cones.{conditions_of, registers_in, now_cone, next_cone}
use Rattle.sv_encoding.specs.Encoding.{inputs_in, given_in, settled_in}
use Rattle.sv_encoding.specs.BothWays.{IsCone}
use Rattle.sv_encoding.specs.GivenMeanings.{EachOnce}
use Rattle.sv_encoding.specs.Sizes.{widths_of, signal_size, signals_size, truth_size, label_size}
use Rattle.sv_encoding.specs.Sizes.{label_of_signal, target_size, violation_size, encoding_size}
use Rattle.sv_encoding_laws.proofs.GateCounts.{mapped_more}
use Rattle.sv_encoding_laws.proofs.Places.{once_rest, once_head, cones_once, range_from}
use Rattle.sv_encoding_laws.proofs.QueryCones.{now_is_cone, next_is_cone, now_seen}
use Rattle.sv_encoding_laws.proofs.QueryCones.{next_seen}
use Rattle.sv_encoding_laws.proofs.ConeFacts.{seen_below, Seen}
use Rattle.sv_blast.specs.ConeSizes.{now_size, next_size, now_sizes, next_sizes}
use Rattle.sv_blast.proofs.SizeSums.{turned_sum}

-- ---- the order has each signal once

once_cons : (x : ℕ) (xs : List ℕ) → (Contains xs x → ⊥) → EachOnce xs → EachOnce (x ∷ xs)
once_cons x xs none once i zero d less inside = absurd (omega arith)
once_cons x xs none once zero (suc j) d less inside =
    λ same. let below : j < length xs = omega arith in
    none (j, below, get_or_default xs j x d below ∙ sym same)
once_cons x xs none once (suc i) (suc j) d less inside =
    once i j d (omega arith) (omega arith)

once_join : (xs ys : List ℕ) → EachOnce xs → EachOnce ys →
    ((k : ℕ) → Contains xs k → Contains ys k → ⊥) → EachOnce (xs ++ ys)
once_join [] ys one other apart = other
once_join (x ∷ xs) ys one other apart =
    once_cons x (xs ++ ys)
    (λ at. ⊎_elim
    (λ inside. false≢true (sym (once_head x xs one) ∙ holds-from_Contains xs x inside))
    (λ later. apart x (Contains-head x xs) later)
    (Contains-either xs ys x at))
    (once_join xs ys (once_rest x xs one) other
    (λ k at. apart k (Contains-later x xs k at)))

module _ (design : FlatDesign) where
  abbrev at_depth : ℕ → List ℕ
  at_depth d =
      signals_that design (λ s. is_combinational design s && (depth design s == d))

  depth_is : (d s : ℕ) → Contains (at_depth d) s → depth design s ≡ d
  depth_is d s at =
      eqb-true (depth design s) d
      (second_of (is_combinational design s) (depth design s == d)
      (those_pass (length design.signals)
      (λ z. is_combinational design z && (depth design z == d)) s at))

  groups_once : (ds : List ℕ) → EachOnce ds → EachOnce (flat_map at_depth ds)
  groups_once [] once = λ i j d less inside. absurd (omega arith)
  groups_once (d ∷ ds) once =
      once_join (at_depth d) (flat_map at_depth ds)
      (AllPairs-filter ◌≢◌ (λ s. is_combinational design s && (depth design s == d))
      (range_with_len 0 (length design.signals)) (range_from 0 (length design.signals)))
      (groups_once ds (once_rest d ds once))
      (λ k here later.
      let found = from_flat_map at_depth ds k later in
      false≢true (sym (once_head d ds once)
      ∙ holds-from_Contains ds d (subst (Contains ds)
      (sym (depth_is found.0 k found.2) ∙ depth_is d k here) found.1)))

  order_once : EachOnce (order design)
  order_once =
      groups_once (range_with_len 1 (length design.signals))
      (range_from 1 (length design.signals))

module _ (design : FlatDesign) (is_sound : IsTrue (sound design)) (admitted : IsAdmitted design) where
  -- the combinational signals of a cone, in whichever order
  settled_sum : (f : ℕ → ℕ) (cone : List ℕ) → EachOnce cone →
      sum (map f (settled_in design cone)) ≡ sum (map f (filter (is_combinational design) cone))
  settled_sum f cone once =
      turned_sum f (order design) (order_once design) (is_combinational design)
      (order_has design admitted.ordered) (order_only design admitted.ordered) cone once

  -- ---- kinds

  not_both : (s : ℕ) → IsTrue (is_combinational design s) →
      IsFalse (is_top_input design s || is_register design s)
  not_both s comb =
      or_none_left (is_top_input design s || is_register design s) (is_clock design s)
      (negated_true (is_top_input design s || is_register design s || is_clock design s)
      (second_of (is_signal design.signals s)
      (not (is_top_input design s || is_register design s || is_clock design s)) comb))

  no_cons : (p : ProcessForm) (ps : List ProcessForm) → p ∷ ps ≡ [] → ⊥
  no_cons p ps e = cc

  no_first : (p : ProcessForm) (ps : List ProcessForm) → slice_get (p ∷ ps) 0 ≡ None → ⊥
  no_first p ps none = cc

  -- an input of the top module has no process
  top_undriven : (s : ℕ) → IsTrue (is_signal design.signals s) → IsTrue (is_top_input design s) →
      (p : ProcessForm) (ps : List ProcessForm) → drivers (processes_of design) s ≡ p ∷ ps → ⊥
  top_undriven s known top p ps driven =
      no_first p ps (sym (ap (λ qs. slice_get qs 0) driven)
      ∙ extra_at design is_sound admitted true s top known)

  top_no_register : (s : ℕ) → IsTrue (is_signal design.signals s) →
      IsTrue (is_top_input design s) → IsFalse (is_register design s)
  top_no_register s known top = by (is_register design s) refl
    where
      by : (c : Bool) → is_register design s ≡ c → c ≡ false
      by true is =
          let driver = register_driver design is_sound admitted s is in
          absurd (top_undriven s known top driver.0 [] driver.4)
      by false is = refl

  -- ---- whether a signal is given

  pub driven_given : (s k : ℕ) (d : ProcessForm) → s < length design.signals →
      driver_of design s ≡ Some k →
      (is_top_input design s || is_register design s)
      ≡ is_clocked (get_or (processes_of design) k d).kind
  driven_given s k d known driver =
      let inside = lt-ltb s (length design.signals) known in
      let p = get_or (processes_of design) k d in
      let one = one_driver_at design is_sound admitted s inside k d driver in
      by p one.2 one.0 one.1 (is_top_input design s) refl (is_clocked p.kind) refl
    where
      by : (p : ProcessForm) → drivers (processes_of design) s ≡ p ∷ [] →
          Contains (processes_of design) p → IsTrue (assigns p.body s) →
          (top : Bool) → is_top_input design s ≡ top → (clock : Bool) → is_clocked p.kind ≡ clock →
          (top || is_register design s) ≡ clock
      by p alone at own true top clock is =
          absurd (top_undriven s (lt-ltb s (length design.signals) known) top p [] alone)
      by p alone at own false top true is =
          some_from (λ (q : ProcessForm). is_clocked q.kind && assigns q.body s) design.processes p
          (Contains-from_filter (λ q. not (is_clock_link design q)) design.processes p at).1
          (and_true (is_clocked p.kind) (assigns p.body s) is own)
      by p alone at own false top false is = none (is_register design s) refl
        where
          none : (c : Bool) → is_register design s ≡ c → c ≡ false
          none true register =
              let driver = register_driver design is_sound admitted s register in
              absurd (false≢true (sym is
              ∙ ap (λ (q : ProcessForm). is_clocked q.kind)
              (ap (λ qs. get_or qs 0 p) (sym alone ∙ driver.4))
              ∙ driver.2))
          none false register = refl

  pub undriven_given : (s : ℕ) → s < length design.signals → driver_of design s ≡ None →
      (is_top_input design s || is_register design s) ≡ is_top_input design s
  undriven_given s known driver = by (is_top_input design s) (is_register design s) refl
    where
      by : (top register : Bool) → is_register design s ≡ register → (top || register) ≡ top
      by true register is = refl
      by false true is =
          let found = register_driver design is_sound admitted s is in
          absurd (no_cons found.0 [] (sym found.4
          ∙ no_driver design is_sound admitted s (lt-ltb s (length design.signals) known) driver))
      by false false is = refl

  -- ---- cones

  abbrev Kinds : List ℕ → Type 0
  Kinds cone =
      (s : ℕ) → Contains cone s → IsTrue (is_signal design.signals s)
      × IsTrue (is_top_input design s || is_register design s || is_combinational design s)

  now_parts : (cone : List ℕ) → Kinds cone →
      now_sizes design cone
      ≡ widths_of design.signals (given_in design cone)
      + signals_size design (filter (is_combinational design) cone)
  now_parts [] kinds = refl
  now_parts (s ∷ cone) kinds =
      mapped_more (now_size design) s cone
      ∙ by (is_top_input design s || is_register design s) (is_combinational design s) refl refl
      (kinds s (Contains-head s cone)).1
      (now_parts cone (λ t at. kinds t (Contains-later s cone t at)))
    where
      width : ℕ → ℕ
      width = signal_width design.signals

      given : List ℕ
      given = given_in design cone

      settled : List ℕ
      settled = filter (is_combinational design) cone

      by : (g c : Bool) → (is_top_input design s || is_register design s) ≡ g →
          is_combinational design s ≡ c → IsTrue (g || c) →
          now_sizes design cone
          ≡ widths_of design.signals given + signals_size design settled →
          cond g (signal_width design.signals s) (signal_size design s) + now_sizes design cone
          ≡ widths_of design.signals (cond g (s ∷ given) given)
          + signals_size design (cond c (s ∷ settled) settled)
      by true true g_is c_is some rest =
          absurd (false≢true (sym (not_both s c_is) ∙ g_is))
      by true false g_is c_is some rest =
          omega (arith, rest, mapped_more (signal_width design.signals) s given)
      by false true g_is c_is some rest =
          omega (arith, rest, mapped_more (signal_size design) s settled)
      by false false g_is c_is some rest = absurd (false≢true some)

  next_parts : (cone : List ℕ) → Kinds cone →
      next_sizes design cone
      ≡ widths_of design.signals (inputs_in design cone)
      + signals_size design (registers_in design cone)
      + signals_size design (filter (is_combinational design) cone)
  next_parts [] kinds = refl
  next_parts (s ∷ cone) kinds =
      mapped_more (next_size design) s cone
      ∙ by (is_top_input design s) (is_register design s) (is_combinational design s) refl refl refl
      (kinds s (Contains-head s cone)).1
      (next_parts cone (λ t at. kinds t (Contains-later s cone t at)))
    where
      inputs : List ℕ
      inputs = inputs_in design cone

      registers : List ℕ
      registers = registers_in design cone

      settled : List ℕ
      settled = filter (is_combinational design) cone

      known : IsTrue (is_signal design.signals s)
      known = (kinds s (Contains-head s cone)).0

      by : (t r c : Bool) → is_top_input design s ≡ t → is_register design s ≡ r →
          is_combinational design s ≡ c → IsTrue (t || r || c) →
          next_sizes design cone
          ≡ widths_of design.signals inputs + signals_size design registers
          + signals_size design settled →
          cond t (signal_width design.signals s) (signal_size design s) + next_sizes design cone
          ≡ widths_of design.signals (cond t (s ∷ inputs) inputs)
          + signals_size design (cond r (s ∷ registers) registers)
          + signals_size design (cond c (s ∷ settled) settled)
      by true true c t_is r_is c_is some rest =
          absurd (false≢true (sym (top_no_register s known t_is) ∙ r_is))
      by true false true t_is r_is c_is some rest =
          absurd (false≢true (sym (or_none_left (is_top_input design s) (is_register design s)
          (not_both s c_is)) ∙ t_is))
      by true false false t_is r_is c_is some rest =
          omega (arith, rest, mapped_more (signal_width design.signals) s inputs)
      by false true true t_is r_is c_is some rest =
          absurd (false≢true (sym (or_none_right (is_top_input design s) (is_register design s)
          (not_both s c_is)) ∙ r_is))
      by false true false t_is r_is c_is some rest =
          omega (arith, rest, mapped_more (signal_size design) s registers)
      by false false true t_is r_is c_is some rest =
          omega (arith, rest, mapped_more (signal_size design) s settled)
      by false false false t_is r_is c_is some rest = absurd (false≢true some)

  -- the signals of a cone are the design's, each of one kind
  cone_kinds : (cone : List ℕ) →
      ((s : ℕ) → IsTrue (holds cone s) → Seen design is_sound admitted s) → IsCone design cone →
      Kinds cone
  cone_kinds cone seen is s at = (
    lt-ltb s (length design.signals)
        (seen_below design is_sound admitted s (seen s (holds-from_Contains cone s at))),
    is.kinds s (holds-from_Contains cone s at),
  )

  module _ (o : Obligation) (query : IsQueryOf design o) where
    now_kinds : Kinds (now_cone design o)
    now_kinds = cone_kinds (now_cone design o) (now_seen design is_sound admitted o query)
        (now_is_cone design is_sound admitted o query)

    next_kinds : Kinds (next_cone design o)
    next_kinds = cone_kinds (next_cone design o) (next_seen design is_sound admitted o query)
        (next_is_cone design is_sound admitted o query)

    pub now_sum : now_sizes design (now_cone design o)
        ≡ widths_of design.signals (given_in design (now_cone design o))
        + signals_size design (settled_in design (now_cone design o))
    now_sum =
        now_parts (now_cone design o) now_kinds
        ∙ ap (λ n. widths_of design.signals (given_in design (now_cone design o)) + n)
        (sym (settled_sum (signal_size design) (now_cone design o) (cones_once design o).0))

    pub next_sum : next_sizes design (next_cone design o)
        ≡ widths_of design.signals (inputs_in design (next_cone design o))
        + signals_size design (registers_in design (next_cone design o))
        + signals_size design (settled_in design (next_cone design o))
    next_sum =
        next_parts (next_cone design o) next_kinds
        ∙ ap (λ n. widths_of design.signals (inputs_in design (next_cone design o))
        + signals_size design (registers_in design (next_cone design o)) + n)
        (sym (settled_sum (signal_size design) (next_cone design o) (cones_once design o).1))

    -- all of an encoding
    pub all_sizes : encoding_size design o
        ≡ 1 + now_sizes design (now_cone design o) + next_sizes design (next_cone design o)
        + sum (map (truth_size design.signals) (conditions_of o))
        + sum (map (λ t. label_size design (label_of_signal design t)) o.reads)
        + (target_size design o.goal + violation_size design o.reads o.goal)
    all_sizes = omega (arith, now_sum, next_sum)
