-- What one more cycle makes of the cycles that were run.
use Rattle.std.proofs.Common.{◌≡◌, ℕ, ◌+◌, ◌*◌, ◌%◌, ◌^◌, ◌<◌, ◌≤◌, List, [], ◌∷◌, ◌++◌}
use Rattle.std.proofs.Common.{length, map, refl}
use Rattle.std.proofs.Common.{sym, ap, subst, ◌∙◌, arith, Option, Some, None, ⊎_elim}
use Rattle.std.specs.Prelude.{Contains, IsTrue, IfSome, sum}
use Rattle.std.proofs.lemmas.List.{map-append}
use Rattle.std.proofs.lemmas.List.Sums.{fold-append}
use Rattle.std.proofs.Math.Path.{fun_ext}
use Rattle.sv_system.specs.System.{Environment, Settled, IsTrace}
use Rattle.sv_system.proofs.Lists.{Contains-nil, Contains-cases}
use Rattle.sv_flat.specs.Design.{FlatDesign}
use Rattle.sv_flat.specs.FlatSystem.{flat_system}
use Rattle.sv_flat.specs.Processes.{is_register}
use Rattle.sv_flat.specs.Schedules.{IsOrderedRun, IsRoundCount, starting, after_tick}
use Rattle.sv_flat.specs.Schedules.{tick_order, with_inputs, after_rounds}
use Rattle.sv_flat.specs.SignalLists.{inputs, registers}
use Rattle.sv_design.specs.Designs.{IsDesign}
use Rattle.sv_flat.specs.Given.{given}
use Rattle.sv_sim.proofs.OneDesign.{register_listed}
use Rattle.sv_sim_run.specs.declared.runners.Runner.{Runner}
use Rattle.sv_sim_run.specs.declared.runners.Runner.TheVariants as runner
use Rattle.sv_sim_run.specs.Runners.{CountsRounds, values_in, order_in, rounds_in}
use Rattle.sv_sim_run.specs.Runs.{HaveRun, HaveRunInOrder, after_trace, after_ordered}
use Rattle.sv_sim_run.proofs.MoreCycles.{trace_more, after_more, settled_from, ordered_more}
use Rattle.sv_sim_run.proofs.MoreCycles.{after_ordered_more}

-- ---- registers

-- two maps that give one list agree on each member
pub agree_on : {X Y : Type 0} (f g : X → Y) (xs : List X) → map f xs ≡ map g xs
    → (x : X) → Contains xs x → f x ≡ g x
agree_on f g [] same x at = absurd (Contains-nil x at)
agree_on f g (y ∷ xs) same x at = ⊎_elim
    (λ is. subst (λ z. f z ≡ g z) is (let first : f y ≡ g y = cc same in first))
    (λ inside. agree_on f g xs (let rest : map f xs ≡ map g xs = cc same in rest) x inside)
    (Contains-cases y xs x at)

module _ (design : FlatDesign) (is_design : IsDesign design) where
  pub same_registers : (e f : Environment ℕ) → map e (registers design) ≡ map f (registers design)
      → (s : ℕ) → IsTrue (is_register design s) → e s ≡ f s
  same_registers e f same s register =
      agree_on e f (registers design) same s
      (register_listed design is_design.is_sound is_design.is_admitted s register)

  -- ---- one more cycle

  module _ (start : List ℕ) (cycles : List (List ℕ)) (trace : List (Environment ℕ))
      (old environment : Environment ℕ) (values : List ℕ) where
    abbrev from : Environment ℕ
    from = given (registers design) start

    pub run_traces : HaveRun design start cycles trace old
        → Settled (flat_system design) old (given (inputs design) values) environment
        → IsTrace (flat_system design) from (map (given (inputs design)) (cycles ++ values ∷ []))
        (trace ++ environment ∷ [])
    run_traces run settled =
        let now : Environment ℕ = after_trace (flat_system design) from trace in
        subst
        (λ is. IsTrace (flat_system design) from is (trace ++ environment ∷ []))
        (sym (map-append (given (inputs design)) cycles (values ∷ [])))
        (trace_more (flat_system design) from (map (given (inputs design)) cycles) trace
        (given (inputs design) values) environment run.is_trace
        (settled_from (flat_system design) old now (given (inputs design) values) environment
        (same_registers old now run.registers_are) settled))

    pub run_more : (new : Environment ℕ) → HaveRun design start cycles trace old
        → Settled (flat_system design) old (given (inputs design) values) environment
        → new ≡ (flat_system design).next environment
        → HaveRun design start (cycles ++ values ∷ []) (trace ++ environment ∷ []) new
    run_more new run settled is = record {
      is_trace = run_traces run settled;
      registers_are = ap (λ (e : Environment ℕ). map e (registers design))
          (is ∙ sym (after_more (flat_system design) from trace environment));
    }

-- ---- one more cycle in order

sum_more : (counts : List ℕ) (k : ℕ) → sum (counts ++ k ∷ []) ≡ sum counts + k
sum_more counts k = fold-append (λ a x. a + x) 0 counts (k ∷ [])

module _ (design : FlatDesign) (start : List ℕ) (cycles : List (List ℕ))
    (trace : List (Environment ℕ)) (old environment new : Environment ℕ) (values : List ℕ) where
  abbrev begin : Environment ℕ
  begin = starting design (given (registers design) start)

  -- so many rounds of a cycle, before which this environment stands, leave the new one
  abbrev Rounds : (number cycle : ℕ) → (before : Environment ℕ) → ℕ → Type 0
  Rounds number cycle before k =
      let by = (number + cycle) % 2 ^ 64 in
      let first = with_inputs design (given (inputs design) values) before in
      IsRoundCount design by first k × (environment ≡ after_rounds design by k first)

  drawn_more : (number : ℕ) (before after : ℕ)
      → HaveRunInOrder design (Some number) start cycles trace old (Some before)
      → CountsRounds design (Some number) (length trace) values old environment (Some before)
      (Some after)
      → new ≡ after_tick design (tick_order design (length trace)) environment
      → HaveRunInOrder design (Some number) start (cycles ++ values ∷ [])
      (trace ++ environment ∷ []) new (Some after)
  drawn_more number before after run counts ticked =
      let done = run.0 in
      let k = counts.0 in
      let plain : length trace ≡ 0 + length trace = omega arith in
      let is : old ≡ after_ordered design 0 begin trace = fun_ext run.2 in
      let at_tick = subst
      (λ n. new ≡ after_tick design (tick_order design n) environment) plain ticked in
      let now : new ≡ after_ordered design 0 begin (trace ++ environment ∷ []) =
      at_tick ∙ sym (after_ordered_more design number 0 begin trace environment) in
      let left = subst
      (λ (e : Environment ℕ). Rounds number (0 + length trace) e k)
      is (subst (λ n. Rounds number n old k) plain (counts.1.counted, counts.1.left)) in (
        done ++ k ∷ [],
        subst
            (λ ins. IsOrderedRun design number 0 begin ins (trace ++ environment ∷ [])
            (done ++ k ∷ []))
            (sym (map-append (given (inputs design)) cycles (values ∷ [])))
            (ordered_more design number 0 begin (map (given (inputs design)) cycles) trace done
            (given (inputs design) values) environment k run.1 left.0
            (λ s. ap (λ (e : Environment ℕ). e s) left.1)),
        λ s. ap (λ (e : Environment ℕ). e s) now,
        ap Some (counts.2 ∙ ap (λ n. n + k) rounds_are ∙ sym (sum_more done k)),
      )
    where
      rounds_are : before ≡ sum run.0
      rounds_are = let e : Some before ≡ Some (sum run.0) = run.3 in cc

  pub in_order_more : (order before after : Option ℕ) (cycle : ℕ) → cycle ≡ length trace
      → HaveRunInOrder design order start cycles trace old before
      → CountsRounds design order cycle values old environment before after
      → IfSome order (λ _. new ≡ after_tick design (tick_order design cycle) environment)
      → HaveRunInOrder design order start (cycles ++ values ∷ []) (trace ++ environment ∷ []) new
      after
  in_order_more None before after cycle number run same ticked = sym same ∙ run
  in_order_more (Some n) None after cycle number run counts ticked =
      let never : None ≡ Some (sum run.0) = run.3 in cc
  in_order_more (Some n) (Some b) None cycle number run counts ticked =
      let never : Some b ≡ None = counts in cc
  in_order_more (Some n) (Some b) (Some a) cycle number run counts ticked =
      drawn_more n b a run
      (subst (λ k. CountsRounds design (Some n) k values old environment (Some b) (Some a)) number
      counts)
      (subst (λ k. new ≡ after_tick design (tick_order design k) environment) number ticked)

-- a cycle takes fewer rounds than a u32 has values
pub few_more : (design : FlatDesign) (order before after : Option ℕ) (cycle : ℕ)
    (values : List ℕ) (old new : Environment ℕ)
    → CountsRounds design order cycle values old new before after
    → IfSome before (λ n. n ≤ cycle * 4294967295)
    → IfSome after (λ n. n ≤ (cycle + 1) * 4294967295)
few_more design None before None cycle values old new same few = tt
few_more design None None (Some a) cycle values old new same few =
    let never : None ≡ Some a = same in cc
few_more design None (Some b) (Some a) cycle values old new same few =
    let is : b ≡ a = (let e : Some b ≡ Some a = same in cc) in omega (arith, few)
few_more design (Some n) before None cycle values old new counts few = tt
few_more design (Some n) None (Some a) cycle values old new counts few =
    let never : None ≡ Some a = counts in cc
few_more design (Some n) (Some b) (Some a) cycle values old new counts few =
    let sum_is : a ≡ b + counts.0 = counts.2 in
    let low : counts.0 < 4294967296 = counts.3 in
    omega (arith, few)

-- ---- no cycle yet

pub none_in_order : (design : FlatDesign) (start : List ℕ) (r : Runner)
    → IfSome (order_in r) (λ _. (s : ℕ) → values_in r s ≡
    starting design (given (registers design) start) s)
    → IfSome (rounds_in r) (λ n. n ≡ 0)
    → HaveRunInOrder design (order_in r) start [] [] (values_in r) (rounds_in r)
none_in_order design start (runner.Plain sim) started none = refl
none_in_order design start (runner.Drawn run) started none = ([], tt, started, ap Some none)
