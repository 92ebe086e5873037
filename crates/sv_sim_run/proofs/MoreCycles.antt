-- One more cycle of a trace, its line, and one more cycle of an ordered run.
use Rattle.std.proofs.Common.{◌≡◌, ℕ, zero, suc, ◌+◌, ◌%◌, ◌^◌, List, [], ◌∷◌, ◌++◌, length, refl}
use Rattle.std.proofs.Common.{sym, ap, subst, ◌∙◌, append-nil, append_assoc, arith}
use Rattle.std.specs.Prelude.{Option, IsTrue}
use Rattle.sv_system.specs.System.{System, Environment, Settled, IsTrace}
use Rattle.sv_flat.specs.Design.{FlatDesign}
use Rattle.sv_flat.specs.Schedules.{IsOrderedRun, IsRoundCount, after_rounds, with_inputs}
use Rattle.sv_flat.specs.Schedules.{after_tick, tick_order}
use Rattle.sv_sim_run.specs.Runs.{after_trace, after_ordered}
use Rattle.sv_sim_run.specs.Traces.{line_in, lines_from}

plain : (n : ℕ) → n ≡ n + zero
plain n = omega arith

next : (n i : ℕ) → n + 1 + i ≡ n + suc i
next n i = omega arith

module _ {Signal Point : Type 0} (system : System Signal Point) where
  -- a trace goes on with what is settled for its next state
  pub trace_more : (state : Environment Signal) (inputs trace : List (Environment Signal))
      (i e : Environment Signal)
      → IsTrace system state inputs trace → Settled system (after_trace system state trace) i e
      → IsTrace system state (inputs ++ i ∷ []) (trace ++ e ∷ [])
  trace_more state [] [] i e is settled = (settled, tt)
  trace_more state (j ∷ js) (f ∷ fs) i e is settled =
      (is.0, trace_more (system.next f) js fs i e is.1 settled)
  trace_more state [] (f ∷ fs) i e is settled = absurd is
  trace_more state (j ∷ js) [] i e is settled = absurd is

  -- then the next state is what the clock edge makes of the last environment
  pub after_more : (state : Environment Signal) (trace : List (Environment Signal))
      (e : Environment Signal)
      → after_trace system state (trace ++ e ∷ []) ≡ system.next e
  after_more state [] e = refl
  after_more state (f ∷ fs) e = after_more (system.next f) fs e

  -- of a state the registers alone count
  pub settled_from : (state other i e : Environment Signal)
      → ((s : Signal) → IsTrue (system.is_register s) → state s ≡ other s)
      → Settled system state i e → Settled system other i e
  settled_from state other i e same settled = record {
    registers = λ s register. settled.registers s register ∙ same s register;
    inputs_are = settled.inputs_are;
    fits = settled.fits;
    still = settled.still;
  }

  module _ (name : Signal → List ℕ) (level : Option Point) where
    abbrev line : ℕ → Environment Signal → List ℕ
    line cycle e = line_in name system level cycle e

    abbrev lines : ℕ → List (Environment Signal) → List ℕ
    lines cycle trace = lines_from name system level cycle trace

    -- one more line
    pub lines_more : (cycle : ℕ) (trace : List (Environment Signal)) (e : Environment Signal)
        → lines cycle (trace ++ e ∷ []) ≡ lines cycle trace ++ line (cycle + length trace) e
    lines_more cycle [] e =
        append-nil (line cycle e) ∙ ap (λ k. line k e) (plain cycle)
    lines_more cycle (f ∷ fs) e =
        ap (λ x. line cycle f ++ x) (lines_more (cycle + 1) fs e)
        ∙ sym (append_assoc (line cycle f) (lines (cycle + 1) fs)
        (line (cycle + 1 + length fs) e))
        ∙ ap (λ k. (line cycle f ++ lines (cycle + 1) fs) ++ line k e) (next cycle (length fs))

module _ (design : FlatDesign) (number : ℕ) where
  -- the order number of a cycle
  abbrev drawn_by : ℕ → ℕ
  drawn_by cycle = (number + cycle) % 2 ^ 64

  -- so many rounds were counted in a cycle
  abbrev Counted : ℕ → (before : Environment ℕ) → (i : Environment ℕ) → ℕ → Type 0
  Counted cycle before i k = IsRoundCount design (drawn_by cycle) (with_inputs design i before) k

  -- and they left these values
  abbrev Left : ℕ → (before : Environment ℕ) → (i e : Environment ℕ) → ℕ → Type 0
  Left cycle before i e k =
      (s : ℕ) → e s ≡ after_rounds design (drawn_by cycle) k (with_inputs design i before) s

  -- an ordered run goes on with the rounds of the next cycle
  pub ordered_more : (cycle : ℕ) (before : Environment ℕ) (inputs trace : List (Environment ℕ))
      (counts : List ℕ) (i e : Environment ℕ) (k : ℕ)
      → IsOrderedRun design number cycle before inputs trace counts
      → Counted (cycle + length trace) (after_ordered design cycle before trace) i k
      → Left (cycle + length trace) (after_ordered design cycle before trace) i e k
      → IsOrderedRun design number cycle before (inputs ++ i ∷ []) (trace ++ e ∷ [])
      (counts ++ k ∷ [])
  ordered_more cycle before [] [] [] i e k is counted left = (
    subst (λ m. Counted m before i k) (sym (plain cycle)) counted,
    subst (λ m. Left m before i e k) (sym (plain cycle)) left,
    tt,
  )
  ordered_more cycle before (j ∷ js) (f ∷ fs) (c ∷ cs) i e k is counted left =
      let then : Environment ℕ = after_tick design (tick_order design cycle) f in
      let last : Environment ℕ = after_ordered design (cycle + 1) then fs in (
        is.0,
        is.1,
        ordered_more (cycle + 1) then js fs cs i e k is.2
            (subst (λ m. Counted m last i k) (sym (next cycle (length fs))) counted)
            (subst (λ m. Left m last i e k) (sym (next cycle (length fs))) left),
      )
  ordered_more cycle before [] [] (c ∷ cs) i e k is counted left = absurd is
  ordered_more cycle before [] (f ∷ fs) [] i e k is counted left = absurd is
  ordered_more cycle before [] (f ∷ fs) (c ∷ cs) i e k is counted left = absurd is
  ordered_more cycle before (j ∷ js) [] [] i e k is counted left = absurd is
  ordered_more cycle before (j ∷ js) [] (c ∷ cs) i e k is counted left = absurd is
  ordered_more cycle before (j ∷ js) (f ∷ fs) [] i e k is counted left = absurd is

  -- then the environment stands after the tick of that cycle
  pub after_ordered_more : (cycle : ℕ) (before : Environment ℕ) (trace : List (Environment ℕ))
      (e : Environment ℕ)
      → after_ordered design cycle before (trace ++ e ∷ [])
      ≡ after_tick design (tick_order design (cycle + length trace)) e
  after_ordered_more cycle before [] e =
      ap (λ k. after_tick design (tick_order design k) e) (plain cycle)
  after_ordered_more cycle before (f ∷ fs) e =
      after_ordered_more (cycle + 1) (after_tick design (tick_order design cycle) f) fs e
      ∙ ap (λ k. after_tick design (tick_order design k) e) (next cycle (length fs))
