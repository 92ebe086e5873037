-- Traces of one system: what they hang on, their fronts, and their lines.
use Rattle.std.proofs.Common.{◌≡◌, ℕ, ◌+◌, ◌<◌, ◌^◌, List, [], ◌∷◌, ◌++◌, length, map, refl, sym}
use Rattle.std.proofs.Common.{ap}
use Rattle.std.proofs.Common.{◌∙◌, subst, arith, Option, append_assoc, suc, Bool, ⊎_elim}
use Rattle.std.specs.Prelude.{All, Contains, IsTrue}
use Rattle.std.proofs.lemmas.List.Elements.{All-cons, All-contains}
use Rattle.sv_system.specs.System.{System, Environment, Settled, IsTrace, Fits, SameSignals}
use Rattle.sv_system.specs.System.{SameTraces, KindFits, HasOneTrace}
use Rattle.sv_system.proofs.Lists.{Contains-cases, Contains-nil}
use Rattle.sv_system.proofs.Pointwise.{each, fits_at}
use Rattle.sv_sim_run.specs.Traces.{inputs_in, registers_in, IsTraceFrom, line_in, lines_from}

-- environments that have the same values at the signals of a list
pub same_at : {Signal : Type 0} (listed : List Signal) (e f : Environment Signal)
    → map e listed ≡ map f listed → (s : Signal) → Contains listed s → e s ≡ f s
same_at [] e f same s at = absurd (Contains-nil s at)
same_at (t ∷ ts) e f same s at = ⊎_elim
    (λ is. subst (λ z. e z ≡ f z) is (cc))
    (λ later. same_at ts e f (cc) s later)
    (Contains-cases t ts s at)

module _ {Signal Point : Type 0} (system : System Signal Point) where
  -- ---- what a trace hangs on

  abbrev Agree : (first second : Environment Signal) → Type 0
  Agree first second = (s : Signal) → IsTrue (system.is_input s) → first s ≡ second s

  abbrev AgreeAll : (first second : List (Environment Signal)) → Type 0
  AgreeAll [] [] = Unit {0}
  AgreeAll (e ∷ es) (f ∷ fs) = Agree e f × AgreeAll es fs
  AgreeAll [] (f ∷ fs) = ⊥
  AgreeAll (e ∷ es) [] = ⊥

  settled_same : (state other i j e : Environment Signal)
      → ((s : Signal) → IsTrue (system.is_register s) → state s ≡ other s) → Agree i j
      → Settled system state i e → Settled system other j e
  settled_same state other i j e registers inputs settled = record {
    registers = λ s register. settled.registers s register ∙ registers s register;
    inputs_are = λ s input. settled.inputs_are s input ∙ inputs s input;
    fits = settled.fits;
    still = settled.still;
  }

  -- a trace hangs on the registers of its start and on its inputs alone
  pub trace_same : (state other : Environment Signal)
      (inputs others trace : List (Environment Signal))
      → ((s : Signal) → IsTrue (system.is_register s) → state s ≡ other s)
      → AgreeAll inputs others → IsTrace system state inputs trace
      → IsTrace system other others trace
  trace_same state other [] [] [] registers agree trace = tt
  trace_same state other (i ∷ is) (j ∷ js) (e ∷ es) registers agree trace = (
    settled_same state other i j e registers agree.0 trace.0,
    trace_same (system.next e) (system.next e) is js es (λ s register. refl) agree.1 trace.1,
  )
  trace_same state other [] (j ∷ js) es registers agree trace = absurd agree
  trace_same state other (i ∷ is) [] es registers agree trace = absurd agree
  trace_same state other [] [] (e ∷ es) registers agree trace = absurd trace
  trace_same state other (i ∷ is) (j ∷ js) [] registers agree trace = absurd trace

  -- ---- one trace

  fits_kind : (kind : Signal → Bool) (e i : Environment Signal)
      → ((s : Signal) → IsTrue (kind s) → e s ≡ i s) → Fits system e → KindFits kind system i
  fits_kind kind e i same fits =
      each (λ s. IsTrue (kind s) → i s < 2 ^ system.width s) system.signals
      (λ s at is. subst (λ v. v < 2 ^ system.width s) (same s is) (fits_at system e fits s at))

  inputs_fit : (state : Environment Signal) (inputs trace : List (Environment Signal))
      → IsTrace system state inputs trace → All (KindFits system.is_input system) inputs
  inputs_fit state [] trace is = λ k d inside. absurd (omega arith)
  inputs_fit state (i ∷ is) [] trace = absurd trace
  inputs_fit state (i ∷ is) (e ∷ es) trace =
      All-cons (KindFits system.is_input system) i is
      (fits_kind system.is_input e i trace.0.inputs_are trace.0.fits)
      (inputs_fit (system.next e) is es trace.1)

  same_both : (first second third : List (Environment Signal)) → SameTraces system first second
      → SameTraces system first third → SameTraces system second third
  same_both [] [] [] one two = tt
  same_both (e ∷ es) (f ∷ fs) (g ∷ gs) one two = (
    each (λ s. f s ≡ g s) system.signals (λ s at.
        sym (All-contains (λ t. e t ≡ f t) system.signals s one.0 at)
        ∙ All-contains (λ t. e t ≡ g t) system.signals s two.0 at),
    same_both es fs gs one.1 two.1,
  )
  same_both [] (f ∷ fs) third one two = absurd one
  same_both (e ∷ es) [] third one two = absurd one
  same_both [] [] (g ∷ gs) one two = absurd two
  same_both (e ∷ es) (f ∷ fs) [] one two = absurd two

  -- two traces of one start over the same inputs
  pub one_trace : HasOneTrace system → (state : Environment Signal)
      (inputs first second : List (Environment Signal)) → IsTrace system state inputs first
      → IsTrace system state inputs second → SameTraces system first second
  one_trace has state [] [] [] one two = tt
  one_trace has state (i ∷ is) (e ∷ es) (f ∷ fs) one two =
      let start = fits_kind system.is_register e state one.0.registers one.0.fits in
      let fits = inputs_fit state (i ∷ is) (e ∷ es) one in
      let found = has state (i ∷ is) start fits in
      same_both found.0 (e ∷ es) (f ∷ fs) (found.2 (e ∷ es) one) (found.2 (f ∷ fs) two)
  one_trace has state [] (e ∷ es) second one two = absurd one
  one_trace has state [] [] (f ∷ fs) one two = absurd two
  one_trace has state (i ∷ is) [] second one two = absurd one
  one_trace has state (i ∷ is) (e ∷ es) [] one two = absurd two

  -- ---- fronts

  pub record Front (state : Environment Signal) (inputs : List (Environment Signal))
      (trace : List (Environment Signal)) : Type 0 where
    pub first : List (Environment Signal)
    pub rest : List (Environment Signal)
    pub whole : trace ≡ first ++ rest
    pub is : IsTrace system state inputs first

  -- the first cycles of a trace are a trace
  pub trace_front : (state : Environment Signal) (inputs more trace : List (Environment Signal))
      → IsTrace system state (inputs ++ more) trace → Front state inputs trace
  trace_front state [] more trace is =
      record { first = []; rest = trace; whole = refl; is = tt }
  trace_front state (i ∷ is) more [] trace = absurd trace
  trace_front state (i ∷ is) more (e ∷ es) trace =
      let front = trace_front (system.next e) is more es trace.1 in
      record {
        first = e ∷ front.first;
        rest = front.rest;
        whole = ap (λ fs. e ∷ fs) front.whole;
        is = (trace.0, front.is);
      }

  -- ---- lines

  module _ (name : Signal → List ℕ) (level : Option Point) where
    abbrev line : ℕ → Environment Signal → List ℕ
    line cycle e = line_in name system level cycle e

    abbrev lines : ℕ → List (Environment Signal) → List ℕ
    lines cycle trace = lines_from name system level cycle trace

    pub lines_append : (cycle : ℕ) (first rest : List (Environment Signal))
        → lines cycle (first ++ rest) ≡ lines cycle first ++ lines (cycle + length first) rest
    lines_append cycle [] rest = ap (λ k. lines k rest) (plain cycle)
      where
        plain : (n : ℕ) → n ≡ n + 0
        plain n = omega arith
    lines_append cycle (e ∷ first) rest =
        ap (λ text. line cycle e ++ text) (lines_append (cycle + 1) first rest)
        ∙ sym (append_assoc (line cycle e) (lines (cycle + 1) first)
        (lines (cycle + 1 + length first) rest))
        ∙ ap (λ k. (line cycle e ++ lines (cycle + 1) first) ++ lines k rest)
        (next cycle (length first))
      where
        next : (n i : ℕ) → n + 1 + i ≡ n + suc i
        next n i = omega arith

    -- traces that agree on the signals have the same lines
    pub same_lines : ((cycle : ℕ) (e f : Environment Signal) → SameSignals system e f
        → line cycle e ≡ line cycle f)
        → (cycle : ℕ) (first second : List (Environment Signal))
        → SameTraces system first second → lines cycle first ≡ lines cycle second
    same_lines line_same cycle [] [] same = refl
    same_lines line_same cycle (e ∷ es) (f ∷ fs) same =
        ap (λ text. text ++ lines (cycle + 1) es) (line_same cycle e f same.0)
        ∙ ap (λ text. line cycle f ++ text) (same_lines line_same (cycle + 1) es fs same.1)
    same_lines line_same cycle [] (f ∷ fs) same = absurd same
    same_lines line_same cycle (e ∷ es) [] same = absurd same

-- ---- traces from values

module _ {Signal Point : Type 0} (system : System Signal Point)
    (inputs_listed : (s : Signal) → IsTrue (system.is_input s) → Contains (inputs_in system) s)
    (registers_listed : (s : Signal) → IsTrue (system.is_register s) →
    Contains (registers_in system) s) where
  agree_all : (first second : List (Environment Signal))
      → map (λ values. map values (inputs_in system)) first
      ≡ map (λ values. map values (inputs_in system)) second
      → AgreeAll system first second
  agree_all [] [] same = tt
  agree_all (e ∷ es) (f ∷ fs) same = (
    λ s input. same_at (inputs_in system) e f (cc) s (inputs_listed s input),
    agree_all es fs (cc),
  )
  agree_all [] (f ∷ fs) same = cc
  agree_all (e ∷ es) [] same = cc

  -- the traces from the same values
  pub same_from : HasOneTrace system → (start : List ℕ) (cycles : List (List ℕ))
      (first second : List (Environment Signal)) → IsTraceFrom system start cycles first
      → IsTraceFrom system start cycles second → SameTraces system first second
  same_from has start cycles first second one two =
      one_trace system has one.state one.inputs first second one.follows
      (trace_same system two.state one.state two.inputs one.inputs second
      (λ s register. same_at (registers_in system) two.state one.state
      (two.started ∙ sym one.started) s (registers_listed s register))
      (agree_all two.inputs one.inputs (two.given ∙ sym one.given)) two.follows)
