-- All cycles: two traces that look alike to a level have equal views for it.
use Rattle.std.proofs.Common.{◌≡◌, Bool, ◌&&◌, List, [], ◌∷◌, map, ⊎_elim, refl, sym}
use Rattle.std.specs.Prelude.{Contains, IsTrue}
use Rattle.std.proofs.lemmas.Bool.{and_from}
use Rattle.sv_system.specs.System.{System, Environment, Settled, IsTrace, LookAlike, Noninterferent}
use Rattle.sv_system.specs.System.{seen, view}
use Rattle.sv_system.specs.Facts.{Guarded}
use Rattle.sv_system.proofs.Lists.{told_value}
use Rattle.sv_system.proofs.OneCycle.{IsAtRest, rests, IsSeen, AgreesUp, AgreesOnSeen, seen_agree}
use Rattle.sv_system.proofs.OneCycle.{views_agree, registers_agree}

module _ {X : Type 0} where
  pub first_same : (x y : X) (xs ys : List X) → x ∷ xs ≡ y ∷ ys → x ≡ y
  first_same x y xs ys same = cc

  pub rest_same : (x y : X) (xs ys : List X) → x ∷ xs ≡ y ∷ ys → xs ≡ ys
  rest_same x y xs ys same = cc

  pub none_is_some : (x : X) (xs : List X) → [] ≡ x ∷ xs → ⊥
  none_is_some x xs same = cc

  pub joined : (x y : X) (xs ys : List X) → x ≡ y → xs ≡ ys → x ∷ xs ≡ y ∷ ys
  joined x y xs ys first rest = cc

module _ {Signal Point : Type 0} (system : System Signal Point) where
  -- the first environment of a trace, and the trace that follows it
  record Begins (start e : Environment Signal) (later : List (Environment Signal)) : Type 0 where
    inputs : Environment Signal
    more : List (Environment Signal)
    settled : Settled system start inputs e
    follows : IsTrace system (system.next e) more later

  begins : (start e : Environment Signal) (inputs later : List (Environment Signal)) →
      IsTrace system start inputs (e ∷ later) → Begins start e later
  begins start e [] later trace = absurd trace
  begins start e (now ∷ more) later trace =
      record { inputs = now; more = more; settled = trace.0; follows = trace.1 }

module _ {Signal Point : Type 0} (system : System Signal Point) (level : Point) where
  -- the second environment has the value of each signal of one kind that the level sees in the
  -- first
  abbrev KindAgreesUp : (Signal → Bool) → Environment Signal → Environment Signal → Type 0
  KindAgreesUp kind e f =
      (s : Signal) → Contains system.signals s → IsTrue (kind s) → IsSeen system level e s →
      e s ≡ f s

  kind_agrees : (kind : Signal → Bool) (e f : Environment Signal) →
      seen kind system level e ≡ seen kind system level f → KindAgreesUp kind e f
  kind_agrees kind e f same s within of_kind visible = told_value
      (λ s. kind s && system.flows (system.label s e) level) (λ s.
      kind s && system.flows (system.label s f) level) e f system.signals same s within
      (and_from (kind s) (system.flows (system.label s e) level) of_kind visible)

  agrees_up : (e f : Environment Signal) → KindAgreesUp system.is_register e f →
      KindAgreesUp system.is_input e f → AgreesUp system level e f
  agrees_up e f registers inputs s within given visible =
      ⊎_elim (λ input. inputs s within input visible) (λ register.
      registers s within register visible) given

module _ {Signal Point : Type 0} (system : System Signal Point) (facts : Guarded system)
    (level : Point) where
  -- what two runs that look alike keep from cycle to cycle
  record AreAlike (e f : Environment Signal) : Type 0 where
    first_rests : IsAtRest system e
    second_rests : IsAtRest system f
    there : AgreesOnSeen system level e f
    back : AgreesOnSeen system level f e

  alike_views : (e f : Environment Signal) → AreAlike e f →
      view system level e ≡ view system level f
  alike_views e f alike =
      views_agree system facts level e f alike.first_rests alike.second_rests alike.there alike.back

  alike : (e f : Environment Signal) → IsAtRest system e → IsAtRest system f
      → KindAgreesUp system level system.is_register e f
      → KindAgreesUp system level system.is_register f e
      → seen system.is_input system level e ≡ seen system.is_input system level f → AreAlike e f
  alike e f e_rests f_rests there back inputs = record {
    first_rests = e_rests;
    second_rests = f_rests;
    there =
        seen_agree system facts level e f e_rests f_rests
        (agrees_up system level e f there (kind_agrees system level system.is_input e f inputs));
    back =
        seen_agree system facts level f e f_rests e_rests
        (agrees_up system level f e back
        (kind_agrees system level system.is_input f e (sym inputs)));
  }

  alike_next : (e f next_e next_f : Environment Signal) (inputs1 inputs2 : Environment Signal)
      → AreAlike e f
      → Settled system (system.next e) inputs1 next_e
      → Settled system (system.next f) inputs2 next_f
      → seen system.is_input system level next_e ≡ seen system.is_input system level next_f
      → AreAlike next_e next_f
  alike_next e f next_e next_f inputs1 inputs2 before settled1 settled2 inputs =
      let rests1 = rests system (system.next e) inputs1 next_e settled1 in
      let rests2 = rests system (system.next f) inputs2 next_f settled2 in
      alike next_e next_f rests1 rests2
      (registers_agree system facts level e f next_e next_f before.first_rests before.second_rests
      rests1 settled1.registers settled2.registers before.there)
      (registers_agree system facts level f e next_f next_e before.second_rests before.first_rests
      rests2 settled2.registers settled1.registers before.back)
      inputs

  later_views : (first second inputs1 inputs2 : List (Environment Signal))
      (e f : Environment Signal) → AreAlike e f
      → IsTrace system (system.next e) inputs1 first → IsTrace system (system.next f) inputs2 second
      → map (seen system.is_input system level) first ≡
      map (seen system.is_input system level) second
      → map (view system level) first ≡ map (view system level) second
  later_views [] [] inputs1 inputs2 e f before trace1 trace2 inputs = refl
  later_views [] (next_f ∷ later2) inputs1 inputs2 e f before trace1 trace2 inputs =
      absurd (none_is_some _ _ inputs)
  later_views (next_e ∷ later1) [] inputs1 inputs2 e f before trace1 trace2 inputs =
      absurd (none_is_some _ _ (sym inputs))
  later_views (next_e ∷ later1) (next_f ∷ later2) inputs1 inputs2 e f before trace1 trace2 inputs =
      let start1 = begins system (system.next e) next_e inputs1 later1 trace1 in
      let start2 = begins system (system.next f) next_f inputs2 later2 trace2 in
      let now = alike_next e f next_e next_f start1.inputs start2.inputs before start1.settled
      start2.settled (first_same _ _ _ _ inputs) in
      joined _ _ _ _ (alike_views next_e next_f now)
      (later_views later1 later2 start1.more start2.more next_e next_f now start1.follows
      start2.follows (rest_same _ _ _ _ inputs))

  views : (start1 start2 : Environment Signal)
      (first second inputs1 inputs2 : List (Environment Signal))
      → IsTrace system start1 inputs1 first → IsTrace system start2 inputs2 second
      → LookAlike system level first second
      → map (view system level) first ≡ map (view system level) second
  views start1 start2 [] [] inputs1 inputs2 trace1 trace2 look = refl
  views start1 start2 [] (f ∷ later2) inputs1 inputs2 trace1 trace2 look =
      absurd (none_is_some _ _ look.inputs)
  views start1 start2 (e ∷ later1) [] inputs1 inputs2 trace1 trace2 look =
      absurd (none_is_some _ _ (sym look.inputs))
  views start1 start2 (e ∷ later1) (f ∷ later2) inputs1 inputs2 trace1 trace2 look =
      let begin1 = begins system start1 e inputs1 later1 trace1 in
      let begin2 = begins system start2 f inputs2 later2 trace2 in
      let registers : seen system.is_register system level e ≡
      seen system.is_register system level f = first_same _ _ _ _ look.registers in
      let now = alike e f (rests system start1 begin1.inputs e begin1.settled)
      (rests system start2 begin2.inputs f begin2.settled)
      (kind_agrees system level system.is_register e f registers)
      (kind_agrees system level system.is_register f e (sym registers))
      (first_same _ _ _ _ look.inputs) in
      joined _ _ _ _ (alike_views e f now)
      (later_views later1 later2 begin1.more begin2.more e f now begin1.follows begin2.follows
      (rest_same _ _ _ _ look.inputs))

-- guarded labels keep every level from learning more than it may
pub noninterference : {Signal Point : Type 0} (system : System Signal Point) → Guarded system →
    Noninterferent system
noninterference system facts level start1 start2 inputs1 inputs2 first second =
    views system facts level start1 start2 first second inputs1 inputs2
