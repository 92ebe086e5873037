-- Traces of two joined systems: each trace of the one is, under other names, one of the other. So
-- the second has one trace where the first has.
use Rattle.std.proofs.Common.{◌≡◌, ◌<◌, ◌^◌, Bool, List, [], ◌∷◌, map, refl, sym, subst, ◌∙◌}
use Rattle.std.specs.Prelude.{Contains, IsTrue}
use Rattle.std.proofs.lemmas.List.Elements.{All-contains, All-map, All-weaker}
use Rattle.sv_system.specs.System.{System, Environment, IsTrace, SameTraces, KindFits, HasOneTrace}
use Rattle.sv_system.specs.Joining.{Joined}
use Rattle.sv_system.proofs.Pointwise.{each}
use Rattle.sv_system.proofs.JoinedCycles.{renamed, SameRegisters, other_within, by_name, agree_back}
use Rattle.sv_system.proofs.JoinedCycles.{renamed_same, agree_over}
use Rattle.sv_system.proofs.JoinedCycles.{settled_back, settled_over}

module _ {Signal Point Other OtherPoint : Type 0} (first : System Signal Point)
    (second : System Other OtherPoint)
    (joined : Joined first second) where
  pub trace_back : (inputs fs : List (Environment Other)) (state : Environment Signal)
      (other : Environment Other)
      → SameRegisters first joined.to state other → IsTrace second other inputs fs
      → IsTrace first state (map (renamed joined.to) inputs) (map (renamed joined.to) fs)
  trace_back [] [] state other states trace = tt
  trace_back [] (f ∷ fs) state other states trace = absurd trace
  trace_back (now ∷ more) [] state other states trace = absurd trace
  trace_back (now ∷ more) (f ∷ fs) state other states trace = (
    settled_back first second joined state other now f states trace.0,
    trace_back more fs (first.next (renamed joined.to f)) (second.next f)
        (joined.next (renamed joined.to f) f (agree_back first second joined f trace.0.fits))
        trace.1,
  )

  pub trace_over : (inputs : List (Environment Other)) (es : List (Environment Signal))
      (state : Environment Signal) (other : Environment Other)
      → SameRegisters first joined.to state other
      → IsTrace first state (map (renamed joined.to) inputs) es
      → IsTrace second other inputs (map (renamed joined.from) es)
  trace_over [] [] state other states trace = tt
  trace_over [] (e ∷ es) state other states trace = absurd trace
  trace_over (now ∷ more) [] state other states trace = absurd trace
  trace_over (now ∷ more) (e ∷ es) state other states trace = (
    settled_over first second joined state e other now states trace.0,
    trace_over more es (first.next e) (second.next (renamed joined.from e))
        (joined.next e (renamed joined.from e) (agree_over first second joined e trace.0.fits))
        trace.1,
  )

  -- what is the same under the first names is so under the second
  same_over : (es : List (Environment Signal)) (fs : List (Environment Other))
      → SameTraces first es (map (renamed joined.to) fs)
      → SameTraces second (map (renamed joined.from) es) fs
  same_over [] [] same = tt
  same_over [] (f ∷ fs) same = absurd same
  same_over (e ∷ es) [] same = absurd same
  same_over (e ∷ es) (f ∷ fs) same = (
    each (λ t. renamed joined.from e t ≡ f t) second.signals
        (by_name first second joined (λ t. renamed joined.from e t ≡ f t) (λ s within.
        sym (renamed_same first second joined e s within)
        ∙ All-contains (λ r. e r ≡ f (joined.to r)) first.signals s same.0 within)),
    same_over es fs same.1,
  )

  -- the signals of a kind that is the same under both names
  kind_back : (kind : Signal → Bool) (other : Other → Bool)
      → ((s : Signal) → Contains first.signals s → kind s ≡ other (joined.to s))
      → (f : Environment Other) → KindFits other second f
      → KindFits kind first (renamed joined.to f)
  kind_back kind other kinds f fits =
      each (λ s. IsTrue (kind s) → f (joined.to s) < 2 ^ first.width s) first.signals
      (λ s within is.
      subst (λ w. f (joined.to s) < 2 ^ w) (sym (joined.widths s within))
      (All-contains (λ t. IsTrue (other t) → f t < 2 ^ second.width t) second.signals
      (joined.to s) fits
      (other_within first second joined s within) (subst IsTrue (kinds s within) is)))

  pub joined_one_trace : HasOneTrace first → HasOneTrace second
  joined_one_trace one start inputs start_fits inputs_fit =
      let found = one (renamed joined.to start) (map (renamed joined.to) inputs)
      (kind_back first.is_register second.is_register joined.registers start start_fits)
      (All-map (KindFits first.is_input first) (renamed joined.to) inputs
      (All-weaker (KindFits second.is_input second) (λ f.
      KindFits first.is_input first (renamed joined.to f))
      (kind_back first.is_input second.is_input joined.inputs) inputs inputs_fit)) in (
        map (renamed joined.from) found.0,
        trace_over inputs found.0 (renamed joined.to start) start (λ s is. refl) found.1,
        λ other trace. same_over found.0 other
            (found.2 (map (renamed joined.to) other)
            (trace_back inputs other (renamed joined.to start) start (λ s is. refl) trace)),
      )
