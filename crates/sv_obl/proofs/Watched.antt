-- The system of a design in which an environment that does not meet the facts is never at rest: its
-- traces are those of the design whose every environment meets the facts.
use Rattle.std.proofs.Common.{◌≡◌, ℕ, suc, Bool, true, false, cond, List, [], ◌∷◌, refl, arith}
use Rattle.std.specs.Prelude.{All, IsTrue}
use Rattle.std.specs.List.{list_all}
use Rattle.std.proofs.lemmas.List.Elements.{All-cons, All-head, All-tail}
use Rattle.sv_lattice.specs.declared.points.Point.{Point}
use Rattle.sv_system.specs.System.{System, Environment, Run, IsStill, Settled, IsTrace}
use Rattle.sv_flat.specs.Design.{TypedTree, FlatDesign}
use Rattle.sv_flat.specs.FlatSystem.{flat_system}
use Rattle.sv_flat.proofs.Depths.{from_all}
use Rattle.sv_obl.specs.PathValues.{is_true_in}
use Rattle.sv_obl.specs.Validity.{MeetsFacts}
use Rattle.sv_flat.proofs.Members.{all_contained, contained_all}
use Rattle.sv_obl.proofs.PathLists.{cond_true, all_from}

module _ (facts : List TypedTree) (design : FlatDesign) where
  abbrev meets : Environment ℕ → Bool
  meets e = list_all (λ fact. is_true_in design.signals e fact) facts

  -- a run that changes every value where a fact is 0
  abbrev watch : Run ℕ
  watch e s = cond (meets e) (e s) (suc (e s))

  abbrev pub watched : System ℕ Point
  watched =
      let system = flat_system design in
      record {
        signals = system.signals;
        is_input = system.is_input;
        is_register = system.is_register;
        width = system.width;
        processes = watch ∷ system.processes;
        next = system.next;
        label = system.label;
        flows = system.flows;
      }

  unchanged : (b : Bool) (n : ℕ) → cond b n (suc n) ≡ n → IsTrue b
  unchanged true n same = refl
  unchanged false n same = absurd (let more : suc n ≡ n = same in omega arith)

  -- at rest there, an environment is at rest in the design
  pub rests : (e : Environment ℕ) → IsStill watched e → IsStill (flat_system design) e
  rests e still =
      All-tail (λ (run : Run ℕ). (s : ℕ) → run e s ≡ e s) watch (flat_system design).processes still

  -- and meets the facts
  pub meets_facts : (e : Environment ℕ) → IsStill watched e → MeetsFacts design facts e
  meets_facts e still =
      let quiet = All-head (λ (run : Run ℕ).
      (s : ℕ) → run e s ≡ e s) watch (flat_system design).processes still in
      let all = unchanged (meets e) (e 0) (quiet 0) in
      contained_all (λ fact. IsTrue (is_true_in design.signals e fact)) facts
      (λ fact at. from_all (λ x. is_true_in design.signals e x) facts fact all at)

  settled_there : (state inputs e : Environment ℕ) → MeetsFacts design facts e
      → Settled (flat_system design) state inputs e
      → Settled watched state inputs e
  settled_there state inputs e met settled =
      let all = all_from (λ x. is_true_in design.signals e x) facts
      (λ fact at. all_contained (λ x. IsTrue (is_true_in design.signals e x)) facts met fact at) in
      record {
        registers = settled.registers;
        inputs_are = settled.inputs_are;
        fits = settled.fits;
        still =
            All-cons (λ (run : Run ℕ). (s : ℕ) → run e s ≡ e s) watch (flat_system design).processes
            (λ s. cond_true (meets e) (e s) (suc (e s)) all) settled.still;
      }

  -- a trace whose every environment meets the facts is one there
  pub trace_there : (start : Environment ℕ) (inputs trace : List (Environment ℕ))
      → All (MeetsFacts design facts) trace
      → IsTrace (flat_system design) start inputs trace → IsTrace watched start inputs trace
  trace_there start [] [] met is = tt
  trace_there start (i ∷ inputs) (e ∷ trace) met is = (
    settled_there start i e (All-head (MeetsFacts design facts) e trace met) is.0,
    trace_there ((flat_system design).next e) inputs trace
        (All-tail (MeetsFacts design facts) e trace met) is.1,
  )
  trace_there start [] (e ∷ trace) met is = absurd is
  trace_there start (i ∷ inputs) [] met is = absurd is
