-- Values given to the registers at the start and to the inputs of a cycle, and the starting
-- environment.
use mathlib.Core.Path.{fun_ext}
use Rattle.std.proofs.Common.{◌≡◌, ℕ, zero, suc, ◌+◌, ◌<◌, ◌^◌, Bool, true, false, cond, not}
use Rattle.std.proofs.Common.{◌&&◌, ◌==◌, List, [], ◌∷◌, length, map}
use Rattle.std.proofs.Common.{get_or}
use Rattle.std.proofs.Common.{⊎_elim, refl, sym, ap, subst, ◌∙◌, arith, pow_pos}
use Rattle.std.specs.Prelude.{Contains, IsTrue, filter, slice_index}
use Rattle.std.specs.List.{range_with_len}
use Rattle.std.proofs.lemmas.Bool.{eqb-true, false≢true}
use Rattle.std.proofs.lemmas.List.{length-map, get_or-map}
use Rattle.sv_system.specs.System.{Environment, put}
use Rattle.sv_system.proofs.Pointwise.{either_way as contained_or_not}
use Rattle.sv_flat.specs.Admission.{IsAdmitted}
use Rattle.sv_flat.specs.Clocks.{is_clock}
use Rattle.sv_flat.specs.Design.{SignalForm, FlatDesign}
use Rattle.sv_flat.specs.Processes.{is_register, is_top_input}
use Rattle.sv_flat.specs.Schedules.{starting}
use Rattle.sv_flat.specs.SignalLists.{system_signals, inputs, registers}
use Rattle.sv_flat.specs.Soundness.{sound}
use Rattle.sv_flat.specs.Values.{signal_width}
use Rattle.sv_flat.specs.declared.signals.SigId.{SigId}
use Rattle.sv_flat.proofs.Depths.{second_of}
use Rattle.sv_flat.proofs.LeastSets.{either_way, Contains-from_filter, in_those, those_below}
use Rattle.sv_flat.proofs.LeastSets.{those_pass}
use Rattle.sv_flat.proofs.SameRuns.{put_there}
use Rattle.sv_graph.proofs.Differing.{range_above}
use Rattle.sv_design.specs.Numbers.{numbers}
use Rattle.sv_flat.specs.Given.{FitListed, with_given, given}
use Rattle.sv_sim.proofs.GivenValues.{listed_value, other_value, mapped_value}
use Rattle.sv_sim.proofs.GivenValues.{listed_within}
use Rattle.sv_sim.proofs.OneDesign.{register_no_clock}
use Rattle.sv_sim.proofs.Simulated.{number_at, input_listed}
use Rattle.sv_sim_run.specs.Runners.{OthersAreZero, with_values}

-- ---- lists of signals

-- no element stands there twice
abbrev pub IsApart : List ℕ → Type 0
IsApart [] = Unit {0}
IsApart (t ∷ ts) = (Contains ts t → ⊥) × IsApart ts

kept_apart : (b : Bool) (a : ℕ) (rest : List ℕ) → (Contains rest a → ⊥) → IsApart rest →
    IsApart (cond b (a ∷ rest) rest)
kept_apart true a rest none apart = (none, apart)
kept_apart false a rest none apart = apart

pub filter_apart : (test : ℕ → Bool) (a n : ℕ) → IsApart (filter test (range_with_len a n))
filter_apart test a zero = tt
filter_apart test a (suc n) =
    let later = range_with_len (a + 1) n in
    kept_apart (test a) a (filter test later)
    (λ at. let more = range_above (a + 1) n a (Contains-from_filter test later a at).1 in
    omega arith)
    (filter_apart test (a + 1) n)

pub registers_apart : (design : FlatDesign) → IsApart (registers design)
registers_apart design = filter_apart (is_register design) 0 (length design.signals)

-- listed signals have the values that are given for them
pub own_values : (listed values : List ℕ) (e : Environment ℕ) → IsApart listed
    → length values ≡ length listed
    → map (with_given listed values e) listed ≡ values
own_values [] [] e apart count = refl
own_values [] (v ∷ vs) e apart count = absurd (omega (arith, count))
own_values (t ∷ ts) [] e apart count = absurd (omega (arith, count))
own_values (t ∷ ts) (v ∷ vs) e apart count =
    let f : Environment ℕ = put ◌==◌ t v e in
    ap (λ x. x ∷ map (with_given ts vs f) ts) (other_value ts vs t (f t) apart.0 ∙ put_there t v e)
    ∙ ap (λ xs. v ∷ xs) (own_values ts vs f apart.1 (omega (arith, count)))

-- given values have their signals' widths
pub given_fits : (signals : List SignalForm) (listed values : List ℕ) (e : Environment ℕ) (s : ℕ)
    → FitListed signals listed values → e s < 2 ^ signal_width signals s
    → with_given listed values e s < 2 ^ signal_width signals s
given_fits signals [] values e s fit low = low
given_fits signals (t ∷ ts) [] e s fit low = low
given_fits signals (t ∷ ts) (v ∷ vs) e s fit low =
    given_fits signals ts vs (put ◌==◌ t v e) s
    (record {
      count = let count = fit.count in omega (arith, count);
      each = λ k inside. fit.each (suc k) (omega (arith, inside));
    })
    (⊎_elim
    (λ same. subst (λ b. cond b v (e s) < 2 ^ signal_width signals s) (sym same)
    (subst (λ r. v < 2 ^ signal_width signals r) (eqb-true t s same)
    (fit.each 0 (omega arith))))
    (λ other. subst (λ b. cond b v (e s) < 2 ^ signal_width signals s) (sym other) low)
    (either_way (t == s)))

pub given_to_fits : (signals : List SignalForm) (listed values : List ℕ) (s : ℕ)
    → FitListed signals listed values
    → given listed values s < 2 ^ signal_width signals s
given_to_fits signals listed values s fit =
    given_fits signals listed values (λ t. 0) s fit (pow_pos (signal_width signals s))

-- ---- inputs

module _ (design : FlatDesign) where
  abbrev is_input_of : ℕ → Bool
  is_input_of s = is_top_input design s && not (is_clock design s)

  pub listed_input : (s : ℕ) → Contains (inputs design) s → IsTrue (is_input_of s)
  listed_input s at = those_pass (length design.signals) is_input_of s at

  pub input_seen : (s : ℕ) → Contains (inputs design) s → Contains (system_signals design) s
  input_seen s at =
      in_those (length design.signals) (λ z. not (is_clock design z)) s
      (those_below (length design.signals) is_input_of s at)
      (second_of (is_top_input design s) (not (is_clock design s)) (listed_input s at))

  input_given : (values : List ℕ) (e : Environment ℕ) → length values ≡ length (inputs design)
      → (s : ℕ) → with_given (inputs design) values e s ≡ with_values design values e s
  input_given values e count s = ⊎_elim
      (λ input.
      listed_value (inputs design) values s (e s) 0 count (input_listed design s input)
      ∙ ap (λ b. cond b (given (inputs design) values s) (e s)) (sym input))
      (λ other.
      other_value (inputs design) values s (e s)
      (λ at. false≢true (sym other ∙ listed_input s at))
      ∙ ap (λ b. cond b (given (inputs design) values s) (e s)) (sym other))
      (either_way (is_input_of s))

  -- the values that are given to the inputs are their new values
  pub inputs_given : (values : List ℕ) (e : Environment ℕ) →
      length values ≡ length (inputs design) →
      with_given (inputs design) values e ≡ with_values design values e
  inputs_given values e count = fun_ext (input_given values e count)

-- ---- the starting environment

no_value : (b : Bool) (m : ℕ) → m ≡ 0 → cond b m 0 ≡ 0
no_value true m none = none
no_value false m none = refl

module _ (design : FlatDesign) (is_sound : IsTrue (sound design))
    (admitted : IsAdmitted design) where
  register_seen : (s : ℕ) → Contains (registers design) s → Contains (system_signals design) s
  register_seen s at =
      in_those (length design.signals) (λ z. not (is_clock design z)) s
      (those_below (length design.signals) (is_register design) s at)
      (ap not (register_no_clock design is_sound admitted s
      (those_pass (length design.signals) (is_register design) s at)))

  seen_start : (values : List ℕ) (s : ℕ)
      → given (registers design) values s ≡ starting design (given (registers design) values) s
  seen_start values s =
      let f : Environment ℕ = given (registers design) values in
      ⊎_elim
      (λ register. ap (λ b. cond b (f s) 0) (sym register))
      (λ other.
      other_value (registers design) values s 0 (λ at.
      false≢true (sym other ∙ those_pass (length design.signals) (is_register design) s at))
      ∙ ap (λ b. cond b (f s) 0) (sym other))
      (either_way (is_register design s))

  -- values that are given to all seen signals make the starting environment
  pub started_is : (values : List ℕ) (e : Environment ℕ) → OthersAreZero design e → (s : ℕ)
      → with_given (system_signals design)
      (map (given (registers design) values) (system_signals design)) e s
      ≡ starting design (given (registers design) values) s
  started_is values e zeros s =
      let f : Environment ℕ = given (registers design) values in
      contained_or_not (with_given (system_signals design) (map f (system_signals design)) e s)
      (starting design f s)
      (Contains (system_signals design) s)
      (λ at. mapped_value (system_signals design) f e s at ∙ seen_start values s)
      (λ none.
      other_value (system_signals design) (map f (system_signals design)) s (e s) none
      ∙ zeros s none
      ∙ sym (no_value (is_register design s) (f s)
      (other_value (registers design) values s 0 (λ at. none (register_seen s at)))))

  -- and the registers have theirs
  pub started_registers : (values : List ℕ) (e : Environment ℕ)
      → length values ≡ length (registers design)
      → ((s : ℕ) → e s ≡ starting design (given (registers design) values) s)
      → map e (registers design) ≡ values
  started_registers values e count is =
      ap (λ (f : Environment ℕ). map f (registers design))
      (fun_ext (λ s. is s ∙ sym (seen_start values s)))
      ∙ own_values (registers design) values (λ s. 0) (registers_apart design) count

-- ---- values for all seen signals

-- they have their signals' widths
pub seen_fit : (design : FlatDesign) (start : List ℕ)
    → FitListed design.signals (registers design) start
    → FitListed design.signals (system_signals design)
    (map (given (registers design) start) (system_signals design))
seen_fit design start fit =
    let f : Environment ℕ = given (registers design) start in
    record {
      count = length-map (system_signals design) f;
      each = λ k inside.
          let s = slice_index (system_signals design) k in
          subst (λ v. v < 2 ^ signal_width design.signals s)
          (sym (get_or-map f (system_signals design) k 0 0 inside))
          (given_to_fits design.signals (registers design) start s fit);
    }

-- and leave the clocks as they are
pub seen_keep_zeros : (design : FlatDesign) (values : List ℕ) (old new : Environment ℕ)
    → new ≡ with_given (system_signals design) values old → OthersAreZero design old
    → OthersAreZero design new
seen_keep_zeros design values old new is zeros s unseen =
    ap (λ (e : Environment ℕ). e s) is
    ∙ other_value (system_signals design) values s (old s) unseen ∙ zeros s unseen

-- ---- listed signals

-- there are as many numbers as signals
pub listed_inside : (ss : List SigId) (ns : List ℕ) → numbers ss ≡ ns → (k : ℕ) → k < length ss →
    k < length ns
listed_inside ss ns is k inside =
    subst (λ n. k < n) (sym (length-map ss (λ (s : SigId). s.0)) ∙ ap length is) inside

-- the seen signals are signals
pub seen_number : (design : FlatDesign) (ss : List SigId) → numbers ss ≡ system_signals design
    → (k : ℕ)
    → k < length ss → (get_or ss k (record { 0 = 0 })).0 < length design.signals
seen_number design ss is k inside =
    subst (λ s. s < length design.signals) (number_at ss (system_signals design) is k inside)
    (listed_within (length design.signals) (λ z. not (is_clock design z)) (system_signals design)
    refl k
    (listed_inside ss (system_signals design) is k inside))
