-- Obligations that some values falsify, and obligations that none do.
use Rattle.std.proofs.Common.{◌≡◌, ℕ, zero, suc, ◌+◌, ◌/◌, ◌%◌, ◌^◌, ◌*◌, ◌<◌, Bool, true, false}
use Rattle.std.proofs.Common.{cond, not, ◌==◌, List, [], ◌∷◌, Some, None, slice_get, ⊎_elim, refl}
use Rattle.std.proofs.Common.{sym, subst, ◌∙◌, arith, Option}
use Rattle.std.specs.Prelude.{codes, IsTrue, IsFalse}
use Rattle.std.proofs.lemmas.Bool.{false≢true, eqb-true, eq-eqb}
use Rattle.std.proofs.lemmas.List.Elements.{All-nil, All-cons}
use Rattle.sv_num.specs.declared.faults.Place.{Place}
use Rattle.sv_num.specs.declared.operators.UnOp.TheVariants as unop
use Rattle.sv_num.specs.Vectors.{truth, is_true}
use Rattle.sv_lattice.specs.Labels.{map_of}
use Rattle.sv_lattice.specs.Maps.{row_of, pair_value}
use Rattle.sv_lattice.specs.Tables.{flow_test}
use Rattle.sv_system.specs.System.{Environment, Run, Fits}
use Rattle.sv_system.proofs.Lists.{Contains-head, Contains-later, Contains-cases}
use Rattle.sv_flat.specs.declared.signals.SigKind.TheVariants.{TopInput, Output, OutputReg}
use Rattle.sv_flat.specs.Design.{TypedTree, typed, constant, unary, assign, branch, continuous}
use Rattle.sv_flat.specs.Design.{clocked, ProcessForm, FlatDesign}
use Rattle.sv_flat.specs.Values.{signal_width}
use Rattle.sv_flat.specs.FlatSystem.{flat_system}
use Rattle.sv_flat.proofs.Forms.{at, part, named, sequence, process}
use Rattle.sv_flat.proofs.Members.{only, all_contained}
use Rattle.sv_obl.specs.declared.frames.Frame.TheVariants.{Now, Next}
use Rattle.sv_obl.specs.Paths.{StepForm}
use Rattle.sv_obl.specs.PathValues.{is_true_in}
use Rattle.sv_obl.specs.Obligations.{flow, selector, Obligation, obligations}
use Rattle.sv_obl.specs.Validity.{Falsifies, IsValid, AllValid}
use Rattle.sv_obl.proofs.ExampleDesigns.{low, high, by, maps, signal, design, whole, held_register}
use Rattle.sv_obl.proofs.GuardedDesigns.{settles_itself}
use Rattle.sv_paths.proofs.ListExamples.{two_selectors}
use Rattle.sv_obl.proofs.MadeFacts.{makes_next}
use Rattle.sv_paths.proofs.WholeExample.{table, one_bit, no_bit}

same_arms : (b : Bool) (x : ℕ) → cond b x x ≡ x
same_arms true x = refl
same_arms false x = refl

-- ---- a register that is held while its label changes

abbrev nxt_is : Bool → StepForm
nxt_is truth = record { place = at 5 5; condition = named 1 (at 5 9); truth = truth }

-- one of a register, with no facts
abbrev of_register : List StepForm → Option Place → (reads : List ℕ) → (target : ℕ) → Obligation
of_register path right reads target =
    record { facts = []; path = path; right = right; reads = reads; goal = flow target Next }

abbrev hold : Obligation
hold = of_register (nxt_is false ∷ []) None (1 ∷ 4 ∷ []) 4

third_is_hold : slice_get (obligations [] held_register) 2 ≡ Some hold
third_is_hold = refl

abbrev bit : Bool → ℕ
bit b = cond b 1 0

abbrev unless : Bool → ℕ → ℕ
unless b n = cond b 0 n

-- owner is 1, and all else 0
abbrev owned : Environment ℕ
owned s = bit (s == 3)

owner_is_no_input : (s : ℕ) → IsTrue ((flat_system held_register).is_input s) → owned s ≡ 0
owner_is_no_input s input = by_test (s == 3) refl
  where
    by_test : (b : Bool) → (s == 3) ≡ b → bit b ≡ 0
    by_test false other = refl
    by_test true is = absurd (false≢true (subst (λ k.
        IsTrue ((flat_system held_register).is_input k)) (eqb-true s 3 is) input))

-- in the next cycle all is 0
then_none : (s : ℕ) → (flat_system held_register).next owned s ≡ 0
then_none s = by_test (3 == s) (s == 3) refl refl
  where
    by_test : (b c : Bool) → (3 == s) ≡ b → (s == 3) ≡ c → unless b (bit c) ≡ 0
    by_test true c is same = refl
    by_test false false other same = refl
    by_test false true other same =
        absurd (false≢true (sym other ∙ eq-eqb 3 s (sym (eqb-true s 3 same))))

held_fits : (e : Environment ℕ) → e 1 < 2 → e 2 < 256 → e 3 < 2 → e 4 < 256 →
    Fits (flat_system held_register) e
held_fits e nxt k owner r =
    let P = λ (s : ℕ). e s < 2 ^ signal_width held_register.signals s in
    All-cons P 1 (2 ∷ 3 ∷ 4 ∷ []) nxt (All-cons P 2 (3 ∷ 4 ∷ []) k
    (All-cons P 3 (4 ∷ []) owner (All-cons P 4 [] r (All-nil P))))

-- r is secret where owner is 1; it is kept, and with owner 0 it is public
pub held_is_falsified : Falsifies held_register
    (record { registers = owned; inputs = λ s. 0; next_inputs = λ s. 0 }) hold
held_is_falsified = record {
  now = owned;
  there = λ s. 0;
  settled = record {
    registers = λ s register. refl;
    inputs_are = owner_is_no_input;
    fits = held_fits owned (omega arith) (omega arith) (omega arith) (omega arith);
    still = All-nil (λ (run : Run ℕ). (s : ℕ) → run owned s ≡ owned s);
  };
  in_frame = record {
    registers = λ s register. sym (then_none s);
    inputs_are = λ s input. refl;
    fits = held_fits (λ s. 0) (omega arith) (omega arith) (omega arith) (omega arith);
    still = All-nil (λ (run : Run ℕ). (s : ℕ) → run (λ t. 0) s ≡ 0);
  };
  facts =
      All-nil (λ (fact : TypedTree). IsTrue (is_true_in held_register.signals owned fact));
  path =
      let P = λ (step : StepForm).
      is_true_in held_register.signals owned step.condition ≡ step.truth in
      All-cons P (nxt_is false) [] refl (All-nil P);
  fails = (4, Contains-later 1 (4 ∷ []) 4 (Contains-head 4 []), refl);
}

-- ---- its mended form: what was secret is cleared

abbrev clocked_body : ProcessForm
clocked_body = process (clocked 0) (at 3 3) (sequence (
    assign (part 3 (at 4 5) 0 0 0 ∷ []) (at 4 5) false (named 1 (at 4 14))
    ∷ branch (at 5 5) (named 1 (at 5 9))
    (assign (part 4 (at 5 14) 7 0 0 ∷ []) (at 5 14) false (whole 2 8))
    (assign (part 4 (at 6 10) 7 0 0 ∷ []) (at 6 10) false (typed 8 false (constant 0)))
    ∷ []))

-- module m(input clk, input nxt, input [7:0] {H} k, output reg owner, output reg [7:0] {Dom(owner)}
-- r); always @(posedge clk) begin owner <= nxt; if (nxt) r <= k; else r <= 0; end
abbrev pub mended_register : FlatDesign
mended_register = design
    (signal (codes "clk") 1 TopInput low ∷ signal (codes "nxt") 1 TopInput low ∷
    signal (codes "k") 8 TopInput high
    ∷ signal (codes "owner") 1 OutputReg low ∷ signal (codes "r") 8 OutputReg (by 3) ∷ [])
    (clocked_body ∷ [])

abbrev to_owner : Obligation
to_owner = of_register [] (Some (at 4 5)) (1 ∷ []) 3

abbrev taken : Obligation
taken = of_register (nxt_is true ∷ []) (Some (at 5 14)) (1 ∷ 2 ∷ []) 4

abbrev cleared : Obligation
cleared = of_register (nxt_is false ∷ []) (Some (at 6 10)) (1 ∷ []) 4

-- the label of a point does not flow to the row of the owner
abbrev StaysFrom : ℕ → ℕ → Type 0
StaysFrom point owner = IsFalse (flow_test table point (row_of (map_of maps 0) owner).0)

owner_valid : IsValid mended_register to_owner
owner_valid v f =
    let stays = f.fails in
    false≢true (sym (subst (λ t. IsFalse ((flat_system mended_register).flows
    ((flat_system mended_register).label t f.now) (record { 0 = 0 })))
    (sym (only 1 stays.0 stays.1)) stays.2))

-- where nxt is 1, the next owner is 1
next_owner : (e : Environment ℕ) → e 1 ≡ 1 → (flat_system mended_register).next e 3 ≡ 1
next_owner e one =
    sym (makes_next mended_register refl (record { unbroken = refl; ordered = ([], refl) })
    clocked_body 3 (Contains-head clocked_body []) refl refl e)
    ∙ same_arms (is_true (e 1 % 2)) (e 3 % 2 / 2 * 2 + (e 1 % 2 / 1 % 2 * 1 + e 3 % 1))
    ∙ omega arith

taken_valid : IsValid mended_register taken
taken_valid v f =
    let low = all_contained (λ s. f.now s < 2 ^ signal_width mended_register.signals s)
    (flat_system mended_register).signals f.settled.fits 1 (Contains-head 1 (2 ∷ 3 ∷ 4 ∷ [])) in
    let holds = all_contained (λ (step : StepForm).
    is_true_in mended_register.signals f.now step.condition ≡ step.truth) (nxt_is true ∷ []) f.path
    (nxt_is true) (Contains-head (nxt_is true) []) in
    let one = f.in_frame.registers 3 refl ∙ next_owner f.now (one_bit (f.now 1) low holds) in
    let stays = f.fails in
    ⊎_elim
    (λ is. false≢true (sym (subst (StaysFrom 0) one
    (subst (λ t. IsFalse ((flat_system mended_register).flows
    ((flat_system mended_register).label t f.now)
    ((flat_system mended_register).label 4 f.there))) (sym is) stays.2))))
    (λ later. false≢true (sym (subst (StaysFrom 1) one
    (subst (λ t. IsFalse ((flat_system mended_register).flows
    ((flat_system mended_register).label t f.now)
    ((flat_system mended_register).label 4 f.there))) (sym (only 2 stays.0 later)) stays.2))))
    (Contains-cases 1 (2 ∷ []) stays.0 stays.1)

least_flows : (owner : ℕ) → owner < 2 → StaysFrom 0 owner → ⊥
least_flows zero low stays = false≢true (sym stays)
least_flows (suc zero) low stays = false≢true (sym stays)
least_flows (suc (suc n)) low stays = absurd (omega arith)

cleared_valid : IsValid mended_register cleared
cleared_valid v f =
    let low = all_contained (λ s. f.there s < 2 ^ signal_width mended_register.signals s)
    (flat_system mended_register).signals f.in_frame.fits 3
    (Contains-later 1 (2 ∷ 3 ∷ 4 ∷ []) 3 (Contains-later 2 (3 ∷ 4 ∷ []) 3
    (Contains-head 3 (4 ∷ [])))) in
    let stays = f.fails in
    least_flows (f.there 3) low
    (subst (λ t. IsFalse ((flat_system mended_register).flows
    ((flat_system mended_register).label t f.now)
    ((flat_system mended_register).label 4 f.there))) (sym (only 1 stays.0 stays.1)) stays.2)

pub mended_is_valid : AllValid [] mended_register
mended_is_valid =
    All-cons (IsValid mended_register) to_owner (taken ∷ cleared ∷ []) owner_valid
    (All-cons (IsValid mended_register) taken (cleared ∷ []) taken_valid
    (All-cons (IsValid mended_register) cleared [] cleared_valid
    (All-nil (IsValid mended_register))))

-- ---- valid under a fact alone

-- module m(input sel, input {Dom(sel)} a, output y); assign y = a;
abbrev pub selected : FlatDesign
selected = design
    (signal (codes "sel") 1 TopInput low ∷ signal (codes "a") 1 TopInput (by 0)
    ∷ signal (codes "y") 1 Output low ∷ [])
    (process continuous (at 2 10)
    (assign (part 2 (at 2 10) 0 0 0 ∷ []) (at 2 10) true (named 1 (at 2 14))) ∷ [])

-- !sel
abbrev not_selected : TypedTree
not_selected = typed 1 false (unary unop.LogicNot (named 0 (at 3 1)))

abbrev copied : List TypedTree → Obligation
copied facts = record {
  facts = facts;
  path = [];
  right = Some (at 2 10);
  reads = 1 ∷ [];
  goal = flow 2 Now;
}

abbrev ones : Environment ℕ
ones s = 1

-- where sel is 1, a is secret
pub copied_is_falsified : Falsifies selected
    (record { registers = ones; inputs = ones; next_inputs = ones }) (copied [])
copied_is_falsified = record {
  now = ones;
  there = ones;
  settled = settles_itself selected ones
      (let P = λ (s : ℕ). 1 < 2 ^ signal_width selected.signals s in
      All-cons P 0 (1 ∷ 2 ∷ []) (omega arith) (All-cons P 1 (2 ∷ []) (omega arith)
      (All-cons P 2 [] (omega arith) (All-nil P))))
      (let P = λ (run : Run ℕ). (s : ℕ) → run ones s ≡ 1 in
      All-cons P _ [] (λ s. same_arms (2 == s) 1) (All-nil P));
  in_frame = refl;
  facts = All-nil (λ (fact : TypedTree). IsTrue (is_true_in selected.signals ones fact));
  path = All-nil (λ (step : StepForm).
      is_true_in selected.signals ones step.condition ≡ step.truth);
  fails = (1, Contains-head 1 [], refl);
}

not_true : (b : Bool) → is_true (truth (not b)) ≡ true → b ≡ false
not_true true h = absurd (false≢true h)
not_true false h = refl

copied_valid : IsValid selected (copied (not_selected ∷ []))
copied_valid v f =
    let P = λ (fact : TypedTree). IsTrue (is_true_in selected.signals f.now fact) in
    let met = all_contained P (not_selected ∷ []) f.facts not_selected
    (Contains-head not_selected []) in
    let low = all_contained (λ s. f.now s < 2 ^ signal_width selected.signals s)
    (flat_system selected).signals f.settled.fits 0 (Contains-head 0 (1 ∷ 2 ∷ [])) in
    let none = no_bit (f.now 0) low (not_true (is_true (f.now 0 % 2)) met) in
    let stays = f.fails in
    false≢true (sym (subst (λ n. IsFalse (flow_test table (row_of (map_of maps 0) n).0 0)) none
    (subst (λ t. IsFalse ((flat_system selected).flows ((flat_system selected).label t f.now)
    (record { 0 = 0 }))) (sym (only 1 stays.0 stays.1)) stays.2)))

-- where sel is always 0, it is not
pub valid_under_a_fact : AllValid (not_selected ∷ []) selected
valid_under_a_fact = All-cons (IsValid selected) (copied (not_selected ∷ [])) [] copied_valid
    (All-nil (IsValid selected))

-- ---- selectors

-- d is labelled by the values of p and q
abbrev of_selector : Obligation
of_selector =
    record { facts = []; path = []; right = None; reads = 1 ∷ []; goal = selector 2 }

second_is_of_selector : slice_get (obligations [] (two_selectors (by 0))) 1 ≡
    Some of_selector
second_is_of_selector = refl

abbrev none_set : Environment ℕ
none_set s = 0

-- where p and q are 0, d is public, and so it tells of a secret q that it is 0
pub secret_selector_is_falsified : Falsifies (two_selectors high)
    (record { registers = none_set; inputs = none_set; next_inputs = none_set }) of_selector
secret_selector_is_falsified = record {
  now = none_set;
  there = none_set;
  settled = settles_itself (two_selectors high) none_set
      (let P = λ (s : ℕ). 0 < 2 ^ signal_width (two_selectors high).signals s in
      All-cons P 0 (1 ∷ 2 ∷ 3 ∷ []) (omega arith) (All-cons P 1 (2 ∷ 3 ∷ []) (omega arith)
      (All-cons P 2 (3 ∷ []) (omega arith) (All-cons P 3 [] (omega arith) (All-nil P)))))
      (let P = λ (run : Run ℕ). (s : ℕ) → run none_set s ≡ 0 in
      All-cons P _ [] (λ s. same_arms (3 == s) 0) (All-nil P));
  in_frame = refl;
  facts = All-nil (λ (fact : TypedTree).
      IsTrue (is_true_in (two_selectors high).signals none_set fact));
  path = All-nil (λ (step : StepForm).
      is_true_in (two_selectors high).signals none_set step.condition ≡ step.truth);
  fails = (1, Contains-head 1 [], refl);
}

-- the row of p does not flow to that of p and q
abbrev PairStays : ℕ → ℕ → ℕ → Type 0
PairStays p first second =
    IsFalse (flow_test table (row_of (map_of maps 0) p).0
    (row_of (map_of maps 1) (pair_value (map_of maps 1) first second)).0)

pair_flows : (p q : ℕ) → p < 2 → q < 2 → PairStays p p q → ⊥
pair_flows zero zero h k stays = false≢true (sym stays)
pair_flows zero (suc zero) h k stays = false≢true (sym stays)
pair_flows (suc zero) zero h k stays = false≢true (sym stays)
pair_flows (suc zero) (suc zero) h k stays = false≢true (sym stays)
pair_flows (suc (suc n)) q h k stays = absurd (omega arith)
pair_flows p (suc (suc n)) h k stays = absurd (omega arith)

-- where q is secret only with p 1, d is secret then too
pub selector_is_valid : IsValid (two_selectors (by 0)) of_selector
selector_is_valid v f =
    let system = flat_system (two_selectors (by 0)) in
    let Low = λ (s : ℕ). f.now s < 2 ^ signal_width (two_selectors (by 0)).signals s in
    let p_low = all_contained Low system.signals f.settled.fits 0
    (Contains-head 0 (1 ∷ 2 ∷ 3 ∷ [])) in
    let q_low = all_contained Low system.signals f.settled.fits 1
    (Contains-later 0 (1 ∷ 2 ∷ 3 ∷ []) 1 (Contains-head 1 (2 ∷ 3 ∷ []))) in
    let stays = f.fails in
    pair_flows (f.now 0) (f.now 1) p_low q_low
    (subst (λ (e : Environment ℕ). PairStays (f.now 0) (e 0) (e 1)) f.in_frame
    (subst (λ t. IsFalse (system.flows (system.label t f.now) (system.label 2 f.there)))
    (sym (only 1 stays.0 stays.1)) stays.2))
