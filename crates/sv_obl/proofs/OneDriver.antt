-- A signal has the one process that the design names as its driver, or none.
use Rattle.std.proofs.Common.{◌≡◌, ℕ, zero, suc, ◌+◌, ◌<◌, ◌≤◌, Bool, true, false, cond, nat_lt}
use Rattle.std.proofs.Common.{not}
use Rattle.std.proofs.Common.{List, [], ◌∷◌, length, get_or, drop, filter, position}
use Rattle.std.proofs.Common.{Some, None, slice_get, refl, sym, ap, ◌∙◌, arith}
use Rattle.std.proofs.Common.{ltb-false}
use Rattle.std.specs.Prelude.{Contains, IsTrue, IsFalse}
use Rattle.std.specs.List.{position_or_len}
use Rattle.std.proofs.lemmas.List.Elements.{Contains-get_or}
use Rattle.std.proofs.lemmas.List.Quantifiers.{position-Some}
use Rattle.sv_flat.specs.Design.{nothing, continuous, ProcessForm, FlatDesign}
use Rattle.sv_flat.specs.Assigned.{assigns}
use Rattle.sv_flat.specs.Admission.{IsAdmitted}
use Rattle.sv_flat.specs.Soundness.{sound, is_signal}
use Rattle.sv_flat.specs.Clocks.{processes_of}
use Rattle.sv_flat.specs.Processes.{drivers, is_top_input}
use Rattle.sv_flat.specs.SignalLists.{driver_of}
use Rattle.sv_flat.proofs.AdmittedFacts.{extra_at}
use Rattle.sv_obl.proofs.PathLists.{cond_true, cond_false}

-- what a read past the end of processes gives
abbrev pub no_process : ProcessForm
no_process = record {
  kind = continuous;
  place = record { line = 0; column = 0 };
  body = nothing;
}

pub found_again : (ps : List ProcessForm) (i : ℕ) (d : ProcessForm)
    → get_or ps i (get_or ps i d) ≡ get_or ps i d
found_again [] i d = refl
found_again (p ∷ ps) zero d = refl
found_again (p ∷ ps) (suc i) d = found_again ps i d

module _ {X : Type 0} (test : X → Bool) where
  -- what passes begins with the first that does
  filter_from : (xs : List X) (i : ℕ) (d : X) → i < length xs → IsTrue (test (get_or xs i d))
      → ((k : ℕ) → k < i → IsFalse (test (get_or xs k d)))
      → filter test xs ≡ get_or xs i d ∷ filter test (drop (suc i) xs)
  filter_from [] i d inside here before = absurd (omega arith)
  filter_from (x ∷ xs) zero d inside here before =
      cond_true (test x) (x ∷ filter test xs) (filter test xs) here
  filter_from (x ∷ xs) (suc i) d inside here before =
      cond_false (test x) (x ∷ filter test xs) (filter test xs) (before 0 (omega arith))
      ∙ filter_from xs i d (omega arith) here (λ k less. before (suc k) (omega arith))

  nothing_long : (xs : List X) → length xs ≤ position_or_len test xs → filter test xs ≡ []
  nothing_long [] h = refl
  nothing_long (x ∷ xs) h = by_test (test x) (nothing_long xs) h
    where
      by_test : (c : Bool) → (length xs ≤ position_or_len test xs → filter test xs ≡ [])
          → suc (length xs) ≤ cond (not c) (1 + position_or_len test xs) 0
          → cond c (x ∷ filter test xs) (filter test xs) ≡ []
      by_test true rest h = absurd (omega arith)
      by_test false rest h = rest (omega arith)

  nothing_passes : (xs : List X) → position test xs ≡ None → filter test xs ≡ []
  nothing_passes xs none = nothing_long xs (by_test (nat_lt (position_or_len test xs) (length xs))
      refl none)
    where
      by_test : (c : Bool) → nat_lt (position_or_len test xs) (length xs) ≡ c
          → cond c (Some (position_or_len test xs)) None ≡ None
          → length xs ≤ position_or_len test xs
      by_test true is h = cc
      by_test false is h = ltb-false (position_or_len test xs) (length xs) is

pub no_second : {X : Type 0} (x : X) (xs : List X) → slice_get (x ∷ xs) 1 ≡ None → xs ≡ []
no_second x [] none = refl
no_second x (y ∷ xs) none = cc

module _ (design : FlatDesign) (is_sound : IsTrue (sound design)) (admitted : IsAdmitted design)
    (s : ℕ) (inside : IsTrue (is_signal design.signals s)) where
  abbrev processes : List ProcessForm
  processes = processes_of design

  pub no_driver : driver_of design s ≡ None → drivers processes s ≡ []
  no_driver none = nothing_passes (λ (p : ProcessForm). assigns p.body s) processes none

  -- the process at the driver's place, alone
  pub one_driver_at : (k : ℕ) (d : ProcessForm) → driver_of design s ≡ Some k
      → Contains processes (get_or processes k d)
      × IsTrue (assigns (get_or processes k d).body s)
      × (drivers processes s ≡ get_or processes k d ∷ [])
  one_driver_at k d is =
      let test = λ (p : ProcessForm). assigns p.body s in
      let first = position-Some test processes k d is in
      let p = get_or processes k d in
      let rest = filter test (drop (suc k) processes) in
      let all : drivers processes s ≡ p ∷ rest =
      filter_from test processes k d first.0 first.1 first.2 in (
        Contains-get_or processes k d first.0,
        first.1,
        all ∙ ap (λ ps. p ∷ ps) (no_second p rest (by_top p rest all (is_top_input design s) refl)),
      )
    where
      by_top : (p : ProcessForm) (rest : List ProcessForm) → drivers processes s ≡ p ∷ rest
          → (c : Bool) → is_top_input design s ≡ c → slice_get (p ∷ rest) 1 ≡ None
      by_top p rest all true top =
          let none = sym (ap (λ ps. slice_get ps 0) all)
          ∙ extra_at design is_sound admitted true s top inside in
          absurd (no_some p none)
        where
          no_some : (x : ProcessForm) → Some x ≡ None → ⊥
          no_some x e = cc
      by_top p rest all false top =
          sym (ap (λ ps. slice_get ps 1) all)
          ∙ extra_at design is_sound admitted false s top inside
