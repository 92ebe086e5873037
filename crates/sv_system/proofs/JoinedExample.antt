-- The example system once more, its signals by numbers. The two are joined, so what holds of the
-- one by names holds of the one by numbers.
use Rattle.std.proofs.Common.{◌≡◌, ℕ, zero, suc, ◌<◌, Bool, true, false, eqb, [], ◌∷◌, refl, ap}
use Rattle.std.proofs.Common.{subst, ⊎_elim, arith}
use Rattle.std.specs.Prelude.{Contains, IsTrue}
use Rattle.std.proofs.lemmas.Bool.{false≢true, cases_Bool, cond-false, eqb-true}
use Rattle.sv_system.specs.System.{System, Environment, Noninterferent, HasOneTrace, put}
use Rattle.sv_system.specs.Joining.{SameRun, Joined}
use Rattle.sv_system.proofs.Example.{Wire, mode, secret, copy, kept, same, flows, example, within}
use Rattle.sv_system.proofs.Example.{example_is_noninterferent, example_has_one_trace}
use Rattle.sv_system.proofs.JoinedTraces.{joined_one_trace}
use Rattle.sv_system.proofs.JoinedViews.{joined_noninterferent}

abbrev input_number : ℕ → Bool
input_number zero = true
input_number (suc zero) = true
input_number (suc (suc n)) = false

abbrev number_label : ℕ → Environment ℕ → Bool
number_label zero e = false
number_label (suc zero) e = eqb (e 0) 1
number_label (suc (suc zero)) e = eqb (e 0) 1
number_label (suc (suc (suc n))) e = true

abbrev copy_number : Environment ℕ → Environment ℕ
copy_number e = put eqb 2 (e 1) e

abbrev numbered : System ℕ Bool
numbered = record {
  signals = 0 ∷ 1 ∷ 2 ∷ 3 ∷ [];
  is_input = input_number;
  is_register = λ n. eqb n 3;
  width = λ n. 1;
  processes = copy_number ∷ [];
  next = λ e n. e 2;
  label = number_label;
  flows = flows;
}

abbrev number : Wire → ℕ
number mode = 0
number secret = 1
number copy = 2
number kept = 3

abbrev name : ℕ → Wire
name zero = mode
name (suc zero) = secret
name (suc (suc zero)) = copy
name (suc (suc (suc n))) = kept

number_within : (n : ℕ) → n < 4 → Contains numbered.signals n
number_within zero low = (0, omega arith, refl)
number_within (suc zero) low = (1, omega arith, refl)
number_within (suc (suc zero)) low = (2, omega arith, refl)
number_within (suc (suc (suc zero))) low = (3, omega arith, refl)
number_within (suc (suc (suc (suc n)))) low = absurd (omega arith)

input_low : (n : ℕ) → IsTrue (input_number n) → n < 4
input_low zero is = omega arith
input_low (suc zero) is = omega arith
input_low (suc (suc n)) is = absurd (false≢true is)

name_number : (s : Wire) → name (number s) ≡ s
name_number mode = refl
name_number secret = refl
name_number copy = refl
name_number kept = refl

same_inputs : (s : Wire) → example.is_input s ≡ numbered.is_input (number s)
same_inputs mode = refl
same_inputs secret = refl
same_inputs copy = refl
same_inputs kept = refl

same_registers : (s : Wire) → example.is_register s ≡ numbered.is_register (number s)
same_registers mode = refl
same_registers secret = refl
same_registers copy = refl
same_registers kept = refl

same_labels : (e : Environment Wire) (f : Environment ℕ) → e mode ≡ f 0 → (s : Wire) →
    example.label s e ≡ numbered.label (number s) f
same_labels e f same_mode mode = refl
same_labels e f same_mode secret = ap (λ n. eqb n 1) same_mode
same_labels e f same_mode copy = ap (λ n. eqb n 1) same_mode
same_labels e f same_mode kept = refl

abbrev copy_wire : (Wire → ℕ) → (Wire → ℕ)
copy_wire e = put same copy (e secret) e

copies_agree : (e : Environment Wire) (f : Environment ℕ) → ((s : Wire) → e s ≡ f (number s)) →
    (s : Wire) → copy_wire e s ≡ copy_number f (number s)
copies_agree e f agree mode = agree mode
copies_agree e f agree secret = agree secret
copies_agree e f agree copy = agree secret
copies_agree e f agree kept = agree kept

same_copy : SameRun example numbered number copy_wire copy_number
same_copy = record {
  same = λ e f agree s _. copies_agree e f (λ t. agree.same t (within t)) s;
  first_within = λ e s apart. absurd (apart (within s));
  second_within = λ f n apart. ⊎_elim
      (λ hit.
      absurd (apart (subst (Contains numbered.signals) (eqb-true 2 n hit)
      (number_within 2 (omega arith)))))
      (λ miss. cond-false (eqb 2 n) (f 1) (f n) miss)
      (cases_Bool (eqb 2 n));
}

names_and_numbers : Joined example numbered
names_and_numbers = record {
  to = number;
  from = name;
  from_to = λ s _. name_number s;
  level = λ b. b;
  signals = refl;
  inputs = λ s _. same_inputs s;
  registers = λ s _. same_registers s;
  widths = λ s _. refl;
  first_kinds = λ s _. within s;
  second_kinds =
      λ n kind. number_within n (⊎_elim (input_low n) (λ register. let is = eqb-true n 3 register in
      omega arith) kind);
  processes = (same_copy, tt);
  next = λ e f agree s _. agree.same copy (within copy);
  seen_alike =
      λ point e f agree s _.
      ap (λ b. flows b point) (same_labels e f (agree.same mode (within mode)) s);
}

-- so both theorems pass from names to numbers
numbered_is_noninterferent : Noninterferent numbered
numbered_is_noninterferent =
    joined_noninterferent example numbered names_and_numbers example_is_noninterferent

numbered_has_one_trace : HasOneTrace numbered
numbered_has_one_trace = joined_one_trace example numbered names_and_numbers example_has_one_trace
