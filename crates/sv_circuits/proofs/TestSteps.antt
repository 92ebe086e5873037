-- Tests of words as loops make them: whether two words are equal, and whether a word is a number.
use Rattle.std.proofs.Common.{◌≡◌, ℕ, suc, ◌≤◌, ◌<◌, ◌/◌, ◌%◌, ℤ, List, [], ◌∷◌, map, refl, sym, ap, ◌∙◌}
use Rattle.std.proofs.Common.{subst, arith, ◌⊎◌, ⊎_elim, if◌then◌else◌}
use Rattle.std.specs.Prelude.{neg_ℤ, ◌==◌}
use Rattle.std.specs.List.{zip}
use Rattle.sv_gates.specs.Formulas.{Formula}
use Rattle.sv_gates.specs.Gates.{and_gate, xor_gate, true_literal}
use Rattle.sv_circuits.specs.Words.{Word, BitMaker, negation, chain_from, number_tests}
use Rattle.sv_circuits.specs.Words.{equal_bit}

-- whether bits are the same, as members of a chain
abbrev pub same_tests : (xs ys : Word) → List BitMaker
same_tests xs ys = map (λ bits. negation (xor_gate bits.0 bits.1)) (zip xs ys)

pub same_grows : (xs ys : Word) (before : ℤ) (f : Formula) →
    f.variables ≤ ((chain_from and_gate before (same_tests xs ys) f).0).variables
same_grows [] ys before f = omega arith
same_grows (x ∷ xs) [] before f = omega arith
same_grows (x ∷ xs) (y ∷ ys) before f =
    let test = negation (xor_gate x y) f in
    let next = and_gate before test.1 test.0 in
    let more = same_grows xs ys next.1 next.0 in
    omega (arith, more)

pub same_whole : (xs ys first second : Word) (before : ℤ) (old : Formula) → first ≡ xs →
    second ≡ ys → chain_from and_gate before (same_tests xs ys) old
    ≡ chain_from and_gate before (same_tests first second) old
same_whole xs ys first second before old ea eb = rw (ea, eb) refl

pub same_step : (xs ys more rest : Word) (before a b d g : ℤ) (now between later : Formula) →
    xs ≡ a ∷ more → ys ≡ b ∷ rest → negation (xor_gate a b) now ≡ (between, d) →
    and_gate before d between ≡ (later, g) →
    chain_from and_gate before (same_tests xs ys) now
    ≡ chain_from and_gate g (same_tests more rest) later
same_step xs ys more rest before a b d g now between later ea eb e f =
    ap (λ z. chain_from and_gate before (same_tests z ys) now) ea
    ∙ ap (λ z. chain_from and_gate before (same_tests (a ∷ more) z) now) eb
    ∙ ap (λ (z : Formula × ℤ). chain_from and_gate (and_gate before z.1 z.0).1
    (same_tests more rest) (and_gate before z.1 z.0).0) e
    ∙ ap (λ (z : Formula × ℤ). chain_from and_gate z.1 (same_tests more rest) z.0) f

pub same_full : (xs ys more rest : Word) (before a b : ℤ) (now : Formula) (most : ℕ) →
    xs ≡ a ∷ more → ys ≡ b ∷ rest → most ≤ suc now.variables →
    most < ((chain_from and_gate before (same_tests xs ys) now).0).variables
same_full xs ys more rest before a b now most ea eb h =
    let test = negation (xor_gate a b) now in
    let next = and_gate before test.1 test.0 in
    let up = same_grows more rest next.1 next.0 in
    subst (λ z. most < ((chain_from and_gate before (same_tests z ys) now).0).variables) (sym ea)
    (subst (λ z. most < ((chain_from and_gate before (same_tests (a ∷ more) z) now).0).variables)
    (sym eb) (omega (arith, up, h)))

pub same_none : (xs : Word) (before : ℤ) (f : Formula) →
    chain_from and_gate before (same_tests xs []) f ≡ (f, before)
same_none [] before f = refl
same_none (x ∷ xs) before f = refl

pub same_end : (xs ys : Word) (before : ℤ) (now : Formula) → (xs ≡ []) ⊎ (ys ≡ []) →
    chain_from and_gate before (same_tests xs ys) now ≡ (now, before)
same_end xs ys before now =
    ⊎_elim (λ e. ap (λ z. chain_from and_gate before (same_tests z ys) now) e)
    (λ e. ap (λ z. chain_from and_gate before (same_tests xs z) now) e ∙ same_none xs before now)

pub equal_nil : (xs : Word) (f : Formula) → equal_bit xs [] f ≡ (f, true_literal)
equal_nil [] f = refl
equal_nil (x ∷ xs) f = refl

pub equal_none : (xs ys : Word) (f : Formula) → (xs ≡ []) ⊎ (ys ≡ []) →
    equal_bit xs ys f ≡ (f, true_literal)
equal_none xs ys f =
    ⊎_elim (λ e. ap (λ z. equal_bit z ys f) e)
    (λ e. ap (λ z. equal_bit xs z f) e ∙ equal_nil xs f)

pub equal_full : (xs ys more rest : Word) (a b : ℤ) (now : Formula) (most : ℕ) →
    xs ≡ a ∷ more → ys ≡ b ∷ rest → now.variables ≡ most →
    most < ((equal_bit xs ys now).0).variables
equal_full xs ys more rest a b now most ea eb h =
    let test = negation (xor_gate a b) now in
    let up = same_grows more rest test.1 test.0 in
    subst (λ z. most < ((equal_bit z ys now).0).variables) (sym ea)
    (subst (λ z. most < ((equal_bit (a ∷ more) z now).0).variables) (sym eb)
    (omega (arith, up, h)))

-- ---- numbers

abbrev pub number_test : ℤ → ℕ → ℤ
number_test literal n = if n % 2 == 1 then literal else neg_ℤ literal

pub number_grows : (xs : Word) (n : ℕ) (before : ℤ) (f : Formula) →
    f.variables ≤ ((chain_from and_gate before (number_tests xs n) f).0).variables
number_grows [] n before f = omega arith
number_grows (x ∷ xs) n before f =
    let next = and_gate before (number_test x n) f in
    let more = number_grows xs (n / 2) next.1 next.0 in
    omega (arith, more)

pub number_step : (xs more : Word) (n half : ℕ) (before a t g : ℤ) (now later : Formula) →
    xs ≡ a ∷ more → half ≡ n / 2 → t ≡ number_test a n → and_gate before t now ≡ (later, g) →
    chain_from and_gate before (number_tests xs n) now
    ≡ chain_from and_gate g (number_tests more half) later
number_step xs more n half before a t g now later ea eh et e =
    ap (λ z. chain_from and_gate before (number_tests z n) now) ea
    ∙ ap (λ z. chain_from and_gate (and_gate before z now).1
    (number_tests more (n / 2)) (and_gate before z now).0) (sym et)
    ∙ ap (λ (z : Formula × ℤ). chain_from and_gate z.1 (number_tests more (n / 2)) z.0) e
    ∙ ap (λ z. chain_from and_gate g (number_tests more z) later) (sym eh)

pub number_full : (xs more : Word) (n : ℕ) (before a : ℤ) (now : Formula) (most : ℕ) →
    xs ≡ a ∷ more → now.variables ≡ most →
    most < ((chain_from and_gate before (number_tests xs n) now).0).variables
number_full xs more n before a now most ea h =
    let next = and_gate before (number_test a n) now in
    let up = number_grows more (n / 2) next.1 next.0 in
    subst (λ z. most < ((chain_from and_gate before (number_tests z n) now).0).variables) (sym ea)
    (omega (arith, up, h))

pub number_end : (xs : Word) (n : ℕ) (before : ℤ) (now : Formula) → xs ≡ [] →
    chain_from and_gate before (number_tests xs n) now ≡ (now, before)
number_end xs n before now e = ap (λ z. chain_from and_gate before (number_tests z n) now) e
