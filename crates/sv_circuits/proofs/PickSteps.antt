-- A bit by its index, as a loop finds it.
use Rattle.std.proofs.Common.{◌≡◌, ℕ, suc, ◌+◌, ◌/◌, ◌≤◌, ◌<◌, ℤ, [], ◌∷◌, sym, ap, ◌∙◌, subst, arith}
use Rattle.sv_gates.specs.Formulas.{Formula}
use Rattle.sv_gates.specs.Gates.{mux_gate}
use Rattle.sv_circuits.specs.Words.{Word, equals_number_bit}
use Rattle.sv_circuits.specs.Operators.{picked_from}
use Rattle.sv_circuits.proofs.TestSteps.{number_test, number_grows}

pub equals_grows : (word : Word) (n : ℕ) (f : Formula) →
    f.variables ≤ ((equals_number_bit word n f).0).variables
equals_grows [] n f = omega arith
equals_grows (x ∷ word) n f = number_grows word (n / 2) (number_test x n) f

pub picked_grows : (index : Word) (r : ℤ) (j : ℕ) (xs : Word) (f : Formula) →
    f.variables ≤ ((picked_from index r j xs f).0).variables
picked_grows index r j [] f = omega arith
picked_grows index r j (x ∷ xs) f =
    let here = equals_number_bit index j f in
    let next = mux_gate here.1 x r here.0 in
    let up = equals_grows index j f in
    let more = picked_grows index next.1 (suc j) xs next.0 in
    omega (arith, up, more)

pub picked_step : (index xs more : Word) (r a h g : ℤ) (j : ℕ) (now between later : Formula) →
    xs ≡ a ∷ more → equals_number_bit index j now ≡ (between, h) →
    mux_gate h a r between ≡ (later, g) →
    picked_from index r j xs now ≡ picked_from index g (j + 1) more later
picked_step index xs more r a h g j now between later ex e f =
    let one : suc j ≡ j + 1 = omega arith in
    ap (λ z. picked_from index r j z now) ex
    ∙ ap (λ (z : Formula × ℤ). picked_from index (mux_gate z.1 a r z.0).1 (suc j) more
    (mux_gate z.1 a r z.0).0) e
    ∙ ap (λ (z : Formula × ℤ). picked_from index z.1 (suc j) more z.0) f
    ∙ ap (λ z. picked_from index g z more later) one

-- either piece can be the one that is refused
pub picked_full : (index xs more : Word) (r a : ℤ) (j : ℕ) (now : Formula) (most : ℕ) →
    xs ≡ a ∷ more → most ≤ ((equals_number_bit index j now).0).variables →
    most < ((picked_from index r j xs now).0).variables
picked_full index xs more r a j now most ex h =
    let here = equals_number_bit index j now in
    let next = mux_gate here.1 a r here.0 in
    let up = picked_grows index next.1 (suc j) more next.0 in
    subst (λ z. most < ((picked_from index r j z now).0).variables) (sym ex)
    (omega (arith, up, h))

pub picked_end : (index xs : Word) (r : ℤ) (j : ℕ) (now : Formula) → xs ≡ [] →
    picked_from index r j xs now ≡ (now, r)
picked_end index xs r j now e = ap (λ z. picked_from index r j z now) e
