-- A sum of words, bit by bit.
use Rattle.std.proofs.Common.{◌≡◌, ℕ, ◌≤◌, ◌<◌, ℤ, [], ◌∷◌, ◌++◌, refl, sym, ap, ◌∙◌, subst, arith}
use Rattle.std.proofs.Common.{append_assoc, ◌⊎◌, ⊎_elim}
use Rattle.std.proofs.lemmas.List.{append-nil}
use Rattle.sv_gates.specs.Extending.{Begins}
use Rattle.sv_gates.proofs.ExtendingLaws.{begins_none, begins_trans}
use Rattle.sv_gates.specs.Formulas.{Formula, IsLiteral}
use Rattle.sv_circuits.specs.Words.{Word}
use Rattle.sv_circuits.specs.Circuits.{IsWord}
use Rattle.sv_circuits.specs.Operators.{add_bits, sum_word}
use Rattle.sv_circuits.proofs.WordKeeps.{onto, word_up, word_push}

pub sum_grows : (xs ys : Word) (carry : ℤ) (f : Formula) →
    f.variables ≤ ((sum_word xs ys carry f).0).variables
sum_grows [] ys carry f = omega arith
sum_grows (a ∷ xs) [] carry f = omega arith
sum_grows (a ∷ xs) (b ∷ ys) carry f =
    let made = add_bits a b carry f in
    let more = sum_grows xs ys (made.1).1 made.0 in
    omega (arith, more)

-- what is left of a sum when its lower bits are made
pub record SumAt (whole : Formula × Word) (old : Formula) (xs ys front : Word) (carry : ℤ)
    (now : Formula) : Type 0 where
  pub made : whole ≡ onto front (sum_word xs ys carry now)
  pub first : IsWord now.variables xs
  pub second : IsWord now.variables ys
  pub next : IsLiteral now.variables carry
  pub done : IsWord now.variables front
  pub begins : Begins old now

pub sum_start : (xs ys fst snd front : Word) (carry : ℤ) (old : Formula) → fst ≡ xs → snd ≡ ys →
    front ≡ [] → IsWord old.variables xs → IsWord old.variables ys → IsLiteral old.variables carry →
    SumAt (sum_word xs ys carry old) old fst snd front carry old
sum_start xs ys fst snd front carry old ea eb ef first second next = record {
  made = rw (ea, eb, ef) refl;
  first = rw ea first;
  second = rw eb second;
  next = next;
  done = rw ef tt;
  begins = begins_none old;
}

pub sum_more : (whole : Formula × Word) (old : Formula) (xs ys front more rest : Word)
    (carry a b : ℤ) (now later : Formula) (bits : ℤ × ℤ) →
    SumAt whole old xs ys front carry now → xs ≡ a ∷ more → ys ≡ b ∷ rest →
    add_bits a b carry now ≡ (later, bits) → Begins now later →
    IsLiteral later.variables bits.0 → IsLiteral later.variables bits.1 →
    SumAt whole old more rest (front ++ bits.0 ∷ []) bits.1 later
sum_more whole old xs ys front more rest carry a b now later bits at ea eb e up s n =
    let first : IsWord now.variables (a ∷ more) = subst (IsWord now.variables) ea at.first in
    let second : IsWord now.variables (b ∷ rest) = subst (IsWord now.variables) eb at.second in
    record {
      made = at.made
          ∙ ap (λ z. onto front (sum_word z ys carry now)) ea
          ∙ ap (λ z. onto front (sum_word (a ∷ more) z carry now)) eb
          ∙ ap (λ (z : Formula × (ℤ × ℤ)). (
            (sum_word more rest (z.1).1 z.0).0,
            front ++ (z.1).0 ∷ (sum_word more rest (z.1).1 z.0).1,
          )) e
          ∙ ap (λ z. ((sum_word more rest bits.1 later).0, z))
          (sym (append_assoc front (bits.0 ∷ []) (sum_word more rest bits.1 later).1));
      first = word_up now.variables later.variables more up.grows first.1;
      second = word_up now.variables later.variables rest up.grows second.1;
      next = n;
      done = word_push later.variables front bits.0
          (word_up now.variables later.variables front up.grows at.done) s;
      begins = begins_trans old now later at.begins up;
    }

pub sum_full : (whole : Formula × Word) (old : Formula) (xs ys front more rest : Word)
    (carry a b : ℤ) (now : Formula) (most : ℕ) →
    SumAt whole old xs ys front carry now → xs ≡ a ∷ more → ys ≡ b ∷ rest →
    most < ((add_bits a b carry now).0).variables → most < (whole.0).variables
sum_full whole old xs ys front more rest carry a b now most at ea eb h =
    let made = add_bits a b carry now in
    let later = sum_grows more rest (made.1).1 made.0 in
    let e : whole.0 ≡ (sum_word (a ∷ more) (b ∷ rest) carry now).0 =
    ap (λ (z : Formula × Word). z.0) at.made
    ∙ ap (λ z. (sum_word z ys carry now).0) ea
    ∙ ap (λ z. (sum_word (a ∷ more) z carry now).0) eb in
    subst (λ (z : Formula). most < z.variables) (sym e) (omega (arith, later, h))

pub sum_none : (xs : Word) (carry : ℤ) (f : Formula) → sum_word xs [] carry f ≡ (f, [])
sum_none [] carry f = refl
sum_none (a ∷ xs) carry f = refl

pub sum_end : (whole : Formula × Word) (old : Formula) (xs ys front : Word) (carry : ℤ)
    (now : Formula) → SumAt whole old xs ys front carry now → (xs ≡ []) ⊎ (ys ≡ []) →
    whole ≡ (now, front)
sum_end whole old xs ys front carry now at =
    ⊎_elim (λ e. at.made ∙ ap (λ z. onto front (sum_word z ys carry now)) e
    ∙ ap (λ z. (now, z)) (append-nil front))
    (λ e. at.made ∙ ap (λ z. onto front (sum_word xs z carry now)) e
    ∙ ap (onto front) (sum_none xs carry now) ∙ ap (λ z. (now, z)) (append-nil front))
