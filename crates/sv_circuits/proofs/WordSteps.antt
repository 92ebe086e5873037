-- Words without gates, as loops make them.
use Rattle.std.proofs.Common.{◌≡◌, ℕ, zero, suc, ◌+◌, ◌-◌, ◌/◌, ◌≤◌, ◌<◌, ℤ, [], ◌∷◌, ◌++◌}
use Rattle.std.proofs.Common.{refl, sym, ap, ◌∙◌, arith, append_assoc}
use Rattle.std.specs.Prelude.{neg_ℤ, replicate}
use Rattle.std.proofs.lemmas.List.{append-nil}
use Rattle.sv_circuits.specs.Words.{Word, low_literal, number_word, inverted_word, repeated_word}
use Rattle.sv_circuits.proofs.WordKeeps.{same_push}

pub same_more : (front made : Word) (k : ℕ) (l : ℤ) → made ≡ front ++ replicate k l →
    made ++ l ∷ [] ≡ front ++ replicate (k + 1) l
same_more front made k l e =
    let one : k + 1 ≡ suc k = omega arith in
    rw one (ap (λ z. z ++ l ∷ []) e ∙ append_assoc front (replicate k l) (l ∷ [])
    ∙ ap (λ z. front ++ z) (same_push k l))

pub same_done : (front made : Word) (k n : ℕ) (l : ℤ) → k ≡ n → made ≡ front ++ replicate k l →
    made ≡ front ++ replicate n l
same_done front made k n l e at = at ∙ ap (λ z. front ++ replicate z l) e

pub number_start : (made : Word) (width n : ℕ) → made ≡ [] →
    number_word width n ≡ made ++ number_word (width - 0) n
number_start made width n e =
    let all : width - 0 ≡ width = omega arith in rw (all, e) refl

pub number_more : (whole made : Word) (width k left : ℕ) → k < width →
    whole ≡ made ++ number_word (width - k) left →
    whole ≡ (made ++ low_literal left ∷ []) ++ number_word (width - (k + 1)) (left / 2)
number_more whole made width k left h e =
    let one : width - k ≡ suc (width - (k + 1)) = omega arith in
    e ∙ ap (λ z. made ++ number_word z left) one
    ∙ sym (append_assoc made (low_literal left ∷ []) (number_word (width - (k + 1)) (left / 2)))

pub number_done : (whole made : Word) (width k left : ℕ) → width ≤ k →
    whole ≡ made ++ number_word (width - k) left → made ≡ whole
number_done whole made width k left h e =
    let none : width - k ≡ 0 = omega arith in
    sym (e ∙ ap (λ z. made ++ number_word z left) none ∙ append-nil made)

pub inverted_more : (whole made xs more : Word) (l : ℤ) → xs ≡ l ∷ more →
    whole ≡ made ++ inverted_word xs → whole ≡ (made ++ neg_ℤ l ∷ []) ++ inverted_word more
inverted_more whole made xs more l ex e =
    e ∙ ap (λ z. made ++ inverted_word z) ex
    ∙ sym (append_assoc made (neg_ℤ l ∷ []) (inverted_word more))

pub inverted_done : (whole made xs : Word) → xs ≡ [] → whole ≡ made ++ inverted_word xs →
    made ≡ whole
inverted_done whole made xs ex e =
    sym (e ∙ ap (λ z. made ++ inverted_word z) ex ∙ append-nil made)

-- ---- copies

pub repeated_push : (k : ℕ) (word : Word) → repeated_word k word ++ word ≡ word ++ repeated_word k word
repeated_push zero word = sym (append-nil word)
repeated_push (suc k) word =
    append_assoc word (repeated_word k word) word ∙ ap (λ z. word ++ z) (repeated_push k word)

pub repeated_done : (made word : Word) (k n : ℕ) → k ≡ n → made ≡ repeated_word k word →
    made ≡ repeated_word n word
repeated_done made word k n e at = at ∙ ap (λ z. repeated_word z word) e

pub repeated_more : (made word : Word) (k : ℕ) → made ≡ repeated_word k word →
    made ++ word ≡ repeated_word (k + 1) word
repeated_more made word k e =
    let one : k + 1 ≡ suc k = omega arith in
    rw one (ap (λ z. z ++ word) e ∙ repeated_push k word)
