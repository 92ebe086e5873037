-- Words as loops make them, literal by literal.
use Rattle.std.proofs.Common.{◌≡◌, ℕ, ◌≤◌, ℤ, [], ◌∷◌, ◌++◌, length, refl, subst, arith}
use Rattle.std.proofs.Common.{◌⊎◌, ⊎_elim, inl, inr, List}
use Rattle.std.specs.Prelude.{neg_ℤ, replicate}
use Rattle.std.proofs.Common.{zero, suc, ◌+◌, ◌-◌, ◌<◌, min, take, drop, map, ap, sym, ◌∙◌, get_or}
use Rattle.std.proofs.lemmas.List.{drop_more, append_assoc}
use Rattle.std.proofs.lemmas.Int.{ints}
use Rattle.sv_circuits.specs.Words.{literal_at}
use Rattle.sv_circuits.specs.Operators.{sign_fill, ordered_word}
use Rattle.sv_gates.specs.Gates.{false_literal}
use Rattle.std.proofs.Common.{Bool, true, false, if◌then◌else◌}
use Rattle.sv_gates.specs.Formulas.{Formula, IsLiteral}
use Rattle.sv_circuits.specs.Words.{Word}
use Rattle.sv_circuits.specs.Circuits.{IsWord}

-- what is made, behind a front that is in hand
abbrev pub onto : Word → Formula × Word → Formula × Word
onto front made = (made.0, front ++ made.1)

-- what is made with one more in front, behind what is in hand, is made behind both
pub step_behind : {X Y : Type 0} (front : List X) (item : Y → X) (rest : Formula → Formula × List X)
    (made : Formula × Y) (later : Formula) (y : Y) → made ≡ (later, y) →
    ◌≡◌ {A = Formula × List X} ((rest made.0).0, front ++ item made.1 ∷ (rest made.0).1)
    ((rest later).0, (front ++ item y ∷ []) ++ (rest later).1)
step_behind {X} {Y} front item rest made later y e =
    ap (λ (z : Formula × Y). ((rest z.0).0, front ++ item z.1 ∷ (rest z.0).1)) e
    ∙ ap (λ z. ((rest later).0, z)) (sym (append_assoc front (item y ∷ []) (rest later).1))

pub literal_up : (m n : ℕ) (l : ℤ) → m ≤ n → IsLiteral m l → IsLiteral n l
literal_up m n l h is = (is.0, omega (arith, is.1))

pub word_up : (m n : ℕ) (word : Word) → m ≤ n → IsWord m word → IsWord n word
word_up m n [] h is = tt
word_up m n (l ∷ word) h is = (literal_up m n l h is.0, word_up m n word h is.1)

pub word_push : (n : ℕ) (word : Word) (l : ℤ) → IsWord n word → IsLiteral n l →
    IsWord n (word ++ l ∷ [])
word_push n [] l is last = (last, tt)
word_push n (first ∷ word) l is last = (is.0, word_push n word l is.1 last)

pub word_join : (n : ℕ) (a b : Word) → IsWord n a → IsWord n b → IsWord n (a ++ b)
word_join n [] b is more = more
word_join n (first ∷ a) b is more = (is.0, word_join n a b is.1 more)

-- the first literal of what is left, and the rest
pub word_first : (n : ℕ) {word more : Word} {l : ℤ} → IsWord n word → word ≡ l ∷ more → IsLiteral n l
word_first n is e = (subst (IsWord n) e is).0

pub word_rest : (n : ℕ) {word more : Word} {l : ℤ} → IsWord n word → word ≡ l ∷ more → IsWord n more
word_rest n is e = (subst (IsWord n) e is).1

-- what is left of a word at the turn that takes this literal
pub turn_of : (word : Word) (i : ℕ) (l : ℤ) → i < length word → l ≡ get_or word i l →
    drop i word ≡ l ∷ drop (i + 1) word
turn_of word i l h e = drop_more word i l h ∙ ap (λ z. z ∷ drop (i + 1) word) (sym e)

pub none_left : (word : Word) → length word ≡ 0 → word ≡ []
none_left [] e = refl
none_left (l ∷ word) e = absurd (cc)

-- a zip of two words ends where one of them has no literal left
pub zip_ends : {S T : Type 0} {P : S → Type 0} {Q : T → Type 0} (first second : Word) →
    ((x : S) × ((length first ≡ 0) × P x)) ⊎ ((x : T) × ((length second ≡ 0) × Q x)) →
    (first ≡ []) ⊎ (second ≡ [])
zip_ends first second h =
    ⊎_elim (λ p. inl (none_left first (p.1).0)) (λ p. inr (none_left second (p.1).0)) h

pub word_take : (n k : ℕ) (word : Word) → IsWord n word → IsWord n (take k word)
word_take n zero [] is = tt
word_take n (suc k) [] is = tt
word_take n zero (l ∷ word) is = tt
word_take n (suc k) (l ∷ word) is = (is.0, word_take n k word is.1)

pub word_drop : (n k : ℕ) (word : Word) → IsWord n word → IsWord n (drop k word)
word_drop n zero [] is = tt
word_drop n (suc k) [] is = tt
word_drop n zero (l ∷ word) is = is
word_drop n (suc k) (l ∷ word) is = word_drop n k word is.1

pub word_same : (n k : ℕ) (l : ℤ) → IsLiteral n l → IsWord n (replicate k l)
word_same n zero l is = tt
word_same n (suc k) l is = (is, word_same n k l is)

pub same_push : (k : ℕ) (l : ℤ) → replicate k l ++ l ∷ [] ≡ replicate (suc k) l
same_push zero l = refl
same_push (suc k) l = ap (λ z. l ∷ z) (same_push k l)

pub cut_same : (k n : ℕ) (l : ℤ) → k ≤ n → take k (replicate n l) ≡ replicate k l
cut_same zero n l h = refl
cut_same (suc k) zero l h = absurd (omega arith)
cut_same (suc k) (suc n) l h = ap (λ z. l ∷ z) (cut_same k n l (omega arith))

pub negated_within : (n : ℕ) (l : ℤ) → IsLiteral n l → IsLiteral n (neg_ℤ l)
negated_within n l is = grind (arith, ints)

pub inverted_within : (n : ℕ) (word : Word) → IsWord n word → IsWord n (map neg_ℤ word)
inverted_within n [] is = tt
inverted_within n (l ∷ word) is = (negated_within n l is.0, inverted_within n word is.1)

pub ordered_within : (n : ℕ) (signed : Bool) (word : Word) → IsWord n word →
    IsWord n (ordered_word signed word)
ordered_within n true word is =
    let k = length word - 1 in
    word_join n (take k word) (map neg_ℤ (drop k word)) (word_take n k word is)
    (inverted_within n (drop k word) (word_drop n k word is))
ordered_within n false word is = is

pub test_within : (n : ℕ) (test : Bool) (l : ℤ) → IsLiteral n l →
    IsLiteral n (if test then l else neg_ℤ l)
test_within n true l is = is
test_within n false l is = negated_within n l is

-- a word at another length, as it is made: what is kept, and then what is new
pub filled_at : (fill : ℤ) (width n kept new : ℕ) (word : Word) → kept ≡ min (length word) width →
    new ≡ width - kept → width ≤ n →
    take kept word ++ replicate new fill ≡ take width (word ++ replicate n fill)
filled_at fill width n kept new [] ek en h =
    let none : kept ≡ 0 = omega arith in
    let all : new ≡ width = omega arith in
    rw (none, all) (sym (cut_same width n fill h))
filled_at fill zero n kept new (l ∷ word) ek en h =
    let none : kept ≡ 0 = omega arith in
    let some : new ≡ 0 = omega arith in
    rw (none, some) refl
filled_at fill (suc width) n zero new (l ∷ word) ek en h = absurd (omega arith)
filled_at fill (suc width) n (suc kept) new (l ∷ word) ek en h =
    ap (λ z. l ∷ z) (filled_at fill width n kept new word (omega arith) (omega arith) (omega arith))

pub at_within : (n k : ℕ) (word : Word) → IsWord n word → IsLiteral n false_literal →
    IsLiteral n (literal_at word k)
at_within n zero [] is none = none
at_within n (suc k) [] is none = none
at_within n zero (l ∷ word) is none = is.0
at_within n (suc k) (l ∷ word) is none = at_within n k word is.1 none

pub fill_within : (n : ℕ) (signed : Bool) (word : Word) → IsWord n word →
    IsLiteral n false_literal → IsLiteral n (sign_fill signed word)
fill_within n true word is none = at_within n (length word - 1) word is none
fill_within n false word is none = none
