-- The values of signals by the places of their bits, place by place.
use Rattle.std.proofs.Common.{◌≡◌, ℕ, suc, ◌+◌, ◌*◌, ◌^◌, ◌<◌, Bool, true, false, cond}
use Rattle.std.proofs.Common.{◌==◌, ◌&&◌, List, [], ◌∷◌, ◌++◌, map, length, max, refl, sym, ap, ◌∙◌}
use Rattle.std.proofs.Common.{subst, arith, get_or, take, length-take}
use Rattle.std.specs.Prelude.{◌≢◌, filter, sum, bit_or, All, AllPairs}
use Rattle.std.specs.Bool.{beq}
use Rattle.std.specs.Int.{bit_at}
use Rattle.std.proofs.lemmas.Bool.{false≢true, eqb-true}
use Rattle.std.proofs.lemmas.List.{length-map, get_or-map, get_or-take, take_more}
use Rattle.std.proofs.lemmas.List.Elements.{All-head, All-tail, All-weaker}
use Rattle.std.proofs.lemmas.List.Elements.{All-nil, All-cons}
use Rattle.std.proofs.lemmas.List.Sums.{sum_by-append}
use Rattle.std.proofs.Math.Pow.{pow-lt, ones_lt}
use Rattle.std.proofs.lemmas.Nat.{or_disjoint, or_lt}
use Rattle.std.proofs.lemmas.Nat.Bits.{and_pow, bit_at_or, bit_at-pow_other, bit_at-zero}
use Rattle.sv_num.specs.Vectors.{truth}
use Rattle.sv_encoding.specs.Encoding.{BitPlace}
use Rattle.sv_encoding.specs.BothWays.{AreOfOneBit}
use Rattle.sv_encoding.specs.Valuations.{place_value, is_place_of, placed_value}

-- ---- bits of a number

add_bit : (x c : ℕ) → bit_at x c ≡ 0 → bit_or x (2 ^ c) ≡ x + 2 ^ c
add_bit x c clear =
    or_disjoint x (2 ^ c) (and_pow x c ∙ ap (λ z. z * 2 ^ c) clear ∙ nothing (2 ^ c))
  where
    nothing : (n : ℕ) → 0 * n ≡ 0
    nothing n = omega arith

other_bit : (x c b : ℕ) → bit_at x c ≡ 0 → b ≢ c → bit_at (x + 2 ^ c) b ≡ bit_at x b
other_bit x c b clear apart =
    ap (λ z. bit_at z b) (sym (add_bit x c clear))
    ∙ bit_at_or x (2 ^ c) b
    ∙ ap (λ z. max (bit_at x b) z) (bit_at-pow_other c b apart)
    ∙ omega arith

-- ---- places

abbrev ApartAll : List BitPlace → Type 0
ApartAll places = AllPairs (λ a b. ¬ AreOfOneBit a b) places

-- the place is the one of this bit of the signal
abbrev pub IsOfBit : (next : Bool) → (s bit : ℕ) → BitPlace → Type 0
IsOfBit next s b place = (place.signal ≡ s) × (place.next ≡ next) × (place.bit ≡ b)

pub pairs_rest : {X : Type 0} (R : X → X → Type 0) (x : X) (xs : List X) → AllPairs R (x ∷ xs) →
    AllPairs R xs
pairs_rest R x xs pairs i j d less inside =
    pairs (suc i) (suc j) d (omega (arith, less)) (omega (arith, inside))

pub pairs_head : {X : Type 0} (R : X → X → Type 0) (x : X) (xs : List X) → AllPairs R (x ∷ xs) →
    All (R x) xs
pairs_head R x xs pairs k d inside =
    pairs 0 (suc k) d (omega arith) (omega (arith, inside))

pub beq_is : (a b : Bool) → beq a b ≡ true → a ≡ b
beq_is true true e = refl
beq_is true false e = absurd (false≢true e)
beq_is false true e = absurd (false≢true e)
beq_is false false e = refl

beq_same : (a : Bool) → beq a a ≡ true
beq_same true = refl
beq_same false = refl

both_first : (a b : Bool) → (a && b) ≡ true → a ≡ true
both_first true b e = refl
both_first false b e = absurd (false≢true e)

both_second : (a b : Bool) → (a && b) ≡ true → b ≡ true
both_second true b e = e
both_second false b e = absurd (false≢true e)

-- what a place is of
place_is : (next : Bool) (s : ℕ) (place : BitPlace) → is_place_of next s place ≡ true →
    (place.next ≡ next) × (place.signal ≡ s)
place_is next s place e = (
  beq_is place.next next (both_first (beq place.next next) (place.signal == s) e),
  eqb-true place.signal s (both_second (beq place.next next) (place.signal == s) e),
)

-- ---- one place more

-- what a place adds to the value of a signal
abbrev pub added_value : (values : ℕ → Bool) → (next : Bool) → (s : ℕ) → BitPlace → ℕ
added_value values next s place = cond (is_place_of next s place) (place_value values place) 0

sum_cons : (n : ℕ) (ns : List ℕ) → sum (n ∷ ns) ≡ n + sum ns
sum_cons n ns = sum_by-append (λ k. k) (n ∷ []) ns ∙ omega arith

placed_cons : (values : ℕ → Bool) (next : Bool) (s : ℕ) (place : BitPlace)
    (places : List BitPlace) →
    placed_value values (place ∷ places) next s
    ≡ added_value values next s place + placed_value values places next s
placed_cons values next s place places = by (is_place_of next s place)
  where
    rest : List BitPlace
    rest = filter (is_place_of next s) places

    by : (c : Bool) →
        sum (map (place_value values) (cond c (place ∷ rest) rest))
        ≡ cond c (place_value values place) 0 + sum (map (place_value values) rest)
    by true = sum_cons (place_value values place) (map (place_value values) rest)
    by false = omega arith

pub placed_push : (values : ℕ → Bool) (next : Bool) (s : ℕ) (places : List BitPlace)
    (place : BitPlace) →
    placed_value values (places ++ place ∷ []) next s
    ≡ placed_value values places next s + added_value values next s place
placed_push values next s [] place = placed_cons values next s place [] ∙ omega arith
placed_push values next s (first ∷ places) place =
    placed_cons values next s first (places ++ place ∷ [])
    ∙ omega (
      arith,
      placed_push values next s places place,
      placed_cons values next s first places,
    )

-- ---- bits without a place

-- what a place adds leaves every other bit alone
add_keeps : (values : ℕ → Bool) (next : Bool) (s b x : ℕ) (place : BitPlace) →
    (is_place_of next s place ≡ true → bit_at x place.bit ≡ 0) → (IsOfBit next s b place → ⊥) →
    bit_at x b ≡ 0 → bit_at (added_value values next s place + x) b ≡ 0
add_keeps values next s b x place clear other none =
    by (is_place_of next s place) (values place.variable) refl
  where
    turned : (n : ℕ) → 1 * n + x ≡ x + n
    turned n = omega arith

    nothing : (n : ℕ) → 0 + n ≡ n
    nothing n = omega arith

    no_bit : (n : ℕ) → 0 * n + x ≡ x
    no_bit n = omega arith

    by : (c v : Bool) → is_place_of next s place ≡ c →
        bit_at (cond c (truth v * 2 ^ place.bit) 0 + x) b ≡ 0
    by false v e = ap (λ z. bit_at z b) (nothing x) ∙ none
    by true false e = ap (λ z. bit_at z b) (no_bit (2 ^ place.bit)) ∙ none
    by true true e =
        let is = place_is next s place e in
        let apart : b ≢ place.bit = λ same. other (is.1, is.0, sym same) in
        ap (λ z. bit_at z b) (turned (2 ^ place.bit))
        ∙ other_bit x place.bit b (clear e) apart ∙ none

pub bit_clear : (values : ℕ → Bool) (next : Bool) (s : ℕ) (places : List BitPlace) →
    ApartAll places → (b : ℕ) → All (λ place. IsOfBit next s b place → ⊥) places →
    bit_at (placed_value values places next s) b ≡ 0
bit_clear values next s [] apart b none = bit_at-zero b
bit_clear values next s (place ∷ places) apart b none =
    let more = pairs_rest (λ p q. ¬ AreOfOneBit p q) place places apart in
    let first = pairs_head (λ p q. ¬ AreOfOneBit p q) place places apart in
    ap (λ z. bit_at z b) (placed_cons values next s place places)
    ∙ add_keeps values next s b (placed_value values places next s) place
    (λ is. let of = place_is next s place is in
    bit_clear values next s places more place.bit
    (All-weaker (λ q. ¬ AreOfOneBit place q) (λ q. IsOfBit next s place.bit q → ⊥)
    (λ q one same. one (of.1 ∙ sym same.0, of.0 ∙ sym same.1, sym same.2)) places first))
    (All-head (λ p. IsOfBit next s b p → ⊥) place places none)
    (bit_clear values next s places more b
    (All-tail (λ p. IsOfBit next s b p → ⊥) place places none))

-- ---- small values

add_small : (values : ℕ → Bool) (next : Bool) (s w x : ℕ) (place : BitPlace) →
    (is_place_of next s place ≡ true → bit_at x place.bit ≡ 0) →
    (place.signal ≡ s → place.bit < w) → x < 2 ^ w →
    added_value values next s place + x < 2 ^ w
add_small values next s w x place clear within low =
    by (is_place_of next s place) (values place.variable) refl
  where
    turned : (n : ℕ) → x + n ≡ 1 * n + x
    turned n = omega arith

    by : (c v : Bool) → is_place_of next s place ≡ c →
        cond c (truth v * 2 ^ place.bit) 0 + x < 2 ^ w
    by false v e = omega (arith, low)
    by true false e = omega (arith, low)
    by true true e =
        subst (λ z. z < 2 ^ w)
        (add_bit x place.bit (clear e) ∙ turned (2 ^ place.bit))
        (or_lt w x (2 ^ place.bit) low
        (pow-lt (within (place_is next s place e).1)))

pub placed_small : (values : ℕ → Bool) (next : Bool) (s w : ℕ) (places : List BitPlace) →
    ApartAll places → All (λ place. place.signal ≡ s → place.bit < w) places →
    placed_value values places next s < 2 ^ w
placed_small values next s w [] apart within = omega (arith, ones_lt w)
placed_small values next s w (place ∷ places) apart within =
    let more = pairs_rest (λ p q. ¬ AreOfOneBit p q) place places apart in
    let first = pairs_head (λ p q. ¬ AreOfOneBit p q) place places apart in
    subst (λ z. z < 2 ^ w) (sym (placed_cons values next s place places))
    (add_small values next s w (placed_value values places next s) place
    (λ is. let of = place_is next s place is in
    bit_clear values next s places more place.bit
    (All-weaker (λ q. ¬ AreOfOneBit place q) (λ q. IsOfBit next s place.bit q → ⊥)
    (λ q one same. one (of.1 ∙ sym same.0, of.0 ∙ sym same.1, sym same.2)) places first))
    (All-head (λ p. p.signal ≡ s → p.bit < w) place places within)
    (placed_small values next s w places more
    (All-tail (λ p. p.signal ≡ s → p.bit < w) place places within)))

-- ---- place by place

pub pairs_take : {X : Type 0} (R : X → X → Type 0) (n : ℕ) (xs : List X) → AllPairs R xs →
    AllPairs R (take n xs)
pairs_take R n xs pairs i j d less inside =
    let near = length-take n xs in
    let one : get_or (take n xs) i d ≡ get_or xs i d = get_or-take n xs i d (omega arith) in
    let other : get_or (take n xs) j d ≡ get_or xs j d = get_or-take n xs j d (omega arith) in
    rw (one, other) (pairs i j d less (omega arith))

last_of : {X : Type 0} (P : X → Type 0) (xs : List X) (y : X) → All P (xs ++ y ∷ []) → P y
last_of P [] y all = All-head P y [] all
last_of P (x ∷ xs) y all = last_of P xs y (All-tail P x (xs ++ y ∷ []) all)

pairs_last : {X : Type 0} (R : X → X → Type 0) (xs : List X) (y : X) → AllPairs R (xs ++ y ∷ []) →
    All (λ x. R x y) xs
pairs_last R [] y pairs = All-nil (λ x. R x y)
pairs_last R (x ∷ xs) y pairs =
    All-cons (λ z. R z y) x xs (last_of (R x) xs y (pairs_head R x (xs ++ y ∷ []) pairs))
    (pairs_last R xs y (pairs_rest R x (xs ++ y ∷ []) pairs))

-- the places up to one more of a list
pub place_more : {X : Type 0} (form : X → BitPlace) (bits : List X) (i : ℕ) (d : X) →
    i < length bits →
    take (i + 1) (map form bits) ≡ take i (map form bits) ++ form (get_or bits i d) ∷ []
place_more form bits i d inside =
    take_more (map form bits) i (form d) (omega (arith, length-map bits form, inside))
    ∙ ap (λ z. take i (map form bits) ++ z ∷ []) (get_or-map form bits i d (form d) inside)

-- a place whose bit is 1
pub set_place : (values : ℕ → Bool) (next : Bool) (s : ℕ) (done more : List BitPlace)
    (place : BitPlace) (old new : ℕ) → more ≡ done ++ place ∷ [] → ApartAll done →
    ApartAll more → old ≡ placed_value values done next s → place.next ≡ next →
    values place.variable ≡ true →
    new ≡ cond (place.signal == s) (bit_or old (2 ^ place.bit)) old →
    new ≡ placed_value values more next s
set_place values next s done more place old new em apart more_apart e frame on is =
    is ∙ by (place.signal == s) refl ∙ sym (placed_push values next s done place)
    ∙ ap (λ z. placed_value values z next s) (sym em)
  where
    added : (c : Bool) → (place.signal == s) ≡ c →
        added_value values next s place ≡ cond c (2 ^ place.bit) 0
    added c same =
        ap (λ z. cond (beq z next && (place.signal == s)) (place_value values place) 0) frame
        ∙ ap (λ z. cond (z && (place.signal == s)) (place_value values place) 0) (beq_same next)
        ∙ ap (λ z. cond z (place_value values place) 0) same
        ∙ ap (λ z. cond c (truth z * 2 ^ place.bit) 0) on
        ∙ once c (2 ^ place.bit)
      where
        once : (b : Bool) (n : ℕ) → cond b (1 * n) 0 ≡ cond b n 0
        once true n = omega arith
        once false n = refl

    last : All (λ q. ¬ AreOfOneBit q place) done
    last =
        pairs_last (λ p q. ¬ AreOfOneBit p q) done place
        (subst (λ z. ApartAll z) em more_apart)

    by : (c : Bool) → (place.signal == s) ≡ c →
        cond c (bit_or old (2 ^ place.bit)) old
        ≡ placed_value values done next s + added_value values next s place
    by false same = omega (arith, e, added false same)
    by true same =
        let of : place.signal ≡ s = eqb-true place.signal s same in
        let clear : bit_at (placed_value values done next s) place.bit ≡ 0 =
        bit_clear values next s done apart place.bit
        (All-weaker (λ q. ¬ AreOfOneBit q place) (λ q. IsOfBit next s place.bit q → ⊥)
        (λ q one at. one (at.0 ∙ sym of, at.1 ∙ sym frame, at.2)) done last) in
        let up = add_bit old place.bit (ap (λ z. bit_at z place.bit) e ∙ clear) in
        up ∙ omega (arith, e, added true same)

none_added : (values : ℕ → Bool) (next : Bool) (s : ℕ) (done more : List BitPlace)
    (place : BitPlace) (old : ℕ) → more ≡ done ++ place ∷ [] →
    old ≡ placed_value values done next s → added_value values next s place ≡ 0 →
    old ≡ placed_value values more next s
none_added values next s done more place old em e none =
    omega (arith, e, none, placed_push values next s done place)
    ∙ ap (λ z. placed_value values z next s) (sym em)

-- a place of the other cycle
pub skip_frame : (values : ℕ → Bool) (next : Bool) (s : ℕ) (done more : List BitPlace)
    (place : BitPlace) (old : ℕ) → more ≡ done ++ place ∷ [] →
    old ≡ placed_value values done next s → beq place.next next ≡ false →
    old ≡ placed_value values more next s
skip_frame values next s done more place old em e other =
    none_added values next s done more place old em e
    (ap (λ c. cond (c && (place.signal == s)) (place_value values place) 0) other)

-- a place whose bit is 0
pub skip_value : (values : ℕ → Bool) (next : Bool) (s : ℕ) (done more : List BitPlace)
    (place : BitPlace) (old : ℕ) → more ≡ done ++ place ∷ [] →
    old ≡ placed_value values done next s → values place.variable ≡ false →
    old ≡ placed_value values more next s
skip_value values next s done more place old em e off =
    none_added values next s done more place old em e
    (ap (λ z. cond (is_place_of next s place) (truth z * 2 ^ place.bit) 0) off
    ∙ nothing (is_place_of next s place) (2 ^ place.bit))
  where
    nothing : (c : Bool) (n : ℕ) → cond c (0 * n) 0 ≡ 0
    nothing true n = omega arith
    nothing false n = refl
