-- How many variables circuits take, by the lengths of their words.
use Rattle.std.proofs.Common.{◌≡◌, ℕ, zero, suc, ◌+◌, ◌-◌, ◌*◌, ◌/◌, ◌^◌, ◌≤◌, Bool, true, false}
use Rattle.std.proofs.Common.{ℤ, List, [], ◌∷◌, map, take, drop, replicate, length, refl, sym}
use Rattle.std.proofs.Common.{ap, ap₂, ◌∙◌, arith, length-take, length-drop}
use Rattle.std.specs.List.{zip}
use Rattle.std.specs.Prelude.{sum, ◌++◌}
use Rattle.std.proofs.lemmas.List.Sums.{sum_by-cons}
use Rattle.sv_gates.specs.Formulas.{Formula}
use Rattle.sv_gates.specs.Gates.{true_literal, false_literal, and_gate, or_gate, xor_gate, mux_gate}
use Rattle.sv_gates.specs.Gates.{fresh_variable}
use Rattle.sv_circuits.specs.Words.{Word, BitMaker, made_in_turn, bitwise_word, inverted_word}
use Rattle.sv_circuits.specs.Words.{negation, ready_bit, chain_from, chain, number_tests}
use Rattle.sv_circuits.specs.Words.{equals_number_bit, fresh_word}
use Rattle.sv_circuits.specs.Operators.{sum_word, add_bits, product_row, product_rows, total_from}
use Rattle.sv_circuits.specs.Operators.{product_word, less_from, ordered_word, less_bit}
use Rattle.sv_circuits.specs.Operators.{shifted_from, picked_from}
use Rattle.sv_circuits.proofs.Lengths.{inverted_length, joined_length, sum_length, each_length}
use Rattle.sv_circuits.proofs.Lengths.{per_bit_length, filled_length, zip_length}

-- over every formula a piece takes so many variables
abbrev pub Takes : ℕ → BitMaker → Type 0
Takes k make = (old : Formula) → (make old).0.variables ≡ old.variables + k

abbrev pub EachTakes : ℕ → List BitMaker → Type 0
EachTakes k [] = Unit {0}
EachTakes k (make ∷ makes) = Takes k make × EachTakes k makes

-- ---- sums

pub mapped_more : {X : Type 0} (f : X → ℕ) (x : X) (xs : List X) →
    sum (map f (x ∷ xs)) ≡ f x + sum (map f xs)
mapped_more f x xs = sum_by-cons (λ n. n) (f x) (map f xs)

pub mapped_join : {X : Type 0} (f : X → ℕ) (xs ys : List X) →
    sum (map f (xs ++ ys)) ≡ sum (map f xs) + sum (map f ys)
mapped_join f [] ys = omega arith
mapped_join f (x ∷ xs) ys =
    mapped_more f x (xs ++ ys) ∙ omega (arith, mapped_more f x xs, mapped_join f xs ys)

-- ---- gates

pub and_count : (a b : ℤ) → Takes 1 (and_gate a b)
and_count a b old = omega arith

pub or_count : (a b : ℤ) → Takes 1 (or_gate a b)
or_count a b old = omega arith

pub xor_count : (a b : ℤ) → Takes 1 (xor_gate a b)
xor_count a b old = omega arith

pub mux_count : (c a b : ℤ) → Takes 1 (mux_gate c a b)
mux_count c a b old = omega arith

pub fresh_count : Takes 1 fresh_variable
fresh_count old = omega arith

-- ---- rows

times_more : (k n : ℕ) → k * suc n ≡ k + k * n
times_more k n = grind arith

pub in_turn_count : (k : ℕ) (makes : List BitMaker) → EachTakes k makes → (old : Formula) →
    (made_in_turn makes old).0.variables ≡ old.variables + k * length makes
in_turn_count k [] each old = omega arith
in_turn_count k (make ∷ makes) each old =
    in_turn_count k makes each.1 (make old).0
    ∙ omega (arith, each.0 old, times_more k (length makes))

zip_takes : (gate : ℤ → ℤ → BitMaker) → ((a b : ℤ) → Takes 1 (gate a b)) → (a b : Word) →
    EachTakes 1 (map (λ (bits : ℤ × ℤ). gate bits.0 bits.1) (zip a b))
zip_takes gate one [] b = tt
zip_takes gate one (x ∷ a) [] = tt
zip_takes gate one (x ∷ a) (y ∷ b) = (one x y, zip_takes gate one a b)

pub bitwise_count : (gate : ℤ → ℤ → BitMaker) → ((a b : ℤ) → Takes 1 (gate a b)) → (a b : Word) →
    (old : Formula) → length a ≡ length b →
    (bitwise_word gate a b old).0.variables ≡ old.variables + length a
bitwise_count gate one a b old e =
    in_turn_count 1 (map (λ (bits : ℤ × ℤ). gate bits.0 bits.1) (zip a b)) (zip_takes gate one a b) old
    ∙ omega (arith, zip_length gate a b e)

fresh_takes : (n : ℕ) → EachTakes 1 (replicate n fresh_variable)
fresh_takes zero = tt
fresh_takes (suc n) = (fresh_count, fresh_takes n)

makers_length : (n : ℕ) → length (replicate n fresh_variable) ≡ n
makers_length zero = refl
makers_length (suc n) = ap suc (makers_length n)

pub fresh_word_count : (n : ℕ) (old : Formula) →
    (fresh_word n old).0.variables ≡ old.variables + n
fresh_word_count n old =
    in_turn_count 1 (replicate n fresh_variable) (fresh_takes n) old
    ∙ omega (arith, makers_length n)

-- ---- chains

chain_from_count : (gate : ℤ → ℤ → BitMaker) → ((a b : ℤ) → Takes 1 (gate a b)) → (k : ℕ) →
    (makes : List BitMaker) → EachTakes k makes → (before : ℤ) (old : Formula) →
    (chain_from gate before makes old).0.variables ≡ old.variables + (k * length makes + length makes)
chain_from_count gate one k [] each before old = omega arith
chain_from_count gate one k (make ∷ makes) each before old =
    let first = make old in
    let joined = gate before first.1 first.0 in
    chain_from_count gate one k makes each.1 joined.1 joined.0
    ∙ omega (arith, each.0 old, one before first.1 first.0, times_more k (length makes))

pub chain_count : (gate : ℤ → ℤ → BitMaker) → ((a b : ℤ) → Takes 1 (gate a b)) → (k : ℕ) →
    (makes : List BitMaker) → EachTakes k makes → (none : ℤ) (old : Formula) →
    (chain gate none makes old).0.variables ≡ old.variables + (k * length makes + (length makes - 1))
chain_count gate one k [] each none old = omega arith
chain_count gate one k (make ∷ makes) each none old =
    let first = make old in
    chain_from_count gate one k makes each.1 first.1 first.0
    ∙ omega (arith, each.0 old, times_more k (length makes))

pub ready_takes : (word : Word) → EachTakes 0 (map ready_bit word)
ready_takes [] = tt
ready_takes (l ∷ word) = (λ old. omega arith, ready_takes word)

ready_length : (word : Word) → length (map ready_bit word) ≡ length word
ready_length [] = refl
ready_length (l ∷ word) = ap suc (ready_length word)

-- a chain of the bits of a word
pub ready_chain_count : (gate : ℤ → ℤ → BitMaker) → ((a b : ℤ) → Takes 1 (gate a b)) →
    (word : Word) (none : ℤ) (old : Formula) →
    (chain gate none (map ready_bit word) old).0.variables ≡ old.variables + (length word - 1)
ready_chain_count gate one word none old =
    chain_count gate one 0 (map ready_bit word) (ready_takes word) none old
    ∙ omega (arith, ready_length word)

tests_take : (word : Word) (n : ℕ) → EachTakes 0 (number_tests word n)
tests_take [] n = tt
tests_take (l ∷ word) n = (λ old. omega arith, tests_take word _)

tests_length : (word : Word) (n : ℕ) → length (number_tests word n) ≡ length word
tests_length [] n = refl
tests_length (l ∷ word) n = ap suc (tests_length word _)

pub test_count : (word : Word) (n : ℕ) → Takes (length word - 1) (equals_number_bit word n)
test_count word n old =
    chain_count and_gate and_count 0 (number_tests word n) (tests_take word n) true_literal old
    ∙ omega (arith, tests_length word n)

pub equal_count : (a b : Word) (old : Formula) → length a ≡ length b →
    (chain and_gate true_literal
    (map (λ (bits : ℤ × ℤ). negation (xor_gate bits.0 bits.1)) (zip a b)) old).0.variables
    ≡ old.variables + (length a + (length a - 1))
equal_count a b old e =
    chain_count and_gate and_count 1
    (map (λ (bits : ℤ × ℤ). negation (xor_gate bits.0 bits.1)) (zip a b))
    (zip_takes (λ x y. negation (xor_gate x y)) xor_count a b) true_literal old
    ∙ omega (arith, zip_length (λ x y. negation (xor_gate x y)) a b e)

-- ---- sums

add_bits_count : (a b carry : ℤ) (old : Formula) →
    (add_bits a b carry old).0.variables ≡ old.variables + 5
add_bits_count a b carry old = omega arith

pub sum_count : (a b : Word) (carry : ℤ) (old : Formula) → length a ≡ length b →
    (sum_word a b carry old).0.variables ≡ old.variables + 5 * length a
sum_count [] b carry old e = omega arith
sum_count (x ∷ a) [] carry old e = absurd (omega (arith, e))
sum_count (x ∷ a) (y ∷ b) carry old e =
    let bits = add_bits x y carry old in
    sum_count a b bits.1.1 bits.0 (omega (arith, e))
    ∙ omega (arith, add_bits_count x y carry old)

-- ---- products

ands_length : (a : Word) (b : ℤ) → length (map (λ x. and_gate x b) a) ≡ length a
ands_length [] b = refl
ands_length (x ∷ a) b = ap suc (ands_length a b)

ands_take : (a : Word) (b : ℤ) → EachTakes 1 (map (λ x. and_gate x b) a)
ands_take [] b = tt
ands_take (x ∷ a) b = (and_count x b, ands_take a b)

low_length : (a : Word) (i : ℕ) (b : ℤ) → length (map (λ x. and_gate x b) (take (length a - i) a)) ≡ length a - i
low_length a i b =
    ands_length (take (length a - i) a) b ∙ length-take (length a - i) a ∙ omega arith

row_count : (a : Word) (i : ℕ) (b : ℤ) (old : Formula) →
    (product_row a i b old).0.variables ≡ old.variables + (length a - i)
row_count a i b old =
    in_turn_count 1 (map (λ x. and_gate x b) (take (length a - i) a))
    (ands_take (take (length a - i) a) b) old
    ∙ omega (arith, low_length a i b)

row_size : (a : Word) (i : ℕ) (b : ℤ) (old : Formula) → i ≤ length a →
    length (product_row a i b old).1 ≡ length a
row_size a i b old h =
    let makes = map (λ x. and_gate x b) (take (length a - i) a) in
    joined_length (replicate i false_literal) (made_in_turn makes old).1
    ∙ ap₂ ◌+◌ (filled_length i false_literal) (each_length makes old ∙ low_length a i b)
    ∙ omega (arith, h)

-- 1 and 2 and so on up to n
triangle : ℕ → ℕ
triangle zero = 0
triangle (suc n) = suc n + triangle n

twice_triangle : (n : ℕ) → 2 * triangle n ≡ n * (n + 1)
unfolding triangle
twice_triangle zero = refl
twice_triangle (suc n) = grind (arith, twice_triangle n)

triangle_is : (n : ℕ) → n * (n + 1) / 2 ≡ triangle n
triangle_is n = omega (arith, twice_triangle n)

rows_count : (a : Word) (i : ℕ) (b : Word) (old : Formula) → i + length b ≡ length a →
    (product_rows a i b old).0.variables ≡ old.variables + triangle (length b)
unfolding triangle
rows_count a i [] old h = omega arith
rows_count a i (b ∷ bs) old h =
    rows_count a (suc i) bs (product_row a i b old).0 (omega (arith, h))
    ∙ omega (arith, row_count a i b old, h)

rows_length : (a : Word) (i : ℕ) (b : Word) (old : Formula) →
    length (product_rows a i b old).1 ≡ length b
rows_length a i [] old = refl
rows_length a i (b ∷ bs) old = ap suc (rows_length a (suc i) bs (product_row a i b old).0)

-- words of one length
AreWide : ℕ → List Word → Type 0
AreWide n [] = Unit {0}
AreWide n (word ∷ words) = (length word ≡ n) × AreWide n words

rows_wide : (a : Word) (i : ℕ) (b : Word) (old : Formula) → i + length b ≤ length a →
    AreWide (length a) (product_rows a i b old).1
unfolding AreWide
rows_wide a i [] old h = tt
rows_wide a i (b ∷ bs) old h = (
  row_size a i b old (omega (arith, h)),
  rows_wide a (suc i) bs (product_row a i b old).0 (omega (arith, h)),
)

more_times : (n w : ℕ) → suc n * (5 * w) ≡ 5 * w + n * (5 * w)
more_times n w = grind arith

total_from_count : (n : ℕ) (total : Word) (rows : List Word) (old : Formula) → length total ≡ n →
    AreWide n rows → (total_from total rows old).0.variables ≡ old.variables + length rows * (5 * n)
unfolding AreWide
total_from_count n total [] old e have = omega arith
total_from_count n total (row ∷ rows) old e have =
    let made = sum_word total row false_literal old in
    total_from_count n made.1 rows made.0
    (sum_length total row false_literal old (e ∙ sym have.0) ∙ e) have.1
    ∙ omega (
      arith,
      sum_count total row false_literal old (e ∙ sym have.0),
      e,
      more_times (length rows) n,
    )

pub product_count : (a b : Word) (old : Formula) → length a ≡ length b →
    (product_word a b old).0.variables
    ≡ old.variables + (length a * (length a + 1) / 2 + (length a - 1) * (5 * length a))
unfolding AreWide triangle
product_count [] [] old e = omega arith
product_count [] (y ∷ b) old e = absurd (omega (arith, e))
product_count (x ∷ a) [] old e = absurd (omega (arith, e))
product_count (x ∷ a) (y ∷ b) old e =
    let word = x ∷ a in
    let first = product_row word 0 y old in
    let rest = product_rows word 1 b first.0 in
    let wide = rows_wide word 0 (y ∷ b) old (omega (arith, e)) in
    let made = total_from_count (length word) first.1 rest.1 rest.0 wide.0 wide.1 in
    let many : length rest.1 ≡ length word - 1 =
    rows_length word 1 b first.0 ∙ omega (arith, e) in
    let gates : rest.0.variables ≡ old.variables + triangle (length word) =
    rows_count word 0 (y ∷ b) old (omega (arith, e))
    ∙ ap (λ n. old.variables + triangle n) (sym e) in
    made ∙ ap₂ (λ v n. v + n * (5 * length word)) gates many
    ∙ omega (arith, triangle_is (length word))

-- ---- comparisons

less_from_count : (a b : Word) (less : ℤ) (old : Formula) → length a ≡ length b →
    (less_from a b less old).0.variables ≡ old.variables + 2 * length a
less_from_count [] b less old e = omega arith
less_from_count (x ∷ a) [] less old e = absurd (omega (arith, e))
less_from_count (x ∷ a) (y ∷ b) less old e =
    let differ = xor_gate x y old in
    let next = mux_gate differ.1 y less differ.0 in
    less_from_count a b next.1 next.0 (omega (arith, e)) ∙ omega arith

ordered_length : (signed : Bool) (word : Word) → length (ordered_word signed word) ≡ length word
ordered_length true word =
    let k = length word - 1 in
    joined_length (take k word) (inverted_word (drop k word))
    ∙ ap₂ ◌+◌ (length-take k word) (inverted_length (drop k word) ∙ length-drop k word)
    ∙ omega arith
ordered_length false word = refl

pub less_count : (signed : Bool) (a b : Word) (old : Formula) → length a ≡ length b →
    (less_bit signed a b old).0.variables ≡ old.variables + 2 * length a
less_count signed a b old e =
    less_from_count (ordered_word signed a) (ordered_word signed b) false_literal old
    (ordered_length signed a ∙ e ∙ sym (ordered_length signed b))
    ∙ omega (arith, ordered_length signed a)

-- ---- shifts

pub shifted_count : (move : ℕ → Word → Word) →
    ((by : ℕ) (word : Word) → length (move by word) ≡ length word) →
    (i : ℕ) (amount word : Word) (old : Formula) →
    (shifted_from move i amount word old).0.variables
    ≡ old.variables + length word * length amount
shifted_count move keeps i [] word old = omega arith
shifted_count move keeps i (c ∷ cs) word old =
    let made = bitwise_word (mux_gate c) (move (2 ^ i) word) word old in
    let same : length made.1 ≡ length word =
    per_bit_length (mux_gate c) (move (2 ^ i) word) word old (keeps (2 ^ i) word)
    ∙ keeps (2 ^ i) word in
    shifted_count move keeps (suc i) cs made.1 made.0
    ∙ ap (λ n. made.0.variables + n * length cs) same
    ∙ omega (
      arith,
      bitwise_count (mux_gate c) (mux_count c) (move (2 ^ i) word) word old
          (keeps (2 ^ i) word),
      keeps (2 ^ i) word,
      times_more (length word) (length cs),
    )

-- ---- bits by an index

more_picks : (n k : ℕ) → suc n * (k + 1) ≡ (k + 1) + n * (k + 1)
more_picks n k = grind arith

pub picked_count : (index : Word) (r : ℤ) (j : ℕ) (bits : Word) (old : Formula) →
    (picked_from index r j bits old).0.variables
    ≡ old.variables + length bits * (length index - 1 + 1)
picked_count index r j [] old = omega arith
picked_count index r j (bit ∷ bits) old =
    let equal = equals_number_bit index j old in
    let next = mux_gate equal.1 bit r equal.0 in
    picked_count index next.1 (suc j) bits next.0
    ∙ omega (arith, test_count index j old, more_picks (length bits) (length index - 1))
