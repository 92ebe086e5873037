-- What parts of words, words with replaced bits and repeated words spell.
use Rattle.std.proofs.Common.{◌≡◌, ℕ, zero, suc, ◌+◌, ◌*◌, ◌/◌, ◌%◌, ◌^◌, ◌<◌, ◌≤◌, Bool, true}
use Rattle.std.proofs.Common.{◌++◌, take, drop, length, refl, sym, ap, ap₂, ◌∙◌, arith}
use Rattle.std.proofs.Common.{length-take, length-drop}
use Rattle.std.proofs.Math.Nat.{mod-eq_of_lt}
use Rattle.sv_num.specs.Parts.{span_of, bits_between, replaced_bits, repeated}
use Rattle.sv_circuits.specs.Words.{Word, word_value, zero_filled, part_word, replaced_word}
use Rattle.sv_circuits.specs.Words.{repeated_word}
use Rattle.sv_circuits.specs.Circuits.{IsWord}
use Rattle.sv_circuits.proofs.Products.{take_is, joined_is}
use Rattle.sv_circuits.proofs.Comparisons.{drop_is}
use Rattle.sv_circuits.proofs.Lengths.{joined_length, width_filled}
use Rattle.sv_circuits.proofs.WordValues.{word_low, both_value, taken_value, dropped_value}
use Rattle.sv_circuits.proofs.WordValues.{zero_filled_is, zero_filled_value}

pub part_is : (n high low : ℕ) (word : Word) → 1 ≤ n → IsWord n word →
    IsWord n (part_word high low word)
part_is n high low word some is =
    zero_filled_is n (span_of high low) (drop low word) some (drop_is n low word is)

pub part_value : (values : ℕ → Bool) → values 1 ≡ true → (high low : ℕ) (word : Word) →
    word_value values (part_word high low word)
    ≡ bits_between high low (word_value values word)
part_value values e high low word =
    zero_filled_value values e (span_of high low) (drop low word)
    ∙ ap (λ v. v % 2 ^ span_of high low) (dropped_value values low word)

pub replaced_is : (n high low : ℕ) (word piece : Word) → 1 ≤ n → IsWord n word → IsWord n piece →
    IsWord n (replaced_word high low word piece)
replaced_is n high low word piece some is is_piece =
    joined_is n (take low word ++ zero_filled (span_of high low) piece) (drop (high + 1) word)
    (joined_is n (take low word) (zero_filled (span_of high low) piece) (take_is n low word is)
    (zero_filled_is n (span_of high low) piece some is_piece))
    (drop_is n (high + 1) word is)

pub replaced_length : (high low : ℕ) (word piece : Word) → low ≤ high → high < length word →
    length (replaced_word high low word piece) ≡ length word
replaced_length high low word piece order inside =
    let span = span_of high low in
    let front : length (take low word ++ zero_filled span piece) ≡ high + 1 =
    joined_length (take low word) (zero_filled span piece)
    ∙ ap₂ ◌+◌ (length-take low word) (width_filled _ span piece)
    ∙ omega (arith, order, inside) in
    joined_length (take low word ++ zero_filled span piece) (drop (high + 1) word)
    ∙ ap₂ ◌+◌ front (length-drop (high + 1) word)
    ∙ omega (arith, order, inside)

pub replaced_value : (values : ℕ → Bool) → values 1 ≡ true → (high low : ℕ) (word piece : Word) →
    low ≤ high → high < length word →
    word_value values (replaced_word high low word piece)
    ≡ replaced_bits (length word) high low (word_value values word) (word_value values piece)
replaced_value values e high low word piece order inside =
    let span = span_of high low in
    let v = word_value values word in
    let p = word_value values piece % 2 ^ span in
    let front : length (take low word) ≡ low = length-take low word ∙ omega (arith, order, inside) in
    let whole : v % 2 ^ length word ≡ v = mod-eq_of_lt (word_low values word) in
    let start : length (take low word ++ zero_filled span piece) ≡ high + 1 =
    joined_length (take low word) (zero_filled span piece)
    ∙ ap₂ ◌+◌ front (width_filled _ span piece) ∙ omega (arith, order) in
    let before : word_value values (take low word ++ zero_filled span piece)
    ≡ v % 2 ^ low + 2 ^ low * p =
    both_value values (take low word) (zero_filled span piece)
    ∙ ap₂ (λ a k. a + 2 ^ k * word_value values (zero_filled span piece))
    (taken_value values low word) front
    ∙ ap (λ b. v % 2 ^ low + 2 ^ low * b) (zero_filled_value values e span piece) in
    both_value values (take low word ++ zero_filled span piece) (drop (high + 1) word)
    ∙ ap₂ (λ a k. a + 2 ^ k * word_value values (drop (high + 1) word)) before start
    ∙ ap (λ t. v % 2 ^ low + 2 ^ low * p + 2 ^ (high + 1) * t) (dropped_value values (high + 1) word)
    ∙ omega arith
    ∙ ap (λ w. w / 2 ^ (high + 1) * 2 ^ (high + 1) + (p * 2 ^ low + v % 2 ^ low)) (sym whole)

pub repeated_is : (n count : ℕ) (word : Word) → IsWord n word → IsWord n (repeated_word count word)
repeated_is n zero word is = tt
repeated_is n (suc count) word is =
    joined_is n word (repeated_word count word) is (repeated_is n count word is)

pub repeated_length : (count : ℕ) (word : Word) →
    length (repeated_word count word) ≡ count * length word
repeated_length zero word = omega arith
repeated_length (suc count) word =
    joined_length word (repeated_word count word)
    ∙ ap (λ n. length word + n) (repeated_length count word) ∙ omega arith

pub repeated_value : (values : ℕ → Bool) (count : ℕ) (word : Word) →
    word_value values (repeated_word count word)
    ≡ repeated count (length word) (word_value values word)
repeated_value values zero word = refl
repeated_value values (suc count) word =
    both_value values word (repeated_word count word)
    ∙ ap (λ r. word_value values word + 2 ^ length word * r) (repeated_value values count word)
    ∙ omega arith
