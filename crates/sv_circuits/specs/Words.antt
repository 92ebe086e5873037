-- Words: the literals of a value's bits, that of bit 0 first; and pieces of an encoding that are
-- made one after the other.
use Rattle.std.specs.Prelude.{ℕ, zero, suc, ◌+◌, ◌-◌, ◌*◌, ◌/◌, ◌%◌, Bool, ◌==◌, if◌then◌else◌, ℤ}
use Rattle.std.specs.Prelude.{neg_ℤ}
use Rattle.std.specs.Prelude.{List, [], ◌∷◌, ◌++◌, length, map, take, drop, replicate}
use Rattle.std.specs.Prelude.{slice_index_or}
use Rattle.std.specs.List.{zip}
use Rattle.sv_num.specs.Parts.{span_of}
use Rattle.sv_num.specs.Vectors.{truth}
use Rattle.sv_clause.specs.Literals.{literal_true}
use Rattle.sv_gates.specs.Formulas.{Formula}
use Rattle.sv_gates.specs.Gates.{true_literal, false_literal, and_gate, or_gate, xor_gate}
use Rattle.sv_gates.specs.Gates.{fresh_variable}

-- literals from bit 0
abbrev pub Word : Type 0
Word = List ℤ

-- the value that a word spells: bit 0 counts 1, and each next bit twice as much
abbrev pub word_value : (values : ℕ → Bool) → Word → ℕ
word_value values [] = 0
word_value values (literal ∷ word) =
    truth (literal_true values literal) + 2 * word_value values word

-- ---- words without gates

-- the literal of a number's lowest bit
abbrev pub low_literal : (n : ℕ) → ℤ
low_literal n = if n % 2 == 1 then true_literal else false_literal

-- a number at some width
abbrev pub number_word : (width n : ℕ) → Word
number_word zero n = []
number_word (suc width) n = low_literal n ∷ number_word width (n / 2)

-- a bit of a word, and false where there is none
abbrev pub literal_at : Word → ℕ → ℤ
literal_at word b = slice_index_or word b false_literal

-- the literal of the highest bit
abbrev pub top_literal : Word → ℤ
top_literal word = literal_at word (length word - 1)

-- a word at another length: cut, or with this literal as each new bit
abbrev pub filled_word : (fill : ℤ) → (width : ℕ) → Word → Word
filled_word fill width word = take width (word ++ replicate width fill)

-- with false as each new bit
abbrev pub zero_filled : (width : ℕ) → Word → Word
zero_filled width word = filled_word false_literal width word

-- with the highest bit as each new one where the type is signed, else with false (IEEE 1364-2005,
-- clause 5.5.2)
abbrev pub extended_word : (signed : Bool) → (width : ℕ) → Word → Word
extended_word signed width word =
    filled_word (if signed then top_literal word else false_literal) width word

-- the bits from `high` down to `low` (clause 5.2.1)
abbrev pub part_word : (high low : ℕ) → Word → Word
part_word high low word = zero_filled (span_of high low) (drop low word)

-- a word in which the bits from `high` down to `low` are the low bits of a piece
abbrev pub replaced_word : (high low : ℕ) → (word piece : Word) → Word
replaced_word high low word piece =
    take low word ++ zero_filled (span_of high low) piece ++ drop (high + 1) word

-- a word written so many times (clause 5.1.14)
abbrev pub repeated_word : (count : ℕ) → Word → Word
repeated_word zero word = []
repeated_word (suc count) word = word ++ repeated_word count word

-- each bit negated
abbrev pub inverted_word : Word → Word
inverted_word word = map neg_ℤ word

-- ---- pieces of an encoding

-- a piece that makes a literal, and one that makes a word
abbrev pub BitMaker : Type 0
BitMaker = Formula → Formula × ℤ

abbrev pub WordMaker : Type 0
WordMaker = Formula → Formula × Word

-- a literal that is there already
abbrev pub ready_bit : ℤ → BitMaker
ready_bit literal formula = (formula, literal)

-- the negation of what is made
abbrev pub negation : BitMaker → BitMaker
negation make formula = let (formula, literal) = make formula in (formula, neg_ℤ literal)

-- a word of what is made, one bit after the other from bit 0
abbrev pub made_in_turn : List BitMaker → WordMaker
made_in_turn [] formula = (formula, [])
made_in_turn (make ∷ makes) formula =
    let (formula, literal) = make formula in
    let (formula, word) = made_in_turn makes formula in
    (formula, literal ∷ word)

-- one gate for each bit of two words, from bit 0
abbrev pub bitwise_word : (ℤ → ℤ → BitMaker) → (a b : Word) → WordMaker
bitwise_word gate a b formula = made_in_turn (map (λ bits. gate bits.0 bits.1) (zip a b)) formula

-- so many new variables, from bit 0
abbrev pub fresh_word : (width : ℕ) → WordMaker
fresh_word width formula = made_in_turn (replicate width fresh_variable) formula

-- ---- chains

-- what is before a member is joined to it; each member is made right before the gate that joins it
abbrev pub chain_from : (ℤ → ℤ → BitMaker) → (before : ℤ) → List BitMaker → BitMaker
chain_from gate before [] formula = (formula, before)
chain_from gate before (make ∷ makes) formula =
    let (formula, literal) = make formula in
    let (formula, joined) = gate before literal formula in
    chain_from gate joined makes formula

-- a chain starts with its first member and takes no gate for it; one literal stands for a chain
-- without members
abbrev pub chain : (ℤ → ℤ → BitMaker) → (none : ℤ) → List BitMaker → BitMaker
chain gate none [] formula = (formula, none)
chain gate none (make ∷ makes) formula =
    let (formula, first) = make formula in
    chain_from gate first makes formula

abbrev pub and_chain : List BitMaker → BitMaker
and_chain makes formula = chain and_gate true_literal makes formula

abbrev pub or_chain : List BitMaker → BitMaker
or_chain makes formula = chain or_gate false_literal makes formula

abbrev pub xor_chain : List BitMaker → BitMaker
xor_chain makes formula = chain xor_gate false_literal makes formula

-- ---- tests

-- a word is not 0: the OR chain of its bits
abbrev pub not_zero_bit : Word → BitMaker
not_zero_bit word formula = or_chain (map ready_bit word) formula

-- two words are equal: the AND chain of the negated XOR of their bits
abbrev pub equal_bit : (a b : Word) → BitMaker
equal_bit a b formula =
    and_chain (map (λ bits. negation (xor_gate bits.0 bits.1)) (zip a b)) formula

-- for each bit of a word from bit 0 whether it is that of a number: the bit, negated where the
-- number has 0
abbrev pub number_tests : Word → (n : ℕ) → List BitMaker
number_tests [] n = []
number_tests (literal ∷ word) n =
    ready_bit (if n % 2 == 1 then literal else neg_ℤ literal) ∷ number_tests word (n / 2)

-- a word is a number: the AND chain of these
abbrev pub equals_number_bit : Word → (n : ℕ) → BitMaker
equals_number_bit word n formula = and_chain (number_tests word n) formula
