-- The word of each operator (IEEE 1364-2005, clause 5), from the words of its operands. All gates
-- are made, those with constant literals too, and in the order in which they stand here.
use Rattle.std.specs.Prelude.{ℕ, suc, ◌-◌, ◌^◌, min, Bool, if◌then◌else◌, ℤ}
use Rattle.std.specs.Prelude.{List, [], ◌∷◌, ◌++◌, length, map, take, drop, replicate}
use Rattle.sv_num.specs.declared.operators.UnOp.{UnOp}
use Rattle.sv_num.specs.declared.operators.UnOp.TheVariants.{Plus, Minus, LogicNot, Invert}
use Rattle.sv_num.specs.declared.operators.UnOp.TheVariants.{And as AllOf, Nand, Or as SomeOf, Nor}
use Rattle.sv_num.specs.declared.operators.UnOp.TheVariants.{Xor as OddOf, Xnor as EvenOf}
use Rattle.sv_num.specs.declared.operators.BinOp.{BinOp}
use Rattle.sv_num.specs.declared.operators.BinOp.TheVariants.{Mul, Div, Rem, Add, Sub, Shl, Shr}
use Rattle.sv_num.specs.declared.operators.BinOp.TheVariants.{SignShl, SignShr, Lt, Le, Gt, Ge, Eq}
use Rattle.sv_num.specs.declared.operators.BinOp.TheVariants.{Ne, And, Xor, Xnor, Or, LogicAnd}
use Rattle.sv_num.specs.declared.operators.BinOp.TheVariants.{LogicOr}
use Rattle.sv_gates.specs.Formulas.{Formula}
use Rattle.sv_gates.specs.Gates.{true_literal, false_literal, and_gate, or_gate, xor_gate, mux_gate}
use Rattle.sv_circuits.specs.Words.{Word, BitMaker, WordMaker, ready_bit, negation, bitwise_word}
use Rattle.sv_circuits.specs.Words.{made_in_turn, and_chain, or_chain, xor_chain, not_zero_bit}
use Rattle.sv_circuits.specs.Words.{equal_bit, inverted_word, top_literal, equals_number_bit}

-- one bit as a word
abbrev pub one_bit : BitMaker → WordMaker
one_bit make formula = let (formula, literal) = make formula in (formula, literal ∷ [])

-- ---- sums (clause 5.1.5)

-- a full adder: the bit of the sum, and the next carry
abbrev pub add_bits : (a b carry : ℤ) → Formula → Formula × (ℤ × ℤ)
add_bits a b carry formula =
    let (formula, x) = xor_gate a b formula in
    let (formula, sum) = xor_gate x carry formula in
    let (formula, p) = and_gate a b formula in
    let (formula, q) = and_gate carry x formula in
    let (formula, next) = or_gate p q formula in
    (formula, (sum, next))

-- the sum of two words of one length and a carry, modulo 2 to the length; the last bit has all its
-- gates too
abbrev pub sum_word : (a b : Word) → (carry : ℤ) → WordMaker
sum_word [] bs carry formula = (formula, [])
sum_word (a ∷ more) [] carry formula = (formula, [])
sum_word (a ∷ more) (b ∷ bs) carry formula =
    let (formula, bits) = add_bits a b carry formula in
    let (formula, word) = sum_word more bs bits.1 formula in
    (formula, bits.0 ∷ word)

-- a - b: b negated, with carry 1
abbrev pub difference_word : (a b : Word) → WordMaker
difference_word a b formula = sum_word a (inverted_word b) true_literal formula

-- - a: 0 minus a
abbrev pub minus_word : (a : Word) → WordMaker
minus_word a formula = difference_word (replicate (length a) false_literal) a formula

-- ---- products (clause 5.1.5)

-- row i of a product, for bit i of b: false below bit i, and from there up the AND of each bit of a
-- with that bit
abbrev pub product_row : (a : Word) → (i : ℕ) → (b : ℤ) → WordMaker
product_row a i b formula =
    let (formula, row) = made_in_turn (map (λ a. and_gate a b) (take (length a - i) a)) formula in
    (formula, replicate i false_literal ++ row)

-- the rows from row i on
abbrev pub product_rows : (a : Word) → (i : ℕ) → (b : Word) → Formula → Formula × List Word
product_rows a i [] formula = (formula, [])
product_rows a i (b ∷ bs) formula =
    let (formula, row) = product_row a i b formula in
    let (formula, rows) = product_rows a (suc i) bs formula in
    (formula, row ∷ rows)

-- a word plus one word after the other
abbrev pub total_from : Word → List Word → WordMaker
total_from total [] formula = (formula, total)
total_from total (row ∷ rows) formula =
    let (formula, total) = sum_word total row false_literal formula in
    total_from total rows formula

-- row 0 plus row 1, plus row 2, and so on
abbrev pub total_word : List Word → WordMaker
total_word [] formula = (formula, [])
total_word (row ∷ rows) formula = total_from row rows formula

-- all rows are made before the first sum
abbrev pub product_word : (a b : Word) → WordMaker
product_word a b formula =
    let (formula, rows) = product_rows a 0 b formula in
    total_word rows formula

-- ---- comparisons (clause 5.1.7)

-- a < b: the highest bit in which they differ is one of b; `less` tells of the bits below
abbrev pub less_from : (a b : Word) → (less : ℤ) → BitMaker
less_from [] bs less formula = (formula, less)
less_from (a ∷ more) [] less formula = (formula, less)
less_from (a ∷ more) (b ∷ bs) less formula =
    let (formula, differ) = xor_gate a b formula in
    let (formula, less) = mux_gate differ b less formula in
    less_from more bs less formula

-- in a signed type a number with its highest bit is below one without
abbrev pub ordered_word : (signed : Bool) → Word → Word
ordered_word signed word =
    if signed
    then take (length word - 1) word ++ inverted_word (drop (length word - 1) word)
    else word

-- a < b
abbrev pub less_bit : (signed : Bool) → (a b : Word) → BitMaker
less_bit signed a b formula =
    less_from (ordered_word signed a) (ordered_word signed b) false_literal formula

-- ---- shifts (clause 5.1.12)

-- a word moved up, or down, by so many bits, with this literal in the bits that it leaves
abbrev pub moved_up : (fill : ℤ) → (by : ℕ) → Word → Word
moved_up fill by word = take (length word) (replicate (min by (length word)) fill ++ word)

abbrev pub moved_down : (fill : ℤ) → (by : ℕ) → Word → Word
moved_down fill by word = drop by word ++ replicate (min by (length word)) fill

-- for bit i of the amount and each one after it: where it holds, the word moved by 2 to the i, else
-- the word as it was before
abbrev pub shifted_from : (move : (by : ℕ) → Word → Word) → (i : ℕ) → (amount word : Word) →
    WordMaker
shifted_from move i [] word formula = (formula, word)
shifted_from move i (bit ∷ bits) word formula =
    let (formula, word) = bitwise_word (mux_gate bit) (move (2 ^ i) word) word formula in
    shifted_from move (suc i) bits word formula

abbrev pub shifted_word : (move : (by : ℕ) → Word → Word) → (word amount : Word) → WordMaker
shifted_word move word amount formula = shifted_from move 0 amount word formula

-- what `>>>` fills with, for every bit of the amount: the highest bit of its left operand where the
-- type is signed
abbrev pub sign_fill : (signed : Bool) → Word → ℤ
sign_fill signed word = if signed then top_literal word else false_literal

-- ---- bits by an index (clause 5.2.1)

-- r tells of the bits below j; for bit j and each one after it: the bit where the index is its
-- number, else what was there before
abbrev pub picked_from : (index : Word) → (r : ℤ) → (j : ℕ) → (bits : Word) → BitMaker
picked_from index r j [] formula = (formula, r)
picked_from index r j (bit ∷ bits) formula =
    let (formula, equal) = equals_number_bit index j formula in
    let (formula, r) = mux_gate equal bit r formula in
    picked_from index r (suc j) bits formula

-- how many numbers from 0 up a type can hold
abbrev pub number_count : (width : ℕ) → (signed : Bool) → ℕ
number_count width signed = if signed then 2 ^ (width - 1) else 2 ^ width

-- the bit at an index, whose word is made first, and false where the index is outside the word
abbrev pub picked_bit : Word → (index_signed : Bool) → (make : WordMaker) → BitMaker
picked_bit word index_signed make formula =
    let (formula, index) = make formula in
    let reached = take (number_count (length index) index_signed) word in
    picked_from index false_literal 0 reached formula

-- ---- unary operators

-- A reduction is a chain from bit 0, negated where its sign says so (clause 5.1.11).
abbrev pub unary_word : UnOp → Word → WordMaker
unary_word Plus a formula = (formula, a)
unary_word Minus a formula = minus_word a formula
unary_word LogicNot a formula = one_bit (negation (not_zero_bit a)) formula
unary_word Invert a formula = (formula, inverted_word a)
unary_word AllOf a formula = one_bit (and_chain (map ready_bit a)) formula
unary_word Nand a formula = one_bit (negation (and_chain (map ready_bit a))) formula
unary_word SomeOf a formula = one_bit (or_chain (map ready_bit a)) formula
unary_word Nor a formula = one_bit (negation (or_chain (map ready_bit a))) formula
unary_word OddOf a formula = one_bit (xor_chain (map ready_bit a)) formula
unary_word EvenOf a formula = one_bit (negation (xor_chain (map ready_bit a))) formula

-- ---- binary operators

-- Of `&&` and `||` the operands are one bit each, which says whether they are not 0. No expression
-- that is well formed has `/` or `%`.
abbrev pub binary_word : BinOp → (signed : Bool) → (a b : Word) → WordMaker
binary_word Mul signed a b formula = product_word a b formula
binary_word Div signed a b formula = (formula, [])
binary_word Rem signed a b formula = (formula, [])
binary_word Add signed a b formula = sum_word a b false_literal formula
binary_word Sub signed a b formula = difference_word a b formula
binary_word Shl signed a b formula = shifted_word (moved_up false_literal) a b formula
binary_word Shr signed a b formula = shifted_word (moved_down false_literal) a b formula
binary_word SignShl signed a b formula = shifted_word (moved_up false_literal) a b formula
binary_word SignShr signed a b formula = shifted_word (moved_down (sign_fill signed a)) a b formula
binary_word Lt signed a b formula = one_bit (less_bit signed a b) formula
binary_word Le signed a b formula = one_bit (negation (less_bit signed b a)) formula
binary_word Gt signed a b formula = one_bit (less_bit signed b a) formula
binary_word Ge signed a b formula = one_bit (negation (less_bit signed a b)) formula
binary_word Eq signed a b formula = one_bit (equal_bit a b) formula
binary_word Ne signed a b formula = one_bit (negation (equal_bit a b)) formula
binary_word And signed a b formula = bitwise_word and_gate a b formula
binary_word Xor signed a b formula = bitwise_word xor_gate a b formula
binary_word Xnor signed a b formula = bitwise_word (λ a b. negation (xor_gate a b)) a b formula
binary_word Or signed a b formula = bitwise_word or_gate a b formula
binary_word LogicAnd signed a b formula = bitwise_word and_gate a b formula
binary_word LogicOr signed a b formula = bitwise_word or_gate a b formula
