-- How long the words are that circuits make.
use Rattle.std.proofs.Common.{◌≡◌, ℕ, zero, suc, ◌+◌, ◌-◌, ◌^◌, ◌≤◌, min, Bool, ℤ}
use Rattle.std.proofs.Common.{List, [], ◌∷◌, ◌++◌, map, take, drop, replicate, length, refl, sym, ap}
use Rattle.std.proofs.Common.{ap₂, ◌∙◌, arith, if◌then◌else◌, length-take, length-drop}
use Rattle.std.specs.List.{zip}
use Rattle.std.proofs.lemmas.Bool.{false≢true}
use Rattle.sv_num.specs.declared.operators.UnOp.{UnOp}
use Rattle.sv_num.specs.declared.operators.UnOp.TheVariants.{Plus, Minus, LogicNot, Invert}
use Rattle.sv_num.specs.declared.operators.UnOp.TheVariants.{And as AllOf, Nand, Or as SomeOf, Nor}
use Rattle.sv_num.specs.declared.operators.UnOp.TheVariants.{Xor as OddOf, Xnor as EvenOf}
use Rattle.sv_num.specs.declared.operators.BinOp.{BinOp}
use Rattle.sv_num.specs.declared.operators.BinOp.TheVariants.{Mul, Div, Rem, Add, Sub, Shl, Shr}
use Rattle.sv_num.specs.declared.operators.BinOp.TheVariants.{SignShl, SignShr, Lt, Le, Gt, Ge, Eq}
use Rattle.sv_num.specs.declared.operators.BinOp.TheVariants.{Ne, And, Xor, Xnor, Or, LogicAnd}
use Rattle.sv_num.specs.declared.operators.BinOp.TheVariants.{LogicOr}
use Rattle.sv_num.specs.UnaryValues.{gives_one_bit}
use Rattle.sv_num.specs.BinaryValues.{class_of, result_width}
use Rattle.sv_gates.specs.Formulas.{Formula}
use Rattle.sv_gates.specs.Gates.{true_literal, false_literal, and_gate, or_gate, xor_gate, mux_gate}
use Rattle.sv_circuits.specs.Words.{Word, BitMaker, made_in_turn, bitwise_word, inverted_word}
use Rattle.sv_circuits.specs.Words.{number_word, filled_word, negation}
use Rattle.sv_circuits.specs.Operators.{unary_word, binary_word, sum_word, add_bits, difference_word}
use Rattle.sv_circuits.specs.Operators.{product_row, product_rows, total_from}
use Rattle.sv_circuits.specs.Operators.{product_word, moved_up, moved_down, shifted_from}
use Rattle.sv_circuits.specs.Operators.{shifted_word}
use Rattle.sv_circuits.specs.Operators.{sign_fill}
use Rattle.sv_circuits.specs.Circuits.{HaveSizes}

pub filled_length : (n : ℕ) (l : ℤ) → length (replicate n l) ≡ n
filled_length zero l = refl
filled_length (suc n) l = ap suc (filled_length n l)

pub joined_length : (a b : Word) → length (a ++ b) ≡ length a + length b
joined_length [] b = omega arith
joined_length (l ∷ a) b = omega (arith, joined_length a b)

pub number_length : (width n : ℕ) → length (number_word width n) ≡ width
number_length zero n = refl
number_length (suc width) n = ap suc (number_length width _)

pub width_filled : (fill : ℤ) (width : ℕ) (word : Word) → length (filled_word fill width word) ≡ width
width_filled fill width word =
    length-take width (word ++ replicate width fill)
    ∙ ap (min width) (joined_length word (replicate width fill)
    ∙ ap (λ n. length word + n) (filled_length width fill))
    ∙ omega arith

pub inverted_length : (word : Word) → length (inverted_word word) ≡ length word
inverted_length [] = refl
inverted_length (l ∷ word) = ap suc (inverted_length word)

pub each_length : (makes : List BitMaker) (old : Formula) → length (made_in_turn makes old).1 ≡ length makes
each_length [] old = refl
each_length (make ∷ makes) old = ap suc (each_length makes (make old).0)

pub zip_length : (gate : ℤ → ℤ → BitMaker) (a b : Word) → length a ≡ length b →
    length (map (λ (bits : ℤ × ℤ). gate bits.0 bits.1) (zip a b)) ≡ length a
zip_length gate [] [] e = refl
zip_length gate [] (y ∷ b) e = refl
zip_length gate (x ∷ a) [] e = absurd (omega (arith, e))
zip_length gate (x ∷ a) (y ∷ b) e = ap suc (zip_length gate a b (omega (arith, e)))

pub per_bit_length : (gate : ℤ → ℤ → BitMaker) (a b : Word) (old : Formula) →
    length a ≡ length b → length (bitwise_word gate a b old).1 ≡ length a
per_bit_length gate a b old e =
    each_length (map (λ (bits : ℤ × ℤ). gate bits.0 bits.1) (zip a b)) old ∙ zip_length gate a b e

-- ---- sums and products

pub sum_length : (a b : Word) (carry : ℤ) (old : Formula) → length a ≡ length b →
    length (sum_word a b carry old).1 ≡ length a
sum_length [] b carry old e = refl
sum_length (x ∷ a) [] carry old e = absurd (omega (arith, e))
sum_length (x ∷ a) (y ∷ b) carry old e =
    ap suc (sum_length a b (add_bits x y carry old).1.1 (add_bits x y carry old).0
    (omega (arith, e)))

and_length : (a : Word) (b : ℤ) → length (map (λ x. and_gate x b) a) ≡ length a
and_length [] b = refl
and_length (x ∷ a) b = ap suc (and_length a b)

row_length : (a : Word) (i : ℕ) (b : ℤ) (old : Formula) → i ≤ length a →
    length (product_row a i b old).1 ≡ length a
row_length a i b old h =
    let low = take (length a - i) a in
    joined_length (replicate i false_literal) (made_in_turn (map (λ x. and_gate x b) low) old).1
    ∙ ap₂ ◌+◌ (filled_length i false_literal)
    (each_length (map (λ x. and_gate x b) low) old ∙ and_length low b
    ∙ length-take (length a - i) a)
    ∙ omega (arith, h)

-- words of one length
abbrev HaveWidth : ℕ → List Word → Type 0
HaveWidth n [] = Unit {0}
HaveWidth n (word ∷ words) = (length word ≡ n) × HaveWidth n words

rows_length : (a : Word) (i : ℕ) (b : Word) (old : Formula) → i + length b ≤ length a →
    HaveWidth (length a) (product_rows a i b old).1
rows_length a i [] old h = tt
rows_length a i (b ∷ bs) old h = (
  row_length a i b old (omega (arith, h)),
  rows_length a (suc i) bs (product_row a i b old).0 (omega (arith, h)),
)

total_length : (n : ℕ) (total : Word) (rows : List Word) (old : Formula) → length total ≡ n →
    HaveWidth n rows → length (total_from total rows old).1 ≡ n
total_length n total [] old e have = e
total_length n total (row ∷ rows) old e have =
    total_length n (sum_word total row false_literal old).1 rows
    (sum_word total row false_literal old).0
    (sum_length total row false_literal old (e ∙ sym have.0) ∙ e) have.1

pub product_length : (a b : Word) (old : Formula) → length a ≡ length b →
    length (product_word a b old).1 ≡ length a
product_length [] [] old e = refl
product_length [] (y ∷ b) old e = absurd (omega (arith, e))
product_length (x ∷ a) [] old e = absurd (omega (arith, e))
product_length (x ∷ a) (y ∷ b) old e =
    let have = rows_length (x ∷ a) 0 (y ∷ b) old (omega (arith, e)) in
    total_length (length (x ∷ a)) (product_row (x ∷ a) 0 y old).1
    (product_rows (x ∷ a) 1 b (product_row (x ∷ a) 0 y old).0).1
    (product_rows (x ∷ a) 1 b (product_row (x ∷ a) 0 y old).0).0 have.0 have.1

-- ---- shifts

pub up_length : (fill : ℤ) (by : ℕ) (word : Word) → length (moved_up fill by word) ≡ length word
up_length fill by word =
    length-take (length word) (replicate (min by (length word)) fill ++ word)
    ∙ ap (min (length word)) (joined_length (replicate (min by (length word)) fill) word)
    ∙ omega arith

pub down_length : (fill : ℤ) (by : ℕ) (word : Word) →
    length (moved_down fill by word) ≡ length word
down_length fill by word =
    joined_length (drop by word) (replicate (min by (length word)) fill)
    ∙ ap₂ ◌+◌ (length-drop by word) (filled_length (min by (length word)) fill)
    ∙ omega arith

pub shifted_length : (move : ℕ → Word → Word) →
    ((by : ℕ) (word : Word) → length (move by word) ≡ length word) →
    (i : ℕ) (amount word : Word) (old : Formula) →
    length (shifted_from move i amount word old).1 ≡ length word
shifted_length move keeps i [] word old = refl
shifted_length move keeps i (c ∷ cs) word old =
    let made = bitwise_word (mux_gate c) (move (2 ^ i) word) word old in
    shifted_length move keeps (suc i) cs made.1 made.0
    ∙ per_bit_length (mux_gate c) (move (2 ^ i) word) word old (keeps (2 ^ i) word)
    ∙ keeps (2 ^ i) word

-- ---- operators

difference_length : (a b : Word) (old : Formula) → length a ≡ length b →
    length (difference_word a b old).1 ≡ length a
difference_length a b old same =
    sum_length a (inverted_word b) true_literal old (same ∙ sym (inverted_length b))

-- false bits fill
up_shifted : (a b : Word) (old : Formula) →
    length (shifted_word (moved_up false_literal) a b old).1 ≡ length a
up_shifted a b old = shifted_length (moved_up false_literal) (up_length false_literal) 0 b a old

down_shifted : (fill : ℤ) (a b : Word) (old : Formula) →
    length (shifted_word (moved_down fill) a b old).1 ≡ length a
down_shifted fill a b old = shifted_length (moved_down fill) (down_length fill) 0 b a old

-- how long an operator's word is
abbrev pub unary_width : UnOp → ℕ → ℕ
unary_width op n = if gives_one_bit op then 1 else n

pub unary_length : (op : UnOp) (a : Word) (old : Formula) →
    length (unary_word op a old).1 ≡ unary_width op (length a)
unary_length Plus a old = refl
unary_length Minus a old =
    difference_length (replicate (length a) false_literal) a old
    (filled_length (length a) false_literal) ∙ filled_length (length a) false_literal
unary_length LogicNot a old = refl
unary_length Invert a old = inverted_length a
unary_length AllOf a old = refl
unary_length Nand a old = refl
unary_length SomeOf a old = refl
unary_length Nor a old = refl
unary_length OddOf a old = refl
unary_length EvenOf a old = refl

pub binary_length : (op : BinOp) (signed : Bool) (a b : Word) (old : Formula) →
    HaveSizes op (length a) (length b) →
    length (binary_word op signed a b old).1 ≡ result_width (class_of op) (length a)
binary_length Mul signed a b old sizes = product_length a b old sizes.1.0
binary_length Div signed a b old sizes = absurd (false≢true (sym sizes.0))
binary_length Rem signed a b old sizes = absurd (false≢true (sym sizes.0))
binary_length Add signed a b old sizes = sum_length a b false_literal old sizes.1.0
binary_length Sub signed a b old sizes = difference_length a b old sizes.1.0
binary_length Shl signed a b old sizes = up_shifted a b old
binary_length Shr signed a b old sizes = down_shifted false_literal a b old
binary_length SignShl signed a b old sizes = up_shifted a b old
binary_length SignShr signed a b old sizes = down_shifted (sign_fill signed a) a b old
binary_length Lt signed a b old sizes = refl
binary_length Le signed a b old sizes = refl
binary_length Gt signed a b old sizes = refl
binary_length Ge signed a b old sizes = refl
binary_length Eq signed a b old sizes = refl
binary_length Ne signed a b old sizes = refl
binary_length And signed a b old sizes = per_bit_length and_gate a b old sizes.1.0
binary_length Xor signed a b old sizes = per_bit_length xor_gate a b old sizes.1.0
binary_length Xnor signed a b old sizes =
    per_bit_length (λ x y. negation (xor_gate x y)) a b old sizes.1.0
binary_length Or signed a b old sizes = per_bit_length or_gate a b old sizes.1.0
binary_length LogicAnd signed a b old sizes =
    per_bit_length and_gate a b old (sizes.1.0 ∙ sym sizes.1.1) ∙ sizes.1.0
binary_length LogicOr signed a b old sizes =
    per_bit_length or_gate a b old (sizes.1.0 ∙ sym sizes.1.1) ∙ sizes.1.0
