-- Steps of an expression's word: words of some length that spell a value, one made after the other.
use Rattle.std.proofs.Common.{◌≡◌, ℕ, zero, suc, ◌+◌, ◌*◌, ◌%◌, ◌^◌, ◌<◌, ◌≤◌, Bool, true, false}
use Rattle.std.proofs.Common.{◌&&◌, ◌||◌, take, cond, ℤ, List, [], ◌∷◌, length, refl, sym, ap, ap₂}
use Rattle.std.proofs.Common.{◌∙◌}
use Rattle.std.proofs.Common.{subst, arith}
use Rattle.std.specs.Prelude.{pos, negsuc, slice_index_or}
use Rattle.std.specs.Int.{bit_at}
use Rattle.std.proofs.Common.{◌⊎◌, inl, inr}
use Rattle.std.proofs.lemmas.Bool.{cases_lt, lt-ltb, le-ltb}
use Rattle.std.proofs.Math.Nat.{mod-eq_of_lt}
use Rattle.std.proofs.Math.Pow.{pow_mono}
use Rattle.sv_num.specs.declared.operators.UnOp.{UnOp}
use Rattle.sv_num.specs.declared.operators.BinOp.{BinOp}
use Rattle.sv_num.specs.declared.operators.BinOp.TheVariants.{LogicAnd}
use Rattle.sv_num.specs.declared.operators.BinOp.TheVariants.{LogicOr}
use Rattle.sv_num.specs.declared.operators.OpClass.{OpClass}
use Rattle.sv_num.specs.declared.operators.OpClass.TheVariants.{Context, Compare, Logical, Shift}
use Rattle.sv_num.specs.Vectors.{truth, is_true, as_number}
use Rattle.sv_num.specs.Parts.{bit_or_zero}
use Rattle.sv_num.specs.UnaryValues.{unary_value}
use Rattle.sv_num.specs.BinaryValues.{binary_value, class_of, result_width}
use Rattle.sv_clause.specs.Literals.{literal_true}
use Rattle.sv_gates.specs.Formulas.{Formula, IsLiteral}
use Rattle.sv_gates.specs.Gates.{false_literal, mux_gate}
use Rattle.sv_gates.specs.Extending.{Makes}
use Rattle.sv_gates.proofs.GateLaws.{literal_more}
use Rattle.sv_gates.proofs.ExtendingLaws.{makes_at_once, makes_then}
use Rattle.sv_circuits.specs.Words.{Word, WordMaker, word_value, zero_filled}
use Rattle.sv_circuits.specs.Words.{bitwise_word, not_zero_bit}
use Rattle.sv_circuits.specs.Operators.{picked_bit, unary_word, binary_word}
use Rattle.sv_circuits.specs.Circuits.{bits_of, IsWord, IsBase}
use Rattle.sv_circuits.proofs.Pieces.{base_more, word_more}
use Rattle.sv_circuits.proofs.BitPieces.{joined_bits, some_gives, false_is, false_known}
use Rattle.sv_circuits.proofs.Products.{bits_length}
use Rattle.sv_circuits.proofs.Shifts.{chosen_bit, chosen_gives}
use Rattle.sv_circuits.proofs.Picks.{picked_bits, picked_behind}
use Rattle.sv_circuits.specs.Operators.{number_count}
use Rattle.sv_encoding.specs.Expressions.{operand_word, bit_at_number}
use Rattle.sv_circuits.proofs.OperatorBits.{unary_makes, binary_makes, unary_bits, binary_bits}
use Rattle.sv_circuits.proofs.OperatorBits.{some_bit, literal_of, literal_bit}
use Rattle.sv_circuits.proofs.BitNumbers.{number, word_number}
use Rattle.sv_circuits.proofs.BitTests.{some_number}
use Rattle.sv_circuits.proofs.BitShifts.{chosen_first, chosen_second}
use Rattle.sv_circuits.specs.Circuits.{HaveSizes}
use Rattle.sv_circuits.proofs.OperatorValues.{unary_number, binary_number}
use Rattle.sv_circuits.proofs.Lengths.{unary_width, unary_length, binary_length, per_bit_length}
use Rattle.sv_circuits.proofs.Lengths.{width_filled}
use Rattle.sv_circuits.proofs.WordValues.{word_low, zero_filled_is, zero_filled_value}
use Rattle.sv_circuits.proofs.PickValues.{picked_value, index_bit}

-- a word of so many literals
pub record HasWidth (size variables : ℕ) (word : Word) : Type 0 where
  pub is : IsWord variables word
  pub width : length word ≡ size

-- the word spells the value
abbrev pub Spells : ((ℕ → Bool) → ℕ) → (ℕ → Bool) → Word → Type 0
Spells value values word = word_value values word ≡ value values

-- the literal has the value
abbrev pub Has : ((ℕ → Bool) → Bool) → (ℕ → Bool) → ℤ → Type 0
Has value values literal = literal_true values literal ≡ value values

-- a word of so many literals is made that spells the value
abbrev pub MakesWord : (old : Formula) → Formula × Word → (size : ℕ) → ((ℕ → Bool) → ℕ) → Type 0
MakesWord old made size value = Makes old made (HasWidth size) (Spells value)

-- a literal is made that has the value
abbrev pub MakesBit : (old : Formula) → Formula × ℤ → ((ℕ → Bool) → Bool) → Type 0
MakesBit old made value = Makes old made IsLiteral (Has value)

pub width_more : (m n size : ℕ) (word : Word) → m ≤ n → HasWidth size m word → HasWidth size n word
width_more m n size word h has = record { is = word_more m n word h has.is; width = has.width }

-- a word that is there
pub there : (old : Formula) (word : Word) (size : ℕ) (value : (ℕ → Bool) → ℕ) → IsBase old →
    HasWidth size old.variables word →
    ((values : ℕ → Bool) → values 1 ≡ true → word_value values word ≡ value values) →
    MakesWord old (old, word) size value
there old word size value base has says =
    makes_at_once old word (HasWidth size) (Spells value) base.closed has
    (λ values e. says values (base.truth values e))

-- another word of what was made
pub word_from : (old : Formula) (made : Formula × Word) (size : ℕ) (value : (ℕ → Bool) → ℕ)
    (word : Word) (new_size : ℕ) (new_value : (ℕ → Bool) → ℕ) → IsBase old →
    MakesWord old made size value →
    ((n : ℕ) → 1 ≤ n → HasWidth size n made.1 → HasWidth new_size n word) →
    ((values : ℕ → Bool) → values 1 ≡ true → word_value values made.1 ≡ value values →
    word_value values word ≡ new_value values) →
    MakesWord old (made.0, word) new_size new_value
word_from old made size value word new_size new_value base p inside says = record {
  extends = p.extends;
  within = inside (made.0).variables (base_more old made.0 base p.extends).some p.within;
  says = λ values e.
      says values ((base_more old made.0 base p.extends).truth values e) (p.says values e);
}

below_power : (values : ℕ → Bool) (size width : ℕ) (word : Word) → length word ≡ size → size ≤ width →
    word_value values word < 2 ^ width
below_power values size width word e h =
    let more : 2 ^ size ≤ 2 ^ width = pow_mono h in
    let low : word_value values word < 2 ^ size =
    subst (λ k. word_value values word < 2 ^ k) e (word_low values word) in
    omega (arith, more, low)

-- a word cut or filled to a width
pub cut_to : (old : Formula) (made : Formula × Word) (size width : ℕ) (value : (ℕ → Bool) → ℕ) →
    IsBase old → MakesWord old made size value →
    MakesWord old (made.0, zero_filled width made.1) width (λ values. value values % 2 ^ width)
cut_to old made size width value base p = record {
  extends = p.extends;
  within = record {
    is = zero_filled_is (made.0).variables width made.1
        (base_more old made.0 base p.extends).some p.within.is;
    width = width_filled false_literal width made.1;
  };
  says = λ values e.
      zero_filled_value values ((base_more old made.0 base p.extends).truth values e) width made.1
      ∙ ap (λ v. v % 2 ^ width) (p.says values e);
}

-- a word with false literals behind it
pub resized : (old : Formula) (made : Formula × Word) (size width : ℕ) (value : (ℕ → Bool) → ℕ) →
    IsBase old → size ≤ width → MakesWord old made size value →
    MakesWord old (made.0, zero_filled width made.1) width value
resized old made size width value base h p =
    let q = cut_to old made size width value base p in
    record {
      extends = q.extends;
      within = q.within;
      says = λ values e. q.says values e ∙ mod-eq_of_lt (subst (λ n. n < 2 ^ width)
          (p.says values e) (below_power values size width made.1 p.within.width h));
    }

-- a bit as a word of its own
bit_alone : (old : Formula) (made : Formula × ℤ) (value : (ℕ → Bool) → Bool) →
    MakesBit old made value →
    MakesWord old (made.0, made.1 ∷ []) 1 (λ values. truth (value values))
bit_alone old made value p = record {
  extends = p.extends;
  within = record { is = (p.within, tt); width = refl };
  says = λ values e. one (literal_true values made.1) ∙ ap truth (p.says values e);
}
  where
    one : (b : Bool) → truth b + 2 * 0 ≡ truth b
    one true = refl
    one false = refl

-- a bit as a word
pub bit_word : (old : Formula) (made : Formula × ℤ) (width : ℕ) (value : (ℕ → Bool) → Bool) →
    IsBase old → 1 ≤ width → MakesBit old made value →
    MakesWord old (made.0, zero_filled width (made.1 ∷ [])) width (λ values. truth (value values))
bit_word old made width value base h p =
    resized old (made.0, made.1 ∷ []) 1 width (λ values. truth (value values)) base h
    (bit_alone old made value p)

-- ---- unary operators

pub unary_step : (op : UnOp) (signed : Bool) (old : Formula) (first : Formula × Word) (size : ℕ)
    (value : (ℕ → Bool) → ℕ) → IsBase old → MakesWord old first size value →
    MakesWord old (unary_word op first.1 first.0) (unary_width op size)
    (λ values. unary_value op size signed (value values))
unary_step op signed old first size value base p =
    let base1 = base_more old first.0 base p.extends in
    let made = unary_word op first.1 first.0 in
    let q = unary_makes op first.1 first.0 base1 p.within.is in
    let both = makes_then old first made (HasWidth size) IsWord (Spells value)
    (λ values w. bits_of values w ≡ unary_bits op (bits_of values first.1)) p q in
    record {
      extends = both.extends;
      within = record {
        is = both.within;
        width = unary_length op first.1 first.0 ∙ ap (unary_width op) p.within.width;
      };
      says = λ values e.
          let said = both.says values e in
          word_number values made.1 ∙ ap number said.1
          ∙ unary_number op signed (bits_of values first.1)
          ∙ ap₂ (λ n v. unary_value op n signed v) (bits_length values first.1 ∙ p.within.width)
          (sym (word_number values first.1) ∙ said.0);
    }

-- ---- operands

abbrev pub operand_width : OpClass → ℕ → ℕ
operand_width Context n = n
operand_width Compare n = n
operand_width Logical n = 1
operand_width Shift n = n

abbrev pub operand_value : OpClass → ℕ → ℕ
operand_value Context v = v
operand_value Compare v = v
operand_value Logical v = truth (is_true v)
operand_value Shift v = v

-- not 0 of a word
pub not_zero_step : (old : Formula) (first : Formula × Word) (size : ℕ) (value : (ℕ → Bool) → ℕ) →
    IsBase old → MakesWord old first size value →
    MakesBit old (not_zero_bit first.1 first.0) (λ values. is_true (value values))
not_zero_step old first size value base p =
    let base1 = base_more old first.0 base p.extends in
    let made = not_zero_bit first.1 first.0 in
    let q = some_gives (first.0).variables first.1 p.within.is first.0 (omega arith) base1 in
    let both = makes_then old first made (HasWidth size) IsLiteral (Spells value)
    (λ values l. literal_true values l ≡ some_bit (bits_of values first.1)) p q in
    record {
      extends = both.extends;
      within = both.within;
      says = λ values e.
          let said = both.says values e in
          said.1 ∙ some_number (bits_of values first.1)
          ∙ ap is_true (sym (word_number values first.1) ∙ said.0);
    }

pub operand_step : (c : OpClass) (old : Formula) (first : Formula × Word) (size : ℕ)
    (value : (ℕ → Bool) → ℕ) → IsBase old → MakesWord old first size value →
    MakesWord old (operand_word c first.1 first.0) (operand_width c size)
    (λ values. operand_value c (value values))
operand_step Context old first size value base p = p
operand_step Compare old first size value base p = p
operand_step Shift old first size value base p = p
operand_step Logical old first size value base p =
    bit_alone old (not_zero_bit first.1 first.0) (λ values. is_true (value values))
    (not_zero_step old first size value base p)

-- ---- binary operators

truth_is : (b : Bool) → is_true (truth b) ≡ b
truth_is true = refl
truth_is false = refl

pub operand_same : (op : BinOp) (n m : ℕ) (signed : Bool) (a b : ℕ) →
    binary_value op (operand_width (class_of op) n) signed (operand_value (class_of op) a)
    (operand_value (class_of op) b) ≡ binary_value op n signed a b
operand_same LogicAnd n m signed a b =
    ap₂ (λ x y. truth (x && y)) (truth_is (is_true a)) (truth_is (is_true b))
operand_same LogicOr n m signed a b =
    ap₂ (λ x y. truth (x || y)) (truth_is (is_true a)) (truth_is (is_true b))
operand_same op n m signed a b = refl

-- the word of an operator, where the left operand is made first
pub binary_step : (op : BinOp) (signed : Bool) (old : Formula) (left right : Formula × Word)
    (m n : ℕ) (x y : (ℕ → Bool) → ℕ) → IsBase old → MakesWord old left m x →
    MakesWord left.0 right n y → HaveSizes op m n →
    MakesWord old (binary_word op signed left.1 right.1 right.0) (result_width (class_of op) m)
    (λ values. binary_value op m signed (x values) (y values))
binary_step op signed old left right m n x y base p q sizes =
    let base1 = base_more old left.0 base p.extends in
    let base2 = base_more left.0 right.0 base1 q.extends in
    let is_left = word_more (left.0).variables (right.0).variables left.1 q.extends.begins.grows
    p.within.is in
    let made = binary_word op signed left.1 right.1 right.0 in
    let have : HaveSizes op (length left.1) (length right.1) =
    subst (λ k. HaveSizes op k (length right.1)) (sym p.within.width)
    (subst (HaveSizes op m) (sym q.within.width) sizes) in
    let r = binary_makes op signed left.1 right.1 right.0 base2 is_left q.within.is in
    let all = makes_then old left made (HasWidth m) IsWord (Spells x)
    (λ values w. Spells y values right.1
    × (bits_of values w ≡ binary_bits op signed (bits_of values left.1) (bits_of values right.1)))
    p (makes_then left.0 right made (HasWidth n) IsWord (Spells y)
    (λ values w. bits_of values w
    ≡ binary_bits op signed (bits_of values left.1) (bits_of values right.1)) q r) in
    record {
      extends = all.extends;
      within = record {
        is = all.within;
        width = binary_length op signed left.1 right.1 right.0 have
            ∙ ap (result_width (class_of op)) p.within.width;
      };
      says = λ values e.
          let said = all.says values e in
          let xs = bits_of values left.1 in
          let ys = bits_of values right.1 in
          word_number values made.1 ∙ ap number said.1.1
          ∙ binary_number op signed xs ys
          (subst (λ k. HaveSizes op k (length ys)) (sym (bits_length values left.1))
          (subst (HaveSizes op (length left.1)) (sym (bits_length values right.1)) have))
          ∙ ap (λ k. binary_value op k signed (number xs) (number ys))
          (bits_length values left.1 ∙ p.within.width)
          ∙ ap₂ (λ a b. binary_value op m signed a b) (sym (word_number values left.1) ∙ said.0)
          (sym (word_number values right.1) ∙ said.1.0);
    }

-- ---- choices

chosen_number : (c : Bool) (a b : List Bool) → length a ≡ length b →
    number (joined_bits (chosen_bit c) a b) ≡ cond c (number a) (number b)
chosen_number true a b e = ap number (chosen_first a b e)
chosen_number false a b e = ap number (chosen_second a b e)

pub choice_step : (old : Formula) (c : Formula × ℤ) (first second : Formula × Word) (size : ℕ)
    (t : (ℕ → Bool) → Bool) (x y : (ℕ → Bool) → ℕ) → IsBase old → MakesBit old c t →
    MakesWord c.0 first size x → MakesWord first.0 second size y →
    MakesWord old (bitwise_word (mux_gate c.1) first.1 second.1 second.0) size
    (λ values. cond (t values) (x values) (y values))
choice_step old c first second size t x y base p q r =
    let base1 = base_more old c.0 base p.extends in
    let base2 = base_more c.0 first.0 base1 q.extends in
    let base3 = base_more first.0 second.0 base2 r.extends in
    let n1 = (c.0).variables in
    let n2 = (first.0).variables in
    let n3 = (second.0).variables in
    let is_c = literal_more n2 n3 c.1 r.extends.begins.grows
    (literal_more n1 n2 c.1 q.extends.begins.grows p.within) in
    let is_first = word_more n2 n3 first.1 r.extends.begins.grows q.within.is in
    let made = bitwise_word (mux_gate c.1) first.1 second.1 second.0 in
    let same : length first.1 ≡ length second.1 = q.within.width ∙ sym r.within.width in
    let s = chosen_gives n3 c.1 first.1 second.1 is_c is_first r.within.is second.0 (omega arith)
    base3 in
    let all = makes_then old c made IsLiteral IsWord (Has t)
    (λ values w. Spells x values first.1 × (Spells y values second.1
    × (bits_of values w ≡ joined_bits (chosen_bit (literal_true values c.1))
    (bits_of values first.1) (bits_of values second.1))))
    p (makes_then c.0 first made (HasWidth size) IsWord (Spells x)
    (λ values w. Spells y values second.1
    × (bits_of values w ≡ joined_bits (chosen_bit (literal_true values c.1))
    (bits_of values first.1) (bits_of values second.1)))
    q (makes_then first.0 second made (HasWidth size) IsWord (Spells y)
    (λ values w. bits_of values w ≡ joined_bits (chosen_bit (literal_true values c.1))
    (bits_of values first.1) (bits_of values second.1)) r s)) in
    record {
      extends = all.extends;
      within = record {
        is = all.within;
        width = per_bit_length (mux_gate c.1) first.1 second.1 second.0 same ∙ q.within.width;
      };
      says = λ values e.
          let said = all.says values e in
          let xs = bits_of values first.1 in
          let ys = bits_of values second.1 in
          word_number values made.1 ∙ ap number said.1.1.1
          ∙ chosen_number (literal_true values c.1) xs ys
          (bits_length values first.1 ∙ same ∙ sym (bits_length values second.1))
          ∙ ap (λ z. cond z (number xs) (number ys)) said.0
          ∙ ap₂ (cond (t values)) (sym (word_number values first.1) ∙ said.1.0)
          (sym (word_number values second.1) ∙ said.1.1.0);
    }

-- ---- indices

-- the bit of a word by an index that is made first
pub picked_step : (old : Formula) (word : Word) (size : ℕ) (value : (ℕ → Bool) → ℕ) (signed : Bool)
    (make : WordMaker) (width : ℕ) (index : (ℕ → Bool) → ℕ) → IsBase old → 1 ≤ width →
    HasWidth size old.variables word → MakesWord old (make old) width index →
    Makes old (picked_bit word signed make old) IsLiteral (λ values l.
    truth (literal_true values l)
    ≡ bit_or_zero size (word_value values word) (as_number width signed (index values)))
picked_step old word size value signed make width index base some has p =
    let first = make old in
    let both = picked_behind word signed make (HasWidth width) (Spells index) old base has.is p
    p.within.is in
    record {
      extends = both.extends;
      within = both.within;
      says = λ values e.
          let said = both.says values e in
          let xs = bits_of values first.1 in
          let ws = bits_of values word in
          let wide : length xs ≡ width = bits_length values first.1 ∙ p.within.width in
          ap truth said.1
          ∙ ap (λ j. truth (picked_bits xs false 0 (take (number_count j signed) ws)))
          (sym (bits_length values first.1))
          ∙ picked_value xs ws signed (subst (λ j. 1 ≤ j) (sym wide) some)
          ∙ ap₂ (λ j v. bit_or_zero j v (as_number (length xs) signed (number xs)))
          (bits_length values word ∙ has.width) (sym (word_number values word))
          ∙ ap₂ (λ j v. bit_or_zero size (word_value values word) (as_number j signed v))
          wide (sym (word_number values first.1) ∙ said.0);
    }

-- the bit of a word at a number
pub bit_at_is : (n : ℕ) (word : Word) (i : ℤ) → 1 ≤ n → IsWord n word →
    IsLiteral n (bit_at_number word i)
bit_at_is n word (pos i) some is = literal_of n word i some is
bit_at_is n word (negsuc i) some is = literal_more 1 n false_literal some false_is

pub bit_at_value : (values : ℕ → Bool) → values 1 ≡ true → (word : Word) (i : ℤ) →
    truth (literal_true values (bit_at_number word i))
    ≡ bit_or_zero (length word) (word_value values word) i
bit_at_value values e word (negsuc i) = ap truth (false_known values e)
bit_at_value values e word (pos i) =
    ap truth (literal_bit values e word i)
    ∙ by_size (cases_lt i (length word))
  where
    outside : (bs : List Bool) (i : ℕ) → length bs ≤ i → slice_index_or bs i false ≡ false
    outside [] i h = refl
    outside (b ∷ bs) zero h = absurd (omega (arith, h))
    outside (b ∷ bs) (suc i) h = outside bs i (omega (arith, h))

    by_size : (i < length word) ⊎ (length word ≤ i) →
        truth (slice_index_or (bits_of values word) i false)
        ≡ bit_or_zero (length word) (word_value values word) (pos i)
    by_size (inl h) =
        let bs = bits_of values word in
        index_bit bs i (subst (λ k. i < k) (sym (bits_length values word)) h)
        ∙ ap (λ v. bit_at v i) (sym (word_number values word))
        ∙ sym (ap (λ t. cond t (bit_at (word_value values word) i) 0) (lt-ltb i (length word) h))
    by_size (inr h) =
        let bs = bits_of values word in
        ap truth (outside bs i (subst (λ k. k ≤ i) (sym (bits_length values word)) h))
        ∙ sym (ap (λ t. cond t (bit_at (word_value values word) i) 0) (le-ltb i (length word) h))
