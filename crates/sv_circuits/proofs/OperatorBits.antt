-- The circuit of each operator, bit by bit.
use Rattle.std.proofs.Common.{◌≡◌, ℕ, zero, suc, ◌-◌, ◌≤◌, Bool, true, false, not, ◌&&◌, ◌||◌, ℤ}
use Rattle.std.proofs.Common.{List, [], ◌∷◌, map, replicate, length, refl, sym, ap, ◌∙◌}
use Rattle.std.proofs.Common.{arith, if◌then◌else◌}
use Rattle.std.specs.Prelude.{slice_index_or}
use Rattle.sv_num.specs.declared.operators.UnOp.{UnOp}
use Rattle.sv_num.specs.declared.operators.UnOp.TheVariants.{Plus, Minus, LogicNot, Invert}
use Rattle.sv_num.specs.declared.operators.UnOp.TheVariants.{And as AllOf, Nand, Or as SomeOf, Nor}
use Rattle.sv_num.specs.declared.operators.UnOp.TheVariants.{Xor as OddOf, Xnor as EvenOf}
use Rattle.sv_num.specs.declared.operators.BinOp.{BinOp}
use Rattle.sv_num.specs.declared.operators.BinOp.TheVariants.{Mul, Div, Rem, Add, Sub, Shl, Shr}
use Rattle.sv_num.specs.declared.operators.BinOp.TheVariants.{SignShl, SignShr, Lt, Le, Gt, Ge, Eq}
use Rattle.sv_num.specs.declared.operators.BinOp.TheVariants.{Ne, And, Xor, Xnor, Or, LogicAnd}
use Rattle.sv_num.specs.declared.operators.BinOp.TheVariants.{LogicOr}
use Rattle.sv_clause.specs.Literals.{literal_true}
use Rattle.sv_gates.specs.Formulas.{Formula, IsLiteral}
use Rattle.sv_gates.specs.Gates.{false_literal, and_gate, or_gate, xor_gate}
use Rattle.sv_gates.specs.Extending.{Makes}
use Rattle.sv_gates.proofs.ExtendingLaws.{makes_at_once}
use Rattle.sv_gates.proofs.Valuations.{negation_true}
use Rattle.sv_gates.proofs.GateLaws.{literal_more, literal_negated, and_makes, or_makes, xor_makes}
use Rattle.sv_circuits.specs.Words.{Word, BitMaker, ready_bit, negation, and_chain, or_chain}
use Rattle.sv_circuits.specs.Words.{xor_chain, equal_bit, inverted_word}
use Rattle.sv_circuits.specs.Words.{literal_at}
use Rattle.sv_circuits.specs.Operators.{unary_word, binary_word, sum_word, one_bit}
use Rattle.sv_circuits.specs.Operators.{shifted_word, moved_up}
use Rattle.sv_circuits.specs.Operators.{moved_down, sign_fill, less_bit}
use Rattle.sv_circuits.specs.Circuits.{bits_of, IsWord, IsBase, GivesBit, GivesWord}
use Rattle.sv_circuits.proofs.Pieces.{base_more, makes_meaning, chained}
use Rattle.sv_circuits.proofs.BitPieces.{differ, joined_bits, negation_gives, one_bit_gives, all_gives}
use Rattle.sv_circuits.proofs.BitPieces.{some_gives, odd_gives, per_bit_gives, false_is}
use Rattle.sv_circuits.proofs.BitPieces.{false_known}
use Rattle.sv_circuits.proofs.Sums.{sum_bits, sum_makes}
use Rattle.sv_circuits.proofs.Products.{inverted_is, inverted_bits, difference_makes, minus_makes}
use Rattle.sv_circuits.proofs.Products.{product_bits, product_makes, bits_length}
use Rattle.sv_circuits.proofs.Comparisons.{equal_bits, equal_gives, ordered_bits, less_bits}
use Rattle.sv_circuits.proofs.Comparisons.{less_than_gives, same}
use Rattle.sv_circuits.proofs.Shifts.{up_bits, down_bits, shifted_bits, shifted_up_makes}
use Rattle.sv_circuits.proofs.Shifts.{shifted_down_makes}

-- ---- unary operators

abbrev pub all_bits : List Bool → Bool
all_bits bits = chained ◌&&◌ true bits

abbrev pub some_bit : List Bool → Bool
some_bit bits = chained ◌||◌ false bits

abbrev pub odd_bits : List Bool → Bool
odd_bits bits = chained differ false bits

abbrev pub unary_bits : UnOp → List Bool → List Bool
unary_bits Plus a = a
unary_bits Minus a = sum_bits (replicate (length a) false) (map not a) true
unary_bits LogicNot a = not (some_bit a) ∷ []
unary_bits Invert a = map not a
unary_bits AllOf a = all_bits a ∷ []
unary_bits Nand a = not (all_bits a) ∷ []
unary_bits SomeOf a = some_bit a ∷ []
unary_bits Nor a = not (some_bit a) ∷ []
unary_bits OddOf a = odd_bits a ∷ []
unary_bits EvenOf a = not (odd_bits a) ∷ []

-- the same word, where its bits are those
known : (word : Word) (value : (ℕ → Bool) → List Bool) (old : Formula) → IsBase old →
    IsWord old.variables word →
    ((values : ℕ → Bool) → bits_of values word ≡ value values) →
    Makes old (old, word) IsWord (λ values w. bits_of values w ≡ value values)
known word value old base is same =
    makes_at_once old word IsWord (λ values w. bits_of values w ≡ value values) base.closed is
    (λ values e. same values)

one : (n : ℕ) (make : BitMaker) (value : (ℕ → Bool) → Bool) → GivesBit n make value →
    GivesWord n (one_bit make) (λ values. value values ∷ [])
one n make value gives = one_bit_gives n make value gives

-- a word of one bit that a piece gives, and one of its negation
abbrev BothMake : BitMaker → ((ℕ → Bool) → Bool) → Formula → Type 0
BothMake make value old =
    Makes old (one_bit make old) IsWord (λ values word. bits_of values word ≡ value values ∷ [])
    × Makes old (one_bit (negation make) old) IsWord
    (λ values word. bits_of values word ≡ not (value values) ∷ [])

both_make : (make : BitMaker) (value : (ℕ → Bool) → Bool) (old : Formula) → IsBase old →
    GivesBit old.variables make value → BothMake make value old
both_make make value old base gives = (
  one old.variables make value gives old (omega arith) base,
  one old.variables (negation make) (λ values. not (value values))
      (negation_gives old.variables make value gives) old (omega arith) base,
)

all_make : (a : Word) (old : Formula) → IsBase old → IsWord old.variables a →
    BothMake (and_chain (map ready_bit a)) (λ values. all_bits (bits_of values a)) old
all_make a old base is =
    both_make (and_chain (map ready_bit a)) (λ values. all_bits (bits_of values a)) old base
    (all_gives old.variables a is)

some_make : (a : Word) (old : Formula) → IsBase old → IsWord old.variables a →
    BothMake (or_chain (map ready_bit a)) (λ values. some_bit (bits_of values a)) old
some_make a old base is =
    both_make (or_chain (map ready_bit a)) (λ values. some_bit (bits_of values a)) old base
    (some_gives old.variables a is)

odd_make : (a : Word) (old : Formula) → IsBase old → IsWord old.variables a →
    BothMake (xor_chain (map ready_bit a)) (λ values. odd_bits (bits_of values a)) old
odd_make a old base is =
    both_make (xor_chain (map ready_bit a)) (λ values. odd_bits (bits_of values a)) old base
    (odd_gives old.variables a is)

pub unary_makes : (op : UnOp) (a : Word) (old : Formula) → IsBase old → IsWord old.variables a →
    Makes old (unary_word op a old) IsWord
    (λ values word. bits_of values word ≡ unary_bits op (bits_of values a))
unary_makes Plus a old base is =
    known a (λ values. bits_of values a) old base is (λ values. refl)
unary_makes Minus a old base is =
    let p = minus_makes a old base is in
    record {
      extends = p.extends;
      within = p.within;
      says = λ values e. p.says values e
          ∙ ap (λ k. sum_bits (replicate k false) (map not (bits_of values a)) true)
          (sym (bits_length values a));
    }
unary_makes LogicNot a old base is = (some_make a old base is).1
unary_makes Invert a old base is =
    known (inverted_word a) (λ values. map not (bits_of values a)) old base
    (inverted_is old.variables a is) (λ values. inverted_bits old.variables values a is)
unary_makes AllOf a old base is = (all_make a old base is).0
unary_makes Nand a old base is = (all_make a old base is).1
unary_makes SomeOf a old base is = (some_make a old base is).0
unary_makes Nor a old base is = (some_make a old base is).1
unary_makes OddOf a old base is = (odd_make a old base is).0
unary_makes EvenOf a old base is = (odd_make a old base is).1

-- ---- binary operators

-- the highest bit
abbrev pub top_bit : List Bool → Bool
top_bit bits = slice_index_or bits (length bits - 1) false

-- what `>>>` fills with
abbrev pub fill_bit : (signed : Bool) → List Bool → Bool
fill_bit signed bits = if signed then top_bit bits else false

abbrev pub less_than_bits : (signed : Bool) → List Bool → List Bool → Bool
less_than_bits signed a b = less_bits (ordered_bits signed a) (ordered_bits signed b) false

abbrev pub binary_bits : BinOp → (signed : Bool) → (a b : List Bool) → List Bool
binary_bits Mul signed a b = product_bits a b
binary_bits Div signed a b = []
binary_bits Rem signed a b = []
binary_bits Add signed a b = sum_bits a b false
binary_bits Sub signed a b = sum_bits a (map not b) true
binary_bits Shl signed a b = shifted_bits (up_bits false) 0 b a
binary_bits Shr signed a b = shifted_bits (down_bits false) 0 b a
binary_bits SignShl signed a b = shifted_bits (up_bits false) 0 b a
binary_bits SignShr signed a b = shifted_bits (down_bits (fill_bit signed a)) 0 b a
binary_bits Lt signed a b = less_than_bits signed a b ∷ []
binary_bits Le signed a b = not (less_than_bits signed b a) ∷ []
binary_bits Gt signed a b = less_than_bits signed b a ∷ []
binary_bits Ge signed a b = not (less_than_bits signed a b) ∷ []
binary_bits Eq signed a b = equal_bits a b ∷ []
binary_bits Ne signed a b = not (equal_bits a b) ∷ []
binary_bits And signed a b = joined_bits ◌&&◌ a b
binary_bits Xor signed a b = joined_bits differ a b
binary_bits Xnor signed a b = joined_bits same a b
binary_bits Or signed a b = joined_bits ◌||◌ a b
binary_bits LogicAnd signed a b = joined_bits ◌&&◌ a b
binary_bits LogicOr signed a b = joined_bits ◌||◌ a b

-- a literal of a word, or the one that is false
pub literal_of : (n : ℕ) (word : Word) (b : ℕ) → 1 ≤ n → IsWord n word → IsLiteral n (literal_at word b)
literal_of n [] b some is = literal_more 1 n false_literal some false_is
literal_of n (l ∷ word) zero some is = is.0
literal_of n (l ∷ word) (suc b) some is = literal_of n word b some is.1

pub literal_bit : (values : ℕ → Bool) → values 1 ≡ true → (word : Word) (b : ℕ) →
    literal_true values (literal_at word b) ≡ slice_index_or (bits_of values word) b false
literal_bit values e [] b = false_known values e
literal_bit values e (l ∷ word) zero = refl
literal_bit values e (l ∷ word) (suc b) = literal_bit values e word b

pub fill_is : (n : ℕ) (signed : Bool) (word : Word) → 1 ≤ n → IsWord n word →
    IsLiteral n (sign_fill signed word)
fill_is n true word some is = literal_of n word (length word - 1) some is
fill_is n false word some is = literal_more 1 n false_literal some false_is

pub fill_known : (values : ℕ → Bool) → values 1 ≡ true → (signed : Bool) (word : Word) →
    literal_true values (sign_fill signed word) ≡ fill_bit signed (bits_of values word)
fill_known values e true word =
    literal_bit values e word (length word - 1)
    ∙ ap (λ k. slice_index_or (bits_of values word) (k - 1) false) (sym (bits_length values word))
fill_known values e false word = false_known values e

-- false bits fill
up_zero : (a b : Word) (old : Formula) → IsBase old → IsWord old.variables a →
    IsWord old.variables b → Makes old (shifted_word (moved_up false_literal) a b old) IsWord
    (λ values word. bits_of values word
    ≡ shifted_bits (up_bits false) 0 (bits_of values b) (bits_of values a))
up_zero a b old base is_a is_b =
    let made = shifted_word (moved_up false_literal) a b old in
    let p = shifted_up_makes false_literal a b old base
    (literal_more 1 old.variables false_literal base.some false_is) is_a is_b in
    makes_meaning p (λ values word. bits_of values word
    ≡ shifted_bits (up_bits false) 0 (bits_of values b) (bits_of values a))
    (λ values e said. said
    ∙ ap (λ z. shifted_bits (up_bits z) 0 (bits_of values b) (bits_of values a))
    (false_known values ((base_more old made.0 base p.extends).truth values e)))

down_filled : (fill : ℤ) (bit : (ℕ → Bool) → Bool) → ((values : ℕ → Bool) → values 1 ≡ true →
    literal_true values fill ≡ bit values) → (a b : Word) (old : Formula) → IsBase old →
    IsLiteral old.variables fill → IsWord old.variables a → IsWord old.variables b →
    Makes old (shifted_word (moved_down fill) a b old) IsWord (λ values word. bits_of values word
    ≡ shifted_bits (down_bits (bit values)) 0 (bits_of values b) (bits_of values a))
down_filled fill bit is_bit a b old base is_fill is_a is_b =
    let made = shifted_word (moved_down fill) a b old in
    let p = shifted_down_makes fill a b old base is_fill is_a is_b in
    makes_meaning p (λ values word. bits_of values word
    ≡ shifted_bits (down_bits (bit values)) 0 (bits_of values b) (bits_of values a))
    (λ values e said. said
    ∙ ap (λ z. shifted_bits (down_bits z) 0 (bits_of values b) (bits_of values a))
    (is_bit values ((base_more old made.0 base p.extends).truth values e)))

less_make : (signed : Bool) (a b : Word) (old : Formula) → IsBase old → IsWord old.variables a →
    IsWord old.variables b → BothMake (less_bit signed a b)
    (λ values. less_than_bits signed (bits_of values a) (bits_of values b)) old
less_make signed a b old base is_a is_b =
    both_make (less_bit signed a b)
    (λ values. less_than_bits signed (bits_of values a) (bits_of values b)) old base
    (less_than_gives old.variables signed a b is_a is_b)

equal_make : (a b : Word) (old : Formula) → IsBase old → IsWord old.variables a →
    IsWord old.variables b →
    BothMake (equal_bit a b) (λ values. equal_bits (bits_of values a) (bits_of values b)) old
equal_make a b old base is_a is_b =
    both_make (equal_bit a b) (λ values. equal_bits (bits_of values a) (bits_of values b)) old base
    (equal_gives old.variables a b is_a is_b)

pub binary_makes : (op : BinOp) (signed : Bool) (a b : Word) (old : Formula) → IsBase old →
    IsWord old.variables a → IsWord old.variables b →
    Makes old (binary_word op signed a b old) IsWord
    (λ values word. bits_of values word ≡ binary_bits op signed (bits_of values a) (bits_of values b))
binary_makes Mul signed a b old base is_a is_b = product_makes a b old base is_a is_b
binary_makes Div signed a b old base is_a is_b =
    known [] (λ values. []) old base tt (λ values. refl)
binary_makes Rem signed a b old base is_a is_b =
    known [] (λ values. []) old base tt (λ values. refl)
binary_makes Add signed a b old base is_a is_b =
    let made = sum_word a b false_literal old in
    let p = sum_makes a b false_literal old base is_a is_b
    (literal_more 1 old.variables false_literal base.some false_is) in
    record {
      extends = p.extends;
      within = p.within;
      says = λ values e. p.says values e
          ∙ ap (sum_bits (bits_of values a) (bits_of values b))
          (false_known values ((base_more old made.0 base p.extends).truth values e));
    }
binary_makes Sub signed a b old base is_a is_b = difference_makes a b old base is_a is_b
binary_makes Shl signed a b old base is_a is_b = up_zero a b old base is_a is_b
binary_makes Shr signed a b old base is_a is_b =
    down_filled false_literal (λ values. false) false_known a b old base
    (literal_more 1 old.variables false_literal base.some false_is) is_a is_b
binary_makes SignShl signed a b old base is_a is_b = up_zero a b old base is_a is_b
binary_makes SignShr signed a b old base is_a is_b =
    down_filled (sign_fill signed a) (λ values. fill_bit signed (bits_of values a))
    (λ values e. fill_known values e signed a) a b old base
    (fill_is old.variables signed a base.some is_a) is_a is_b
binary_makes Lt signed a b old base is_a is_b = (less_make signed a b old base is_a is_b).0
binary_makes Le signed a b old base is_a is_b = (less_make signed b a old base is_b is_a).1
binary_makes Gt signed a b old base is_a is_b = (less_make signed b a old base is_b is_a).0
binary_makes Ge signed a b old base is_a is_b = (less_make signed a b old base is_a is_b).1
binary_makes Eq signed a b old base is_a is_b = (equal_make a b old base is_a is_b).0
binary_makes Ne signed a b old base is_a is_b = (equal_make a b old base is_a is_b).1
binary_makes And signed a b old base is_a is_b =
    per_bit_gives and_gate ◌&&◌ and_makes old.variables a b is_a is_b old (omega arith) base
binary_makes Xor signed a b old base is_a is_b =
    per_bit_gives xor_gate differ xor_makes old.variables a b is_a is_b old (omega arith) base
binary_makes Xnor signed a b old base is_a is_b =
    per_bit_gives (λ x y. negation (xor_gate x y)) same
    (λ x y form closed is_x is_y.
    let p = xor_makes x y form closed is_x is_y in
    record {
      extends = p.extends;
      within = literal_negated (xor_gate x y form).0.variables (xor_gate x y form).1 p.within;
      says = λ values e.
          negation_true values (xor_gate x y form).1 p.within.0 ∙ ap not (p.says values e);
    }) old.variables a b is_a is_b old (omega arith) base
binary_makes Or signed a b old base is_a is_b =
    per_bit_gives or_gate ◌||◌ or_makes old.variables a b is_a is_b old (omega arith) base
binary_makes LogicAnd signed a b old base is_a is_b =
    per_bit_gives and_gate ◌&&◌ and_makes old.variables a b is_a is_b old (omega arith) base
binary_makes LogicOr signed a b old base is_a is_b =
    per_bit_gives or_gate ◌||◌ or_makes old.variables a b is_a is_b old (omega arith) base
