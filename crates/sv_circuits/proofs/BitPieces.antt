-- Words that are made bit by bit, and chains of a word's bits.
use Rattle.std.proofs.Common.{◌≡◌, ℕ, Bool, true, false, not, ◌&&◌, ◌||◌, ℤ}
use Rattle.std.proofs.Common.{List, [], ◌∷◌, map, refl, ap, ◌∙◌, arith}
use Rattle.std.specs.List.{zip}
use Rattle.std.specs.Bool.{beq}
use Rattle.sv_clause.specs.Literals.{literal_true}
use Rattle.sv_gates.specs.Formulas.{Formula, IsLiteral}
use Rattle.sv_gates.specs.Gates.{true_literal, false_literal, and_gate, or_gate, xor_gate}
use Rattle.sv_gates.specs.Extending.{Makes}
use Rattle.sv_gates.proofs.ExtendingLaws.{makes_at_once, makes_as}
use Rattle.sv_gates.proofs.Valuations.{negation_true}
use Rattle.sv_gates.proofs.GateLaws.{literal_more, literal_negated, and_makes, or_makes, xor_makes}
use Rattle.sv_circuits.specs.Words.{Word, BitMaker, WordMaker, ready_bit, negation, bitwise_word}
use Rattle.sv_circuits.specs.Words.{and_chain, or_chain, xor_chain}
use Rattle.sv_circuits.specs.Operators.{one_bit}
use Rattle.sv_circuits.specs.Circuits.{bits_of, IsWord, IsBase, GivesBit, GivesWord}
use Rattle.sv_circuits.proofs.Pieces.{GivesEach, values_of, each_gives, GateGives, chain_gives, chained}

-- exactly one of two bits
abbrev pub differ : Bool → Bool → Bool
differ a b = not (beq a b)

-- ---- the literals that are true and false

pub false_known : (values : ℕ → Bool) → values 1 ≡ true → literal_true values false_literal ≡ false
false_known values e = ap not e

pub true_known : (values : ℕ → Bool) → values 1 ≡ true → literal_true values true_literal ≡ true
true_known values e = e

pub false_is : IsLiteral 1 false_literal
false_is = (omega arith, omega arith)

pub true_is : IsLiteral 1 true_literal
true_is = (omega arith, omega arith)

-- ---- pieces that are there, and their negations

pub ready_gives : (n : ℕ) (l : ℤ) → IsLiteral n l →
    GivesBit n (ready_bit l) (λ values. literal_true values l)
ready_gives n l is old h base =
    makes_at_once old l IsLiteral (λ values g. literal_true values g ≡ literal_true values l)
    base.closed (literal_more n old.variables l h is) (λ values e. refl)

pub negation_gives : (n : ℕ) (make : BitMaker) (value : (ℕ → Bool) → Bool) →
    GivesBit n make value → GivesBit n (negation make) (λ values. not (value values))
negation_gives n make value gives old h base =
    let made = make old in
    let p = gives old h base in
    record {
      extends = p.extends;
      within = literal_negated (made.0).variables made.1 p.within;
      says = λ values e.
          negation_true values made.1 p.within.0 ∙ ap not (p.says values e);
    }

pub one_bit_gives : (n : ℕ) (make : BitMaker) (value : (ℕ → Bool) → Bool) →
    GivesBit n make value → GivesWord n (one_bit make) (λ values. value values ∷ [])
one_bit_gives n make value gives old h base =
    let made = make old in
    let p = gives old h base in
    makes_as old made (made.1 ∷ []) IsLiteral IsWord
    (λ values l. literal_true values l ≡ value values)
    (λ values word. bits_of values word ≡ value values ∷ []) p
    (λ is. (is, tt))
    (λ values e. ap (λ b. b ∷ []) e)

-- the values of literals
abbrev pub literal_values : Word → List ((ℕ → Bool) → Bool)
literal_values word = map (λ l values. literal_true values l) word

pub ready_each : (n : ℕ) (word : Word) → IsWord n word →
    GivesEach n (map ready_bit word) (literal_values word)
ready_each n [] is = tt
ready_each n (l ∷ word) is = (ready_gives n l is.0, ready_each n word is.1)

pub literal_bits : (word : Word) (values : ℕ → Bool) →
    values_of (literal_values word) values ≡ bits_of values word
literal_bits [] values = refl
literal_bits (l ∷ word) values = ap (λ bs. literal_true values l ∷ bs) (literal_bits word values)

-- what is made with a value has an equal one
says_as : {A B : Type 0} (old : Formula) (made : Formula × A) (Inside : ℕ → A → Type 0)
    (read : (ℕ → Bool) → A → B) (value other : (ℕ → Bool) → B) →
    ((values : ℕ → Bool) → value values ≡ other values) →
    Makes old made Inside (λ values x. read values x ≡ value values) →
    Makes old made Inside (λ values x. read values x ≡ other values)
says_as old made Inside read value other same p = record {
  extends = p.extends;
  within = p.within;
  says = λ values e. p.says values e ∙ same values;
}

-- a piece that gives a value gives an equal one
pub bit_as : (n : ℕ) (make : BitMaker) (value other : (ℕ → Bool) → Bool) →
    ((values : ℕ → Bool) → value values ≡ other values) → GivesBit n make value →
    GivesBit n make other
bit_as n make value other same gives old h base =
    says_as old (make old) IsLiteral (λ values l. literal_true values l) value other same
    (gives old h base)

pub word_as : (n : ℕ) (make : WordMaker) (value other : (ℕ → Bool) → List Bool) →
    ((values : ℕ → Bool) → value values ≡ other values) → GivesWord n make value →
    GivesWord n make other
word_as n make value other same gives old h base =
    says_as old (make old) IsWord (λ values word. bits_of values word) value other same
    (gives old h base)

-- ---- chains of a word's bits

pub all_gives : (n : ℕ) (word : Word) → IsWord n word →
    GivesBit n (and_chain (map ready_bit word)) (λ values. chained ◌&&◌ true (bits_of values word))
all_gives n word is =
    bit_as n (and_chain (map ready_bit word))
    (λ values. chained ◌&&◌ true (values_of (literal_values word) values))
    (λ values. chained ◌&&◌ true (bits_of values word))
    (λ values. ap (chained ◌&&◌ true) (literal_bits word values))
    (chain_gives and_gate ◌&&◌ and_makes true_literal true true_is true_known n (map ready_bit word)
    (literal_values word) (ready_each n word is))

pub some_gives : (n : ℕ) (word : Word) → IsWord n word →
    GivesBit n (or_chain (map ready_bit word)) (λ values. chained ◌||◌ false (bits_of values word))
some_gives n word is =
    bit_as n (or_chain (map ready_bit word))
    (λ values. chained ◌||◌ false (values_of (literal_values word) values))
    (λ values. chained ◌||◌ false (bits_of values word))
    (λ values. ap (chained ◌||◌ false) (literal_bits word values))
    (chain_gives or_gate ◌||◌ or_makes false_literal false false_is false_known n (map ready_bit word)
    (literal_values word) (ready_each n word is))

pub odd_gives : (n : ℕ) (word : Word) → IsWord n word →
    GivesBit n (xor_chain (map ready_bit word)) (λ values. chained differ false (bits_of values word))
odd_gives n word is =
    bit_as n (xor_chain (map ready_bit word))
    (λ values. chained differ false (values_of (literal_values word) values))
    (λ values. chained differ false (bits_of values word))
    (λ values. ap (chained differ false) (literal_bits word values))
    (chain_gives xor_gate differ xor_makes false_literal false false_is false_known n
    (map ready_bit word) (literal_values word) (ready_each n word is))

-- ---- a gate for each bit

-- an operation of each bit of two lists
abbrev pub joined_bits : (Bool → Bool → Bool) → List Bool → List Bool → List Bool
joined_bits op [] bs = []
joined_bits op (a ∷ more) [] = []
joined_bits op (a ∷ more) (b ∷ bs) = op a b ∷ joined_bits op more bs

-- the values of a gate for each bit
abbrev pub gate_values : (Bool → Bool → Bool) → Word → Word → List ((ℕ → Bool) → Bool)
gate_values op a b =
    map (λ bits values. op (literal_true values bits.0) (literal_true values bits.1)) (zip a b)

pub gate_bits : (op : Bool → Bool → Bool) (a b : Word) (values : ℕ → Bool) →
    values_of (gate_values op a b) values ≡ joined_bits op (bits_of values a) (bits_of values b)
gate_bits op [] [] values = refl
gate_bits op [] (y ∷ b) values = refl
gate_bits op (x ∷ a) [] values = refl
gate_bits op (x ∷ a) (y ∷ b) values =
    ap (λ bs. op (literal_true values x) (literal_true values y) ∷ bs) (gate_bits op a b values)

-- a gate over a formula with the variables of its literals
pub gate_gives : (gate : ℤ → ℤ → BitMaker) (op : Bool → Bool → Bool) → GateGives gate op →
    (n : ℕ) (a b : ℤ) → IsLiteral n a → IsLiteral n b →
    GivesBit n (gate a b) (λ values. op (literal_true values a) (literal_true values b))
gate_gives gate op law n a b is_a is_b old h base =
    law a b old base.closed (literal_more n old.variables a h is_a)
    (literal_more n old.variables b h is_b)

pub gates_each : (gate : ℤ → ℤ → BitMaker) (op : Bool → Bool → Bool) → GateGives gate op →
    (n : ℕ) (a b : Word) → IsWord n a → IsWord n b →
    GivesEach n (map (λ (bits : ℤ × ℤ). gate bits.0 bits.1) (zip a b)) (gate_values op a b)
gates_each gate op law n [] [] is_a is_b = tt
gates_each gate op law n [] (y ∷ b) is_a is_b = tt
gates_each gate op law n (x ∷ a) [] is_a is_b = tt
gates_each gate op law n (x ∷ a) (y ∷ b) is_a is_b =
    (gate_gives gate op law n x y is_a.0 is_b.0, gates_each gate op law n a b is_a.1 is_b.1)

pub per_bit_gives : (gate : ℤ → ℤ → BitMaker) (op : Bool → Bool → Bool) → GateGives gate op →
    (n : ℕ) (a b : Word) → IsWord n a → IsWord n b →
    GivesWord n (bitwise_word gate a b) (λ values. joined_bits op (bits_of values a) (bits_of values b))
per_bit_gives gate op law n a b is_a is_b =
    word_as n (bitwise_word gate a b) (values_of (gate_values op a b))
    (λ values. joined_bits op (bits_of values a) (bits_of values b)) (gate_bits op a b)
    (each_gives n (map (λ (bits : ℤ × ℤ). gate bits.0 bits.1) (zip a b)) (gate_values op a b)
    (gates_each gate op law n a b is_a is_b))

-- ---- equality

-- the negated XOR of two bits
pub same_gives : (a b : ℤ) (old : Formula) → IsBase old → IsLiteral old.variables a →
    IsLiteral old.variables b → Makes old (negation (xor_gate a b) old) IsLiteral
    (λ values g. literal_true values g ≡ not (differ (literal_true values a) (literal_true values b)))
same_gives a b old base is_a is_b =
    negation_gives old.variables (xor_gate a b)
    (λ values. differ (literal_true values a) (literal_true values b))
    (gate_gives xor_gate differ xor_makes old.variables a b is_a is_b) old (omega arith) base
