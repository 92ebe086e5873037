-- Circuits of comparisons, bit by bit.
use Rattle.std.proofs.Common.{◌≡◌, ℕ, zero, suc, ◌-◌, ◌≤◌, Bool, true, false, not, ◌&&◌, ℤ}
use Rattle.std.proofs.Common.{List, [], ◌∷◌, ◌++◌, map, take, drop, length, refl, sym, ap, ap₂, ◌∙◌}
use Rattle.std.proofs.Common.{if◌then◌else◌}
use Rattle.std.specs.List.{zip}
use Rattle.sv_clause.specs.Literals.{literal_true}
use Rattle.sv_gates.specs.Formulas.{Formula, IsLiteral}
use Rattle.sv_gates.specs.Gates.{true_literal, false_literal, and_gate, xor_gate, mux_gate}
use Rattle.sv_gates.specs.Extending.{Makes}
use Rattle.sv_gates.proofs.ExtendingLaws.{makes_at_once, extends_trans, meets-begins}
use Rattle.sv_gates.proofs.GateLaws.{literal_more, and_makes, xor_makes}
use Rattle.sv_circuits.specs.Words.{Word, inverted_word, equal_bit, negation}
use Rattle.sv_circuits.specs.Operators.{less_from, ordered_word, less_bit}
use Rattle.sv_circuits.specs.Circuits.{bits_of, IsWord, IsBase, GivesBit}
use Rattle.sv_circuits.proofs.Pieces.{base_more, word_more, mux_behind, GivesEach, values_of}
use Rattle.sv_circuits.proofs.Pieces.{chain_gives, chained}
use Rattle.sv_circuits.proofs.BitPieces.{differ, bit_as, joined_bits, negation_gives}
use Rattle.sv_circuits.proofs.BitPieces.{gate_gives, true_is, true_known, false_is, false_known}
use Rattle.sv_circuits.proofs.Products.{inverted_is, inverted_bits, take_is, take_bits, bits_length}
use Rattle.sv_circuits.proofs.Products.{joined_is, joined_bits_are}

-- ---- equality

abbrev pub same : Bool → Bool → Bool
same a b = not (differ a b)

abbrev same_values : Word → Word → List ((ℕ → Bool) → Bool)
same_values a b =
    map (λ bits values. same (literal_true values bits.0) (literal_true values bits.1)) (zip a b)

same_bits : (a b : Word) (values : ℕ → Bool) →
    values_of (same_values a b) values ≡ joined_bits same (bits_of values a) (bits_of values b)
same_bits [] [] values = refl
same_bits [] (y ∷ b) values = refl
same_bits (x ∷ a) [] values = refl
same_bits (x ∷ a) (y ∷ b) values =
    ap (λ bs. same (literal_true values x) (literal_true values y) ∷ bs) (same_bits a b values)

same_each : (n : ℕ) (a b : Word) → IsWord n a → IsWord n b →
    GivesEach n (map (λ (bits : ℤ × ℤ). negation (xor_gate bits.0 bits.1)) (zip a b))
    (same_values a b)
same_each n [] [] is_a is_b = tt
same_each n [] (y ∷ b) is_a is_b = tt
same_each n (x ∷ a) [] is_a is_b = tt
same_each n (x ∷ a) (y ∷ b) is_a is_b = (
  negation_gives n (xor_gate x y)
      (λ values. differ (literal_true values x) (literal_true values y))
      (gate_gives xor_gate differ xor_makes n x y is_a.0 is_b.0),
  same_each n a b is_a.1 is_b.1,
)

-- all bits are the same
abbrev pub equal_bits : List Bool → List Bool → Bool
equal_bits a b = chained ◌&&◌ true (joined_bits same a b)

pub equal_gives : (n : ℕ) (a b : Word) → IsWord n a → IsWord n b →
    GivesBit n (equal_bit a b) (λ values. equal_bits (bits_of values a) (bits_of values b))
equal_gives n a b is_a is_b =
    bit_as n (equal_bit a b)
    (λ values. chained ◌&&◌ true (values_of (same_values a b) values))
    (λ values. equal_bits (bits_of values a) (bits_of values b))
    (λ values. ap (chained ◌&&◌ true) (same_bits a b values))
    (chain_gives and_gate ◌&&◌ and_makes true_literal true true_is true_known n
    (map (λ (bits : ℤ × ℤ). negation (xor_gate bits.0 bits.1)) (zip a b)) (same_values a b)
    (same_each n a b is_a is_b))

-- ---- order

-- whether a is less than b: `less` tells of the bits below
abbrev pub less_bits : (a b : List Bool) → (less : Bool) → Bool
less_bits [] bs less = less
less_bits (a ∷ more) [] less = less
less_bits (a ∷ more) (b ∷ bs) less = less_bits more bs (if differ a b then b else less)

pub less_makes : (a b : Word) (less : ℤ) (old : Formula) → IsBase old → IsWord old.variables a →
    IsWord old.variables b → IsLiteral old.variables less →
    Makes old (less_from a b less old) IsLiteral (λ values l. literal_true values l
    ≡ less_bits (bits_of values a) (bits_of values b) (literal_true values less))
less_makes [] b less old base is_a is_b is =
    makes_at_once old less IsLiteral (λ values l. literal_true values l ≡ literal_true values less)
    base.closed is (λ values e. refl)
less_makes (a ∷ more) [] less old base is_a is_b is =
    makes_at_once old less IsLiteral (λ values l. literal_true values l ≡ literal_true values less)
    base.closed is (λ values e. refl)
less_makes (a ∷ more) (b ∷ bs) less old base is_a is_b is =
    let x = xor_gate a b old in
    let m = mux_gate x.1 b less x.0 in
    let pm = mux_behind old x (λ values. differ (literal_true values a) (literal_true values b)) b less
    (xor_makes a b old base.closed is_a.0 is_b.0) is_b.0 is in
    let n = (m.0).variables in
    let up = pm.extends.begins.grows in
    let rest = less_from more bs m.1 m.0 in
    let q = less_makes more bs m.1 m.0 (base_more old m.0 base pm.extends)
    (word_more old.variables n more up is_a.1) (word_more old.variables n bs up is_b.1)
    pm.within in
    record {
      extends = extends_trans old m.0 rest.0 pm.extends q.extends;
      within = q.within;
      says = λ values e. q.says values e ∙ ap (less_bits (bits_of values more) (bits_of values bs))
          (pm.says values (meets-begins m.0 rest.0 values q.extends.begins e));
    }

-- the highest bit turned where the type is signed
abbrev pub ordered_bits : (signed : Bool) → List Bool → List Bool
ordered_bits signed bits =
    if signed
    then take (length bits - 1) bits ++ map not (drop (length bits - 1) bits)
    else bits

pub drop_is : (n k : ℕ) (word : Word) → IsWord n word → IsWord n (drop k word)
drop_is n zero word is = is
drop_is n (suc k) [] is = tt
drop_is n (suc k) (l ∷ word) is = drop_is n k word is.1

pub drop_bits : (values : ℕ → Bool) (k : ℕ) (word : Word) →
    bits_of values (drop k word) ≡ drop k (bits_of values word)
drop_bits values zero word = refl
drop_bits values (suc k) [] = refl
drop_bits values (suc k) (l ∷ word) = drop_bits values k word

pub ordered_is : (n : ℕ) (signed : Bool) (word : Word) → IsWord n word →
    IsWord n (ordered_word signed word)
ordered_is n true word is =
    joined_is n (take (length word - 1) word) (inverted_word (drop (length word - 1) word))
    (take_is n (length word - 1) word is)
    (inverted_is n (drop (length word - 1) word) (drop_is n (length word - 1) word is))
ordered_is n false word is = is

pub ordered_bits_are : (n : ℕ) (values : ℕ → Bool) (signed : Bool) (word : Word) → IsWord n word →
    bits_of values (ordered_word signed word) ≡ ordered_bits signed (bits_of values word)
ordered_bits_are n values true word is =
    let k = length word - 1 in
    joined_bits_are values (take k word) (inverted_word (drop k word))
    ∙ ap₂ ◌++◌ (take_bits values k word)
    (inverted_bits n values (drop k word) (drop_is n k word is)
    ∙ ap (map not) (drop_bits values k word))
    ∙ ap (λ j. take (j - 1) (bits_of values word) ++ map not (drop (j - 1) (bits_of values word)))
    (sym (bits_length values word))
ordered_bits_are n values false word is = refl

pub less_than_gives : (n : ℕ) (signed : Bool) (a b : Word) → IsWord n a → IsWord n b →
    GivesBit n (less_bit signed a b) (λ values. less_bits (ordered_bits signed (bits_of values a))
    (ordered_bits signed (bits_of values b)) false)
less_than_gives n signed a b is_a is_b old h base =
    let x = ordered_word signed a in
    let y = ordered_word signed b in
    let made = less_from x y false_literal old in
    let is_x = word_more n old.variables a h is_a in
    let is_y = word_more n old.variables b h is_b in
    let p = less_makes x y false_literal old base (ordered_is old.variables signed a is_x)
    (ordered_is old.variables signed b is_y)
    (literal_more 1 old.variables false_literal base.some false_is) in
    record {
      extends = p.extends;
      within = p.within;
      says = λ values e.
          p.says values e
          ∙ ap₂ (λ xs ys. less_bits xs ys (literal_true values false_literal))
          (ordered_bits_are old.variables values signed a is_x)
          (ordered_bits_are old.variables values signed b is_y)
          ∙ ap (less_bits (ordered_bits signed (bits_of values a))
          (ordered_bits signed (bits_of values b)))
          (false_known values ((base_more old made.0 base p.extends).truth values e));
    }
