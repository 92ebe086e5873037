-- Circuits of differences and products, bit by bit.
use Rattle.std.proofs.Common.{◌≡◌, ℕ, zero, suc, ◌-◌, ◌≤◌, Bool, true, false, not, ◌&&◌, ℤ}
use Rattle.std.proofs.Common.{List, [], ◌∷◌, ◌++◌, map, take, replicate, length, refl, sym, ap, ap₂}
use Rattle.std.proofs.Common.{◌∙◌, arith}
use Rattle.sv_clause.specs.Literals.{literal_true}
use Rattle.sv_gates.specs.Formulas.{Formula, IsLiteral}
use Rattle.sv_gates.specs.Gates.{true_literal, false_literal, and_gate}
use Rattle.sv_gates.specs.Extending.{Makes}
use Rattle.sv_gates.proofs.ExtendingLaws.{makes_at_once, makes_then, makes_as}
use Rattle.sv_gates.proofs.Valuations.{negation_true}
use Rattle.sv_gates.proofs.GateLaws.{literal_more, literal_negated, and_makes}
use Rattle.sv_circuits.specs.Words.{Word, inverted_word, made_in_turn}
use Rattle.sv_circuits.specs.Operators.{sum_word, difference_word, minus_word, product_row}
use Rattle.sv_circuits.specs.Operators.{product_rows, total_from, total_word, product_word}
use Rattle.sv_circuits.specs.Circuits.{bits_of, IsWord, IsBase}
use Rattle.sv_circuits.proofs.Pieces.{base_more, word_more, GivesEach, values_of, each_gives}
use Rattle.sv_circuits.proofs.BitPieces.{gate_gives, false_known, true_known, false_is, true_is}
use Rattle.sv_circuits.proofs.Sums.{sum_bits, sum_makes}

-- ---- differences

pub inverted_is : (n : ℕ) (word : Word) → IsWord n word → IsWord n (inverted_word word)
inverted_is n [] is = tt
inverted_is n (l ∷ word) is = (literal_negated n l is.0, inverted_is n word is.1)

pub inverted_bits : (n : ℕ) (values : ℕ → Bool) (word : Word) → IsWord n word →
    bits_of values (inverted_word word) ≡ map not (bits_of values word)
inverted_bits n values [] is = refl
inverted_bits n values (l ∷ word) is =
    ap₂ ◌∷◌ (negation_true values l is.0.0) (inverted_bits n values word is.1)

pub difference_makes : (a b : Word) (old : Formula) → IsBase old → IsWord old.variables a →
    IsWord old.variables b → Makes old (difference_word a b old) IsWord
    (λ values word. bits_of values word
    ≡ sum_bits (bits_of values a) (map not (bits_of values b)) true)
difference_makes a b old base is_a is_b =
    let made = difference_word a b old in
    let p = sum_makes a (inverted_word b) true_literal old base is_a
    (inverted_is old.variables b is_b) (literal_more 1 old.variables true_literal base.some true_is) in
    record {
      extends = p.extends;
      within = p.within;
      says = λ values e.
          p.says values e
          ∙ ap₂ (λ bs c. sum_bits (bits_of values a) bs c)
          (inverted_bits old.variables values b is_b)
          (true_known values ((base_more old made.0 base p.extends).truth values e));
    }

pub falses_are : (n k : ℕ) → 1 ≤ n → IsWord n (replicate k false_literal)
falses_are n zero some = tt
falses_are n (suc k) some = (literal_more 1 n false_literal some false_is, falses_are n k some)

pub falses_bits : (values : ℕ → Bool) → values 1 ≡ true → (k : ℕ) →
    bits_of values (replicate k false_literal) ≡ replicate k false
falses_bits values e zero = refl
falses_bits values e (suc k) = ap₂ ◌∷◌ (false_known values e) (falses_bits values e k)

pub minus_makes : (a : Word) (old : Formula) → IsBase old → IsWord old.variables a →
    Makes old (minus_word a old) IsWord (λ values word. bits_of values word
    ≡ sum_bits (replicate (length a) false) (map not (bits_of values a)) true)
minus_makes a old base is_a =
    let zeros = replicate (length a) false_literal in
    let made = difference_word zeros a old in
    let p = difference_makes zeros a old base (falses_are old.variables (length a) base.some) is_a in
    record {
      extends = p.extends;
      within = p.within;
      says = λ values e.
          p.says values e
          ∙ ap (λ bs. sum_bits bs (map not (bits_of values a)) true)
          (falses_bits values ((base_more old made.0 base p.extends).truth values e) (length a));
    }

-- ---- products

-- each bit of a where the bit b is 1
abbrev pub masked_bits : (a : List Bool) → (b : Bool) → List Bool
masked_bits a b = map (λ x. x && b) a

-- row i of a product
abbrev pub row_bits : (a : List Bool) → (i : ℕ) → (b : Bool) → List Bool
row_bits a i b = replicate i false ++ masked_bits (take (length a - i) a) b

abbrev pub rows_bits : (a : List Bool) → (i : ℕ) → (b : List Bool) → List (List Bool)
rows_bits a i [] = []
rows_bits a i (b ∷ bs) = row_bits a i b ∷ rows_bits a (suc i) bs

abbrev pub total_bits_from : (total : List Bool) → List (List Bool) → List Bool
total_bits_from total [] = total
total_bits_from total (row ∷ rows) = total_bits_from (sum_bits total row false) rows

abbrev pub total_bits : List (List Bool) → List Bool
total_bits [] = []
total_bits (row ∷ rows) = total_bits_from row rows

abbrev masked_values : (a : Word) (b : ℤ) → List ((ℕ → Bool) → Bool)
masked_values a b = map (λ x values. literal_true values x && literal_true values b) a

masked_each : (n : ℕ) (a : Word) (b : ℤ) → IsWord n a → IsLiteral n b →
    GivesEach n (map (λ x. and_gate x b) a) (masked_values a b)
masked_each n [] b is_a is_b = tt
masked_each n (x ∷ a) b is_a is_b =
    (gate_gives and_gate ◌&&◌ and_makes n x b is_a.0 is_b, masked_each n a b is_a.1 is_b)

masked_are : (a : Word) (b : ℤ) (values : ℕ → Bool) →
    values_of (masked_values a b) values ≡ masked_bits (bits_of values a) (literal_true values b)
masked_are [] b values = refl
masked_are (x ∷ a) b values =
    ap (λ bs. (literal_true values x && literal_true values b) ∷ bs) (masked_are a b values)

pub take_is : (n k : ℕ) (word : Word) → IsWord n word → IsWord n (take k word)
take_is n zero word is = tt
take_is n (suc k) [] is = tt
take_is n (suc k) (l ∷ word) is = (is.0, take_is n k word is.1)

pub take_bits : (values : ℕ → Bool) (k : ℕ) (word : Word) →
    bits_of values (take k word) ≡ take k (bits_of values word)
take_bits values zero word = refl
take_bits values (suc k) [] = refl
take_bits values (suc k) (l ∷ word) = ap (λ bs. literal_true values l ∷ bs) (take_bits values k word)

pub bits_length : (values : ℕ → Bool) (word : Word) → length (bits_of values word) ≡ length word
bits_length values [] = refl
bits_length values (l ∷ word) = ap suc (bits_length values word)

pub joined_is : (n : ℕ) (a b : Word) → IsWord n a → IsWord n b → IsWord n (a ++ b)
joined_is n [] b is_a is_b = is_b
joined_is n (l ∷ a) b is_a is_b = (is_a.0, joined_is n a b is_a.1 is_b)

pub joined_bits_are : (values : ℕ → Bool) (a b : Word) →
    bits_of values (a ++ b) ≡ bits_of values a ++ bits_of values b
joined_bits_are values [] b = refl
joined_bits_are values (l ∷ a) b = ap (λ bs. literal_true values l ∷ bs) (joined_bits_are values a b)

pub row_makes : (a : Word) (i : ℕ) (b : ℤ) (old : Formula) → IsBase old → IsWord old.variables a →
    IsLiteral old.variables b → Makes old (product_row a i b old) IsWord
    (λ values word. bits_of values word
    ≡ row_bits (bits_of values a) i (literal_true values b))
row_makes a i b old base is_a is_b =
    let low = take (length a - i) a in
    let makes = map (λ x. and_gate x b) low in
    let made = made_in_turn makes old in
    let p = each_gives old.variables makes (masked_values low b)
    (masked_each old.variables low b (take_is old.variables (length a - i) a is_a) is_b) old
    (omega arith) base in
    let n1 = (made.0).variables in
    let base1 = base_more old made.0 base p.extends in
    record {
      extends = p.extends;
      within = joined_is n1 (replicate i false_literal) made.1 (falses_are n1 i base1.some) p.within;
      says = λ values e.
          joined_bits_are values (replicate i false_literal) made.1
          ∙ ap₂ ◌++◌ (falses_bits values (base1.truth values e) i)
          (p.says values e ∙ masked_are low b values
          ∙ ap (λ bs. masked_bits bs (literal_true values b)) (take_bits values (length a - i) a)
          ∙ ap (λ k. masked_bits (take (k - i) (bits_of values a)) (literal_true values b))
          (sym (bits_length values a)));
    }

-- words of these variables, one after the other
abbrev pub AreWords : ℕ → List Word → Type 0
AreWords n [] = Unit {0}
AreWords n (word ∷ words) = IsWord n word × AreWords n words

abbrev pub all_bits : (ℕ → Bool) → List Word → List (List Bool)
all_bits values words = map (bits_of values) words

pub words_more : (m n : ℕ) (words : List Word) → m ≤ n → AreWords m words → AreWords n words
words_more m n [] h are = tt
words_more m n (word ∷ words) h are =
    (word_more m n word h are.0, words_more m n words h are.1)

pub rows_make : (a : Word) (i : ℕ) (b : Word) (old : Formula) → IsBase old →
    IsWord old.variables a → IsWord old.variables b →
    Makes old (product_rows a i b old) AreWords
    (λ values rows. all_bits values rows ≡ rows_bits (bits_of values a) i (bits_of values b))
rows_make a i [] old base is_a is_b =
    makes_at_once old [] AreWords (λ values rows. all_bits values rows ≡ []) base.closed tt
    (λ values e. refl)
rows_make a i (b ∷ bs) old base is_a is_b =
    let row = product_row a i b old in
    let p = row_makes a i b old base is_a is_b.0 in
    let n1 = (row.0).variables in
    let up = p.extends.begins.grows in
    let rest = product_rows a (suc i) bs row.0 in
    let q = rows_make a (suc i) bs row.0 (base_more old row.0 base p.extends)
    (word_more old.variables n1 a up is_a) (word_more old.variables n1 bs up is_b.1) in
    makes_as old rest (row.1 ∷ rest.1) AreWords AreWords
    (λ values rows. (bits_of values row.1
    ≡ row_bits (bits_of values a) i (literal_true values b))
    × (all_bits values rows ≡ rows_bits (bits_of values a) (suc i) (bits_of values bs)))
    (λ values rows. all_bits values rows
    ≡ rows_bits (bits_of values a) i (bits_of values (b ∷ bs)))
    (makes_then old row rest IsWord AreWords
    (λ values word. bits_of values word ≡ row_bits (bits_of values a) i (literal_true values b))
    (λ values rows. all_bits values rows
    ≡ rows_bits (bits_of values a) (suc i) (bits_of values bs)) p q)
    (λ is. (word_more n1 (rest.0).variables row.1 q.extends.begins.grows p.within, is))
    (λ values e. ap₂ ◌∷◌ e.0 e.1)

pub total_makes : (total : Word) (rows : List Word) (old : Formula) → IsBase old →
    IsWord old.variables total → AreWords old.variables rows →
    Makes old (total_from total rows old) IsWord
    (λ values word. bits_of values word
    ≡ total_bits_from (bits_of values total) (all_bits values rows))
total_makes total [] old base is are =
    makes_at_once old total IsWord (λ values word. bits_of values word ≡ bits_of values total)
    base.closed is (λ values e. refl)
total_makes total (row ∷ rows) old base is are =
    let sum = sum_word total row false_literal old in
    let p = sum_makes total row false_literal old base is are.0
    (literal_more 1 old.variables false_literal base.some false_is) in
    let n1 = (sum.0).variables in
    let base1 = base_more old sum.0 base p.extends in
    let rest = total_from sum.1 rows sum.0 in
    let q = total_makes sum.1 rows sum.0 base1 p.within
    (words_more old.variables n1 rows p.extends.begins.grows are.1) in
    let both = makes_then old sum rest IsWord IsWord
    (λ values word. bits_of values word ≡ sum_bits (bits_of values total)
    (bits_of values row) (literal_true values false_literal))
    (λ values word. bits_of values word
    ≡ total_bits_from (bits_of values sum.1) (all_bits values rows)) p q in
    record {
      extends = both.extends;
      within = both.within;
      says = λ values e.
          let said = both.says values e in
          said.1 ∙ ap (λ bs. total_bits_from bs (all_bits values rows))
          (said.0 ∙ ap (sum_bits (bits_of values total) (bits_of values row))
          (false_known values ((base_more old rest.0 base both.extends).truth values e)));
    }

pub total_word_makes : (rows : List Word) (old : Formula) → IsBase old →
    AreWords old.variables rows → Makes old (total_word rows old) IsWord
    (λ values word. bits_of values word ≡ total_bits (all_bits values rows))
total_word_makes [] old base are =
    makes_at_once old [] IsWord (λ values word. bits_of values word ≡ []) base.closed tt
    (λ values e. refl)
total_word_makes (row ∷ rows) old base are = total_makes row rows old base are.0 are.1

-- the bits of a product, modulo 2 to the length
abbrev pub product_bits : (a b : List Bool) → List Bool
product_bits a b = total_bits (rows_bits a 0 b)

pub product_makes : (a b : Word) (old : Formula) → IsBase old → IsWord old.variables a →
    IsWord old.variables b → Makes old (product_word a b old) IsWord
    (λ values word. bits_of values word ≡ product_bits (bits_of values a) (bits_of values b))
product_makes a b old base is_a is_b =
    let rows = product_rows a 0 b old in
    let p = rows_make a 0 b old base is_a is_b in
    let base1 = base_more old rows.0 base p.extends in
    let q = total_word_makes rows.1 rows.0 base1 p.within in
    let both = makes_then old rows (total_word rows.1 rows.0) AreWords IsWord
    (λ values words. all_bits values words ≡ rows_bits (bits_of values a) 0 (bits_of values b))
    (λ values word. bits_of values word ≡ total_bits (all_bits values rows.1)) p q in
    record {
      extends = both.extends;
      within = both.within;
      says = λ values e. let said = both.says values e in said.1 ∙ ap total_bits said.0;
    }
