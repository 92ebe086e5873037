-- Circuits of tests for numbers and of bits by an index.
use Rattle.std.proofs.Common.{◌≡◌, ℕ, suc, ◌≤◌, Bool, true, false, not, ◌&&◌, ℤ}
use Rattle.std.proofs.Common.{neg_ℤ, ◌==◌, List, [], ◌∷◌, take, length, refl, ap, ap₂, ◌∙◌}
use Rattle.std.proofs.Common.{arith, if◌then◌else◌}
use Rattle.std.specs.Prelude.{◌/◌, ◌%◌}
use Rattle.sv_clause.specs.Literals.{literal_true}
use Rattle.sv_gates.specs.Formulas.{Formula, IsLiteral}
use Rattle.sv_gates.specs.Gates.{true_literal, false_literal, and_gate, mux_gate}
use Rattle.sv_gates.specs.Extending.{Makes}
use Rattle.sv_gates.proofs.ExtendingLaws.{makes_at_once, extends_trans, meets-begins}
use Rattle.sv_gates.proofs.Valuations.{negation_true}
use Rattle.sv_gates.proofs.GateLaws.{literal_more, literal_negated, and_makes}
use Rattle.sv_circuits.specs.Words.{Word, WordMaker, ready_bit, equals_number_bit, number_tests}
use Rattle.sv_circuits.specs.Operators.{picked_from, picked_bit, number_count}
use Rattle.sv_circuits.specs.Circuits.{bits_of, IsWord, IsBase, GivesBit}
use Rattle.sv_circuits.proofs.Pieces.{base_more, word_more, mux_behind, GivesEach, values_of}
use Rattle.sv_circuits.proofs.Pieces.{chain_gives, chained}
use Rattle.sv_circuits.proofs.BitPieces.{ready_gives, bit_as, true_is, true_known, false_is}
use Rattle.sv_circuits.proofs.BitPieces.{false_known}
use Rattle.sv_circuits.proofs.Products.{take_is, take_bits}

-- ---- a word is a number

-- the bit, turned where the number's lowest bit is 0
abbrev pub agrees : (n : ℕ) → (bit : Bool) → Bool
agrees n bit = if n % 2 == 1 then bit else not bit

-- for each bit whether it is that of the number
abbrev pub agreeing : List Bool → (n : ℕ) → List Bool
agreeing [] n = []
agreeing (bit ∷ bits) n = agrees n bit ∷ agreeing bits (n / 2)

abbrev pub is_number_bits : List Bool → (n : ℕ) → Bool
is_number_bits bits n = chained ◌&&◌ true (agreeing bits n)

abbrev agreeing_values : Word → ℕ → List ((ℕ → Bool) → Bool)
agreeing_values [] n = []
agreeing_values (l ∷ word) n =
    (λ values. agrees n (literal_true values l)) ∷ agreeing_values word (n / 2)

turned_gives : (n : ℕ) (l : ℤ) (c : Bool) → IsLiteral n l →
    GivesBit n (ready_bit (if c then l else neg_ℤ l))
    (λ values. if c then literal_true values l else not (literal_true values l))
turned_gives n l true is = ready_gives n l is
turned_gives n l false is =
    bit_as n (ready_bit (neg_ℤ l)) (λ values. literal_true values (neg_ℤ l))
    (λ values. not (literal_true values l)) (λ values. negation_true values l is.0)
    (ready_gives n (neg_ℤ l) (literal_negated n l is))

tests_each : (n : ℕ) (word : Word) (k : ℕ) → IsWord n word →
    GivesEach n (number_tests word k) (agreeing_values word k)
tests_each n [] k is = tt
tests_each n (l ∷ word) k is =
    (turned_gives n l (k % 2 == 1) is.0, tests_each n word (k / 2) is.1)

tests_are : (word : Word) (k : ℕ) (values : ℕ → Bool) →
    values_of (agreeing_values word k) values ≡ agreeing (bits_of values word) k
tests_are [] k values = refl
tests_are (l ∷ word) k values =
    ap (λ bs. agrees k (literal_true values l) ∷ bs) (tests_are word (k / 2) values)

pub equals_number_gives : (n : ℕ) (word : Word) (k : ℕ) → IsWord n word →
    GivesBit n (equals_number_bit word k) (λ values. is_number_bits (bits_of values word) k)
equals_number_gives n word k is =
    bit_as n (equals_number_bit word k)
    (λ values. chained ◌&&◌ true (values_of (agreeing_values word k) values))
    (λ values. is_number_bits (bits_of values word) k)
    (λ values. ap (chained ◌&&◌ true) (tests_are word k values))
    (chain_gives and_gate ◌&&◌ and_makes true_literal true true_is true_known n
    (number_tests word k) (agreeing_values word k) (tests_each n word k is))

-- ---- a bit by an index

-- r for the bits before; from bit j on, each bit where the index is its number
abbrev pub picked_bits : (index : List Bool) → (r : Bool) → (j : ℕ) → (bits : List Bool) → Bool
picked_bits index r j [] = r
picked_bits index r j (bit ∷ bits) =
    picked_bits index (if is_number_bits index j then bit else r) (suc j) bits

pub picked_makes : (index : Word) (r : ℤ) (j : ℕ) (bits : Word) (old : Formula) → IsBase old →
    IsWord old.variables index → IsLiteral old.variables r → IsWord old.variables bits →
    Makes old (picked_from index r j bits old) IsLiteral (λ values l. literal_true values l
    ≡ picked_bits (bits_of values index) (literal_true values r) j (bits_of values bits))
picked_makes index r j [] old base is_index is_r is =
    makes_at_once old r IsLiteral (λ values l. literal_true values l ≡ literal_true values r)
    base.closed is_r (λ values e. refl)
picked_makes index r j (bit ∷ bits) old base is_index is_r is =
    let equal = equals_number_bit index j old in
    let m = mux_gate equal.1 bit r equal.0 in
    let pm = mux_behind old equal (λ values. is_number_bits (bits_of values index) j) bit r
    (equals_number_gives old.variables index j is_index old (omega arith) base) is.0 is_r in
    let n = (m.0).variables in
    let up = pm.extends.begins.grows in
    let rest = picked_from index m.1 (suc j) bits m.0 in
    let q = picked_makes index m.1 (suc j) bits m.0 (base_more old m.0 base pm.extends)
    (word_more old.variables n index up is_index) pm.within
    (word_more old.variables n bits up is.1) in
    record {
      extends = extends_trans old m.0 rest.0 pm.extends q.extends;
      within = q.within;
      says = λ values e. q.says values e
          ∙ ap (λ z. picked_bits (bits_of values index) z (suc j) (bits_of values bits))
          (pm.says values (meets-begins m.0 rest.0 values q.extends.begins e));
    }

-- the index is made first, and keeps its meaning
pub picked_behind : (word : Word) (signed : Bool) (make : WordMaker) (Inside : ℕ → Word → Type 0)
    (Means : (ℕ → Bool) → Word → Type 0) (old : Formula) → IsBase old →
    IsWord old.variables word → Makes old (make old) Inside Means →
    IsWord ((make old).0).variables (make old).1 →
    Makes old (picked_bit word signed make old) IsLiteral (λ values l.
    Means values (make old).1
    × (literal_true values l ≡ picked_bits (bits_of values (make old).1) false 0
    (take (number_count (length (make old).1) signed) (bits_of values word))))
picked_behind word signed make Inside Means old base is p is_index =
    let first = make old in
    let n = (first.0).variables in
    let base1 = base_more old first.0 base p.extends in
    let k = number_count (length first.1) signed in
    let made = picked_from first.1 false_literal 0 (take k word) first.0 in
    let q = picked_makes first.1 false_literal 0 (take k word) first.0 base1 is_index
    (literal_more 1 n false_literal base1.some false_is)
    (take_is n k word (word_more old.variables n word p.extends.begins.grows is)) in
    let extends = extends_trans old first.0 made.0 p.extends q.extends in
    record {
      extends = extends;
      within = q.within;
      says = λ values e. (
        p.says values (meets-begins first.0 made.0 values q.extends.begins e),
        q.says values e ∙ ap₂ (λ z bs. picked_bits (bits_of values first.1) z 0 bs)
            (false_known values ((base_more old made.0 base extends).truth values e))
            (take_bits values k word),
      );
    }

pub picked_bit_makes : (word : Word) (signed : Bool) (make : WordMaker)
    (index : (ℕ → Bool) → List Bool) (old : Formula) → IsBase old → IsWord old.variables word →
    Makes old (make old) IsWord (λ values made. bits_of values made ≡ index values) →
    Makes old (picked_bit word signed make old) IsLiteral (λ values l. literal_true values l
    ≡ picked_bits (index values) false 0
    (take (number_count (length (make old).1) signed) (bits_of values word)))
picked_bit_makes word signed make index old base is p =
    let k = number_count (length (make old).1) signed in
    let both = picked_behind word signed make IsWord (λ values made. bits_of values made ≡ index values)
    old base is p p.within in
    record {
      extends = both.extends;
      within = both.within;
      says = λ values e.
          let said = both.says values e in
          said.1 ∙ ap (λ xs. picked_bits xs false 0 (take k (bits_of values word))) said.0;
    }
