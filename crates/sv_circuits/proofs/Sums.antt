-- Circuits of sums: bit by bit what a sum of bits with a carry is.
use Rattle.std.proofs.Common.{◌≡◌, ℕ, Bool, ◌&&◌, ◌||◌, ℤ}
use Rattle.std.proofs.Common.{List, [], ◌∷◌, refl, ap}
use Rattle.std.proofs.Common.{ap₂, ◌∙◌}
use Rattle.sv_clause.specs.Literals.{literal_true}
use Rattle.sv_gates.specs.Formulas.{Formula, IsLiteral}
use Rattle.sv_gates.specs.Gates.{and_gate, or_gate, xor_gate}
use Rattle.sv_gates.specs.Extending.{Makes}
use Rattle.sv_gates.proofs.ExtendingLaws.{makes_at_once, makes_then, makes_as}
use Rattle.sv_gates.proofs.GateLaws.{literal_more, and_makes, or_makes, xor_makes}
use Rattle.sv_circuits.specs.Words.{Word}
use Rattle.sv_circuits.specs.Operators.{add_bits, sum_word}
use Rattle.sv_circuits.specs.Circuits.{bits_of, IsWord, IsBase}
use Rattle.sv_circuits.proofs.Pieces.{base_more, word_more}
use Rattle.sv_circuits.proofs.BitPieces.{differ}

-- ---- bits

-- the bit of a sum, and the carry behind it
abbrev pub sum_bit : (a b carry : Bool) → Bool
sum_bit a b carry = differ (differ a b) carry

abbrev pub carry_bit : (a b carry : Bool) → Bool
carry_bit a b carry = (a && b) || (carry && differ a b)

abbrev pub sum_bits : (a b : List Bool) → (carry : Bool) → List Bool
sum_bits [] bs carry = []
sum_bits (a ∷ more) [] carry = []
sum_bits (a ∷ more) (b ∷ bs) carry = sum_bit a b carry ∷ sum_bits more bs (carry_bit a b carry)

-- ---- circuits

-- both literals of a full adder
abbrev pub AreLiterals : ℕ → ℤ × ℤ → Type 0
AreLiterals n pair = IsLiteral n pair.0 × IsLiteral n pair.1

abbrev pub IsSumAndCarry : ℤ → ℤ → ℤ → (ℕ → Bool) → ℤ × ℤ → Type 0
IsSumAndCarry a b carry values pair =
    (literal_true values pair.0
    ≡ sum_bit (literal_true values a) (literal_true values b) (literal_true values carry))
    × (literal_true values pair.1
    ≡ carry_bit (literal_true values a) (literal_true values b) (literal_true values carry))

pub adder_makes : (a b carry : ℤ) (old : Formula) → IsBase old → IsLiteral old.variables a →
    IsLiteral old.variables b → IsLiteral old.variables carry →
    Makes old (add_bits a b carry old) AreLiterals (IsSumAndCarry a b carry)
adder_makes a b carry old base is_a is_b is_c =
    let x = xor_gate a b old in
    let px = xor_makes a b old base.closed is_a is_b in
    let n1 = (x.0).variables in
    let base1 = base_more old x.0 base px.extends in
    let up1 = px.extends.begins.grows in
    let sum = xor_gate x.1 carry x.0 in
    let c1 = literal_more old.variables n1 carry up1 is_c in
    let ps = xor_makes x.1 carry x.0 base1.closed px.within c1 in
    let n2 = (sum.0).variables in
    let base2 = base_more x.0 sum.0 base1 ps.extends in
    let up2 = ps.extends.begins.grows in
    let a2 = literal_more n1 n2 a up2 (literal_more old.variables n1 a up1 is_a) in
    let b2 = literal_more n1 n2 b up2 (literal_more old.variables n1 b up1 is_b) in
    let p = and_gate a b sum.0 in
    let pp = and_makes a b sum.0 base2.closed a2 b2 in
    let n3 = (p.0).variables in
    let base3 = base_more sum.0 p.0 base2 pp.extends in
    let up3 = pp.extends.begins.grows in
    let c3 = literal_more n2 n3 carry up3 (literal_more n1 n2 carry up2 c1) in
    let x3 = literal_more n2 n3 x.1 up3 (literal_more n1 n2 x.1 up2 px.within) in
    let q = and_gate carry x.1 p.0 in
    let pq = and_makes carry x.1 p.0 base3.closed c3 x3 in
    let n4 = (q.0).variables in
    let base4 = base_more p.0 q.0 base3 pq.extends in
    let up4 = pq.extends.begins.grows in
    let next = or_gate p.1 q.1 q.0 in
    let pn = or_makes p.1 q.1 q.0 base4.closed (literal_more n3 n4 p.1 up4 pp.within) pq.within in
    let n5 = (next.0).variables in
    let up5 = pn.extends.begins.grows in
    let va = λ (values : ℕ → Bool). literal_true values a in
    let vb = λ (values : ℕ → Bool). literal_true values b in
    let vc = λ (values : ℕ → Bool). literal_true values carry in
    makes_as old next (sum.1, next.1) IsLiteral AreLiterals
    (λ values l. (literal_true values x.1 ≡ differ (va values) (vb values))
    × ((literal_true values sum.1 ≡ differ (literal_true values x.1) (vc values))
    × ((literal_true values p.1 ≡ (va values && vb values))
    × ((literal_true values q.1 ≡ (vc values && literal_true values x.1))
    × (literal_true values l ≡ (literal_true values p.1 || literal_true values q.1))))))
    (IsSumAndCarry a b carry)
    (makes_then old x next IsLiteral IsLiteral
    (λ values l. literal_true values l ≡ differ (va values) (vb values))
    (λ values l. (literal_true values sum.1 ≡ differ (literal_true values x.1) (vc values))
    × ((literal_true values p.1 ≡ (va values && vb values))
    × ((literal_true values q.1 ≡ (vc values && literal_true values x.1))
    × (literal_true values l ≡ (literal_true values p.1 || literal_true values q.1)))))
    px
    (makes_then x.0 sum next IsLiteral IsLiteral
    (λ values l. literal_true values l ≡ differ (literal_true values x.1) (vc values))
    (λ values l. (literal_true values p.1 ≡ (va values && vb values))
    × ((literal_true values q.1 ≡ (vc values && literal_true values x.1))
    × (literal_true values l ≡ (literal_true values p.1 || literal_true values q.1))))
    ps
    (makes_then sum.0 p next IsLiteral IsLiteral
    (λ values l. literal_true values l ≡ (va values && vb values))
    (λ values l. (literal_true values q.1 ≡ (vc values && literal_true values x.1))
    × (literal_true values l ≡ (literal_true values p.1 || literal_true values q.1)))
    pp
    (makes_then p.0 q next IsLiteral IsLiteral
    (λ values l. literal_true values l ≡ (vc values && literal_true values x.1))
    (λ values l. literal_true values l ≡ (literal_true values p.1 || literal_true values q.1))
    pq pn))))
    (λ is. (
      literal_more n4 n5 sum.1 up5
          (literal_more n3 n4 sum.1 up4 (literal_more n2 n3 sum.1 up3 ps.within)),
      is,
    ))
    (λ values e. (
      e.1.0 ∙ ap (λ z. differ z (vc values)) e.0,
      e.1.1.1.1 ∙ ap₂ ◌||◌ e.1.1.0 (e.1.1.1.0 ∙ ap (λ z. vc values && z) e.0),
    ))

pub sum_makes : (a b : Word) (carry : ℤ) (old : Formula) → IsBase old → IsWord old.variables a →
    IsWord old.variables b → IsLiteral old.variables carry →
    Makes old (sum_word a b carry old) IsWord (λ values word. bits_of values word
    ≡ sum_bits (bits_of values a) (bits_of values b) (literal_true values carry))
sum_makes [] b carry old base is_a is_b is_c =
    makes_at_once old [] IsWord (λ values word. bits_of values word ≡ []) base.closed tt
    (λ values e. refl)
sum_makes (a ∷ more) [] carry old base is_a is_b is_c =
    makes_at_once old [] IsWord (λ values word. bits_of values word ≡ []) base.closed tt
    (λ values e. refl)
sum_makes (a ∷ more) (b ∷ bs) carry old base is_a is_b is_c =
    let first = add_bits a b carry old in
    let p = adder_makes a b carry old base is_a.0 is_b.0 is_c in
    let n1 = (first.0).variables in
    let up = p.extends.begins.grows in
    let rest = sum_word more bs first.1.1 first.0 in
    let q = sum_makes more bs first.1.1 first.0 (base_more old first.0 base p.extends)
    (word_more old.variables n1 more up is_a.1) (word_more old.variables n1 bs up is_b.1)
    p.within.1 in
    makes_as old rest (first.1.0 ∷ rest.1) IsWord IsWord
    (λ values word. IsSumAndCarry a b carry values first.1
    × (bits_of values word
    ≡ sum_bits (bits_of values more) (bits_of values bs) (literal_true values first.1.1)))
    (λ values word. bits_of values word
    ≡ sum_bits (bits_of values (a ∷ more)) (bits_of values (b ∷ bs)) (literal_true values carry))
    (makes_then old first rest AreLiterals IsWord (IsSumAndCarry a b carry)
    (λ values word. bits_of values word
    ≡ sum_bits (bits_of values more) (bits_of values bs) (literal_true values first.1.1)) p q)
    (λ is. (
      literal_more n1 (rest.0).variables first.1.0 q.extends.begins.grows p.within.0,
      is,
    ))
    (λ values e. ap₂ ◌∷◌ e.0.0
    (e.1 ∙ ap (sum_bits (bits_of values more) (bits_of values bs)) e.0.1))
