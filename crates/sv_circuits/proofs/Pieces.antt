-- Pieces of an encoding put together: one after the other, as a word of bits, and as a chain.
use Rattle.std.proofs.Common.{◌≡◌, ℕ, ◌≤◌, Bool, true, ℤ, List, []}
use Rattle.std.proofs.Common.{◌∷◌, map, fold, refl, ap, ap₂, ◌∙◌, arith}
use Rattle.std.proofs.Common.{if◌then◌else◌}
use Rattle.sv_clause.specs.Literals.{literal_true}
use Rattle.sv_gates.specs.Formulas.{Formula, meets, IsLiteral, IsClosed}
use Rattle.sv_gates.specs.Gates.{mux_gate}
use Rattle.sv_gates.specs.Extending.{Extends, Makes}
use Rattle.sv_gates.proofs.ExtendingLaws.{extends_trans, meets-begins}
use Rattle.sv_gates.proofs.ExtendingLaws.{makes_at_once, makes_then, makes_as}
use Rattle.sv_gates.proofs.GateLaws.{literal_more, mux_makes}
use Rattle.sv_circuits.specs.Words.{Word, BitMaker, made_in_turn, chain_from, chain}
use Rattle.sv_circuits.specs.Circuits.{bits_of, IsWord, IsBase, GivesBit, GivesWord}

-- what is a base is one with more variables and clauses too
pub base_more : (old new : Formula) → IsBase old → Extends old new → IsBase new
base_more old new base extends = record {
  closed = extends.closed;
  some = omega (arith, base.some, extends.begins.grows);
  truth = λ values e. base.truth values (meets-begins old new values extends.begins e);
}

pub word_more : (m n : ℕ) (word : Word) → m ≤ n → IsWord m word → IsWord n word
word_more m n [] h is = tt
word_more m n (l ∷ word) h is = (literal_more m n l h is.0, word_more m n word h is.1)

-- a piece with a meaning that follows from its own
pub makes_meaning : {A : Type 0} {old : Formula} {made : Formula × A} {Inside : ℕ → A → Type 0}
    {Means : (ℕ → Bool) → A → Type 0} → Makes old made Inside Means →
    (Says : (ℕ → Bool) → A → Type 0) →
    ((values : ℕ → Bool) → meets values (made.0).clauses ≡ true → Means values made.1 →
    Says values made.1) → Makes old made Inside Says
makes_meaning p Says follows = record {
  extends = p.extends;
  within = p.within;
  says = λ values e. follows values e (p.says values e);
}

-- a multiplexer by a literal that was made, of two that were there before
pub mux_behind : (old : Formula) (first : Formula × ℤ) (v : (ℕ → Bool) → Bool) (a b : ℤ) →
    Makes old first IsLiteral (λ values l. literal_true values l ≡ v values) →
    IsLiteral old.variables a → IsLiteral old.variables b →
    Makes old (mux_gate first.1 a b first.0) IsLiteral (λ values l. literal_true values l
    ≡ (if v values then literal_true values a else literal_true values b))
mux_behind old first v a b p is_a is_b =
    let n = (first.0).variables in
    let up = p.extends.begins.grows in
    let made = mux_gate first.1 a b first.0 in
    let q = mux_makes first.1 a b first.0 p.extends.closed p.within
    (literal_more old.variables n a up is_a) (literal_more old.variables n b up is_b) in
    record {
      extends = extends_trans old first.0 made.0 p.extends q.extends;
      within = q.within;
      says = λ values e. q.says values e
          ∙ ap (λ z. if z then literal_true values a else literal_true values b)
          (p.says values (meets-begins first.0 made.0 values q.extends.begins e));
    }

-- ---- bits one after the other

-- each piece gives its value
abbrev pub GivesEach : ℕ → List BitMaker → List ((ℕ → Bool) → Bool) → Type 0
GivesEach n [] [] = Unit {0}
GivesEach n [] (v ∷ vs) = ⊥
GivesEach n (make ∷ makes) [] = ⊥
GivesEach n (make ∷ makes) (v ∷ vs) = GivesBit n make v × GivesEach n makes vs

abbrev pub values_of : List ((ℕ → Bool) → Bool) → (ℕ → Bool) → List Bool
values_of vs values = map (λ v. v values) vs

pub each_gives : (n : ℕ) (makes : List BitMaker) (vs : List ((ℕ → Bool) → Bool)) →
    GivesEach n makes vs → GivesWord n (made_in_turn makes) (values_of vs)
each_gives n [] [] gives old h base =
    makes_at_once old [] IsWord (λ values word. bits_of values word ≡ []) base.closed tt
    (λ values e. refl)
each_gives n [] (v ∷ vs) gives old h base = absurd gives
each_gives n (make ∷ makes) [] gives old h base = absurd gives
each_gives n (make ∷ makes) (v ∷ vs) gives old h base =
    let first = make old in
    let p = gives.0 old h base in
    let grown : n ≤ (first.0).variables = omega (arith, h, p.extends.begins.grows) in
    let q = each_gives n makes vs gives.1 first.0 grown (base_more old first.0 base p.extends) in
    let rest = made_in_turn makes first.0 in
    makes_as old rest (first.1 ∷ rest.1) IsWord IsWord
    (λ values word. (literal_true values first.1 ≡ v values)
    × (bits_of values word ≡ values_of vs values))
    (λ values word. bits_of values word ≡ v values ∷ values_of vs values)
    (makes_then old first rest IsLiteral IsWord
    (λ values l. literal_true values l ≡ v values)
    (λ values word. bits_of values word ≡ values_of vs values) p q)
    (λ is. (
      literal_more (first.0).variables (rest.0).variables first.1 q.extends.begins.grows p.within,
      is,
    ))
    (λ values e. ap₂ ◌∷◌ e.0 e.1)

-- ---- chains

-- the gate gives an operation of its two literals
abbrev pub GateGives : (ℤ → ℤ → BitMaker) → (Bool → Bool → Bool) → Type 0
GateGives gate op =
    (a b : ℤ) (old : Formula) → IsClosed old → IsLiteral old.variables a →
    IsLiteral old.variables b → Makes old (gate a b old) IsLiteral
    (λ values g. literal_true values g ≡ op (literal_true values a) (literal_true values b))

pub chain_from_makes : (gate : ℤ → ℤ → BitMaker) (op : Bool → Bool → Bool) → GateGives gate op →
    (n : ℕ) (makes : List BitMaker) (vs : List ((ℕ → Bool) → Bool)) → GivesEach n makes vs →
    (before : ℤ) (old : Formula) → n ≤ old.variables → IsBase old →
    IsLiteral old.variables before →
    Makes old (chain_from gate before makes old) IsLiteral
    (λ values g. literal_true values g
    ≡ fold op (literal_true values before) (values_of vs values))
chain_from_makes gate op law n [] [] gives before old h base is =
    makes_at_once old before IsLiteral
    (λ values g. literal_true values g ≡ literal_true values before) base.closed is
    (λ values e. refl)
chain_from_makes gate op law n [] (v ∷ vs) gives before old h base is = absurd gives
chain_from_makes gate op law n (make ∷ makes) [] gives before old h base is = absurd gives
chain_from_makes gate op law n (make ∷ makes) (v ∷ vs) gives before old h base is =
    let first = make old in
    let p = gives.0 old h base in
    let here = literal_more old.variables (first.0).variables before p.extends.begins.grows is in
    let both = gate before first.1 first.0 in
    let g = law before first.1 first.0 p.extends.closed here p.within in
    let one = base_more old first.0 base p.extends in
    let two = base_more first.0 both.0 one g.extends in
    let grown : n ≤ (both.0).variables =
    omega (arith, h, p.extends.begins.grows, g.extends.begins.grows) in
    let rest = chain_from gate both.1 makes both.0 in
    let q = chain_from_makes gate op law n makes vs gives.1 both.1 both.0 grown two g.within in
    makes_as old rest rest.1 IsLiteral IsLiteral
    (λ values l. (literal_true values first.1 ≡ v values)
    × ((literal_true values both.1
    ≡ op (literal_true values before) (literal_true values first.1))
    × (literal_true values l ≡ fold op (literal_true values both.1) (values_of vs values))))
    (λ values l. literal_true values l
    ≡ fold op (op (literal_true values before) (v values)) (values_of vs values))
    (makes_then old first rest IsLiteral IsLiteral
    (λ values l. literal_true values l ≡ v values)
    (λ values l. (literal_true values both.1
    ≡ op (literal_true values before) (literal_true values first.1))
    × (literal_true values l ≡ fold op (literal_true values both.1) (values_of vs values))) p
    (makes_then first.0 both rest IsLiteral IsLiteral
    (λ values l. literal_true values l
    ≡ op (literal_true values before) (literal_true values first.1))
    (λ values l. literal_true values l ≡ fold op (literal_true values both.1) (values_of vs values))
    g q))
    (λ is. is)
    (λ values e. e.1.1 ∙ ap (λ z. fold op z (values_of vs values))
    (e.1.0 ∙ ap (op (literal_true values before)) e.0))

-- a chain of values that starts with its first member
abbrev pub chained : (Bool → Bool → Bool) → (none : Bool) → List Bool → Bool
chained op none [] = none
chained op none (x ∷ xs) = fold op x xs

pub chain_gives : (gate : ℤ → ℤ → BitMaker) (op : Bool → Bool → Bool) → GateGives gate op →
    (none : ℤ) (nothing : Bool) → (IsLiteral 1 none) →
    ((values : ℕ → Bool) → values 1 ≡ true → literal_true values none ≡ nothing) →
    (n : ℕ) (makes : List BitMaker) (vs : List ((ℕ → Bool) → Bool)) → GivesEach n makes vs →
    GivesBit n (chain gate none makes) (λ values. chained op nothing (values_of vs values))
chain_gives gate op law none nothing is known n [] [] gives old h base =
    makes_at_once old none IsLiteral (λ values l. literal_true values l ≡ nothing) base.closed
    (literal_more 1 old.variables none base.some is)
    (λ values e. known values (base.truth values e))
chain_gives gate op law none nothing is known n [] (v ∷ vs) gives old h base = absurd gives
chain_gives gate op law none nothing is known n (make ∷ makes) [] gives old h base = absurd gives
chain_gives gate op law none nothing is known n (make ∷ makes) (v ∷ vs) gives old h base =
    let first = make old in
    let p = gives.0 old h base in
    let one = base_more old first.0 base p.extends in
    let grown : n ≤ (first.0).variables = omega (arith, h, p.extends.begins.grows) in
    let rest = chain_from gate first.1 makes first.0 in
    let q = chain_from_makes gate op law n makes vs gives.1 first.1 first.0 grown one p.within in
    makes_as old rest rest.1 IsLiteral IsLiteral
    (λ values l. (literal_true values first.1 ≡ v values)
    × (literal_true values l ≡ fold op (literal_true values first.1) (values_of vs values)))
    (λ values l. literal_true values l ≡ fold op (v values) (values_of vs values))
    (makes_then old first rest IsLiteral IsLiteral
    (λ values l. literal_true values l ≡ v values)
    (λ values l. literal_true values l ≡ fold op (literal_true values first.1) (values_of vs values))
    p q)
    (λ is. is)
    (λ values e. e.1 ∙ ap (λ z. fold op z (values_of vs values)) e.0)
