-- Loops that make gates bit by bit: what is to be made, what is left of it, and what is in hand.
use Rattle.std.proofs.Common.{◌≡◌, ℕ, ◌≤◌, ◌<◌, ℤ, [], ◌∷◌, ◌++◌, map, refl, sym, ap, ◌∙◌}
use Rattle.std.proofs.Common.{suc, List}
use Rattle.std.proofs.Common.{subst, arith, ◌⊎◌, ⊎_elim}
use Rattle.std.proofs.lemmas.List.{append-nil}
use Rattle.sv_gates.specs.Formulas.{Formula, IsLiteral}
use Rattle.sv_gates.specs.Gates.{xor_gate, mux_gate}
use Rattle.sv_gates.specs.Extending.{Begins}
use Rattle.sv_gates.proofs.ExtendingLaws.{begins_none, begins_trans}
use Rattle.sv_circuits.specs.declared.bit_gates.BitGate.{BitGate}
use Rattle.sv_circuits.specs.declared.bit_gates.BitGate.TheVariants.{And, Or, Xor, Xnor}
use Rattle.sv_circuits.specs.Words.{Word, BitMaker, ready_bit, bitwise_word, chain, chain_from}
use Rattle.sv_circuits.specs.Operators.{less_from}
use Rattle.sv_circuits.specs.Circuits.{IsWord}
use Rattle.sv_circuits.specs.BitGates.{gate_of, none_of, chain_of}
use Rattle.sv_circuits.proofs.WordKeeps.{onto, step_behind, word_up, word_push}

-- the whole is what is left from the present formula on; the words that are left, the word that is
-- made and the literals in hand are of the present variables
pub record LoopAt {A : Type 0} (whole left : Formula × A) (old now : Formula)
    (xs ys done held : Word) : Type 0 where
  pub made : whole ≡ left
  pub first : IsWord now.variables xs
  pub second : IsWord now.variables ys
  pub front : IsWord now.variables done
  pub hand : IsWord now.variables held
  pub begins : Begins old now

-- one turn that takes a literal of both words
pub both_more : {A : Type 0} (whole left next : Formula × A) (old now later : Formula)
    (first second more rest front hand held : Word) (a b : ℤ) →
    LoopAt whole left old now first second front hand → first ≡ a ∷ more → second ≡ b ∷ rest →
    left ≡ next → Begins now later → IsWord later.variables held →
    LoopAt whole next old later more rest front held
both_more whole left next old now later first second more rest front hand held a b at ea eb e up is =
    let one = subst (IsWord now.variables) ea at.first in
    let two = subst (IsWord now.variables) eb at.second in
    record {
      made = at.made ∙ e;
      first = word_up now.variables later.variables more up.grows one.1;
      second = word_up now.variables later.variables rest up.grows two.1;
      front = word_up now.variables later.variables front up.grows at.front;
      hand = is;
      begins = begins_trans old now later at.begins up;
    }

-- one turn that takes a literal of the first word alone
pub one_more : {A : Type 0} (whole left next : Formula × A) (old now later : Formula)
    (first second more front hand held : Word) (a : ℤ) →
    LoopAt whole left old now first second front hand → first ≡ a ∷ more →
    left ≡ next → Begins now later → IsWord later.variables held →
    LoopAt whole next old later more second front held
one_more whole left next old now later first second more front hand held a at ea e up is =
    let one = subst (IsWord now.variables) ea at.first in
    record {
      made = at.made ∙ e;
      first = word_up now.variables later.variables more up.grows one.1;
      second = word_up now.variables later.variables second up.grows at.second;
      front = word_up now.variables later.variables front up.grows at.front;
      hand = is;
      begins = begins_trans old now later at.begins up;
    }

-- one more literal at the end of the word that is made
pub pushed : {A : Type 0} (whole left : Formula × A) (old now : Formula)
    (first second front hand : Word) (l : ℤ) →
    LoopAt whole left old now first second front hand → IsLiteral now.variables l →
    LoopAt whole left old now first second (front ++ l ∷ []) hand
pushed whole left old now first second front hand l at is = record {
  made = at.made;
  first = at.first;
  second = at.second;
  front = word_push now.variables front l at.front is;
  hand = at.hand;
  begins = at.begins;
}

-- the start
pub loop_start : {A : Type 0} (whole left : Formula × A) (old : Formula)
    (xs ys first second front hand : Word) → IsWord old.variables xs → IsWord old.variables ys →
    first ≡ xs → second ≡ ys → front ≡ [] → IsWord old.variables hand → whole ≡ left →
    LoopAt whole left old old first second front hand
loop_start whole left old xs ys first second front hand one two ea eb ef is e = record {
  made = e;
  first = rw ea one;
  second = rw eb two;
  front = rw ef tt;
  hand = is;
  begins = begins_none old;
}

-- what has too many variables
pub left_full : {A : Type 0} {whole left : Formula × A} {old now : Formula}
    {first second front hand : Word} {most : ℕ} →
    LoopAt whole left old now first second front hand → most < (left.0).variables →
    most < (whole.0).variables
left_full {A = A} {most = most} at h =
    subst (λ (z : Formula × A). most < (z.0).variables) (sym at.made) h

-- ---- gates

pub gate_one : (gate : BitGate) (a b : ℤ) (f : Formula) →
    ((gate_of gate a b f).0).variables ≡ suc f.variables
gate_one And a b f = refl
gate_one Or a b f = refl
gate_one Xor a b f = refl
gate_one Xnor a b f = refl

pub bits_whole : (gate : ℤ → ℤ → BitMaker) (xs ys first second front : Word) (old : Formula) →
    first ≡ xs → second ≡ ys → front ≡ [] →
    bitwise_word gate xs ys old ≡ onto front (bitwise_word gate first second old)
bits_whole gate xs ys first second front old ea eb ef = rw (ea, eb, ef) refl

-- ---- bit by bit

-- the gate takes a variable
abbrev pub Takes : (gate : ℤ → ℤ → BitMaker) → Type 0
Takes gate = (a b : ℤ) (f : Formula) → ((gate a b f).0).variables ≡ suc f.variables

pub mux_takes : (c : ℤ) → Takes (mux_gate c)
mux_takes c a b f = refl

pub bits_grow : (gate : ℤ → ℤ → BitMaker) (xs ys : Word) (f : Formula) → Takes gate →
    f.variables ≤ ((bitwise_word gate xs ys f).0).variables
bits_grow gate [] ys f takes = omega arith
bits_grow gate (x ∷ xs) [] f takes = omega arith
bits_grow gate (x ∷ xs) (y ∷ ys) f takes =
    let e = takes x y f in
    let more = bits_grow gate xs ys (gate x y f).0 takes in
    omega (arith, e, more)

pub bits_step : (gate : ℤ → ℤ → BitMaker) (xs ys more rest front : Word) (a b g : ℤ)
    (now later : Formula) → xs ≡ a ∷ more → ys ≡ b ∷ rest → gate a b now ≡ (later, g) →
    onto front (bitwise_word gate xs ys now) ≡ onto (front ++ g ∷ []) (bitwise_word gate more rest later)
bits_step gate xs ys more rest front a b g now later ea eb e =
    ap (λ z. onto front (bitwise_word gate z ys now)) ea
    ∙ ap (λ z. onto front (bitwise_word gate (a ∷ more) z now)) eb
    ∙ step_behind front (λ z. z) (λ f. bitwise_word gate more rest f) (gate a b now) later g e

pub bits_full : (gate : ℤ → ℤ → BitMaker) (xs ys more rest front : Word) (a b : ℤ)
    (now : Formula) (most : ℕ) → Takes gate → xs ≡ a ∷ more → ys ≡ b ∷ rest →
    now.variables ≡ most → most < ((onto front (bitwise_word gate xs ys now)).0).variables
bits_full gate xs ys more rest front a b now most takes ea eb h =
    let e = takes a b now in
    let up = bits_grow gate more rest (gate a b now).0 takes in
    subst (λ z. most < ((bitwise_word gate z ys now).0).variables) (sym ea)
    (subst (λ z. most < ((bitwise_word gate (a ∷ more) z now).0).variables) (sym eb)
    (omega (arith, e, up, h)))

pub bits_none : (gate : ℤ → ℤ → BitMaker) (xs : Word) (f : Formula) →
    bitwise_word gate xs [] f ≡ (f, [])
bits_none gate [] f = refl
bits_none gate (x ∷ xs) f = refl

pub bits_end : (gate : ℤ → ℤ → BitMaker) (xs ys front : Word) (now : Formula) →
    (xs ≡ []) ⊎ (ys ≡ []) → onto front (bitwise_word gate xs ys now) ≡ (now, front)
bits_end gate xs ys front now =
    ⊎_elim (λ e. ap (λ z. onto front (bitwise_word gate z ys now)) e
    ∙ ap (λ z. (now, z)) (append-nil front))
    (λ e. ap (λ z. onto front (bitwise_word gate xs z now)) e
    ∙ ap (onto front) (bits_none gate xs now) ∙ ap (λ z. (now, z)) (append-nil front))

-- ---- chains of literals

pub chain_grows : (gate : ℤ → ℤ → BitMaker) (xs : Word) (before : ℤ) (f : Formula) → Takes gate →
    f.variables ≤ ((chain_from gate before (map ready_bit xs) f).0).variables
chain_grows gate [] before f takes = omega arith
chain_grows gate (x ∷ xs) before f takes =
    let e = takes before x f in
    let more = chain_grows gate xs (gate before x f).1 (gate before x f).0 takes in
    omega (arith, e, more)

pub chain_step : (gate : ℤ → ℤ → BitMaker) (xs more : Word) (before a g : ℤ)
    (now later : Formula) → xs ≡ a ∷ more → gate before a now ≡ (later, g) →
    chain_from gate before (map ready_bit xs) now ≡ chain_from gate g (map ready_bit more) later
chain_step gate xs more before a g now later ea e =
    ap (λ z. chain_from gate before (map ready_bit z) now) ea
    ∙ ap (λ (z : Formula × ℤ). chain_from gate z.1 (map ready_bit more) z.0) e

pub chain_full : (gate : ℤ → ℤ → BitMaker) (xs more : Word) (before a : ℤ) (now : Formula)
    (most : ℕ) → Takes gate → xs ≡ a ∷ more → now.variables ≡ most →
    most < ((chain_from gate before (map ready_bit xs) now).0).variables
chain_full gate xs more before a now most takes ea h =
    let e = takes before a now in
    let up = chain_grows gate more (gate before a now).1 (gate before a now).0 takes in
    subst (λ z. most < ((chain_from gate before (map ready_bit z) now).0).variables) (sym ea)
    (omega (arith, e, up, h))

chain_of_is : (gate : BitGate) (makes : List BitMaker) (f : Formula) →
    chain_of gate makes f ≡ chain (gate_of gate) (none_of gate) makes f
chain_of_is And makes f = refl
chain_of_is Or makes f = refl
chain_of_is Xor makes f = refl
chain_of_is Xnor makes f = refl

pub chain_of_nil : (gate : BitGate) (xs : Word) (old : Formula) → xs ≡ [] →
    chain_of gate (map ready_bit xs) old ≡ (old, none_of gate)
chain_of_nil gate xs old e =
    ap (λ z. chain_of gate (map ready_bit z) old) e ∙ chain_of_is gate [] old

pub chain_whole : (gate : BitGate) (xs more : Word) (first : ℤ) (old : Formula) →
    xs ≡ first ∷ more →
    chain_of gate (map ready_bit xs) old ≡ chain_from (gate_of gate) first (map ready_bit more) old
chain_whole gate xs more first old e =
    ap (λ z. chain_of gate (map ready_bit z) old) e
    ∙ chain_of_is gate (map ready_bit (first ∷ more)) old

pub chain_end : (gate : ℤ → ℤ → BitMaker) (xs : Word) (before : ℤ) (now : Formula) → xs ≡ [] →
    chain_from gate before (map ready_bit xs) now ≡ (now, before)
chain_end gate xs before now e = ap (λ z. chain_from gate before (map ready_bit z) now) e

-- ---- the order of two words

pub less_grows : (xs ys : Word) (less : ℤ) (f : Formula) →
    f.variables ≤ ((less_from xs ys less f).0).variables
less_grows [] ys less f = omega arith
less_grows (x ∷ xs) [] less f = omega arith
less_grows (x ∷ xs) (y ∷ ys) less f =
    let differ = xor_gate x y f in
    let next = mux_gate differ.1 y less differ.0 in
    let more = less_grows xs ys next.1 next.0 in
    omega (arith, more)

pub less_step : (xs ys more rest : Word) (less a b d g : ℤ) (now between later : Formula) →
    xs ≡ a ∷ more → ys ≡ b ∷ rest → xor_gate a b now ≡ (between, d) →
    mux_gate d b less between ≡ (later, g) →
    less_from xs ys less now ≡ less_from more rest g later
less_step xs ys more rest less a b d g now between later ea eb e f =
    ap (λ z. less_from z ys less now) ea
    ∙ ap (λ z. less_from (a ∷ more) z less now) eb
    ∙ ap (λ (z : Formula × ℤ). less_from more rest (mux_gate z.1 b less z.0).1
    (mux_gate z.1 b less z.0).0) e
    ∙ ap (λ (z : Formula × ℤ). less_from more rest z.1 z.0) f

-- either gate can be the one that is refused
pub less_full : (xs ys more rest : Word) (less a b : ℤ) (now : Formula) (most : ℕ) →
    xs ≡ a ∷ more → ys ≡ b ∷ rest → most ≤ suc now.variables →
    most < ((less_from xs ys less now).0).variables
less_full xs ys more rest less a b now most ea eb h =
    let differ = xor_gate a b now in
    let next = mux_gate differ.1 b less differ.0 in
    let up = less_grows more rest next.1 next.0 in
    subst (λ z. most < ((less_from z ys less now).0).variables) (sym ea)
    (subst (λ z. most < ((less_from (a ∷ more) z less now).0).variables) (sym eb)
    (omega (arith, up, h)))

pub less_whole : (xs ys first second : Word) (less : ℤ) (old : Formula) → first ≡ xs →
    second ≡ ys → less_from xs ys less old ≡ less_from first second less old
less_whole xs ys first second less old ea eb = rw (ea, eb) refl

pub less_none : (xs : Word) (less : ℤ) (f : Formula) → less_from xs [] less f ≡ (f, less)
less_none [] less f = refl
less_none (x ∷ xs) less f = refl

pub less_end : (xs ys : Word) (less : ℤ) (now : Formula) → (xs ≡ []) ⊎ (ys ≡ []) →
    less_from xs ys less now ≡ (now, less)
less_end xs ys less now =
    ⊎_elim (λ e. ap (λ z. less_from z ys less now) e)
    (λ e. ap (λ z. less_from xs z less now) e ∙ less_none xs less now)
