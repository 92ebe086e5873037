-- A word that is moved by an amount, bit by bit of the amount.
use Rattle.std.proofs.Common.{◌≡◌, ℕ, zero, suc, ◌+◌, ◌-◌, ◌*◌, ◌^◌, ◌≤◌, ◌<◌, min, ℤ, [], ◌∷◌, ◌++◌}
use Rattle.std.proofs.Common.{length, refl, sym, ap, ◌∙◌, subst, arith, take, drop}
use Rattle.std.specs.Prelude.{replicate}
use Rattle.std.proofs.Math.Seq.{drop-nil}
use Rattle.std.proofs.Math.Nat.{pow-suc}
use Rattle.std.proofs.lemmas.List.{take_all, length-drop}
use Rattle.sv_gates.specs.Extending.{Begins}
use Rattle.sv_gates.proofs.ExtendingLaws.{begins_trans}
use Rattle.sv_gates.specs.Formulas.{Formula, IsLiteral}
use Rattle.sv_gates.specs.Gates.{mux_gate}
use Rattle.sv_circuits.specs.declared.shifters.Direction.{Direction}
use Rattle.sv_circuits.specs.declared.shifters.Direction.TheVariants.{Up, Down}
use Rattle.sv_circuits.specs.Words.{Word, bitwise_word, zero_filled, part_word, replaced_word}
use Rattle.sv_circuits.specs.Operators.{shifted_from}
use Rattle.sv_circuits.specs.Circuits.{IsWord}
use Rattle.sv_circuits.specs.Moves.{move_of}
use Rattle.sv_circuits.proofs.WordKeeps.{word_up, word_take, word_drop, word_same, word_join}
use Rattle.sv_circuits.proofs.LoopSteps.{LoopAt, bits_grow, mux_takes}

-- ---- moves

pub take_behind : (n k : ℕ) (fill : ℤ) (word : Word) → k ≤ n →
    replicate k fill ++ take (n - k) word ≡ take n (replicate k fill ++ word)
take_behind n zero fill word h = let e : n - 0 ≡ n = omega arith in rw e refl
take_behind zero (suc k) fill word h = absurd (omega arith)
take_behind (suc n) (suc k) fill word h =
    let e : suc n - suc k ≡ n - k = omega arith in
    rw e (ap (λ z. fill ∷ z) (take_behind n k fill word (omega arith)))

pub drop_at : (by k : ℕ) (word : Word) → k ≡ min by (length word) → drop k word ≡ drop by word
drop_at by k [] e = drop-nil k ∙ sym (drop-nil by)
drop_at zero k (l ∷ word) e = let none : k ≡ 0 = omega arith in rw none refl
drop_at (suc by) zero (l ∷ word) e = absurd (omega arith)
drop_at (suc by) (suc k) (l ∷ word) e = drop_at by k word (omega arith)

pub drop_least : (by : ℕ) (word : Word) → drop (min by (length word)) word ≡ drop by word
drop_least by word = drop_at by (min by (length word)) word refl

-- a move by more bits than the word has is one by all its bits
pub move_least : (direction : Direction) (fill : ℤ) (by other : ℕ) (word : Word) →
    min by (length word) ≡ min other (length word) →
    move_of direction fill by word ≡ move_of direction fill other word
move_least Up fill by other word e =
    ap (λ z. take (length word) (replicate z fill ++ word)) e
move_least Down fill by other word e =
    ap (λ z. z ++ replicate (min by (length word)) fill) (sym (drop_least by word))
    ∙ ap (λ z. drop z word ++ replicate z fill) e
    ∙ ap (λ z. z ++ replicate (min other (length word)) fill) (drop_least other word)

pub move_within : (n : ℕ) (direction : Direction) (fill : ℤ) (by : ℕ) (word : Word) →
    IsLiteral n fill → IsWord n word → IsWord n (move_of direction fill by word)
move_within n Up fill by word l is =
    word_take n (length word) (replicate (min by (length word)) fill ++ word)
    (word_join n (replicate (min by (length word)) fill) word
    (word_same n (min by (length word)) fill l) is)
move_within n Down fill by word l is =
    word_join n (drop by word) (replicate (min by (length word)) fill) (word_drop n by word is)
    (word_same n (min by (length word)) fill l)

-- ---- the loop

pub shift_grows : (move : (by : ℕ) → Word → Word) (i : ℕ) (xs word : Word) (f : Formula) →
    f.variables ≤ ((shifted_from move i xs word f).0).variables
shift_grows move i [] word f = omega arith
shift_grows move i (bit ∷ xs) word f =
    let next = bitwise_word (mux_gate bit) (move (2 ^ i) word) word f in
    let up = bits_grow (mux_gate bit) (move (2 ^ i) word) word f (mux_takes bit) in
    let more = shift_grows move (suc i) xs next.1 next.0 in
    omega (arith, up, more)

pub shift_step : (move : (by : ℕ) → Word → Word) (i : ℕ) (xs more word moved next : Word)
    (bit : ℤ) (now later : Formula) → xs ≡ bit ∷ more → moved ≡ move (2 ^ i) word →
    bitwise_word (mux_gate bit) moved word now ≡ (later, next) →
    shifted_from move i xs word now ≡ shifted_from move (i + 1) more next later
shift_step move i xs more word moved next bit now later ex em e =
    let one : suc i ≡ i + 1 = omega arith in
    ap (λ z. shifted_from move i z word now) ex
    ∙ ap (λ (z : Formula × Word). shifted_from move (suc i) more z.1 z.0)
    (ap (λ z. bitwise_word (mux_gate bit) z word now) (sym em) ∙ e)
    ∙ ap (λ z. shifted_from move z more next later) one

pub shift_full : (move : (by : ℕ) → Word → Word) (i : ℕ) (xs more word moved : Word)
    (bit : ℤ) (now : Formula) (most : ℕ) → xs ≡ bit ∷ more → moved ≡ move (2 ^ i) word →
    most < ((bitwise_word (mux_gate bit) moved word now).0).variables →
    most < ((shifted_from move i xs word now).0).variables
shift_full move i xs more word moved bit now most ex em h =
    let next = bitwise_word (mux_gate bit) (move (2 ^ i) word) word now in
    let here : most < (next.0).variables =
    subst (λ z. most < ((bitwise_word (mux_gate bit) z word now).0).variables) em h in
    let up = shift_grows move (suc i) more next.1 next.0 in
    subst (λ z. most < ((shifted_from move i z word now).0).variables) (sym ex)
    (omega (arith, here, up))

pub shift_end : (move : (by : ℕ) → Word → Word) (i : ℕ) (xs word : Word) (now : Formula) →
    xs ≡ [] → shifted_from move i xs word now ≡ (now, word)
shift_end move i xs word now e = ap (λ z. shifted_from move i z word now) e

pub shift_more : {A : Type 0} (whole left next : Formula × A) (old now later : Formula)
    (xs more word made hand : Word) (bit : ℤ) → LoopAt whole left old now xs [] word hand →
    xs ≡ bit ∷ more → left ≡ next → Begins now later →
    IsWord later.variables made → LoopAt whole next old later more [] made hand
shift_more whole left next old now later xs more word made hand bit at ex e up is =
    let one = subst (IsWord now.variables) ex at.first in
    record {
      made = at.made ∙ e;
      first = word_up now.variables later.variables more up.grows one.1;
      second = tt;
      front = is;
      hand = word_up now.variables later.variables hand up.grows at.hand;
      begins = begins_trans old now later at.begins up;
    }

pub twice : (i by : ℕ) (next : ℕ) → by ≡ min (2 ^ i) 18446744073709551615 →
    next ≡ min (by * 2) 18446744073709551615 → next ≡ min (2 ^ (i + 1)) 18446744073709551615
twice i by next e f =
    let one : i + 1 ≡ suc i = omega arith in rw one (omega (arith, pow-suc 2 i, e, f))

-- ---- parts of words

pub take_none : (k : ℕ) → take {A = ℤ} k [] ≡ []
take_none zero = refl
take_none (suc k) = refl

pub take_at : (by k : ℕ) (word : Word) → k ≡ min by (length word) → take k word ≡ take by word
take_at by k [] e = take_none k ∙ sym (take_none by)
take_at zero k (l ∷ word) e = let none : k ≡ 0 = omega arith in rw none refl
take_at (suc by) zero (l ∷ word) e = absurd (omega arith)
take_at (suc by) (suc k) (l ∷ word) e = ap (λ z. l ∷ z) (take_at by k word (omega arith))

pub rest_is : (by k : ℕ) (word : Word) → k ≡ min by (length word) →
    take (length word - k) (drop k word) ≡ drop by word
rest_is by k word e =
    take_all (length word - k) (drop k word) (omega (arith, length-drop k word))
    ∙ drop_at by k word e

pub part_is : (high low span k : ℕ) (word : Word) → span ≡ high + 1 - low →
    k ≡ min low (length word) →
    zero_filled span (take (length word - k) (drop k word)) ≡ part_word high low word
part_is high low span k word es ek =
    ap (λ z. zero_filled z (take (length word - k) (drop k word))) es
    ∙ ap (zero_filled (high + 1 - low)) (rest_is low k word ek)

pub replaced_is : (high low span below above : ℕ) (word piece made bits : Word) →
    made ≡ take below word → below ≡ min low (length word) → bits ≡ zero_filled span piece →
    span ≡ high + 1 - low → above ≡ min (high + 1) (length word) →
    made ++ bits ++ take (length word - above) (drop above word)
    ≡ replaced_word high low word piece
replaced_is high low span below above word piece made bits em eb ei es ea =
    ap (λ z. z ++ bits ++ take (length word - above) (drop above word))
    (em ∙ take_at low below word eb)
    ∙ ap (λ z. take low word ++ z ++ take (length word - above) (drop above word))
    (ei ∙ ap (λ z. zero_filled z piece) es)
    ∙ ap (λ z. take low word ++ zero_filled (high + 1 - low) piece ++ z)
    (rest_is (high + 1) above word ea)
