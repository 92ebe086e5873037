-- Circuits of shifts, bit by bit.
use Rattle.std.proofs.Common.{◌≡◌, ℕ, zero, suc, ◌^◌, ◌≤◌, min, Bool, ℤ, List}
use Rattle.std.proofs.Common.{[], ◌∷◌, ◌++◌, map, take, drop, replicate, length, refl, sym, ap, ap₂}
use Rattle.std.proofs.Common.{◌∙◌, arith, if◌then◌else◌}
use Rattle.std.specs.List.{zip}
use Rattle.sv_clause.specs.Literals.{literal_true}
use Rattle.sv_gates.specs.Formulas.{Formula, IsLiteral}
use Rattle.sv_gates.specs.Gates.{mux_gate}
use Rattle.sv_gates.specs.Extending.{Makes}
use Rattle.sv_gates.proofs.ExtendingLaws.{makes_at_once, makes_then, makes_as}
use Rattle.sv_gates.proofs.GateLaws.{literal_more, mux_makes}
use Rattle.sv_circuits.specs.Words.{Word, bitwise_word}
use Rattle.sv_circuits.specs.Operators.{moved_up, moved_down, shifted_from, shifted_word}
use Rattle.sv_circuits.specs.Circuits.{bits_of, IsWord, IsBase, GivesWord}
use Rattle.sv_circuits.proofs.Pieces.{base_more, word_more, GivesEach, values_of, each_gives}
use Rattle.sv_circuits.proofs.BitPieces.{joined_bits, word_as}
use Rattle.sv_circuits.proofs.Products.{take_is, take_bits, bits_length, joined_is, joined_bits_are}
use Rattle.sv_circuits.proofs.Comparisons.{drop_is, drop_bits}

-- ---- choices

-- a where c holds, else b
abbrev pub chosen_bit : (c a b : Bool) → Bool
chosen_bit c a b = if c then a else b

abbrev chosen_values : ℤ → Word → Word → List ((ℕ → Bool) → Bool)
chosen_values c a b =
    map (λ bits values. chosen_bit (literal_true values c) (literal_true values bits.0)
    (literal_true values bits.1)) (zip a b)

chosen_bits : (c : ℤ) (a b : Word) (values : ℕ → Bool) →
    values_of (chosen_values c a b) values
    ≡ joined_bits (chosen_bit (literal_true values c)) (bits_of values a) (bits_of values b)
chosen_bits c [] [] values = refl
chosen_bits c [] (y ∷ b) values = refl
chosen_bits c (x ∷ a) [] values = refl
chosen_bits c (x ∷ a) (y ∷ b) values =
    ap (λ bs. chosen_bit (literal_true values c) (literal_true values x) (literal_true values y) ∷ bs)
    (chosen_bits c a b values)

chosen_each : (n : ℕ) (c : ℤ) (a b : Word) → IsLiteral n c → IsWord n a → IsWord n b →
    GivesEach n (map (λ (bits : ℤ × ℤ). mux_gate c bits.0 bits.1) (zip a b)) (chosen_values c a b)
chosen_each n c [] [] is_c is_a is_b = tt
chosen_each n c [] (y ∷ b) is_c is_a is_b = tt
chosen_each n c (x ∷ a) [] is_c is_a is_b = tt
chosen_each n c (x ∷ a) (y ∷ b) is_c is_a is_b = (
  (λ old h base. mux_makes c x y old base.closed (literal_more n old.variables c h is_c)
      (literal_more n old.variables x h is_a.0) (literal_more n old.variables y h is_b.0)),
  chosen_each n c a b is_c is_a.1 is_b.1,
)

-- bit by bit the first word where the literal holds, else the second
pub chosen_gives : (n : ℕ) (c : ℤ) (a b : Word) → IsLiteral n c → IsWord n a → IsWord n b →
    GivesWord n (bitwise_word (mux_gate c) a b)
    (λ values. joined_bits (chosen_bit (literal_true values c)) (bits_of values a)
    (bits_of values b))
chosen_gives n c a b is_c is_a is_b =
    word_as n (bitwise_word (mux_gate c) a b) (values_of (chosen_values c a b))
    (λ values. joined_bits (chosen_bit (literal_true values c)) (bits_of values a)
    (bits_of values b)) (chosen_bits c a b)
    (each_gives n (map (λ (bits : ℤ × ℤ). mux_gate c bits.0 bits.1) (zip a b))
    (chosen_values c a b) (chosen_each n c a b is_c is_a is_b))

-- ---- moves

-- bits moved up, or down, by so many places
abbrev pub up_bits : (fill : Bool) → (by : ℕ) → List Bool → List Bool
up_bits fill by bits = take (length bits) (replicate (min by (length bits)) fill ++ bits)

abbrev pub down_bits : (fill : Bool) → (by : ℕ) → List Bool → List Bool
down_bits fill by bits = drop by bits ++ replicate (min by (length bits)) fill

pub fills_are : (n : ℕ) (fill : ℤ) (k : ℕ) → IsLiteral n fill → IsWord n (replicate k fill)
fills_are n fill zero is = tt
fills_are n fill (suc k) is = (is, fills_are n fill k is)

pub fills_bits : (values : ℕ → Bool) (fill : ℤ) (k : ℕ) →
    bits_of values (replicate k fill) ≡ replicate k (literal_true values fill)
fills_bits values fill zero = refl
fills_bits values fill (suc k) =
    ap (λ bs. literal_true values fill ∷ bs) (fills_bits values fill k)

pub up_is : (n : ℕ) (fill : ℤ) (by : ℕ) (word : Word) → IsLiteral n fill → IsWord n word →
    IsWord n (moved_up fill by word)
up_is n fill by word is_fill is =
    let k = min by (length word) in
    take_is n (length word) (replicate k fill ++ word)
    (joined_is n (replicate k fill) word (fills_are n fill k is_fill) is)

pub up_bits_are : (values : ℕ → Bool) (fill : ℤ) (by : ℕ) (word : Word) →
    bits_of values (moved_up fill by word)
    ≡ up_bits (literal_true values fill) by (bits_of values word)
up_bits_are values fill by word =
    let k = min by (length word) in
    take_bits values (length word) (replicate k fill ++ word)
    ∙ ap (take (length word)) (joined_bits_are values (replicate k fill) word
    ∙ ap (λ bs. bs ++ bits_of values word) (fills_bits values fill k))
    ∙ ap (λ m. take m (replicate (min by m) (literal_true values fill) ++ bits_of values word))
    (sym (bits_length values word))

pub down_is : (n : ℕ) (fill : ℤ) (by : ℕ) (word : Word) → IsLiteral n fill → IsWord n word →
    IsWord n (moved_down fill by word)
down_is n fill by word is_fill is =
    let k = min by (length word) in
    joined_is n (drop by word) (replicate k fill) (drop_is n by word is)
    (fills_are n fill k is_fill)

pub down_bits_are : (values : ℕ → Bool) (fill : ℤ) (by : ℕ) (word : Word) →
    bits_of values (moved_down fill by word)
    ≡ down_bits (literal_true values fill) by (bits_of values word)
down_bits_are values fill by word =
    let k = min by (length word) in
    joined_bits_are values (drop by word) (replicate k fill)
    ∙ ap₂ ◌++◌ (drop_bits values by word) (fills_bits values fill k)
    ∙ ap (λ m. drop by (bits_of values word) ++ replicate (min by m) (literal_true values fill))
    (sym (bits_length values word))

-- ---- shifts

-- for bit i of the amount, and each one after it
abbrev pub shifted_bits : (move : ℕ → List Bool → List Bool) → (i : ℕ) → (amount bits : List Bool) →
    List Bool
shifted_bits move i [] bits = bits
shifted_bits move i (c ∷ cs) bits =
    shifted_bits move (suc i) cs (joined_bits (chosen_bit c) (move (2 ^ i) bits) bits)

pub shifted_makes : (move : ℕ → Word → Word) (move_bits : (ℕ → Bool) → ℕ → List Bool → List Bool)
    (n : ℕ) → ((m : ℕ) (by : ℕ) (word : Word) → n ≤ m → IsWord m word → IsWord m (move by word)) →
    ((values : ℕ → Bool) (by : ℕ) (word : Word) → bits_of values (move by word)
    ≡ move_bits values by (bits_of values word)) →
    (i : ℕ) (amount word : Word) (old : Formula) → n ≤ old.variables → IsBase old →
    IsWord old.variables amount → IsWord old.variables word →
    Makes old (shifted_from move i amount word old) IsWord (λ values result. bits_of values result
    ≡ shifted_bits (move_bits values) i (bits_of values amount) (bits_of values word))
shifted_makes move move_bits n is_move moves i [] word old h base is_amount is =
    makes_at_once old word IsWord (λ values result. bits_of values result ≡ bits_of values word)
    base.closed is (λ values e. refl)
shifted_makes move move_bits n is_move moves i (c ∷ cs) word old h base is_amount is =
    let there = move (2 ^ i) word in
    let made = bitwise_word (mux_gate c) there word old in
    let p = chosen_gives old.variables c there word is_amount.0
    (is_move old.variables (2 ^ i) word h is) is old (omega arith) base in
    let n1 = (made.0).variables in
    let up = p.extends.begins.grows in
    let grown : n ≤ n1 = omega (arith, h, up) in
    let rest = shifted_from move (suc i) cs made.1 made.0 in
    let q = shifted_makes move move_bits n is_move moves (suc i) cs made.1 made.0 grown
    (base_more old made.0 base p.extends) (word_more old.variables n1 cs up is_amount.1)
    p.within in
    makes_as old rest rest.1 IsWord IsWord
    (λ values result. (bits_of values made.1
    ≡ joined_bits (chosen_bit (literal_true values c)) (bits_of values there)
    (bits_of values word))
    × (bits_of values result
    ≡ shifted_bits (move_bits values) (suc i) (bits_of values cs) (bits_of values made.1)))
    (λ values result. bits_of values result
    ≡ shifted_bits (move_bits values) i (bits_of values (c ∷ cs)) (bits_of values word))
    (makes_then old made rest IsWord IsWord
    (λ values result. bits_of values result
    ≡ joined_bits (chosen_bit (literal_true values c)) (bits_of values there)
    (bits_of values word))
    (λ values result. bits_of values result
    ≡ shifted_bits (move_bits values) (suc i) (bits_of values cs) (bits_of values made.1)) p q)
    (λ is. is)
    (λ values e. e.1 ∙ ap (shifted_bits (move_bits values) (suc i) (bits_of values cs))
    (e.0 ∙ ap (λ bs. joined_bits (chosen_bit (literal_true values c)) bs (bits_of values word))
    (moves values (2 ^ i) word)))

-- a word is shifted by such moves as these bits are
abbrev pub Shifts : (move : ℤ → ℕ → Word → Word) →
    (move_bits : Bool → ℕ → List Bool → List Bool) → Type 0
Shifts move move_bits = (fill : ℤ) (word amount : Word) (old : Formula) → IsBase old →
    IsLiteral old.variables fill → IsWord old.variables word → IsWord old.variables amount →
    Makes old (shifted_word (move fill) word amount old) IsWord
    (λ values result. bits_of values result ≡ shifted_bits (move_bits (literal_true values fill)) 0
    (bits_of values amount) (bits_of values word))

pub shifted_up_makes : Shifts moved_up up_bits
shifted_up_makes fill word amount old base is_fill is is_amount =
    shifted_makes (moved_up fill) (λ values. up_bits (literal_true values fill)) old.variables
    (λ m by w h is. up_is m fill by w (literal_more old.variables m fill h is_fill) is)
    (λ values by w. up_bits_are values fill by w) 0 amount word old (omega arith) base is_amount is

pub shifted_down_makes : Shifts moved_down down_bits
shifted_down_makes fill word amount old base is_fill is is_amount =
    shifted_makes (moved_down fill) (λ values. down_bits (literal_true values fill)) old.variables
    (λ m by w h is. down_is m fill by w (literal_more old.variables m fill h is_fill) is)
    (λ values by w. down_bits_are values fill by w) 0 amount word old (omega arith) base is_amount
    is
