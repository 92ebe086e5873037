-- Runs of statements by computation.
use Rattle.std.proofs.Common.{◌≡◌, ℕ, true, false, List, [], ◌∷◌, refl}
use Rattle.std.specs.Prelude.{map, slice_index, codes, IsTrue, IsFalse}
use Rattle.std.specs.List.{range_with_len}
use Rattle.sv_num.specs.declared.operators.BinOp.TheVariants as binop
use Rattle.sv_system.specs.System.{Environment}
use Rattle.sv_flat.specs.declared.signals.SigKind.TheVariants.{TopInput, OutputReg}
use Rattle.sv_num.specs.declared.faults.Place.{Place}
use Rattle.sv_flat.specs.Design.{SignalForm, typed, constant, read, read_part, binary, PieceForm}
use Rattle.sv_flat.specs.Design.{FlatStatement, assign, branch, combinational, FlatDesign}
use Rattle.sv_flat.specs.Soundness.{well_formed, sound}
use Rattle.sv_flat.specs.Runs.{run_alone, updates_of}
use Rattle.sv_flat.proofs.Forms.{at, declares, part, named, sequence, process, over_two_points}

-- module m(input [3:0] a, input [3:0] b, output reg [3:0] s, output reg c, output reg [3:0] p);
abbrev signals : List SignalForm
signals =
    declares (codes "a") 4 TopInput (at 1 22)
    ∷ declares (codes "b") 4 TopInput (at 1 37)
    ∷ declares (codes "s") 4 OutputReg (at 1 57)
    ∷ declares (codes "c") 1 OutputReg (at 1 71)
    ∷ declares (codes "p") 4 OutputReg (at 1 91)
    ∷ []

-- a, b, s, c and p have these values
abbrev having : ℕ → ℕ → ℕ → ℕ → ℕ → Environment ℕ
having a b s c p = slice_index (a ∷ b ∷ s ∷ c ∷ p ∷ [])

-- after a run they have these
abbrev leaves : FlatStatement → Environment ℕ → List ℕ → Type 0
leaves body before values = map (run_alone signals body before) (range_with_len 0 5) ≡ values

-- a blocking assignment of the sum of two signals at 5 bits
abbrev adds : List PieceForm → Place → (first : ℕ) → Place → (second : ℕ) → Place → FlatStatement
adds pieces place a p b q = assign pieces place true
    (typed 5 false (binary binop.Add (typed 5 false (read a p)) (typed 5 false (read b q))))

-- {c, s} = a + b
abbrev sum : FlatStatement
sum = adds (part 3 (at 2 14) 0 0 4 ∷ part 2 (at 2 17) 3 0 0 ∷ []) (at 2 14) 0 (at 2 22) 1 (at 2 26)

pub sum_with_carry : leaves sum (having 15 1 7 0 0) (15 ∷ 1 ∷ 0 ∷ 1 ∷ 0 ∷ [])
sum_with_carry = refl

-- p[1:0] = a[1:0]; p[3:2] = b[3:2];
abbrev halves : FlatStatement
halves = sequence
    (assign (part 4 (at 3 19) 1 0 0 ∷ []) (at 3 19) true (typed 2 false (read_part 0 (at 3 28) 1 0))
    ∷ assign (part 4 (at 3 36) 3 2 0 ∷ []) (at 3 36) true
    (typed 2 false (read_part 1 (at 3 45) 3 2))
    ∷ [])

pub halves_joined : leaves halves (having 6 9 0 0 15) (6 ∷ 9 ∷ 0 ∷ 0 ∷ 10 ∷ [])
halves_joined = refl

-- s = s + 1; s = s + s: the second statement reads what the first has put
abbrev doubled : FlatStatement
doubled = sequence
    (assign (part 2 (at 2 5) 3 0 0 ∷ []) (at 2 5) true
    (typed 32 false (binary binop.Add (typed 32 false (read 2 (at 2 9)))
    (typed 32 false (constant 1))))
    ∷ assign (part 2 (at 2 16) 3 0 0 ∷ []) (at 2 16) true
    (typed 4 false (binary binop.Add (typed 4 false (read 2 (at 2 20)))
    (typed 4 false (read 2 (at 2 24)))))
    ∷ [])

pub read_after_put : leaves doubled (having 0 0 3 0 0) (0 ∷ 0 ∷ 8 ∷ 0 ∷ 0 ∷ [])
read_after_put = refl

-- if (c) s = a; else s = b;
abbrev chosen : FlatStatement
chosen = branch (at 2 3) (named 3 (at 2 7))
    (assign (part 2 (at 2 10) 3 0 0 ∷ []) (at 2 10) true (typed 4 false (read 0 (at 2 14))))
    (assign (part 2 (at 2 22) 3 0 0 ∷ []) (at 2 22) true (typed 4 false (read 1 (at 2 26))))

pub first_arm : leaves chosen (having 5 6 0 1 0) (5 ∷ 6 ∷ 5 ∷ 1 ∷ 0 ∷ [])
first_arm = refl

pub second_arm : leaves chosen (having 5 6 0 0 0) (5 ∷ 6 ∷ 6 ∷ 0 ∷ 0 ∷ [])
second_arm = refl

-- {p[1:0], p[3:2]} <= a: the second update keeps what the first has made of the other bits, and the
-- environment stays
abbrev crossed : FlatStatement
crossed =
    assign (part 4 (at 2 6) 1 0 2 ∷ part 4 (at 2 14) 3 2 0 ∷ []) (at 2 6) false
    (typed 4 false (read 0 (at 2 25)))

pub pending_pieces : updates_of signals crossed (having 6 0 0 0 12) ≡ (4, 13) ∷ (4, 9) ∷ []
pending_pieces = refl

pub nothing_yet : leaves crossed (having 6 0 0 0 12) (6 ∷ 0 ∷ 0 ∷ 0 ∷ 12 ∷ [])
nothing_yet = refl

-- the value is taken once, before the first piece is put: {s, c} = s + c
abbrev turned : FlatStatement
turned = adds (part 2 (at 2 6) 3 0 1 ∷ part 3 (at 2 9) 0 0 0 ∷ []) (at 2 6) 2 (at 2 18) 3 (at 2 15)

pub taken_once : leaves turned (having 0 0 9 1 0) (0 ∷ 0 ∷ 5 ∷ 0 ∷ 0 ∷ [])
taken_once = refl

-- ---- soundness

abbrev design : FlatStatement → FlatDesign
design body = over_two_points signals (process combinational (at 2 3) body ∷ [])

pub sum_is_sound : IsTrue (sound (design sum))
sum_is_sound = refl

-- a piece past the end of the value
pub value_too_short :
    IsFalse (sound (design
    (assign (part 2 (at 2 3) 3 0 1 ∷ []) (at 2 3) true (typed 4 false (read 0 (at 2 7))))))
value_too_short = refl

-- an operand of `+` at another length than its sum
pub operand_too_short : IsFalse
    (well_formed signals
    (typed 5 false (binary binop.Add (typed 4 false (read 0 (at 2 3)))
    (typed 5 false (read 1 (at 2 7))))))
operand_too_short = refl

-- a name at fewer bits than it has
pub name_too_long : IsFalse (well_formed signals (typed 3 false (read 0 (at 2 3))))
name_too_long = refl
