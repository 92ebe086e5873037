-- Small designs, of which examples of definitions speak, here and in the crates above.
use Rattle.std.proofs.Common.{ℕ, true, false, List, [], ◌∷◌, Some, None}
use Rattle.std.specs.Prelude.{codes, map}
use Rattle.sv_lattice.specs.declared.points.Point.{Point}
use Rattle.sv_lattice.specs.declared.labels.Label.{Label}
use Rattle.sv_lattice.specs.declared.labels.Label.TheVariants.{Point as Declared, Table}
use Rattle.sv_lattice.specs.Maps.{MapRows}
use Rattle.sv_flat.specs.declared.signals.SigKind.{SigKind}
use Rattle.sv_flat.specs.declared.signals.SigKind.TheVariants.{TopInput, Output, OutputReg}
use Rattle.sv_flat.specs.Design.{SignalForm, TypedTree, typed, read, choice}
use Rattle.sv_flat.specs.Design.{nothing, assign, branch, continuous}
use Rattle.sv_flat.specs.Design.{clocked, ProcessForm, FlatDesign}
use Rattle.sv_flat.proofs.Forms.{at, declares, part, named, sequence, process}

-- the points L and H
abbrev pub low : Label
low = Declared (record { 0 = 0 })

abbrev pub high : Label
high = Declared (record { 0 = 1 })

-- by a map of one range, and of two
abbrev pub by : ℕ → Label
by s = Table 0 s None

abbrev pub by_both : ℕ → ℕ → Label
by_both s t = Table 1 s (Some t)

abbrev pub point : ℕ → Point
point p = record { 0 = p }

-- labelmap Dom [0:0] 0: L; default: H; and labelmap Two [0:0] [0:0] 0, 0: L; default: H;
abbrev pub maps : List MapRows
maps =
    record { first = 1; second = None; rows = map point (0 ∷ 1 ∷ []) }
    ∷ record { first = 1; second = Some 1; rows = map point (0 ∷ 1 ∷ 1 ∷ 1 ∷ []) }
    ∷ []

abbrev pub signal : List ℕ → ℕ → SigKind → Label → SignalForm
signal name width kind label = record (declares name width kind (at 1 1)) { label = label }

abbrev pub design : List SignalForm → List ProcessForm → FlatDesign
design signals processes = record {
  signals = signals;
  processes = processes;
  lattice = 3 ∷ 2 ∷ [];
  points = codes "L" ∷ codes "H" ∷ [];
  maps = maps;
  invariants = [];
}

-- the whole name of a signal, and an assignment to a whole signal
abbrev pub whole : (signal width : ℕ) → TypedTree
whole s width = typed width false (read s (at 1 1))

-- ---- a label by the value of a signal

-- module top(input turn, input a, input {H} b, output {Dom(turn)} y);
--   assign y = turn ? b : a;
abbrev pub turns : FlatDesign
turns = design
    (signal (codes "turn") 1 TopInput low ∷ signal (codes "a") 1 TopInput low ∷
    signal (codes "b") 1 TopInput high
    ∷ signal (codes "y") 1 Output (by 0) ∷ [])
    (process continuous (at 3 10) (assign (part 3 (at 3 10) 0 0 0 ∷ []) (at 3 10) true
    (typed 1 false (choice (at 3 19) (named 0 (at 3 14)) (named 2 (at 3 21))
    (named 1 (at 3 25))))) ∷ [])

-- ---- a register that is held

-- module m(input clk, input nxt, input [7:0] {H} k, output reg owner, output reg [7:0] {Dom(owner)}
-- r); always @(posedge clk) begin owner <= nxt; if (nxt) r <= k; end
abbrev pub held_register : FlatDesign
held_register = design
    (signal (codes "clk") 1 TopInput low ∷ signal (codes "nxt") 1 TopInput low ∷
    signal (codes "k") 8 TopInput high
    ∷ signal (codes "owner") 1 OutputReg low ∷ signal (codes "r") 8 OutputReg (by 3) ∷ [])
    (process (clocked 0) (at 3 3) (sequence (
    assign (part 3 (at 4 5) 0 0 0 ∷ []) (at 4 5) false (named 1 (at 4 14))
    ∷ branch (at 5 5) (named 1 (at 5 9))
    (assign (part 4 (at 5 14) 7 0 0 ∷ []) (at 5 14) false (whole 2 8)) nothing
    ∷ [])) ∷ [])
