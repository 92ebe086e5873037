-- The limits on obligations, by computation.
use Rattle.std.proofs.Common.{◌≡◌, ℕ, true, false, List, [], ◌∷◌, Some, None, refl}
use Rattle.std.specs.Prelude.{codes, map}
use Rattle.std.specs.List.{range_with_len}
use Rattle.sv_flat.specs.declared.signals.SigKind.TheVariants.{TopInput, OutputReg}
use Rattle.sv_flat.specs.Design.{nothing, assign, branch, combinational, clocked, FlatDesign}
use Rattle.sv_flat.proofs.Forms.{at, part, named, sequence, process}
use Rattle.sv_paths.specs.Limits.{many_paths, target_paths, excess}
use Rattle.sv_obl.specs.Paths.{Path}
use Rattle.sv_obl.proofs.ExampleDesigns.{low, signal, design}
use Rattle.sv_paths.proofs.ListExamples.{replaced}

abbrev nodes_of : List Path → List ℕ
nodes_of paths = map (λ (p : Path). p.nodes) paths

-- a part is put into the value that has the other part; what covers its target whole is not put in
pub parts_are_put_in : nodes_of (target_paths replaced 4) ≡ 2 ∷ []
parts_are_put_in = refl

-- {c, s} = a + b covers both targets whole
pub wholes_are_not : nodes_of (target_paths replaced 2) ≡ 0 ∷ []
wholes_are_not = refl

-- module m(input a, output reg y);
--   always @* begin y = a; y = y; end
abbrev read_again : FlatDesign
read_again = design
    (signal (codes "a") 1 TopInput low ∷ signal (codes "y") 1 OutputReg low ∷ [])
    (process combinational (at 2 3) (sequence (
    assign (part 1 (at 2 19) 0 0 0 ∷ []) (at 2 19) true (named 0 (at 2 23))
    ∷ assign (part 1 (at 2 26) 0 0 0 ∷ []) (at 2 26) true (named 1 (at 2 30))
    ∷ [])) ∷ [])

-- `y = y` covers y whole where nothing was put yet; a is put for its earlier read of y, and counts
pub what_an_earlier_read_gets_is_put_in : nodes_of (target_paths read_again 1) ≡ 1 ∷ []
what_an_earlier_read_gets_is_put_in = refl

pub few_are_in_order : excess replaced ≡ None
few_are_in_order = refl

-- module m(input clk, input c, input a, output reg [12:0] q);
--   always @(posedge clk) begin if (c) q[0] <= a; if (c) q[1] <= a; .. end
abbrev bits_of : (count : ℕ) → FlatDesign
bits_of count = design
    (signal (codes "clk") 1 TopInput low ∷ signal (codes "c") 1 TopInput low ∷
    signal (codes "a") 1 TopInput low
    ∷ signal (codes "q") 13 OutputReg low ∷ [])
    (process (clocked 0) (at 2 3)
    (sequence (map (λ k.
    branch (at 2 31) (named 1 (at 2 35))
    (assign (part 3 (at 2 38) k k 0 ∷ []) (at 2 38) false (named 2 (at 2 46))) nothing)
    (range_with_len 0 count))) ∷ [])

-- each bit doubles the paths
pub eight_paths : excess (bits_of 3) ≡ None
eight_paths = refl

pub too_many_paths : excess (bits_of 13) ≡ Some (many_paths 3)
too_many_paths = refl

pub just_enough_paths : excess (bits_of 12) ≡ None
just_enough_paths = refl
