-- What `secv list` prints of small designs, by computation.
use Rattle.std.proofs.Common.{◌≡◌, ℕ, true, false, [], ◌∷◌, ◌++◌, refl}
use Rattle.std.specs.Prelude.{codes}
use Rattle.std.specs.Fmt.{digits}
use Rattle.sv_num.specs.declared.faults.Place.{Place}
use Rattle.sv_num.specs.declared.operators.BinOp.TheVariants as binop
use Rattle.sv_lattice.specs.declared.labels.Label.{Label}
use Rattle.sv_flat.specs.declared.signals.SigKind.TheVariants.{TopInput, Output, Reg, OutputReg}
use Rattle.sv_flat.specs.Design.{TypedTree, typed, read_part, constant, choice}
use Rattle.sv_flat.specs.Design.{binary, FlatStatement, nothing, assign, branch, continuous}
use Rattle.sv_flat.specs.Design.{combinational, clocked, FlatDesign}
use Rattle.sv_flat.proofs.Forms.{at, part, named, sequence, process}
use Rattle.sv_paths.specs.ListLines.{list_text}
use Rattle.sv_obl.proofs.ExampleDesigns.{low, high, by, by_both, signal, design, whole, turns}
use Rattle.sv_obl.proofs.ExampleDesigns.{held_register}

abbrev puts : (signal width : ℕ) → Place → TypedTree → FlatStatement
puts s width place right = assign (part s place width 0 0 ∷ []) place true right

-- ---- a label by the value of a signal

pub a_choice_is_two_paths : list_text turns ≡
    codes "1 y now +3:19 =3:10 reads turn b\n"
    ++ codes "2 y now -3:19 =3:10 reads turn a\n"
unfolding digits
a_choice_is_two_paths = refl

-- ---- a register that is held

pub a_hold_reads_its_register : list_text held_register ≡
    codes "1 owner next =4:5 reads nxt\n"
    ++ codes "2 r next +5:5 =5:14 reads nxt k\n"
    ++ codes "3 r next -5:5 hold reads nxt r\n"
unfolding digits
a_hold_reads_its_register = refl

-- ---- a condition is read on both its paths

-- module m(input {H} h, input a, output reg y);
--   always @* begin y = a; if (h) y = a; end
abbrev both_arms : FlatDesign
both_arms = design
    (signal (codes "h") 1 TopInput high ∷ signal (codes "a") 1 TopInput low ∷
    signal (codes "y") 1 OutputReg low ∷ [])
    (process combinational (at 2 3) (sequence (
    assign (part 2 (at 3 5) 0 0 0 ∷ []) (at 3 5) true (named 1 (at 3 9))
    ∷ branch (at 4 5) (named 0 (at 4 9))
    (assign (part 2 (at 4 12) 0 0 0 ∷ []) (at 4 12) true (named 1 (at 4 16))) nothing
    ∷ [])) ∷ [])

pub both_paths_read_the_condition : list_text both_arms ≡
    codes "1 y now +4:5 =4:12 reads h a\n"
    ++ codes "2 y now -4:5 =3:5 reads h a\n"
unfolding digits
both_paths_read_the_condition = refl

-- ---- an `if` that assigns the target nowhere is passed over, and so is what stands before a whole
-- assignment

-- module m(input c, input e, input a, input b, output reg z, output reg t);
--   always @* begin t = 0; z = a; if (c) t = b; if (e) z = 1; end
abbrev several_targets : FlatDesign
several_targets = design
    (signal (codes "c") 1 TopInput low ∷ signal (codes "e") 1 TopInput low ∷
    signal (codes "a") 1 TopInput low
    ∷ signal (codes "b") 1 TopInput low ∷ signal (codes "z") 1 OutputReg low ∷
    signal (codes "t") 1 OutputReg low ∷ [])
    (process combinational (at 3 3) (sequence (
    assign (part 5 (at 3 19) 0 0 0 ∷ []) (at 3 19) true (typed 1 false (constant 0))
    ∷ assign (part 4 (at 3 26) 0 0 0 ∷ []) (at 3 26) true (named 2 (at 3 30))
    ∷ branch (at 3 33) (named 0 (at 3 37))
    (assign (part 5 (at 3 40) 0 0 0 ∷ []) (at 3 40) true (named 3 (at 3 44))) nothing
    ∷ branch (at 3 47) (named 1 (at 3 51))
    (assign (part 4 (at 3 54) 0 0 0 ∷ []) (at 3 54) true (typed 1 false (constant 1))) nothing
    ∷ [])) ∷ [])

pub others_are_passed_over : list_text several_targets ≡
    codes "1 z now +3:47 =3:54 reads e\n"
    ++ codes "2 z now -3:47 =3:26 reads e a\n"
    ++ codes "3 t now +3:33 =3:40 reads c b\n"
    ++ codes "4 t now -3:33 =3:19 reads c\n"
unfolding digits
others_are_passed_over = refl

-- ---- a choice is split where it covers the whole target, and under the conditions that follow it

-- module m(input c, input e, input a, input b, output reg z);
--   always @* begin z = c ? a : b; if (e) z = c ? 1 : 0; end
abbrev split_choices : FlatDesign
split_choices = design
    (signal (codes "c") 1 TopInput low ∷ signal (codes "e") 1 TopInput low ∷
    signal (codes "a") 1 TopInput low
    ∷ signal (codes "b") 1 TopInput low ∷ signal (codes "z") 1 OutputReg low ∷ [])
    (process combinational (at 3 3) (sequence (
    assign (part 4 (at 3 19) 0 0 0 ∷ []) (at 3 19) true
    (typed 1 false (choice (at 3 25) (named 0 (at 3 23)) (named 2 (at 3 27)) (named 3 (at 3 31))))
    ∷ branch (at 3 34) (named 1 (at 3 38)) (assign (part 4 (at 3 41) 0 0 0 ∷ []) (at 3 41) true
    (typed 1 false (choice (at 3 47) (named 0 (at 3 45)) (typed 1 false (constant 1))
    (typed 1 false (constant 0))))) nothing
    ∷ [])) ∷ [])

pub choices_are_split : list_text split_choices ≡
    codes "1 z now +3:34 +3:47 =3:41 reads c e\n"
    ++ codes "2 z now +3:34 -3:47 =3:41 reads c e\n"
    ++ codes "3 z now +3:25 -3:34 =3:19 reads c e a\n"
    ++ codes "4 z now -3:25 -3:34 =3:19 reads c e b\n"
unfolding digits
choices_are_split = refl

-- ---- parts and joins on the left

-- module m(input [3:0] a, input [3:0] b, output reg [3:0] s, output reg c, output reg [3:0] p);
--   always @* {c, s} = a + b;
--   always @* begin p[1:0] = a[1:0]; p[3:2] = b[3:2]; end
abbrev pub replaced : FlatDesign
replaced = design
    (signal (codes "a") 4 TopInput low ∷ signal (codes "b") 4 TopInput low ∷
    signal (codes "s") 4 OutputReg low
    ∷ signal (codes "c") 1 OutputReg low ∷ signal (codes "p") 4 OutputReg low ∷ [])
    (process combinational (at 2 3)
    (assign (part 3 (at 2 14) 0 0 4 ∷ part 2 (at 2 17) 3 0 0 ∷ []) (at 2 14) true
    (typed 5 false (binary binop.Add (whole 0 5) (whole 1 5))))
    ∷ process combinational (at 3 3) (sequence (
    assign (part 4 (at 3 19) 1 0 0 ∷ []) (at 3 19) true (typed 2 false (read_part 0 (at 3 28) 1 0))
    ∷ assign (part 4 (at 3 36) 3 2 0 ∷ []) (at 3 36) true
    (typed 2 false (read_part 1 (at 3 45) 3 2))
    ∷ [])) ∷ [])

pub replaced_bits_are_read : list_text replaced ≡
    codes "1 s now =2:17 reads a b\n"
    ++ codes "2 c now =2:14 reads a b\n"
    ++ codes "3 p now =3:36 reads a b\n"
unfolding digits
replaced_bits_are_read = refl

-- module m(input clk, input c, input a, output reg [1:0] q);
--   always @(posedge clk) begin q[0] <= a; if (c) q[1] <= a; end
-- a bit of the register is kept, so it is read where it is not put whole
abbrev kept_bit : FlatDesign
kept_bit = design
    (signal (codes "clk") 1 TopInput low ∷ signal (codes "c") 1 TopInput low ∷
    signal (codes "a") 1 TopInput low
    ∷ signal (codes "q") 2 OutputReg low ∷ [])
    (process (clocked 0) (at 2 3) (sequence (
    assign (part 3 (at 2 31) 0 0 0 ∷ []) (at 2 31) false (named 2 (at 2 39))
    ∷ branch (at 2 42) (named 1 (at 2 46))
    (assign (part 3 (at 2 49) 1 1 0 ∷ []) (at 2 49) false (named 2 (at 2 57))) nothing
    ∷ [])) ∷ [])

pub kept_bits_are_read : list_text kept_bit ≡
    codes "1 q next +2:42 =2:49 reads c a q\n"
    ++ codes "2 q next -2:42 =2:31 reads c a q\n"
unfolding digits
kept_bits_are_read = refl

-- ---- earlier reads

-- module m(input a, input {H} h, output reg y, output reg {H} z);
--   reg t;
--   always @* begin t = h; z = t;
--     t = a; y = t; end
abbrev earlier_value : FlatDesign
earlier_value = design
    (signal (codes "a") 1 TopInput low ∷ signal (codes "h") 1 TopInput high ∷
    signal (codes "y") 1 OutputReg low
    ∷ signal (codes "z") 1 OutputReg high ∷ signal (codes "t") 1 Reg low ∷ [])
    (process combinational (at 3 3) (sequence (
    assign (part 4 (at 4 5) 0 0 0 ∷ []) (at 4 5) true (named 1 (at 4 9))
    ∷ assign (part 3 (at 4 12) 0 0 0 ∷ []) (at 4 12) true (named 4 (at 4 16))
    ∷ assign (part 4 (at 5 5) 0 0 0 ∷ []) (at 5 5) true (named 0 (at 5 9))
    ∷ assign (part 2 (at 5 12) 0 0 0 ∷ []) (at 5 12) true (named 4 (at 5 16))
    ∷ [])) ∷ [])

-- the value that t had is put in for its earlier read; its last one is read as it stands
pub earlier_values_are_put_in : list_text earlier_value ≡
    codes "1 y now =5:12 reads t\n"
    ++ codes "2 z now =4:12 reads h\n"
    ++ codes "3 t now =5:5 reads a\n"
unfolding digits
earlier_values_are_put_in = refl

-- module m(input c, input a, input b, output reg y, output reg t);
--   always @* begin t = c ? a : b; y = t; t = 0; end
abbrev earlier_choice : FlatDesign
earlier_choice = design
    (signal (codes "c") 1 TopInput low ∷ signal (codes "a") 1 TopInput low ∷
    signal (codes "b") 1 TopInput low
    ∷ signal (codes "y") 1 OutputReg low ∷ signal (codes "t") 1 OutputReg low ∷ [])
    (process combinational (at 2 3) (sequence (
    assign (part 4 (at 2 19) 0 0 0 ∷ []) (at 2 19) true
    (typed 1 false (choice (at 2 25) (named 0 (at 2 23)) (named 1 (at 2 27)) (named 2 (at 2 31))))
    ∷ assign (part 3 (at 2 34) 0 0 0 ∷ []) (at 2 34) true (named 4 (at 2 38))
    ∷ assign (part 4 (at 2 41) 0 0 0 ∷ []) (at 2 41) true (typed 1 false (constant 0))
    ∷ [])) ∷ [])

-- a choice is split where the result is an earlier value by itself, too
pub earlier_choices_are_split : list_text earlier_choice ≡
    codes "1 y now +2:25 =2:34 reads c a\n"
    ++ codes "2 y now -2:25 =2:34 reads c b\n"
    ++ codes "3 t now =2:41 reads\n"
unfolding digits
earlier_choices_are_split = refl

-- ---- selectors

-- module m(input p, input {Dom(p)} q, input {Two(p, q)} d, output {H} y); assign y = d;
abbrev pub two_selectors : Label → FlatDesign
two_selectors label = design
    (signal (codes "p") 1 TopInput low ∷ signal (codes "q") 1 TopInput label ∷
    signal (codes "d") 1 TopInput (by_both 0 1)
    ∷ signal (codes "y") 1 Output high ∷ [])
    (process continuous (at 4 10)
    (assign (part 3 (at 4 10) 0 0 0 ∷ []) (at 4 10) true (named 2 (at 4 14))) ∷ [])

pub a_selector_has_an_obligation : list_text (two_selectors (by 0)) ≡
    codes "1 y now =4:10 reads d\n"
    ++ codes "2 d now selector reads q\n"
unfolding digits
a_selector_has_an_obligation = refl

pub so_has_a_secret_selector : list_text (two_selectors high) ≡
    codes "1 y now =4:10 reads d\n"
    ++ codes "2 d now selector reads q\n"
unfolding digits
so_has_a_secret_selector = refl

-- the least label flows to every row
pub a_public_selector_has_none : list_text (two_selectors low) ≡ codes "1 y now =4:10 reads d\n"
unfolding digits
a_public_selector_has_none = refl
