-- What `secv cnf` prints of small designs, by computation.
use Rattle.std.proofs.Common.{◌≡◌, ℕ, true, false, [], ◌∷◌, ◌++◌, None, refl}
use Rattle.std.specs.Prelude.{◌==◌, ◌||◌, codes}
use Rattle.std.specs.Fmt.{digits}
use Rattle.sv_num.specs.declared.operators.UnOp.TheVariants as unop
use Rattle.sv_num.specs.declared.operators.BinOp.TheVariants as binop
use Rattle.sv_flat.specs.declared.signals.SigKind.TheVariants.{TopInput, Output, Reg, OutputReg}
use Rattle.sv_flat.specs.Design.{TypedTree, typed, read, read_bit, constant, unary, binary, choice}
use Rattle.sv_flat.specs.Design.{nothing, assign, branch, continuous, combinational}
use Rattle.sv_flat.specs.Design.{clocked, FlatDesign}
use Rattle.sv_flat.proofs.Forms.{part, sequence, process}
use Rattle.sv_gates.specs.NormalForms.{put, ascending, with_clause}
use Rattle.sv_obl.specs.declared.frames.Frame.{Frame}
use Rattle.sv_obl.specs.declared.frames.Frame.TheVariants.{Now, Next}
use Rattle.sv_obl.specs.Obligations.{holds, Obligation}
use Rattle.sv_obl.specs.Validity.{Valuation}
use Rattle.sv_encoding.specs.Encoding.{encoding}
use Rattle.sv_encoding.specs.CnfText.{cnf_text}
use Rattle.sv_encoding.specs.Valuations.{decoded}
use Rattle.sv_encoding.proofs.DesignForms.{here, low, high, by, by_both, typed_signal, signal}
use Rattle.sv_encoding.proofs.DesignForms.{design, name, sets_part, sets_bit, updates_bit}
use Rattle.sv_encoding.proofs.DesignForms.{cnf_of, bits_of, size_of}

-- ---- labels

-- module top(input turn, input a, input {H} b, output {D(turn)} y); assign y = turn ? b : a;
abbrev pub turns : FlatDesign
turns = design
    (signal 1 TopInput low ∷ signal 1 TopInput low ∷ signal 1 TopInput high
    ∷ signal 1 Output (by 0) ∷ [])
    (process continuous here (sets_bit 3
    (typed 1 false (choice here (name 0 1) (name 2 1) (name 1 1)))) ∷ [])

-- 2 is turn; 3 is that b is H while y is L
pub by_a_selector : cnf_of turns 1 ≡
    codes "p cnf 3 6\n1 0\n1 -3 0\n-2 -3 0\n-1 2 3 0\n2 0\n3 0\n"
unfolding digits put ascending with_clause
by_a_selector = refl

-- L flows everywhere, so the violation is -1
pub without_violation : cnf_of turns 2 ≡ codes "p cnf 2 3\n1 0\n-2 0\n-1 0\n"
unfolding digits put ascending with_clause
without_violation = refl

pub its_size : size_of turns 1 ≡ 3
its_size = refl

pub no_third : cnf_of turns 3 ≡ []
unfolding digits put ascending with_clause
no_third = refl

-- module m(input clk, input nxt, input [7:0] {H} k, output reg owner, output reg [7:0] {D(owner)}
-- r); always @(posedge clk) begin owner <= nxt; if (nxt) r <= k; end
abbrev pub owned : FlatDesign
owned = design
    (signal 1 TopInput low ∷ signal 1 TopInput low ∷ signal 8 TopInput high
    ∷ signal 1 OutputReg low ∷ signal 8 OutputReg (by 3) ∷ [])
    (process (clocked 0) here (sequence (
    updates_bit 3 (name 1 1)
    ∷ branch here (name 1 1) (assign (part 4 here 7 0 0 ∷ []) here false (name 2 8)) nothing
    ∷ [])) ∷ [])

-- a register's label is that of the next cycle, where owner is nxt, which is 2
pub by_a_next_selector : cnf_of owned 2 ≡
    codes "p cnf 4 6\n1 0\n1 -4 0\n-2 -4 0\n-1 2 4 0\n2 0\n4 0\n"
unfolding digits put ascending with_clause
by_a_next_selector = refl

-- where r is held it is read, with the label of this cycle, where owner is 3
pub held_by_a_selector : cnf_of owned 3 ≡
    codes "p cnf 4 6\n1 0\n3 -4 0\n-2 -4 0\n2 -3 4 0\n-2 0\n4 0\n"
unfolding digits put ascending with_clause
held_by_a_selector = refl

-- module m(input clk, input s, input {H} h, output reg t, output w, output reg {D(w)} q);
--   assign w = t ^ s;
--   always @(posedge clk) begin t <= s; if (w) q <= h; else q <= 0; end
abbrev pub wired : FlatDesign
wired = design
    (signal 1 TopInput low ∷ signal 1 TopInput low ∷ signal 1 TopInput high
    ∷ signal 1 OutputReg low ∷ signal 1 Output low ∷ signal 1 OutputReg (by 4) ∷ [])
    (process continuous here (sets_bit 4
    (typed 1 false (binary binop.Xor (name 3 1) (name 1 1))))
    ∷ process (clocked 0) here (sequence (
    updates_bit 3 (name 1 1)
    ∷ branch here (name 4 1) (updates_bit 5 (name 2 1))
    (updates_bit 5 (typed 32 true (constant 0)))
    ∷ [])) ∷ [])

-- 4 is w from s and t, 2 and 3; 5 is the next s, and 6 the next w from the next t, which is 2
pub by_a_next_wire : cnf_of wired 3 ≡
    codes "p cnf 7 14\n1 0\n2 3 -4 0\n-2 -3 -4 0\n2 -3 4 0\n-2 3 4 0\n2 5 -6 0\n-2 -5 -6 0\n"
    ++ codes "-2 5 6 0\n2 -5 6 0\n1 -7 0\n-6 -7 0\n-1 6 7 0\n4 0\n7 0\n"
unfolding digits put ascending with_clause
by_a_next_wire = refl

pub size_of_wired : size_of wired 3 ≡ 7
size_of_wired = refl

-- module m(input {H} p, q, input {T(p, q)} d, e, output {T(p, q)} y); assign y = d & e;
abbrev pub by_two : FlatDesign
by_two = design
    (signal 1 TopInput high ∷ signal 1 TopInput high ∷ signal 1 TopInput (by_both 0 1)
    ∷ signal 1 TopInput (by_both 0 1) ∷ signal 1 Output (by_both 0 1) ∷ [])
    (process continuous here (sets_bit 4
    (typed 1 false (binary binop.And (name 2 1) (name 3 1)))) ∷ [])

-- d has a secret selector: the bits of q, which is 3, come first, so 4 is that both are 0; -9 is
-- that one is not, and 10 that p's label, H, does not flow to d's
pub a_selector_stays : cnf_of by_two 2 ≡
    codes "p cnf 10 23\n1 0\n-3 -4 0\n-2 -4 0\n2 3 4 0\n3 -5 0\n-2 -5 0\n2 -3 5 0\n-3 -6 0\n"
    ++ codes "2 -6 0\n-2 3 6 0\n-5 -7 0\n-6 -7 0\n5 6 7 0\n3 -8 0\n2 -8 0\n-2 -3 8 0\n7 -9 0\n"
    ++ codes "-8 -9 0\n-7 8 9 0\n1 -10 0\n4 -10 0\n-1 -4 10 0\n10 0\n"
unfolding digits put ascending with_clause
a_selector_stays = refl

pub size_of_by_two : size_of by_two 2 ≡ 10
size_of_by_two = refl

-- ---- conditions

-- module m(input [1:0] a, b, input signed [1:0] c, d, input {H} h, output y);
--   assign y = (condition) ? 0 : h;
abbrev pub chooses : TypedTree → FlatDesign
chooses condition = design
    (signal 2 TopInput low ∷ signal 2 TopInput low ∷ typed_signal 2 true TopInput low
    ∷ typed_signal 2 true TopInput low ∷ signal 1 TopInput high ∷ signal 1 Output low ∷ [])
    (process continuous here (sets_bit 5
    (typed 32 false (choice here condition (typed 32 false (constant 0)) (name 4 32)))) ∷ [])

abbrev pub signed_name : (signal : ℕ) → TypedTree
signed_name s = typed 2 true (read s here)

-- c < d: the highest bits are negated
pub signed_less : cnf_of (chooses (typed 1 false
    (binary binop.Lt (signed_name 2) (signed_name 3)))) 2 ≡
    codes "p cnf 10 22\n1 0\n2 4 -6 0\n-2 -4 -6 0\n-2 4 6 0\n2 -4 6 0\n4 -6 -7 0\n-1 6 -7 0\n"
    ++ codes "-4 -6 7 0\n1 6 7 0\n-3 -5 -8 0\n3 5 -8 0\n3 -5 8 0\n-3 5 8 0\n-5 -8 -9 0\n7 8 -9 0\n"
    ++ codes "5 -8 9 0\n-7 8 9 0\n1 -10 0\n1 -10 0\n-1 10 0\n-9 0\n10 0\n"
unfolding digits put ascending with_clause
signed_less = refl

-- c >>> d: the fill is the highest bit of c, which is 3, for both bits of the amount
pub signed_shift : cnf_of (chooses (typed 2 true
    (binary binop.SignShr (signed_name 2) (signed_name 3)))) 2 ≡
    codes "p cnf 11 25\n1 0\n3 -4 -6 0\n2 4 -6 0\n-3 -4 6 0\n-2 4 6 0\n3 -4 -7 0\n"
    ++ codes "3 4 -7 0\n-3 -4 7 0\n-3 4 7 0\n3 -5 -8 0\n5 6 -8 0\n-3 -5 8 0\n5 -6 8 0\n"
    ++ codes "3 -5 -9 0\n5 7 -9 0\n-3 -5 9 0\n5 -7 9 0\n-8 -10 0\n-9 -10 0\n8 9 10 0\n"
    ++ codes "1 -11 0\n1 -11 0\n-1 11 0\n10 0\n11 0\n"
unfolding digits put ascending with_clause
signed_shift = refl

-- a[b]: 6 and 8 are that b is 0 and 1
pub bit_by_an_index : cnf_of (chooses (typed 1 false (read_bit 0 here (name 1 2)))) 1 ≡
    codes "p cnf 9 17\n1 0\n-4 -6 0\n-5 -6 0\n4 5 6 0\n2 -6 -7 0\n-1 6 -7 0\n-2 -6 7 0\n1 6 7 0\n"
    ++ codes "4 -8 0\n-5 -8 0\n-4 5 8 0\n3 -8 -9 0\n7 8 -9 0\n-3 -8 9 0\n-7 8 9 0\n9 0\n-1 0\n"
unfolding digits put ascending with_clause
bit_by_an_index = refl

-- a[1 - 1] takes no gate
pub bit_by_a_constant : cnf_of (chooses (typed 1 false (read_bit 0 here (typed 32 true
    (binary binop.Sub (typed 32 true (constant 1)) (typed 32 true (constant 1))))))) 1 ≡
    codes "p cnf 3 3\n1 0\n2 0\n-1 0\n"
unfolding digits put ascending with_clause
bit_by_a_constant = refl

-- nor does a constant index outside of its signal, which no text has: the condition is -1
pub bit_outside : cnf_of (chooses (typed 1 false
    (read_bit 0 here (typed 32 true (constant 2))))) 1 ≡ codes "p cnf 3 3\n1 0\n-1 0\n-1 0\n"
unfolding digits put ascending with_clause
bit_outside = refl

-- ---- blocks

-- module m(input [1:0] i, input [1:0] s, input {H} k, output reg {H} y1); reg [1:0] t;
--   always @* begin {t[0], t[1]} = s ^ i; if (t == 2'd1) y1 = k; else y1 = 0; t = 0; end
abbrev pub mended : FlatDesign
mended = design
    (signal 2 TopInput low ∷ signal 2 TopInput low ∷ signal 1 TopInput high
    ∷ signal 1 OutputReg high ∷ signal 2 Reg low ∷ [])
    (process combinational here (sequence (
    assign (part 4 here 0 0 1 ∷ part 4 here 1 1 0 ∷ []) here true
    (typed 2 false (binary binop.Xor (name 1 2) (name 0 2)))
    ∷ branch here (typed 1 false (binary binop.Eq (name 4 2) (typed 2 false (constant 1))))
    (sets_bit 3 (name 2 1)) (sets_bit 3 (typed 32 true (constant 0)))
    ∷ sets_part 4 1 0 (typed 32 true (constant 0))
    ∷ [])) ∷ [])

-- the right side is put in for t once for each piece, and encoded where it stands: bit 0 is 7 and
-- bit 1 is 8
pub bits_replaced : cnf_of mended 1 ≡
    codes "p cnf 12 30\n1 0\n2 4 -6 0\n-2 -4 -6 0\n2 -4 6 0\n-2 4 6 0\n3 5 -7 0\n-3 -5 -7 0\n"
    ++ codes "3 -5 7 0\n-3 5 7 0\n2 4 -8 0\n-2 -4 -8 0\n2 -4 8 0\n-2 4 8 0\n3 5 -9 0\n-3 -5 -9 0\n"
    ++ codes "3 -5 9 0\n-3 5 9 0\n1 7 -10 0\n-1 -7 -10 0\n1 -7 10 0\n-1 7 10 0\n-1 8 -11 0\n"
    ++ codes "1 -8 -11 0\n-1 -8 11 0\n1 8 11 0\n-10 -12 0\n-11 -12 0\n10 11 12 0\n12 0\n-1 0\n"
unfolding digits put ascending with_clause
bits_replaced = refl

pub size_of_mended : size_of mended 1 ≡ 12
size_of_mended = refl

-- module m(input e, input [1:0] s, input {H} k, output reg {H} y1); reg [1:0] t;
--   always @* begin t = s; y1 = 0;
--     case (t) 2'd0: y1 = k; 2'd1: t = ~t; 2'd2: y1 = e; endcase end
abbrev pub cased : FlatDesign
cased = design
    (signal 1 TopInput low ∷ signal 2 TopInput low ∷ signal 1 TopInput high
    ∷ signal 1 OutputReg high ∷ signal 2 Reg low ∷ [])
    (process combinational here (sequence (
    sets_part 4 1 0 (name 1 2) ∷ sets_bit 3 (typed 32 true (constant 0))
    ∷ branch here (item 0) (sets_bit 3 (name 2 1))
    (branch here (item 1) (sets_part 4 1 0 (typed 2 false (unary unop.Invert (name 4 2))))
    (branch here (item 2) (sets_bit 3 (name 0 1)) nothing))
    ∷ [])) ∷ [])
  where
    item : ℕ → TypedTree
    item n = typed 1 false (binary binop.Eq (name 4 2) (typed 2 false (constant n)))

-- each arm's condition has a word of its own for what was put in for t; the first is false here
pub conditions_of_a_case : cnf_of cased 2 ≡
    codes "p cnf 9 26\n1 0\n-1 2 -4 0\n1 -2 -4 0\n-1 -2 4 0\n1 2 4 0\n-1 3 -5 0\n"
    ++ codes "1 -3 -5 0\n-1 -3 5 0\n1 3 5 0\n-4 -6 0\n-5 -6 0\n4 5 6 0\n1 2 -7 0\n-1 -2 -7 0\n"
    ++ codes "1 -2 7 0\n-1 2 7 0\n-1 3 -8 0\n1 -3 -8 0\n-1 -3 8 0\n1 3 8 0\n-7 -9 0\n-8 -9 0\n"
    ++ codes "7 8 9 0\n-6 0\n9 0\n-1 0\n"
unfolding digits put ascending with_clause
conditions_of_a_case = refl

pub size_of_cased : size_of cased 2 ≡ 9
size_of_cased = refl

-- labelmap D [0:0] 0: L; default: H; endlabelmap
-- module m(input c, input e, input g, input {H} k, output {D(t)} y, output reg t);
--   reg u;
--   assign y = k;
--   always @* begin
--     t = c; u = e; if (g) begin t = u; u = t; end else u = c & e; t = t ^ u; u = 0;
--   end
-- endmodule
abbrev pub followed_signals : FlatDesign
followed_signals = design
    (signal 1 TopInput low ∷ signal 1 TopInput low ∷ signal 1 TopInput low ∷ signal 1 TopInput high
    ∷ signal 1 Output (by 5) ∷ signal 1 OutputReg low ∷ signal 1 Reg low ∷ [])
    (process continuous here (sets_bit 4 (name 3 1))
    ∷ process combinational here (sequence (
    sets_bit 5 (name 0 1) ∷ sets_bit 6 (name 1 1)
    ∷ branch here (name 2 1)
    (sequence (sets_bit 5 (name 6 1) ∷ sets_bit 6 (name 5 1) ∷ []))
    (sets_bit 6 (typed 1 false (binary binop.And (name 0 1) (name 1 1))))
    ∷ sets_bit 5 (typed 1 false (binary binop.Xor (name 5 1) (name 6 1)))
    ∷ sets_bit 6 (typed 32 true (constant 0)) ∷ [])) ∷ [])

-- t and u are followed: 5 is c & e, 6 and 7 are what t and u have after the `if`, and 8 is t
pub earlier_reads : cnf_of followed_signals 1 ≡
    codes "p cnf 9 20\n1 0\n2 -5 0\n3 -5 0\n-2 -3 5 0\n3 -4 -6 0\n2 4 -6 0\n-3 -4 6 0\n"
    ++ codes "-2 4 6 0\n3 -4 -7 0\n4 5 -7 0\n-3 -4 7 0\n4 -5 7 0\n6 7 -8 0\n-6 -7 -8 0\n"
    ++ codes "-6 7 8 0\n6 -7 8 0\n1 -9 0\n-8 -9 0\n-1 8 9 0\n9 0\n"
unfolding digits put ascending with_clause
earlier_reads = refl

pub size_of_followed_signals : size_of followed_signals 1 ≡ 9
size_of_followed_signals = refl

-- ---- facts, and expressions that have to hold

-- module m(input clk, input a, output reg r); always @(posedge clk) r <= a; endmodule
abbrev pub held_bit : FlatDesign
held_bit = design
    (signal 1 TopInput low ∷ signal 1 TopInput low ∷ signal 1 OutputReg low ∷ [])
    (process (clocked 0) here (updates_bit 2 (name 1 1)) ∷ [])

-- with a fact, on no path
abbrev pub asks : TypedTree → Frame → Obligation
asks fact frame =
    record { facts = fact ∷ []; path = []; right = None; reads = []; goal = holds (name 2 1) frame }

-- a is 2 and r is 3: the fact a, and that r is 0 in this cycle
pub holds_now : cnf_text (encoding held_bit (asks (name 1 1) Now)) ≡
    codes "p cnf 3 3\n1 0\n2 0\n-3 0\n"
unfolding digits put ascending with_clause
holds_now = refl

-- the fact r, and that r is 0 in the next cycle, where it is a
pub holds_next : cnf_text (encoding held_bit (asks (name 2 1) Next)) ≡
    codes "p cnf 3 3\n1 0\n3 0\n-2 0\n"
unfolding digits put ascending with_clause
holds_next = refl

-- ---- decoding

-- variable 1 and turn, 2, are true: turn is 1, and what is outside of the cone is 0
abbrev of_turns : Valuation
of_turns = decoded turns (bits_of turns 1) (λ n. true)

pub turn_is_one : of_turns.inputs 0 ≡ 1
turn_is_one = refl

pub b_is_zero : of_turns.inputs 2 ≡ 0
b_is_zero = refl

-- a[b]: the bits of a are 2 and 3, those of b 4 and 5; with 3 and 4 alone a is 2 and b is 1
abbrev of_bit : Valuation
of_bit =
    decoded (chooses (name 0 2)) (bits_of (chooses (typed 1 false (read_bit 0 here (name 1 2)))) 1)
    (λ n. (n == 3) || (n == 4))

pub a_is_two : of_bit.inputs 0 ≡ 2
a_is_two = refl

pub b_is_one : of_bit.inputs 1 ≡ 1
b_is_one = refl

-- 2 is nxt and 3 is owner, a register; no input of the next cycle hangs in
abbrev of_owned : Valuation
of_owned = decoded owned (bits_of owned 3) (λ n. n == 3)

pub owner_is_one : of_owned.registers 3 ≡ 1
owner_is_one = refl

pub no_next_input : of_owned.next_inputs 1 ≡ 0
no_next_input = refl
