-- The rules of flat designs by computation: of each a design that breaks it, and one that does not.
use Rattle.std.proofs.Common.{◌≡◌, ℕ, true, false, List, [], ◌∷◌, Option, Some, None, refl}
use Rattle.std.specs.Prelude.{codes, map, if◌then◌else◌}
use Rattle.sv_flat.specs.declared.signals.SigKind.TheVariants.{TopInput, Input, Output, Net, Reg}
use Rattle.sv_flat.specs.declared.signals.SigKind.TheVariants.{OutputReg}
use Rattle.sv_flat.specs.Design.{TypedTree, typed, constant, read, read_bit, join, no_parts}
use Rattle.sv_flat.specs.Design.{more_parts, FlatStatement, nothing, assign, branch, continuous}
use Rattle.sv_flat.specs.Design.{port_in, combinational, clocked, FlatDesign}
use Rattle.sv_flat.specs.Breaches.{Breach, breach, comes_before}
use Rattle.sv_flat.specs.Admission.{breaches, names_of, IsAdmitted}
use Rattle.sv_flat.specs.Loops.{is_circle, is_read_order, loop_breach}
use Rattle.sv_flat.specs.Reads.{reads_for, depth, order}
use Rattle.sv_flat.specs.Clocks.{clocks}
use Rattle.sv_flat.proofs.Forms.{at, declares, part, sets, later, named, sequence, process}
use Rattle.sv_flat.proofs.Forms.{over_two_points, invert, inverters}

-- the breach that comes first, after one in hand
abbrev first_from : Breach → List Breach → Breach
first_from a [] = a
first_from a (b ∷ bs) = first_from (if comes_before b a then b else a) bs

-- the breach that comes first, if there is one
abbrev first_breach : List Breach → Option Breach
first_breach [] = None
first_breach (b ∷ bs) = Some (first_from b bs)

-- a design breaks a rule first at a place, and with a signal
abbrev breaks : FlatDesign → (number line column signal : ℕ) → Type 0
breaks design number line column signal =
    first_breach (breaches design) ≡ Some (breach number (at line column) signal)

abbrev keeps : FlatDesign → Type 0
keeps design = breaches design ≡ []

-- ---- 601

-- module m(input a, input b, output w); assign {w, w} = {a, b}; endmodule
abbrev assigned_as : List ℕ → FlatDesign
assigned_as columns = over_two_points
    (declares (codes "a") 1 TopInput (at 1 16) ∷ declares (codes "b") 1 TopInput (at 1 25) ∷
    declares (codes "w") 1 Output (at 1 35) ∷ [])
    (process continuous (at 1 47) (assign (map (λ c. part 2 (at 1 c) 0 0 0) columns) (at 1 47) true
    (typed 2 false (join
    (more_parts (named 0 (at 1 56)) (more_parts (named 1 (at 1 59)) no_parts))))) ∷ [])

pub assigned_twice : breaks (assigned_as (47 ∷ 50 ∷ [])) 601 1 50 2
assigned_twice = refl

-- a third time: the place further to the left comes first
pub assigned_thrice : breaks (assigned_as (47 ∷ 50 ∷ 53 ∷ [])) 601 1 50 2
assigned_thrice = refl

pub assigned_once : keeps (assigned_as (47 ∷ []))
assigned_once = refl

-- module m(input a, output reg q); always @* q <= a; endmodule, and with `=`
abbrev in_block : FlatStatement → FlatDesign
in_block body = over_two_points
    (declares (codes "a") 1 TopInput (at 1 16) ∷ declares (codes "q") 1 OutputReg (at 1 30) ∷ [])
    (process combinational (at 1 34) body ∷ [])

pub nonblocking_in_block : breaks (in_block (later 1 (at 1 44) (named 0 (at 1 49)))) 601 1 44 1
nonblocking_in_block = refl

pub blocking_in_block : keeps (in_block (sets 1 (at 1 44) (named 0 (at 1 48))))
blocking_in_block = refl

-- always @* a = q: an input is no `reg`
pub input_as_target : breaks (in_block (sets 0 (at 1 44) (named 1 (at 1 48)))) 601 1 44 0
input_as_target = refl

-- ---- 602

-- module m(input c, input d, output reg q); always @(posedge c) q <= EXPRESSION; endmodule
abbrev at_edge : TypedTree → FlatDesign
at_edge e = over_two_points
    (declares (codes "c") 1 TopInput (at 1 16) ∷ declares (codes "d") 1 TopInput (at 1 25)
    ∷ declares (codes "q") 1 OutputReg (at 1 39) ∷ [])
    (process (clocked 0) (at 1 43) (later 2 (at 1 63) e) ∷ [])

pub clock_is_read : breaks (at_edge (named 0 (at 1 68))) 602 1 16 0
clock_is_read = refl

pub clock_alone : keeps (at_edge (named 1 (at 1 68)))
clock_alone = refl

-- module s(input k, input e, output reg r); always @(posedge k) r <= e; endmodule
-- module m(input c, input d, output q); s u(LINK, d, q); endmodule
abbrev linked_by : TypedTree → FlatDesign
linked_by link = over_two_points
    (declares (codes "c") 1 TopInput (at 2 16) ∷ declares (codes "d") 1 TopInput (at 2 25) ∷
    declares (codes "q") 1 Output (at 2 35)
    ∷ declares (codes "u.k") 1 Input (at 1 16) ∷ declares (codes "u.e") 1 Input (at 1 25)
    ∷ declares (codes "u.r") 1 OutputReg (at 1 39) ∷ [])
    (process port_in (at 2 43) (sets 3 (at 2 43) link)
    ∷ process port_in (at 2 46) (sets 4 (at 2 46) (named 1 (at 2 46)))
    ∷ process continuous (at 2 49) (sets 2 (at 2 49) (named 5 (at 2 49)))
    ∷ process (clocked 3) (at 1 43) (later 5 (at 1 63) (named 4 (at 1 68)))
    ∷ [])

-- a whole name that is linked to a clock is a clock too
pub two_clocks : clocks (linked_by (named 0 (at 2 43))) ≡ 0 ∷ 3 ∷ []
two_clocks = refl

pub linked_by_name : keeps (linked_by (named 0 (at 2 43)))
linked_by_name = refl

pub linked_by_expression : breaks (linked_by (invert (named 0 (at 2 44)))) 602 1 16 3
linked_by_expression = refl

-- ---- 603 and 604

-- module m(input a, output y, output z); assign y = a; assign SECOND = a; endmodule
abbrev second_drives : ℕ → FlatDesign
second_drives s = over_two_points
    (declares (codes "a") 1 TopInput (at 1 16) ∷ declares (codes "y") 1 Output (at 1 26) ∷
    declares (codes "z") 1 Output (at 1 36) ∷ [])
    (process continuous (at 1 47) (sets 1 (at 1 47) (named 0 (at 1 51)))
    ∷ process continuous (at 1 61) (sets s (at 1 61) (named 0 (at 1 65)))
    ∷ [])

pub two_drivers : breaks (second_drives 1) 603 1 61 1
two_drivers = refl

pub one_driver_each : keeps (second_drives 2)
one_driver_each = refl

pub no_driver : breaks (over_two_points (declares (codes "y") 1 Output (at 1 17) ∷ []) [])
    604 1 17 0
no_driver = refl

-- ---- 605

-- module m(input [1:0] a, output reg [3:0] r); always @* begin r[1:0] = a; r[3:LOW] = a; end
-- endmodule
abbrev high_part_from : ℕ → FlatDesign
high_part_from low = over_two_points
    (declares (codes "a") 2 TopInput (at 1 22) ∷ declares (codes "r") 4 OutputReg (at 1 42) ∷ [])
    (process combinational (at 1 46) (sequence
    (assign (part 1 (at 1 62) 1 0 0 ∷ []) (at 1 62) true (typed 2 false (read 0 (at 1 71)))
    ∷ assign (part 1 (at 1 74) 3 low 0 ∷ []) (at 1 74) true (typed 2 false (read 0 (at 1 83)))
    ∷ [])) ∷ [])

pub bit_is_left_out : breaks (high_part_from 3) 605 1 46 1
bit_is_left_out = refl

pub all_bits_assigned : keeps (high_part_from 2)
all_bits_assigned = refl

-- always @* if (a) q = 1; and with else q = 0;
abbrev one_arm : FlatStatement → FlatStatement
one_arm = branch (at 1 44) (named 0 (at 1 48)) (sets 1 (at 1 51) (typed 32 true (constant 1)))

pub latched : breaks (in_block (one_arm nothing)) 605 1 34 1
latched = refl

pub both_arms : keeps (in_block (one_arm (sets 1 (at 1 63) (typed 32 true (constant 0)))))
both_arms = refl

-- ---- 606

-- module m(input a, input h, output reg y, output reg z);
--   reg t;
--   always @* begin
--     t = h; z = t;
--     t = a; y = t;
--   end
-- endmodule
abbrev block_of : List FlatStatement → FlatDesign
block_of statements = over_two_points
    (declares (codes "a") 1 TopInput (at 1 16) ∷ declares (codes "h") 1 TopInput (at 1 25)
    ∷ declares (codes "y") 1 OutputReg (at 1 39) ∷ declares (codes "z") 1 OutputReg (at 1 53) ∷
    declares (codes "t") 1 Reg (at 2 7) ∷ [])
    (process combinational (at 3 3) (sequence statements) ∷ [])

abbrev t_h : FlatStatement
t_h = sets 4 (at 4 5) (named 1 (at 4 9))

abbrev z_t : FlatStatement
z_t = sets 3 (at 4 12) (named 4 (at 4 16))

abbrev t_a : FlatStatement
t_a = sets 4 (at 5 5) (named 0 (at 5 9))

abbrev y_t : FlatStatement
y_t = sets 2 (at 5 12) (named 4 (at 5 16))

-- what is assigned again may be read before
pub assigned_again : keeps (block_of (t_h ∷ z_t ∷ t_a ∷ y_t ∷ []))
assigned_again = refl

pub read_too_early : breaks (block_of (z_t ∷ t_a ∷ y_t ∷ [])) 606 4 16 4
read_too_early = refl

pub read_in_phase : keeps (block_of (t_h ∷ z_t ∷ y_t ∷ []))
read_in_phase = refl

-- module m(input a, output reg y, output reg [1:0] v); always @* begin v[0] = a; y = v[BIT]; v[1] =
-- a; end endmodule
abbrev reads_bit : ℕ → FlatDesign
reads_bit i = over_two_points
    (declares (codes "a") 1 TopInput (at 1 16) ∷ declares (codes "y") 1 OutputReg (at 1 30)
    ∷ declares (codes "v") 2 OutputReg (at 1 50) ∷ [])
    (process combinational (at 1 54) (sequence
    (assign (part 2 (at 1 70) 0 0 0 ∷ []) (at 1 70) true (named 0 (at 1 77))
    ∷ sets 1 (at 1 80) (typed 1 false (read_bit 2 (at 1 84) (typed 32 true (constant i))))
    ∷ assign (part 2 (at 1 90) 1 1 0 ∷ []) (at 1 90) true (named 0 (at 1 97))
    ∷ [])) ∷ [])

pub other_bit_follows : keeps (reads_bit 0)
other_bit_follows = refl

pub bit_without_value : breaks (reads_bit 1) 606 1 84 2
bit_without_value = refl

-- ---- 607, reads and depth

-- module m(output p, output q); assign p = ~q; assign q = ~p; endmodule
abbrev crossed : FlatDesign
crossed = over_two_points
    (declares (codes "p") 1 Output (at 1 17) ∷ declares (codes "q") 1 Output (at 1 27) ∷ [])
    (process continuous (at 1 38) (sets 0 (at 1 38) (invert (named 1 (at 1 43))))
    ∷ process continuous (at 1 53) (sets 1 (at 1 53) (invert (named 0 (at 1 58))))
    ∷ [])

pub circle_of_two : is_circle crossed (0 ∷ 1 ∷ []) ≡ true
circle_of_two = refl

pub circle_from_its_least : is_circle crossed (1 ∷ 0 ∷ []) ≡ false
circle_from_its_least = refl

pub circle_names : names_of crossed (loop_breach crossed 0 (1 ∷ [])) ≡ codes "p" ∷ codes "q" ∷ []
circle_names = refl

pub no_other_rule : keeps crossed
no_other_rule = refl

pub depths : map (depth inverters) (0 ∷ 1 ∷ 2 ∷ 3 ∷ []) ≡ 0 ∷ 3 ∷ 1 ∷ 2 ∷ []
depths = refl

pub by_depth : order inverters ≡ 2 ∷ 3 ∷ 1 ∷ []
by_depth = refl

pub admitted : IsAdmitted inverters
admitted = record { unbroken = refl; ordered = (2 ∷ 3 ∷ 1 ∷ [], refl) }

pub textual_order : is_read_order inverters (1 ∷ 3 ∷ 2 ∷ []) ≡ false
textual_order = refl

pub no_circle : is_circle inverters (1 ∷ 3 ∷ []) ≡ false
no_circle = refl

-- a read of another bit is a read of the signal: v[0] = a; v[1] = v[0] reads v for v
abbrev own_bit : FlatDesign
own_bit = over_two_points
    (declares (codes "a") 1 TopInput (at 1 16) ∷ declares (codes "v") 2 OutputReg (at 1 36) ∷ [])
    (process combinational (at 1 40) (sequence
    (assign (part 1 (at 1 56) 0 0 0 ∷ []) (at 1 56) true (named 0 (at 1 63))
    ∷ assign (part 1 (at 1 66) 1 1 0 ∷ []) (at 1 66) true
    (typed 1 false (read_bit 1 (at 1 73) (typed 32 true (constant 0))))
    ∷ [])) ∷ [])

pub bit_for_bit : is_circle own_bit (1 ∷ []) ≡ true
bit_for_bit = refl

-- an earlier read of t stands for what is read for t: z = t reads h and a for z, where t = h stands
-- before and t = a after it
pub earlier_stands_for_its_reads :
    map (reads_for (block_of (t_h ∷ z_t ∷ t_a ∷ y_t ∷ []))) (2 ∷ 3 ∷ 4 ∷ []) ≡ (4 ∷ [])
    ∷ (0 ∷ 1 ∷ []) ∷ (0 ∷ 1 ∷ []) ∷ []
earlier_stands_for_its_reads = refl

-- a register is read for itself, and a condition for each target of its arms
abbrev counter : FlatDesign
counter = over_two_points
    (declares (codes "c") 1 TopInput (at 1 16) ∷ declares (codes "d") 1 TopInput (at 1 25)
    ∷ declares (codes "q") 1 OutputReg (at 1 39) ∷ [])
    (process (clocked 0) (at 1 43)
    (branch (at 1 63) (named 1 (at 1 67)) (later 2 (at 1 70) (typed 1 false (constant 0)))
    nothing) ∷ [])

pub register_reads : reads_for counter 2 ≡ 1 ∷ 2 ∷ []
register_reads = refl

-- ---- the first breach

-- no rule of a higher number comes first, whatever its place: a wire that is not driven, and a
-- `reg` that an `assign` drives after it
pub lower_number_first : breaks (over_two_points
    (declares (codes "a") 1 TopInput (at 1 16) ∷ declares (codes "w") 1 Net (at 2 8) ∷
    declares (codes "q") 1 Reg (at 3 7) ∷ [])
    (process continuous (at 4 10) (sets 2 (at 4 10) (named 0 (at 4 14))) ∷ []))
    601 4 10 2
lower_number_first = refl

pub first_place : breaks
    (over_two_points (declares (codes "p") 1 Output (at 2 8) ∷
    declares (codes "q") 1 Output (at 1 30) ∷ []) []) 604 1 30 1
first_place = refl

-- at one place, as in two instances of a module, the lower signal
pub lower_signal : breaks
    (over_two_points (declares (codes "u.i") 1 Input (at 1 16) ∷
    declares (codes "v.i") 1 Input (at 1 16) ∷ []) []) 604 1 16 0
lower_signal = refl
