-- Runs of small statements.
use Prim.Native.String.{String}
use Rattle.std.proofs.Common.{◌≡◌, ℕ, true, false, List, [], ◌∷◌, map, refl}
use Rattle.std.specs.Prelude.{codes}
use Rattle.std.specs.Str.{bytes_eq}
use Rattle.sv_num.specs.declared.operators.BinOp.TheVariants as binop
use Rattle.sv_ast.specs.Scopes.{Scope}
use Rattle.sv_ast.specs.Tree.{ExpressionTree, StatementTree, null, if_only, case_of, ArmTrees}
use Rattle.sv_ast.specs.Tree.{no_arms}
use Rattle.sv_ast.specs.Values.{value, signed_of}
use Rattle.sv_system.specs.System.{last_update}
use Rattle.sv_ast.specs.Runs.{target_width, targets_width, pieces, with_bits, case_length}
use Rattle.sv_ast.specs.Runs.{case_signed, run, assigned}
use Rattle.sv_ast.proofs.SmallTrees.{somewhere, decimal_of, sized_of, name, op, to, to_bit, to_part}
use Rattle.sv_ast.proofs.SmallTrees.{puts, posts, begin_end, either, arm, signals_are, values_are}
use Rattle.sv_ast.proofs.SmallTrees.{gets, gets_later, names}

-- the value of a name after a run with no updates pending, where the names have the given values
-- before
abbrev after : Scope → List (String × ℕ) → StatementTree → String → ℕ
after scope vs s n =
    (run scope s (record { environment = values_are vs; updates = [] })).environment (codes n)

-- the updates that the run leaves
abbrev left : Scope → List (String × ℕ) → StatementTree → List (List ℕ × ℕ)
left scope vs s = (run scope s (record { environment = values_are vs; updates = [] })).updates

-- Choices: if (a) if (b) y = 1; else y = 2; else y = 3;

abbrev bits_and_y : Scope
bits_and_y = signals_are (("a", 1) ∷ ("b", 1) ∷ ("y", 2) ∷ [])

abbrev nested : StatementTree
nested = either (name "a") (either (name "b") (gets "y" (decimal_of 1)) (gets "y" (decimal_of 2)))
    (gets "y" (decimal_of 3))

pub each_if_with_its_else : map (λ (v : ℕ × ℕ).
    after bits_and_y (("a", v.0) ∷ ("b", v.1) ∷ []) nested "y") ((1, 1) ∷ (1, 0) ∷ (0, 1) ∷ [])
    ≡ 1 ∷ 2 ∷ 3 ∷ []
unfolding run value signed_of
each_if_with_its_else = refl

-- an `if` without `else`, whose condition is 0
pub nothing_else :
    after bits_and_y (("a", 0) ∷ ("y", 2) ∷ [])
    (if_only somewhere (name "a") (gets "y" (decimal_of 1))) "y"
    ≡ 2
unfolding run value signed_of
nothing_else = refl

pub nothing_is_done : after bits_and_y (("y", 2) ∷ []) null "y" ≡ 2
unfolding run
nothing_is_done = refl

-- Order: y = 1; b = y; y = 2;
pub one_after_the_other :
    after bits_and_y [] (begin_end
    (gets "y" (decimal_of 1) ∷ gets "b" (name "y") ∷ gets "y" (decimal_of 2) ∷ [])) "b"
    ≡ 1
unfolding run value signed_of
one_after_the_other = refl

-- y <= 1; b <= y; with y at 2: b gets 0, the low bit of the old value
pub updates_wait : left bits_and_y (("y", 2) ∷ [])
    (begin_end (gets_later "y" (decimal_of 1) ∷ gets_later "b" (name "y") ∷ []))
    ≡ (codes "y", 1) ∷ (codes "b", 0) ∷ []
unfolding run value signed_of
updates_wait = refl

pub the_environment_waits : after bits_and_y (("y", 2) ∷ []) (gets_later "y" (decimal_of 1)) "y"
    ≡ 2
unfolding run value signed_of
the_environment_waits = refl

-- Cases: case (s) 0: y = 3; 1: y = 2; 2: y = 1; 3: y = 0; endcase

abbrev s_and_y : Scope
s_and_y = signals_are (("s", 2) ∷ ("y", 4) ∷ [])

abbrev gives_y : ℕ → StatementTree
gives_y n = gets "y" (decimal_of n)

abbrev turned : StatementTree
turned = case_of somewhere (name "s")
    (arm (decimal_of 0 ∷ []) (gives_y 3)
    (arm (decimal_of 1 ∷ []) (gives_y 2)
    (arm (decimal_of 2 ∷ []) (gives_y 1) (arm (decimal_of 3 ∷ []) (gives_y 0) no_arms))))

pub complete_case : map (λ s.
    after s_and_y (("s", s) ∷ ("y", 9) ∷ []) turned "y") (0 ∷ 1 ∷ 2 ∷ 3 ∷ [])
    ≡ 3 ∷ 2 ∷ 1 ∷ 0 ∷ []
unfolding run value signed_of
complete_case = refl

-- 1, 2: y = 5; default y = 6; 2, 3: y = 7; with the default in the middle; of two arms with 2 the
-- first is taken
abbrev with_default : StatementTree
with_default = case_of somewhere (name "s")
    (arm (decimal_of 1 ∷ decimal_of 2 ∷ []) (gives_y 5)
    (arm [] (gives_y 6) (arm (decimal_of 2 ∷ decimal_of 3 ∷ []) (gives_y 7) no_arms)))

pub first_arm_or_default :
    map (λ s. after s_and_y (("s", s) ∷ ("y", 9) ∷ []) with_default "y") (0 ∷ 1 ∷ 2 ∷ 3 ∷ [])
    ≡ 6 ∷ 5 ∷ 5 ∷ 7 ∷ []
unfolding run value signed_of
first_arm_or_default = refl

-- without a default nothing is done where no item is equal
pub no_arm :
    after s_and_y (("s", 3) ∷ ("y", 9) ∷ [])
    (case_of somewhere (name "s") (arm (decimal_of 1 ∷ []) (gives_y 5) no_arms)) "y"
    ≡ 9
unfolding run value signed_of
no_arm = refl

-- case (s + 1'b1) 0: y = 1; 4: y = 2; with items of 32 bits the sum does not wrap, with items of 2
-- bits it does
abbrev wraps : ExpressionTree → ExpressionTree → StatementTree
wraps zero four = case_of somewhere (op binop.Add (name "s") (sized_of 1 false 1))
    (arm (zero ∷ []) (gives_y 1) (arm (four ∷ []) (gives_y 2) no_arms))

pub sized_to_the_longest : after s_and_y (("s", 3) ∷ []) (wraps (decimal_of 0) (decimal_of 4)) "y"
    ≡ 2
unfolding run value signed_of
sized_to_the_longest = refl

pub sized_to_two_bits :
    after s_and_y (("s", 3) ∷ []) (wraps (sized_of 2 false 0) (sized_of 1 false 1)) "y"
    ≡ 1
unfolding run value signed_of
sized_to_two_bits = refl

-- case (2'sb11) 4'sb1111: y = 1; default: y = 2; one unsigned item more and nothing is signed
abbrev signed_selector : List ExpressionTree → StatementTree
signed_selector more = case_of somewhere (sized_of 2 true 3)
    (arm (sized_of 4 true 15 ∷ more) (gives_y 1) (arm [] (gives_y 2) no_arms))

pub signed_if_all_are : after s_and_y [] (signed_selector []) "y" ≡ 1
unfolding run value signed_of
signed_if_all_are = refl

pub unsigned_if_one_is : after s_and_y [] (signed_selector (sized_of 4 false 0 ∷ [])) "y" ≡ 2
unfolding run value signed_of
unsigned_if_one_is = refl

abbrev two_and_four_bits : ArmTrees
two_and_four_bits =
    arm (sized_of 2 true 3 ∷ []) null (arm [] null (arm (sized_of 4 true 15 ∷ []) null no_arms))

pub the_longest_item : case_length s_and_y (name "s") two_and_four_bits ≡ 4
unfolding value signed_of
the_longest_item = refl

pub the_selector_may_be_longest : case_length s_and_y (decimal_of 1) two_and_four_bits ≡ 32
unfolding value signed_of
the_selector_may_be_longest = refl

pub signed_with_all_items : case_signed s_and_y (sized_of 2 true 3) two_and_four_bits ≡ true
unfolding value signed_of
signed_with_all_items = refl

pub unsigned_by_the_selector : case_signed s_and_y (name "s") two_and_four_bits ≡ false
unfolding value signed_of
unsigned_by_the_selector = refl

-- Pieces: {c, s} = a + b;

abbrev sum_scope : Scope
sum_scope = signals_are (("a", 4) ∷ ("b", 4) ∷ ("s", 4) ∷ ("c", 1) ∷ ("p", 4) ∷ [])

abbrev carry_and_sum : StatementTree
carry_and_sum = puts (to "c" ∷ to "s" ∷ []) (op binop.Add (name "a") (name "b"))

pub the_last_target_is_lowest :
    map (after sum_scope (("a", 15) ∷ ("b", 2) ∷ []) carry_and_sum) ("c" ∷ "s" ∷ []) ≡ 1 ∷ 1 ∷ []
unfolding run value signed_of
the_last_target_is_lowest = refl

-- {s[3:1], c} of 'b1010: s gets 101 above its own lowest bit, and c the last bit
pub pieces_of_four_bits : pieces sum_scope (to_part "s" 3 1 ∷ to "c" ∷ []) 10
    ≡ (to_part "s" 3 1, 5) ∷ (to "c", 0) ∷ []
unfolding value signed_of
pieces_of_four_bits = refl

pub five_bits : targets_width sum_scope (to "s" ∷ to_bit "p" 3 ∷ []) ≡ 5
unfolding value signed_of
five_bits = refl

pub a_whole_target : target_width sum_scope (to "s") ≡ 4
unfolding value
a_whole_target = refl

pub a_bit : target_width sum_scope (to_bit "s" 3) ≡ 1
unfolding value
a_bit = refl

pub three_bits : target_width sum_scope (to_part "s" 3 1) ≡ 3
unfolding value signed_of
three_bits = refl

-- p[1:0] = a[1:0]; p[3:2] = b[3:2]; as numbers that are known
pub parts_are_put_beside_each_other :
    after sum_scope (("p", 9) ∷ [])
    (begin_end (puts (to_part "p" 1 0 ∷ []) (decimal_of 3)
    ∷ puts (to_part "p" 3 2 ∷ []) (decimal_of 0) ∷ [])) "p"
    ≡ 3
unfolding run value signed_of
parts_are_put_beside_each_other = refl

pub other_bits_stay : after sum_scope (("p", 9) ∷ []) (puts (to_bit "p" 1 ∷ []) (decimal_of 1)) "p"
    ≡ 11
unfolding run value signed_of
other_bits_stay = refl

-- {c, s} of 'b10110, and one target alone
pub pieces_of_five_bits : pieces sum_scope (to "c" ∷ to "s" ∷ []) 22 ≡
    (to "c", 1) ∷ (to "s", 6) ∷ []
unfolding value signed_of
pieces_of_five_bits = refl

pub one_piece : pieces sum_scope (to "s" ∷ []) 9 ≡ (to "s", 9) ∷ []
unfolding value signed_of
one_piece = refl

pub bits_in_the_middle : with_bits 4 8 0xabcd 0x12 ≡ 0xa12d
bits_in_the_middle = refl

pub lowest_bits : with_bits 0 4 0xabcd 0 ≡ 0xabc0
lowest_bits = refl

pub highest_bits : with_bits 12 4 0xabcd 0 ≡ 0xbcd
highest_bits = refl

-- {p[1:0], p[3:2]} <= 'b0111 where p is 0: the first piece is put first, and the second into what
-- that made
pub two_pieces_of_one_signal :
    left sum_scope [] (posts (to_part "p" 1 0 ∷ to_part "p" 3 2 ∷ []) (decimal_of 7))
    ≡ (codes "p", 1) ∷ (codes "p", 13) ∷ []
unfolding run value signed_of
two_pieces_of_one_signal = refl

-- p[0] <= 1; p[1] <= 1; where p is 8: the second keeps the pending bit of the first
pub pending_bits_are_kept :
    left sum_scope (("p", 8) ∷ [])
    (begin_end (posts (to_bit "p" 0 ∷ []) (decimal_of 1) ∷
    posts (to_bit "p" 1 ∷ []) (decimal_of 1) ∷ []))
    ≡ (codes "p", 9) ∷ (codes "p", 11) ∷ []
unfolding run value signed_of
pending_bits_are_kept = refl

pub assigned_names : assigned (either (name "a") carry_and_sum (gets_later "p" (decimal_of 0))) ≡
    names "c s p"
assigned_names = refl

pub assigned_by_all_arms : assigned with_default ≡ names "y y y"
assigned_by_all_arms = refl

pub nothing_is_assigned : assigned null ≡ []
nothing_is_assigned = refl

pub the_last_update :
    last_update bytes_eq (codes "p") 8 ((codes "p", 9) ∷ (codes "s", 4) ∷ (codes "p", 11) ∷ [])
    ≡ 11
the_last_update = refl

-- an update of another name alone
pub no_update : last_update bytes_eq (codes "a") 8 ((codes "p", 9) ∷ (codes "s", 4) ∷ []) ≡ 8
no_update = refl
