-- An expression that breaks no rule has a length of 1 to 64 bits.
use Rattle.std.proofs.Common.{◌≡◌, ℕ, zero, suc, ◌*◌, ◌<◌, ◌≤◌, Bool, true, false}
use Rattle.std.proofs.Common.{List, refl, arith}
use Rattle.std.specs.Prelude.{not, ◌||◌, ◌&&◌, nat_le, nat_lt, if◌then◌else◌, Option, Some, None}
use Rattle.std.specs.Prelude.{IsTrue, ℤ, pos, negsuc}
use Rattle.std.proofs.lemmas.Bool.{and_parts, ltb-true, leb-true}
use Rattle.sv_num.specs.declared.operators.OpClass.{OpClass}
use Rattle.sv_num.specs.declared.operators.OpClass.TheVariants.{Context, Compare, Logical, Shift}
use Rattle.sv_num.specs.UnaryValues.{gives_one_bit}
use Rattle.sv_num.specs.BinaryValues.{class_of}
use Rattle.sv_ast.specs.Scopes.{Scope, Binding, width_of}
use Rattle.sv_ast.specs.Tree.{ExpressionTree, ExpressionTrees, literal, named, bit_of, part_of}
use Rattle.sv_ast.specs.Tree.{unary, binary, choice, join, replication, no_expressions}
use Rattle.sv_ast.specs.Tree.{more_expressions}
use Rattle.sv_ast.specs.Shape.{is_shaped_expression, are_shaped_parts, has_part}
use Rattle.sv_ast.specs.Values.{natural, binary_length, length_of, joined_length, whole_number}
use Rattle.sv_ast.specs.Instances.{is_signal}
use Rattle.sv_elab_rules.specs.Names.{Names, is_bound, is_parameter, in_reach, means_signal}
use Rattle.sv_elab_rules.specs.ExpressionSteps.{is_count, is_part}
use Rattle.sv_width.specs.Agreement.{AllDeclared, HaveLengths, IsLength, NumbersHaveLengths}
use Rattle.sv_width.specs.Agreement.{PartsHaveLengths}
use Rattle.sv_width.proofs.Sound.{Sound, SoundParts}
use Rattle.sv_width.proofs.SameValue.{reached, meant}

-- what holds of three holds of each
pub three_parts : (a b c : Bool) → (a && b && c) ≡ true → (a ≡ true) × (b ≡ true) × (c ≡ true)
three_parts a b c h =
    let outer = and_parts (a && b) c h in
    let inner = and_parts a b outer.0 in
    (inner.0, inner.1, outer.1)

pub bound_length : (scope : Scope) → HaveLengths scope → (m : List ℕ) (b : Option Binding) →
    scope m ≡ b → IsTrue (is_bound b) → IsLength (width_of b)
bound_length scope lengths m (Some b) is bound = lengths m b is
bound_length scope lengths m None is bound = absurd (cc bound)

signal_bound : (b : Option Binding) → is_signal b ≡ true → IsTrue (is_bound b)
signal_bound (Some b) h = refl
signal_bound None h = absurd (cc h)

-- a part inside a signal
pub part_inside : (width : ℕ) (high low : ℤ) → IsTrue (is_part width high low)
    → (natural high < width) × (natural low ≤ natural high)
part_inside width (pos h) (pos l) q =
    let both = and_parts (nat_lt h width) (nat_le l h) q in
    (ltb-true h width both.0, leb-true l h both.1)
part_inside width (pos h) (negsuc l) q = absurd (cc q)
part_inside width (negsuc h) l q = absurd (cc q)

-- a count
pub count_inside : (k : ℤ) → IsTrue (is_count k) → (1 ≤ natural k) × (natural k ≤ 64)
count_inside (pos k) q =
    let both = and_parts (nat_le 1 k) (nat_le k 64) q in
    (leb-true 1 k both.0, leb-true k 64 both.1)
count_inside (negsuc k) q = absurd (cc q)

result_length : (c : OpClass) (a b : ℕ) → IsLength a → IsLength b → IsLength (binary_length c a b)
result_length Context a b p q = (omega arith, omega arith)
result_length Compare a b p q = (omega arith, omega arith)
result_length Logical a b p q = (omega arith, omega arith)
result_length Shift a b p q = p

unary_length : (b : Bool) (n : ℕ) → IsLength n → IsLength (if b then 1 else n)
unary_length true n p = (omega arith, omega arith)
unary_length false n p = p

product_some : (k j : ℕ) → 1 ≤ k → 1 ≤ j → 1 ≤ k * j
product_some (suc k) (suc j) p q = grind arith
product_some zero j p q = absurd (omega arith)
product_some (suc k) zero p q = absurd (omega arith)

-- in a place that is not constant all declarations are made
abbrev pub KnownIn : Names → Bool → Type 0
KnownIn names c = c ≡ false → AllDeclared names

parameter_bound : (b : Option Binding) → IsTrue (is_parameter b) → IsTrue (is_bound b)
parameter_bound (Some b) h = refl
parameter_bound None h = absurd (cc h)

pub reached_in : (names : Names) (c : Bool) → KnownIn names c → (m : List ℕ)
    → IsTrue (in_reach names m)
    → IsTrue (not c || is_parameter (names.scope m)) → IsTrue (is_bound (names.scope m))
reached_in names true known m h p = parameter_bound (names.scope m) p
reached_in names false known m h p = reached names m (known refl m) h

pub open_place : (c : Bool) → IsTrue (not c) → c ≡ false
open_place true h = absurd (cc h)
open_place false h = refl

pub meant_in : (names : Names) (c : Bool) → KnownIn names c → (m : List ℕ)
    → IsTrue (means_signal names m) → IsTrue (not c)
    → is_signal (names.scope m) ≡ true
meant_in names c known m h p = meant names m (known (open_place c p) m) h

module _ (names : Names) (lengths : HaveLengths names.scope) where
  mutual
    unfolding length_of joined_length Sound SoundParts

    pub own_length : (c : Bool) → KnownIn names c → (e : ExpressionTree) → Sound names c e
        → IsTrue (is_shaped_expression e) → NumbersHaveLengths e
        → IsLength (length_of names.scope e)
    own_length c known (literal l p) q shape numbers = numbers
    own_length c known (named m p) q shape numbers =
        bound_length names.scope lengths m (names.scope m) refl (reached_in names c known m q.0 q.1)
    own_length c known (bit_of m p i) q shape numbers = (omega arith, omega arith)
    own_length c known (part_of m p h l) q shape numbers =
        let there = bound_length names.scope lengths m (names.scope m) refl
        (signal_bound (names.scope m) (meant_in names c known m q.0 q.1)) in
        let inside = part_inside (width_of (names.scope m)) (whole_number names.scope h)
        (whole_number names.scope l) q.6 in (
          omega (arith, there.0, there.1, inside.0, inside.1),
          omega
              (arith, there.0, there.1, inside.0, inside.1),
        )
    own_length c known (unary op p e) q shape numbers =
        unary_length (gives_one_bit op) (length_of names.scope e)
        (own_length c known e q shape numbers)
    own_length c known (binary op p a b) q shape numbers =
        let shapes = and_parts (is_shaped_expression a) (is_shaped_expression b) shape in
        result_length (class_of op) (length_of names.scope a) (length_of names.scope b)
        (own_length c known a q.0 shapes.0 numbers.0) (own_length c known b q.1 shapes.1 numbers.1)
    own_length c known (choice p d a b) q shape numbers =
        let shapes = three_parts (is_shaped_expression d) (is_shaped_expression a)
        (is_shaped_expression b) shape in
        result_length Context (length_of names.scope a) (length_of names.scope b)
        (own_length c known a q.1 shapes.1 numbers.1) (own_length c known b q.2 shapes.2 numbers.2)
    own_length c known (join p es) q shape numbers =
        let shapes = and_parts (has_part es) (are_shaped_parts es) shape in (
          some_length c known es q.0 shapes.0 shapes.1 numbers,
          leb-true
              (joined_length names.scope es) 64 q.1,
        )
    own_length c known (replication p k es) q shape numbers =
        let shapes = three_parts (is_shaped_expression k) (has_part es)
        (are_shaped_parts es) shape in
        let count = count_inside (whole_number names.scope k) q.5 in (
          product_some (natural (whole_number names.scope k)) (joined_length names.scope es) count.0
              (some_length c known es q.2 shapes.1 shapes.2 numbers.1),
          leb-true (natural (whole_number names.scope k) * joined_length names.scope es) 64 q.3,
        )

    pub some_length : (c : Bool) → KnownIn names c → (es : ExpressionTrees) → SoundParts names c es
        → IsTrue (has_part es) → IsTrue (are_shaped_parts es)
        → PartsHaveLengths es → 1 ≤ joined_length names.scope es
    some_length c known no_expressions q some shape numbers = absurd (cc some)
    some_length c known (more_expressions e es) q some shape numbers =
        let shapes = and_parts (is_shaped_expression e) (are_shaped_parts es) shape in
        let first = own_length c known e q.0 shapes.0 numbers.0 in
        omega (arith, first.0)
