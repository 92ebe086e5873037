-- Words of expressions compared with their values, over all values of small signals, by
-- computation: values that meet the clauses spell, in the word, the value of the expression.
use Rattle.std.proofs.Common.{◌≡◌, ℕ, Bool, true, false, List, [], ◌∷◌, ◌++◌, refl}
use lib.Count.{ones}
use Rattle.std.specs.Prelude.{◌-◌, ◌==◌, ◌&&◌, if◌then◌else◌, map, drop}
use Rattle.std.specs.Int.{bit_at}
use Rattle.std.specs.List.{list_all, range_with_len}
use Rattle.sv_num.specs.declared.operators.UnOp.TheVariants as unop
use Rattle.sv_num.specs.declared.operators.BinOp.{BinOp}
use Rattle.sv_num.specs.declared.operators.BinOp.TheVariants as binop
use Rattle.sv_flat.specs.declared.signals.SigKind.TheVariants.{Net}
use Rattle.sv_flat.specs.Design.{SignalForm, TypedTree, typed, constant, read, read_bit, read_part}
use Rattle.sv_flat.specs.Design.{unary, binary, choice, join, replication, held, held_bit}
use Rattle.sv_flat.specs.Design.{held_part, mend, slice, no_parts, more_parts}
use Rattle.sv_flat.specs.Values.{value}
use Rattle.sv_flat.specs.Soundness.{well_formed}
use Rattle.sv_flat.proofs.Forms.{at}
use Rattle.sv_gates.specs.Formulas.{meets, value_of}
use Rattle.sv_gates.specs.NormalForms.{put, ascending, with_clause}
use Rattle.sv_gates.specs.Gates.{start}
use Rattle.sv_circuits.specs.Words.{Word, fresh_word}
use Rattle.sv_encoding.specs.Expressions.{Words, expression_word}
use Rattle.sv_circuits.specs.Words.{word_value}
use Rattle.sv_encoding.proofs.Carrying.{carried}
use Rattle.sv_encoding.proofs.DesignForms.{typed_signal, low}

-- ---- two signals of three bits

abbrev signals : Bool → List SignalForm
signals is_signed = typed_signal 3 is_signed Net low ∷ typed_signal 3 is_signed Net low ∷ []

abbrev bits : ℕ → List Bool
bits n = map (λ b. bit_at n b == 1) (range_with_len 0 3)

abbrev words : (first second : Word) → Words
words first second s = if s == 0 then first else second

-- for all values of both signals, the values that meet the clauses spell the value
abbrev shows : Bool → TypedTree → Bool
shows is_signed e =
    let (inputs, first) = fresh_word 3 start in
    let (inputs, second) = fresh_word 3 inputs in
    let (formula, word) = expression_word (signals is_signed) (words first second) e inputs in
    well_formed (signals is_signed) e
    && list_all (λ a. list_all (λ b.
    let more = formula.variables - inputs.variables in
    let values = carried (drop 1 formula.clauses) [] (true ∷ bits a ++ bits b) more in
    meets (value_of values) formula.clauses
    && (word_value (value_of values) word
    == value (signals is_signed) (λ s. if s == 0 then a else b) e))
    (range_with_len 0 8)) (range_with_len 0 8)

-- the first signal and the second, at their own length or a greater one
abbrev first : ℕ → Bool → TypedTree
first width is_signed = typed width is_signed (read 0 (at 1 1))

abbrev second : ℕ → Bool → TypedTree
second width is_signed = typed width is_signed (read 1 (at 1 1))

-- unsigned and signed, each of these expressions shows its value
abbrev all_show : (Bool → List TypedTree) → Bool
all_show es =
    list_all (λ is_signed. list_all (shows is_signed) (es is_signed)) (false ∷ true ∷ [])

abbrev both : (width : ℕ) → Bool → BinOp → TypedTree
both width is_signed op =
    typed width is_signed (binary op (first width is_signed) (second width is_signed))

-- ---- operators

pub sums_and_products : all_show (λ is_signed.
    map (both 3 is_signed) (binop.Add ∷ binop.Sub ∷ binop.Mul ∷ [])) ≡ true
unfolding put ascending with_clause
sums_and_products = refl

-- operands are extended before they are added
pub longer_sums : all_show (λ is_signed.
    map (both 5 is_signed) (binop.Add ∷ binop.Sub ∷ [])) ≡ true
unfolding put ascending with_clause
longer_sums = refl

pub bitwise : all_show (λ is_signed.
    map (both 4 is_signed) (binop.And ∷ binop.Or ∷ binop.Xor ∷ binop.Xnor ∷ [])) ≡ true
unfolding put ascending with_clause
bitwise = refl

abbrev compared : Bool → BinOp → TypedTree
compared is_signed op = typed 1 false (binary op (first 3 is_signed) (second 3 is_signed))

pub comparisons : all_show (λ is_signed.
    map (compared is_signed)
    (binop.Lt ∷ binop.Le ∷ binop.Gt ∷ binop.Ge ∷ binop.Eq ∷ binop.Ne ∷ [])) ≡ true
unfolding put ascending with_clause
comparisons = refl

pub logical : all_show (λ is_signed.
    map (compared is_signed) (binop.LogicAnd ∷ binop.LogicOr ∷ [])) ≡ true
unfolding put ascending with_clause
logical = refl

-- an amount of four bits, read as unsigned, moves all bits out
pub shifts : all_show (λ is_signed.
    map (λ op. typed 4 is_signed (binary op (first 4 is_signed) (second 3 is_signed)))
    (binop.Shl ∷ binop.Shr ∷ binop.SignShl ∷ binop.SignShr ∷ [])) ≡ true
unfolding put ascending with_clause
shifts = refl

pub unary_operators : all_show (λ is_signed.
    map (λ op. typed 5 is_signed (unary op (first 5 is_signed)))
    (unop.Plus ∷ unop.Minus ∷ unop.Invert ∷ [])) ≡ true
unfolding put ascending with_clause
unary_operators = refl

-- at a greater length their new bits are 0
pub reductions : all_show (λ is_signed.
    map (λ op. typed 4 is_signed (unary op (first 3 is_signed)))
    (unop.LogicNot ∷ unop.And ∷ unop.Nand ∷ unop.Or ∷ unop.Nor ∷ unop.Xor ∷ unop.Xnor ∷ [])) ≡ true
unfolding put ascending with_clause ones
reductions = refl

pub choices : all_show (λ is_signed.
    typed 4 is_signed (choice (at 1 1) (second 3 is_signed) (first 4 is_signed)
    (typed 4 is_signed (constant 9))) ∷ []) ≡ true
unfolding put ascending with_clause
choices = refl

pub concatenations : all_show (λ is_signed.
    typed 9 is_signed (join (more_parts (first 5 is_signed)
    (more_parts (second 3 is_signed) no_parts)))
    ∷ typed 8 is_signed (replication 2 (more_parts (compared is_signed binop.Lt)
    (more_parts (second 3 is_signed) no_parts))) ∷ []) ≡ true
unfolding put ascending with_clause
concatenations = refl

-- ---- bits and parts

abbrev bit : Bool → TypedTree → TypedTree
bit is_signed index = typed 2 is_signed (read_bit 0 (at 1 1) index)

-- an index of fewer bits reaches fewer, and one of more bits, or a negative one, is outside
pub bits_by_an_index : all_show (λ is_signed.
    map (bit is_signed)
    (second 3 is_signed ∷ second 4 is_signed ∷ typed 1 is_signed (read_part 1 (at 1 1) 1 1)
    ∷ typed 2 is_signed (read_part 1 (at 1 1) 2 1) ∷ [])) ≡ true
unfolding put ascending with_clause
bits_by_an_index = refl

-- a constant index: inside, above, and below
pub bits_by_a_constant : all_show (λ is_signed.
    map (bit is_signed)
    (typed 3 is_signed (constant 2) ∷ typed 3 is_signed (constant 3)
    ∷ typed 3 is_signed (constant 7) ∷ [])) ≡ true
unfolding put ascending with_clause
bits_by_a_constant = refl

pub parts_of_names : all_show (λ is_signed.
    typed 4 is_signed (read_part 0 (at 1 1) 2 1) ∷ []) ≡ true
unfolding put ascending with_clause
parts_of_names = refl

-- ---- what was put in for a name

-- what is longer than the signal is cut, what is shorter gets 0 as its new bits, and then it is
-- read as the signal is
abbrev put_in : Bool → List TypedTree
put_in is_signed =
    first 3 is_signed ∷ both 5 is_signed binop.Add
    ∷ typed 2 is_signed (read_part 0 (at 1 1) 1 0) ∷ typed 4 is_signed (constant 13) ∷ []

pub names_put_in : all_show (λ is_signed.
    map (λ e. typed 5 is_signed (held 1 e)) (put_in is_signed)) ≡ true
unfolding put ascending with_clause
names_put_in = refl

pub bits_of_it : all_show (λ is_signed.
    map (λ e. typed 2 is_signed (held_bit 1 (at 1 1) e (second 3 is_signed))) (put_in is_signed)
    ++ map (λ e. typed 2 is_signed (held_bit 1 (at 1 1) e (typed 3 is_signed (constant 2))))
    (put_in is_signed)) ≡ true
unfolding put ascending with_clause
bits_of_it = refl

-- an index that was put in is no constant, also where a number was put
pub an_index_put_in : all_show (λ is_signed.
    map (λ e. bit is_signed (typed 3 is_signed (held 1 e))) (put_in is_signed)) ≡ true
unfolding put ascending with_clause
an_index_put_in = refl

pub parts_of_it : all_show (λ is_signed.
    map (λ e. typed 3 is_signed (held_part 1 (at 1 1) e 2 1)) (put_in is_signed)) ≡ true
unfolding put ascending with_clause
parts_of_it = refl

pub bits_replaced : all_show (λ is_signed.
    map (λ e. typed 4 is_signed (mend 1 e 2 1 (second 3 is_signed))) (put_in is_signed)) ≡ true
unfolding put ascending with_clause
bits_replaced = refl

pub slices : all_show (λ is_signed.
    typed 4 is_signed (slice (both 5 is_signed binop.Sub) 4 2) ∷ []) ≡ true
unfolding put ascending with_clause
slices = refl
