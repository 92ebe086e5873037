-- What an operand is of an expression: it has passed the first walk, and its own length and
-- signedness are known (IEEE 1364-2005, clauses 5.4 and 5.5). The second walk asks it at the length
-- and signedness that its place gives, as the selector and the items of a case get those of all of
-- them (clause 9.5).
use Rattle.std.specs.Prelude.{◌≡◌, ℕ, Bool, Ok, IsTrue}
use Rattle.sv_num.specs.declared.vectors.Bits.{Bits}
use Rattle.sv_num.specs.Vectors.{width_of, is_signed, value_of}
use Rattle.sv_ast.specs.Tree.{ExpressionTree}
use Rattle.sv_ast.specs.Shape.{is_shaped_expression}
use Rattle.sv_ast.specs.Values.{nowhere, length_of, signed_of, value}
use Rattle.sv_flat.specs.Design.{TypedTree}
use Rattle.sv_elab_rules.specs.Names.{Names}
use Rattle.sv_elab_rules.specs.TypedExpressions.{typed_of}
use Rattle.sv_elab_rules.specs.ExpressionSteps.{asked, divisors}
use Rattle.sv_width.specs.Agreement.{AllDeclared, HaveLengths, NumbersHaveLengths}
use Rattle.sv_width.specs.declared.measured.Measured.{Measured}
use Rattle.sv_width.specs.Measured.{own_form, measured_of}
use Rattle.sv_width.specs.Views.{measured_tree}

abbrev pub own_width : Measured → ℕ
own_width o = (own_form (measured_tree o)).width

abbrev pub own_signed : Measured → Bool
own_signed o = (own_form (measured_tree o)).signed

-- what an operand holds of a shaped expression, among names that are all declared
abbrev pub Holds : Names → ExpressionTree → Measured → Type 0
Holds names e o = AllDeclared names × HaveLengths names.scope
    × IsTrue (is_shaped_expression e) × NumbersHaveLengths e
    × (measured_tree o ≡ measured_of names e)

-- the operand of an expression that breaks no rule of the first walk, in a constant place or in
-- another one, with the expression's own length and signedness
abbrev pub IsOperandOf : Names → (constant : Bool) → ExpressionTree → Measured → Type 0
IsOperandOf names constant e o = ((asked names constant e).end ≡ Ok tt)
    × (own_width o ≡ length_of names.scope e) × (own_signed o ≡ signed_of names.scope e)
    × Holds names e o

-- the expression's typed form at a length and signedness at which no divisor is 0
abbrev pub IsTypedAt : Names → ExpressionTree → (length : ℕ) → (signed : Bool) → TypedTree → Type 0
IsTypedAt names e n s f = ((divisors names.scope e n s).end ≡ Ok tt) × (f ≡ typed_of names e n s)

-- the expression's value there, where each signal is 0; a constant names none
abbrev pub IsValueAt : Names → ExpressionTree → (length : ℕ) → (signed : Bool) → Bits → Type 0
IsValueAt names e n s bits = ((divisors names.scope e n s).end ≡ Ok tt)
    × (width_of bits ≡ n) × (is_signed bits ≡ s) × (value_of bits ≡ value names.scope nowhere e n s)
