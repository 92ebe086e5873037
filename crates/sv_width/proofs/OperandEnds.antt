-- What the second walk finds of an operand at a length and signedness.
use Rattle.std.proofs.Common.{◌≡◌, ℕ, ◌≤◌, Bool, List, refl, sym, ap, subst, ◌∙◌, arith}
use Rattle.std.specs.Prelude.{IsTrue, Result}
use Rattle.sv_num.specs.declared.faults.Fault.{Fault}
use Rattle.sv_num.specs.declared.vectors.Bits.{Bits}
use Rattle.sv_ast.specs.declared.expressions.Expr.{Expr}
use Rattle.sv_ast.specs.Tree.{ExpressionTree}
use Rattle.sv_ast.specs.Shape.{is_shaped_expression}
use Rattle.sv_ast.specs.Values.{length_of}
use Rattle.sv_ast.specs.Views.{expression_tree}
use Rattle.sv_flat.specs.Design.{SignalForm, TypedTree}
use Rattle.sv_flat.specs.Soundness.{well_formed}
use Rattle.sv_flat.specs.declared.expressions.FExpr.{FExpr}
use Rattle.sv_flat.specs.Views.{typed_tree}
use Rattle.sv_elab_rules.specs.Walks.{WalkStep}
use Rattle.sv_elab_rules.specs.Names.{Names}
use Rattle.sv_elab_rules.specs.ExpressionSteps.{divisors}
use Rattle.sv_width.specs.declared.measured.Measured.{Measured}
use Rattle.sv_width.specs.declared.measured.Measured as measured
use Rattle.sv_width.specs.Agreement.{HaveSignals, IsLength}
use Rattle.sv_width.specs.Answers.{IsBreach}
use Rattle.sv_width.specs.Measured.{OwnForm}
use Rattle.sv_width.specs.Operands.{own_width, IsOperandOf, IsTypedAt, IsValueAt}
use Rattle.sv_width.specs.Outcomes.{IsMeasure, IsFolded, IsPushed}
use Rattle.sv_width.specs.Pushed.{divisors_of}
use Rattle.sv_width.specs.Scopes.{Known, names_of}
use Rattle.sv_width.specs.Views.{measured_tree}
use Rattle.sv_width.proofs.Lengths.{KnownIn}
use Rattle.sv_width.proofs.Sound.{passed_sound}
use Rattle.sv_width.proofs.WellFormed.{typed_formed}
use Rattle.sv_width.proofs.Ends.{own, own_is, divisors_at, form_at, value_at, known_lengths}
use Rattle.sv_width.proofs.Ends.{expression_lengths}

-- a measured expression has a bit
pub some_own : (m : Measured) → 1 ≤ own_width m
some_own (measured.Number own bits) = own.of_type.in_range.0
some_own (measured.Signal own signal place) = own.of_type.in_range.0
some_own (measured.Bit' own signal place p index) = own.of_type.in_range.0
some_own (measured.Part own signal place high low) = own.of_type.in_range.0
some_own (measured.Unary' own op p operand) = own.of_type.in_range.0
some_own (measured.Binary' own op place p left q right) = own.of_type.in_range.0
some_own (measured.Choice' own place p condition q first r second) = own.of_type.in_range.0
some_own (measured.Join' own shape row) = own.of_type.in_range.0
some_own (measured.Repeat' own count shape row) = own.of_type.in_range.0

-- a measured expression is an operand
pub operand_found : (known : Known) (c : Bool) (e : Expr) (m : Measured)
    → IsTrue (is_shaped_expression (expression_tree e))
    → IsMeasure (names_of known) c (expression_tree e) m
    → IsOperandOf (names_of known) c (expression_tree e) m
operand_found known c e m shape h =
    let names : Names = names_of known in
    let tree : ExpressionTree = expression_tree e in
    let is = own_is names (known_lengths known) c (λ _ n. refl) tree shape (expression_lengths e)
    h.0 (measured_tree m) h.1 in (
      h.0,
      ap (λ (o : OwnForm). o.width) is,
      ap (λ (o : OwnForm). o.signed) is,
      ((λ n. refl), known_lengths known, shape, expression_lengths e, h.1),
    )

module _ (names : Names) (c : Bool) (e : ExpressionTree) (o : Measured)
    (is : IsOperandOf names c e o) (n m : ℕ) (s r : Bool) (enough : own_width o ≤ m) (few : m ≤ 64)
    (same_n : n ≡ m) (same_s : s ≡ r) where
  known : KnownIn names c
  known h = is.3.0

  fits : length_of names.scope e ≤ m
  fits = subst (λ w. w ≤ m) is.1 enough

  long : IsLength m
  long =
      let own = own names is.3.1 c known e is.3.2 is.3.3 is.0 (measured_tree o) is.3.4 in
      (omega (arith, own.0, fits), few)

  same_divisors : (divisors_of (measured_tree o) n s).end ≡ (divisors names.scope e m r).end
  same_divisors =
      divisors_at names is.3.1 c known e is.3.2 is.3.3 is.0 (measured_tree o) is.3.4 n m s r fits
      long same_n same_s

  pub operand_typed : (f : FExpr) → IsPushed (measured_tree o) n s f →
      IsTypedAt names e m r (typed_tree f)
  operand_typed f h = (
    sym same_divisors ∙ h.0,
    form_at names is.3.1 c known e is.3.2 is.3.3 is.0 (measured_tree o) is.3.4 n m s r f fits long
        same_n same_s h,
  )

  pub operand_formed : (f : FExpr) → IsPushed (measured_tree o) n s f → (signals : List SignalForm)
      → HaveSignals names signals → IsTrue (well_formed signals (typed_tree f))
  operand_formed f h signals have =
      subst (λ (x : TypedTree). IsTrue (well_formed signals x)) (sym (operand_typed f h).1)
      (typed_formed names is.3.0 is.3.1 signals have c e (passed_sound names c e is.0) is.3.2 is.3.3
      m r fits long)

  pub operand_valued : (bits : Bits) → IsFolded (measured_tree o) n s bits →
      IsValueAt names e m r bits
  operand_valued bits h = (
    sym same_divisors ∙ h.0,
    h.1 ∙ same_n,
    h.2 ∙ same_s,
    h.3 ∙ value_at names is.3.1 c known e is.3.2 is.3.3 is.0 (measured_tree o) is.3.4 n m s r fits
        long same_n same_s,
  )

  pub operand_divided : (f : Fault) → IsBreach (divisors_of (measured_tree o) n s).end f
      → IsBreach (divisors names.scope e m r).end f
  operand_divided f h = subst (λ (x : Result (Unit {0}) WalkStep). IsBreach x f) same_divisors h
