-- What both walks find together.
use Rattle.std.proofs.Common.{◌≡◌, ℕ, ◌≤◌, max, Bool, true, false, List, [], ◌∷◌, Option, Some}
use Rattle.std.proofs.Common.{None, refl, sym, ap, subst, ◌∙◌, arith}
use Rattle.std.specs.Prelude.{◌&&◌, option_map, IsTrue, Result, Ok, Err}
use Rattle.std.proofs.lemmas.Bool.{and_parts}
use Rattle.sv_num.specs.declared.faults.Fault.{Fault}
use Rattle.sv_num.specs.declared.faults.Fault.TheVariants.{Rule, OutOfMemory}
use Rattle.sv_num.specs.declared.vectors.Bits.{Bits}
use Rattle.sv_num.specs.Vectors.{is_signed, value_of}
use Rattle.sv_ast.specs.declared.expressions.Expr as expr
use Rattle.sv_ast.specs.declared.expressions.Expr.{Expr, Row_of-Expr, end_of-Expr, more_of-Expr}
use Rattle.sv_ast.specs.Scopes.{Number, Binding, width_of as binding_width}
use Rattle.sv_num.specs.declared.faults.Place.{Place}
use Rattle.sv_ast.specs.Tree.{ExpressionTree, ExpressionTrees, replication}
use Rattle.sv_ast.specs.Shape.{is_shaped_expression, has_part, are_shaped_parts}
use Rattle.sv_ast.specs.Values.{nowhere, length_of, signed_of, value, constant_of}
use Rattle.sv_ast.specs.Views.{expression_tree, expression_trees, parts_of, row_parts}
use Rattle.sv_system.specs.System.{Environment}
use Rattle.sv_flat.specs.Design.{SignalForm, TypedTree, typed}
use Rattle.sv_flat.specs.Values.{value as flat_value}
use Rattle.sv_flat.specs.Soundness.{well_formed}
use Rattle.sv_flat.specs.declared.expressions.FExpr.{FExpr}
use Rattle.sv_flat.specs.Views.{typed_tree}
use Rattle.sv_elab_rules.specs.Walks.{WalkStep, Steps, done, then_walk, ◌>>=◌}
use Rattle.sv_elab_rules.specs.Names.{Names}
use Rattle.sv_elab_rules.specs.TypedExpressions.{typed_of}
use Rattle.sv_elab_rules.specs.ExpressionSteps.{asked, asked_parts, divisors, own_divisors, typed_walk}
use Rattle.sv_elab_rules.specs.ExpressionSteps.{expression_walk, constant_walk}
use Rattle.sv_elab_rules.proofs.WalkLemmas.{end_broken}
use Rattle.sv_width.specs.declared.lookups.Setting.{Setting}
use Rattle.sv_width.specs.declared.lookups.Setting.TheVariants.{Open, Constant, Declaring}
use Rattle.sv_width.specs.declared.meanings.Meaning.{Meaning}
use Rattle.sv_width.specs.declared.meanings.Meaning.TheVariants as meaning
use Rattle.sv_width.specs.Agreement.{AllDeclared, HaveSignals, HaveValues, HaveLengths, IsLength}
use Rattle.sv_width.specs.Agreement.{NumbersHaveLengths, PartsHaveLengths}
use Rattle.sv_width.specs.Answers.{IsBreach, step_of}
use Rattle.sv_width.specs.Scopes.{Known, number_of, binding_of, meaning_of, bindings_of}
use Rattle.sv_width.specs.Settings.{names_in, is_constant}
use Rattle.sv_width.specs.Measured.{OwnForm, MeasuredTree, MeasuredTrees, own_form, own_of}
use Rattle.sv_width.specs.Measured.{measured_of, measured_parts}
use Rattle.sv_width.specs.Pushed.{joined_width, folded_of, divisors_of, node_of}
use Rattle.sv_width.specs.Outcomes.{IsFolded, IsPushed, IsValue, constant_steps}
use Rattle.sv_width.proofs.Sound.{passed_sound, passed_parts}
use Rattle.sv_width.proofs.SameValue.{same_value}
use Rattle.sv_width.proofs.WellFormed.{typed_formed}
use Rattle.sv_width.proofs.Lengths.{KnownIn, own_length, some_length}
use Rattle.sv_width.proofs.Constants.{own_measured, joined_measured, folded_same}
use Rattle.sv_width.proofs.Walked.{typed_same, divisors_same}
use Rattle.sv_width.proofs.Measures.{breach_first, breach_after, passes_on}

-- ---- lengths of what the code holds

mutual
  pub expression_lengths : (e : Expr) → NumbersHaveLengths (expression_tree e)
  expression_lengths (expr.Number number place) = (number.bits.in_range.0, number.bits.in_range.1)
  expression_lengths (expr.Name name place) = tt
  expression_lengths (expr.Bit' name place p index) = expression_lengths index
  expression_lengths (expr.Part' name place p high q low) =
      (expression_lengths high, expression_lengths low)
  expression_lengths (expr.Unary' op place p operand) = expression_lengths operand
  expression_lengths (expr.Binary' op place p left q right) =
      (expression_lengths left, expression_lengths right)
  expression_lengths (expr.Choice' place p condition q first r second) =
      (expression_lengths condition, expression_lengths first, expression_lengths second)
  expression_lengths (expr.Join' place shape row) = row_lengths row
  expression_lengths (expr.Repeat' place p count shape row) =
      (expression_lengths count, row_lengths row)

  row_lengths : {n : _} (row : Row_of-Expr n) → PartsHaveLengths (row_parts row)
  row_lengths end_of-Expr = tt
  row_lengths (more_of-Expr e row) = (expression_lengths e, row_lengths row)

pub list_lengths : (es : List Expr) → PartsHaveLengths (parts_of (expression_trees es))
list_lengths [] = tt
list_lengths (e ∷ es) = (expression_lengths e, list_lengths es)

meaning_length : (m : Option Meaning) (b : Binding) → option_map binding_of m ≡ Some b →
    IsLength (binding_width (Some b))
meaning_length None b is = absurd (cc is)
meaning_length (Some (meaning.Param bits)) b is =
    subst (λ (x : Option Binding). IsLength (binding_width x)) is (bits.in_range.0, bits.in_range.1)
meaning_length (Some (meaning.Signal s)) b is =
    subst (λ (x : Option Binding). IsLength (binding_width x)) is (s.in_range.0, s.in_range.1)

pub known_lengths : (known : Known) → HaveLengths (bindings_of known)
known_lengths known n b is = meaning_length (meaning_of known n) b is

pub setting_lengths : (setting : Setting) (known : Known) →
    HaveLengths (names_in setting known).scope
setting_lengths Open known = known_lengths known
setting_lengths Constant known = known_lengths known
setting_lengths Declaring known = known_lengths known

pub setting_known : (setting : Setting) (known : Known) →
    KnownIn (names_in setting known) (is_constant setting)
setting_known Open known h n = refl
setting_known Constant known h n = absurd (cc h)
setting_known Declaring known h n = absurd (cc h)

-- a replication is shaped where its count and its parts are
pub replication_shape : (p : Place) (k : ExpressionTree) (es : ExpressionTrees)
    → IsTrue (is_shaped_expression (replication p k es))
    → IsTrue (has_part es) × IsTrue (are_shaped_parts es)
replication_shape p k es h =
    let outer = and_parts (is_shaped_expression k && has_part es) (are_shaped_parts es) h in
    let inner = and_parts (is_shaped_expression k) (has_part es) outer.0 in
    (inner.1, outer.1)

-- parts that break no rule have a bit
pub some_width : (names : Names) (lengths : HaveLengths names.scope) (c : Bool) → KnownIn names c
    → (es : ExpressionTrees) (ts : MeasuredTrees)
    → (asked_parts names c es).end ≡ Ok tt → ts ≡ measured_parts names es → IsTrue (has_part es)
    → IsTrue (are_shaped_parts es) → PartsHaveLengths es
    → 1 ≤ joined_width ts
some_width names lengths c known es ts passes is some shaped numbers =
    subst (λ n. 1 ≤ n) (sym (ap joined_width is ∙ joined_measured names es))
    (some_length names lengths c known es (passed_parts names c es passes) some shaped numbers)

-- ---- constants

module _ (names : Names) (lengths : HaveLengths names.scope) (c : Bool) (known : KnownIn names c)
    (e : ExpressionTree) (shape : IsTrue (is_shaped_expression e)) (numbers : NumbersHaveLengths e)
    (passes : (asked names c e).end ≡ Ok tt) (t : MeasuredTree) (is : t ≡ measured_of names e) where
  pub own : IsLength (length_of names.scope e)
  own = own_length names lengths c known e (passed_sound names c e passes) shape numbers

  pub own_is : own_form t ≡ own_of names e
  own_is = ap own_form is ∙ own_measured names e

  pub divisors_at : (n m : ℕ) (s r : Bool) → length_of names.scope e ≤ m → IsLength m
      → n ≡ m → s ≡ r
      → (divisors_of t n s).end ≡ (divisors names.scope e m r).end
  divisors_at n m s r fits long same_n same_s =
      ap (λ (x : MeasuredTree). (divisors_of x n s).end) is
      ∙ ap (λ x. (divisors_of (measured_of names e) x s).end) same_n
      ∙ ap (λ x. (divisors_of (measured_of names e) m x).end) same_s
      ∙ divisors_same names lengths c known e (passed_sound names c e passes) shape numbers m r
      fits long

  pub own_divisors_at : (n : ℕ) (s : Bool) → n ≡ (own_form t).width → s ≡ (own_form t).signed
      → (divisors_of t n s).end ≡ (own_divisors names.scope e).end
  own_divisors_at n s same_n same_s =
      divisors_at n (length_of names.scope e) s (signed_of names.scope e) (omega arith) own
      (same_n ∙ ap (λ (o : OwnForm). o.width) own_is) (same_s
      ∙ ap (λ (o : OwnForm). o.signed) own_is)

  pub form_at : (n m : ℕ) (s r : Bool) (f : FExpr) → length_of names.scope e ≤ m → IsLength m
      → n ≡ m → s ≡ r
      → IsPushed t n s f → typed_tree f ≡ typed_of names e m r
  form_at n m s r f fits long same_n same_s pushed =
      pushed.1
      ∙ ap (λ (x : MeasuredTree). typed n s (node_of x n s)) is
      ∙ ap (λ x. typed x s (node_of (measured_of names e) x s)) same_n
      ∙ ap (λ x. typed m x (node_of (measured_of names e) m x)) same_s
      ∙ typed_same names lengths c known e (passed_sound names c e passes) shape numbers m r
      fits long

  pub value_at : (n m : ℕ) (s r : Bool) → length_of names.scope e ≤ m → IsLength m → n ≡ m → s ≡ r
      → folded_of t n s ≡ value names.scope nowhere e m r
  value_at n m s r fits long same_n same_s =
      ap (λ (x : MeasuredTree). folded_of x n s) is
      ∙ ap (λ x. folded_of (measured_of names e) x s) same_n
      ∙ ap (λ x. folded_of (measured_of names e) m x) same_s
      ∙ folded_same names lengths c known e (passed_sound names c e passes) shape numbers m r
      fits long

  pub value_at_own : (n : ℕ) (s : Bool) (bits : Bits) → n ≡ (own_form t).width
      → s ≡ (own_form t).signed → IsFolded t n s bits
      → number_of bits ≡ constant_of names.scope e
  value_at_own n s bits same_n same_s folded =
      let N : n ≡ length_of names.scope e = same_n ∙ ap (λ (o : OwnForm). o.width) own_is in
      let S : s ≡ signed_of names.scope e = same_s ∙ ap (λ (o : OwnForm). o.signed) own_is in
      let V = value_at n (length_of names.scope e) s (signed_of names.scope e) (omega arith)
      own N S in
      ap (λ x. record { width = x; signed = is_signed bits; value = value_of bits }) (folded.1 ∙ N)
      ∙ ap (λ x. record { width = length_of names.scope e; signed = x; value = value_of bits })
      (folded.2 ∙ S)
      ∙ ap (λ x. record {
        width = length_of names.scope e;
        signed = signed_of names.scope e;
        value = x;
      }) (folded.3 ∙ V)

  abbrev pushed_length : ℕ → ℕ
  pushed_length width = max (length_of names.scope e) width

  pushed_long : (width : ℕ) → width ≤ 64 → IsLength (pushed_length width)
  pushed_long width few = (omega (arith, own.0), omega (arith, own.1))

  pub same_length : (width n : ℕ) → n ≡ max (own_form t).width width → n ≡ pushed_length width
  same_length width n same_n = same_n ∙ ap (λ (o : OwnForm). max o.width width) own_is

  pub same_sign : (s : Bool) → s ≡ (own_form t).signed → s ≡ signed_of names.scope e
  same_sign s same_s = same_s ∙ ap (λ (o : OwnForm). o.signed) own_is

  pub pushed_divisors : (width n : ℕ) (s : Bool) → width ≤ 64 → n ≡ max (own_form t).width width
      → s ≡ (own_form t).signed
      → (divisors_of t n s).end ≡
      (divisors names.scope e (pushed_length width) (signed_of names.scope e)).end
  pushed_divisors width n s few same_n same_s =
      divisors_at n (pushed_length width) s (signed_of names.scope e) (omega arith)
      (pushed_long width few)
      (same_length width n same_n) (same_sign s same_s)

  pub pushed_form : (width n : ℕ) (s : Bool) (f : FExpr) → width ≤ 64
      → n ≡ max (own_form t).width width → s ≡ (own_form t).signed
      → IsPushed t n s f → typed_tree f ≡
      typed_of names e (pushed_length width) (signed_of names.scope e)
  pushed_form width n s f few same_n same_s pushed =
      form_at n (pushed_length width) s (signed_of names.scope e) f (omega arith)
      (pushed_long width few)
      (same_length width n same_n) (same_sign s same_s) pushed

  pub formed_at : (declared : AllDeclared names) (signals : List SignalForm)
      → HaveSignals names signals
      → (width n : ℕ) (s : Bool) (f : FExpr) → width ≤ 64 → n ≡ max (own_form t).width width
      → s ≡ (own_form t).signed
      → IsPushed t n s f → IsTrue (well_formed signals (typed_tree f))
  formed_at declared signals has_signals width n s f few same_n same_s pushed =
      subst (λ (x : TypedTree).
      IsTrue (well_formed signals x)) (sym (pushed_form width n s f few same_n same_s pushed))
      (typed_formed names declared lengths signals has_signals c e (passed_sound names c e passes)
      shape numbers
      (pushed_length width) (signed_of names.scope e) (omega arith) (pushed_long width few))

  pub means_at : (declared : AllDeclared names) (signals : List SignalForm)
      (has_signals : HaveSignals names signals)
      (by_name : Environment (List ℕ)) (by_number : Environment ℕ)
      → HaveValues names by_name by_number
      → (width n : ℕ) (s : Bool) (f : FExpr) → width ≤ 64 → n ≡ max (own_form t).width width
      → s ≡ (own_form t).signed
      → IsPushed t n s f → flat_value signals by_number (typed_tree f) ≡
      value names.scope by_name e (pushed_length width) (signed_of names.scope e)
  means_at declared signals has_signals by_name by_number has_values width n s f few same_n same_s
      pushed =
      ap (λ (x : TypedTree).
      flat_value signals by_number x) (pushed_form width n s f few same_n same_s pushed)
      ∙ same_value names declared signals has_signals by_name by_number has_values c e
      (passed_sound names c e passes)
      (pushed_length width) (signed_of names.scope e)

-- ---- the whole walks

module _ (names : Names) (lengths : HaveLengths names.scope) (known : KnownIn names false)
    (e : ExpressionTree) (shape : IsTrue (is_shaped_expression e))
    (numbers : NumbersHaveLengths e) where
  pub typed_found : (passes : (asked names false e).end ≡ Ok tt) (t : MeasuredTree)
      → t ≡ measured_of names e
      → (width n : ℕ) (s : Bool) (f : FExpr) → width ≤ 64 → n ≡ max (own_form t).width width
      → s ≡ (own_form t).signed
      → IsPushed t n s f → (expression_walk names e width).end ≡ Ok (typed_tree f)
  unfolding expression_walk typed_walk
  typed_found passes t is width n s f few same_n same_s pushed =
      passes_on (asked names false e) _ _ passes
      (passes_on (divisors names.scope e (max (length_of names.scope e) width)
      (signed_of names.scope e)) _ _
      (sym (pushed_divisors names lengths false known e shape numbers passes t is width n s few
      same_n same_s) ∙ pushed.0)
      (ap (λ (x : TypedTree).
      (done x).end) (sym (pushed_form names lengths false known e shape numbers passes t is
      width n s f few same_n same_s pushed))))

  pub typed_unasked : (width : ℕ) (f : Fault) → IsBreach (asked names false e).end f →
      IsBreach (expression_walk names e width).end f
  unfolding expression_walk typed_walk
  typed_unasked width f h = breach_first (asked names false e) _ f h

  pub typed_divided : (passes : (asked names false e).end ≡ Ok tt) (t : MeasuredTree)
      → t ≡ measured_of names e
      → (width n : ℕ) (s : Bool) (f : Fault) → width ≤ 64 → n ≡ max (own_form t).width width
      → s ≡ (own_form t).signed
      → IsBreach (divisors_of t n s).end f → IsBreach (expression_walk names e width).end f
  unfolding expression_walk typed_walk
  typed_divided passes t is width n s f few same_n same_s h =
      breach_after (asked names false e) _ tt f passes
      (breach_first (divisors names.scope e (max (length_of names.scope e) width)
      (signed_of names.scope e)) _ f
      (subst (λ r. IsBreach r f)
      (pushed_divisors names lengths false known e shape numbers passes t is width n s few
      same_n same_s) h))

-- a constant that is found is the end of its walk
pub constant_found : (names : Names) (e : ExpressionTree) (bits : Bits) → IsValue names e bits →
    (constant_walk names e).end ≡ Ok (number_of bits)
unfolding constant_walk
constant_found names e bits found =
    passes_on (asked names true e) _ _ found.0
    (passes_on (own_divisors names.scope e) _ _ found.1
    (ap (λ (x : Number). (done x).end) (sym found.2)))

pub constant_broken : (names : Names) (e : ExpressionTree) (f : Fault) →
    IsBreach (constant_steps names e).end f → IsBreach (constant_walk names e).end f
unfolding constant_walk
constant_broken names e f h = along_steps (asked names true e) (own_divisors names.scope e) f h
  where
    along_steps : (v w : Steps) (f : Fault) → IsBreach (v >>= λ _. w).end f
        → IsBreach (v >>= λ _. w >>= λ _. done (constant_of names.scope e)).end f
    along_steps v w (Rule r) h = by_first v.end h
      where
        by_first : (r1 : Result (Unit {0}) WalkStep)
            → (then_walk v.passed r1 (λ _. w)).end ≡ Err (step_of r)
            → (then_walk v.passed r1 (λ _. w >>= λ _. done (constant_of names.scope e))).end ≡
            Err (step_of r)
        by_first (Ok x) h = end_broken w _ (step_of r) h
        by_first (Err s) h = cc h
    along_steps v w OutOfMemory h = tt
