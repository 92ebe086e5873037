-- A typed expression has the value of its source.
use Rattle.std.proofs.Common.{◌≡◌, ℕ, ◌+◌, ◌*◌, ◌^◌, Bool, true, false, List, refl}
use Rattle.std.proofs.Common.{sym, ap, subst, ◌∙◌}
use Rattle.std.specs.Prelude.{◌||◌, if◌then◌else◌, Option, Some, None, IsTrue}
use Rattle.std.proofs.lemmas.Bool.{or_parts, not-true}
use Rattle.sv_num.specs.declared.operators.BinOp.{BinOp}
use Rattle.sv_num.specs.declared.operators.BinOp.TheVariants.{Mul, Div, Rem, Add, Sub, Shl, Shr}
use Rattle.sv_num.specs.declared.operators.BinOp.TheVariants.{SignShl, SignShr, Lt, Le, Gt, Ge, Eq}
use Rattle.sv_num.specs.declared.operators.BinOp.TheVariants.{Ne, And, Xor, Xnor, Or, LogicAnd}
use Rattle.sv_num.specs.declared.operators.BinOp.TheVariants.{LogicOr}
use Rattle.sv_num.specs.declared.operators.UnOp.{UnOp}
use Rattle.sv_num.specs.declared.faults.Place.{Place}
use Rattle.sv_num.specs.Vectors.{as_number, is_true}
use Rattle.sv_num.specs.UnaryValues.{gives_one_bit, unary_value}
use Rattle.sv_num.specs.BinaryValues.{class_of, binary_value, is_division}
use Rattle.sv_system.specs.System.{Environment}
use Rattle.sv_ast.specs.Scopes.{Binding, parameter, signal, width_of, value_of}
use Rattle.sv_ast.specs.Tree.{ExpressionTree, ExpressionTrees, literal, named, bit_of, part_of}
use Rattle.sv_ast.specs.Tree.{unary, binary, choice, join, replication, no_expressions}
use Rattle.sv_ast.specs.Tree.{more_expressions}
use Rattle.sv_ast.specs.Values.{nowhere, natural, operand, Operand, binary_result, length_of}
use Rattle.sv_ast.specs.Values.{joined_length, signed_of, value, joined_value, at_own, whole_number}
use Rattle.sv_num.specs.Parts.{extended, bit_or_zero, bits_between, repeated}
use Rattle.sv_ast.specs.Instances.{is_signal}
use Rattle.sv_flat.specs.Design.{SignalForm, TypedTree, typed, binary as binary_node}
use Rattle.sv_flat.specs.Design.{unary as unary_node, constant}
use Rattle.sv_flat.specs.Values.{signal_width, expression_width, expression_signed, parts_width}
use Rattle.sv_flat.specs.Values.{value as flat_value, joined, number_of}
use Rattle.sv_elab_rules.specs.Names.{Names, is_bound, in_reach, means_signal}
use Rattle.sv_elab_rules.specs.TypedExpressions.{names_signal, some_names_signal}
use Rattle.sv_elab_rules.specs.TypedExpressions.{left_length, left_signed, right_length, right_signed}
use Rattle.sv_elab_rules.specs.TypedExpressions.{named_node, typed_of, typed_parts}
use Rattle.sv_width.specs.Agreement.{AllDeclared, HaveSignals, HaveValues}
use Rattle.sv_width.proofs.Sound.{Sound, SoundParts}

pub either : {R : Type 0} (b : Bool) → (b ≡ true → R) → (b ≡ false → R) → R
either true f g = f refl
either false f g = g refl

-- ---- the length and signedness of a typed form are those that are pushed

abbrev own_typed : Names → ExpressionTree → TypedTree
own_typed names e = typed_of names e (length_of names.scope e) (signed_of names.scope e)

-- the length and the signedness at which an operand of an operator stands
pub record Standing : Type 0 where
  pub length : ℕ
  pub signed : Bool

abbrev pub left_standing : Names → BinOp → (a b : ExpressionTree) → ℕ → Bool → Standing
left_standing names op a b n s = record {
  length = left_length (class_of op) n (length_of names.scope a) (length_of names.scope b);
  signed = left_signed (class_of op) s (signed_of names.scope a) (signed_of names.scope b);
}

abbrev pub right_standing : Names → BinOp → (a b : ExpressionTree) → ℕ → Bool → Standing
right_standing names op a b n s = record {
  length = right_length (class_of op) n (length_of names.scope a) (length_of names.scope b);
  signed = right_signed (class_of op) s (signed_of names.scope a) (signed_of names.scope b);
}

-- what the typed forms of operators are
module _ (names : Names) (p : Place) (n : ℕ) (s : Bool) where
  pub typed_reduction : (op : UnOp) (e : ExpressionTree) → gives_one_bit op ≡ true
      → typed_of names (unary op p e) n s ≡ typed n s (unary_node op (own_typed names e))
  unfolding typed_of typed_parts
  typed_reduction op e h =
      subst (λ (x : Bool). elim x as (λ y. TypedTree) [
        | true ↦ typed n s (unary_node op (own_typed names e))
        | false ↦ typed n s (unary_node op (typed_of names e n s))
      ] ≡ typed n s (unary_node op (own_typed names e))) (sym h) refl

  pub typed_unary : (op : UnOp) (e : ExpressionTree) → gives_one_bit op ≡ false
      → typed_of names (unary op p e) n s ≡ typed n s (unary_node op (typed_of names e n s))
  unfolding typed_of typed_parts
  typed_unary op e h =
      subst (λ (x : Bool). elim x as (λ y. TypedTree) [
        | true ↦ typed n s (unary_node op (own_typed names e))
        | false ↦ typed n s (unary_node op (typed_of names e n s))
      ] ≡ typed n s (unary_node op (typed_of names e n s))) (sym h) refl

  abbrev divided_form : BinOp → ExpressionTree → ExpressionTree → TypedTree
  divided_form op a b = typed n s (constant (value names.scope nowhere (binary op p a b) n s))

  abbrev operated_form : BinOp → ExpressionTree → ExpressionTree → TypedTree
  operated_form op a b =
      let l = left_standing names op a b n s in
      let r = right_standing names op a b n s in
      typed n s (binary_node op (typed_of names a l.length l.signed)
      (typed_of names b r.length r.signed))

  typed_by_kind : (op : BinOp) (a b : ExpressionTree) (d : Bool) → is_division op ≡ d
      → typed_of names (binary op p a b) n s ≡ elim d as (λ y. TypedTree) [
        | true ↦ divided_form op a b
        | false ↦ operated_form op a b
      ]
  unfolding typed_of typed_parts
  typed_by_kind op a b d h = ap (λ (x : Bool). elim x as (λ y. TypedTree) [
    | true ↦ divided_form op a b
    | false ↦ operated_form op a b
  ]) h

  pub typed_division : (op : BinOp) (a b : ExpressionTree) → is_division op ≡ true
      → typed_of names (binary op p a b) n s ≡ divided_form op a b
  typed_division op a b h = typed_by_kind op a b true h

  pub typed_binary : (op : BinOp) (a b : ExpressionTree) → is_division op ≡ false
      → typed_of names (binary op p a b) n s ≡ operated_form op a b
  typed_binary op a b h = typed_by_kind op a b false h

abbrev HasType : TypedTree → ℕ → Bool → Type 0
HasType t n s = (expression_width t ≡ n) × (expression_signed t ≡ s)

along : (t u : TypedTree) (n : ℕ) (s : Bool) → t ≡ u → HasType u n s → HasType t n s
along t u n s is h = subst (λ (x : TypedTree). HasType x n s) (sym is) h

pub type_of_typed : (names : Names) (e : ExpressionTree) (n : ℕ) (s : Bool)
    → (expression_width (typed_of names e n s) ≡ n) × (expression_signed (typed_of names e n s) ≡ s)
unfolding typed_of typed_parts
type_of_typed names (literal l p) n s = (refl, refl)
type_of_typed names (named m p) n s = (refl, refl)
type_of_typed names (bit_of m p i) n s = (refl, refl)
type_of_typed names (part_of m p h l) n s = (refl, refl)
type_of_typed names (unary op p e) n s = either (gives_one_bit op)
    (λ h. along _ _ n s (typed_reduction names p n s op e h) (refl, refl))
    (λ h. along _ _ n s (typed_unary names p n s op e h) (refl, refl))
type_of_typed names (binary op p a b) n s = either (is_division op)
    (λ h. along _ _ n s (typed_division names p n s op a b h) (refl, refl))
    (λ h. along _ _ n s (typed_binary names p n s op a b h) (refl, refl))
type_of_typed names (choice p c a b) n s = (refl, refl)
type_of_typed names (join p es) n s = (refl, refl)
type_of_typed names (replication p k es) n s = (refl, refl)

pub parts_width_of : (names : Names) (es : ExpressionTrees) →
    parts_width (typed_parts names es) ≡ joined_length names.scope es
unfolding typed_of typed_parts length_of joined_length
parts_width_of names no_expressions = refl
parts_width_of names (more_expressions e es) =
    ap (λ x. x + parts_width (typed_parts names es))
    (type_of_typed names e (length_of names.scope e) (signed_of names.scope e)).0
    ∙ ap (λ x. length_of names.scope e + x) (parts_width_of names es)

-- ---- operators

number_of_typed : (signals : List SignalForm) (by_number : Environment ℕ) (t : TypedTree)
    → number_of signals by_number t ≡
    as_number (expression_width t) (expression_signed t) (flat_value signals by_number t)
number_of_typed signals by_number (typed n s node) = refl

-- an operator's result, where each operand stands at the length and signedness that its class
-- gives it
pub result_at : (op : BinOp) (n : ℕ) (s : Bool) (a b : Operand)
    → binary_value op (left_length (class_of op) n a.length b.length)
    (left_signed (class_of op) s a.signed b.signed)
    (a.value (left_length (class_of op) n a.length b.length)
    (left_signed (class_of op) s a.signed b.signed))
    (b.value (right_length (class_of op) n a.length b.length)
    (right_signed (class_of op) s a.signed b.signed))
    ≡ binary_result op (class_of op) n s a b
result_at Mul n s a b = refl
result_at Div n s a b = refl
result_at Rem n s a b = refl
result_at Add n s a b = refl
result_at Sub n s a b = refl
result_at Shl n s a b = refl
result_at Shr n s a b = refl
result_at SignShl n s a b = refl
result_at SignShr n s a b = refl
result_at Lt n s a b = refl
result_at Le n s a b = refl
result_at Gt n s a b = refl
result_at Ge n s a b = refl
result_at Eq n s a b = refl
result_at Ne n s a b = refl
result_at And n s a b = refl
result_at Xor n s a b = refl
result_at Xnor n s a b = refl
result_at Or n s a b = refl
result_at LogicAnd n s a b = refl
result_at LogicOr n s a b = refl

-- the operands' values alone count
pub same_result : (op : BinOp) (n : ℕ) (s : Bool) (la lb : ℕ) (sa sb : Bool) (f g v w : ℕ
    → Bool → ℕ)
    → ((m : ℕ) (t : Bool) → f m t ≡ v m t) → ((m : ℕ) (t : Bool) → g m t ≡ w m t)
    → binary_result op (class_of op) n s (operand la sa f) (operand lb sb g)
    ≡ binary_result op (class_of op) n s (operand la sa v) (operand lb sb w)
same_result op n s la lb sa sb f g v w p q =
    let LL : ℕ = left_length (class_of op) n la lb in
    let LS : Bool = left_signed (class_of op) s sa sb in
    let RL : ℕ = right_length (class_of op) n la lb in
    let RS : Bool = right_signed (class_of op) s sa sb in
    sym (result_at op n s (operand la sa f) (operand lb sb g))
    ∙ ap (λ x. binary_value op LL LS x (g RL RS)) (p LL LS)
    ∙ ap (λ x. binary_value op LL LS (v LL LS) x) (q RL RS)
    ∙ result_at op n s (operand la sa v) (operand lb sb w)

-- ---- constants have one value in all environments

-- a name that stands for no signal has the same value everywhere
fixed_name : (b : Option Binding) (x y : ℕ) → IsTrue (is_bound b) → is_signal b ≡ false →
    value_of b x ≡ value_of b y
fixed_name (Some (parameter v)) x y bound h = refl
fixed_name (Some (signal n s)) x y bound h = absurd (cc h)
fixed_name None x y bound h = absurd (cc bound)

-- where all declarations are made, what is in reach is bound, and what means a signal is one
pub reached : (names : Names) (n : List ℕ) → names.later n ≡ false → IsTrue (in_reach names n) →
    IsTrue (is_bound (names.scope n))
reached names n none h = by (is_bound (names.scope n)) h
  where
    by : (b : Bool) → IsTrue (b || names.later n) → b ≡ true
    by true h = refl
    by false h = absurd (cc (h, none))

pub meant : (names : Names) (n : List ℕ) → names.later n ≡ false → IsTrue (means_signal names n) →
    is_signal (names.scope n) ≡ true
meant names n none h = by (is_bound (names.scope n)) h
  where
    by : (b : Bool) → IsTrue (if b then is_signal (names.scope n) else names.later n) →
        is_signal (names.scope n) ≡ true
    by true h = h
    by false h = absurd (cc (h, none))

-- a division that breaks no rule names no signal
pub constant_operands : (names : Names) (c : Bool) (op : BinOp) (p : Place) (a b : ExpressionTree)
    → Sound names c (binary op p a b)
    → is_division op ≡ true → names_signal names.scope (binary op p a b) ≡ false
unfolding Sound names_signal
constant_operands names c op p a b q h = not-true _ (q.2 h)

module _ (names : Names) (declared : AllDeclared names) where
  no_signal : (n : List ℕ) (rest : Bool) → IsTrue (means_signal names n) →
      (is_signal (names.scope n) || rest) ≡ false → ⊥
  no_signal n rest h e =
      cc (meant names n (declared n) h, (or_parts (is_signal (names.scope n)) rest e).0)

  mutual
    unfolding value joined_value Sound SoundParts names_signal some_names_signal

    pub constant_value : (environment : Environment (List ℕ)) (c : Bool) (e : ExpressionTree)
        → Sound names c e → names_signal names.scope e ≡ false
        → (n : ℕ) (s : Bool) → value names.scope environment e n s ≡ value names.scope nowhere e n s
    constant_value env c (literal l p) q h n s = refl
    constant_value env c (named m p) q h n s =
        ap (λ x. extended s (width_of (names.scope m)) n x)
        (fixed_name (names.scope m) (env m) 0 (reached names m (declared m) q.0) h)
    constant_value env c (bit_of m p i) q h n s =
        absurd (no_signal m (names_signal names.scope i) q.0 h)
    constant_value env c (part_of m p hi lo) q h n s =
        absurd (no_signal m (names_signal names.scope hi) q.0
        ((or_parts (is_signal (names.scope m) || names_signal names.scope hi)
        (names_signal names.scope lo) h).0))
    constant_value env c (unary op p e) q h n s =
        ap (λ x. if gives_one_bit op
        then unary_value op (length_of names.scope e) (signed_of names.scope e) x
        else unary_value op n s (value names.scope env e n s))
        (constant_value env c e q h (length_of names.scope e) (signed_of names.scope e))
        ∙ ap (λ x. if gives_one_bit op
        then unary_value op (length_of names.scope e) (signed_of names.scope e)
        (value names.scope nowhere e (length_of names.scope e) (signed_of names.scope e))
        else unary_value op n s x)
        (constant_value env c e q h n s)
    constant_value env c (binary op p a b) q h n s =
        let parts = or_parts (names_signal names.scope a) (names_signal names.scope b) h in
        same_result op n s (length_of names.scope a) (length_of names.scope b)
        (signed_of names.scope a) (signed_of names.scope b)
        (value names.scope env a) (value names.scope env b) (value names.scope nowhere a)
        (value names.scope nowhere b)
        (constant_value env c a q.0 parts.0) (constant_value env c b q.1 parts.1)
    constant_value env c (choice p d a b) q h n s =
        let outer = or_parts (names_signal names.scope d || names_signal names.scope a)
        (names_signal names.scope b) h in
        let inner = or_parts (names_signal names.scope d) (names_signal names.scope a) outer.0 in
        ap (λ x. if is_true x then value names.scope env a n s else value names.scope env b n s)
        (constant_value env c d q.0 inner.0 (length_of names.scope d) (signed_of names.scope d))
        ∙ ap (λ x. if is_true
        (value names.scope nowhere d (length_of names.scope d) (signed_of names.scope d)) then x
        else value names.scope env b n s)
        (constant_value env c a q.1 inner.1 n s)
        ∙ ap (λ x. if is_true
        (value names.scope nowhere d (length_of names.scope d) (signed_of names.scope d))
        then value names.scope nowhere a n s else x)
        (constant_value env c b q.2 outer.1 n s)
    constant_value env c (join p es) q h n s = constant_parts env c es q.0 h
    constant_value env c (replication p k es) q h n s =
        let parts = or_parts (names_signal names.scope k) (some_names_signal names.scope es) h in
        ap (λ x. repeated (natural (whole_number names.scope k)) (joined_length names.scope es) x)
        (constant_parts env c es q.2 parts.1)

    pub constant_parts : (environment : Environment (List ℕ)) (c : Bool) (es : ExpressionTrees)
        → SoundParts names c es
        → some_names_signal names.scope es ≡ false
        → joined_value names.scope environment es ≡ joined_value names.scope nowhere es
    constant_parts env c no_expressions q h = refl
    constant_parts env c (more_expressions e es) q h =
        let parts = or_parts (names_signal names.scope e) (some_names_signal names.scope es) h in
        ap (λ x. x * 2 ^ joined_length names.scope es + joined_value names.scope env es)
        (constant_value env c e q.0 parts.0 (length_of names.scope e) (signed_of names.scope e))
        ∙ ap (λ x. value names.scope nowhere e (length_of names.scope e)
        (signed_of names.scope e) * 2
        ^ joined_length names.scope es + x)
        (constant_parts env c es q.1 parts.1)

  -- ---- typed forms

  module _ (signals : List SignalForm) (has_signals : HaveSignals names signals)
      (by_name : Environment (List ℕ)) (by_number : Environment ℕ)
      (has_values : HaveValues names by_name by_number) where
    -- a name's node has the value of what it stands for
    named_value : (m : List ℕ) (p : Place) (n : ℕ) (s : Bool) (b : Option Binding)
        → names.scope m ≡ b → IsTrue (is_bound b)
        → flat_value signals by_number (typed n s (named_node b (names.number m) p n s)) ≡
        extended s (width_of b) n (value_of b (by_name m))
    named_value m p n s (Some (parameter v)) is bound = refl
    named_value m p n s (Some (signal w t)) is bound =
        ap (λ x. extended s x n (by_number (names.number m))) (has_signals m w t is).1
        ∙ ap (λ x. extended s w n x) (has_values m w t is)
    named_value m p n s None is bound = absurd (cc bound)

    -- the signal of a bit or a part
    signal_there : (m : List ℕ) (b : Option Binding) → names.scope m ≡ b → is_signal b ≡ true
        → (signal_width signals (names.number m) ≡ width_of b)
        × (by_number (names.number m) ≡ by_name m)
    signal_there m (Some (parameter v)) is h = absurd (cc h)
    signal_there m (Some (signal w t)) is h = ((has_signals m w t is).1, has_values m w t is)
    signal_there m None is h = absurd (cc h)

    abbrev typed_own : ExpressionTree → TypedTree
    typed_own e = typed_of names e (length_of names.scope e) (signed_of names.scope e)

    operand_same : (op : UnOp) (e : ExpressionTree)
        → ((m : ℕ) (t : Bool)
        → flat_value signals by_number (typed_of names e m t) ≡ value names.scope by_name e m t)
        → (m : ℕ) (t : Bool)
        → unary_value op (expression_width (typed_of names e m t))
        (expression_signed (typed_of names e m t))
        (flat_value signals by_number (typed_of names e m t)) ≡
        unary_value op m t (value names.scope by_name e m t)
    operand_same op e same m t =
        let is = type_of_typed names e m t in
        ap (λ x. unary_value op x (expression_signed (typed_of names e m t))
        (flat_value signals by_number (typed_of names e m t))) is.0
        ∙ ap (λ x. unary_value op m x (flat_value signals by_number (typed_of names e m t))) is.1
        ∙ ap (λ x. unary_value op m t x) (same m t)

    unary_same : (op : UnOp) (p : Place) (e : ExpressionTree) (n : ℕ) (s : Bool)
        → ((m : ℕ) (t : Bool)
        → flat_value signals by_number (typed_of names e m t) ≡ value names.scope by_name e m t)
        → flat_value signals by_number (typed_of names (unary op p e) n s) ≡
        value names.scope by_name (unary op p e) n s
    unfolding value joined_value
    unary_same op p e n s same =
        let L : ℕ = length_of names.scope e in
        let S : Bool = signed_of names.scope e in
        either (gives_one_bit op)
        (λ h. ap (λ t. flat_value signals by_number t) (typed_reduction names p n s op e h)
        ∙ operand_same op e same L S
        ∙ sym (ap (λ (x : Bool). if x then unary_value op L S (value names.scope by_name e L S)
        else unary_value op n s (value names.scope by_name e n s)) h))
        (λ h. ap (λ t. flat_value signals by_number t) (typed_unary names p n s op e h)
        ∙ operand_same op e same n s
        ∙ sym (ap (λ (x : Bool). if x then unary_value op L S (value names.scope by_name e L S)
        else unary_value op n s (value names.scope by_name e n s)) h))

    operands_same : (op : BinOp) (a b : ExpressionTree) (n : ℕ) (s : Bool)
        → ((m : ℕ) (t : Bool)
        → flat_value signals by_number (typed_of names a m t) ≡ value names.scope by_name a m t)
        → ((m : ℕ) (t : Bool)
        → flat_value signals by_number (typed_of names b m t) ≡ value names.scope by_name b m t)
        → (LL : ℕ) (LS : Bool) (RL : ℕ) (RS : Bool)
        → binary_value op (expression_width (typed_of names a LL LS))
        (expression_signed (typed_of names a LL LS))
        (flat_value signals by_number (typed_of names a LL LS))
        (flat_value signals by_number (typed_of names b RL RS))
        ≡ binary_value op LL LS (value names.scope by_name a LL LS)
        (value names.scope by_name b RL RS)
    operands_same op a b n s same_a same_b LL LS RL RS =
        let x = type_of_typed names a LL LS in
        ap (λ m. binary_value op m (expression_signed (typed_of names a LL LS))
        (flat_value signals by_number (typed_of names a LL LS))
        (flat_value signals by_number (typed_of names b RL RS))) x.0
        ∙ ap (λ t. binary_value op LL t
        (flat_value signals by_number (typed_of names a LL LS))
        (flat_value signals by_number (typed_of names b RL RS))) x.1
        ∙ ap (λ v. binary_value op LL LS v (flat_value signals by_number (typed_of names b RL RS)))
        (same_a LL LS)
        ∙ ap (λ v. binary_value op LL LS (value names.scope by_name a LL LS) v) (same_b RL RS)

    binary_same : (c : Bool) (op : BinOp) (p : Place) (a b : ExpressionTree) (n : ℕ) (s : Bool)
        → Sound names c (binary op p a b)
        → ((m : ℕ) (t : Bool)
        → flat_value signals by_number (typed_of names a m t) ≡ value names.scope by_name a m t)
        → ((m : ℕ) (t : Bool)
        → flat_value signals by_number (typed_of names b m t) ≡ value names.scope by_name b m t)
        → flat_value signals by_number (typed_of names (binary op p a b) n s) ≡
        value names.scope by_name (binary op p a b) n s
    unfolding value joined_value
    binary_same c op p a b n s q same_a same_b = either (is_division op)
        (λ h. ap (λ t. flat_value signals by_number t) (typed_division names p n s op a b h)
        ∙ sym (constant_value by_name c (binary op p a b) q
        (constant_operands names c op p a b q h) n s))
        (λ h. ap (λ t. flat_value signals by_number t) (typed_binary names p n s op a b h)
        ∙ operands_same op a b n s same_a same_b
        (left_standing names op a b n s).length (left_standing names op a b n s).signed
        (right_standing names op a b n s).length (right_standing names op a b n s).signed
        ∙ result_at op n s (operand (length_of names.scope a) (signed_of names.scope a)
        (value names.scope by_name a))
        (operand (length_of names.scope b) (signed_of names.scope b) (value names.scope by_name b)))

    bit_same : (m : List ℕ) (p : Place) (i : ExpressionTree) → is_signal (names.scope m) ≡ true
        → flat_value signals by_number (typed_own i) ≡
        value names.scope by_name i (length_of names.scope i) (signed_of names.scope i)
        → bit_or_zero (signal_width signals (names.number m)) (by_number (names.number m))
        (number_of signals by_number (typed_own i))
        ≡ bit_or_zero (width_of (names.scope m)) (by_name m)
        (at_own (length_of names.scope i) (signed_of names.scope i) (value names.scope by_name i))
    bit_same m p i there same =
        let own : ℕ = length_of names.scope i in
        let signed : Bool = signed_of names.scope i in
        let known = signal_there m (names.scope m) refl there in
        let index : number_of signals by_number (typed_own i) ≡
        as_number own signed (value names.scope by_name i own signed) =
        number_of_typed signals by_number (typed_own i)
        ∙ ap (λ x. as_number x (expression_signed (typed_own i))
        (flat_value signals by_number (typed_own i))) (type_of_typed names i own signed).0
        ∙ ap (λ x. as_number own x (flat_value signals by_number (typed_own i)))
        (type_of_typed names i own signed).1
        ∙ ap (λ x. as_number own signed x) same in
        ap (λ x. bit_or_zero x (by_number (names.number m))
        (number_of signals by_number (typed_own i))) known.0
        ∙ ap (λ x. bit_or_zero (width_of (names.scope m)) x
        (number_of signals by_number (typed_own i))) known.1
        ∙ ap (λ x. bit_or_zero (width_of (names.scope m)) (by_name m) x) index

    mutual
      unfolding typed_of typed_parts value joined_value Sound SoundParts

      pub same_value : (c : Bool) (e : ExpressionTree) → Sound names c e → (n : ℕ) (s : Bool)
          → flat_value signals by_number (typed_of names e n s) ≡ value names.scope by_name e n s
      same_value c (literal l p) q n s = refl
      same_value c (named m p) q n s =
          named_value m p n s (names.scope m) refl (reached names m (declared m) q.0)
      same_value c (bit_of m p i) q n s =
          bit_same m p i (meant names m (declared m) q.0) (either (names_signal names.scope i)
          (λ h. same_value false i (q.2 h) (length_of names.scope i) (signed_of names.scope i))
          (λ h. same_value true i (q.3 h).0 (length_of names.scope i) (signed_of names.scope i)))
      same_value c (part_of m p h l) q n s =
          ap (λ x. bits_between (natural (whole_number names.scope h))
          (natural (whole_number names.scope l)) x)
          (signal_there m (names.scope m) refl (meant names m (declared m) q.0)).1
      same_value c (unary op p e) q n s = unary_same op p e n s (same_value c e q)
      same_value c (binary op p a b) q n s =
          binary_same c op p a b n s q (same_value c a q.0) (same_value c b q.1)
      same_value c (choice p d a b) q n s =
          ap (λ x. if is_true x then flat_value signals by_number (typed_of names a n s)
          else flat_value signals by_number (typed_of names b n s))
          (same_value c d q.0 (length_of names.scope d) (signed_of names.scope d))
          ∙ ap (λ x. if is_true
          (value names.scope by_name d (length_of names.scope d) (signed_of names.scope d)) then x
          else flat_value signals by_number (typed_of names b n s))
          (same_value c a q.1 n s)
          ∙ ap (λ x. if is_true
          (value names.scope by_name d (length_of names.scope d) (signed_of names.scope d))
          then value names.scope by_name a n s else x)
          (same_value c b q.2 n s)
      same_value c (join p es) q n s = same_parts c es q.0
      same_value c (replication p k es) q n s =
          ap (λ x. repeated (natural (whole_number names.scope k)) x
          (joined signals by_number (typed_parts names es))) (parts_width_of names es)
          ∙ ap (λ x. repeated (natural (whole_number names.scope k)) (joined_length names.scope es)
          x) (same_parts c es q.2)

      pub same_parts : (c : Bool) (es : ExpressionTrees) → SoundParts names c es
          → joined signals by_number (typed_parts names es) ≡ joined_value names.scope by_name es
      same_parts c no_expressions q = refl
      same_parts c (more_expressions e es) q =
          ap (λ x. x * 2 ^ parts_width (typed_parts names es) + joined signals by_number
          (typed_parts names es))
          (same_value c e q.0 (length_of names.scope e) (signed_of names.scope e))
          ∙ ap (λ x. value names.scope by_name e (length_of names.scope e)
          (signed_of names.scope e) * 2 ^ x + joined signals by_number (typed_parts names es))
          (parts_width_of names es)
          ∙ ap (λ x. value names.scope by_name e (length_of names.scope e)
          (signed_of names.scope e) * 2 ^ joined_length names.scope es + x)
          (same_parts c es q.1)
