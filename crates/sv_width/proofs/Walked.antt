-- The second walk over a measured expression asks and gives what the walk over its source does.
use Rattle.std.proofs.Common.{◌≡◌, ℕ, ◌≤◌, Bool, true, false, List, refl, sym, ap, subst}
use Rattle.std.proofs.Common.{ap₂, ◌∙◌, arith}
use Rattle.std.specs.Prelude.{not, ◌&&◌, ◌==◌, Option, Some, None, IsTrue, Result, Ok, Err}
use Rattle.std.proofs.lemmas.Bool.{and_parts}
use Rattle.sv_num.specs.declared.faults.Place.{Place}
use Rattle.sv_num.specs.declared.operators.BinOp.{BinOp}
use Rattle.sv_num.specs.declared.operators.BinOp.TheVariants.{Mul, Div, Rem, Add, Sub, Shl, Shr}
use Rattle.sv_num.specs.declared.operators.BinOp.TheVariants.{SignShl, SignShr, Lt, Le, Gt, Ge, Eq}
use Rattle.sv_num.specs.declared.operators.BinOp.TheVariants.{Ne, And, Xor, Xnor, Or, LogicAnd}
use Rattle.sv_num.specs.declared.operators.BinOp.TheVariants.{LogicOr}
use Rattle.sv_num.specs.declared.operators.UnOp.{UnOp}
use Rattle.sv_num.specs.declared.operators.OpClass.TheVariants.{Context}
use Rattle.sv_num.specs.UnaryValues.{gives_one_bit}
use Rattle.sv_num.specs.BinaryValues.{class_of, is_division}
use Rattle.sv_ast.specs.Scopes.{Binding, parameter, signal}
use Rattle.sv_ast.specs.Tree.{ExpressionTree, ExpressionTrees, literal, named, bit_of, part_of}
use Rattle.sv_ast.specs.Tree.{unary, binary, choice, join, replication, no_expressions}
use Rattle.sv_ast.specs.Tree.{more_expressions}
use Rattle.sv_ast.specs.Shape.{is_shaped_expression, are_shaped_parts, has_part}
use Rattle.sv_ast.specs.Values.{nowhere, length_of, joined_length, signed_of, value}
use Rattle.sv_ast.specs.Values.{natural, whole_number}
use Rattle.sv_ast.specs.GrammarModules.{place_of}
use Rattle.sv_flat.specs.Design as flat
use Rattle.sv_flat.specs.Design.{TypedTree, TypedTrees, NodeTree, typed}
use Rattle.sv_elab_rules.specs.Walks.{WalkStep, Steps, done, ask, then_walk, ◌>>=◌}
use Rattle.sv_elab_rules.specs.Rules.{zero_divisor}
use Rattle.sv_elab_rules.specs.Names.{Names}
use Rattle.sv_elab_rules.specs.TypedExpressions.{names_signal, left_length, left_signed}
use Rattle.sv_elab_rules.specs.TypedExpressions.{right_length, right_signed, named_node, typed_of}
use Rattle.sv_elab_rules.specs.TypedExpressions.{typed_parts}
use Rattle.sv_elab_rules.specs.ExpressionSteps.{divisors, part_divisors}
use Rattle.sv_width.specs.Agreement.{HaveLengths, IsLength, NumbersHaveLengths}
use Rattle.sv_width.specs.Agreement.{PartsHaveLengths}
use Rattle.sv_width.specs.Measured.{OwnForm, MeasuredTree, MeasuredTrees, own_form, own_of}
use Rattle.sv_width.specs.Measured.{measured_name, measured_of, measured_parts}
use Rattle.sv_width.specs.Measured as measured
use Rattle.sv_width.specs.Pushed.{folded_of, divisors_of, divisors_in, node_of}
use Rattle.sv_width.specs.Pushed.{nodes_in, left_at, left_as, right_at, right_as}
use Rattle.sv_width.proofs.Sound.{Sound, SoundParts}
use Rattle.sv_width.proofs.SameValue.{either, typed_reduction, typed_unary, typed_division}
use Rattle.sv_width.proofs.SameValue.{typed_binary, left_standing, right_standing}
use Rattle.sv_width.proofs.Lengths.{KnownIn, three_parts, own_length, open_place}
use Rattle.sv_width.proofs.WellFormed.{both_stand, kept_length}
use Rattle.sv_width.proofs.Constants.{own_measured, folded_same}

-- ---- walks with equal ends

ends_along : (p t : List WalkStep) (r u : Result (Unit {0}) WalkStep) (f g : Unit {0} → Steps)
    → r ≡ u
    → (f tt).end ≡ (g tt).end
    → (then_walk p r f).end ≡ (then_walk t u g).end
ends_along p t (Ok x) (Ok y) f g is h = h
ends_along p t (Ok x) (Err s) f g is h = absurd (cc is)
ends_along p t (Err s) (Ok y) f g is h = absurd (cc is)
ends_along p t (Err s) (Err u) f g is h = cc is

pub ends_same : (v w : Steps) (f g : Unit {0} → Steps) → v.end ≡ w.end → (f tt).end ≡ (g tt).end →
    (v >>= f).end ≡ (w >>= g).end
ends_same v w f g is h = ends_along v.passed w.passed v.end w.end f g is h

division_class : (op : BinOp) → is_division op ≡ true → class_of op ≡ Context
division_class Div h = refl
division_class Rem h = refl
division_class Mul h = absurd (cc h)
division_class Add h = absurd (cc h)
division_class Sub h = absurd (cc h)
division_class Shl h = absurd (cc h)
division_class Shr h = absurd (cc h)
division_class SignShl h = absurd (cc h)
division_class SignShr h = absurd (cc h)
division_class Lt h = absurd (cc h)
division_class Le h = absurd (cc h)
division_class Gt h = absurd (cc h)
division_class Ge h = absurd (cc h)
division_class Eq h = absurd (cc h)
division_class Ne h = absurd (cc h)
division_class And h = absurd (cc h)
division_class Xor h = absurd (cc h)
division_class Xnor h = absurd (cc h)
division_class Or h = absurd (cc h)
division_class LogicAnd h = absurd (cc h)
division_class LogicOr h = absurd (cc h)

-- a test that is asked only sometimes, of equal values there
asked_same : (d : Bool) (x y : ℕ) (s : WalkStep) → (d ≡ true → x ≡ y)
    → (elim d as (λ z. Steps) [ true ↦ ask (not (x == 0)) s | false ↦ done tt ]).end
    ≡ (elim d as (λ z. Steps) [ true ↦ ask (not (y == 0)) s | false ↦ done tt ]).end
asked_same true x y s h = ap (λ z. (ask (not (z == 0)) s).end) (h refl)
asked_same false x y s h = refl

chosen_ends : (d : Bool) (v w x y : Steps) → (d ≡ true → v.end ≡ x.end)
    → (d ≡ false → w.end ≡ y.end)
    → (elim d as (λ z. Steps) [ true ↦ v | false ↦ w ]).end ≡
    (elim d as (λ z. Steps) [ true ↦ x | false ↦ y ]).end
chosen_ends true v w x y p q = p refl
chosen_ends false v w x y p q = q refl

one_end : (d : Bool) (v x y : Steps) → (d ≡ true → v.end ≡ x.end) → (d ≡ false → v.end ≡ y.end)
    → v.end ≡ (elim d as (λ z. Steps) [ true ↦ x | false ↦ y ]).end
one_end true v x y p q = p refl
one_end false v x y p q = q refl

-- ---- nodes of operators

abbrev alone : MeasuredTree → TypedTree
alone m =
    typed (own_form m).width (own_form m).signed (node_of m (own_form m).width (own_form m).signed)

module _ (own : OwnForm) (n : ℕ) (s : Bool) where
  node_reduction : (op : UnOp) (m : MeasuredTree) → gives_one_bit op ≡ true →
      node_of (measured.unary own op m) n s ≡ flat.unary op (alone m)
  unfolding node_of nodes_in
  node_reduction op m h =
      subst (λ (x : Bool).
      elim x as (λ y. NodeTree) [
        | true ↦ flat.unary op (alone m)
        | false ↦
            flat.unary op (typed n s (node_of m n s))
      ]
      ≡ flat.unary op (alone m)) (sym h) refl

  node_unary : (op : UnOp) (m : MeasuredTree) → gives_one_bit op ≡ false →
      node_of (measured.unary own op m) n s ≡ flat.unary op (typed n s (node_of m n s))
  unfolding node_of nodes_in
  node_unary op m h =
      subst (λ (x : Bool).
      elim x as (λ y. NodeTree) [
        | true ↦ flat.unary op (alone m)
        | false ↦
            flat.unary op (typed n s (node_of m n s))
      ]
      ≡ flat.unary op (typed n s (node_of m n s))) (sym h) refl

  abbrev operated : BinOp → MeasuredTree → MeasuredTree → NodeTree
  operated op a b = flat.binary op
      (typed (left_at op n a b) (left_as op s a b)
      (node_of a (left_at op n a b) (left_as op s a b)))
      (typed (right_at op n a b) (right_as op s a b)
      (node_of b (right_at op n a b) (right_as op s a b)))

  node_division : (op : BinOp) (p : Place) (a b : MeasuredTree) → is_division op ≡ true
      → node_of (measured.binary own op p a b) n s ≡
      flat.constant (folded_of (measured.binary own op p a b) n s)
  unfolding node_of nodes_in
  node_division op p a b h =
      subst (λ (x : Bool).
      elim x as (λ y. NodeTree) [
        | true ↦
            flat.constant (folded_of (measured.binary own op p a b) n s)
        | false ↦ operated op a b
      ]
      ≡ flat.constant (folded_of (measured.binary own op p a b) n s)) (sym h) refl

  node_binary : (op : BinOp) (p : Place) (a b : MeasuredTree) → is_division op ≡ false
      → node_of (measured.binary own op p a b) n s ≡ operated op a b
  unfolding node_of nodes_in
  node_binary op p a b h =
      subst (λ (x : Bool).
      elim x as (λ y. NodeTree) [
        | true ↦
            flat.constant (folded_of (measured.binary own op p a b) n s)
        | false ↦ operated op a b
      ]
      ≡ operated op a b) (sym h) refl

named_typed : (own : OwnForm) (b : Option Binding) (k : ℕ) (p : Place) (n : ℕ) (s : Bool)
    → node_of (measured_name own b k p) n s ≡ named_node b k p n s
unfolding node_of nodes_in
named_typed own (Some (parameter v)) k p n s = refl
named_typed own (Some (signal w t)) k p n s = refl
named_typed own None k p n s = refl

named_divisors : (own : OwnForm) (b : Option Binding) (k : ℕ) (p : Place) (n : ℕ) (s : Bool)
    → (divisors_of (measured_name own b k p) n s).end ≡ Ok tt
unfolding divisors_of divisors_in
named_divisors own (Some (parameter v)) k p n s = refl
named_divisors own (Some (signal w t)) k p n s = refl
named_divisors own None k p n s = refl

module _ (names : Names) (lengths : HaveLengths names.scope) where
  mutual
    unfolding typed_of typed_parts measured_of measured_parts node_of nodes_in length_of
        joined_length Sound SoundParts

    -- typed forms are those of the source
    pub typed_same : (c : Bool) → KnownIn names c → (e : ExpressionTree) → Sound names c e
        → IsTrue (is_shaped_expression e) → NumbersHaveLengths e
        → (n : ℕ) (s : Bool) → length_of names.scope e ≤ n → IsLength n
        → typed n s (node_of (measured_of names e) n s) ≡ typed_of names e n s
    typed_same c known (literal l p) q shape numbers n s fits is = refl
    typed_same c known (named m p) q shape numbers n s fits is =
        ap (λ x. typed n s x)
        (named_typed (own_of names (named m p)) (names.scope m) (names.number m) p n s)
    typed_same c known (bit_of m p i) q shape numbers n s fits is =
        ap (λ t. typed n s (flat.read_bit (names.number m) p t))
        (ap (λ (o : OwnForm).
        typed o.width o.signed (node_of (measured_of names i) o.width o.signed))
        (own_measured names i)
        ∙ either (names_signal names.scope i)
        (λ h. typed_same false (λ e.
        known (open_place c q.1)) i (q.2 h) shape numbers (length_of names.scope i)
        (signed_of names.scope i) (omega arith)
        (own_length names lengths false (λ e. known (open_place c q.1)) i (q.2 h) shape numbers))
        (λ h. typed_same true (λ e.
        absurd (cc e)) i (q.3 h).0 shape numbers (length_of names.scope i)
        (signed_of names.scope i) (omega arith)
        (own_length names lengths true (λ e. absurd (cc e)) i (q.3 h).0 shape numbers)))
    typed_same c known (part_of m p h l) q shape numbers n s fits is = refl
    typed_same c known (unary op p e) q shape numbers n s fits is =
        let own = own_length names lengths c known e q shape numbers in
        either (gives_one_bit op)
        (λ h. ap (λ x. typed n s x)
        (node_reduction (own_of names (unary op p e)) n s op (measured_of names e) h)
        ∙ ap (λ t. typed n s (flat.unary op t))
        (ap (λ (o : OwnForm).
        typed o.width o.signed (node_of (measured_of names e) o.width o.signed))
        (own_measured names e)
        ∙ typed_same c known e q shape numbers (length_of names.scope e) (signed_of names.scope e)
        (omega arith) own)
        ∙ sym (typed_reduction names p n s op e h))
        (λ h. ap (λ x. typed n s x)
        (node_unary (own_of names (unary op p e)) n s op (measured_of names e) h)
        ∙ ap (λ t. typed n s (flat.unary op t))
        (typed_same c known e q shape numbers n s
        (kept_length op (length_of names.scope e) n h fits) is)
        ∙ sym (typed_unary names p n s op e h))
    typed_same c known (binary op p a b) q shape numbers n s fits is =
        let shapes = and_parts (is_shaped_expression a) (is_shaped_expression b) shape in
        let l = left_standing names op a b n s in
        let r = right_standing names op a b n s in
        let stand = both_stand names lengths c known op a b (q.0, q.1) shapes numbers n s fits is in
        let A : MeasuredTree = measured_of names a in
        let B : MeasuredTree = measured_of names b in
        either (is_division op)
        (λ h. ap (λ x. typed n s x)
        (node_division (own_of names (binary op p a b)) n s op (place_of b) A B h)
        ∙ ap (λ x. typed n s (flat.constant x))
        (folded_same names lengths c known (binary op p a b) q shape numbers n s fits is)
        ∙ sym (typed_division names p n s op a b h))
        (λ h. ap (λ x. typed n s x)
        (node_binary (own_of names (binary op p a b)) n s op (place_of b) A B h)
        ∙ ap₂ (λ (x y : OwnForm). typed n s (flat.binary op
        (typed (left_length (class_of op) n x.width y.width)
        (left_signed (class_of op) s x.signed y.signed)
        (node_of A (left_length (class_of op) n x.width y.width)
        (left_signed (class_of op) s x.signed y.signed)))
        (typed (right_length (class_of op) n x.width y.width)
        (right_signed (class_of op) s x.signed y.signed)
        (node_of B (right_length (class_of op) n x.width y.width)
        (right_signed (class_of op) s x.signed y.signed)))))
        (own_measured names a) (own_measured names b)
        ∙ ap (λ t. typed n s
        (flat.binary op t (typed r.length r.signed (node_of B r.length r.signed))))
        (typed_same c known a q.0 shapes.0 numbers.0 l.length l.signed stand.1 stand.0)
        ∙ ap (λ t. typed n s (flat.binary op (typed_of names a l.length l.signed) t))
        (typed_same c known b q.1 shapes.1 numbers.1 r.length r.signed stand.3 stand.2)
        ∙ sym (typed_binary names p n s op a b h))
    typed_same c known (choice p d a b) q shape numbers n s fits is =
        let shapes = three_parts (is_shaped_expression d) (is_shaped_expression a)
        (is_shaped_expression b) shape in
        let own = own_length names lengths c known d q.0 shapes.0 numbers.0 in
        let left : length_of names.scope a ≤ n = omega arith in
        let right : length_of names.scope b ≤ n = omega arith in
        ap (λ t. typed n s (flat.choice p t (typed n s (node_of (measured_of names a) n s))
        (typed n s (node_of (measured_of names b) n s))))
        (ap (λ (o : OwnForm).
        typed o.width o.signed (node_of (measured_of names d) o.width o.signed))
        (own_measured names d)
        ∙ typed_same c known d q.0 shapes.0 numbers.0 (length_of names.scope d)
        (signed_of names.scope d) (omega arith) own)
        ∙ ap (λ t. typed n s
        (flat.choice p (typed_of names d (length_of names.scope d) (signed_of names.scope d)) t
        (typed n s (node_of (measured_of names b) n s))))
        (typed_same c known a q.1 shapes.1 numbers.1 n s left is)
        ∙ ap (λ t. typed n s
        (flat.choice p (typed_of names d (length_of names.scope d) (signed_of names.scope d))
        (typed_of names a n s) t))
        (typed_same c known b q.2 shapes.2 numbers.2 n s right is)
    typed_same c known (join p es) q shape numbers n s fits is =
        let shapes = and_parts (has_part es) (are_shaped_parts es) shape in
        ap (λ t. typed n s (flat.join t)) (parts_same c known es q.0 shapes.1 numbers)
    typed_same c known (replication p k es) q shape numbers n s fits is =
        let outer = and_parts (is_shaped_expression k && has_part es) (are_shaped_parts es) shape in
        ap (λ t. typed n s (flat.replication (natural (whole_number names.scope k)) t))
        (parts_same c known es q.2 outer.1 numbers.1)

    pub parts_same : (c : Bool) → KnownIn names c → (es : ExpressionTrees) → SoundParts names c es
        → IsTrue (are_shaped_parts es) → PartsHaveLengths es
        → nodes_in (measured_parts names es) ≡ typed_parts names es
    parts_same c known no_expressions q shape numbers = refl
    parts_same c known (more_expressions e es) q shape numbers =
        let shapes = and_parts (is_shaped_expression e) (are_shaped_parts es) shape in
        let own = own_length names lengths c known e q.0 shapes.0 numbers.0 in
        ap (λ t. flat.more_parts t (nodes_in (measured_parts names es)))
        (ap (λ (o : OwnForm).
        typed o.width o.signed (node_of (measured_of names e) o.width o.signed))
        (own_measured names e)
        ∙ typed_same c known e q.0 shapes.0 numbers.0 (length_of names.scope e)
        (signed_of names.scope e) (omega arith) own)
        ∙ ap (λ t. flat.more_parts
        (typed_of names e (length_of names.scope e) (signed_of names.scope e)) t)
        (parts_same c known es q.1 shapes.1 numbers.1)

  mutual
    unfolding divisors part_divisors measured_of measured_parts divisors_of divisors_in length_of
        joined_length Sound SoundParts

    -- what is asked is what the source is asked
    pub divisors_same : (c : Bool) → KnownIn names c → (e : ExpressionTree) → Sound names c e
        → IsTrue (is_shaped_expression e) → NumbersHaveLengths e
        → (n : ℕ) (s : Bool) → length_of names.scope e ≤ n → IsLength n
        → (divisors_of (measured_of names e) n s).end ≡ (divisors names.scope e n s).end
    divisors_same c known (literal l p) q shape numbers n s fits is = refl
    divisors_same c known (named m p) q shape numbers n s fits is =
        named_divisors (own_of names (named m p)) (names.scope m) (names.number m) p n s
    divisors_same c known (bit_of m p i) q shape numbers n s fits is =
        ap (λ (o : OwnForm). (divisors_of (measured_of names i) o.width o.signed).end)
        (own_measured names i)
        ∙ one_end (names_signal names.scope i)
        (divisors_of (measured_of names i) (length_of names.scope i) (signed_of names.scope i))
        (divisors names.scope i (length_of names.scope i) (signed_of names.scope i)) (done tt)
        (λ h. divisors_same false (λ e.
        known (open_place c q.1)) i (q.2 h) shape numbers (length_of names.scope i)
        (signed_of names.scope i) (omega arith)
        (own_length names lengths false (λ e. known (open_place c q.1)) i (q.2 h) shape numbers))
        (λ h. divisors_same true (λ e.
        absurd (cc e)) i (q.3 h).0 shape numbers (length_of names.scope i)
        (signed_of names.scope i) (omega arith)
        (own_length names lengths true (λ e. absurd (cc e)) i (q.3 h).0 shape numbers)
        ∙ (q.3 h).1)
    divisors_same c known (part_of m p h l) q shape numbers n s fits is = refl
    divisors_same c known (unary op p e) q shape numbers n s fits is =
        let own = own_length names lengths c known e q shape numbers in
        let M : MeasuredTree = measured_of names e in
        chosen_ends (gives_one_bit op) (divisors_of M (own_form M).width (own_form M).signed)
        (divisors_of M n s)
        (divisors names.scope e (length_of names.scope e) (signed_of names.scope e))
        (divisors names.scope e n s)
        (λ h. ap (λ (o : OwnForm). (divisors_of M o.width o.signed).end) (own_measured names e)
        ∙ divisors_same c known e q shape numbers (length_of names.scope e)
        (signed_of names.scope e)
        (omega arith) own)
        (λ h. divisors_same c known e q shape numbers n s
        (kept_length op (length_of names.scope e) n h fits) is)
    divisors_same c known (binary op p a b) q shape numbers n s fits is =
        let shapes = and_parts (is_shaped_expression a) (is_shaped_expression b) shape in
        let l = left_standing names op a b n s in
        let r = right_standing names op a b n s in
        let stand = both_stand names lengths c known op a b (q.0, q.1) shapes numbers n s fits is in
        let A : MeasuredTree = measured_of names a in
        let B : MeasuredTree = measured_of names b in
        let lefts : left_at op n A B ≡ l.length =
        ap₂ (λ (x y : OwnForm). left_length (class_of op) n x.width y.width)
        (own_measured names a) (own_measured names b) in
        let left_signs : left_as op s A B ≡ l.signed =
        ap₂ (λ (x y : OwnForm). left_signed (class_of op) s x.signed y.signed)
        (own_measured names a) (own_measured names b) in
        let rights : right_at op n A B ≡ r.length =
        ap₂ (λ (x y : OwnForm). right_length (class_of op) n x.width y.width)
        (own_measured names a) (own_measured names b) in
        let right_signs : right_as op s A B ≡ r.signed =
        ap₂ (λ (x y : OwnForm). right_signed (class_of op) s x.signed y.signed)
        (own_measured names a) (own_measured names b) in
        ends_same (divisors_of A (left_at op n A B) (left_as op s A B))
        (divisors names.scope a l.length l.signed) _ _
        (ap (λ x. (divisors_of A x (left_as op s A B)).end) lefts
        ∙ ap (λ x. (divisors_of A l.length x).end) left_signs
        ∙ divisors_same c known a q.0 shapes.0 numbers.0 l.length l.signed stand.1 stand.0)
        (ends_same (divisors_of B (right_at op n A B) (right_as op s A B))
        (divisors names.scope b r.length r.signed) _ _
        (ap (λ x. (divisors_of B x (right_as op s A B)).end) rights
        ∙ ap (λ x. (divisors_of B r.length x).end) right_signs
        ∙ divisors_same c known b q.1 shapes.1 numbers.1 r.length r.signed stand.3 stand.2)
        (asked_same (is_division op) (folded_of B (right_at op n A B) (right_as op s A B))
        (value names.scope nowhere b n s) (zero_divisor (place_of b))
        (λ h. ap (λ x. folded_of B x (right_as op s A B)) rights
        ∙ ap (λ x. folded_of B r.length x) right_signs
        ∙ folded_same names lengths c known b q.1 shapes.1 numbers.1 r.length r.signed stand.3
        stand.2
        ∙ ap (λ k. value names.scope nowhere b
        (right_length k n (length_of names.scope a) (length_of names.scope b))
        (right_signed k s (signed_of names.scope a) (signed_of names.scope b)))
        (division_class op h))))
    divisors_same c known (choice p d a b) q shape numbers n s fits is =
        let shapes = three_parts (is_shaped_expression d) (is_shaped_expression a)
        (is_shaped_expression b) shape in
        let own = own_length names lengths c known d q.0 shapes.0 numbers.0 in
        let D : MeasuredTree = measured_of names d in
        let left : length_of names.scope a ≤ n = omega arith in
        let right : length_of names.scope b ≤ n = omega arith in
        ends_same (divisors_of D (own_form D).width (own_form D).signed)
        (divisors names.scope d (length_of names.scope d) (signed_of names.scope d)) _ _
        (ap (λ (o : OwnForm). (divisors_of D o.width o.signed).end) (own_measured names d)
        ∙ divisors_same c known d q.0 shapes.0 numbers.0 (length_of names.scope d)
        (signed_of names.scope d) (omega arith) own)
        (ends_same (divisors_of (measured_of names a) n s) (divisors names.scope a n s) _ _
        (divisors_same c known a q.1 shapes.1 numbers.1 n s left is)
        (divisors_same c known b q.2 shapes.2 numbers.2 n s right is))
    divisors_same c known (join p es) q shape numbers n s fits is =
        let shapes = and_parts (has_part es) (are_shaped_parts es) shape in
        part_divisors_same c known es q.0 shapes.1 numbers
    divisors_same c known (replication p k es) q shape numbers n s fits is =
        let outer = and_parts (is_shaped_expression k && has_part es) (are_shaped_parts es) shape in
        part_divisors_same c known es q.2 outer.1 numbers.1

    pub part_divisors_same : (c : Bool) → KnownIn names c → (es : ExpressionTrees)
        → SoundParts names c es → IsTrue (are_shaped_parts es) → PartsHaveLengths es
        → (divisors_in (measured_parts names es)).end ≡ (part_divisors names.scope es).end
    part_divisors_same c known no_expressions q shape numbers = refl
    part_divisors_same c known (more_expressions e es) q shape numbers =
        let shapes = and_parts (is_shaped_expression e) (are_shaped_parts es) shape in
        let own = own_length names lengths c known e q.0 shapes.0 numbers.0 in
        let M : MeasuredTree = measured_of names e in
        ends_same (divisors_of M (own_form M).width (own_form M).signed)
        (divisors names.scope e (length_of names.scope e) (signed_of names.scope e)) _ _
        (ap (λ (o : OwnForm). (divisors_of M o.width o.signed).end) (own_measured names e)
        ∙ divisors_same c known e q.0 shapes.0 numbers.0 (length_of names.scope e)
        (signed_of names.scope e) (omega arith) own)
        (part_divisors_same c known es q.1 shapes.1 numbers.1)
