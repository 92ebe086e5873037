-- The typed form of an expression has at most as many nodes as its source.
use Rattle.std.proofs.Common.{◌≡◌, ℕ, ◌≤◌, Bool, Option, Some, None, sym, subst, arith}
use Rattle.sv_num.specs.declared.faults.Place.{Place}
use Rattle.sv_num.specs.UnaryValues.{gives_one_bit}
use Rattle.sv_num.specs.BinaryValues.{class_of, is_division}
use Rattle.sv_ast.specs.Scopes.{Binding, parameter, signal}
use Rattle.sv_ast.specs.Tree.{ExpressionTree, literal, named, bit_of, part_of, unary, binary}
use Rattle.sv_ast.specs.Tree.{choice, join, replication}
use Rattle.sv_ast.specs.Tree.{ExpressionTrees, no_expressions, more_expressions}
use Rattle.sv_ast.specs.Values.{length_of, signed_of}
use Rattle.sv_flat.specs.Design.{TypedTree, typed}
use Rattle.sv_elab_rules.specs.Names.{Names}
use Rattle.sv_elab_rules.specs.TypedExpressions.{named_node, typed_of, typed_parts}
use Rattle.sv_elab_rules.specs.TypedExpressions.{left_length, right_length, left_signed, right_signed}
use Rattle.sv_width.proofs.SameValue.{either, typed_reduction, typed_unary, typed_division}
use Rattle.sv_width.proofs.SameValue.{typed_binary}
use Rattle.sv_obl.specs.Nodes.{nodes_in, nodes_in_parts}
use Rattle.sv_run_laws.specs.Sizes.{source_nodes, all_source_nodes}

same_size : {t u : TypedTree} {limit : ℕ} → t ≡ u → nodes_in u ≤ limit → nodes_in t ≤ limit
same_size {limit = limit} is h = subst (λ (x : TypedTree). nodes_in x ≤ limit) (sym is) h

module _ (names : Names) where
  named_small : (b : Option Binding) (k : ℕ) (p : Place) (n : ℕ) (s : Bool) →
      nodes_in (typed n s (named_node b k p n s)) ≤ 1
  named_small (Some (parameter v)) k p n s = omega arith
  named_small (Some (signal width signed)) k p n s = omega arith
  named_small None k p n s = omega arith

  mutual
    unfolding typed_of typed_parts source_nodes all_source_nodes

    pub typed_no_larger : (e : ExpressionTree) (n : ℕ) (s : Bool) →
        nodes_in (typed_of names e n s) ≤ source_nodes e
    typed_no_larger (literal l p) n s = omega arith
    typed_no_larger (named m p) n s = named_small (names.scope m) (names.number m) p n s
    typed_no_larger (bit_of m p i) n s =
        let h = typed_no_larger i (length_of names.scope i) (signed_of names.scope i) in omega arith
    typed_no_larger (part_of m p h l) n s = omega arith
    typed_no_larger (unary op p e) n s = either (gives_one_bit op)
        (λ h. same_size (typed_reduction names p n s op e h)
        (let k = typed_no_larger e (length_of names.scope e) (signed_of names.scope e) in
        omega arith))
        (λ h. same_size (typed_unary names p n s op e h)
        (let k = typed_no_larger e n s in omega arith))
    typed_no_larger (binary op p a b) n s =
        let x = typed_no_larger a
        (left_length (class_of op) n (length_of names.scope a) (length_of names.scope b))
        (left_signed (class_of op) s (signed_of names.scope a) (signed_of names.scope b)) in
        let y = typed_no_larger b
        (right_length (class_of op) n (length_of names.scope a) (length_of names.scope b))
        (right_signed (class_of op) s (signed_of names.scope a) (signed_of names.scope b)) in
        either (is_division op)
        (λ h. same_size (typed_division names p n s op a b h) (omega arith))
        (λ h. same_size (typed_binary names p n s op a b h) (omega arith))
    typed_no_larger (choice p c a b) n s =
        let x = typed_no_larger c (length_of names.scope c) (signed_of names.scope c) in
        let y = typed_no_larger a n s in
        let z = typed_no_larger b n s in
        omega arith
    typed_no_larger (join p es) n s = let h = parts_no_larger es in omega arith
    typed_no_larger (replication p k es) n s = let h = parts_no_larger es in omega arith

    parts_no_larger : (es : ExpressionTrees) →
        nodes_in_parts (typed_parts names es) ≤ all_source_nodes es
    parts_no_larger no_expressions = omega arith
    parts_no_larger (more_expressions e es) =
        let h = typed_no_larger e (length_of names.scope e) (signed_of names.scope e) in
        let k = parts_no_larger es in
        omega arith
