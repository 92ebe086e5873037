-- The size of an expression hangs on the widths of the signals alone that it may name.
use Rattle.std.proofs.Common.{◌≡◌, ℕ, ◌+◌, ◌*◌, ◌&&◌, not, nat_le, refl, ap, ap₂, ◌∙◌, List, Bool}
use Rattle.std.specs.Prelude.{IsTrue}
use Rattle.sv_num.specs.BinaryValues.{class_of, is_division}
use Rattle.sv_flat.specs.Design.{SignalForm, TypedTree, typed, NodeTree, constant, read, read_bit}
use Rattle.sv_flat.specs.Design.{read_part, unary, binary, choice, join, replication, held}
use Rattle.sv_flat.specs.Design.{held_bit, held_part, mend, slice, TypedTrees, no_parts, more_parts}
use Rattle.sv_flat.specs.Soundness.{is_one_to, is_signal, has_type, is_part_of, unary_typed}
use Rattle.sv_flat.specs.Soundness.{binary_typed, well_formed, node_well_formed, parts_well_formed}
use Rattle.sv_flat.specs.Values.{signal_width, expression_width, parts_width}
use Rattle.sv_flat.proofs.Depths.{first_of, second_of}
use Rattle.sv_encoding.specs.Sizes.{index_size, operand_size, binary_size, unary_size, chain_size}
use Rattle.sv_encoding.specs.Sizes.{expression_size, node_size, parts_size}

module _ (A B : List SignalForm)
    (same : (t : ℕ) → IsTrue (is_signal A t) → signal_width B t ≡ signal_width A t) where
  mutual
    pub size_same : (e : TypedTree) → IsTrue (well_formed A e) →
        expression_size B e ≡ expression_size A e
    size_same (typed w s node) h =
        node_same node w s (second_of (is_one_to 64 w) (node_well_formed A w s node) h)

    node_same : (node : NodeTree) (w : ℕ) (s : Bool) → IsTrue (node_well_formed A w s node) →
        node_size B node ≡ node_size A node
    node_same (constant n) w s h = refl
    node_same (read t p) w s h = refl
    node_same (read_bit t p i) w s h =
        ap₂ (λ n own. index_size n i own)
        (same t (first_of (is_signal A t) (well_formed A i) h))
        (size_same i (second_of (is_signal A t) (well_formed A i) h))
    node_same (read_part t p high low) w s h = refl
    node_same (unary op a) w s h =
        ap (λ n. n + unary_size op (expression_width a))
        (size_same a (second_of (unary_typed op w s a) (well_formed A a) h))
    node_same (binary op a b) w s h =
        let types = not (is_division op) && binary_typed (class_of op) w s a b in
        let front = first_of (types && well_formed A a) (well_formed A b) h in
        ap₂ (λ m n. m + operand_size (class_of op) (expression_width a) + n
        + operand_size (class_of op) (expression_width b)
        + binary_size op (expression_width a) (expression_width b))
        (size_same a (second_of types (well_formed A a) front))
        (size_same b (second_of (types && well_formed A a) (well_formed A b) h))
    node_same (choice p c a b) w s h =
        let types = has_type w s a && has_type w s b in
        let h1 = first_of (types && well_formed A c && well_formed A a) (well_formed A b) h in
        let h2 = first_of (types && well_formed A c) (well_formed A a) h1 in
        ap₂ (λ k l. k + chain_size (expression_width c) + l + expression_size B b
        + expression_width a)
        (size_same c (second_of types (well_formed A c) h2))
        (size_same a (second_of (types && well_formed A c) (well_formed A a) h1))
        ∙ ap (λ l. expression_size A c + chain_size (expression_width c) + expression_size A a + l
        + expression_width a)
        (size_same b (second_of (types && well_formed A c && well_formed A a) (well_formed A b) h))
    node_same (join es) w s h =
        parts_same es (second_of (nat_le (parts_width es) w) (parts_well_formed A es) h)
    node_same (replication count es) w s h =
        parts_same es (second_of (is_one_to 64 count && nat_le (count * parts_width es) w)
        (parts_well_formed A es) h)
    node_same (held t e) w s h =
        size_same e (second_of (is_signal A t && nat_le (signal_width A t) w) (well_formed A e) h)
    node_same (held_bit t p e i) w s h =
        let front = first_of (is_signal A t && well_formed A e) (well_formed A i) h in
        ap₂ ◌+◌ (size_same e (second_of (is_signal A t) (well_formed A e) front))
        (ap₂ (λ n own. index_size n i own)
        (same t (first_of (is_signal A t) (well_formed A e) front))
        (size_same i (second_of (is_signal A t && well_formed A e) (well_formed A i) h)))
    node_same (held_part t p e high low) w s h =
        size_same e (second_of (is_signal A t && is_part_of (signal_width A t) w high low)
        (well_formed A e) h)
    node_same (mend t e high low piece) w s h =
        let front = is_signal A t && nat_le (signal_width A t) w
        && is_part_of (signal_width A t) (expression_width piece) high low in
        let h1 = first_of (front && well_formed A e) (well_formed A piece) h in
        ap₂ ◌+◌ (size_same e (second_of front (well_formed A e) h1))
        (size_same piece (second_of (front && well_formed A e) (well_formed A piece) h))
    node_same (slice e high low) w s h =
        size_same e (second_of (is_part_of (expression_width e) w high low) (well_formed A e) h)

    parts_same : (es : TypedTrees) → IsTrue (parts_well_formed A es) →
        parts_size B es ≡ parts_size A es
    parts_same no_parts h = refl
    parts_same (more_parts e es) h =
        ap₂ ◌+◌ (size_same e (first_of (well_formed A e) (parts_well_formed A es) h))
        (parts_same es (second_of (well_formed A e) (parts_well_formed A es) h))
