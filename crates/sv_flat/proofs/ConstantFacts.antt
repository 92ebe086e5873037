-- An expression that names no signal is well formed among any signals, where it is among some, and
-- has one value among all of them, whatever their values are.
use Rattle.std.proofs.Common.{◌≡◌, ℕ, ◌*◌, ◌+◌, ◌^◌, Bool, cond, ◌&&◌, not, List, refl, ap, ap₂, ◌∙◌}
use Rattle.std.specs.Prelude.{IsTrue, nat_le}
use Rattle.std.proofs.lemmas.Bool.{false≢true}
use Rattle.sv_num.specs.Vectors.{as_number, is_true}
use Rattle.sv_num.specs.Parts.{repeated, bits_between}
use Rattle.sv_num.specs.UnaryValues.{unary_value}
use Rattle.sv_num.specs.BinaryValues.{binary_value, class_of, is_division}
use Rattle.sv_system.specs.System.{Environment}
use Rattle.sv_flat.specs.Design.{SignalForm, TypedTree, typed, NodeTree, constant, read, read_bit}
use Rattle.sv_flat.specs.Design.{read_part, unary, binary, choice, join, replication, held}
use Rattle.sv_flat.specs.Design.{held_bit, held_part, mend, slice, TypedTrees, no_parts, more_parts}
use Rattle.sv_flat.specs.Values.{expression_width, expression_signed, parts_width, value, node_value}
use Rattle.sv_flat.specs.Values.{joined, number_of}
use Rattle.sv_flat.specs.Soundness.{is_one_to, has_type, is_part_of, unary_typed, binary_typed}
use Rattle.sv_flat.specs.Soundness.{well_formed, node_well_formed, parts_well_formed}
use Rattle.sv_flat.specs.Readings.{is_constant, is_constant_node, are_constant}
use Rattle.sv_flat.proofs.AdmittedFacts.{and_true}
use Rattle.sv_flat.proofs.Depths.{first_of, second_of}

module _ (signals others : List SignalForm) where
  mutual
    pub constant_formed : (t : TypedTree) → IsTrue (is_constant t) →
        IsTrue (well_formed signals t) → IsTrue (well_formed others t)
    constant_formed (typed w s node) c h =
        and_true (is_one_to 64 w) (node_well_formed others w s node)
        (first_of (is_one_to 64 w) (node_well_formed signals w s node) h)
        (node_formed node w s c (second_of (is_one_to 64 w) (node_well_formed signals w s node) h))

    node_formed : (node : NodeTree) (w : ℕ) (s : Bool) → IsTrue (is_constant_node node) →
        IsTrue (node_well_formed signals w s node) → IsTrue (node_well_formed others w s node)
    node_formed (constant n) w s c h = h
    node_formed (read t p) w s c h = absurd (false≢true c)
    node_formed (read_bit t p i) w s c h = absurd (false≢true c)
    node_formed (read_part t p high low) w s c h = absurd (false≢true c)
    node_formed (unary op a) w s c h =
        and_true (unary_typed op w s a) (well_formed others a)
        (first_of (unary_typed op w s a) (well_formed signals a) h)
        (constant_formed a c (second_of (unary_typed op w s a) (well_formed signals a) h))
    node_formed (binary op a b) w s c h =
        let front = not (is_division op) && binary_typed (class_of op) w s a b in
        let three = first_of (front && well_formed signals a) (well_formed signals b) h in
        and_true (front && well_formed others a) (well_formed others b)
        (and_true front (well_formed others a) (first_of front (well_formed signals a) three)
        (constant_formed a (first_of (is_constant a) (is_constant b) c)
        (second_of front (well_formed signals a) three)))
        (constant_formed b (second_of (is_constant a) (is_constant b) c)
        (second_of (front && well_formed signals a) (well_formed signals b) h))
    node_formed (choice p k a b) w s c h =
        let types = has_type w s a && has_type w s b in
        let fk = well_formed signals k in
        let fa = well_formed signals a in
        let fb = well_formed signals b in
        let four = first_of (types && fk && fa) fb h in
        let three = first_of (types && fk) fa four in
        let both = first_of (is_constant k && is_constant a) (is_constant b) c in
        and_true (types && well_formed others k && well_formed others a) (well_formed others b)
        (and_true (types && well_formed others k) (well_formed others a)
        (and_true types (well_formed others k) (first_of types fk three)
        (constant_formed k (first_of (is_constant k) (is_constant a) both)
        (second_of types fk three)))
        (constant_formed a (second_of (is_constant k) (is_constant a) both)
        (second_of (types && fk) fa four)))
        (constant_formed b (second_of (is_constant k && is_constant a) (is_constant b) c)
        (second_of (types && fk && fa) fb h))
    node_formed (join es) w s c h =
        let few = nat_le (parts_width es) w in
        and_true few (parts_well_formed others es) (first_of few (parts_well_formed signals es) h)
        (parts_formed es c (second_of few (parts_well_formed signals es) h))
    node_formed (replication count es) w s c h =
        let few = is_one_to 64 count && nat_le (count * parts_width es) w in
        and_true few (parts_well_formed others es) (first_of few (parts_well_formed signals es) h)
        (parts_formed es c (second_of few (parts_well_formed signals es) h))
    node_formed (held t a) w s c h = absurd (false≢true c)
    node_formed (held_bit t p a i) w s c h = absurd (false≢true c)
    node_formed (held_part t p a high low) w s c h = absurd (false≢true c)
    node_formed (mend t a high low piece) w s c h = absurd (false≢true c)
    node_formed (slice a high low) w s c h =
        let part = is_part_of (expression_width a) w high low in
        and_true part (well_formed others a) (first_of part (well_formed signals a) h)
        (constant_formed a c (second_of part (well_formed signals a) h))

    parts_formed : (es : TypedTrees) → IsTrue (are_constant es) →
        IsTrue (parts_well_formed signals es) → IsTrue (parts_well_formed others es)
    parts_formed no_parts c h = h
    parts_formed (more_parts a es) c h =
        and_true (well_formed others a) (parts_well_formed others es)
        (constant_formed a (first_of (is_constant a) (are_constant es) c)
        (first_of (well_formed signals a) (parts_well_formed signals es) h))
        (parts_formed es (second_of (is_constant a) (are_constant es) c)
        (second_of (well_formed signals a) (parts_well_formed signals es) h))

module _ (signals others : List SignalForm) (e f : Environment ℕ) where
  mutual
    pub constant_value : (t : TypedTree) → IsTrue (is_constant t) →
        value signals e t ≡ value others f t
    constant_value (typed w s node) h = constant_node node w s h

    constant_node : (node : NodeTree) (w : ℕ) (s : Bool) → IsTrue (is_constant_node node) →
        node_value signals e w s node ≡ node_value others f w s node
    constant_node (constant n) w s h = refl
    constant_node (read t p) w s h = absurd (false≢true h)
    constant_node (read_bit t p i) w s h = absurd (false≢true h)
    constant_node (read_part t p high low) w s h = absurd (false≢true h)
    constant_node (unary op a) w s h =
        ap (unary_value op (expression_width a) (expression_signed a)) (constant_value a h)
    constant_node (binary op a b) w s h =
        ap₂ (binary_value op (expression_width a) (expression_signed a))
        (constant_value a (first_of (is_constant a) (is_constant b) h))
        (constant_value b (second_of (is_constant a) (is_constant b) h))
    constant_node (choice p c a b) w s h =
        let both = first_of (is_constant c && is_constant a) (is_constant b) h in
        ap (λ z. cond (is_true z) (value signals e a) (value signals e b))
        (constant_value c (first_of (is_constant c) (is_constant a) both))
        ∙ ap₂ (cond (is_true (value others f c)))
        (constant_value a (second_of (is_constant c) (is_constant a) both))
        (constant_value b (second_of (is_constant c && is_constant a) (is_constant b) h))
    constant_node (join es) w s h = constant_parts es h
    constant_node (replication count es) w s h =
        ap (repeated count (parts_width es)) (constant_parts es h)
    constant_node (held t a) w s h = absurd (false≢true h)
    constant_node (held_bit t p a i) w s h = absurd (false≢true h)
    constant_node (held_part t p a high low) w s h = absurd (false≢true h)
    constant_node (mend t a high low piece) w s h = absurd (false≢true h)
    constant_node (slice a high low) w s h = ap (bits_between high low) (constant_value a h)

    constant_parts : (es : TypedTrees) → IsTrue (are_constant es) →
        joined signals e es ≡ joined others f es
    constant_parts no_parts h = refl
    constant_parts (more_parts a es) h =
        ap₂ (λ x y. x * 2 ^ parts_width es + y)
        (constant_value a (first_of (is_constant a) (are_constant es) h))
        (constant_parts es (second_of (is_constant a) (are_constant es) h))

  pub constant_number : (t : TypedTree) → IsTrue (is_constant t) →
      number_of signals e t ≡ number_of others f t
  constant_number (typed w s node) h = ap (as_number w s) (constant_node node w s h)
