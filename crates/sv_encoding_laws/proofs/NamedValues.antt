-- What an expression names decides its value; and what is read is what is named.
use Rattle.std.proofs.Common.{◌≡◌, ℕ, ◌+◌, ◌*◌, ◌^◌, ◌%◌, Bool, cond, List, [], ◌∷◌, ◌++◌, refl}
use Rattle.std.proofs.Common.{ap, ap₂, ◌∙◌, subst}
use Rattle.std.specs.Prelude.{Contains, ℤ, pos, negsuc, true, false}
use Rattle.sv_num.specs.declared.faults.Place.{Place}
use Rattle.sv_num.specs.Vectors.{as_number, is_true}
use Rattle.sv_num.specs.Parts.{extended, repeated, bits_between, bit_or_zero, replaced_bits}
use Rattle.sv_num.specs.UnaryValues.{unary_value}
use Rattle.sv_num.specs.BinaryValues.{binary_value}
use Rattle.sv_system.specs.System.{Environment}
use Rattle.sv_system.proofs.Lists.{Contains-head, Contains-later}
use Rattle.sv_flat.specs.Design.{SignalForm, TypedTree, typed, NodeTree, constant, read, read_bit}
use Rattle.sv_flat.specs.Design.{read_part, unary, binary, choice, join, replication, held}
use Rattle.sv_flat.specs.Design.{held_bit, held_part, mend, slice, TypedTrees, no_parts, more_parts}
use Rattle.sv_flat.specs.Values.{signal_width, expression_width, expression_signed, parts_width, value}
use Rattle.sv_flat.specs.Values.{node_value, joined, number_of, cut_value}
use Rattle.sv_flat.specs.Readings.{ReadForm, reads, node_reads, parts_reads, indexed_read, is_constant}
use Rattle.sv_flat.specs.Readings.{bit_read, whole_read}
use Rattle.sv_flat.proofs.Members.{Contains-left, Contains-right}
use Rattle.sv_encoding_laws.proofs.ExpressionLaws.{Named, NamedNode, NamedParts}

-- ---- environments that agree on what is named

module _ (signals : List SignalForm) (e f : Environment ℕ) where
  abbrev Agree : ℕ → Type 0
  Agree s = e s ≡ f s

  mutual
    pub named_value : (t : TypedTree) → Named Agree t → value signals e t ≡ value signals f t
    named_value (typed w s node) h = named_node node w s h

    named_node : (node : NodeTree) (w : ℕ) (s : Bool) → NamedNode Agree node →
        node_value signals e w s node ≡ node_value signals f w s node
    named_node (constant n) w s h = refl
    named_node (read t p) w s h = ap (extended s (signal_width signals t) w) h
    named_node (read_bit t p i) w s h =
        ap₂ (bit_or_zero (signal_width signals t)) h.0 (named_number i h.1)
    named_node (read_part t p high low) w s h = ap (bits_between high low) h
    named_node (unary op a) w s h =
        ap (unary_value op (expression_width a) (expression_signed a)) (named_value a h)
    named_node (binary op a b) w s h =
        ap₂ (binary_value op (expression_width a) (expression_signed a)) (named_value a h.0)
        (named_value b h.1)
    named_node (choice p c a b) w s h =
        ap (λ z. cond (is_true z) (value signals e a) (value signals e b)) (named_value c h.0)
        ∙ ap₂ (cond (is_true (value signals f c))) (named_value a h.1.0) (named_value b h.1.1)
    named_node (join es) w s h = named_parts es h
    named_node (replication count es) w s h = ap (repeated count (parts_width es)) (named_parts es h)
    named_node (held t a) w s h = ap (extended s (signal_width signals t) w) (named_cut t a h)
    named_node (held_bit t p a i) w s h =
        ap₂ (bit_or_zero (signal_width signals t)) (named_cut t a h.0) (named_number i h.1)
    named_node (held_part t p a high low) w s h = ap (bits_between high low) (named_cut t a h)
    named_node (mend t a high low piece) w s h =
        ap (extended s (signal_width signals t) w)
        (ap₂ (replaced_bits (signal_width signals t) high low) (named_value a h.0)
        (named_value piece h.1))
    named_node (slice a high low) w s h = ap (bits_between high low) (named_value a h)

    named_parts : (es : TypedTrees) → NamedParts Agree es →
        joined signals e es ≡ joined signals f es
    named_parts no_parts h = refl
    named_parts (more_parts a es) h =
        ap₂ (λ x y. x * 2 ^ parts_width es + y) (named_value a h.0) (named_parts es h.1)

    named_number : (t : TypedTree) → Named Agree t → number_of signals e t ≡ number_of signals f t
    named_number (typed w s node) h = ap (as_number w s) (named_node node w s h)

    named_cut : (s : ℕ) (t : TypedTree) → Named Agree t →
        cut_value signals e s t ≡ cut_value signals f s t
    named_cut s (typed w signed node) h =
        ap (λ v. v % 2 ^ signal_width signals s) (named_node node w signed h)

-- ---- another property of what is named

module _ (P Q : ℕ → Type 0) (from : (s : ℕ) → P s → Q s) where
  mutual
    pub named_as : (t : TypedTree) → Named P t → Named Q t
    named_as (typed w s node) h = named_node_as node h

    named_node_as : (node : NodeTree) → NamedNode P node → NamedNode Q node
    named_node_as (constant n) h = tt
    named_node_as (read t p) h = from t h
    named_node_as (read_bit t p i) h = (from t h.0, named_as i h.1)
    named_node_as (read_part t p high low) h = from t h
    named_node_as (unary op a) h = named_as a h
    named_node_as (binary op a b) h = (named_as a h.0, named_as b h.1)
    named_node_as (choice p c a b) h = (named_as c h.0, (named_as a h.1.0, named_as b h.1.1))
    named_node_as (join es) h = named_parts_as es h
    named_node_as (replication count es) h = named_parts_as es h
    named_node_as (held t a) h = named_as a h
    named_node_as (held_bit t p a i) h = (named_as a h.0, named_as i h.1)
    named_node_as (held_part t p a high low) h = named_as a h
    named_node_as (mend t a high low piece) h = (named_as a h.0, named_as piece h.1)
    named_node_as (slice a high low) h = named_as a h

    named_parts_as : (es : TypedTrees) → NamedParts P es → NamedParts Q es
    named_parts_as no_parts h = tt
    named_parts_as (more_parts a es) h = (named_as a h.0, named_parts_as es h.1)

-- ---- what is read is what is named

module _ (signals : List SignalForm) (P : ℕ → Type 0) where
  -- each signal that is read has the property
  abbrev pub AllRead : List ReadForm → Type 0
  AllRead rs = (r : ReadForm) → Contains rs r → P r.signal

  left : (xs ys : List ReadForm) → AllRead (xs ++ ys) → AllRead xs
  left xs ys all r at = all r (Contains-left xs ys r at)

  right : (xs ys : List ReadForm) → AllRead (xs ++ ys) → AllRead ys
  right xs ys all r at = all r (Contains-right xs ys r at)

  indexed : (s : ℕ) (p : Place) (i : TypedTree) (rest : List ReadForm) →
      AllRead (indexed_read signals s p i ∷ rest) → P s
  indexed s p i rest all = by_constant (is_constant i) refl
    where
      of_bit : (z : ℤ) → (bit_read s p z).signal ≡ s
      of_bit (pos k) = refl
      of_bit (negsuc k) = refl

      by_constant : (c : Bool) → is_constant i ≡ c → P s
      by_constant true e =
          subst P (ap (λ (r : ReadForm). r.signal) (ap (λ c. cond c (bit_read s p (number_of signals (λ t. 0) i))
          (whole_read signals s p)) e) ∙ of_bit (number_of signals (λ t. 0) i))
          (all (indexed_read signals s p i) (Contains-head (indexed_read signals s p i) rest))
      by_constant false e =
          subst P (ap (λ (r : ReadForm). r.signal) (ap (λ c. cond c (bit_read s p (number_of signals (λ t. 0) i))
          (whole_read signals s p)) e))
          (all (indexed_read signals s p i) (Contains-head (indexed_read signals s p i) rest))

  -- what follows from each of two lists follows from both one after the other
  both : {X Y : Type 0} (xs ys : List ReadForm) → (AllRead xs → X) → (AllRead ys → Y) →
      AllRead (xs ++ ys) → X × Y
  both xs ys first second all = (first (left xs ys all), second (right xs ys all))

  later : (r : ReadForm) (rest : List ReadForm) → AllRead (r ∷ rest) → AllRead rest
  later r rest all x at = all x (Contains-later r rest x at)

  mutual
    pub named_from_reads : (t : TypedTree) → AllRead (reads signals t) → Named P t
    named_from_reads (typed w s node) all = named_node_from node all

    named_node_from : (node : NodeTree) → AllRead (node_reads signals node) → NamedNode P node
    named_node_from (constant n) all = tt
    named_node_from (read t p) all =
        all (whole_read signals t p) (Contains-head (whole_read signals t p) [])
    named_node_from (read_bit t p i) all = (
      indexed t p i (reads signals i) all,
      named_from_reads i (later (indexed_read signals t p i) (reads signals i) all),
    )
    named_node_from (read_part t p high low) all =
        let r : ReadForm = record { signal = t; place = p; high = high; low = low } in
        all r (Contains-head r [])
    named_node_from (unary op a) all = named_from_reads a all
    named_node_from (binary op a b) all =
        both (reads signals a) (reads signals b) (named_from_reads a) (named_from_reads b) all
    named_node_from (choice p c a b) all = (
      named_from_reads c (left (reads signals c) (reads signals a)
          (left (reads signals c ++ reads signals a) (reads signals b) all)),
      (
        named_from_reads a (right (reads signals c) (reads signals a)
            (left (reads signals c ++ reads signals a) (reads signals b) all)),
        named_from_reads b (right (reads signals c ++ reads signals a) (reads signals b) all),
      ),
    )
    named_node_from (join es) all = named_parts_from es all
    named_node_from (replication count es) all = named_parts_from es all
    named_node_from (held t a) all = named_from_reads a all
    named_node_from (held_bit t p a i) all =
        both (reads signals a) (reads signals i) (named_from_reads a) (named_from_reads i) all
    named_node_from (held_part t p a high low) all = named_from_reads a all
    named_node_from (mend t a high low piece) all =
        both (reads signals a) (reads signals piece) (named_from_reads a) (named_from_reads piece) all
    named_node_from (slice a high low) all = named_from_reads a all

    named_parts_from : (es : TypedTrees) → AllRead (parts_reads signals es) → NamedParts P es
    named_parts_from no_parts all = tt
    named_parts_from (more_parts a es) all =
        both (reads signals a) (parts_reads signals es) (named_from_reads a) (named_parts_from es) all
