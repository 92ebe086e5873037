-- An expression has the same value in two environments that agree on what it reads.
use Rattle.std.proofs.Common.{◌≡◌, ℕ, ◌+◌, ◌-◌, ◌*◌, ◌%◌, ◌^◌, ◌<◌, ◌≤◌, Bool, true, false, cond}
use Rattle.std.proofs.Common.{◌&&◌, not, nat_lt, nat_le, leb-true, ltb-true, List, [], ◌++◌, ◌⊎◌}
use Rattle.std.proofs.Common.{⊎_elim, refl, ap, ap₂, subst, arith, ℤ, pos, negsuc}
use Rattle.std.specs.Prelude.{Contains, IsTrue}
use Rattle.std.specs.Int.{bit_at}
use Rattle.std.proofs.lemmas.Bool.{false≢true}
use Rattle.std.proofs.lemmas.Nat.Bits.{same_from_bits_below}
use Rattle.sv_num.specs.Vectors.{as_number, is_true}
use Rattle.sv_num.specs.UnaryValues.{unary_value}
use Rattle.sv_num.specs.BinaryValues.{binary_value, class_of, is_division}
use Rattle.sv_num.specs.declared.faults.Place.{Place}
use Rattle.sv_system.specs.System.{Environment}
use Rattle.sv_system.proofs.Lists.{Contains-head, Contains-later, Contains-nil}
use Rattle.sv_flat.specs.Design.{SignalForm, TypedTree, typed, NodeTree, constant, read, read_bit}
use Rattle.sv_flat.specs.Design.{read_part, unary, binary, choice, join, replication, held}
use Rattle.sv_flat.specs.Design.{held_bit, held_part, mend, slice, TypedTrees, no_parts, more_parts}
use Rattle.sv_num.specs.Parts.{extended, bits_between, bit_or_zero, replaced_bits, repeated}
use Rattle.sv_flat.specs.Values.{signal_width, expression_width, expression_signed, parts_width}
use Rattle.sv_flat.specs.Values.{value, node_value, joined, number_of, cut_value}
use Rattle.sv_flat.specs.Soundness.{is_one_to, is_signal, has_type, is_part_of, unary_typed}
use Rattle.sv_flat.specs.Soundness.{binary_typed, well_formed, node_well_formed}
use Rattle.sv_flat.specs.Soundness.{parts_well_formed}
use Rattle.sv_flat.specs.Readings.{ReadForm, whole_read, bit_read, indexed_read, is_constant}
use Rattle.sv_flat.specs.Readings.{is_constant_node, are_constant, reads, node_reads, parts_reads}
use Rattle.sv_flat.proofs.Members.{Contains-left, Contains-right, Contains-either}
use Rattle.sv_flat.proofs.Depths.{first_of, second_of}
use Rattle.sv_flat.proofs.ReplacedBits.{same_bits_between}

module _ (signals : List SignalForm) where
  -- the signal has one value in both environments, or each bit that is read is the same in two
  -- values of its width
  abbrev pub SameRead : Environment ℕ → Environment ℕ → ReadForm → Type 0
  SameRead e f r = (e r.signal ≡ f r.signal)
      ⊎ ((b : ℕ) → r.low ≤ b → b ≤ r.high → b < signal_width signals r.signal
      → (e r.signal < 2 ^ signal_width signals r.signal)
      × (f r.signal < 2 ^ signal_width signals r.signal)
      × (bit_at (e r.signal) b ≡ bit_at (f r.signal) b))

  abbrev pub AllSame : Environment ℕ → Environment ℕ → List ReadForm → Type 0
  AllSame e f rs = (r : ReadForm) → Contains rs r → SameRead e f r

  same_whole : (e f : Environment ℕ) (s : ℕ) (p : Place) → 0 < signal_width signals s →
      SameRead e f (whole_read signals s p) → e s ≡ f s
  same_whole e f s p some same = ⊎_elim
      (λ is. is)
      (λ bits.
      let lowest = bits 0 (omega arith) (omega arith) some in
      same_from_bits_below (signal_width signals s) (e s) (f s) lowest.0 lowest.1
      (λ i below. (bits i (omega arith) (omega arith) below).2))
      same

  same_part : (e f : Environment ℕ) (s : ℕ) (p : Place) (high low : ℕ) → low ≤ high
      → high < signal_width signals s
      → SameRead e f (record { signal = s; place = p; high = high; low = low })
      → bits_between high low (e s) ≡ bits_between high low (f s)
  same_part e f s p high low ordered inside same = ⊎_elim
      (λ is. ap (bits_between high low) is)
      (λ bits. same_bits_between high low (e s) (f s) (λ b from to.
      (bits b from to (omega arith)).2))
      same

  same_cond : (b : Bool) (x y : ℕ) → (IsTrue b → x ≡ y) → cond b x 0 ≡ cond b y 0
  same_cond true x y same = same refl
  same_cond false x y same = refl

  same_bit : (e f : Environment ℕ) (s : ℕ) (p : Place) (i : ℤ) → SameRead e f (bit_read s p i)
      → bit_or_zero (signal_width signals s) (e s) i ≡ bit_or_zero (signal_width signals s) (f s) i
  same_bit e f s p (pos i) same =
      same_cond (nat_lt i (signal_width signals s)) (bit_at (e s) i) (bit_at (f s) i)
      (λ below. ⊎_elim
      (λ is. ap (λ z. bit_at z i) is)
      (λ bits. (bits i (omega arith) (omega arith) (ltb-true i (signal_width signals s) below)).2)
      same)
  same_bit e f s p (negsuc i) same = refl

  none_left : (xs ys : List ReadForm) (r : ReadForm) → (Contains xs r → ⊥) → (Contains ys r → ⊥) →
      Contains (xs ++ ys) r → ⊥
  none_left xs ys r no_left no_right at = ⊎_elim no_left no_right (Contains-either xs ys r at)

  -- a constant names no signal
  mutual
    no_reads : (t : TypedTree) → IsTrue (is_constant t) → (r : ReadForm) →
        Contains (reads signals t) r → ⊥
    no_reads (typed w s node) h r at = no_node_reads node h r at

    no_node_reads : (node : NodeTree) → IsTrue (is_constant_node node) → (r : ReadForm) →
        Contains (node_reads signals node) r → ⊥
    no_node_reads (constant n) h r at = Contains-nil r at
    no_node_reads (read s p) h r at = false≢true h
    no_node_reads (read_bit s p i) h r at = false≢true h
    no_node_reads (read_part s p high low) h r at = false≢true h
    no_node_reads (unary op e) h r at = no_reads e h r at
    no_node_reads (binary op a b) h r at = none_left (reads signals a) (reads signals b) r
        (no_reads a (first_of (is_constant a) (is_constant b) h) r)
        (no_reads b (second_of (is_constant a) (is_constant b) h) r) at
    no_node_reads (choice p c a b) h r at =
        let both = first_of (is_constant c && is_constant a) (is_constant b) h in
        none_left (reads signals c ++ reads signals a) (reads signals b) r
        (none_left (reads signals c) (reads signals a) r
        (no_reads c (first_of (is_constant c) (is_constant a) both) r)
        (no_reads a (second_of (is_constant c) (is_constant a) both) r))
        (no_reads b (second_of (is_constant c && is_constant a) (is_constant b) h) r)
        at
    no_node_reads (join es) h r at = no_parts_reads es h r at
    no_node_reads (replication count es) h r at = no_parts_reads es h r at
    no_node_reads (held s e) h r at = false≢true h
    no_node_reads (held_bit s p e i) h r at = false≢true h
    no_node_reads (held_part s p e high low) h r at = false≢true h
    no_node_reads (mend s e high low piece) h r at = false≢true h
    no_node_reads (slice e high low) h r at = no_reads e h r at

    no_parts_reads : (es : TypedTrees) → IsTrue (are_constant es) → (r : ReadForm) →
        Contains (parts_reads signals es) r → ⊥
    no_parts_reads no_parts h r at = Contains-nil r at
    no_parts_reads (more_parts e es) h r at = none_left (reads signals e) (parts_reads signals es) r
        (no_reads e (first_of (is_constant e) (are_constant es) h) r)
        (no_parts_reads es (second_of (is_constant e) (are_constant es) h) r) at

  same_left : (e f : Environment ℕ) (xs ys : List ReadForm) → AllSame e f (xs ++ ys) →
      AllSame e f xs
  same_left e f xs ys same r at = same r (Contains-left xs ys r at)

  same_right : (e f : Environment ℕ) (xs ys : List ReadForm) → AllSame e f (xs ++ ys) →
      AllSame e f ys
  same_right e f xs ys same r at = same r (Contains-right xs ys r at)

  indexed : (c : Bool) (e f : Environment ℕ) (s : ℕ) (p : Place) (i j k : ℤ)
      → 0 < signal_width signals s → (IsTrue c → k ≡ i) → i ≡ j
      → SameRead e f (cond c (bit_read s p k) (whole_read signals s p))
      → bit_or_zero (signal_width signals s) (e s) i ≡ bit_or_zero (signal_width signals s) (f s) j
  indexed true e f s p i j k some is same_index same =
      subst (λ z. bit_or_zero (signal_width signals s) (e s) i ≡
      bit_or_zero (signal_width signals s) (f s) z) same_index
      (subst (λ z. bit_or_zero (signal_width signals s) (e s) z ≡
      bit_or_zero (signal_width signals s) (f s) z) (is refl)
      (same_bit e f s p k same))
  indexed false e f s p i j k some is same_index same =
      ap₂ (bit_or_zero (signal_width signals s)) (same_whole e f s p some same) same_index

  chosen_same : (c d a b x y : ℕ) → c ≡ d → a ≡ b → x ≡ y →
      cond (is_true c) a x ≡ cond (is_true d) b y
  chosen_same c d a b x y cd ab xy =
      subst (λ z. cond (is_true c) a x ≡ cond (is_true z) b y) cd (ap₂ (cond (is_true c)) ab xy)

  module _ (positive : (s : ℕ) → IsTrue (is_signal signals s) → 0 < signal_width signals s) where
    -- Environments that agree on what a well formed expression reads give it one value.
    mutual
      pub same_value : (t : TypedTree) → IsTrue (well_formed signals t) → (e f : Environment ℕ)
          → AllSame e f (reads signals t)
          → value signals e t ≡ value signals f t
      same_value (typed w s node) h e f same = same_node node w s
          (second_of (is_one_to 64 w) (node_well_formed signals w s node) h) e f same

      same_node : (node : NodeTree) (w : ℕ) (s : Bool) → IsTrue (node_well_formed signals w s node)
          → (e f : Environment ℕ)
          → AllSame e f (node_reads signals node)
          → node_value signals e w s node ≡ node_value signals f w s node
      same_node (constant n) w signed h e f same = refl
      same_node (read s p) w signed h e f same =
          ap (extended signed (signal_width signals s) w)
          (same_whole e f s p (positive s
          (first_of (is_signal signals s) (nat_le (signal_width signals s) w) h))
          (same (whole_read signals s p) (Contains-head (whole_read signals s p) [])))
      same_node (read_bit s p i) w signed h e f same =
          let i_is = second_of (is_signal signals s) (well_formed signals i) h in
          indexed (is_constant i) e f s p (number_of signals e i) (number_of signals f i)
          (number_of signals (λ t. 0) i)
          (positive s (first_of (is_signal signals s) (well_formed signals i) h))
          (λ c. same_number i i_is (λ t. 0) e (λ r at. absurd (no_reads i c r at)))
          (same_number i i_is e f (λ r at.
          same r (Contains-later (indexed_read signals s p i) (reads signals i) r at)))
          (same (indexed_read signals s p i)
          (Contains-head (indexed_read signals s p i) (reads signals i)))
      same_node (read_part s p high low) w signed h e f same =
          let n = signal_width signals s in
          let both = first_of (nat_le low high && nat_lt high n) (nat_le (high + 1 - low) w)
          (second_of (is_signal signals s) (is_part_of n w high low) h) in
          same_part e f s p high low
          (leb-true low high (first_of (nat_le low high) (nat_lt high n) both))
          (ltb-true high n (second_of (nat_le low high) (nat_lt high n) both))
          (same (record { signal = s; place = p; high = high; low = low })
          (Contains-head (record { signal = s; place = p; high = high; low = low }) []))
      same_node (unary op t) w signed h e f same =
          ap (unary_value op (expression_width t) (expression_signed t))
          (same_value t (second_of (unary_typed op w signed t) (well_formed signals t) h) e f same)
      same_node (binary op a b) w signed h e f same =
          let kind = not (is_division op) && binary_typed (class_of op) w signed a b in
          ap₂ (binary_value op (expression_width a) (expression_signed a))
          (same_value a (second_of kind (well_formed signals a)
          (first_of (kind && well_formed signals a) (well_formed signals b) h)) e f
          (same_left e f (reads signals a) (reads signals b) same))
          (same_value b (second_of (kind && well_formed signals a) (well_formed signals b) h) e f
          (same_right e f (reads signals a) (reads signals b) same))
      same_node (choice p c a b) w signed h e f same =
          let both = same_left e f (reads signals c ++ reads signals a) (reads signals b) same in
          let types = has_type w signed a && has_type w signed b in
          let front = first_of (types && well_formed signals c && well_formed signals a)
          (well_formed signals b) h in
          chosen_same (value signals e c) (value signals f c) (value signals e a)
          (value signals f a) (value signals e b)
          (value signals f b)
          (same_value c (second_of types (well_formed signals c)
          (first_of (types && well_formed signals c) (well_formed signals a) front)) e f
          (same_left e f (reads signals c) (reads signals a) both))
          (same_value a (second_of (types && well_formed signals c) (well_formed signals a)
          front) e f
          (same_right e f (reads signals c) (reads signals a) both))
          (same_value b (second_of (types && well_formed signals c && well_formed signals a)
          (well_formed signals b) h) e f
          (same_right e f (reads signals c ++ reads signals a) (reads signals b) same))
      same_node (join es) w signed h e f same = same_joined es
          (second_of (nat_le (parts_width es) w) (parts_well_formed signals es) h) e f same
      same_node (replication count es) w signed h e f same = ap (repeated count (parts_width es))
          (same_joined es (second_of (is_one_to 64 count && nat_le (count * parts_width es) w)
          (parts_well_formed signals es) h) e f same)
      same_node (held s t) w signed h e f same = ap (extended signed (signal_width signals s) w)
          (same_cut t s (second_of (is_signal signals s && nat_le (signal_width signals s) w)
          (well_formed signals t) h) e f same)
      same_node (held_bit s p t i) w signed h e f same = ap₂ (bit_or_zero (signal_width signals s))
          (same_cut t s (second_of (is_signal signals s) (well_formed signals t)
          (first_of (is_signal signals s && well_formed signals t) (well_formed signals i) h)) e f
          (same_left e f (reads signals t) (reads signals i) same))
          (same_number i (second_of (is_signal signals s && well_formed signals t)
          (well_formed signals i) h) e f
          (same_right e f (reads signals t) (reads signals i) same))
      same_node (held_part s p t high low) w signed h e f same = ap (bits_between high low)
          (same_cut t s (second_of (is_signal signals s
          && is_part_of (signal_width signals s) w high low)
          (well_formed signals t) h) e f same)
      same_node (mend s t high low piece) w signed h e f same =
          let front = is_signal signals s && nat_le (signal_width signals s) w
          && is_part_of (signal_width signals s) (expression_width piece) high low in
          ap (extended signed (signal_width signals s) w)
          (ap₂ (replaced_bits (signal_width signals s) high low)
          (same_value t (second_of front (well_formed signals t)
          (first_of (front && well_formed signals t) (well_formed signals piece) h)) e f
          (same_left e f (reads signals t) (reads signals piece) same))
          (same_value piece (second_of (front && well_formed signals t)
          (well_formed signals piece) h) e f
          (same_right e f (reads signals t) (reads signals piece) same)))
      same_node (slice t high low) w signed h e f same = ap (bits_between high low)
          (same_value t (second_of (is_part_of (expression_width t) w high low)
          (well_formed signals t) h) e f same)

      same_joined : (es : TypedTrees) → IsTrue (parts_well_formed signals es)
          → (e f : Environment ℕ)
          → AllSame e f (parts_reads signals es) → joined signals e es ≡ joined signals f es
      same_joined no_parts h e f same = refl
      same_joined (more_parts t es) h e f same = ap₂ (λ x y. x * 2 ^ parts_width es + y)
          (same_value t (first_of (well_formed signals t) (parts_well_formed signals es) h) e f
          (same_left e f (reads signals t) (parts_reads signals es) same))
          (same_joined es (second_of (well_formed signals t) (parts_well_formed signals es) h) e f
          (same_right e f (reads signals t) (parts_reads signals es) same))

      same_number : (t : TypedTree) → IsTrue (well_formed signals t) → (e f : Environment ℕ)
          → AllSame e f (reads signals t)
          → number_of signals e t ≡ number_of signals f t
      same_number (typed w s node) h e f same = ap (as_number w s)
          (same_node node w s (second_of (is_one_to 64 w) (node_well_formed signals w s node) h)
          e f same)

      same_cut : (t : TypedTree) (s : ℕ) → IsTrue (well_formed signals t) → (e f : Environment ℕ)
          → AllSame e f (reads signals t)
          → cut_value signals e s t ≡ cut_value signals f s t
      same_cut (typed w signed node) s h e f same = ap (λ z. z % 2 ^ signal_width signals s)
          (same_node node w signed
          (second_of (is_one_to 64 w) (node_well_formed signals w signed node) h) e f same)
