-- Expressions in which something stands for names: their values, and the names in them.
use Rattle.std.proofs.Common.{◌≡◌, ℕ, ◌+◌, ◌*◌, ◌%◌, ◌^◌, ◌<◌, Bool, true, false, cond, ◌&&◌, not}
use Rattle.std.proofs.Common.{nat_lt, nat_le, ltb-true, List, [], ◌∷◌, ◌++◌, length, ◌⊎◌, inl, inr}
use Rattle.std.proofs.Common.{⊎_elim, refl, sym, ap, ap₂, subst, ◌∙◌, ℤ, pos, negsuc}
use Rattle.std.specs.Prelude.{Contains, IsTrue}
use Rattle.sv_num.specs.declared.faults.Place.{Place}
use Rattle.sv_num.specs.Vectors.{as_number, is_true}
use Rattle.sv_num.specs.Parts.{extended, bits_between, bit_or_zero, replaced_bits, repeated}
use Rattle.sv_num.specs.UnaryValues.{unary_value}
use Rattle.sv_num.specs.BinaryValues.{binary_value, class_of, is_division}
use Rattle.sv_system.specs.System.{Environment}
use Rattle.sv_system.proofs.Lists.{Contains-nil, Contains-head, Contains-later, Contains-cases}
use Rattle.sv_flat.specs.Design.{SignalForm, TypedTree, typed, NodeTree, constant, read, read_bit}
use Rattle.sv_flat.specs.Design.{read_part, unary, binary, choice, join, replication, held}
use Rattle.sv_flat.specs.Design.{held_bit, held_part, mend, slice, TypedTrees, no_parts, more_parts}
use Rattle.sv_flat.specs.Values.{signal_width, parts_width, expression_width, value, node_value}
use Rattle.sv_flat.specs.Values.{joined, number_of, cut_value}
use Rattle.sv_flat.specs.Soundness.{is_one_to, is_signal, has_type, is_part_of, unary_typed}
use Rattle.sv_flat.specs.Soundness.{binary_typed, well_formed, node_well_formed}
use Rattle.sv_flat.specs.Soundness.{parts_well_formed}
use Rattle.sv_flat.specs.Readings.{ReadForm, whole_read, bit_read, indexed_read, is_constant, reads}
use Rattle.sv_flat.specs.Readings.{node_reads, parts_reads}
use Rattle.sv_flat.proofs.Members.{Contains-left, Contains-right, Contains-either}
use Rattle.sv_flat.proofs.Depths.{first_of, second_of}
use Rattle.sv_obl.specs.Exchange.{Instead, name, content, for_whole, for_bit, for_part, exchanged}
use Rattle.sv_obl.specs.Exchange.{exchanged_node, exchanged_parts}
use Rattle.sv_obl.proofs.PathLists.{both_true}

-- a read of a part
abbrev pub part_read : ℕ → Place → (high low : ℕ) → ReadForm
part_read s place high low = record { signal = s; place = place; high = high; low = low }

-- where a first test holds with two others, and these bring two more, it holds with those
both_kept : (b c d e f : Bool) → (IsTrue c → IsTrue e) → (IsTrue d → IsTrue f) →
    IsTrue (b && c && d) → IsTrue (b && e && f)
both_kept b c d e f one two h =
    let front = first_of (b && c) d h in
    both_true (b && e) f (both_true b e (first_of b c front) (one (second_of b c front)))
    (two (second_of (b && c) d h))

-- ---- values that are held are held for signals below a number

abbrev mutual
  pub held_below : ℕ → TypedTree → Bool
  held_below n (typed w signed node) = node_held_below n node

  pub node_held_below : ℕ → NodeTree → Bool
  node_held_below n (constant k) = true
  node_held_below n (read s p) = true
  node_held_below n (read_bit s p i) = held_below n i
  node_held_below n (read_part s p high low) = true
  node_held_below n (unary op a) = held_below n a
  node_held_below n (binary op a b) = held_below n a && held_below n b
  node_held_below n (choice p c a b) = held_below n c && held_below n a && held_below n b
  node_held_below n (join es) = parts_held_below n es
  node_held_below n (replication count es) = parts_held_below n es
  node_held_below n (held s e) = nat_lt s n && held_below n e
  node_held_below n (held_bit s p e i) = nat_lt s n && held_below n e && held_below n i
  node_held_below n (held_part s p e high low) = nat_lt s n && held_below n e
  node_held_below n (mend s e high low piece) = nat_lt s n && held_below n e && held_below n piece
  node_held_below n (slice e high low) = held_below n e

  pub parts_held_below : ℕ → TypedTrees → Bool
  parts_held_below n no_parts = true
  parts_held_below n (more_parts e es) = held_below n e && parts_held_below n es

-- a well formed expression holds values for signals
module _ (signals : List SignalForm) where
  abbrev n_of : ℕ
  n_of = length signals

  mutual
    pub well_held : (t : TypedTree) → IsTrue (well_formed signals t) →
        IsTrue (held_below (length signals) t)
    well_held (typed w signed node) h =
        node_well_held node w signed
        (second_of (is_one_to 64 w) (node_well_formed signals w signed node) h)

    node_well_held : (node : NodeTree) (w : ℕ) (signed : Bool)
        → IsTrue (node_well_formed signals w signed node)
        → IsTrue (node_held_below (length signals) node)
    node_well_held (constant k) w signed h = refl
    node_well_held (read s p) w signed h = refl
    node_well_held (read_bit s p i) w signed h =
        well_held i (second_of (is_signal signals s) (well_formed signals i) h)
    node_well_held (read_part s p high low) w signed h = refl
    node_well_held (unary op a) w signed h =
        well_held a (second_of (unary_typed op w signed a) (well_formed signals a) h)
    node_well_held (binary op a b) w signed h =
        let kind = not (is_division op) && binary_typed (class_of op) w signed a b in
        both_true (held_below n_of a) (held_below n_of b)
        (well_held a (second_of kind (well_formed signals a)
        (first_of (kind && well_formed signals a) (well_formed signals b) h)))
        (well_held b (second_of (kind && well_formed signals a) (well_formed signals b) h))
    node_well_held (choice p c a b) w signed h =
        let types = has_type w signed a && has_type w signed b in
        let front = first_of (types && well_formed signals c && well_formed signals a)
        (well_formed signals b) h in
        both_true (held_below n_of c && held_below n_of a) (held_below n_of b)
        (both_true (held_below n_of c) (held_below n_of a)
        (well_held c (second_of types (well_formed signals c)
        (first_of (types && well_formed signals c) (well_formed signals a) front)))
        (well_held a (second_of (types && well_formed signals c) (well_formed signals a) front)))
        (well_held b (second_of (types && well_formed signals c && well_formed signals a)
        (well_formed signals b) h))
    node_well_held (join es) w signed h =
        parts_well_held es (second_of (nat_le (parts_width es) w) (parts_well_formed signals es) h)
    node_well_held (replication count es) w signed h =
        parts_well_held es (second_of (is_one_to 64 count && nat_le (count * parts_width es) w)
        (parts_well_formed signals es) h)
    node_well_held (held s e) w signed h =
        both_true (nat_lt s n_of) (held_below n_of e)
        (first_of (is_signal signals s) (nat_le (signal_width signals s) w)
        (first_of (is_signal signals s && nat_le (signal_width signals s) w)
        (well_formed signals e) h))
        (well_held e (second_of (is_signal signals s && nat_le (signal_width signals s) w)
        (well_formed signals e) h))
    node_well_held (held_bit s p e i) w signed h =
        let front = first_of (is_signal signals s && well_formed signals e)
        (well_formed signals i) h in
        both_true (nat_lt s n_of && held_below n_of e) (held_below n_of i)
        (both_true (nat_lt s n_of) (held_below n_of e)
        (first_of (is_signal signals s) (well_formed signals e) front)
        (well_held e (second_of (is_signal signals s) (well_formed signals e) front)))
        (well_held i (second_of (is_signal signals s && well_formed signals e)
        (well_formed signals i) h))
    node_well_held (held_part s p e high low) w signed h =
        let part = is_part_of (signal_width signals s) w high low in
        both_true (nat_lt s n_of) (held_below n_of e)
        (first_of (is_signal signals s) part
        (first_of (is_signal signals s && part) (well_formed signals e) h))
        (well_held e (second_of (is_signal signals s && part) (well_formed signals e) h))
    node_well_held (mend s e high low piece) w signed h =
        let part = is_part_of (signal_width signals s) (expression_width piece) high low in
        let shape = is_signal signals s && nat_le (signal_width signals s) w && part in
        let front = first_of (shape && well_formed signals e) (well_formed signals piece) h in
        both_true (nat_lt s n_of && held_below n_of e) (held_below n_of piece)
        (both_true (nat_lt s n_of) (held_below n_of e)
        (first_of (is_signal signals s) (nat_le (signal_width signals s) w)
        (first_of (is_signal signals s && nat_le (signal_width signals s) w) part
        (first_of shape (well_formed signals e) front)))
        (well_held e (second_of shape (well_formed signals e) front)))
        (well_held piece (second_of (shape && well_formed signals e) (well_formed signals piece) h))
    node_well_held (slice e high low) w signed h =
        well_held e (second_of (is_part_of (expression_width e) w high low)
        (well_formed signals e) h)

    parts_well_held : (es : TypedTrees) → IsTrue (parts_well_formed signals es) →
        IsTrue (parts_held_below (length signals) es)
    parts_well_held no_parts h = refl
    parts_well_held (more_parts e es) h = both_true (held_below n_of e) (parts_held_below n_of es)
        (well_held e (first_of (well_formed signals e) (parts_well_formed signals es) h))
        (parts_well_held es (second_of (well_formed signals e) (parts_well_formed signals es) h))

-- what is put in keeps that
module _ (A : List SignalForm) (instead : ReadForm → Instead) (n : ℕ) where
  abbrev pub Below : Instead → Type 0
  Below (name t) = Unit {0}
  Below (content s e) = IsTrue (nat_lt s n) × IsTrue (held_below n e)

  abbrev pub AllBelow : List ReadForm → Type 0
  AllBelow rs = (r : ReadForm) → Contains rs r → Below (instead r)

  below_left : (xs ys : List ReadForm) → AllBelow (xs ++ ys) → AllBelow xs
  below_left xs ys below r at = below r (Contains-left xs ys r at)

  below_right : (xs ys : List ReadForm) → AllBelow (xs ++ ys) → AllBelow ys
  below_right xs ys below r at = below r (Contains-right xs ys r at)

  whole_below : (i : Instead) (p : Place) → Below i → IsTrue (node_held_below n (for_whole i p))
  whole_below (name t) p b = refl
  whole_below (content s e) p b = both_true (nat_lt s n) (held_below n e) b.0 b.1

  bit_below : (i : Instead) (p : Place) (index : TypedTree) → Below i → IsTrue (held_below n index)
      → IsTrue (node_held_below n (for_bit i p index))
  bit_below (name t) p index b h = h
  bit_below (content s e) p index b h =
      both_true (nat_lt s n && held_below n e) (held_below n index)
      (both_true (nat_lt s n) (held_below n e) b.0 b.1) h

  part_below : (i : Instead) (p : Place) (high low : ℕ) → Below i →
      IsTrue (node_held_below n (for_part i p high low))
  part_below (name t) p high low b = refl
  part_below (content s e) p high low b = both_true (nat_lt s n) (held_below n e) b.0 b.1

  mutual
    pub exchanged_held : (t : TypedTree) → IsTrue (held_below n t) → AllBelow (reads A t) →
        IsTrue (held_below n (exchanged A instead t))
    exchanged_held (typed w signed node) h below = node_exchanged_held node h below

    node_exchanged_held : (node : NodeTree) → IsTrue (node_held_below n node)
        → AllBelow (node_reads A node)
        → IsTrue (node_held_below n (exchanged_node A instead node))
    node_exchanged_held (constant k) h below = refl
    node_exchanged_held (read s p) h below =
        let r = whole_read A s p in whole_below (instead r) p (below r (Contains-head r []))
    node_exchanged_held (read_bit s p i) h below =
        let r = indexed_read A s p i in
        bit_below (instead r) p (exchanged A instead i) (below r (Contains-head r (reads A i)))
        (exchanged_held i h (λ z at. below z (Contains-later r (reads A i) z at)))
    node_exchanged_held (read_part s p high low) h below =
        let r = part_read s p high low in
        part_below (instead r) p high low (below r (Contains-head r []))
    node_exchanged_held (unary op a) h below = exchanged_held a h below
    node_exchanged_held (binary op a b) h below =
        both_true (held_below n (exchanged A instead a)) (held_below n (exchanged A instead b))
        (exchanged_held a (first_of (held_below n a) (held_below n b) h)
        (below_left (reads A a) (reads A b) below))
        (exchanged_held b (second_of (held_below n a) (held_below n b) h)
        (below_right (reads A a) (reads A b) below))
    node_exchanged_held (choice p c a b) h below =
        let front = first_of (held_below n c && held_below n a) (held_below n b) h in
        let both = below_left (reads A c ++ reads A a) (reads A b) below in
        both_true (held_below n (exchanged A instead c) && held_below n (exchanged A instead a))
        (held_below n (exchanged A instead b))
        (both_true (held_below n (exchanged A instead c)) (held_below n (exchanged A instead a))
        (exchanged_held c (first_of (held_below n c) (held_below n a) front)
        (below_left (reads A c) (reads A a) both))
        (exchanged_held a (second_of (held_below n c) (held_below n a) front)
        (below_right (reads A c) (reads A a) both)))
        (exchanged_held b (second_of (held_below n c && held_below n a) (held_below n b) h)
        (below_right (reads A c ++ reads A a) (reads A b) below))
    node_exchanged_held (join es) h below = parts_exchanged_held es h below
    node_exchanged_held (replication count es) h below = parts_exchanged_held es h below
    node_exchanged_held (held s e) h below =
        both_true (nat_lt s n) (held_below n (exchanged A instead e))
        (first_of (nat_lt s n) (held_below n e) h)
        (exchanged_held e (second_of (nat_lt s n) (held_below n e) h) below)
    node_exchanged_held (held_bit s p e i) h below =
        both_kept (nat_lt s n) (held_below n e) (held_below n i)
        (held_below n (exchanged A instead e)) (held_below n (exchanged A instead i))
        (λ k. exchanged_held e k (below_left (reads A e) (reads A i) below))
        (λ k. exchanged_held i k (below_right (reads A e) (reads A i) below)) h
    node_exchanged_held (held_part s p e high low) h below =
        both_true (nat_lt s n) (held_below n (exchanged A instead e))
        (first_of (nat_lt s n) (held_below n e) h)
        (exchanged_held e (second_of (nat_lt s n) (held_below n e) h) below)
    node_exchanged_held (mend s e high low piece) h below =
        both_kept (nat_lt s n) (held_below n e) (held_below n piece)
        (held_below n (exchanged A instead e)) (held_below n (exchanged A instead piece))
        (λ k. exchanged_held e k (below_left (reads A e) (reads A piece) below))
        (λ k. exchanged_held piece k (below_right (reads A e) (reads A piece) below)) h
    node_exchanged_held (slice e high low) h below = exchanged_held e h below

    parts_exchanged_held : (es : TypedTrees) → IsTrue (parts_held_below n es)
        → AllBelow (parts_reads A es)
        → IsTrue (parts_held_below n (exchanged_parts A instead es))
    parts_exchanged_held no_parts h below = refl
    parts_exchanged_held (more_parts e es) h below =
        both_true (held_below n (exchanged A instead e))
        (parts_held_below n (exchanged_parts A instead es))
        (exchanged_held e (first_of (held_below n e) (parts_held_below n es) h)
        (below_left (reads A e) (parts_reads A es) below))
        (parts_exchanged_held es (second_of (held_below n e) (parts_held_below n es) h)
        (below_right (reads A e) (parts_reads A es) below))

-- ---- values

cut_is : (B : List SignalForm) (E : Environment ℕ) (s : ℕ) (t : TypedTree) →
    cut_value B E s t ≡ value B E t % 2 ^ signal_width B s
cut_is B E s (typed w signed node) = refl

chosen_same : (c d a b x y : ℕ) → c ≡ d → a ≡ b → x ≡ y →
    cond (is_true c) a x ≡ cond (is_true d) b y
chosen_same c d a b x y cd ab xy =
    subst (λ z. cond (is_true c) a x ≡ cond (is_true z) b y) cd (ap₂ (cond (is_true c)) ab xy)

bit_same_index : (w x y : ℕ) (i j : ℤ) → x ≡ y → i ≡ j → bit_or_zero w x i ≡ bit_or_zero w y j
bit_same_index w x y i j xs is = ap₂ (bit_or_zero w) xs is

module _ (A B : List SignalForm) (instead : ReadForm → Instead) (E F : Environment ℕ) (n : ℕ)
    (widths : (s : ℕ) → s < n → signal_width B s ≡ signal_width A s) where
  -- what stands for a name gives the name's value, at the name's width
  abbrev pub Good : ReadForm → Instead → Type 0
  Good r (name t) = (signal_width B t ≡ signal_width A r.signal) × (E t ≡ F r.signal)
  Good r (content s e) =
      (signal_width B s ≡ signal_width A r.signal)
      × (value B E e % 2 ^ signal_width B s ≡ F r.signal)

  abbrev pub AllGood : List ReadForm → Type 0
  AllGood rs = (r : ReadForm) → Contains rs r → Good r (instead r)

  good_left : (xs ys : List ReadForm) → AllGood (xs ++ ys) → AllGood xs
  good_left xs ys good r at = good r (Contains-left xs ys r at)

  good_right : (xs ys : List ReadForm) → AllGood (xs ++ ys) → AllGood ys
  good_right xs ys good r at = good r (Contains-right xs ys r at)

  whole_value : (i : Instead) (r : ReadForm) (w : ℕ) (signed : Bool) (p : Place) → Good r i
      → node_value B E w signed (for_whole i p) ≡
      extended signed (signal_width A r.signal) w (F r.signal)
  whole_value (name t) r w signed p good = ap₂ (λ k x. extended signed k w x) good.0 good.1
  whole_value (content s e) r w signed p good =
      ap₂ (λ k x. extended signed k w x) good.0 (cut_is B E s e ∙ good.1)

  bit_value : (i : Instead) (r : ReadForm) (w : ℕ) (signed : Bool) (p : Place) (index : TypedTree)
      (j : ℤ) → Good r i
      → number_of B E index ≡ j
      → node_value B E w signed (for_bit i p index) ≡
      bit_or_zero (signal_width A r.signal) (F r.signal) j
  bit_value (name t) r w signed p index j good same =
      ap (λ k. bit_or_zero k (E t) (number_of B E index)) good.0
      ∙ bit_same_index (signal_width A r.signal) (E t) (F r.signal) (number_of B E index) j
      good.1 same
  bit_value (content s e) r w signed p index j good same =
      ap (λ k. bit_or_zero k (cut_value B E s e) (number_of B E index)) good.0
      ∙ bit_same_index (signal_width A r.signal) (cut_value B E s e) (F r.signal)
      (number_of B E index) j (cut_is B E s e ∙ good.1) same

  part_value : (i : Instead) (r : ReadForm) (w : ℕ) (signed : Bool) (p : Place) (high low : ℕ)
      → Good r i
      → node_value B E w signed (for_part i p high low) ≡ bits_between high low (F r.signal)
  part_value (name t) r w signed p high low good = ap (bits_between high low) good.1
  part_value (content s e) r w signed p high low good =
      ap (bits_between high low) (cut_is B E s e ∙ good.1)

  parts_same_width : (es : TypedTrees) → parts_width (exchanged_parts A instead es) ≡ parts_width es
  parts_same_width no_parts = refl
  parts_same_width (more_parts (typed w signed node) es) = ap (λ k. w + k) (parts_same_width es)

  width_at : (s : ℕ) → IsTrue (nat_lt s n) → signal_width B s ≡ signal_width A s
  width_at s h = widths s (ltb-true s n h)

  -- a bit by the name that an indexed read reads
  index_signal : (c : Bool) (s : ℕ) (p : Place) (k : ℤ) →
      (cond c (bit_read s p k) (whole_read A s p)).signal ≡ s
  index_signal true s p (pos k) = refl
  index_signal true s p (negsuc k) = refl
  index_signal false s p k = refl

  mutual
    -- the expression has the value that it had
    pub exchanged_value : (t : TypedTree) → IsTrue (held_below n t) → AllGood (reads A t) →
        value B E (exchanged A instead t) ≡ value A F t
    exchanged_value (typed w signed node) h good = exchanged_node_value node w signed h good

    exchanged_node_value : (node : NodeTree) (w : ℕ) (signed : Bool)
        → IsTrue (node_held_below n node)
        → AllGood (node_reads A node)
        → node_value B E w signed (exchanged_node A instead node) ≡ node_value A F w signed node
    exchanged_node_value (constant k) w signed h good = refl
    exchanged_node_value (read s p) w signed h good =
        let r = whole_read A s p in
        whole_value (instead r) r w signed p (good r (Contains-head r []))
    exchanged_node_value (read_bit s p i) w signed h good =
        let r = indexed_read A s p i in
        let is = index_signal (is_constant i) s p (number_of A (λ t. 0) i) in
        subst (λ k. node_value B E w signed (for_bit (instead r) p (exchanged A instead i)) ≡
        bit_or_zero (signal_width A k) (F k) (number_of A F i)) is
        (bit_value (instead r) r w signed p (exchanged A instead i) (number_of A F i)
        (good r (Contains-head r (reads A i)))
        (exchanged_number i h (λ z at. good z (Contains-later r (reads A i) z at))))
    exchanged_node_value (read_part s p high low) w signed h good =
        let r = part_read s p high low in
        part_value (instead r) r w signed p high low (good r (Contains-head r []))
    exchanged_node_value (unary op (typed v q m)) w signed h good =
        ap (unary_value op v q) (exchanged_node_value m v q h good)
    exchanged_node_value (binary op (typed v q l) (typed u o m)) w signed h good =
        ap₂ (binary_value op v q)
        (exchanged_node_value l v q (first_of (node_held_below n l) (node_held_below n m) h)
        (good_left (node_reads A l) (node_reads A m) good))
        (exchanged_node_value m u o (second_of (node_held_below n l) (node_held_below n m) h)
        (good_right (node_reads A l) (node_reads A m) good))
    exchanged_node_value (choice p c a b) w signed h good =
        let front = first_of (held_below n c && held_below n a) (held_below n b) h in
        let both = good_left (reads A c ++ reads A a) (reads A b) good in
        chosen_same (value B E (exchanged A instead c)) (value A F c)
        (value B E (exchanged A instead a)) (value A F a)
        (value B E (exchanged A instead b)) (value A F b)
        (exchanged_value c (first_of (held_below n c) (held_below n a) front)
        (good_left (reads A c) (reads A a) both))
        (exchanged_value a (second_of (held_below n c) (held_below n a) front)
        (good_right (reads A c) (reads A a) both))
        (exchanged_value b (second_of (held_below n c && held_below n a) (held_below n b) h)
        (good_right (reads A c ++ reads A a) (reads A b) good))
    exchanged_node_value (join es) w signed h good = exchanged_joined es h good
    exchanged_node_value (replication count es) w signed h good =
        ap₂ (repeated count) (parts_same_width es) (exchanged_joined es h good)
    exchanged_node_value (held s e) w signed h good =
        ap₂ (λ k x. extended signed k w x) (width_at s (first_of (nat_lt s n) (held_below n e) h))
        (exchanged_cut e s (first_of (nat_lt s n) (held_below n e) h)
        (second_of (nat_lt s n) (held_below n e) h) good)
    exchanged_node_value (held_bit s p e i) w signed h good =
        let front = first_of (nat_lt s n && held_below n e) (held_below n i) h in
        let known = first_of (nat_lt s n) (held_below n e) front in
        ap (λ k. bit_or_zero k (cut_value B E s (exchanged A instead e))
        (number_of B E (exchanged A instead i))) (width_at s known)
        ∙ ap₂ (bit_or_zero (signal_width A s))
        (exchanged_cut e s known (second_of (nat_lt s n) (held_below n e) front)
        (good_left (reads A e) (reads A i) good))
        (exchanged_number i (second_of (nat_lt s n && held_below n e) (held_below n i) h)
        (good_right (reads A e) (reads A i) good))
    exchanged_node_value (held_part s p e high low) w signed h good =
        ap (bits_between high low)
        (exchanged_cut e s (first_of (nat_lt s n) (held_below n e) h)
        (second_of (nat_lt s n) (held_below n e) h) good)
    exchanged_node_value (mend s e high low piece) w signed h good =
        let front = first_of (nat_lt s n && held_below n e) (held_below n piece) h in
        let known = width_at s (first_of (nat_lt s n) (held_below n e) front) in
        ap (λ k. extended signed k w
        (replaced_bits k high low (value B E (exchanged A instead e))
        (value B E (exchanged A instead piece)))) known
        ∙ ap (extended signed (signal_width A s) w) (ap₂ (replaced_bits (signal_width A s) high low)
        (exchanged_value e (second_of (nat_lt s n) (held_below n e) front)
        (good_left (reads A e) (reads A piece) good))
        (exchanged_value piece (second_of (nat_lt s n && held_below n e) (held_below n piece) h)
        (good_right (reads A e) (reads A piece) good)))
    exchanged_node_value (slice e high low) w signed h good =
        ap (bits_between high low) (exchanged_value e h good)

    exchanged_joined : (es : TypedTrees) → IsTrue (parts_held_below n es)
        → AllGood (parts_reads A es)
        → joined B E (exchanged_parts A instead es) ≡ joined A F es
    exchanged_joined no_parts h good = refl
    exchanged_joined (more_parts e es) h good =
        ap (λ k. value B E (exchanged A instead e) * 2 ^ k + joined B E
        (exchanged_parts A instead es)) (parts_same_width es)
        ∙ ap₂ (λ x y. x * 2 ^ parts_width es + y)
        (exchanged_value e (first_of (held_below n e) (parts_held_below n es) h)
        (good_left (reads A e) (parts_reads A es) good))
        (exchanged_joined es (second_of (held_below n e) (parts_held_below n es) h)
        (good_right (reads A e) (parts_reads A es) good))

    exchanged_number : (t : TypedTree) → IsTrue (held_below n t) → AllGood (reads A t)
        → number_of B E (exchanged A instead t) ≡ number_of A F t
    exchanged_number (typed w signed node) h good =
        ap (as_number w signed) (exchanged_node_value node w signed h good)

    exchanged_cut : (t : TypedTree) (s : ℕ) → IsTrue (nat_lt s n) → IsTrue (held_below n t)
        → AllGood (reads A t)
        → cut_value B E s (exchanged A instead t) ≡ cut_value A F s t
    exchanged_cut (typed w signed node) s known h good =
        ap₂ (λ x k. x % 2 ^ k) (exchanged_node_value node w signed h good) (width_at s known)

-- ---- names

-- a signal is named in an expression
abbrev pub Names : List SignalForm → TypedTree → ℕ → Type 0
Names A t x = (r : ReadForm) × Contains (reads A t) r × (r.signal ≡ x)

abbrev NamesIn : List ReadForm → ℕ → Type 0
NamesIn rs x = (r : ReadForm) × Contains rs r × (r.signal ≡ x)

names_either : (xs ys : List ReadForm) (x : ℕ) → NamesIn (xs ++ ys) x → NamesIn xs x ⊎ NamesIn ys x
names_either xs ys x named = ⊎_elim
    (λ l. inl (named.0, l, named.2))
    (λ r. inr (named.0, r, named.2))
    (Contains-either xs ys named.0 named.1)

names_cons : (r : ReadForm) (rs : List ReadForm) (x : ℕ) → NamesIn (r ∷ rs) x →
    (r.signal ≡ x) ⊎ NamesIn rs x
names_cons r rs x named = ⊎_elim
    (λ is. inl (ap (λ (z : ReadForm). z.signal) is ∙ named.2))
    (λ later. inr (named.0, later, named.2))
    (Contains-cases r rs named.0 named.1)

no_names : (x : ℕ) → NamesIn [] x → ⊥
no_names x named = Contains-nil named.0 named.1

pub indexed_is : (A : List SignalForm) (c : Bool) (s : ℕ) (p : Place) (k : ℤ) →
    (cond c (bit_read s p k) (whole_read A s p)).signal ≡ s
indexed_is A true s p (pos k) = refl
indexed_is A true s p (negsuc k) = refl
indexed_is A false s p k = refl

module _ (A B : List SignalForm) (instead : ReadForm → Instead) where
  -- the name comes from what stands for another
  abbrev pub Comes : ℕ → Instead → Type 0
  Comes x (name t) = t ≡ x
  Comes x (content s e) = Names B e x

  abbrev pub From : List ReadForm → ℕ → Type 0
  From rs x = (r : ReadForm) × Contains rs r × Comes x (instead r)

  from_left : (xs ys : List ReadForm) (x : ℕ) → From xs x → From (xs ++ ys) x
  from_left xs ys x from = (from.0, Contains-left xs ys from.0 from.1, from.2)

  from_right : (xs ys : List ReadForm) (x : ℕ) → From ys x → From (xs ++ ys) x
  from_right xs ys x from = (from.0, Contains-right xs ys from.0 from.1, from.2)

  whole_comes : (i : Instead) (p : Place) (x : ℕ) → NamesIn (node_reads B (for_whole i p)) x →
      Comes x i
  whole_comes (name t) p x named =
      ⊎_elim (λ is. is) (λ none.
      absurd (no_names x none)) (names_cons (whole_read B t p) [] x named)
  whole_comes (content s e) p x named = named

  part_comes : (i : Instead) (p : Place) (high low x : ℕ) →
      NamesIn (node_reads B (for_part i p high low)) x → Comes x i
  part_comes (name t) p high low x named = ⊎_elim (λ is. is) (λ none. absurd (no_names x none))
      (names_cons (record { signal = t; place = p; high = high; low = low }) [] x named)
  part_comes (content s e) p high low x named = named

  bit_comes : (i : Instead) (p : Place) (index : TypedTree) (x : ℕ)
      → NamesIn (node_reads B (for_bit i p index)) x
      → Comes x i ⊎ NamesIn (reads B index) x
  bit_comes (name t) p index x named = ⊎_elim
      (λ is. inl (sym (indexed_is B (is_constant index) t p (number_of B (λ z. 0) index)) ∙ is))
      (λ later. inr later)
      (names_cons (indexed_read B t p index) (reads B index) x named)
  bit_comes (content s e) p index x named = names_either (reads B e) (reads B index) x named

  mutual
    -- the names in the expression come from what stands for the names that were in it
    pub exchanged_names : (t : TypedTree) (x : ℕ) → NamesIn (reads B (exchanged A instead t)) x →
        From (reads A t) x
    exchanged_names (typed w signed node) x named = exchanged_node_names node x named

    exchanged_node_names : (node : NodeTree) (x : ℕ) →
        NamesIn (node_reads B (exchanged_node A instead node)) x → From (node_reads A node) x
    exchanged_node_names (constant k) x named = absurd (no_names x named)
    exchanged_node_names (read s p) x named =
        let r = whole_read A s p in (r, Contains-head r [], whole_comes (instead r) p x named)
    exchanged_node_names (read_bit s p i) x named =
        let r = indexed_read A s p i in
        ⊎_elim
        (λ here. (r, Contains-head r (reads A i), here))
        (λ later. let from = exchanged_names i x later in
        (from.0, Contains-later r (reads A i) from.0 from.1, from.2))
        (bit_comes (instead r) p (exchanged A instead i) x named)
    exchanged_node_names (read_part s p high low) x named =
        let r = part_read s p high low in
        (r, Contains-head r [], part_comes (instead r) p high low x named)
    exchanged_node_names (unary op a) x named = exchanged_names a x named
    exchanged_node_names (binary op a b) x named = ⊎_elim
        (λ l. from_left (reads A a) (reads A b) x (exchanged_names a x l))
        (λ r. from_right (reads A a) (reads A b) x (exchanged_names b x r))
        (names_either (reads B (exchanged A instead a)) (reads B (exchanged A instead b)) x named)
    exchanged_node_names (choice p c a b) x named = ⊎_elim
        (λ l. from_left (reads A c ++ reads A a) (reads A b) x (⊎_elim
        (λ k. from_left (reads A c) (reads A a) x (exchanged_names c x k))
        (λ k. from_right (reads A c) (reads A a) x (exchanged_names a x k))
        (names_either (reads B (exchanged A instead c)) (reads B (exchanged A instead a)) x l)))
        (λ r. from_right (reads A c ++ reads A a) (reads A b) x (exchanged_names b x r))
        (names_either (reads B (exchanged A instead c) ++ reads B (exchanged A instead a))
        (reads B (exchanged A instead b)) x named)
    exchanged_node_names (join es) x named = exchanged_parts_names es x named
    exchanged_node_names (replication count es) x named = exchanged_parts_names es x named
    exchanged_node_names (held s e) x named = exchanged_names e x named
    exchanged_node_names (held_bit s p e i) x named = ⊎_elim
        (λ l. from_left (reads A e) (reads A i) x (exchanged_names e x l))
        (λ r. from_right (reads A e) (reads A i) x (exchanged_names i x r))
        (names_either (reads B (exchanged A instead e)) (reads B (exchanged A instead i)) x named)
    exchanged_node_names (held_part s p e high low) x named = exchanged_names e x named
    exchanged_node_names (mend s e high low piece) x named = ⊎_elim
        (λ l. from_left (reads A e) (reads A piece) x (exchanged_names e x l))
        (λ r. from_right (reads A e) (reads A piece) x (exchanged_names piece x r))
        (names_either (reads B (exchanged A instead e)) (reads B (exchanged A instead piece))
        x named)
    exchanged_node_names (slice e high low) x named = exchanged_names e x named

    exchanged_parts_names : (es : TypedTrees) (x : ℕ) →
        NamesIn (parts_reads B (exchanged_parts A instead es)) x → From (parts_reads A es) x
    exchanged_parts_names no_parts x named = absurd (no_names x named)
    exchanged_parts_names (more_parts e es) x named = ⊎_elim
        (λ l. from_left (reads A e) (parts_reads A es) x (exchanged_names e x l))
        (λ r. from_right (reads A e) (parts_reads A es) x (exchanged_parts_names es x r))
        (names_either (reads B (exchanged A instead e))
        (parts_reads B (exchanged_parts A instead es)) x named)

-- ---- agreement

module _ (A : List SignalForm) (n : ℕ) (E F : Environment ℕ) where
  abbrev itself : ReadForm → Instead
  itself r = name r.signal

  -- an expression has one value in environments that agree on its names
  pub same_names : (t : TypedTree) → IsTrue (held_below n t)
      → ((r : ReadForm) → Contains (reads A t) r → E r.signal ≡ F r.signal)
      → value A E t ≡ value A F t
  same_names t h same =
      sym (exchanged_value A A itself E E n (λ s low. refl) t h (λ r at. (refl, refl)))
      ∙ exchanged_value A A itself E F n (λ s low. refl) t h (λ r at. (refl, same r at))
