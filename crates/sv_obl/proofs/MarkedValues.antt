-- An expression in which names stand for names has the value that it had, where each name that
-- stands for another has the bits that are read of it.
use Rattle.std.proofs.Common.{◌≡◌, ℕ, ◌+◌, ◌-◌, ◌*◌, ◌%◌, ◌^◌, ◌<◌, ◌≤◌, Bool, true, false, cond}
use Rattle.std.proofs.Common.{◌&&◌, not, nat_lt, nat_le, leb-true, ltb-true, List, [], ◌++◌, ◌⊎◌}
use Rattle.std.proofs.Common.{⊎_elim, refl, sym, ap, ap₂, subst, ◌∙◌, arith, ℤ, pos, negsuc}
use Rattle.std.specs.Prelude.{Contains, IsTrue}
use Rattle.std.specs.Int.{bit_at}
use Rattle.std.proofs.lemmas.Bool.{false≢true}
use Rattle.std.proofs.lemmas.Nat.Bits.{same_from_bits_below}
use Rattle.sv_num.specs.Vectors.{as_number, is_true}
use Rattle.sv_num.specs.UnaryValues.{unary_value}
use Rattle.sv_num.specs.BinaryValues.{binary_value, class_of, is_division}
use Rattle.sv_num.specs.Parts.{extended, bits_between, bit_or_zero, replaced_bits, repeated}
use Rattle.sv_num.specs.declared.faults.Place.{Place}
use Rattle.sv_system.specs.System.{Environment}
use Rattle.sv_system.proofs.Lists.{Contains-head, Contains-later, Contains-nil}
use Rattle.sv_flat.specs.Design.{SignalForm, TypedTree, typed, NodeTree, constant, read, read_bit}
use Rattle.sv_flat.specs.Design.{read_part, unary, binary, choice, join, replication, held}
use Rattle.sv_flat.specs.Design.{held_bit, held_part, mend, slice, TypedTrees, no_parts, more_parts}
use Rattle.sv_flat.specs.Values.{signal_width, expression_width, parts_width, value, node_value}
use Rattle.sv_flat.specs.Values.{joined, number_of, cut_value}
use Rattle.sv_flat.specs.Soundness.{is_one_to, is_signal, has_type, is_part_of, unary_typed}
use Rattle.sv_flat.specs.Soundness.{binary_typed, well_formed, node_well_formed}
use Rattle.sv_flat.specs.Soundness.{parts_well_formed}
use Rattle.sv_flat.specs.Readings.{ReadForm, whole_read, bit_read, indexed_read, is_constant}
use Rattle.sv_flat.specs.Readings.{is_constant_node, are_constant, reads, node_reads, parts_reads}
use Rattle.sv_flat.proofs.Members.{Contains-left, Contains-right, Contains-either}
use Rattle.sv_flat.proofs.Depths.{first_of, second_of}
use Rattle.sv_flat.proofs.ReplacedBits.{same_bits_between}
use Rattle.sv_obl.specs.Exchange.{Instead, name, exchanged, exchanged_node, exchanged_parts}

chosen_same : (c d a b x y : ℕ) → c ≡ d → a ≡ b → x ≡ y →
    cond (is_true c) a x ≡ cond (is_true d) b y
chosen_same c d a b x y cd ab xy =
    subst (λ z. cond (is_true c) a x ≡ cond (is_true z) b y) cd (ap₂ (cond (is_true c)) ab xy)

same_cond : (b : Bool) (x y : ℕ) → (IsTrue b → x ≡ y) → cond b x 0 ≡ cond b y 0
same_cond true x y same = same refl
same_cond false x y same = refl

-- ---- constants

module _ (A : List SignalForm) where
  none_left : (xs ys : List ReadForm) (r : ReadForm) → (Contains xs r → ⊥) → (Contains ys r → ⊥) →
      Contains (xs ++ ys) r → ⊥
  none_left xs ys r no_left no_right at = ⊎_elim no_left no_right (Contains-either xs ys r at)

  -- a constant names no signal
  mutual
    no_reads : (t : TypedTree) → IsTrue (is_constant t) → (r : ReadForm) →
        Contains (reads A t) r → ⊥
    no_reads (typed w s node) h r at = no_node_reads node h r at

    no_node_reads : (node : NodeTree) → IsTrue (is_constant_node node) → (r : ReadForm) →
        Contains (node_reads A node) r → ⊥
    no_node_reads (constant n) h r at = Contains-nil r at
    no_node_reads (read s p) h r at = absurd (false≢true h)
    no_node_reads (read_bit s p i) h r at = absurd (false≢true h)
    no_node_reads (read_part s p high low) h r at = absurd (false≢true h)
    no_node_reads (unary op e) h r at = no_reads e h r at
    no_node_reads (binary op a b) h r at = none_left (reads A a) (reads A b) r
        (no_reads a (first_of (is_constant a) (is_constant b) h) r)
        (no_reads b (second_of (is_constant a) (is_constant b) h) r) at
    no_node_reads (choice p c a b) h r at =
        let both = first_of (is_constant c && is_constant a) (is_constant b) h in
        none_left (reads A c ++ reads A a) (reads A b) r
        (none_left (reads A c) (reads A a) r
        (no_reads c (first_of (is_constant c) (is_constant a) both) r)
        (no_reads a (second_of (is_constant c) (is_constant a) both) r))
        (no_reads b (second_of (is_constant c && is_constant a) (is_constant b) h) r) at
    no_node_reads (join es) h r at = no_parts_reads es h r at
    no_node_reads (replication count es) h r at = no_parts_reads es h r at
    no_node_reads (held s e) h r at = absurd (false≢true h)
    no_node_reads (held_bit s p e i) h r at = absurd (false≢true h)
    no_node_reads (held_part s p e high low) h r at = absurd (false≢true h)
    no_node_reads (mend s e high low piece) h r at = absurd (false≢true h)
    no_node_reads (slice e high low) h r at = no_reads e h r at

    no_parts_reads : (es : TypedTrees) → IsTrue (are_constant es) → (r : ReadForm) →
        Contains (parts_reads A es) r → ⊥
    no_parts_reads no_parts h r at = Contains-nil r at
    no_parts_reads (more_parts e es) h r at = none_left (reads A e) (parts_reads A es) r
        (no_reads e (first_of (is_constant e) (are_constant es) h) r)
        (no_parts_reads es (second_of (is_constant e) (are_constant es) h) r) at

-- ---- names for names

module _ (A B : List SignalForm) (renamed : ReadForm → ℕ) (E : Environment ℕ)
    (positive : (s : ℕ) → IsTrue (is_signal A s) → 0 < signal_width A s)
    (widths : (s : ℕ) → IsTrue (is_signal A s) → signal_width B s ≡ signal_width A s) where
  abbrev instead : ReadForm → Instead
  instead r = name (renamed r)

  -- the name that stands for another has its width, and its value or each bit that is read of it
  abbrev pub SameBits : Environment ℕ → ReadForm → Type 0
  SameBits F r = (signal_width B (renamed r) ≡ signal_width A r.signal)
      × ((E (renamed r) ≡ F r.signal)
      ⊎ ((b : ℕ) → r.low ≤ b → b ≤ r.high → b < signal_width A r.signal
      → (E (renamed r) < 2 ^ signal_width A r.signal)
      × (F r.signal < 2 ^ signal_width A r.signal)
      × (bit_at (E (renamed r)) b ≡ bit_at (F r.signal) b)))

  abbrev pub AllSameBits : Environment ℕ → List ReadForm → Type 0
  AllSameBits F rs = (r : ReadForm) → Contains rs r → SameBits F r

  same_whole : (F : Environment ℕ) (s : ℕ) (p : Place) → 0 < signal_width A s →
      SameBits F (whole_read A s p) → E (renamed (whole_read A s p)) ≡ F s
  same_whole F s p some same = ⊎_elim
      (λ is. is)
      (λ bits.
      let lowest = bits 0 (omega arith) (omega arith) some in
      same_from_bits_below (signal_width A s) (E (renamed (whole_read A s p))) (F s) lowest.0
      lowest.1 (λ i below. (bits i (omega arith) (omega arith) below).2))
      same.1

  same_bit : (F : Environment ℕ) (s : ℕ) (p : Place) (i : ℤ) → SameBits F (bit_read s p i)
      → bit_or_zero (signal_width A s) (E (renamed (bit_read s p i))) i
      ≡ bit_or_zero (signal_width A s) (F s) i
  same_bit F s p (pos i) same =
      same_cond (nat_lt i (signal_width A s)) (bit_at (E (renamed (bit_read s p (pos i)))) i)
      (bit_at (F s) i)
      (λ below. ⊎_elim
      (λ is. ap (λ z. bit_at z i) is)
      (λ bits. (bits i (omega arith) (omega arith) (ltb-true i (signal_width A s) below)).2)
      same.1)
  same_bit F s p (negsuc i) same = refl

  -- the width of a name that stands for a bit's
  bit_width : (F : Environment ℕ) (s : ℕ) (p : Place) (i : ℤ) → SameBits F (bit_read s p i)
      → signal_width B (renamed (bit_read s p i)) ≡ signal_width A s
  bit_width F s p (pos i) same = same.0
  bit_width F s p (negsuc i) same = same.0

  indexed : (c : Bool) (F : Environment ℕ) (s : ℕ) (p : Place) (i j k : ℤ)
      → 0 < signal_width A s → (IsTrue c → k ≡ j) → i ≡ j
      → SameBits F (cond c (bit_read s p k) (whole_read A s p))
      → bit_or_zero (signal_width B (renamed (cond c (bit_read s p k) (whole_read A s p))))
      (E (renamed (cond c (bit_read s p k) (whole_read A s p)))) i
      ≡ bit_or_zero (signal_width A s) (F s) j
  indexed true F s p i j k some is same_index same =
      ap₂ (λ w x. bit_or_zero w (E (renamed (bit_read s p k))) x) (bit_width F s p k same)
      (same_index ∙ sym (is refl))
      ∙ same_bit F s p k same
      ∙ ap (bit_or_zero (signal_width A s) (F s)) (is refl)
  indexed false F s p i j k some is same_index same =
      ap (λ w. bit_or_zero w (E (renamed (whole_read A s p))) i) same.0
      ∙ ap₂ (bit_or_zero (signal_width A s)) (same_whole F s p some same) same_index

  parts_same_width : (es : TypedTrees) → parts_width (exchanged_parts A instead es) ≡ parts_width es
  parts_same_width no_parts = refl
  parts_same_width (more_parts (typed w signed node) es) = ap (λ k. w + k) (parts_same_width es)

  same_left : (F : Environment ℕ) (xs ys : List ReadForm) → AllSameBits F (xs ++ ys) →
      AllSameBits F xs
  same_left F xs ys same r at = same r (Contains-left xs ys r at)

  same_right : (F : Environment ℕ) (xs ys : List ReadForm) → AllSameBits F (xs ++ ys) →
      AllSameBits F ys
  same_right F xs ys same r at = same r (Contains-right xs ys r at)

  mutual
    -- a well formed expression has the value that it had
    pub renamed_value : (t : TypedTree) → IsTrue (well_formed A t) → (F : Environment ℕ)
        → AllSameBits F (reads A t)
        → value B E (exchanged A instead t) ≡ value A F t
    renamed_value (typed w s node) h F same = renamed_node node w s
        (second_of (is_one_to 64 w) (node_well_formed A w s node) h) F same

    renamed_node : (node : NodeTree) (w : ℕ) (signed : Bool)
        → IsTrue (node_well_formed A w signed node) → (F : Environment ℕ)
        → AllSameBits F (node_reads A node)
        → node_value B E w signed (exchanged_node A instead node) ≡ node_value A F w signed node
    renamed_node (constant n) w signed h F same = refl
    renamed_node (read s p) w signed h F same =
        let r = whole_read A s p in
        let here = same r (Contains-head r []) in
        ap₂ (λ k x. extended signed k w x) here.0
        (same_whole F s p (positive s
        (first_of (is_signal A s) (nat_le (signal_width A s) w) h)) here)
    renamed_node (read_bit s p i) w signed h F same =
        let i_is = second_of (is_signal A s) (well_formed A i) h in
        let later = λ (r : ReadForm) (at : Contains (reads A i) r).
        same r (Contains-later (indexed_read A s p i) (reads A i) r at) in
        indexed (is_constant i) F s p (number_of B E (exchanged A instead i)) (number_of A F i)
        (number_of A (λ t. 0) i)
        (positive s (first_of (is_signal A s) (well_formed A i) h))
        (λ c. sym (renamed_number i i_is (λ t. 0) (λ r at. absurd (no_reads A i c r at)))
        ∙ renamed_number i i_is F later)
        (renamed_number i i_is F later)
        (same (indexed_read A s p i) (Contains-head (indexed_read A s p i) (reads A i)))
    renamed_node (read_part s p high low) w signed h F same =
        let n = signal_width A s in
        let r : ReadForm = record { signal = s; place = p; high = high; low = low } in
        let here = same r (Contains-head r []) in
        let both = first_of (nat_le low high && nat_lt high n) (nat_le (high + 1 - low) w)
        (second_of (is_signal A s) (is_part_of n w high low) h) in
        let ordered = leb-true low high (first_of (nat_le low high) (nat_lt high n) both) in
        let inside = ltb-true high n (second_of (nat_le low high) (nat_lt high n) both) in
        ⊎_elim
        (λ is. ap (bits_between high low) is)
        (λ bits. same_bits_between high low (E (renamed r)) (F s) (λ b from to.
        (bits b from to (omega arith)).2))
        here.1
    renamed_node (unary op (typed v q m)) w signed h F same =
        let a = typed v q m in
        ap (unary_value op v q) (renamed_node m v q
        (second_of (is_one_to 64 v) (node_well_formed A v q m)
        (second_of (unary_typed op w signed a) (well_formed A a) h)) F same)
    renamed_node (binary op (typed v q l) (typed u o m)) w signed h F same =
        let a = typed v q l in
        let b = typed u o m in
        let kind = not (is_division op) && binary_typed (class_of op) w signed a b in
        ap₂ (binary_value op v q)
        (renamed_node l v q
        (second_of (is_one_to 64 v) (node_well_formed A v q l)
        (second_of kind (well_formed A a)
        (first_of (kind && well_formed A a) (well_formed A b) h))) F
        (same_left F (node_reads A l) (node_reads A m) same))
        (renamed_node m u o
        (second_of (is_one_to 64 u) (node_well_formed A u o m)
        (second_of (kind && well_formed A a) (well_formed A b) h)) F
        (same_right F (node_reads A l) (node_reads A m) same))
    renamed_node (choice p c a b) w signed h F same =
        let both = same_left F (reads A c ++ reads A a) (reads A b) same in
        let types = has_type w signed a && has_type w signed b in
        let front = first_of (types && well_formed A c && well_formed A a) (well_formed A b) h in
        chosen_same (value B E (exchanged A instead c)) (value A F c)
        (value B E (exchanged A instead a)) (value A F a)
        (value B E (exchanged A instead b)) (value A F b)
        (renamed_value c (second_of types (well_formed A c)
        (first_of (types && well_formed A c) (well_formed A a) front)) F
        (same_left F (reads A c) (reads A a) both))
        (renamed_value a (second_of (types && well_formed A c) (well_formed A a) front) F
        (same_right F (reads A c) (reads A a) both))
        (renamed_value b (second_of (types && well_formed A c && well_formed A a)
        (well_formed A b) h) F
        (same_right F (reads A c ++ reads A a) (reads A b) same))
    renamed_node (join es) w signed h F same = renamed_joined es
        (second_of (nat_le (parts_width es) w) (parts_well_formed A es) h) F same
    renamed_node (replication count es) w signed h F same =
        ap₂ (repeated count) (parts_same_width es)
        (renamed_joined es (second_of (is_one_to 64 count && nat_le (count * parts_width es) w)
        (parts_well_formed A es) h) F same)
    renamed_node (held s t) w signed h F same =
        let front = first_of (is_signal A s && nat_le (signal_width A s) w) (well_formed A t) h in
        ap₂ (λ k x. extended signed k w x)
        (widths s (first_of (is_signal A s) (nat_le (signal_width A s) w) front))
        (renamed_cut t s (first_of (is_signal A s) (nat_le (signal_width A s) w) front)
        (second_of (is_signal A s && nat_le (signal_width A s) w) (well_formed A t) h) F same)
    renamed_node (held_bit s p t i) w signed h F same =
        let front = first_of (is_signal A s && well_formed A t) (well_formed A i) h in
        let known = first_of (is_signal A s) (well_formed A t) front in
        ap (λ k. bit_or_zero k (cut_value B E s (exchanged A instead t))
        (number_of B E (exchanged A instead i))) (widths s known)
        ∙ ap₂ (bit_or_zero (signal_width A s))
        (renamed_cut t s known (second_of (is_signal A s) (well_formed A t) front) F
        (same_left F (reads A t) (reads A i) same))
        (renamed_number i (second_of (is_signal A s && well_formed A t) (well_formed A i) h) F
        (same_right F (reads A t) (reads A i) same))
    renamed_node (held_part s p t high low) w signed h F same =
        let part = is_part_of (signal_width A s) w high low in
        let front = first_of (is_signal A s && part) (well_formed A t) h in
        ap (bits_between high low)
        (renamed_cut t s (first_of (is_signal A s) part front)
        (second_of (is_signal A s && part) (well_formed A t) h) F same)
    renamed_node (mend s t high low piece) w signed h F same =
        let part = is_part_of (signal_width A s) (expression_width piece) high low in
        let shape = is_signal A s && nat_le (signal_width A s) w && part in
        let front = first_of (shape && well_formed A t) (well_formed A piece) h in
        let known = first_of (is_signal A s) (nat_le (signal_width A s) w)
        (first_of (is_signal A s && nat_le (signal_width A s) w) part
        (first_of shape (well_formed A t) front)) in
        ap (λ k. extended signed k w
        (replaced_bits k high low (value B E (exchanged A instead t))
        (value B E (exchanged A instead piece)))) (widths s known)
        ∙ ap (extended signed (signal_width A s) w)
        (ap₂ (replaced_bits (signal_width A s) high low)
        (renamed_value t (second_of shape (well_formed A t) front) F
        (same_left F (reads A t) (reads A piece) same))
        (renamed_value piece (second_of (shape && well_formed A t) (well_formed A piece) h) F
        (same_right F (reads A t) (reads A piece) same)))
    renamed_node (slice t high low) w signed h F same = ap (bits_between high low)
        (renamed_value t (second_of (is_part_of (expression_width t) w high low)
        (well_formed A t) h) F same)

    renamed_joined : (es : TypedTrees) → IsTrue (parts_well_formed A es) → (F : Environment ℕ)
        → AllSameBits F (parts_reads A es)
        → joined B E (exchanged_parts A instead es) ≡ joined A F es
    renamed_joined no_parts h F same = refl
    renamed_joined (more_parts t es) h F same =
        ap (λ k. value B E (exchanged A instead t) * 2 ^ k
        + joined B E (exchanged_parts A instead es)) (parts_same_width es)
        ∙ ap₂ (λ x y. x * 2 ^ parts_width es + y)
        (renamed_value t (first_of (well_formed A t) (parts_well_formed A es) h) F
        (same_left F (reads A t) (parts_reads A es) same))
        (renamed_joined es (second_of (well_formed A t) (parts_well_formed A es) h) F
        (same_right F (reads A t) (parts_reads A es) same))

    renamed_number : (t : TypedTree) → IsTrue (well_formed A t) → (F : Environment ℕ)
        → AllSameBits F (reads A t)
        → number_of B E (exchanged A instead t) ≡ number_of A F t
    renamed_number (typed w s node) h F same = ap (as_number w s)
        (renamed_node node w s (second_of (is_one_to 64 w) (node_well_formed A w s node) h) F same)

    renamed_cut : (t : TypedTree) (s : ℕ) → IsTrue (is_signal A s) → IsTrue (well_formed A t)
        → (F : Environment ℕ) → AllSameBits F (reads A t)
        → cut_value B E s (exchanged A instead t) ≡ cut_value A F s t
    renamed_cut (typed w signed node) s known h F same = ap₂ (λ x k. x % 2 ^ k)
        (renamed_node node w signed
        (second_of (is_one_to 64 w) (node_well_formed A w signed node) h) F same)
        (widths s known)
