-- Expressions in which names stand for other names of the same widths: they are well formed, and
-- name those.
use Rattle.std.proofs.Common.{◌≡◌, ℕ, ◌+◌, ◌*◌, Bool, true, false, ◌&&◌, not, nat_le, cond}
use Rattle.std.proofs.Common.{List, [], ◌∷◌, ◌++◌, refl, sym, subst}
use Rattle.std.specs.Prelude.{Contains, IsTrue, ℤ, pos, negsuc}
use Rattle.sv_num.specs.declared.faults.Place.{Place}
use Rattle.sv_num.specs.BinaryValues.{class_of, is_division}
use Rattle.sv_system.proofs.Lists.{Contains-head, Contains-later}
use Rattle.sv_flat.specs.Design.{SignalForm, TypedTree, typed, NodeTree, constant, read, read_bit}
use Rattle.sv_flat.specs.Design.{read_part, unary, binary, choice, join, replication, held}
use Rattle.sv_flat.specs.Design.{held_bit, held_part, mend, slice, TypedTrees, no_parts, more_parts}
use Rattle.sv_flat.specs.Values.{signal_width, expression_width, parts_width, number_of}
use Rattle.sv_flat.specs.Soundness.{is_one_to, is_signal, has_type, is_part_of, unary_typed}
use Rattle.sv_flat.specs.Soundness.{binary_typed, well_formed, node_well_formed, parts_well_formed}
use Rattle.sv_flat.specs.Readings.{ReadForm, reads, node_reads, parts_reads, indexed_read}
use Rattle.sv_flat.specs.Readings.{is_constant, bit_read, whole_read}
use Rattle.sv_flat.proofs.Members.{Contains-left, Contains-right}
use Rattle.sv_flat.proofs.AdmittedFacts.{and_true}
use Rattle.sv_flat.proofs.Depths.{first_of, second_of}
use Rattle.sv_obl.specs.Exchange.{Instead, name, content, for_whole, for_bit, for_part, exchanged}
use Rattle.sv_obl.specs.Exchange.{exchanged_node, exchanged_parts}
use Rattle.sv_obl.proofs.ExchangedTypes.{parts_same, unary_same, binary_same, type_same}
use Rattle.sv_obl.proofs.ExchangedTypes.{part_same, piece_same}
use Rattle.sv_encoding_laws.proofs.ExpressionLaws.{Named, NamedNode, NamedParts}

pub indexed_signal : (signals : List SignalForm) (s : ℕ) (p : Place) (i : TypedTree) →
    (indexed_read signals s p i).signal ≡ s
indexed_signal signals s p i = by (is_constant i)
  where
    of_bit : (z : ℤ) → (bit_read s p z).signal ≡ s
    of_bit (pos k) = refl
    of_bit (negsuc k) = refl

    by : (c : Bool) → (cond c (bit_read s p (number_of signals (λ t. 0) i))
        (whole_read signals s p)).signal ≡ s
    by true = of_bit (number_of signals (λ t. 0) i)
    by false = refl

module _ (A B : List SignalForm) (instead : ReadForm → Instead) (P : ℕ → Type 0)
    (same : (s : ℕ) → IsTrue (is_signal A s) →
    IsTrue (is_signal B s) × (signal_width B s ≡ signal_width A s)) where
  -- a name of the width of what is read, with the property
  abbrev pub IsFit : (s : ℕ) → Instead → Type 0
  IsFit s (name t) = IsTrue (is_signal B t) × ((signal_width B t ≡ signal_width A s) × P t)
  IsFit s (content t e) = ⊥

  abbrev pub AllFit : List ReadForm → Type 0
  AllFit rs = (r : ReadForm) → Contains rs r → IsFit r.signal (instead r)

  left : (xs ys : List ReadForm) → AllFit (xs ++ ys) → AllFit xs
  left xs ys all r at = all r (Contains-left xs ys r at)

  right : (xs ys : List ReadForm) → AllFit (xs ++ ys) → AllFit ys
  right xs ys all r at = all r (Contains-right xs ys r at)

  later : (r : ReadForm) (rest : List ReadForm) → AllFit (r ∷ rest) → AllFit rest
  later r rest all x at = all x (Contains-later r rest x at)

  by_index : (s : ℕ) (p : Place) (i : TypedTree) (rest : List ReadForm) →
      AllFit (indexed_read A s p i ∷ rest) → IsFit s (instead (indexed_read A s p i))
  by_index s p i rest all =
      let r = indexed_read A s p i in
      subst (λ z. IsFit z (instead r)) (indexed_signal A s p i) (all r (Contains-head r rest))

  -- ---- what is named

  named_whole : (s : ℕ) (p : Place) (i : Instead) → IsFit s i → NamedNode P (for_whole i p)
  named_whole s p (name t) fit = fit.1.1
  named_whole s p (content t e) fit = absurd fit

  named_bit : (s : ℕ) (p : Place) (index : TypedTree) (i : Instead) → IsFit s i →
      Named P index → NamedNode P (for_bit i p index)
  named_bit s p index (name t) fit h = (fit.1.1, h)
  named_bit s p index (content t e) fit h = absurd fit

  named_part : (s : ℕ) (p : Place) (high low : ℕ) (i : Instead) → IsFit s i →
      NamedNode P (for_part i p high low)
  named_part s p high low (name t) fit = fit.1.1
  named_part s p high low (content t e) fit = absurd fit

  mutual
    pub named_instead : (t : TypedTree) → AllFit (reads A t) → Named P (exchanged A instead t)
    named_instead (typed w signed node) all = named_node_instead node all

    named_node_instead : (node : NodeTree) → AllFit (node_reads A node) →
        NamedNode P (exchanged_node A instead node)
    named_node_instead (constant n) all = tt
    named_node_instead (read s p) all =
        let r = whole_read A s p in named_whole s p (instead r) (all r (Contains-head r []))
    named_node_instead (read_bit s p i) all =
        let r = indexed_read A s p i in
        named_bit s p (exchanged A instead i) (instead r) (by_index s p i (reads A i) all)
        (named_instead i (later r (reads A i) all))
    named_node_instead (read_part s p high low) all =
        let r : ReadForm = record { signal = s; place = p; high = high; low = low } in
        named_part s p high low (instead r) (all r (Contains-head r []))
    named_node_instead (unary op a) all = named_instead a all
    named_node_instead (binary op a b) all = (
      named_instead a (left (reads A a) (reads A b) all),
      named_instead b (right (reads A a) (reads A b) all),
    )
    named_node_instead (choice p c a b) all =
        let both = left (reads A c ++ reads A a) (reads A b) all in (
          named_instead c (left (reads A c) (reads A a) both),
          (
            named_instead a (right (reads A c) (reads A a) both),
            named_instead b (right (reads A c ++ reads A a) (reads A b) all),
          ),
        )
    named_node_instead (join es) all = named_parts_instead es all
    named_node_instead (replication count es) all = named_parts_instead es all
    named_node_instead (held s e) all = named_instead e all
    named_node_instead (held_bit s p e i) all = (
      named_instead e (left (reads A e) (reads A i) all),
      named_instead i (right (reads A e) (reads A i) all),
    )
    named_node_instead (held_part s p e high low) all = named_instead e all
    named_node_instead (mend s e high low piece) all = (
      named_instead e (left (reads A e) (reads A piece) all),
      named_instead piece (right (reads A e) (reads A piece) all),
    )
    named_node_instead (slice e high low) all = named_instead e all

    named_parts_instead : (es : TypedTrees) → AllFit (parts_reads A es) →
        NamedParts P (exchanged_parts A instead es)
    named_parts_instead no_parts all = tt
    named_parts_instead (more_parts e es) all = (
      named_instead e (left (reads A e) (parts_reads A es) all),
      named_parts_instead es (right (reads A e) (parts_reads A es) all),
    )

  -- ---- well formed

  whole_formed : (s w : ℕ) (signed : Bool) (p : Place) (i : Instead) → IsFit s i →
      IsTrue (is_signal A s && nat_le (signal_width A s) w) →
      IsTrue (node_well_formed B w signed (for_whole i p))
  whole_formed s w signed p (name t) fit h =
      and_true (is_signal B t) (nat_le (signal_width B t) w) fit.0
      (subst (λ k. IsTrue (nat_le k w)) (sym fit.1.0)
      (second_of (is_signal A s) (nat_le (signal_width A s) w) h))
  whole_formed s w signed p (content t e) fit h = absurd fit

  bit_formed : (s w : ℕ) (signed : Bool) (p : Place) (index : TypedTree) (i : Instead) →
      IsFit s i → IsTrue (well_formed B index) →
      IsTrue (node_well_formed B w signed (for_bit i p index))
  bit_formed s w signed p index (name t) fit h =
      and_true (is_signal B t) (well_formed B index) fit.0 h
  bit_formed s w signed p index (content t e) fit h = absurd fit

  part_formed : (s w : ℕ) (signed : Bool) (p : Place) (high low : ℕ) (i : Instead) →
      IsFit s i → IsTrue (is_signal A s && is_part_of (signal_width A s) w high low) →
      IsTrue (node_well_formed B w signed (for_part i p high low))
  part_formed s w signed p high low (name t) fit h =
      and_true (is_signal B t) (is_part_of (signal_width B t) w high low) fit.0
      (subst (λ k. IsTrue (is_part_of k w high low)) (sym fit.1.0)
      (second_of (is_signal A s) (is_part_of (signal_width A s) w high low) h))
  part_formed s w signed p high low (content t e) fit h = absurd fit

  mutual
    pub formed_instead : (t : TypedTree) → IsTrue (well_formed A t) → AllFit (reads A t) →
        IsTrue (well_formed B (exchanged A instead t))
    formed_instead (typed w signed node) h all =
        and_true (is_one_to 64 w) (node_well_formed B w signed (exchanged_node A instead node))
        (first_of (is_one_to 64 w) (node_well_formed A w signed node) h)
        (node_formed_instead w signed node
        (second_of (is_one_to 64 w) (node_well_formed A w signed node) h) all)

    node_formed_instead : (w : ℕ) (signed : Bool) (node : NodeTree) →
        IsTrue (node_well_formed A w signed node) → AllFit (node_reads A node) →
        IsTrue (node_well_formed B w signed (exchanged_node A instead node))
    node_formed_instead w signed (constant n) h all = h
    node_formed_instead w signed (read s p) h all =
        let r = whole_read A s p in
        whole_formed s w signed p (instead r) (all r (Contains-head r [])) h
    node_formed_instead w signed (read_bit s p i) h all =
        let r = indexed_read A s p i in
        bit_formed s w signed p (exchanged A instead i) (instead r)
        (by_index s p i (reads A i) all)
        (formed_instead i (second_of (is_signal A s) (well_formed A i) h)
        (later r (reads A i) all))
    node_formed_instead w signed (read_part s p high low) h all =
        let r : ReadForm = record { signal = s; place = p; high = high; low = low } in
        part_formed s w signed p high low (instead r) (all r (Contains-head r [])) h
    node_formed_instead w signed (unary op a) h all =
        and_true (unary_typed op w signed (exchanged A instead a))
        (well_formed B (exchanged A instead a))
        (unary_same A instead op w signed a
        (first_of (unary_typed op w signed a) (well_formed A a) h))
        (formed_instead a (second_of (unary_typed op w signed a) (well_formed A a) h) all)
    node_formed_instead w signed (binary op a b) h all =
        let x = exchanged A instead a in
        let y = exchanged A instead b in
        let types = binary_typed (class_of op) w signed a b in
        let front = not (is_division op) && types in
        let three = first_of (front && well_formed A a) (well_formed A b) h in
        let two = first_of front (well_formed A a) three in
        let new = binary_typed (class_of op) w signed x y in
        and_true (not (is_division op) && new && well_formed B x) (well_formed B y)
        (and_true (not (is_division op) && new) (well_formed B x)
        (and_true (not (is_division op)) new (first_of (not (is_division op)) types two)
        (binary_same A instead (class_of op) w signed a b
        (second_of (not (is_division op)) types two)))
        (formed_instead a (second_of front (well_formed A a) three)
        (left (reads A a) (reads A b) all)))
        (formed_instead b (second_of (front && well_formed A a) (well_formed A b) h)
        (right (reads A a) (reads A b) all))
    node_formed_instead w signed (choice p c a b) h all =
        let z = exchanged A instead c in
        let x = exchanged A instead a in
        let y = exchanged A instead b in
        let both = left (reads A c ++ reads A a) (reads A b) all in
        let one = has_type w signed a in
        let two = has_type w signed b in
        let h4 = first_of (one && two && well_formed A c && well_formed A a) (well_formed A b) h in
        let h3 = first_of (one && two && well_formed A c) (well_formed A a) h4 in
        let h2 = first_of (one && two) (well_formed A c) h3 in
        and_true (has_type w signed x && has_type w signed y && well_formed B z && well_formed B x)
        (well_formed B y)
        (and_true (has_type w signed x && has_type w signed y && well_formed B z) (well_formed B x)
        (and_true (has_type w signed x && has_type w signed y) (well_formed B z)
        (and_true (has_type w signed x) (has_type w signed y)
        (type_same A instead w signed a (first_of one two h2))
        (type_same A instead w signed b (second_of one two h2)))
        (formed_instead c (second_of (one && two) (well_formed A c) h3)
        (left (reads A c) (reads A a) both)))
        (formed_instead a (second_of (one && two && well_formed A c) (well_formed A a) h4)
        (right (reads A c) (reads A a) both)))
        (formed_instead b
        (second_of (one && two && well_formed A c && well_formed A a) (well_formed A b) h)
        (right (reads A c ++ reads A a) (reads A b) all))
    node_formed_instead w signed (join es) h all =
        let new = exchanged_parts A instead es in
        and_true (nat_le (parts_width new) w) (parts_well_formed B new)
        (subst (λ k. IsTrue (nat_le k w)) (sym (parts_same A instead es))
        (first_of (nat_le (parts_width es) w) (parts_well_formed A es) h))
        (parts_formed_instead es (second_of (nat_le (parts_width es) w) (parts_well_formed A es) h)
        all)
    node_formed_instead w signed (replication count es) h all =
        let new = exchanged_parts A instead es in
        let few = is_one_to 64 count in
        let front = first_of (few && nat_le (count * parts_width es) w) (parts_well_formed A es) h in
        and_true (few && nat_le (count * parts_width new) w) (parts_well_formed B new)
        (and_true few (nat_le (count * parts_width new) w)
        (first_of few (nat_le (count * parts_width es) w) front)
        (subst (λ k. IsTrue (nat_le (count * k) w)) (sym (parts_same A instead es))
        (second_of few (nat_le (count * parts_width es) w) front)))
        (parts_formed_instead es
        (second_of (few && nat_le (count * parts_width es) w) (parts_well_formed A es) h) all)
    node_formed_instead w signed (held s e) h all =
        let x = exchanged A instead e in
        let front = first_of (is_signal A s && nat_le (signal_width A s) w) (well_formed A e) h in
        let known = same s (first_of (is_signal A s) (nat_le (signal_width A s) w) front) in
        and_true (is_signal B s && nat_le (signal_width B s) w) (well_formed B x)
        (and_true (is_signal B s) (nat_le (signal_width B s) w) known.0
        (subst (λ k. IsTrue (nat_le k w)) (sym known.1)
        (second_of (is_signal A s) (nat_le (signal_width A s) w) front)))
        (formed_instead e
        (second_of (is_signal A s && nat_le (signal_width A s) w) (well_formed A e) h) all)
    node_formed_instead w signed (held_bit s p e i) h all =
        let x = exchanged A instead e in
        let y = exchanged A instead i in
        let front = first_of (is_signal A s && well_formed A e) (well_formed A i) h in
        and_true (is_signal B s && well_formed B x) (well_formed B y)
        (and_true (is_signal B s) (well_formed B x)
        (same s (first_of (is_signal A s) (well_formed A e) front)).0
        (formed_instead e (second_of (is_signal A s) (well_formed A e) front)
        (left (reads A e) (reads A i) all)))
        (formed_instead i (second_of (is_signal A s && well_formed A e) (well_formed A i) h)
        (right (reads A e) (reads A i) all))
    node_formed_instead w signed (held_part s p e high low) h all =
        let x = exchanged A instead e in
        let part = is_part_of (signal_width A s) w high low in
        let front = first_of (is_signal A s && part) (well_formed A e) h in
        let known = same s (first_of (is_signal A s) part front) in
        and_true (is_signal B s && is_part_of (signal_width B s) w high low) (well_formed B x)
        (and_true (is_signal B s) (is_part_of (signal_width B s) w high low) known.0
        (subst (λ k. IsTrue (is_part_of k w high low)) (sym known.1)
        (second_of (is_signal A s) part front)))
        (formed_instead e (second_of (is_signal A s && part) (well_formed A e) h) all)
    node_formed_instead w signed (mend s e high low piece) h all =
        let x = exchanged A instead e in
        let y = exchanged A instead piece in
        let low_enough = nat_le (signal_width A s) w in
        let part = is_part_of (signal_width A s) (expression_width piece) high low in
        let shape = is_signal A s && low_enough && part in
        let h4 = first_of (shape && well_formed A e) (well_formed A piece) h in
        let h3 = first_of shape (well_formed A e) h4 in
        let h2 = first_of (is_signal A s && low_enough) part h3 in
        let known = same s (first_of (is_signal A s) low_enough h2) in
        let new = is_part_of (signal_width B s) (expression_width y) high low in
        and_true (is_signal B s && nat_le (signal_width B s) w && new && well_formed B x)
        (well_formed B y)
        (and_true (is_signal B s && nat_le (signal_width B s) w && new) (well_formed B x)
        (and_true (is_signal B s && nat_le (signal_width B s) w) new
        (and_true (is_signal B s) (nat_le (signal_width B s) w) known.0
        (subst (λ k. IsTrue (nat_le k w)) (sym known.1)
        (second_of (is_signal A s) low_enough h2)))
        (piece_same A instead (signal_width B s) high low piece
        (subst (λ k. IsTrue (is_part_of k (expression_width piece) high low)) (sym known.1)
        (second_of (is_signal A s && low_enough) part h3))))
        (formed_instead e (second_of shape (well_formed A e) h4)
        (left (reads A e) (reads A piece) all)))
        (formed_instead piece (second_of (shape && well_formed A e) (well_formed A piece) h)
        (right (reads A e) (reads A piece) all))
    node_formed_instead w signed (slice e high low) h all =
        let x = exchanged A instead e in
        and_true (is_part_of (expression_width x) w high low) (well_formed B x)
        (part_same A instead w high low e (first_of (is_part_of (expression_width e) w high low)
        (well_formed A e) h))
        (formed_instead e (second_of (is_part_of (expression_width e) w high low)
        (well_formed A e) h) all)

    parts_formed_instead : (es : TypedTrees) → IsTrue (parts_well_formed A es) →
        AllFit (parts_reads A es) → IsTrue (parts_well_formed B (exchanged_parts A instead es))
    parts_formed_instead no_parts h all = h
    parts_formed_instead (more_parts e es) h all =
        and_true (well_formed B (exchanged A instead e))
        (parts_well_formed B (exchanged_parts A instead es))
        (formed_instead e (first_of (well_formed A e) (parts_well_formed A es) h)
        (left (reads A e) (parts_reads A es) all))
        (parts_formed_instead es (second_of (well_formed A e) (parts_well_formed A es) h)
        (right (reads A e) (parts_reads A es) all))
