-- Expressions in which something of the same width stands for names are well formed.
use Rattle.std.proofs.Common.{◌≡◌, ℕ, ◌*◌, Bool, ◌&&◌, not, nat_le, nat_lt}
use Rattle.std.proofs.Common.{List, sym, subst}
use Rattle.std.specs.Prelude.{IsTrue}
use Rattle.sv_num.specs.declared.faults.Place.{Place}
use Rattle.sv_num.specs.BinaryValues.{class_of, is_division}
use Rattle.sv_flat.specs.Design.{SignalForm, TypedTree, typed, NodeTree, constant, read, read_bit}
use Rattle.sv_flat.specs.Design.{read_part, unary, binary, choice, join, replication, held}
use Rattle.sv_flat.specs.Design.{held_bit, held_part, mend, slice, TypedTrees, no_parts, more_parts}
use Rattle.sv_flat.specs.Values.{signal_width, expression_width, parts_width, number_of}
use Rattle.sv_flat.specs.Soundness.{is_one_to, is_signal, has_type, is_part_of, unary_typed}
use Rattle.sv_flat.specs.Soundness.{binary_typed, well_formed, node_well_formed, parts_well_formed}
use Rattle.sv_flat.specs.Readings.{ReadForm, whole_read, indexed_read, is_constant}
use Rattle.sv_flat.proofs.Depths.{first_of, second_of}
use Rattle.sv_obl.specs.Exchange.{Instead, name, content, for_whole, for_bit, for_part, exchanged}
use Rattle.sv_obl.specs.Exchange.{exchanged_node, exchanged_parts}
use Rattle.sv_obl.proofs.ExchangedTypes.{parts_same, unary_same, binary_same, type_same}
use Rattle.sv_obl.proofs.ExchangedTypes.{part_same, piece_same}
use Rattle.sv_obl.proofs.PathLists.{both_true}
use Rattle.sv_obl.proofs.TreeFacts.{held_below, node_held_below, parts_held_below, indexed_is}

-- a value that is held for a signal of this width
pub record Holds (B : List SignalForm) (w t : ℕ) (e : TypedTree) : Type 0 where
  pub is_known : IsTrue (is_signal B t)
  pub width : signal_width B t ≡ w
  pub formed : IsTrue (well_formed B e)

-- A signal of A is named by its number in B too, or what is held for it is well formed over B.
abbrev pub Fits : (A B : List SignalForm) → (s : ℕ) → Instead → Type 0
Fits A B s (name t) = IsTrue (is_signal B t) × (signal_width B t ≡ signal_width A s)
Fits A B s (content t e) = Holds B (signal_width A s) t e

-- Values are held for signals below n, which are the same in both.
module _ (A B : List SignalForm) (instead : ReadForm → Instead) (n : ℕ)
    (same : (s : ℕ) → IsTrue (nat_lt s n) →
    IsTrue (is_signal B s) × (signal_width B s ≡ signal_width A s))
    (fits : (r : ReadForm) → IsTrue (is_signal A r.signal) → Fits A B r.signal (instead r)) where
  -- ---- well formed

  whole_formed : (s w : ℕ) (signed : Bool) (p : Place) (i : Instead) → Fits A B s i
      → IsTrue (is_signal A s && nat_le (signal_width A s) w)
      → IsTrue (node_well_formed B w signed (for_whole i p))
  whole_formed s w signed p (name t) fit h =
      both_true (is_signal B t) (nat_le (signal_width B t) w) fit.0
      (subst (λ k. IsTrue (nat_le k w)) (sym fit.1)
      (second_of (is_signal A s) (nat_le (signal_width A s) w) h))
  whole_formed s w signed p (content t e) fit h =
      both_true (is_signal B t && nat_le (signal_width B t) w) (well_formed B e)
      (both_true (is_signal B t) (nat_le (signal_width B t) w) fit.is_known
      (subst (λ k. IsTrue (nat_le k w)) (sym fit.width)
      (second_of (is_signal A s) (nat_le (signal_width A s) w) h)))
      fit.formed

  bit_formed : (s w : ℕ) (signed : Bool) (p : Place) (index : TypedTree) (i : Instead) → Fits A B s i
      → IsTrue (well_formed B index) → IsTrue (node_well_formed B w signed (for_bit i p index))
  bit_formed s w signed p index (name t) fit h =
      both_true (is_signal B t) (well_formed B index) fit.0 h
  bit_formed s w signed p index (content t e) fit h =
      both_true (is_signal B t && well_formed B e) (well_formed B index)
      (both_true (is_signal B t) (well_formed B e) fit.is_known fit.formed) h

  part_formed : (s w : ℕ) (signed : Bool) (p : Place) (high low : ℕ) (i : Instead) → Fits A B s i
      → IsTrue (is_signal A s && is_part_of (signal_width A s) w high low)
      → IsTrue (node_well_formed B w signed (for_part i p high low))
  part_formed s w signed p high low (name t) fit h =
      both_true (is_signal B t) (is_part_of (signal_width B t) w high low) fit.0
      (subst (λ k. IsTrue (is_part_of k w high low)) (sym fit.1)
      (second_of (is_signal A s) (is_part_of (signal_width A s) w high low) h))
  part_formed s w signed p high low (content t e) fit h =
      both_true (is_signal B t && is_part_of (signal_width B t) w high low) (well_formed B e)
      (both_true (is_signal B t) (is_part_of (signal_width B t) w high low) fit.is_known
      (subst (λ k. IsTrue (is_part_of k w high low)) (sym fit.width)
      (second_of (is_signal A s) (is_part_of (signal_width A s) w high low) h)))
      fit.formed

  mutual
    -- the expression is well formed over B
    pub exchanged_formed : (t : TypedTree) → IsTrue (held_below n t) → IsTrue (well_formed A t)
        → IsTrue (well_formed B (exchanged A instead t))
    exchanged_formed (typed w signed node) below h =
        both_true (is_one_to 64 w) (node_well_formed B w signed (exchanged_node A instead node))
        (first_of (is_one_to 64 w) (node_well_formed A w signed node) h)
        (node_formed w signed node below
        (second_of (is_one_to 64 w) (node_well_formed A w signed node) h))

    node_formed : (w : ℕ) (signed : Bool) (node : NodeTree) → IsTrue (node_held_below n node)
        → IsTrue (node_well_formed A w signed node)
        → IsTrue (node_well_formed B w signed (exchanged_node A instead node))
    node_formed w signed (constant k) below h = h
    node_formed w signed (read s p) below h =
        let r = whole_read A s p in
        whole_formed s w signed p (instead r)
        (fits r (first_of (is_signal A s) (nat_le (signal_width A s) w) h)) h
    node_formed w signed (read_bit s p i) below h =
        let r = indexed_read A s p i in
        let is = indexed_is A (is_constant i) s p (number_of A (λ t. 0) i) in
        let known = first_of (is_signal A s) (well_formed A i) h in
        bit_formed s w signed p (exchanged A instead i) (instead r)
        (subst (λ k. Fits A B k (instead r)) is
        (fits r (subst (λ k. IsTrue (is_signal A k)) (sym is) known)))
        (exchanged_formed i below (second_of (is_signal A s) (well_formed A i) h))
    node_formed w signed (read_part s p high low) below h =
        let r : ReadForm = record { signal = s; place = p; high = high; low = low } in
        part_formed s w signed p high low (instead r)
        (fits r (first_of (is_signal A s) (is_part_of (signal_width A s) w high low) h)) h
    node_formed w signed (unary op a) below h =
        both_true (unary_typed op w signed (exchanged A instead a))
        (well_formed B (exchanged A instead a))
        (unary_same A instead op w signed a
        (first_of (unary_typed op w signed a) (well_formed A a) h))
        (exchanged_formed a below (second_of (unary_typed op w signed a) (well_formed A a) h))
    node_formed w signed (binary op a b) below h =
        let x = exchanged A instead a in
        let y = exchanged A instead b in
        let types = binary_typed (class_of op) w signed a b in
        let front = not (is_division op) && types in
        let three = first_of (front && well_formed A a) (well_formed A b) h in
        let two = first_of front (well_formed A a) three in
        let new = binary_typed (class_of op) w signed x y in
        both_true (not (is_division op) && new && well_formed B x) (well_formed B y)
        (both_true (not (is_division op) && new) (well_formed B x)
        (both_true (not (is_division op)) new (first_of (not (is_division op)) types two)
        (binary_same A instead (class_of op) w signed a b
        (second_of (not (is_division op)) types two)))
        (exchanged_formed a (first_of (held_below n a) (held_below n b) below)
        (second_of front (well_formed A a) three)))
        (exchanged_formed b (second_of (held_below n a) (held_below n b) below)
        (second_of (front && well_formed A a) (well_formed A b) h))
    node_formed w signed (choice p c a b) below h =
        let z = exchanged A instead c in
        let x = exchanged A instead a in
        let y = exchanged A instead b in
        let held_two = first_of (held_below n c && held_below n a) (held_below n b) below in
        let one = has_type w signed a in
        let two = has_type w signed b in
        let h4 = first_of (one && two && well_formed A c && well_formed A a) (well_formed A b) h in
        let h3 = first_of (one && two && well_formed A c) (well_formed A a) h4 in
        let h2 = first_of (one && two) (well_formed A c) h3 in
        both_true (has_type w signed x && has_type w signed y && well_formed B z && well_formed B x)
        (well_formed B y)
        (both_true (has_type w signed x && has_type w signed y && well_formed B z) (well_formed B x)
        (both_true (has_type w signed x && has_type w signed y) (well_formed B z)
        (both_true (has_type w signed x) (has_type w signed y)
        (type_same A instead w signed a (first_of one two h2))
        (type_same A instead w signed b (second_of one two h2)))
        (exchanged_formed c (first_of (held_below n c) (held_below n a) held_two)
        (second_of (one && two) (well_formed A c) h3)))
        (exchanged_formed a (second_of (held_below n c) (held_below n a) held_two)
        (second_of (one && two && well_formed A c) (well_formed A a) h4)))
        (exchanged_formed b (second_of (held_below n c && held_below n a) (held_below n b) below)
        (second_of (one && two && well_formed A c && well_formed A a) (well_formed A b) h))
    node_formed w signed (join es) below h =
        let new = exchanged_parts A instead es in
        both_true (nat_le (parts_width new) w) (parts_well_formed B new)
        (subst (λ k. IsTrue (nat_le k w)) (sym (parts_same A instead es))
        (first_of (nat_le (parts_width es) w) (parts_well_formed A es) h))
        (parts_formed es below (second_of (nat_le (parts_width es) w) (parts_well_formed A es) h))
    node_formed w signed (replication count es) below h =
        let new = exchanged_parts A instead es in
        let few = is_one_to 64 count in
        let front = first_of (few && nat_le (count * parts_width es) w) (parts_well_formed A es) h in
        both_true (few && nat_le (count * parts_width new) w) (parts_well_formed B new)
        (both_true few (nat_le (count * parts_width new) w)
        (first_of few (nat_le (count * parts_width es) w) front)
        (subst (λ k. IsTrue (nat_le (count * k) w)) (sym (parts_same A instead es))
        (second_of few (nat_le (count * parts_width es) w) front)))
        (parts_formed es below
        (second_of (few && nat_le (count * parts_width es) w) (parts_well_formed A es) h))
    node_formed w signed (held s e) below h =
        let x = exchanged A instead e in
        let front = first_of (is_signal A s && nat_le (signal_width A s) w) (well_formed A e) h in
        let known = same s (first_of (nat_lt s n) (held_below n e) below) in
        both_true (is_signal B s && nat_le (signal_width B s) w) (well_formed B x)
        (both_true (is_signal B s) (nat_le (signal_width B s) w) known.0
        (subst (λ k. IsTrue (nat_le k w)) (sym known.1)
        (second_of (is_signal A s) (nat_le (signal_width A s) w) front)))
        (exchanged_formed e (second_of (nat_lt s n) (held_below n e) below)
        (second_of (is_signal A s && nat_le (signal_width A s) w) (well_formed A e) h))
    node_formed w signed (held_bit s p e i) below h =
        let x = exchanged A instead e in
        let y = exchanged A instead i in
        let held_e = first_of (nat_lt s n && held_below n e) (held_below n i) below in
        let front = first_of (is_signal A s && well_formed A e) (well_formed A i) h in
        both_true (is_signal B s && well_formed B x) (well_formed B y)
        (both_true (is_signal B s) (well_formed B x)
        (same s (first_of (nat_lt s n) (held_below n e) held_e)).0
        (exchanged_formed e (second_of (nat_lt s n) (held_below n e) held_e)
        (second_of (is_signal A s) (well_formed A e) front)))
        (exchanged_formed i (second_of (nat_lt s n && held_below n e) (held_below n i) below)
        (second_of (is_signal A s && well_formed A e) (well_formed A i) h))
    node_formed w signed (held_part s p e high low) below h =
        let x = exchanged A instead e in
        let part = is_part_of (signal_width A s) w high low in
        let front = first_of (is_signal A s && part) (well_formed A e) h in
        let known = same s (first_of (nat_lt s n) (held_below n e) below) in
        both_true (is_signal B s && is_part_of (signal_width B s) w high low) (well_formed B x)
        (both_true (is_signal B s) (is_part_of (signal_width B s) w high low) known.0
        (subst (λ k. IsTrue (is_part_of k w high low)) (sym known.1)
        (second_of (is_signal A s) part front)))
        (exchanged_formed e (second_of (nat_lt s n) (held_below n e) below)
        (second_of (is_signal A s && part) (well_formed A e) h))
    node_formed w signed (mend s e high low piece) below h =
        let x = exchanged A instead e in
        let y = exchanged A instead piece in
        let held_e = first_of (nat_lt s n && held_below n e) (held_below n piece) below in
        let low_enough = nat_le (signal_width A s) w in
        let part = is_part_of (signal_width A s) (expression_width piece) high low in
        let shape = is_signal A s && low_enough && part in
        let h4 = first_of (shape && well_formed A e) (well_formed A piece) h in
        let h3 = first_of shape (well_formed A e) h4 in
        let h2 = first_of (is_signal A s && low_enough) part h3 in
        let known = same s (first_of (nat_lt s n) (held_below n e) held_e) in
        let new = is_part_of (signal_width B s) (expression_width y) high low in
        both_true (is_signal B s && nat_le (signal_width B s) w && new && well_formed B x)
        (well_formed B y)
        (both_true (is_signal B s && nat_le (signal_width B s) w && new) (well_formed B x)
        (both_true (is_signal B s && nat_le (signal_width B s) w) new
        (both_true (is_signal B s) (nat_le (signal_width B s) w) known.0
        (subst (λ k. IsTrue (nat_le k w)) (sym known.1)
        (second_of (is_signal A s) low_enough h2)))
        (piece_same A instead (signal_width B s) high low piece
        (subst (λ k. IsTrue (is_part_of k (expression_width piece) high low)) (sym known.1)
        (second_of (is_signal A s && low_enough) part h3))))
        (exchanged_formed e (second_of (nat_lt s n) (held_below n e) held_e)
        (second_of shape (well_formed A e) h4)))
        (exchanged_formed piece
        (second_of (nat_lt s n && held_below n e) (held_below n piece) below)
        (second_of (shape && well_formed A e) (well_formed A piece) h))
    node_formed w signed (slice e high low) below h =
        let x = exchanged A instead e in
        both_true (is_part_of (expression_width x) w high low) (well_formed B x)
        (part_same A instead w high low e (first_of (is_part_of (expression_width e) w high low)
        (well_formed A e) h))
        (exchanged_formed e below (second_of (is_part_of (expression_width e) w high low)
        (well_formed A e) h))

    parts_formed : (es : TypedTrees) → IsTrue (parts_held_below n es)
        → IsTrue (parts_well_formed A es)
        → IsTrue (parts_well_formed B (exchanged_parts A instead es))
    parts_formed no_parts below h = h
    parts_formed (more_parts e es) below h =
        both_true (well_formed B (exchanged A instead e))
        (parts_well_formed B (exchanged_parts A instead es))
        (exchanged_formed e (first_of (held_below n e) (parts_held_below n es) below)
        (first_of (well_formed A e) (parts_well_formed A es) h))
        (parts_formed es (second_of (held_below n e) (parts_held_below n es) below)
        (second_of (well_formed A e) (parts_well_formed A es) h))
