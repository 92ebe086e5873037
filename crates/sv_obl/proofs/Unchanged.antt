-- An expression in which every name stands for itself is unchanged: where nothing is earlier,
-- marking a statement leaves it.
use Rattle.std.proofs.Common.{◌≡◌, ℕ, Bool, ◌&&◌, List, [], ◌++◌, refl, ap, ap₂, ◌∙◌}
use Rattle.std.specs.Prelude.{Contains, IsFalse}
use Rattle.sv_system.proofs.Lists.{Contains-head, Contains-later, Contains-map}
use Rattle.sv_flat.specs.Design.{SignalForm, TypedTree, typed, NodeTree, constant, read, read_bit}
use Rattle.sv_flat.specs.Design.{read_part, unary, binary, choice, join, replication, held}
use Rattle.sv_flat.specs.Design.{held_bit, held_part, mend, slice, TypedTrees, no_parts, more_parts}
use Rattle.sv_flat.specs.Design.{FlatStatement, nothing, after, assign, branch}
use Rattle.sv_flat.specs.Values.{number_of}
use Rattle.sv_flat.specs.Assigned.{assigns, always_assigns, can_assign}
use Rattle.sv_flat.specs.Readings.{ReadForm, whole_read, indexed_read, is_constant, reads}
use Rattle.sv_flat.specs.Readings.{node_reads, parts_reads, BitSet, either, Reading, readings_of}
use Rattle.sv_flat.specs.Readings.{readings, some_bit_read, is_followed}
use Rattle.sv_flat.proofs.Members.{Contains-left, Contains-right}
use Rattle.sv_obl.specs.Exchange.{Instead, name, for_whole, for_bit, for_part, exchanged}
use Rattle.sv_obl.specs.Exchange.{exchanged_node, exchanged_parts}
use Rattle.sv_obl.specs.Wanted.{copy_of, mark, marked_tree, marked}
use Rattle.sv_obl.proofs.PathLists.{cond_false}
use Rattle.sv_obl.proofs.TreeFacts.{indexed_is}

module _ (A : List SignalForm) (instead : ReadForm → Instead) where
  abbrev pub AllThemselves : List ReadForm → Type 0
  AllThemselves rs = (r : ReadForm) → Contains rs r → instead r ≡ name r.signal

  themselves_left : (xs ys : List ReadForm) → AllThemselves (xs ++ ys) → AllThemselves xs
  themselves_left xs ys same r at = same r (Contains-left xs ys r at)

  themselves_right : (xs ys : List ReadForm) → AllThemselves (xs ++ ys) → AllThemselves ys
  themselves_right xs ys same r at = same r (Contains-right xs ys r at)

  mutual
    pub exchanged_itself : (t : TypedTree) → AllThemselves (reads A t) → exchanged A instead t ≡ t
    exchanged_itself (typed w signed node) same =
        ap (typed w signed) (exchanged_node_itself node same)

    exchanged_node_itself : (node : NodeTree) → AllThemselves (node_reads A node) →
        exchanged_node A instead node ≡ node
    exchanged_node_itself (constant k) same = refl
    exchanged_node_itself (read s p) same =
        let r = whole_read A s p in ap (λ i. for_whole i p) (same r (Contains-head r []))
    exchanged_node_itself (read_bit s p i) same =
        let r = indexed_read A s p i in
        ap₂ (λ x y. for_bit x p y) (same r (Contains-head r (reads A i)))
        (exchanged_itself i (λ z at. same z (Contains-later r (reads A i) z at)))
        ∙ ap (λ k. read_bit k p i) (indexed_is A (is_constant i) s p (number_of A (λ t. 0) i))
    exchanged_node_itself (read_part s p high low) same =
        let r : ReadForm = record { signal = s; place = p; high = high; low = low } in
        ap (λ i. for_part i p high low) (same r (Contains-head r []))
    exchanged_node_itself (unary op a) same = ap (unary op) (exchanged_itself a same)
    exchanged_node_itself (binary op a b) same = ap₂ (binary op)
        (exchanged_itself a (themselves_left (reads A a) (reads A b) same))
        (exchanged_itself b (themselves_right (reads A a) (reads A b) same))
    exchanged_node_itself (choice p c a b) same =
        let both = themselves_left (reads A c ++ reads A a) (reads A b) same in
        ap₂ (λ x y. choice p x y (exchanged A instead b))
        (exchanged_itself c (themselves_left (reads A c) (reads A a) both))
        (exchanged_itself a (themselves_right (reads A c) (reads A a) both))
        ∙ ap (choice p c a) (exchanged_itself b
        (themselves_right (reads A c ++ reads A a) (reads A b) same))
    exchanged_node_itself (join es) same = ap join (exchanged_parts_itself es same)
    exchanged_node_itself (replication count es) same =
        ap (replication count) (exchanged_parts_itself es same)
    exchanged_node_itself (held s e) same = ap (held s) (exchanged_itself e same)
    exchanged_node_itself (held_bit s p e i) same = ap₂ (held_bit s p)
        (exchanged_itself e (themselves_left (reads A e) (reads A i) same))
        (exchanged_itself i (themselves_right (reads A e) (reads A i) same))
    exchanged_node_itself (held_part s p e high low) same =
        ap (λ x. held_part s p x high low) (exchanged_itself e same)
    exchanged_node_itself (mend s e high low piece) same = ap₂ (λ x y. mend s x high low y)
        (exchanged_itself e (themselves_left (reads A e) (reads A piece) same))
        (exchanged_itself piece (themselves_right (reads A e) (reads A piece) same))
    exchanged_node_itself (slice e high low) same =
        ap (λ x. slice x high low) (exchanged_itself e same)

    exchanged_parts_itself : (es : TypedTrees) → AllThemselves (parts_reads A es) →
        exchanged_parts A instead es ≡ es
    exchanged_parts_itself no_parts same = refl
    exchanged_parts_itself (more_parts e es) same = ap₂ more_parts
        (exchanged_itself e (themselves_left (reads A e) (parts_reads A es) same))
        (exchanged_parts_itself es (themselves_right (reads A e) (parts_reads A es) same))

-- ---- statements

module _ (signals : List SignalForm) (in_block : Bool) where
  -- no read is an earlier one
  abbrev pub NoneEarlier : List Reading → Type 0
  NoneEarlier rs = (r : Reading) → Contains rs r → IsFalse (in_block && is_followed signals r)

  tree_itself : (t : TypedTree) (serves : ℕ → Bool) (early follows : BitSet)
      → NoneEarlier (readings_of signals t serves early follows)
      → marked_tree signals in_block follows t ≡ t
  tree_itself t serves early follows none =
      exchanged_itself signals (mark signals in_block follows) t (λ r at.
      ap name (cond_false (in_block && some_bit_read signals r (follows r.signal))
      (copy_of signals r.signal) r.signal
      (none (record { name = r; serves = serves; assigned = early; follows = follows })
      (Contains-map (λ (x : ReadForm).
      record {
        name = x;
        serves = serves;
        assigned = early;
        follows = follows;
      }) (reads signals t) r at))))

  -- where nothing is earlier, marking leaves a statement
  pub marked_itself : (body : FlatStatement) (early later : BitSet)
      → NoneEarlier (readings signals body early later)
      → marked signals in_block body later ≡ body
  marked_itself nothing early later none = refl
  marked_itself (after first second) early later none =
      let late = either (can_assign second) later in
      let mid = either (always_assigns first) early in
      ap₂ after
      (marked_itself first early late
      (λ r at.
      none r (Contains-left (readings signals first early late)
      (readings signals second mid later) r at)))
      (marked_itself second mid later
      (λ r at.
      none r (Contains-right (readings signals first early late)
      (readings signals second mid later) r at)))
  marked_itself (assign pieces place blocking right) early later none =
      let whole = assign pieces place blocking right in
      ap (assign pieces place blocking)
      (tree_itself right (assigns whole) early (either (can_assign whole) later) none)
  marked_itself (branch place condition first second) early later none =
      let whole = branch place condition first second in
      let follows = either (can_assign whole) later in
      let here = readings_of signals condition (assigns whole) early follows in
      let in_first = readings signals first early later in
      let in_second = readings signals second early later in
      ap₂ (λ x y. branch place x y (marked signals in_block second later))
      (tree_itself condition (assigns whole) early follows
      (λ r at.
      none r (Contains-left (here ++ in_first) in_second r (Contains-left here in_first r at))))
      (marked_itself first early later
      (λ r at.
      none r (Contains-left (here ++ in_first) in_second r
      (Contains-right here in_first r at))))
      ∙ ap (branch place condition first)
      (marked_itself second early later (λ r at.
      none r (Contains-right (here ++ in_first) in_second r at)))
