-- A body in which no name is that of a copy once its earlier reads are marked has none.
use Rattle.std.proofs.Common.{ℕ, ◌+◌, Bool, true, false, cond, ◌&&◌, ◌||◌, nat_le, List, []}
use Rattle.std.proofs.Common.{◌∷◌, ◌++◌, length, ⊎_elim, refl, sym, ap, subst, ◌∙◌, arith}
use Rattle.std.specs.Prelude.{Contains, IsFalse}
use Rattle.std.specs.List.{list_any}
use Rattle.std.proofs.lemmas.Bool.{false≢true, le-leb}
use Rattle.sv_system.proofs.Lists.{Contains-nil, Contains-cases, Contains-from_map}
use Rattle.sv_flat.specs.Assigned.{assigns, always_assigns, can_assign}
use Rattle.sv_flat.specs.Design.{SignalForm, TypedTree, FlatStatement, nothing, after, assign, branch}
use Rattle.sv_flat.specs.Readings.{Reading, ReadForm, reads, readings, readings_of, some_bit_read}
use Rattle.sv_flat.specs.Readings.{is_followed, BitSet, either}
use Rattle.sv_flat.proofs.Members.{Contains-either}
use Rattle.sv_flat.proofs.SameRuns.{or_none_left, or_none_right}
use Rattle.sv_obl.specs.Marked.{names_copy, has_copy}
use Rattle.sv_obl.specs.Wanted.{copy_of, mark, marked_tree, marked}
use Rattle.sv_obl.proofs.RouteNames.{stand_for, exchanged_in}
use Rattle.sv_obl.proofs.Unchanged.{NoneEarlier}

module _ (signals : List SignalForm) (in_block : Bool) where
  abbrev count : ℕ
  count = length signals

  -- a name that is no copy's is not earlier
  not_copied : (earlier : Bool) (s : ℕ)
      → IsFalse (nat_le count (cond earlier (copy_of signals s) s)) → IsFalse earlier
  not_copied true s none =
      absurd (false≢true (sym none ∙ le-leb count (copy_of signals s) (omega arith)))
  not_copied false s none = refl

  reads_settled : (follows : BitSet) (rs : List ReadForm)
      → IsFalse (list_any (nat_le count) (stand_for signals [] (mark signals in_block follows) rs))
      → (r : ReadForm) → Contains rs r
      → IsFalse (in_block && some_bit_read signals r (follows r.signal))
  reads_settled follows [] none r at = absurd (Contains-nil r at)
  reads_settled follows (q ∷ rs) none r at =
      let earlier = in_block && some_bit_read signals q (follows q.signal) in
      let here = nat_le count (cond earlier (copy_of signals q.signal) q.signal) in
      let rest = list_any (nat_le count)
      (stand_for signals [] (mark signals in_block follows) rs) in
      ⊎_elim
      (λ is. subst (λ (x : ReadForm).
      IsFalse (in_block && some_bit_read signals x (follows x.signal))) is
      (not_copied earlier q.signal (or_none_left here rest none)))
      (λ later. reads_settled follows rs (or_none_right here rest none) r later)
      (Contains-cases q rs r at)

  tree_settled : (e : TypedTree) (serves : ℕ → Bool) (early follows : BitSet)
      → IsFalse (names_copy count (marked_tree signals in_block follows e))
      → NoneEarlier signals in_block (readings_of signals e serves early follows)
  tree_settled e serves early follows none r at =
      let from = Contains-from_map (λ (x : ReadForm). record {
        name = x;
        serves = serves;
        assigned = early;
        follows = follows;
      }) (reads signals e) r at in
      subst (λ (x : Reading). IsFalse (in_block && is_followed signals x)) from.2
      (reads_settled follows (reads signals e)
      (ap (list_any (nat_le count))
      (sym (exchanged_in signals [] (mark signals in_block follows) e)) ∙ none)
      from.0 from.1)

  none_either : (xs ys : List Reading) → NoneEarlier signals in_block xs
      → NoneEarlier signals in_block ys → NoneEarlier signals in_block (xs ++ ys)
  none_either xs ys one two r at = ⊎_elim (one r) (two r) (Contains-either xs ys r at)

  pub none_earlier : (a : FlatStatement) (early later : BitSet)
      → IsFalse (has_copy count (marked signals in_block a later))
      → NoneEarlier signals in_block (readings signals a early later)
  none_earlier nothing early later none = λ r at. absurd (Contains-nil r at)
  none_earlier (after a b) early later none =
      let late = either (can_assign b) later in
      let mid = either (always_assigns a) early in
      let first = has_copy count (marked signals in_block a late) in
      let second = has_copy count (marked signals in_block b later) in
      none_either (readings signals a early late) (readings signals b mid later)
      (none_earlier a early late (or_none_left first second none))
      (none_earlier b mid later (or_none_right first second none))
  none_earlier (assign pieces place blocking right) early later none =
      let whole = assign pieces place blocking right in
      tree_settled right (assigns whole) early (either (can_assign whole) later) none
  none_earlier (branch place condition a b) early later none =
      let whole = branch place condition a b in
      let follows = either (can_assign whole) later in
      let named = names_copy count (marked_tree signals in_block follows condition) in
      let first = has_copy count (marked signals in_block a later) in
      let second = has_copy count (marked signals in_block b later) in
      let front = or_none_left (named || first) second none in
      let here = readings_of signals condition (assigns whole) early follows in
      let in_first = readings signals a early later in
      none_either (here ++ in_first) (readings signals b early later)
      (none_either here in_first
      (tree_settled condition (assigns whole) early follows (or_none_left named first front))
      (none_earlier a early later (or_none_right named first front)))
      (none_earlier b early later (or_none_right (named || first) second none))
