use Rattle.std.proofs.Common.{◌≡◌, ◌/◌, ℕ, ◌<◌, ◌&&◌, ◌||◌, ◌==◌, List, length, sym, ap, subst, ◌∙◌, rules}
use Rattle.std.specs.Prelude.{IsTrue}
use Rattle.std.specs.List.{list_any}
use Rattle.std.specs.Map.{keys_of}
use Rattle.std.specs.Map.Iter.{deref}
use Rattle.std.proofs.lemmas.List.{length-replicate, with_items_is}
use Rattle.std.proofs.lemmas.Map.Iter.{rest_more, rest_all}
use Rattle.sv_graph.specs.BitGraphs.{in_row, words}
use Rattle.sv_graph.specs.BitSets.{has_some}
use Rattle.sv_graph.proofs.BitRows.{inside_row, empty_row}
use Rattle.sv_graph.proofs.EntryFacts.{key_found}
use Rattle.sv_graph.proofs.MarkFacts.{or_no, or_three}
use Rattle.sv_graph.proofs.EntryFacts.{keys_begin, keys_more, keys_end}
use Rattle.sv_graph.proofs.bit_graphs.row_of.Goals as goal

pub loop-signal-init : goal.loop-signal-init
loop-signal-init c =
    let set = c.args.set.now in
    let entries = set.masks.entries in
    let same : c.into_iter-signal-iterator.result ≡ keys_of entries = search rules in (
      ap length c.in_ok-row.ensures ∙ length-replicate (words c.args.count) 0,
      λ s. ap (λ t. t || (has_some set s
          && list_any (λ k. k == s) c.into_iter-signal-iterator.result)) (ap (λ xs. in_row xs s) c.in_ok-row.ensures
          ∙ empty_row (words c.args.count) s)
          ∙ keys_begin (has_some set s) (list_any (λ k. k == s) c.into_iter-signal-iterator.result)
          (λ h. subst (λ ks. IsTrue (list_any (λ k. k == s) ks)) (sym same)
          (key_found entries s h)),
    )

pub put_target-requires : goal.put_target-requires
put_target-requires c = λ s h.
    subst (λ n. s / 64 < n)
    (sym (ap length c.deref_mut.ensures.value ∙ c.loop-signal.invariant.0))
    (inside_row c.args.count s (c.requires s h))

pub loop-signal-preserved : goal.loop-signal-preserved
loop-signal-preserved c =
    let set = c.args.set.now in
    let k = c.in-Some.signal.now in
    let old = c.deref_mut.result.now in
    let rest = c.next.new.self in
    let splits = rest_more deref c.loop-signal.signal-iterator c.next.new.self c.next.result
    c.in-Some.signal c.in-Some.is c.next.ensures.steps in
    let size : length c.put_target.new.row ≡ length c.loop-signal.row.items =
    c.put_target.ensures.size ∙ ap length c.deref_mut.ensures.value in
    let items = with_items_is c.loop-signal.row c.put_target.new.row
    (size ∙ sym c.loop-signal.row.ok.0) in (
      ap length items ∙ size ∙ c.loop-signal.invariant.0,
      λ s.
          let left = λ (ks : List ℕ). list_any (λ z. z == s) ks in
          ap (λ xs. in_row xs s || (has_some set s && left rest)) items
          ∙ ap (λ t. t || (has_some set s && left rest)) (c.put_target.ensures.bits s)
          ∙ or_three (in_row old s) (has_some set k && (k == s)) (has_some set s && left rest)
          ∙ ap (λ t. in_row old s || t) (sym (keys_more set k s (left rest)))
          ∙ ap (λ ks. in_row old s || (has_some set s && left ks)) (sym splits)
          ∙ ap (λ xs. in_row xs s || (has_some set s && left c.loop-signal.signal-iterator))
          c.deref_mut.ensures.value
          ∙ c.loop-signal.invariant.1 s,
    )

pub returns-clause-bits : goal.returns-clause-bits
returns-clause-bits c = λ s.
    let set = c.args.set.now in
    let none = rest_all deref c.loop-signal.signal-iterator c.next.new.self c.next.result
    c.in-None.is c.next.ensures.steps in
    sym (or_no (in_row c.loop-signal.row.items s)
    (has_some set s && list_any (λ z. z == s) c.loop-signal.signal-iterator)
    (ap (λ ks. has_some set s && list_any (λ z. z == s) ks) none ∙ keys_end (has_some set s)))
    ∙ c.loop-signal.invariant.1 s

pub returns-clause-row : goal.returns-clause-row
returns-clause-row c = (
  c.loop-signal.invariant.0,
  λ s h.
      let set = c.args.set.now in
      let none = rest_all deref c.loop-signal.signal-iterator c.next.new.self c.next.result
      c.in-None.is c.next.ensures.steps in
      c.requires s (sym (sym (or_no (in_row c.loop-signal.row.items s)
      (has_some set s && list_any (λ z. z == s) c.loop-signal.signal-iterator)
      (ap (λ ks. has_some set s && list_any (λ z. z == s) ks) none ∙ keys_end (has_some set s)))
      ∙ c.loop-signal.invariant.1 s) ∙ h),
)
