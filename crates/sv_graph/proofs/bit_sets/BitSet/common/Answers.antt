use Rattle.std.proofs.Common.{◌≡◌, ◌&&◌, ◌||◌, ap, ap₂, subst, ◌∙◌, rules}
use Rattle.std.specs.BTreeMap.{IsOrdered}
use Rattle.std.specs.Map.Iter.{deref_pair}
use Rattle.std.specs.Ordering.{nat_cmp}
use Rattle.std.proofs.lemmas.Bool.{eqb-true}
use Rattle.std.proofs.lemmas.Map.Iter.{rest_more}
use Rattle.sv_graph.specs.BitSets.{is_set, in_bits, in_entries, mask_in}
use Rattle.sv_graph.proofs.EntryFacts.{entries_are, nothing_in, common_added}
use Rattle.sv_graph.proofs.bit_sets.BitSet.common.Goals as goal

pub loop-signal-init : goal.loop-signal-init
loop-signal-init c = λ s b.
    let map = c.args.self.now.masks in
    let same : c.into_iter-signal-iterator.result ≡ map.entries = search rules in
    let ordered : IsOrdered nat_cmp map = search rules in
    ap₂ (λ t u. t || (u && in_bits c.args.other.now s b))
    (nothing_in (mask_in c.new-both.result s) b (c.new-both.ensures s))
    (ap (λ es. in_entries es s b) same ∙ entries_are map.entries s b ordered)

pub loop-signal-preserved : goal.loop-signal-preserved
loop-signal-preserved c = λ s b.
    let other = c.args.other.now in
    let k = c.in-Some.signal.now in
    let more = rest_more deref_pair c.loop-signal.signal-iterator c.next.new.self c.next.result
    (c.in-Some.signal, c.in-Some.mask) c.in-Some.is c.next.ensures.steps in
    common_added (k, c.in-Some.mask.now) c.next.new.self s b c.of.result
    (in_bits c.loop-signal.both s b) (in_bits c.add.new.self s b) (in_bits other s b)
    (in_bits c.args.self.now s b && in_bits other s b)
    (c.in_ok-add.ensures s b)
    (λ same. ap (λ n. is_set n b) (c.of.ensures ∙ ap (mask_in other) (eqb-true k s same)))
    (subst (λ es. (in_bits c.loop-signal.both s b || (in_entries es s b && in_bits other s b)) ≡
    (in_bits c.args.self.now s b && in_bits other s b)) more
    (c.loop-signal.invariant s b))
