use Rattle.std.proofs.Common.{◌≡◌, ◌||◌, ap, ◌∙◌, rules}
use Rattle.std.specs.BTreeMap.{IsOrdered}
use Rattle.std.specs.Ordering.{nat_cmp}
use Rattle.sv_graph.specs.BitSets.{in_bits, in_entries}
use Rattle.sv_graph.proofs.EntryFacts.{entries_are}
use Rattle.sv_graph.proofs.bit_sets.BitSet.add_all.Goals as goal

pub loop-signal-init : goal.loop-signal-init
loop-signal-init c = λ s b.
    let map = c.args.other.now.masks in
    let same : c.into_iter-signal-iterator.result ≡ map.entries = search rules in
    let ordered : IsOrdered nat_cmp map = search rules in
    ap (λ t. in_bits c.args.self.now s b || t) (ap (λ es. in_entries es s b) same
    ∙ entries_are map.entries s b ordered)
