use Rattle.std.proofs.Common.{◌≡◌, ◌+◌, ◌*◌, ◌^◌, ◌<◌, drop}
use Rattle.sv_flat.specs.ByNumber.{signal_forms, by_number}
use Rattle.sv_flat.specs.Values.{joined, parts_width}
use Rattle.sv_flat.specs.Views.{typed_trees, parts_of}
use Rattle.sv_flat.proofs.values.Environment.+expression_values.Given as goal

-- the parts so far, above those that are left, are all of them
abbrev pub invariant-joined-loop-part : goal.invariant-joined-loop-part
invariant-joined-loop-part l =
    let signals = signal_forms l.self.signals.now in
    let values = by_number l.self.values.now in
    let all = parts_of (typed_trees l.parts) in
    let left = parts_of (typed_trees (drop l.part-index l.parts)) in
    (l.width + parts_width left ≡ parts_width all)
    × (l.value * 2 ^ parts_width left + joined signals values left ≡ joined signals values all)
    × (l.value < 2 ^ l.width)
