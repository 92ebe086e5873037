use Rattle.std.proofs.Common.{◌≡◌, map}
use Rattle.sv_flat.specs.ByNumber.{signal_forms}
use Rattle.sv_flat.specs.Views.{typed_trees}
use Rattle.sv_obl.specs.Exchange.{exchanged}
use Rattle.sv_paths.specs.PutIn.{put_for}
use Rattle.sv_obl.specs.Wanted.{with_copies}
use Rattle.sv_paths.proofs.exchange.+exchanged.Given as goal

-- those so far
abbrev pub invariant-exchanged_parts-loop-expr : goal.invariant-exchanged_parts-loop-expr
invariant-exchanged_parts-loop-expr l =
    let signals = signal_forms l.signals in
    typed_trees l.parts.items
    ≡ map (exchanged (with_copies signals) (put_for signals l.put)) (typed_trees l.yielded)
