use Rattle.std.proofs.Common.{◌≡◌, false, get_or}
use Rattle.std.specs.Prelude.{filter}
use Rattle.std.specs.List.{range_with_len}
use Rattle.sv_graph.specs.Numbers.{numbers}
use Rattle.sv_graph.proofs.lists.listed.Given as goal

abbrev pub invariant-loop-s : goal.invariant-loop-s
invariant-loop-s l =
    numbers l.signals.items ≡ filter (λ s. get_or l.table s false) (range_with_len 0 l.s)
