use Rattle.std.proofs.Common.{None, map}
use Rattle.sv_circuits.specs.Words.{equals_number_bit}
use Rattle.sv_encoding.specs.Labels.{keys_of}
use Rattle.sv_blast.specs.LabelSteps.{chain_with}
use Rattle.sv_blast.proofs.OrChains.{ChainAt}
use Rattle.sv_blast.proofs.PointSteps.{key_tests}
use Rattle.sv_blast.proofs.labels.point_literal.Given as goal

abbrev pub invariant-keys : goal.invariant-keys
invariant-keys l =
    ChainAt (chain_with None (map (equals_number_bit l.fn.selector) (keys_of l.fn.table l.fn.point.0))
    l.fn.gates)
    (chain_with l.chain (key_tests l.table l.selector l.point.0 l.key) l.gates) l.fn.gates l.gates
    l.chain
