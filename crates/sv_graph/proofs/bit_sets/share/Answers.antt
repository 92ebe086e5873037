use Rattle.sv_graph.proofs.BitFacts.{common_bit, bit_in_common}
use Rattle.sv_graph.proofs.bit_sets.share.Goals as goal

pub returns : goal.returns
returns c = (
  common_bit c.args.first c.args.second c.ranges.first.fits c.ranges.second.fits,
  bit_in_common
      c.args.first c.args.second,
)
