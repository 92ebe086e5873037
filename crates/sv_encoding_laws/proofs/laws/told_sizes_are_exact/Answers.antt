use Rattle.sv_encoding_laws.proofs.SizeExact.{size_is_exact}
use Rattle.sv_encoding_laws.proofs.laws.told_sizes_are_exact.Goals as goal

pub returns : goal.returns
returns c = size_is_exact
