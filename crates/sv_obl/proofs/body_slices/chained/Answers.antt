use Rattle.std.proofs.Common.{sym, ◌∙◌}
use Rattle.sv_obl.proofs.SliceChains.{chain_of_second}
use Rattle.sv_obl.proofs.body_slices.chained.Goals as goal

pub returns-then-is_nothing : goal.returns-then-is_nothing
returns-then-is_nothing c =
    chain_of_second c.args.first c.args.second
    (sym c.is_nothing.ensures ∙ c.if-is_nothing.true)
