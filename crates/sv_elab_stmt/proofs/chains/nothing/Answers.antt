use Rattle.std.proofs.Common.{ap, ◌∙◌}
use Rattle.sv_flat.specs.Views.{flat_statements, chain_of}
use Rattle.sv_flat.proofs.Rows.{row_chain-hidden}
use Rattle.sv_elab_stmt.proofs.chains.nothing.Goals as goal

pub returns : goal.returns
returns c =
    row_chain-hidden c.new.result ∙ ap (λ ss. chain_of (flat_statements ss)) c.new.ensures.items
