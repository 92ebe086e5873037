use Rattle.std.proofs.Common.{sym, ap, ◌∙◌}
use Rattle.sv_flat.specs.ByNumber.{signal_forms}
use Rattle.sv_flat.specs.Soundness.{statement_sound}
use Rattle.sv_flat.specs.Views.{flat_statement, flat_statements, chain_of}
use Rattle.sv_flat.proofs.Rows.{row_chain-hidden}
use Rattle.sv_flat.proofs.soundness.+statement_soundness.Goals as goal

pub is_statement_sound-returns-in-Block : goal.is_statement_sound-returns-in-Block
is_statement_sound-returns-in-Block t c =
    let signals = signal_forms c.args.signals.now in
    c.are_statements_sound.ensures
    ∙ ap (λ ss. statement_sound signals (chain_of (flat_statements ss)))
    c.deref-in-Block.ensures.value
    ∙ ap (statement_sound signals) (sym (row_chain-hidden c.in-Block.stmts))
    ∙ ap (λ s. statement_sound signals (flat_statement s)) (sym c.in-Block.is)
    ∙ c.loop-stmt.invariant.0
