use Rattle.std.proofs.Common.{⊎_elim, sym, ap, ◌∙◌}
use Rattle.sv_flat.specs.declared.statements.FStmt.{FStmt}
use Rattle.sv_flat.specs.declared.statements.FStmt.TheBlock.{hidden-the_row-FStmt-0}
use Rattle.sv_flat.specs.ByNumber.{signal_forms}
use Rattle.sv_flat.specs.Soundness.{is_one_assignment}
use Rattle.sv_flat.specs.Views.{flat_statement}
use Rattle.sv_flat.proofs.Rows.{no_assignment}
use Rattle.sv_flat.proofs.soundness.is_one_assignment.Goals as goal

pub returns-in-Block : goal.returns-in-Block
returns-in-Block c =
    let signals = signal_forms c.args.signals.now in
    let test = λ (s : FStmt). is_one_assignment signals (flat_statement s) in
    sym (⊎_elim
    (λ block. ap test block.1 ∙ no_assignment signals _ (hidden-the_row-FStmt-0 block.0))
    (λ branch. ap test branch.4)
    c.in-Block.is)
