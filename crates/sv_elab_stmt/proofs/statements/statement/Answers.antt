use Rattle.std.proofs.Common.{refl}
use Rattle.sv_ast.specs.Views.{statement_tree}
use Rattle.sv_flat.specs.Views.{flat_statement}
use Rattle.sv_width.specs.Scopes.{names_of}
use Rattle.sv_width.proofs.Breaches.{ok_weaker}
use Rattle.sv_width.proofs.Ends.{known_lengths}
use Rattle.sv_width.proofs.SoundStatements.{sound_of}
use Rattle.sv_width.proofs.StatementLengths.{statement_lengths}
use Rattle.sv_elab_stmt.proofs.statements.statement.Goals as goal

pub returns-clause-sound : goal.returns-clause-sound
returns-clause-sound c =
    ok_weaker c.flat.result _ _ (λ f h signals has_signals.
    sound_of (names_of c.args.scope.now) (λ n.
    refl) (known_lengths c.args.scope.now) signals has_signals (statement_tree c.args.stmt.now)
    (flat_statement f) c.requires (statement_lengths c.args.stmt.now) h) c.flat.ensures.found
