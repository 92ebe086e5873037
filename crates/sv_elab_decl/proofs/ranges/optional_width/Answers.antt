use Rattle.std.proofs.Common.{◌≡◌, None, ap}
use Rattle.std.specs.Prelude.{Option, option_map}
use Rattle.sv_ast.specs.declared.declarations.Span.{Span}
use Rattle.sv_ast.specs.Views.{span_tree}
use Rattle.sv_width.specs.Scopes.{names_ahead}
use Rattle.sv_elab_decl.proofs.StepLemmas.{no_width}
use Rattle.sv_elab_decl.proofs.ranges.optional_width.Goals as goal

pub returns-in-None-clause-found : goal.returns-in-None-clause-found
returns-in-None-clause-found c =
    let none : c.args.span.now ≡ None = cc in
    no_width (names_ahead c.args.scope.now) (option_map span_tree c.args.span.now)
    (ap (λ (s : Option Span). option_map span_tree s) none)
