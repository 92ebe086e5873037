use Rattle.std.proofs.Common.{length, refl, sym, ◌∙◌}
use Rattle.sv_flat.specs.Views.{typed_tree}
use Rattle.sv_paths.proofs.NamesPut.{stays}
use Rattle.sv_paths.proofs.exchange.with_put.Goals as goal

pub returns-then-not-names_put : goal.returns-then-not-names_put
returns-then-not-names_put c =
    stays c.args.signals.now c.args.put (length c.args.signals.now) (typed_tree c.args.expr) refl
    (sym c.names_put.ensures ∙ c.if-not-names_put.true)
