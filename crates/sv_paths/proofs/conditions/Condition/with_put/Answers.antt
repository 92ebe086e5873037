use Rattle.std.proofs.Common.{sym, ap, ◌∙◌}
use Rattle.sv_flat.specs.Design.{TypedTree}
use Rattle.sv_flat.specs.Views.{typed_tree}
use Rattle.sv_obl.specs.Paths.{StepForm}
use Rattle.sv_paths.proofs.NamesPut.{stays}
use Rattle.sv_paths.proofs.conditions.Condition.with_put.Goals as goal

pub returns-then-not-names_put : goal.returns-then-not-names_put
returns-then-not-names_put c =
    let self = c.args.self in
    let form : TypedTree → StepForm = λ e.
    record { place = self.step.place; condition = e; truth = self.step.truth } in
    ap form (stays c.args.signals.now c.args.put self.count (typed_tree self.step.cond)
    c.if-self-count.true (sym c.names_put.ensures ∙ c.if-not-names_put.true))
