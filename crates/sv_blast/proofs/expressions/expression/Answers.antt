use Rattle.std.proofs.Common.{◌∙◌, length, sym, ap}
use Rattle.std.proofs.lemmas.Result.{IfOk-weaker}
use Rattle.sv_flat.specs.ByNumber.{signal_forms}
use Rattle.sv_flat.specs.Views.{typed_tree}
use Rattle.sv_gates.specs.Formulas.{Formula}
use Rattle.sv_circuits.specs.Words.{Word}
use Rattle.sv_encoding_laws.proofs.OperatorCounts.{expression_length}
use Rattle.sv_blast.specs.WordTables.{words_of}
use Rattle.sv_blast.proofs.expressions.expression.Goals as goal

pub returns-clause-width : goal.returns-clause-width
returns-clause-width c =
    IfOk-weaker c.expression.result _ _
    (λ word e. sym (ap (λ (z : Formula × Word). length z.1) e)
    ∙ expression_length (signal_forms c.args.signals.now) (words_of c.args.words.now)
    (typed_tree c.args.expr.now) c.args.gates.now) c.expression.ensures.made
