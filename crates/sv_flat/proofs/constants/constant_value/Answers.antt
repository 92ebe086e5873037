use Rattle.std.proofs.Common.{◌≡◌, true, [], sym, ◌∙◌}
use Rattle.sv_flat.specs.ByNumber.{by_number}
use Rattle.sv_flat.specs.Readings.{is_constant}
use Rattle.sv_flat.specs.Views.{typed_tree}
use Rattle.sv_flat.proofs.ConstantFacts.{constant_formed, constant_value}
use Rattle.sv_flat.proofs.constants.constant_value.Goals as goal

pub value_of-requires-clause-formed : goal.value_of-requires-clause-formed
value_of-requires-clause-formed c =
    let tree = typed_tree c.args.expr.now in
    let constant : is_constant tree ≡ true = sym c.is_constant.ensures ∙ c.if-is_constant.true in
    constant_formed c.requires.0 [] tree constant c.requires.1

pub returns-then-is_constant-clause-value : goal.returns-then-is_constant-clause-value
returns-then-is_constant-clause-value c = λ signals values.
    let tree = typed_tree c.args.expr.now in
    let constant : is_constant tree ≡ true = sym c.is_constant.ensures ∙ c.if-is_constant.true in
    c.value_of.ensures.value ∙ constant_value [] signals (by_number []) values tree constant
