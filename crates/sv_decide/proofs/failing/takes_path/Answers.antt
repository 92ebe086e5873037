use Rattle.std.proofs.Common.{rules, tests}
use Rattle.std.specs.Bool.{beq}
use Rattle.std.proofs.lemmas.Iterator.{YieldsList-from_slice}
use Rattle.std.proofs.lemmas.Iterator.Search.{all_from_yields_List}
use Rattle.sv_flat.specs.ByNumber.{by_number}
use Rattle.sv_flat.specs.Views.{design_of, typed_tree}
use Rattle.sv_obl.specs.declared.queries.PathStep.{PathStep}
use Rattle.sv_obl.specs.PathValues.{is_true_in}
use Rattle.sv_decide.proofs.failing.takes_path.Goals as goal

pub returns : goal.returns
returns c =
    all_from_yields_List (λ (step : PathStep). beq (is_true_in (design_of c.args.design.now).signals
    (by_number c.args.values.now) (typed_tree step.cond)) step.truth) _ _ c.all.result
    c.all.ensures.ran (YieldsList-from_slice c.args.path.now cc)
    (λ x b q k. search (rules, tests))
