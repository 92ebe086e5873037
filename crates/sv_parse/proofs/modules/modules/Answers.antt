use Rattle.std.proofs.Common.{[], ◌∷◌, ◌∙◌}
use Rattle.sv_parse_machine.specs.Symbols.{outer, one_module}
use Rattle.sv_parse_expr.proofs.Halting.{passed}
use Rattle.sv_parse.proofs.WholeTexts.{fails_then, halting_fails, next_module}
use Rattle.sv_parse.proofs.ReadingItems.{first_each, some_up_to_the_end, pushed_each}
use Rattle.std.proofs.Common.{rules}
use Rattle.sv_ast.specs.Views.{module_tree}
use Rattle.sv_parse.proofs.modules.modules.Goals as goal

pub returns-clause-are : goal.returns-clause-are
returns-clause-are c =
    some_up_to_the_end _ _ module_tree _ _ c.args.input.bytes.now _ _ c.loop-rest.invariant.some
    c.loop-rest.invariant.are (search rules)

pub returns-in_err-first-clause-fails : goal.returns-in_err-first-clause-fails
returns-in_err-first-clause-fails c =
    passed _ _ _ c.from_residual.ensures.1
    (halting_fails (outer one_module ∷ []) _ _ c.in_err-first.ensures.halts)

pub returns-in_err-next-clause-fails : goal.returns-in_err-next-clause-fails
returns-in_err-next-clause-fails c =
    passed _ _ _ c.from_residual-in_err-next.ensures.1
    (fails_then (outer one_module ∷ []) [] _ _ _ c.loop-rest.invariant.runs
    (fails_then [] (outer one_module ∷ []) _ _ _
    (next_module c.args.input.bytes.now _ (search rules))
    (halting_fails (outer one_module ∷ []) _ _ c.in_err-next.ensures.halts)))

pub loop-rest-init : goal.loop-rest-init
loop-rest-init c = record {
  are =
      first_each _ _ module_tree _ _ _ _ _ _ c.in_ok-push.ensures.items c.in_ok-first.ensures.is
      (search rules);
  some = search rules;
  runs = c.in_ok-first.ensures.reads.runs [];
}

pub loop-rest-preserved : goal.loop-rest-preserved
loop-rest-preserved c = record {
  are =
      pushed_each _ _ module_tree _ _ _ _ _ _ _ c.in_ok-push-2.ensures.items
      c.loop-rest.invariant.are c.in_ok-next.ensures.is;
  some = search rules;
  runs =
      c.loop-rest.invariant.runs ∙ next_module c.args.input.bytes.now _ (search rules)
      ∙ c.in_ok-next.ensures.reads.runs [];
}
