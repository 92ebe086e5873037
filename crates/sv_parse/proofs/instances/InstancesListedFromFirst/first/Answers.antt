use Rattle.sv_ast.specs.Views.{override_trees, instance_tree}
use Rattle.sv_parse.proofs.ReadingInstances.{instance_is}
use Rattle.sv_token.specs.Lexemes.{placed_tokens}
use Rattle.sv_parse_expr.specs.Parses.{placed}
use Rattle.sv_parse_expr.proofs.Halting.{passed}
use Rattle.sv_parse.proofs.DeclarationRuns.{and_read, and_stop, front_stop}
use Rattle.sv_parse.proofs.instances.InstancesListedFromFirst.first.Goals as goal

pub returns-clause-is : goal.returns-clause-is
returns-clause-is c =
    instance_is c.in_ok-module.module c.in_ok-module.place
    (override_trees c.in_ok-overrides.overrides) (instance_tree c.in_ok-instance.instance)
    (placed c.args.input)
    (placed_tokens c.args.input.bytes.now c.in_ok-module.rest.now)
    (placed_tokens c.args.input.bytes.now c.in_ok-overrides.rest.now)
    (placed_tokens c.args.input.bytes.now c.in_ok-instance.rest.now) c.in_ok-module.ensures.is
    c.in_ok-overrides.ensures.is c.in_ok-instance.ensures.is

pub returns-in_err-module-clause-halts : goal.returns-in_err-module-clause-halts
returns-in_err-module-clause-halts c = λ begins.
    passed _ _ _ c.from_residual.ensures.1 (front_stop _ _ _ _ c.in_err-module.ensures.halts)

pub returns-in_err-overrides-clause-halts : goal.returns-in_err-overrides-clause-halts
returns-in_err-overrides-clause-halts c = λ begins.
    passed _ _ _ c.from_residual-in_err-overrides.ensures.1
    (and_stop _ _ _ _ _ c.in_ok-module.ensures.reads
    (front_stop _ _ _ _ c.in_err-overrides.ensures.halts))

pub returns-in_err-instance-clause-halts : goal.returns-in_err-instance-clause-halts
returns-in_err-instance-clause-halts c = λ begins.
    passed _ _ _ c.from_residual-in_err-instance.ensures.1
    (and_stop _ _ _ _ _ c.in_ok-module.ensures.reads
    (and_stop _ _ _ _ _ c.in_ok-overrides.ensures.reads c.in_err-instance.ensures.halts))

pub returns-clause-reads : goal.returns-clause-reads
returns-clause-reads c = λ begins.
    and_read _ _ _ _ _ _ c.in_ok-module.ensures.reads
    (and_read _ _ _ _ _ _ c.in_ok-overrides.ensures.reads c.in_ok-instance.ensures.reads)
