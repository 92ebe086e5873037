use Rattle.std.proofs.Common.{rules, ◌-◌, take, drop, subst}
use Rattle.std.specs.List.{All}
use Rattle.sv_solve.specs.Codes.{IsOf}
use Rattle.sv_solve.proofs.Between.{all_between}
use Rattle.sv_solve.proofs.lists.LiteralList.between.Goals as goal

pub returns-clause-of : goal.returns-clause-of
returns-clause-of c =
    let each = subst (λ z. All (IsOf z.variables)
    (take (c.args.to - c.args.from) (drop c.args.from z.literals))) c.self.view_is
    (all_between _ c.args.from c.args.to _ c.self.invariant.within) in
    search (rules, each)
