use Rattle.std.proofs.Common.{[], sym, ◌∙◌, subst}
use Rattle.sv_clause.specs.Logs.{ChainGives}
use Rattle.sv_solve.proofs.Deriving.{derive_end}
use Rattle.sv_solve.proofs.analysis.refute.Goals as goal

pub returns-clause-derived : goal.returns-clause-derived
returns-clause-derived c =
    subst (λ z. ChainGives c.args.clauses.now c.resolve_to_none.new.chain.items z)
    (sym (c.from_normal-clause.ensures ∙ c.new.ensures.items))
    (derive_end c.args.clauses.now c.args.trail.now.literals c.resolve_to_none.new.chain.items []
    c.resolve_to_none.new.seen.literals c.in_ok-resolve_to_none.ensures.derives)
