use Rattle.std.proofs.lemmas.List.Elements.{recursion_from_All}
use Rattle.sv_gates.specs.Formulas.{IsLiteral}
use Rattle.sv_gates.proofs.NormalLaws.{ascending_is_clause, ascending_same}
use Rattle.sv_gates.proofs.Valuations.{meets-with_clause, Satisfies-from_meets, meets_from_Satisfies}
use Rattle.sv_gates.proofs.laws.normal_form_says_the_same.Goals as goal

pub returns-clause-means : goal.returns-clause-means
returns-clause-means c =
    λ n raw clauses values all.
    meets-with_clause n values raw clauses (recursion_from_All (IsLiteral n) raw all)

pub returns-clause-normal : goal.returns-clause-normal
returns-clause-normal c =
    λ n raw few all apart.
    ascending_is_clause n raw few (recursion_from_All (IsLiteral n) raw all) apart

pub returns-clause-same : goal.returns-clause-same
returns-clause-same c = ascending_same

pub returns-clause-meets : goal.returns-clause-meets
returns-clause-meets c =
    λ clauses values. (Satisfies-from_meets values clauses, meets_from_Satisfies values clauses)
