use Rattle.std.proofs.Common.{rules, ◌≡◌, ◌++◌, map, arith, Some, slice_index_or, subst, sym, ap}
use Rattle.sv_clause.specs.Logs.{plain_step, clauses_of, numbered}
use Rattle.sv_clause.specs.Literals.{IsClause}
use Rattle.sv_clause.specs.Resolution.{IsResolvent}
use Rattle.sv_proof.proofs.Chains.{goes_on}
use Rattle.sv_proof.proofs.check.resolve_chain.Goals as goal

pub chain-preserved : goal.chain-preserved
chain-preserved c =
    let known = c.args.known.now in
    let all = known.given.now ++ clauses_of (map plain_step known.earlier.now) in
    let out = c.resolve_into.new.out.items in
    let found = rw c.in-Some-2.is at c.in_ok-_pivot.ensures.resolvent in
    let from_work = subst (λ z. IsResolvent z c.literals.result.now c.in-Some-2._pivot out)
    c.as_slice.ensures.value found in
    let resolvent : IsResolvent c.chain.work.items c.in-Some.next.now c.in-Some-2._pivot out =
    subst (λ z. IsResolvent c.chain.work.items z c.in-Some-2._pivot out)
    c.literals.ensures.value from_work in
    let number : Some c.in-Some.next.now ≡
    numbered all (slice_index_or c.args.chain.now c.chain.number-index 0) = search rules in
    let now : out ≡ c.swap.new.x.items = ap (λ z. z.items) (sym c.swap.ensures.x_after) in
    let moved : IsResolvent c.chain.work.items c.in-Some.next.now c.in-Some-2._pivot
    c.swap.new.x.items = subst (λ z.
    IsResolvent c.chain.work.items c.in-Some.next.now c.in-Some-2._pivot z) now resolvent in
    goes_on all _ c.args.chain.now c.chain.work.items c.chain.number-index c.chain.invariant
    (omega arith) c.in-Some.next.now c.in-Some-2._pivot c.swap.new.x.items number moved
    (subst IsClause now c.in_ok-_pivot.ensures.normal)
