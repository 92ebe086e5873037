use Rattle.std.proofs.Common.{◌≡◌, ◌++◌, map, length, arith, get_or, subst, sym, IsTrue, Bool}
use Rattle.std.specs.List.{between}
use Rattle.std.proofs.lemmas.Result.{IfOk-weaker}
use Rattle.std.proofs.lemmas.Slice.{first_rest}
use Rattle.sv_clause.specs.Logs.{plain_step, clauses_of, ResolvesTo, ChainGives}
use Rattle.sv_proof.proofs.Numbers.{chain_by_first}
use Rattle.sv_proof.proofs.check.is_derived.Goals as goal

pub returns : goal.returns
returns c =
    let known = c.args.known.now in
    let all = known.given.now ++ clauses_of (map plain_step known.earlier.now) in
    let chain = c.as_slice.result.now in
    let rest = between 1 (length chain) chain in
    let from = c.in-Some.from.now in
    let clause = c.args.step.now.clause in
    let items = c.args.step.now.chain.items in
    let both = chain_by_first all chain rest (get_or chain 0 0) from clause
    (first_rest chain 0 (omega arith)) c.in-Some.ensures in
    let is : chain ≡ items = c.as_slice.ensures.value in
    IfOk-weaker c.resolves_to.result
    (λ (yes : Bool). (IsTrue yes → ResolvesTo all from rest clause)
    × (ResolvesTo all from rest clause → IsTrue yes))
    (λ (yes : Bool). (IsTrue yes → ChainGives all items clause)
    × (ChainGives all items clause → IsTrue yes))
    (λ yes h. (
      λ t. subst (λ z. ChainGives all z clause) is (both.0 (h.0 t)),
      λ g.
          h.1 (both.1 (subst (λ z. ChainGives all z clause) (sym is) g)),
    ))
    c.resolves_to.ensures
