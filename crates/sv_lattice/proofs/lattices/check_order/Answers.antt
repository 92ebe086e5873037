use Rattle.std.proofs.Common.{ℕ, List, length, subst}
use Rattle.sv_lattice.specs.Flows.{HasJoin, HasMeet, EachPair, IsFirstWithout}
use Rattle.sv_lattice.specs.Tables.{FlowsTo}
use Rattle.sv_lattice.proofs.BoundLemmas.{first_along, each_along}
use Rattle.sv_lattice.proofs.OrderLemmas.{same_meets}
use Rattle.sv_lattice.proofs.lattices.check_order.Goals as goal

pub returns-in-Some-first_unjoined-2 : goal.returns-in-Some-first_unjoined-2
returns-in-Some-first_unjoined-2 c =
    let table : List ℕ = c.args.table.now in
    let turned : List ℕ = c.args.turned.now in
    let n : ℕ = length table in
    let pair = c.in-Some-first_unjoined-2 in
    let first : IsFirstWithout n (HasJoin n (FlowsTo turned)) pair.first pair.second =
    subst (λ m. IsFirstWithout m (HasJoin m (FlowsTo turned)) pair.first pair.second)
    c.requires.size pair.ensures in (
      c.in_default.ensures,
      c.in_default-first_unjoined.ensures,
      first_along n (HasJoin n (FlowsTo turned)) (HasMeet n (FlowsTo table)) pair.first pair.second
          (same_meets n table turned c.requires.turned) first,
    )

pub returns : goal.returns
returns c =
    let table : List ℕ = c.args.table.now in
    let turned : List ℕ = c.args.turned.now in
    let n : ℕ = length table in
    let joins : EachPair n (HasJoin n (FlowsTo turned)) =
    subst (λ m. EachPair m (HasJoin m (FlowsTo turned))) c.requires.size
    c.in_default-first_unjoined-2.ensures in
    record {
      apart = c.in_default.ensures;
      joins = c.in_default-first_unjoined.ensures;
      meets =
          each_along n (HasJoin n (FlowsTo turned)) (HasMeet n (FlowsTo table))
          (same_meets n table turned c.requires.turned) joins;
    }
