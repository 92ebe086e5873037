use Rattle.std.proofs.Common.{◌≡◌, ℕ, List, length, subst, sym, arith}
use Rattle.std.proofs.lemmas.Result.{err_from_is_err_and}
use Rattle.sv_lattice.specs.Flows.{IsDeclared, IsLattice}
use Rattle.sv_lattice.specs.Tables.{FlowsTo, IsWithin, IsPreorder, IsTableOf, IsOrderFault}
use Rattle.sv_lattice.proofs.OrderLemmas.{table_preorder, declared_lattice, fault_declared}
use Rattle.sv_lattice.proofs.lattices.Lattice.build.Goals as goal

-- a fact about the table as it is passed, at the number of points
at_points : (P : ℕ → List ℕ → Type 0) (n : ℕ) (passed table : List ℕ) → passed ≡ table →
    length table ≡ n → P (length passed) passed → P n table
at_points P n passed table e size h = subst (λ m. P m table) size (subst (λ t. P (length t) t) e h)

pub check_order-requires-clause-preorder : goal.check_order-requires-clause-preorder
check_order-requires-clause-preorder c =
    let n : ℕ = c.args.points in
    let of_pairs : IsTableOf n c.args.pairs.now c.in_ok-table.table.items = c.in_ok-table.ensures in
    subst (λ t. IsPreorder (length t) (FlowsTo t)) (sym c.deref-2.ensures.value)
    (subst (λ m. IsPreorder m (FlowsTo c.in_ok-table.table.items)) (sym of_pairs.size)
    (table_preorder n c.args.pairs.now c.in_ok-table.table.items of_pairs))

pub returns-in_err-check_order-clause-fault : goal.returns-in_err-check_order-clause-fault
returns-in_err-check_order-clause-fault c =
    let n : ℕ = c.args.points in
    let of_pairs : IsTableOf n c.args.pairs.now c.in_ok-table.table.items = c.in_ok-table.ensures in
    let declared : IsDeclared n c.args.pairs.now =
    ((omega arith, omega arith), c.in_default.ensures) in
    let fault = c.in_err-check_order.field-0.0 in
    let found : IsOrderFault n (FlowsTo c.in_ok-table.table.items) fault =
    at_points (λ m t. IsOrderFault m (FlowsTo t) fault) n c.deref-2.result.now
    c.in_ok-table.table.items c.deref-2.ensures.value of_pairs.size
    c.in_err-check_order.ensures in
    let p = err_from_is_err_and c.from_residual-in_err-check_order.result
    c.from_residual-in_err-check_order.ensures.1 in
    rw (p.1, p.2) (fault_declared n c.args.pairs.now c.in_ok-table.table.items of_pairs declared
    fault found)

pub invariant_of-result : goal.invariant_of-result
invariant_of-result c =
    let n : ℕ = c.args.points in
    let table : List ℕ = c.in_ok-table.table.items in
    let of_pairs : IsTableOf n c.args.pairs.now table = c.in_ok-table.ensures in
    let lattice : IsLattice (length table) (FlowsTo table) =
    subst (λ t. IsLattice (length t) (FlowsTo t)) c.deref-2.ensures.value
    c.in_ok-check_order.ensures in
    record {
      count = (omega arith, omega arith);
      within = subst (λ m. IsWithin m table) (sym of_pairs.size) of_pairs.within;
      preorder =
          subst (λ m. IsPreorder m (FlowsTo table)) (sym of_pairs.size)
          (table_preorder n c.args.pairs.now table of_pairs);
      lattice = lattice;
    }

pub returns-clause-lattice : goal.returns-clause-lattice
returns-clause-lattice c =
    let n : ℕ = c.args.points in
    let table : List ℕ = c.in_ok-table.table.items in
    let of_pairs : IsTableOf n c.args.pairs.now table = c.in_ok-table.ensures in
    let lattice : IsLattice n (FlowsTo table) =
    at_points (λ m t. IsLattice m (FlowsTo t)) n c.deref-2.result.now table c.deref-2.ensures.value
    of_pairs.size c.in_ok-check_order.ensures in (
      ((omega arith, omega arith), c.in_default.ensures),
      declared_lattice n c.args.pairs.now table
          of_pairs lattice,
    )
