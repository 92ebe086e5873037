use Rattle.std.proofs.Common.{◌≡◌, ◌<◌, ◌^◌, ◌==◌, ◌||◌, ◌&&◌, get_or, length, sym, subst, arith}
use Rattle.std.specs.Int.{bit_at}
use Rattle.sv_lattice.specs.Tables.{flow_test}
use Rattle.sv_lattice.proofs.TableLemmas.{gains_test, gains_lt}
use Rattle.sv_lattice.proofs.flow_table.add_flow.Goals as goal

pub returns-clause-exact : goal.returns-clause-exact
returns-clause-exact c a b p q =
    let old = c.args.table.now in
    subst (λ row. (bit_at row b == 1) ≡
    (flow_test old a b || (flow_test old a c.args.from && flow_test old c.args.to b)))
    (sym (c.loop-row.invariant.done a (omega arith)))
    (gains_test (get_or old c.args.to 0) c.args.from (get_or old a 0) b)

pub returns-clause-within : goal.returns-clause-within
returns-clause-within c within k p =
    let old = c.args.table.now in
    subst (λ row. row < 2 ^ length old) (sym (c.loop-row.invariant.done k (omega arith)))
    (gains_lt (length old) (get_or old c.args.to 0) c.args.from (get_or old k 0) (within k p)
    (within c.args.to c.requires.to))
