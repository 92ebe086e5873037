use Rattle.std.proofs.Common.{◌≡◌, ◌++◌, [], ◌∷◌, length, arith, rules}
use Rattle.sv_rules.proofs.DriverNumbers.{number_more, numbers_end}
use Rattle.sv_rules.proofs.drivers.driver_numbers.Goals as goal

pub loop-i-preserved : goal.loop-i-preserved
loop-i-preserved c =
    let gains : c.push.new.self.items ≡ c.loop-i.numbers.items ++ c.number_of.result ∷ [] =
    search rules in
    number_more c.as_slice-first.result.now c.loop-i.i c.loop-i.numbers.items c.push.new.self.items
    c.number_of.result c.number_of.ensures gains c.loop-i.invariant

pub returns : goal.returns
returns c = λ design are.
    let all : c.loop-i.i ≡ length c.as_slice-first.result.now =
    omega (arith, c.loop-i.auto.i-end, c.loop-i-test.false) in
    numbers_end design c.args.drivers.now c.as_slice-first.result.now c.loop-i.i
    c.loop-i.numbers.items are c.as_slice-first.ensures.value all c.loop-i.invariant
