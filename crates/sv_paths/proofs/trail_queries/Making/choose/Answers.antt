use Rattle.std.proofs.Common.{ap}
use Rattle.sv_paths.proofs.AlongFacts.{next_is, later_are, no_arm, none_later, with_arms}
use Rattle.sv_paths.proofs.trail_queries.Making.choose.Goals as goal

pub returns-then-next-choices-clause-arm : goal.returns-then-next-choices-clause-arm
returns-then-next-choices-clause-arm c =
    next_is c.args.self.now.choices.now c.args.self.now.next _ c.if-next-choices.true

pub returns-then-next-choices-clause-way : goal.returns-then-next-choices-clause-way
returns-then-next-choices-clause-way c =
    let old = c.args.self.now in
    ap (with_arms old.trail old.conditions.items) (later_are old.choices.now old.next)

pub returns-else-next-choices-clause-arm : goal.returns-else-next-choices-clause-arm
returns-else-next-choices-clause-arm c =
    no_arm c.args.self.now.choices.now c.args.self.now.next c.if-next-choices.false

pub returns-else-next-choices-clause-way : goal.returns-else-next-choices-clause-way
returns-else-next-choices-clause-way c =
    let old = c.args.self.now in
    ap (with_arms old.trail old.conditions.items)
    (none_later old.choices.now old.next c.if-next-choices.false)
