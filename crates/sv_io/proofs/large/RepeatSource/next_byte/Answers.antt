use Rattle.std.proofs.Common.{◌≡◌, ◌∙◌, [], inl, inr, arith, rules}
use Rattle.sv_io.specs.Large.{repeat_left}
use Rattle.sv_io.proofs.Repeating.{at_end, in_lines}
use Rattle.sv_io.proofs.large.RepeatSource.next_byte.Goals as goal

pub returns-then-self-eq0-clause-end : goal.returns-then-self-eq0-clause-end
returns-then-self-eq0-clause-end c =
    let s = c.args.self.now in
    let none : repeat_left s ≡ [] = at_end s.head.items s.line.items s.at s.lines s.column
    (omega (arith, s.head.ok, c.if-self-len.false, c.len.ensures)) (inl c.if-self-eq0.true) in
    (none, none)

pub returns-then-is_empty-clause-end : goal.returns-then-is_empty-clause-end
returns-then-is_empty-clause-end c =
    let s = c.args.self.now in
    let none : repeat_left s ≡ [] = at_end s.head.items s.line.items s.at s.lines s.column
    (omega (arith, s.head.ok, c.if-self-len.false, c.len.ensures)) (inr (search rules)) in
    (none, none)

pub returns-clause-next : goal.returns-clause-next
returns-clause-next c =
    let s = c.args.self.now in
    in_lines s.head.items s.line.items s.at s.lines s.column c.index-byte-2.result.now
    c.index-byte-2.result.now
    (omega (arith, s.head.ok, c.if-self-len.false, c.len.ensures))
    (omega (arith, c.if-self-eq0.false))
    (search rules) (search rules) ∙ search rules
