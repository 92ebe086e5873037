use Rattle.std.proofs.Common.{◌≡◌, ◌≤◌, ◌-◌, ◌++◌, length, take}
use Rattle.sv_io.specs.Large.{repeat_left}
use Rattle.sv_io.proofs.large.RepeatSource.fill.Given as goal

-- so many bytes stand at the front of the buffer
abbrev pub invariant-loop-count : goal.invariant-loop-count
invariant-loop-count l = (l.count ≤ length l.buf)
    × (repeat_left l.initial.self ≡ take l.count l.buf ++ repeat_left l.self)
    × (l.self.given ≡ l.initial.self.given) × (l.self.ended ≡ l.initial.self.ended)
    × (l.self.most ≡ l.initial.self.most)

abbrev pub decreases-loop-count : goal.decreases-loop-count
decreases-loop-count l = length l.initial.buf - l.count
