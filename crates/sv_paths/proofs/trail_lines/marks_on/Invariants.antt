use Rattle.std.proofs.Common.{◌≡◌, ◌-◌, length, drop, map, reverse}
use Rattle.sv_paths.specs.Written.{mark_word}
use Rattle.sv_paths.proofs.trail_lines.marks_on.Given as goal

-- those of the conditions so far, from the last one back
abbrev pub invariant-loop-i : goal.invariant-loop-i
invariant-loop-i l =
    map mark_word l.turned.items
    ≡ reverse (map mark_word (drop (length l.marks - l.i) l.marks))
