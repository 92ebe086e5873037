-- What the objects for large inputs and outputs hold: a repeated line, and the count of bytes.
use Rattle.std.specs.Prelude.{ℕ, Bool, List, ◌++◌, drop}
use Rattle.sv_io.specs.declared.large.RepeatSource.{RepeatSource}
use Rattle.sv_io.specs.declared.large.TallySink.{TallySink}
use Rattle.sv_io.specs.Repeated.{repeated}

-- the bytes that were given
abbrev pub repeat_given : RepeatSource → List ℕ
repeat_given source = source.given.bytes

-- the bytes that are left: of the head, and of the lines, the first of them begun
abbrev pub repeat_left : RepeatSource → List ℕ
repeat_left source =
    drop source.at source.head.items ++ drop source.column (repeated source.lines source.line.items)

-- whether the end was shown
abbrev pub repeat_ended : RepeatSource → Bool
repeat_ended source = source.ended

-- the most bytes that a take moves
abbrev pub repeat_most : RepeatSource → ℕ
repeat_most source = source.most

-- the bytes that were accepted
abbrev pub tally_accepted : TallySink → List ℕ
tally_accepted sink = sink.accepted.bytes
