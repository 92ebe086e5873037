use Rattle.std.proofs.Common.{◌≡◌, take}
use Rattle.std.specs.List.{fold}
use Rattle.sv_token.proofs.NumeralLaws.{value_behind}
use Rattle.sv_token.proofs.numerals.value_in.Given as goal

abbrev pub invariant-loop-byte : goal.invariant-loop-byte
invariant-loop-byte l = l.value ≡ fold (value_behind l.base) 0 (take l.byte-index l.digits)
