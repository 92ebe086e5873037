use Rattle.std.proofs.Common.{◌≡◌, take}
use Rattle.std.specs.Str.Parse.{digits_value, AllDigits}
use Rattle.sv_proof.proofs.fields.read_number.Given as goal

abbrev pub invariant-digits : goal.invariant-digits
invariant-digits l =
    AllDigits 10 (take l.byte-index l.word) × (l.value ≡ digits_value 10 (take l.byte-index l.word))
