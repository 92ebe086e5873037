use Rattle.std.proofs.Common.{◌≡◌, take}
use Rattle.std.specs.Str.Parse.{digits_value, AllDigits}
use Rattle.sv_trace.proofs.fields.read_value.Given as goal

abbrev pub invariant-digits : goal.invariant-digits
invariant-digits l =
    AllDigits 16 (take l.digit-index l.digits) × (l.value ≡ digits_value 16
    (take l.digit-index l.digits))
