use Rattle.std.proofs.Common.{◌≡◌, ℕ, ◌<◌, length, map, take, get_or}
use Rattle.sv_design.specs.Numbers.{numbers}
use Rattle.sv_gates.specs.Formulas.{value_of}
use Rattle.sv_encoding.specs.Valuations.{placed_value}
use Rattle.sv_blast.specs.Coded.{place_form}
use Rattle.sv_blast.proofs.decoding.decode_listed.Given as goal

abbrev pub invariant-bits : goal.invariant-bits
invariant-bits l =
    (k : ℕ) → k < length l.listed → get_or l.into k 0
    ≡ placed_value (value_of l.values) (take l.place-index (map place_form l.bits)) l.next
    (get_or (numbers l.listed) k 0)
