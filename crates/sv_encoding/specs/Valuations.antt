-- What values of an encoding's variables say of a design: the valuation and the environments that
-- they spell.
use Rattle.std.specs.Prelude.{ℕ, ◌*◌, ◌^◌, Bool, true, false, ◌==◌, ◌&&◌, if◌then◌else◌, sum}
use Rattle.std.specs.Prelude.{List, map, filter}
use Rattle.std.specs.Bool.{beq}
use Rattle.sv_num.specs.Vectors.{truth}
use Rattle.sv_system.specs.System.{Environment}
use Rattle.sv_flat.specs.Design.{FlatDesign}
use Rattle.sv_flat.specs.Processes.{is_top_input, is_register}
use Rattle.sv_obl.specs.Validity.{Valuation}
use Rattle.sv_circuits.specs.Words.{word_value}
use Rattle.sv_encoding.specs.Expressions.{Words}
use Rattle.sv_encoding.specs.Encoding.{BitPlace}

-- ---- words

-- the environment that words spell
abbrev pub spelled_environment : (values : ℕ → Bool) → Words → Environment ℕ
spelled_environment values words s = word_value values (words s)

-- ---- valuations

-- what a bit of a signal adds to its value
abbrev pub place_value : (values : ℕ → Bool) → BitPlace → ℕ
place_value values place = truth (values place.variable) * 2 ^ place.bit

-- the bit is one of the signal, in this cycle or in the next one
abbrev pub is_place_of : (next : Bool) → (signal : ℕ) → BitPlace → Bool
is_place_of next s place = beq place.next next && (place.signal == s)

-- the value of a signal by the places of its bits; a bit without a place is 0
abbrev pub placed_value : (values : ℕ → Bool) → List BitPlace → (next : Bool) → (signal : ℕ) → ℕ
placed_value values bits next s =
    sum (map (place_value values) (filter (is_place_of next s) bits))

-- the valuation that values of the variables spell: of a design's registers and inputs, each bit by
-- its place
abbrev pub decoded : FlatDesign → List BitPlace → (values : ℕ → Bool) → Valuation
decoded design bits values = record {
  registers = λ s. if is_register design s then placed_value values bits false s else 0;
  inputs = λ s. if is_top_input design s then placed_value values bits false s else 0;
  next_inputs = λ s. if is_top_input design s then placed_value values bits true s else 0;
}
