-- Private: how the code goes. What the signals of a cone take, each by itself.
use Rattle.std.specs.Prelude.{◌≡◌, ℕ, ◌||◌, if◌then◌else◌, List, map, min, sum}
use Rattle.sv_flat.specs.Design.{FlatDesign}
use Rattle.sv_flat.specs.Processes.{is_top_input, is_register, signal_numbers}
use Rattle.sv_flat.specs.Values.{signal_width}
use Rattle.sv_encoding.specs.Sizes.{signal_size}

-- the gates of all signals, each up to one over the most variables
abbrev pub AreSizes : FlatDesign → List ℕ → Type 0
AreSizes design sizes =
    sizes ≡ map (λ s. min (signal_size design s) 4194305) (signal_numbers design)

-- in this cycle: a variable for each bit of an input or register, and the gates of any other signal
abbrev pub now_size : FlatDesign → ℕ → ℕ
now_size design s =
    if is_top_input design s || is_register design s
    then signal_width design.signals s
    else signal_size design s

-- in the next cycle: a variable for each bit of an input, and the gates of any other signal
abbrev pub next_size : FlatDesign → ℕ → ℕ
next_size design s =
    if is_top_input design s then signal_width design.signals s else signal_size design s

abbrev pub now_sizes : FlatDesign → (cone : List ℕ) → ℕ
now_sizes design cone = sum (map (now_size design) cone)

abbrev pub next_sizes : FlatDesign → (cone : List ℕ) → ℕ
next_sizes design cone = sum (map (next_size design) cone)
