-- Private: how the code goes. The two directions in which a word is moved.
use Rattle.std.specs.Prelude.{ℕ, ℤ}
use Rattle.sv_circuits.specs.declared.shifters.Direction.{Direction}
use Rattle.sv_circuits.specs.declared.shifters.Direction.TheVariants.{Up, Down}
use Rattle.sv_circuits.specs.Words.{Word}
use Rattle.sv_circuits.specs.Operators.{moved_up, moved_down}

abbrev pub move_of : Direction → (fill : ℤ) → (by : ℕ) → Word → Word
move_of Up fill by word = moved_up fill by word
move_of Down fill by word = moved_down fill by word
