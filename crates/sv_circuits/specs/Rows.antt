-- Private: how the code goes. The rows of a product.
use Rattle.std.specs.Prelude.{ℕ, List, [], ◌∷◌}
use Rattle.sv_circuits.specs.Words.{Word}
use Rattle.sv_circuits.specs.Circuits.{IsWord}

-- each row is a word of literals of these variables
abbrev pub AreWords : (variables : ℕ) → List Word → Type 0
AreWords variables [] = Unit {0}
AreWords variables (row ∷ rows) = IsWord variables row × AreWords variables rows
