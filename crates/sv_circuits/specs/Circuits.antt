-- What circuits say: words of literals, and pieces of an encoding that give bits or words their
-- meaning over every formula that is large enough.
use Rattle.std.specs.Prelude.{◌≡◌, ℕ, ◌≤◌, Bool, true, IsFalse, List, [], ◌∷◌, map}
use Rattle.sv_num.specs.declared.operators.BinOp.{BinOp}
use Rattle.sv_num.specs.declared.operators.OpClass.{OpClass}
use Rattle.sv_num.specs.declared.operators.OpClass.TheVariants.{Context, Compare, Logical, Shift}
use Rattle.sv_num.specs.BinaryValues.{class_of, is_division}
use Rattle.sv_clause.specs.Literals.{literal_true}
use Rattle.sv_gates.specs.Formulas.{Formula, meets, IsLiteral, IsClosed}
use Rattle.sv_gates.specs.Extending.{Makes}
use Rattle.sv_circuits.specs.Words.{Word, BitMaker, WordMaker}

-- the bits that a word has under some values
abbrev pub bits_of : (values : ℕ → Bool) → Word → List Bool
bits_of values word = map (literal_true values) word

-- a word of literals of these variables
abbrev pub IsWord : (variables : ℕ) → Word → Type 0
IsWord variables [] = Unit {0}
IsWord variables (literal ∷ word) = IsLiteral variables literal × IsWord variables word

-- the formula speaks of its variables alone, and its variable 1 is true
pub record IsBase (formula : Formula) : Type 0 where
  pub closed : IsClosed formula
  pub some : 1 ≤ formula.variables
  pub truth : (values : ℕ → Bool) → meets values formula.clauses ≡ true → values 1 ≡ true

-- over every formula with these variables the piece makes a literal that has this value
abbrev pub GivesBit : (variables : ℕ) → BitMaker → ((ℕ → Bool) → Bool) → Type 0
GivesBit variables make value =
    (old : Formula) → variables ≤ old.variables → IsBase old →
    Makes old (make old) IsLiteral (λ values literal. literal_true values literal ≡ value values)

-- over every formula with these variables the piece makes a word that has these bits
abbrev pub GivesWord : (variables : ℕ) → WordMaker → ((ℕ → Bool) → List Bool) → Type 0
GivesWord variables make value =
    (old : Formula) → variables ≤ old.variables → IsBase old →
    Makes old (make old) IsWord (λ values word. bits_of values word ≡ value values)

-- the lengths of an operator's operands in bits: an amount has any, what `&&` and `||` join one
abbrev pub AreSized : OpClass → (left right : ℕ) → Type 0
AreSized Context m n = (m ≡ n) × (1 ≤ m)
AreSized Compare m n = (m ≡ n) × (1 ≤ m)
AreSized Logical m n = (m ≡ 1) × (n ≡ 1)
AreSized Shift m n = 1 ≤ m

-- and the operator is none that divides
abbrev pub HaveSizes : BinOp → (left right : ℕ) → Type 0
HaveSizes op m n = IsFalse (is_division op) × AreSized (class_of op) m n
