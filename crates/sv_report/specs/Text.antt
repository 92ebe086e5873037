-- The texts of verdicts and refusals that name no values (this project's profile). Each line ends
-- with a line feed.
use Rattle.std.specs.Prelude.{ℕ, List, ◌++◌, codes, decimal}

-- so many obligations hold
abbrev pub accepted_text : (count : ℕ) → List ℕ
accepted_text count = codes "accepted " ++ decimal count ++ codes " obligations\n"

-- the first wrong line of a certificate
abbrev pub fault_text : (line : ℕ) → List ℕ
fault_text line = codes "refused proof " ++ decimal line ++ codes "\n"

-- an obligation on which the budget was spent
abbrev pub unknown_text : (obligation budget : ℕ) → List ℕ
unknown_text obligation budget =
    codes "unknown obligation " ++ decimal obligation ++ codes " budget " ++ decimal budget
    ++ codes "\n"

-- the inputs of two runs differ: the cycle, from 0, and the first signal that is told apart
abbrev pub input_text : (cycle : ℕ) → (name : List ℕ) → List ℕ
input_text cycle name =
    codes "differ input " ++ decimal cycle ++ codes " " ++ name ++ codes "\n"

-- the inputs look alike, and the views of two runs differ
abbrev pub view_text : (cycle : ℕ) → (name : List ℕ) → List ℕ
view_text cycle name = codes "differ view " ++ decimal cycle ++ codes " " ++ name ++ codes "\n"

-- all is alike until the shorter of two runs ends, which has so many cycles
abbrev pub lengths_text : (cycles : ℕ) → List ℕ
lengths_text cycles = codes "differ length " ++ decimal cycles ++ codes "\n"

-- all is alike in two runs of so many cycles
abbrev pub equal_text : (cycles : ℕ) → List ℕ
equal_text cycles = codes "equal " ++ decimal cycles ++ codes " cycles\n"
