-- The text of a certificate: a function of the logs that it holds.
use Rattle.std.specs.Prelude.{◌≢◌, ℕ, ◌+◌, ◌<◌, ◌^◌, List, [], ◌∷◌, ◌++◌, map, length, All, ℤ}
use Rattle.std.specs.Prelude.{codes, decimal}
use Rattle.std.specs.List.{flat_map}
use Rattle.std.specs.Fmt.{signed_decimal}
use Rattle.sv_clause.specs.Literals.{IsClause}
use Rattle.sv_clause.specs.Logs.{Step, plain_log}
use Rattle.sv_clause.specs.declared.logs.Log.{Log}

-- logs without where they lie in memory
abbrev pub plain_logs : List Log → List (List Step)
plain_logs logs = map plain_log logs

-- a word and the blank behind it
abbrev pub word : List ℕ → List ℕ
word bytes = bytes ++ 32 ∷ []

-- the literals of a clause, each a word
abbrev pub literal_words : List ℤ → List ℕ
literal_words clause = flat_map (λ literal. word (signed_decimal literal)) clause

-- the numbers of a chain, each a word
abbrev pub number_words : List ℕ → List ℕ
number_words chain = flat_map (λ number. word (decimal number)) chain

-- a step's line: the literals of its clause, 0, the numbers of its chain, 0
abbrev pub step_line : Step → List ℕ
step_line step =
    literal_words step.clause ++ (word (codes "0") ++ (number_words step.chain ++ codes "0"))

-- the line before the steps of a log: the log's number from 1, and how many steps follow
abbrev pub log_line : ℕ → ℕ → List ℕ
log_line number steps = codes "o " ++ (word (decimal number) ++ decimal steps)

-- the lines of logs that are numbered from a number on
abbrev pub log_lines : ℕ → List (List Step) → List (List ℕ)
log_lines number [] = []
log_lines number (steps ∷ logs) =
    log_line number (length steps) ∷ map step_line steps ++ log_lines (number + 1) logs

-- the lines of the certificate of logs
abbrev pub proof_lines : List (List Step) → List (List ℕ)
proof_lines logs =
    codes "secv-proof 1" ∷ (codes "obligations " ++ decimal (length logs)) ∷ log_lines 1 logs
    ++ codes "end" ∷ []

-- lines as bytes: a line feed stands behind each
abbrev pub text_of : List (List ℕ) → List ℕ
text_of lines = flat_map (λ line. line ++ 10 ∷ []) lines

-- the certificate of logs
abbrev pub proof_text : List (List Step) → List ℕ
proof_text logs = text_of (proof_lines logs)

-- the numbers of a chain: at least one, each of 64 bits and not 0
pub record IsChain (chain : List ℕ) : Type 0 where
  pub some : chain ≢ []
  pub numbers : All (λ number. (0 < number) × (number < 2 ^ 64)) chain

-- what a certificate can say of a step: a clause in normal form and a chain
pub record IsWritable (step : Step) : Type 0 where
  pub clause : IsClause step.clause
  pub chain : IsChain step.chain

-- the steps of a log that a certificate can hold: fewer than 2 ^ 32
pub record IsWritableLog (steps : List Step) : Type 0 where
  pub count : length steps < 2 ^ 32
  pub each : All IsWritable steps

-- the logs that have a certificate: fewer than 2 ^ 32
pub record AreLogs (logs : List (List Step)) : Type 0 where
  pub count : length logs < 2 ^ 32
  pub each : All IsWritableLog logs
