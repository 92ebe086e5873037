-- What words ask for, and what is wrong with words that ask for nothing.
use Rattle.std.specs.Prelude.{◌≡◌, ◌≤◌, ◌∷◌, ℕ, Bool, false, List, [], map, Option, Some, None}
use Rattle.std.specs.Prelude.{codes, cond, ⊤, option_map, option_and_then, string_bytes, String}
use Rattle.std.specs.Option.{option_map_or}
use Rattle.std.specs.Str.{bytes_eq}
use Rattle.std.specs.Str.Parse.{digits_value, without_leading_sign}
use Rattle.std.specs.declared.alloc.Global.{Global}
use Rattle.clap.specs.Words.{Row, Text, first_of}
use Rattle.sv_words.specs.Lines.{command_named, found_in, greatest_budget, is_read}
use Rattle.sv_words.specs.declared.command.Command.{Command}
use Rattle.sv_words.specs.declared.command.Command.TheVariants as asked
use Rattle.sv_words.specs.declared.command.CommandName.{CommandName}
use Rattle.sv_words.specs.declared.command.CommandName.TheVariants as name
use Rattle.sv_words.specs.declared.command.UsageKind.{UsageKind}
use Rattle.sv_words.specs.declared.command.UsageKind.TheVariants.{NoCommand, UnknownCommand, Words}
use Rattle.sv_words.specs.declared.command.WordFault.{WordFault}
use Rattle.sv_words.specs.declared.command.WordFault.TheVariants.{Usage, OutOfMemory}

-- the bytes of each word
abbrev pub words_of : List (String Global) → List Text
words_of words = map string_bytes words

-- a command with what it was given: FILE, PROOF, NUMBER, A, B and LANES, the values of its options,
-- where they are there, and whether its flags are
pub data Request : Type 0 where
  check : (file : Text) → (proof : Option Text) → (budget : ℕ) → (top : Option Text)
      → (json : Bool) → Request
  verify : (file proof : Text) → (top : Option Text) → Request
  list : (file : Text) → (top : Option Text) → Request
  cnf : (file : Text) → (number : ℕ) → (top : Option Text) → Request
  sim : (file : Text) → (level : Option Text) → (order : Option ℕ) → (top : Option Text) → Request
  compare : (file a b level : Text) → (top : Option Text) → Request
  gen : (lanes : ℕ) → (checks : Bool) → Request

-- the number that decimal digits spell, with a sign before them or not; no number that is read is
-- below 0, so a `-` may stand before zeros alone
abbrev pub number_of : Text → ℕ
number_of text = digits_value 10 (without_leading_sign text)

-- the budget where `--budget` does not stand
abbrev pub default_budget : ℕ
default_budget = 20000

-- the bounds of a budget
abbrev pub IsBudget : ℕ → Type 0
IsBudget budget = (1 ≤ budget) × (budget ≤ greatest_budget)

-- the budget of the value of `--budget`
abbrev pub budget_of : Option Text → ℕ
budget_of value = option_map_or number_of value default_budget

-- a flag stands: its value is then `true`
abbrev pub is_set : Option Text → Bool
is_set value = option_map_or (λ text. bytes_eq text (codes "true")) value false

-- what is made of the value of an argument that has to be there
abbrev pub of_given : Text → List Row → (Text → Option Request) → Option Request
of_given id rows make = option_and_then make (first_of id rows)

-- what is found in the words of a command asks for
abbrev pub request_in : CommandName → List Row → Option Request
request_in name.Check rows = of_given (codes "FILE") rows
    (λ file. Some (check file (first_of (codes "proof") rows)
    (budget_of (first_of (codes "budget") rows)) (first_of (codes "top") rows)
    (is_set (first_of (codes "json") rows))))
request_in name.Verify rows = of_given (codes "FILE") rows (λ file. of_given (codes "PROOF") rows
    (λ proof. Some (verify file proof (first_of (codes "top") rows))))
request_in name.List rows = of_given (codes "FILE") rows
    (λ file. Some (list file (first_of (codes "top") rows)))
request_in name.Cnf rows = of_given (codes "FILE") rows (λ file. of_given (codes "NUMBER") rows
    (λ number. Some (cnf file (number_of number) (first_of (codes "top") rows))))
request_in name.Sim rows = of_given (codes "FILE") rows
    (λ file. Some (sim file (first_of (codes "level") rows)
    (option_map number_of (first_of (codes "order") rows)) (first_of (codes "top") rows)))
request_in name.Compare rows = of_given (codes "FILE") rows (λ file. of_given (codes "A") rows
    (λ a. of_given (codes "B") rows (λ b. of_given (codes "level") rows
    (λ level. Some (compare file a b level (first_of (codes "top") rows))))))
request_in name.Gen rows = of_given (codes "LANES") rows
    (λ lanes. Some (gen (number_of lanes) (is_set (first_of (codes "check") rows))))

-- what the words ask for: of words that are read
abbrev pub request_of : List Text → Option Request
request_of [] = None
request_of (word ∷ rest) =
    option_and_then (λ name. request_in name (found_in name (word ∷ rest))) (command_named word)

-- what is wrong with the words: nothing is where the first names a command and they are read
abbrev pub usage_of : List Text → Option UsageKind
usage_of [] = Some NoCommand
usage_of (word ∷ rest) = option_map_or
    (λ name. cond (is_read name (word ∷ rest)) None (Some Words))
    (command_named word) (Some UnknownCommand)

-- the words are a command's name and `--help`
abbrev pub help_asked : List Text → Option CommandName
help_asked (word ∷ option ∷ []) =
    cond (bytes_eq option (codes "--help")) (command_named word) None
help_asked _ = None

-- a command, as the code holds it
abbrev pub plain : Command → Request
plain (asked.Check file proof budget top json) = check (string_bytes file)
    (option_map string_bytes proof) budget (option_map string_bytes top) json
plain (asked.Verify file proof top) =
    verify (string_bytes file) (string_bytes proof) (option_map string_bytes top)
plain (asked.List file top) = list (string_bytes file) (option_map string_bytes top)
plain (asked.Cnf file number top) =
    cnf (string_bytes file) number (option_map string_bytes top)
plain (asked.Sim file level order top) = sim (string_bytes file)
    (option_map string_bytes level) order (option_map string_bytes top)
plain (asked.Compare file a b level top) = compare (string_bytes file) (string_bytes a)
    (string_bytes b) (string_bytes level) (option_map string_bytes top)
plain (asked.Gen lanes checks) = gen lanes checks

-- the budget of a check is within its bounds
abbrev pub HasBudget : Request → Type 0
HasBudget (check file proof budget top json) = IsBudget budget
HasBudget _ = ⊤

-- nothing is wrong with the words, and the command is what they ask for
abbrev pub IsAskedBy : List Text → Command → Type 0
IsAskedBy words command = (usage_of words ≡ None) × (request_of words ≡ Some (plain command))

-- why the words give no command
abbrev pub IsFaultOf : List Text → WordFault → Type 0
IsFaultOf words (Usage kind) = usage_of words ≡ Some kind
IsFaultOf words OutOfMemory = ⊤
