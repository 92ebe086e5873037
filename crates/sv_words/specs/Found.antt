-- Private: how the code goes. What was found in a line that was read; the meaning stands in
-- `Words.antt`.
use Rattle.std.specs.Prelude.{◌≡◌, ◌||◌, ℕ, List, Some, codes, is_some, true, pos, ⊤}
use Rattle.std.specs.Str.{bytes_eq}
use Rattle.clap.specs.Words.{Text, first_value, found_of, one_text, rows_of}
use Rattle.clap.specs.Lexer.{without_minus}
use Rattle.clap.specs.Values.{IsSignedIn, IsUnsignedIn}
use Rattle.clap.specs.declared.parser.matches.ArgMatches.{ArgMatches}
use Rattle.sv_words.specs.Lines.{found_in, greatest, greatest_budget, greatest_small}
use Rattle.sv_words.specs.Lines.{is_read}
use Rattle.sv_words.specs.Words.{HasBudget, plain, request_in}
use Rattle.sv_words.specs.declared.command.Command.{Command}
use Rattle.sv_words.specs.declared.command.CommandName.{CommandName}
use Rattle.sv_words.specs.declared.command.CommandName.TheVariants as name
use Rattle.sv_words.specs.declared.command.WordFault.{WordFault}
use Rattle.sv_words.specs.declared.command.WordFault.TheVariants.{Usage, OutOfMemory}
use Rattle.sv_words.specs.declared.command.UsageKind.TheVariants.{Words}
use Rattle.std.specs.Prelude.{false}

-- the argument is there
abbrev pub IsGiven : Text → ArgMatches → Type 0
IsGiven id m = is_some (first_value (found_of m) id) ≡ true

-- where the option is there, its value is a number within the bounds, and read as it is written
abbrev pub HasNumber : Text → ℕ → ℕ → ArgMatches → Type 0
HasNumber id least most m = (text : Text) → first_value (found_of m) id ≡ Some text
    → (one_text (found_of m) id ≡ Some text) × IsUnsignedIn least most text

-- where the option is there, its value is a number within the bounds, and read without a `-` before
-- it
abbrev pub HasSmallNumber : Text → ℕ → ℕ → ArgMatches → Type 0
HasSmallNumber id least most m = (text : Text) → first_value (found_of m) id ≡ Some text
    → (one_text (found_of m) id ≡ Some (without_minus text))
    × IsSignedIn (pos least) (pos most) text

-- a number that a u32 holds is there, and read without a `-` before it
pub record HasNeededNumber (id : Text) (m : ArgMatches) : Type 0 where
  pub text : Text
  pub has : first_value (found_of m) id ≡ Some text
  pub read : one_text (found_of m) id ≡ Some (without_minus text)
  pub within : IsSignedIn (pos 0) (pos greatest_small) text

-- where the flag has a value, that is `true` or `false`, and read as it is written
abbrev pub HasFlag : Text → ArgMatches → Type 0
HasFlag id m = (text : Text) → first_value (found_of m) id ≡ Some text
    → (one_text (found_of m) id ≡ Some text)
    × ((bytes_eq text (codes "true") || bytes_eq text (codes "false")) ≡ true)

-- what the command has besides texts that may be left out
abbrev pub HasWords : CommandName → ArgMatches → Type 0
HasWords name.Check m = IsGiven (codes "FILE") m
    × HasSmallNumber (codes "budget") 1 greatest_budget m × HasFlag (codes "json") m
HasWords name.Verify m = IsGiven (codes "FILE") m × IsGiven (codes "PROOF") m
HasWords name.List m = IsGiven (codes "FILE") m
HasWords name.Cnf m = IsGiven (codes "FILE") m × HasNeededNumber (codes "NUMBER") m
HasWords name.Sim m = IsGiven (codes "FILE") m × HasNumber (codes "order") 0 greatest m
HasWords name.Compare m = IsGiven (codes "FILE") m × IsGiven (codes "A") m × IsGiven (codes "B") m
    × IsGiven (codes "level") m
HasWords name.Gen m = HasNeededNumber (codes "LANES") m × HasFlag (codes "check") m

-- the command's words were read, and these are their matches
pub record IsReadAs (name : CommandName) (words : List Text) (m : ArgMatches) : Type 0 where
  pub read : is_read name words ≡ true
  pub rows : rows_of (found_of m) ≡ found_in name words
  pub has : HasWords name m

-- the matches ask for the command
abbrev pub IsFoundIn : CommandName → ArgMatches → Command → Type 0
IsFoundIn name m command = (request_in name (rows_of (found_of m)) ≡ Some (plain command))
    × HasBudget (plain command)

-- why the words were not read
abbrev pub Rejects : CommandName → List Text → WordFault → Type 0
Rejects name words (Usage kind) = (kind ≡ Words) × (is_read name words ≡ false)
Rejects name words OutOfMemory = ⊤
