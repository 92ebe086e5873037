-- The texts that several layers write (this project's profile). Each line ends with a line feed.
use Rattle.std.specs.Prelude.{◌≡◌, ℕ, nat_eq, List, [], ◌∷◌, ◌++◌, codes, decimal, find}
use Rattle.std.specs.Option.{option_map_or}
use Rattle.sv_num.specs.declared.faults.Place.{Place}
use Rattle.sv_num.specs.Rules.{rule_number, rule_name as name_of, rules}
use Rattle.sv_texts.specs.declared.stimuli.StimKind.{StimKind}
use Rattle.sv_texts.specs.declared.stimuli.StimKind.TheVariants as kind
use Rattle.sv_texts.specs.declared.stimuli.StimSource.{StimSource}
use Rattle.sv_texts.specs.declared.stimuli.StimSource.TheVariants as source

-- a text grew by the front of a piece
pub record GrowsByFront (old piece new : List ℕ) : Type 0 where
  pub front : List ℕ
  pub rest : List ℕ
  pub whole : piece ≡ front ++ rest
  pub grown : new ≡ old ++ front

-- a place: its line and its column
abbrev pub place_text : Place → List ℕ
place_text place = decimal place.line ++ codes ":" ++ decimal place.column

-- the name of the rule or limit with this number; that of any other number is empty
abbrev pub rule_name : ℕ → List ℕ
rule_name number = option_map_or name_of (find (λ rule. nat_eq (rule_number rule) number) rules) []

-- names, each after a blank
abbrev pub names_text : List (List ℕ) → List ℕ
names_text [] = []
names_text (name ∷ names) = codes " " ++ name ++ names_text names

-- a broken rule, where it is broken, and the names that go with it
abbrev pub refusal_text : (number : ℕ) → Place → (names : List (List ℕ)) → List ℕ
refusal_text number place names =
    codes "refused " ++ decimal number ++ codes " " ++ rule_name number ++ codes " "
    ++ place_text place ++ names_text names ++ codes "\n"

-- a limit that is exceeded
abbrev pub limit_text : (number : ℕ) → (names : List (List ℕ)) → List ℕ
limit_text number names =
    codes "refused " ++ decimal number ++ codes " " ++ rule_name number ++ names_text names
    ++ codes "\n"

-- where a stimulus comes from: the input, or one of two files
abbrev pub source_word : StimSource → List ℕ
source_word source.Input = codes "input"
source_word source.FileA = codes "A"
source_word source.FileB = codes "B"

-- what is wrong with a line of a stimulus
abbrev pub kind_word : StimKind → List ℕ
kind_word kind.TooLong = codes "too-long"
kind_word kind.Header = codes "header"
kind_word kind.Name = codes "name"
kind_word kind.Value = codes "value"

-- the first wrong line of a stimulus
abbrev pub stimulus_text : StimSource → (line : ℕ) → StimKind → List ℕ
stimulus_text source line kind =
    codes "refused stimulus " ++ source_word source ++ (codes " " ++ decimal line ++ codes " ")
    ++ kind_word kind ++ codes "\n"
