-- The words of each command, as the simple command of `clap` that reads them. FILE, PROOF, NUMBER,
-- A, B and LANES are words that stand alone and have to be there; an option is `--NAME VALUE` or
-- `--NAME=VALUE`, and a flag `--NAME`, before or behind them, once at most; after a word `--` no
-- word is an option or a flag.
use Rattle.std.specs.Prelude.{ℕ, Bool, true, List, Option, Some, None, codes, cond, pos}
use Rattle.std.specs.Str.{bytes_eq}
use Rattle.clap.specs.Words.{App, Rule, Row, Text, fault_of, matches_of, new_app, new_rule}
use Rattle.clap.specs.Words.{with_rule}
use Rattle.clap.specs.Walk.{is_empty}
use Rattle.clap.specs.declared.builder.action.ArgAction.TheVariants.{Set, SetTrue}
use Rattle.clap.specs.declared.builder.value_parser.ValueParser.TheVariants as parser
use Rattle.clap.specs.declared.builder.value_parser.ValueParser.TheVariants.{Signed, Unsigned}
use Rattle.sv_words.specs.declared.command.CommandName.{CommandName}
use Rattle.sv_words.specs.declared.command.CommandName.TheVariants.{Check, List as ListName, Cnf}
use Rattle.sv_words.specs.declared.command.CommandName.TheVariants.{Sim, Verify, Compare}
use Rattle.sv_words.specs.declared.command.CommandName.TheVariants.{Gen}

-- a word that stands alone and has to be there
abbrev pub needed : Text → Rule
needed id = record (new_rule id) { action = Some Set; required = true }

-- the greatest number that a u32 holds
abbrev pub greatest_small : ℕ
greatest_small = 4294967295

-- a word that stands alone and has to be there, and is a number that a u32 holds
abbrev pub needed_number : Text → Rule
needed_number id =
    record (needed id) { parser = Some (Signed (pos 0) (pos greatest_small)) }

-- an option with one value, any text
abbrev pub option : Text → Rule
option id = record (new_rule id) { long = Some id; action = Some Set; value_names = 1 }

-- an option that has to be there, with one value, any text
abbrev pub needed_option : Text → Rule
needed_option id = record (option id) { required = true }

-- an option without a value
abbrev pub flag : Text → Rule
flag id = record (new_rule id) {
  long = Some id;
  action = Some SetTrue;
  parser = Some parser.Bool;
}

-- an option whose value is a number from `least` to `most`
abbrev pub number : Text → (least most : ℕ) → Rule
number id least most = record (option id) { parser = Some (Unsigned least most) }

-- an option whose value is a number from `least` to `most`, where a u32 holds both
abbrev pub small_number : Text → (least most : ℕ) → Rule
small_number id least most = record (option id) { parser = Some (Signed (pos least) (pos most)) }

-- the greatest budget
abbrev pub greatest_budget : ℕ
greatest_budget = 4000000000

-- the greatest number that a u64 holds
abbrev pub greatest : ℕ
greatest = 18446744073709551615

-- a command with no words yet, and without `-h` and `--help`
abbrev pub named : Text → App
named name = let a = new_app name in record a { top = record a.top { disable_help_flag = true } }

-- the word of a command
abbrev pub word_of : CommandName → Text
word_of Check = codes "check"
word_of Verify = codes "verify"
word_of ListName = codes "list"
word_of Cnf = codes "cnf"
word_of Sim = codes "sim"
word_of Compare = codes "compare"
word_of Gen = codes "gen"

-- `check FILE [--proof NAME] [--budget N] [--top M] [--json]`
abbrev pub check_line : App
check_line = with_rule (with_rule (with_rule (with_rule (with_rule (named (codes "check"))
    (needed (codes "FILE"))) (option (codes "proof")))
    (small_number (codes "budget") 1 greatest_budget)) (option (codes "top")))
    (flag (codes "json"))

-- `verify FILE PROOF [--top M]`
abbrev pub verify_line : App
verify_line = with_rule (with_rule (with_rule (named (codes "verify")) (needed (codes "FILE")))
    (needed (codes "PROOF"))) (option (codes "top"))

-- `list FILE [--top M]`
abbrev pub list_line : App
list_line = with_rule (with_rule (named (codes "list")) (needed (codes "FILE")))
    (option (codes "top"))

-- `cnf FILE NUMBER [--top M]`
abbrev pub cnf_line : App
cnf_line = with_rule (with_rule (with_rule (named (codes "cnf")) (needed (codes "FILE")))
    (needed_number (codes "NUMBER"))) (option (codes "top"))

-- `sim FILE [--level P] [--order N] [--top M]`
abbrev pub sim_line : App
sim_line = with_rule (with_rule (with_rule (with_rule (named (codes "sim"))
    (needed (codes "FILE"))) (option (codes "level"))) (number (codes "order") 0 greatest))
    (option (codes "top"))

-- `compare FILE A B --level P [--top M]`
abbrev pub compare_line : App
compare_line = with_rule (with_rule (with_rule (with_rule (with_rule (named (codes "compare"))
    (needed (codes "FILE"))) (needed (codes "A"))) (needed (codes "B")))
    (needed_option (codes "level"))) (option (codes "top"))

-- `gen LANES [--check]`
abbrev pub gen_line : App
gen_line = with_rule (with_rule (named (codes "gen")) (needed_number (codes "LANES")))
    (flag (codes "check"))

unfoldable pub line_of : CommandName → App
line_of Check = check_line
line_of Verify = verify_line
line_of ListName = list_line
line_of Cnf = cnf_line
line_of Sim = sim_line
line_of Compare = compare_line
line_of Gen = gen_line

-- the command that a first word names
abbrev pub command_named : Text → Option CommandName
command_named word =
    cond (bytes_eq word (codes "check")) (Some Check)
    (cond (bytes_eq word (codes "verify")) (Some Verify)
    (cond (bytes_eq word (codes "list")) (Some ListName)
    (cond (bytes_eq word (codes "cnf")) (Some Cnf)
    (cond (bytes_eq word (codes "sim")) (Some Sim)
    (cond (bytes_eq word (codes "compare")) (Some Compare)
    (cond (bytes_eq word (codes "gen")) (Some Gen) None))))))

-- `clap` reads the words: they begin with the command's name
unfoldable pub is_read : CommandName → List Text → Bool
is_read name words = is_empty (fault_of (line_of name) words)

-- what it finds in them
unfoldable pub found_in : CommandName → List Text → List Row
found_in name words = matches_of (line_of name) words
