-- Examples of the definitions, computed. Words are written as one text, with a blank between two
-- of them.
use Rattle.std.proofs.Common.{◌≡◌, ◌==◌, ℕ, List, [], ◌∷◌, map, cond, true, false, Option, Some}
use Rattle.std.proofs.Common.{None, codes, refl}
use Rattle.clap.proofs.OnLiterals.{clap_on_literals}
use Rattle.clap.specs.Words.{Text}
use Rattle.sv_words.specs.Lines.{found_in, is_read, line_of}
use Rattle.sv_words.specs.Words.{Request, check, cnf, compare, gen, help_asked, list, request_of}
use Rattle.sv_words.specs.Words.{sim, usage_of, verify}
use Rattle.sv_words.specs.declared.command.CommandName.TheVariants.{Check, Compare, Gen}
use Rattle.sv_words.specs.declared.command.UsageKind.{UsageKind}
use Rattle.sv_words.specs.declared.command.UsageKind.TheVariants.{NoCommand, UnknownCommand, Words}

-- the words with this byte before the first
abbrev begun_by : ℕ → List Text → List Text
begun_by byte [] = (byte ∷ []) ∷ []
begun_by byte (word ∷ rest) = (byte ∷ word) ∷ rest

abbrev words : Text → List Text
words [] = [] ∷ []
words (byte ∷ rest) = cond (byte == 32) ([] ∷ words rest) (begun_by byte (words rest))

-- the words of each text are read, and ask for what stands beside it
abbrev AreRead : List (Text × Request) → Type 0
AreRead examples =
    map {B = Option UsageKind × Option Request}
    (λ (e : Text × Request). (usage_of (words e.0), request_of (words e.0))) examples
    ≡ map {B = Option UsageKind × Option Request} (λ (e : Text × Request). (None, Some e.1))
    examples

-- the words of no text go with the command
abbrev AreRefused : List Text → Type 0
AreRefused texts =
    map (λ (t : Text). usage_of (words t)) texts ≡ map (λ (t : Text). Some Words) texts

no_words : usage_of [] ≡ Some NoCommand
no_words = refl

unknown : usage_of (words (codes "Check f")) ≡ Some UnknownCommand
unknown = refl

checks : AreRead (
    -- the empty name after `--top=`
    (codes "check f --top=", check (codes "f") None 20000 (Some []) false)
    -- after `--` no word is an option
    ∷ (codes "check -- --top", check (codes "--top") None 20000 None false)
    -- a certificate to store and a budget, before FILE and behind it
    ∷ (
      codes "check --budget +07 f --proof=-x",
      check (codes "f") (Some (codes "-x")) 7 None false,
    )
    -- the bounds of a budget
    ∷ (codes "check f --budget=1", check (codes "f") None 1 None false)
    ∷ (codes "check f --budget=4000000000", check (codes "f") None 4000000000 None false)
    -- a flag stands before FILE or behind it
    ∷ (codes "check f --json", check (codes "f") None 20000 None true)
    ∷ (codes "check --json f", check (codes "f") None 20000 None true)
    ∷ [])
unfolding found_in is_read line_of clap_on_literals
checks = refl

no_checks : AreRefused (
    -- a budget out of bounds, with a minus, and twice
    codes "check f --budget=0"
    ∷ codes "check f --budget=4000000001"
    ∷ codes "check f --budget=-0"
    ∷ codes "check f --budget 5 --budget 6"
    -- a flag twice, with a value, with a word behind it, as a value and behind `--`
    ∷ codes "check f --json --json"
    ∷ codes "check f --json="
    ∷ codes "check f --json=true"
    ∷ codes "check f --json x"
    ∷ codes "check f --top --json"
    ∷ codes "check -- f --json"
    -- two tops, no file, and `--help`, which is no word of the command
    ∷ codes "check f --top=m --top=m"
    ∷ codes "check --top m"
    ∷ codes "check --help"
    ∷ [])
unfolding is_read line_of clap_on_literals
no_checks = refl

-- a text and its certificate
verifications : AreRead (
    (codes "verify f --top=m g", verify (codes "f") (codes "g") (Some (codes "m")))
    ∷ [])
unfolding found_in is_read line_of clap_on_literals
verifications = refl

-- the certificate has to be there and stands alone, and there is no budget
no_verifications : AreRefused (
    codes "verify f"
    ∷ codes "verify f --proof g"
    ∷ codes "verify f g --budget=5"
    ∷ [])
unfolding is_read line_of clap_on_literals
no_verifications = refl

-- a file, and a module of it
lists : AreRead (
    (codes "list f", list (codes "f") None)
    ∷ (codes "list f --top=m", list (codes "f") (Some (codes "m")))
    ∷ [])
unfolding found_in is_read line_of clap_on_literals
lists = refl

-- a list is not JSON, has no level, and is of one file
no_lists : AreRefused (
    codes "list f --json"
    ∷ codes "list f --level L"
    ∷ codes "list f g"
    ∷ [])
unfolding is_read line_of clap_on_literals
no_lists = refl

clauses : AreRead (
    (codes "cnf f 7", cnf (codes "f") 7 None)
    -- behind `--` the number may be 0 with a minus
    ∷ (codes "cnf --top=m -- f -0", cnf (codes "f") 0 (Some (codes "m")))
    ∷ [])
unfolding found_in is_read line_of clap_on_literals
clauses = refl

-- a number below 0, too large a number, and none
no_clauses : AreRefused (
    codes "cnf -- f -1"
    ∷ codes "cnf f 4294967296"
    ∷ codes "cnf f"
    ∷ [])
unfolding is_read line_of clap_on_literals
no_clauses = refl

runs : AreRead (
    -- a number may have a `+` and zeros before it, and `-` alone is a name
    (codes "sim --order +07 -", sim (codes "-") None (Some 7) None)
    -- a level is the point that is shown, and neither a top nor an order
    ∷ (codes "sim f --level L", sim (codes "f") (Some (codes "L")) None None)
    -- a top is the module, and no level
    ∷ (codes "sim f --top m", sim (codes "f") None None (Some (codes "m")))
    -- all three options, before FILE and behind it
    ∷ (
      codes "sim --order 1 f --level L --top m",
      sim (codes "f") (Some (codes "L")) (Some 1) (Some (codes "m")),
    )
    ∷ [])
unfolding found_in is_read line_of clap_on_literals
runs = refl

too_large_an_order : AreRefused (codes "sim f --order=18446744073709551616" ∷ [])
unfolding is_read line_of clap_on_literals
too_large_an_order = refl

-- a text and two stimuli, in this order, and a level, which may be the empty name
comparisons : AreRead ((
  codes "compare f a b --level L",
  compare (codes "f") (codes "a") (codes "b") (codes "L") None,
)
    ∷ (
      codes "compare --level=L f --top=m a -",
      compare (codes "f") (codes "a") (codes "-") (codes "L") (Some (codes "m")),
    )
    ∷ (
      codes "compare f a b --level=",
      compare (codes "f") (codes "a") (codes "b") [] None,
    )
    ∷ [])
unfolding found_in is_read line_of clap_on_literals
comparisons = refl

-- no level, two of them, one stimulus, and three
no_comparisons : AreRefused (
    codes "compare f a b"
    ∷ codes "compare f a b --level=L --level=L"
    ∷ codes "compare f a --level=L"
    ∷ codes "compare f a b c --level=L"
    ∷ [])
unfolding is_read line_of clap_on_literals
no_comparisons = refl

-- a sample design, and its verdict; the lanes are any number that a u32 holds
samples : AreRead (
    (codes "gen 200", gen 200 false)
    ∷ (codes "gen --check +01", gen 1 true)
    ∷ (codes "gen 4294967295", gen 4294967295 false)
    ∷ (codes "gen -- -0", gen 0 false)
    ∷ [])
unfolding found_in is_read line_of clap_on_literals
samples = refl

no_samples : AreRefused (
    -- a flag twice and with a value
    codes "gen 1 --check --check"
    ∷ codes "gen 1 --check=x"
    -- no lanes, two numbers of them, and one out of bounds
    ∷ codes "gen --check"
    ∷ codes "gen 1 1"
    ∷ codes "gen 4294967296"
    ∷ codes "gen -- -1"
    -- its top is known
    ∷ codes "gen 1 --top=m"
    ∷ [])
unfolding is_read line_of clap_on_literals
no_samples = refl

-- `--help` asks for help
helped : map (λ (t : Text). help_asked (words t))
    (codes "check --help" ∷ codes "compare --help" ∷ codes "gen --help" ∷ [])
    ≡ Some Check ∷ Some Compare ∷ Some Gen ∷ []
helped = refl
