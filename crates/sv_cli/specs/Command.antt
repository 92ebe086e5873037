-- What the words of the program ask for, as the answers to them need it.
use Rattle.std.specs.Prelude.{ℕ, IsTrue, List, Option, Some, None, cond}
use Rattle.sv_words.specs.Words.{Request, check, verify, list, cnf, sim, compare, gen}
use Rattle.sv_report.specs.declared.styles.Style.{Style}
use Rattle.sv_report.specs.declared.styles.Style.TheVariants.{Lines, Json}

-- FILE, where the command has one
abbrev pub file_in : Request → Option (List ℕ)
file_in (check file proof budget top json) = Some file
file_in (verify file proof top) = Some file
file_in (list file top) = Some file
file_in (cnf file number top) = Some file
file_in (sim file level order top) = Some file
file_in (compare file a b level top) = Some file
file_in (gen lanes checks) = None

-- the module that is asked for as the top, where one is
abbrev pub top_in : Request → Option (List ℕ)
top_in (check file proof budget top json) = top
top_in (verify file proof top) = top
top_in (list file top) = top
top_in (cnf file number top) = top
top_in (sim file level order top) = top
top_in (compare file a b level top) = top
top_in (gen lanes checks) = None

-- how a verdict is told: as JSON where `check` asks for that, else in lines
abbrev pub style_in : Request → Style
style_in (check file proof budget top json) = cond json Json Lines
style_in request = Lines

-- `check`, `verify` and `gen --check` claim that a text which they accept keeps its secrets
abbrev pub Claims : Request → Type 0
Claims (check file proof budget top json) = Unit {0}
Claims (verify file proof top) = Unit {0}
Claims (gen lanes checks) = IsTrue checks
Claims request = ⊥
