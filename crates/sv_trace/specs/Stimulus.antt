-- What a stimulus says, and which of its lines is the first wrong one (this project's profile).
use Rattle.std.specs.Prelude.{ℕ, ◌+◌, ◌^◌, Bool, true, false, ◌==◌, ◌&&◌, not, if◌then◌else◌}
use Rattle.std.specs.Prelude.{nat_lt, nat_le, List, [], ◌∷◌, ◌++◌, length, map, take, drop}
use Rattle.std.specs.Prelude.{replicate, codes, Option, Some, None, option_map, is_none, slice_set}
use Rattle.std.specs.Prelude.{slice_index_or, position, fold}
use Rattle.std.specs.Char.{is_digit}
use Rattle.std.specs.List.{list_any, list_all, before_first, after_first, slice_split}
use Rattle.std.specs.List.{take_while}
use Rattle.std.specs.Option.{option_map_or}
use Rattle.std.specs.Str.{bytes_eq}
use Rattle.std.specs.Str.Parse.{digits_value}
use Rattle.sv_texts.specs.declared.stimuli.StimKind.{StimKind}
use Rattle.sv_texts.specs.declared.stimuli.StimKind.TheVariants.{TooLong, Header, Name, Value}
use Rattle.sv_trace.specs.declared.faults.StimFault.{StimFault}
use Rattle.sv_trace.specs.declared.faults.StimFault.TheVariants.{Line}
use Rattle.sv_trace.specs.declared.forms.Register.{Register}
use Rattle.sv_trace.specs.Forms.{StimForm}

-- ---- words

abbrev pub is_blank : ℕ → Bool
is_blank byte = byte == 32

-- 1 to 16 hexadecimal digits in either case, of a value of so many bits
abbrev pub is_value : (width : ℕ) → List ℕ → Bool
is_value width digits =
    nat_le 1 (length digits) && nat_le (length digits) 16 && list_all (λ c. is_digit c 16) digits
    && nat_lt (digits_value 16 digits) (2 ^ width)

-- ---- the lines `start NAME VALUE`

abbrev pub is_start : List ℕ → Bool
is_start line = bytes_eq (take 6 line) (codes "start ")

-- up to the next blank
abbrev pub start_name : List ℕ → List ℕ
start_name line = before_first is_blank (drop 6 line)

-- what follows that blank
abbrev pub start_digits : List ℕ → List ℕ
start_digits line = after_first is_blank (drop 6 line)

-- the place, among the registers, of the one with this name
abbrev pub place_of : List Register → List ℕ → Option ℕ
place_of registers name = position (λ (r : Register). bytes_eq r.name name) registers

-- the line is the start of the register at the place
abbrev pub starts_at : List Register → (place : ℕ) → List ℕ → Bool
starts_at registers place line =
    is_start line
    && option_map_or (λ k. k == place) (place_of registers (start_name line)) false

abbrev pub width_at : List Register → (place : ℕ) → ℕ
width_at registers place =
    (slice_index_or registers place (record { name = []; width = 0 })).width

-- what is wrong with the start of the register at this place, where some places were given before
abbrev pub start_fault : List Register → (given : ℕ → Bool) → (digits : List ℕ) → Option ℕ →
    Option StimKind
start_fault registers given digits None = Some Name
start_fault registers given digits (Some place) =
    if given place then Some Name
    else (if is_value (width_at registers place) digits then None else Some Value)

-- ---- the lines of cycles

-- what single blanks join; an empty line has no words
abbrev pub words : List ℕ → List (List ℕ)
words [] = []
words (byte ∷ bytes) = slice_split is_blank (byte ∷ bytes)

-- one value for each width
abbrev pub are_values : (widths : List ℕ) → List (List ℕ) → Bool
are_values [] [] = true
are_values (width ∷ widths) (digits ∷ more) = is_value width digits && are_values widths more
are_values [] (digits ∷ more) = false
are_values (width ∷ widths) [] = false

-- ---- lines

abbrev pub has_header : StimForm → List (List ℕ) → Bool
has_header form before = list_any (λ line. bytes_eq line form.header) before

-- what is wrong with a line after these ones, which are right
abbrev pub line_fault : StimForm → (before : List (List ℕ)) → List ℕ → Option StimKind
line_fault form before line =
    if nat_lt 1048576 (length line) then Some TooLong
    else (if has_header form before
    then (if are_values form.inputs (words line) then None else Some Value)
    else (if bytes_eq line form.header then None
    else (if is_start line
    then start_fault form.registers (λ k. list_any (starts_at form.registers k) before)
    (start_digits line) (place_of form.registers (start_name line))
    else Some Header)))

-- lines that were read: the right ones before the first wrong one, and what is wrong with that
pub record LinesRead : Type 0 where
  pub right : List (List ℕ)
  pub wrong : Option StimKind

-- a line was read after right ones: where it is right the rest was read too, as given here
abbrev pub read_next : Option StimKind → (before : List (List ℕ)) → (rest : LinesRead) → LinesRead
read_next None before rest = rest
read_next (Some kind) before rest = record { right = before; wrong = Some kind }

-- these lines, read after right ones
abbrev pub read_after : StimForm → (before lines : List (List ℕ)) → LinesRead
read_after form before [] = record { right = before; wrong = None }
read_after form before (line ∷ lines) =
    read_next (line_fault form before line) before (read_after form (before ++ line ∷ []) lines)

-- the wrong line, by its number from 1
abbrev pub fault_of : LinesRead → Option StimFault
fault_of read = option_map (Line (length read.right + 1)) read.wrong

-- ---- texts

-- what stands before, between and after line feeds
abbrev pub parts : List ℕ → List (List ℕ)
parts bytes = slice_split (λ byte. byte == 10) bytes

-- the parts that are lines: the last one, which no line feed ends, only if it passes the test
abbrev pub lines_if : (List ℕ → Bool) → List (List ℕ) → List (List ℕ)
lines_if test [] = []
lines_if test (last ∷ []) = if test last then last ∷ [] else []
lines_if test (line ∷ next ∷ more) = line ∷ lines_if test (next ∷ more)

-- what the first bytes of a text let read: the lines that have a line feed or are too long
abbrev pub read_front : StimForm → List ℕ → LinesRead
read_front form bytes =
    read_after form [] (lines_if (λ last. nat_lt 1048576 (length last)) (parts bytes))

-- a text without a header lacks it in the line after the last
abbrev pub ended : StimForm → LinesRead → LinesRead
ended form read =
    if is_none read.wrong && not (has_header form read.right)
    then (record { right = read.right; wrong = Some Header }) else read

-- what a whole text lets read: its last line may lack the line feed if it is not empty
abbrev pub read_whole : StimForm → List ℕ → LinesRead
read_whole form bytes =
    ended form (read_after form [] (lines_if (λ last. nat_lt 0 (length last)) (parts bytes)))

-- ---- what right lines say

abbrev pub start_lines : List (List ℕ) → List (List ℕ)
start_lines right = take_while is_start right

-- the registers' values, once a start line has given its register a value
abbrev pub started : StimForm → (values : List ℕ) → List ℕ → List ℕ
started form values line =
    option_map_or (λ place. slice_set values place (digits_value 16 (start_digits line)))
    (place_of form.registers (start_name line)) values

-- the registers' starting values; a register without a start line starts at 0
abbrev pub start_of : StimForm → List (List ℕ) → List ℕ
start_of form right =
    fold (started form) (replicate (length form.registers) 0) (start_lines right)

-- the inputs' values, cycle by cycle
abbrev pub cycles_of : List (List ℕ) → List (List ℕ)
cycles_of right =
    map (λ line. map (digits_value 16) (words line)) (drop (length (start_lines right) + 1) right)
