-- Private: how the code goes. How the lines are read, one by one. What a stimulus says stands in
-- Stimulus.antt.
use Rattle.std.specs.Prelude.{◌≡◌, ℕ, ◌+◌, ◌<◌, Bool, true, if◌then◌else◌, slice_set, List, [], ◌∷◌}
use Rattle.std.specs.Prelude.{◌++◌, length, Option, Some, None}
use Rattle.std.specs.Prelude.{Result, Ok, Err}
use Rattle.std.specs.List.{slice_split}
use Rattle.std.specs.Str.Parse.{digits_value}
use Rattle.sv_texts.specs.declared.stimuli.StimKind.{StimKind}
use Rattle.sv_texts.specs.declared.stimuli.StimKind.TheVariants.{TooLong, Header, Value}
use Rattle.sv_trace.specs.declared.faults.StimFault.{StimFault}
use Rattle.sv_trace.specs.declared.faults.StimFault.TheVariants.{Line, OutOfMemory}
use Rattle.sv_trace.specs.declared.forms.Register.{Register}
use Rattle.sv_trace.specs.Forms.{StimForm}
use Rattle.sv_trace.specs.Reading.{Said, HaveRead, HaveReadFront, IsCut}
use Rattle.sv_trace.specs.Stimulus.{is_blank, line_fault, LinesRead, read_after, read_front}
use Rattle.sv_trace.specs.Stimulus.{fault_of, read_whole, words, are_values, is_start, start_name}
use Rattle.sv_trace.specs.Stimulus.{start_digits, start_fault, place_of}

-- the words of what is left of a line, if anything is
abbrev pub left_words : Option (List ℕ) → List (List ℕ)
left_words None = []
left_words (Some text) = slice_split is_blank text

-- so many bytes are too many for the line
abbrev pub IsTooLong : (line count : ℕ) → StimFault → Type 0
IsTooLong line count (Line number kind) =
    (number ≡ line) × (kind ≡ TooLong) × (1048576 < count)
IsTooLong line count OutOfMemory = Unit {0}

-- the fault of a line is this one, of the line with this number; want of memory says nothing
abbrev pub IsFaultAt : (number : ℕ) → Option StimKind → StimFault → Type 0
IsFaultAt number wrong (Line n kind) = (n ≡ number) × (wrong ≡ Some kind)
IsFaultAt number wrong OutOfMemory = Unit {0}

-- what is wrong with the line of a cycle
abbrev pub cycle_fault : StimForm → (line : List ℕ) → Option StimKind
cycle_fault form line = if are_values form.inputs (words line) then None else Some Value

-- what is wrong with a line before the header, where these registers were given
abbrev pub early_fault : StimForm → (given : ℕ → Bool) → (line : List ℕ) → Option StimKind
early_fault form given line =
    if is_start line
    then start_fault form.registers given (start_digits line)
    (place_of form.registers (start_name line))
    else Some Header

-- a register was given the value of its line
pub record IsPut (registers : List Register) (line : List ℕ) (old new : Said) : Type 0 where
  pub place : ℕ
  pub is : place_of registers (start_name line) ≡ Some place
  pub inside : place < length registers
  pub said : new ≡ record old {
    given = slice_set old.given place true;
    start = slice_set old.start place (digits_value 16 (start_digits line));
    line = old.line + 1;
  }

-- a line was read after right ones, with this answer
abbrev pub LineRead : StimForm → (right taken : List (List ℕ)) → (line : List ℕ) →
    Result (Unit {0}) StimFault → Said → Type 0
LineRead form right taken line (Ok done) said =
    (line_fault form right line ≡ None) × HaveRead form (right ++ line ∷ []) taken said
LineRead form right taken line (Err fault) said =
    IsFaultAt (length right + 1) (line_fault form right line) fault
    × HaveRead form right taken said

-- bytes that hold no wrong line so far were read, and the rest of the last line is kept
pub record Stands (form : StimForm) (bytes : List ℕ) (taken : List (List ℕ)) (said : Said)
    (kept : List ℕ) : Type 0 where
  pub right : List (List ℕ)
  pub cut : IsCut bytes right kept
  pub good : read_after form [] right ≡ record { right = right; wrong = None }
  pub lines : HaveRead form right taken said

-- bytes were read up to a fault
pub record Stops (read : LinesRead) (form : StimForm) (taken : List (List ℕ)) (said : Said)
    (fault : StimFault) : Type 0 where
  pub is : fault_of read ≡ Some fault
  pub lines : HaveRead form read.right taken said

-- bytes were read up to a fault of theirs, or until memory ran out
abbrev pub StopsWith : LinesRead → StimForm → (taken : List (List ℕ)) → Said → StimFault → Type 0
StopsWith read form taken said (Line number kind) = Stops read form taken said (Line number kind)
StopsWith read form taken said OutOfMemory = HaveReadFront form read.right taken said

-- what is kept of a line and more of it were read as a line, or not
abbrev pub LineEnded : StimForm → (bytes line : List ℕ) → (taken : List (List ℕ)) →
    Result (Unit {0}) StimFault → Said → (kept : List ℕ) → Type 0
LineEnded form bytes line taken (Ok done) said kept =
    Stands form (bytes ++ (line ++ 10 ∷ [])) taken said kept
LineEnded form bytes line taken (Err fault) said kept =
    (after : List ℕ) →
    StopsWith (read_front form (bytes ++ (line ++ 10 ∷ after))) form taken said fault

-- a piece was read, and with it these bytes
abbrev pub PieceRead : StimForm → (bytes : List ℕ) → (taken : List (List ℕ)) →
    Result (Unit {0}) StimFault → Said → (kept : List ℕ) → Type 0
PieceRead form bytes taken (Ok done) said kept = Stands form bytes taken said kept
PieceRead form bytes taken (Err fault) said kept =
    StopsWith (read_front form bytes) form taken said fault

-- the end of a text was read
pub record EndsWell (form : StimForm) (bytes : List ℕ) (taken : List (List ℕ)) (said : Said) :
    Type 0 where
  pub fault : fault_of (read_whole form bytes) ≡ None
  pub lines : HaveRead form (read_whole form bytes).right taken said

abbrev pub EndRead : StimForm → (bytes : List ℕ) → (taken : List (List ℕ)) →
    Result (Unit {0}) StimFault → Said → Type 0
EndRead form bytes taken (Ok done) said = EndsWell form bytes taken said
EndRead form bytes taken (Err fault) said =
    StopsWith (read_whole form bytes) form taken said fault
