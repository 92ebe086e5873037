-- What a reader has read, as a contract sees it.
use Rattle.std.specs.Prelude.{◌≡◌, ℕ, ◌+◌, ◌^◌, ◌<◌, ◌≤◌, ◌==◌, Bool, true, false, List, [], ◌∷◌}
use Rattle.std.specs.Prelude.{◌++◌, length, map, flat_map, slice_index, slice_index_or, All, Option}
use Rattle.std.specs.Prelude.{Some, None, IsNone, Result, Ok, Err}
use Rattle.std.specs.List.{list_any, prefix_len}
use Rattle.sv_trace.specs.declared.faults.StimFault.{StimFault}
use Rattle.sv_trace.specs.declared.faults.StimFault.TheVariants.{Line, OutOfMemory}
use Rattle.sv_trace.specs.declared.forms.Register.{Register}
use Rattle.sv_trace.specs.declared.state.ReaderState.{ReaderState}
use Rattle.sv_trace.specs.Forms.{StimForm}
use Rattle.sv_trace.specs.Stimulus.{LinesRead, read_front, fault_of, has_header, starts_at}
use Rattle.sv_trace.specs.Stimulus.{is_start, start_of, cycles_of}

-- what the lines so far say: whether the header was read, which registers were started, their
-- values, the cycles that were not taken, and the number of the next line
pub record Said : Type 0 where
  pub begun : Bool
  pub given : List Bool
  pub start : List ℕ
  pub cycles : List (List ℕ)
  pub line : ℕ

-- a reader: what it looks for, what the lines so far say, what was fed of the next line, the fault
-- that it answers, and whether the text has ended
pub record Reading : Type 0 where
  pub form : StimForm
  pub said : Said
  pub rest : List ℕ
  pub fault : Option StimFault
  pub finished : Bool

abbrev pub said_of : ReaderState → Said
said_of s = record {
  begun = s.begun;
  given = s.given.items;
  start = s.start.items;
  cycles = map (λ v. v.items) s.cycles.items;
  line = s.line;
}

-- one value for each width, of so many bits
pub record FitWidths (widths values : List ℕ) : Type 0 where
  pub count : length values ≡ length widths
  pub each : (k : ℕ) → k < length widths → slice_index values k < 2 ^ slice_index widths k

abbrev pub widths_of : List Register → List ℕ
widths_of registers = map (λ (r : Register). r.width) registers

-- what holds of all that lines say
pub record IsSaid (form : StimForm) (said : Said) : Type 0 where
  pub given : length said.given ≡ length form.registers
  pub start : FitWidths (widths_of form.registers) said.start
  pub cycles : All (FitWidths form.inputs) said.cycles

-- what holds of every reader
pub record IsReading (reading : Reading) : Type 0 where
  pub said : IsSaid reading.form reading.said
  pub room : reading.said.line + length reading.rest < 2 ^ 64
  pub short : length reading.rest ≤ 1048576

-- ---- what was read

-- before the header every line is a start, and these registers are given
pub record IsStarting (form : StimForm) (right : List (List ℕ)) (given : List Bool) : Type 0 where
  pub starts : prefix_len is_start right ≡ length right
  pub flags : (k : ℕ) → k < length form.registers →
      slice_index_or given k false ≡ list_any (starts_at form.registers k) right

-- these right lines are what was read, and these cycles were taken of them
pub record HaveRead (form : StimForm) (right taken : List (List ℕ)) (said : Said) : Type 0 where
  pub header : is_start form.header ≡ false
  pub begun : said.begun ≡ has_header form right
  pub starting : has_header form right ≡ false → IsStarting form right said.given
  pub cycling : has_header form right ≡ true → prefix_len is_start right < length right
  pub start : said.start ≡ start_of form right
  pub cycles : taken ++ said.cycles ≡ cycles_of right
  pub line : said.line ≡ length right + 1

-- a front of these right lines was read, and these cycles were taken of it
pub record HaveReadFront (form : StimForm) (right taken : List (List ℕ)) (said : Said) :
    Type 0 where
  pub front : List (List ℕ)
  pub later : List (List ℕ)
  pub is : right ≡ front ++ later
  pub lines : HaveRead form front taken said

-- the cycles that were not taken stay, and more may stand behind them
abbrev pub KeepsCycles : (old new : Said) → Type 0
KeepsCycles old new = (more : List (List ℕ)) × (new.cycles ≡ old.cycles ++ more)

-- the reader has the start, the cycles and the fault of what was read
pub record HasRead (read : LinesRead) (taken : List (List ℕ)) (reading : Reading) : Type 0 where
  pub lines : HaveRead reading.form read.right taken reading.said
  pub fault : reading.fault ≡ fault_of read

-- lines, with a line feed behind each
abbrev pub text_of : List (List ℕ) → List ℕ
text_of lines = flat_map (λ line. line ++ 10 ∷ []) lines

abbrev pub Lacks : ℕ → List ℕ → Type 0
Lacks byte bytes = All (λ other. (other == byte) ≡ false) bytes

-- the bytes are these lines and the front of one more
pub record IsCut (bytes : List ℕ) (lines : List (List ℕ)) (rest : List ℕ) : Type 0 where
  pub text : bytes ≡ text_of lines ++ rest
  pub each : All (Lacks 10) lines
  pub last : Lacks 10 rest
  pub short : length rest ≤ 1048576

-- the reader has read these bytes, and these cycles were taken from it
pub record HasFed (bytes : List ℕ) (taken : List (List ℕ)) (reading : Reading) : Type 0 where
  pub read : HasRead (read_front reading.form bytes) taken reading
  pub cut : IsNone reading.fault → IsCut bytes (read_front reading.form bytes).right reading.rest

-- ---- answers

-- what a reader answers with this fault
abbrev pub answer_of : Option StimFault → Result (Unit {0}) StimFault
answer_of None = Ok tt
answer_of (Some fault) = Err fault

-- a fact that holds unless memory ran out
abbrev pub UnlessFull : Result (Unit {0}) StimFault → Type 0 → Type 0
UnlessFull (Ok done) P = P
UnlessFull (Err (Line number kind)) P = P
UnlessFull (Err OutOfMemory) P = Unit {0}

-- a fact that holds where memory ran out
abbrev pub IfFull : Result (Unit {0}) StimFault → Type 0 → Type 0
IfFull (Ok done) P = Unit {0}
IfFull (Err (Line number kind)) P = Unit {0}
IfFull (Err OutOfMemory) P = P

-- the start and the cycles are those of a text that is right
pub record IsStim (form : StimForm) (read : LinesRead) (start : List ℕ) (cycles : List (List ℕ)) :
    Type 0 where
  pub right : fault_of read ≡ None
  pub starts : start ≡ start_of form read.right
  pub cycles_are : cycles ≡ cycles_of read.right

-- the fault is that of what was read; want of memory says nothing
abbrev pub IsFaultOf : LinesRead → StimFault → Type 0
IsFaultOf read (Line number kind) = fault_of read ≡ Some (Line number kind)
IsFaultOf read OutOfMemory = Unit {0}
