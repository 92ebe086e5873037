-- What small stimuli say, and what is wrong with others, by computation.
use Rattle.std.proofs.Common.{◌≡◌, ℕ, List, [], ◌∷◌, map, Option, Some, None, refl}
use Rattle.std.specs.Prelude.{codes}
use Rattle.sv_texts.specs.declared.stimuli.StimKind.TheVariants.{Header, Name, Value}
use Rattle.sv_trace.specs.declared.faults.StimFault.{StimFault}
use Rattle.sv_trace.specs.declared.faults.StimFault.TheVariants.{Line}
use Rattle.sv_trace.specs.Forms.{StimForm}
use Rattle.sv_trace.specs.Stimulus.{read_whole, read_front, fault_of, start_of, cycles_of}

-- an input d and a register q, each of 4 bits
abbrev form : StimForm
form = record {
  header = codes "inputs d";
  inputs = 4 ∷ [];
  registers = record { name = codes "q"; width = 4 } ∷ [];
}

abbrev wrong : List ℕ → Option StimFault
wrong text = fault_of (read_whole form text)

-- ---- a stimulus of two cycles, the second without a line feed

abbrev two_cycles : List ℕ
two_cycles = codes "start q f\ninputs d\n3\n000A"

pub it_is_right : wrong two_cycles ≡ None
it_is_right = refl

pub its_start : start_of form (read_whole form two_cycles).right ≡ 15 ∷ []
its_start = refl

pub its_cycles : cycles_of (read_whole form two_cycles).right ≡ (3 ∷ []) ∷ (10 ∷ []) ∷ []
its_cycles = refl

-- the last line is read only at the end of the text
pub its_front : cycles_of (read_front form two_cycles).right ≡ (3 ∷ []) ∷ []
its_front = refl

pub no_start : start_of form (read_whole form (codes "inputs d\n")).right ≡ 0 ∷ []
no_start = refl

-- ---- wrong lines

-- the cycles before a wrong line stay
pub before_it : cycles_of (read_whole form (codes "inputs d\n3\n10\n4\n")).right ≡ (3 ∷ []) ∷ []
before_it = refl

pub too_wide : wrong (codes "inputs d\n3\n10\n4\n") ≡ Some (Line 3 Value)
too_wide = refl

pub no_second_blank : wrong (codes "start q\ninputs d\n") ≡ Some (Line 1 Value)
no_second_blank = refl

pub no_header : wrong (codes "start q 1\n") ≡ Some (Line 2 Header)
no_header = refl

pub started_twice : wrong (codes "start q 1\nstart q zz\ninputs d\n") ≡ Some (Line 2 Name)
started_twice = refl

-- that is wrong with each of the texts
abbrev AreWrong : StimFault → List (List ℕ) → Type 0
AreWrong fault texts = map wrong texts ≡ map (λ (t : List ℕ). Some fault) texts

-- seventeen digits, no value, two values, a trailing blank, and a start that is late
pub no_values : AreWrong (Line 2 Value) (
    codes "inputs d\n00000000000000003\n"
    ∷ codes "inputs d\n\n"
    ∷ codes "inputs d\n3 3\n"
    ∷ codes "inputs d\n3 \n"
    ∷ codes "inputs d\nstart q 1\n"
    ∷ [])
no_values = refl

-- no text, another header, and no first blank
pub no_headers : AreWrong (Line 1 Header) (
    []
    ∷ codes "inputs q\n"
    ∷ codes "start\ninputs d\n"
    ∷ [])
no_headers = refl

-- an input that starts, and two blanks
pub no_names : AreWrong (Line 1 Name) (
    codes "start d zz\ninputs d\n"
    ∷ codes "start  q 1\ninputs d\n"
    ∷ [])
no_names = refl
