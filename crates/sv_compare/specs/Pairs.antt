-- What two stimuli let read, one after the other, and which of their lines is the first wrong one
-- (this project's profile).
use Rattle.std.specs.Prelude.{◌≡◌, ℕ, List, Some, None}
use Rattle.sv_trace.specs.declared.faults.StimFault.TheVariants.{Line}
use Rattle.sv_trace.specs.Forms.{StimForm}
use Rattle.sv_trace.specs.Stimulus.{read_whole, fault_of}
use Rattle.sv_compare.specs.declared.faults.CompareFault.{CompareFault}
use Rattle.sv_compare.specs.declared.faults.CompareFault.TheVariants.{First, Second, OutOfMemory}

-- no line of a whole stimulus is wrong
abbrev pub IsRight : StimForm → (bytes : List ℕ) → Type 0
IsRight form bytes = (read_whole form bytes).wrong ≡ None

-- why two stimuli are not compared: the first one has a wrong line, or it has none and the second
-- one has; want of memory says nothing
abbrev pub HasCompareFault : StimForm → (first second : List ℕ) → CompareFault → Type 0
HasCompareFault form first second (First line kind) =
    fault_of (read_whole form first) ≡ Some (Line line kind)
HasCompareFault form first second (Second line kind) =
    IsRight form first × (fault_of (read_whole form second) ≡ Some (Line line kind))
HasCompareFault form first second OutOfMemory = Unit {0}
