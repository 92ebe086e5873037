-- The signals and processes of a flat design (this project's profile).
use Rattle.std.specs.Prelude.{ℕ, Bool, true, false, ◌&&◌, List, length, filter}
use Rattle.std.specs.List.{list_any, range_with_len}
use Rattle.sv_num.specs.declared.faults.Place.{Place}
use Rattle.sv_flat.specs.declared.signals.SigKind.{SigKind}
use Rattle.sv_flat.specs.declared.signals.SigKind.TheVariants.{TopInput, Input, Reg, OutputReg}
use Rattle.sv_flat.specs.Design.{ProcessKind, combinational, clocked, ProcessForm, FlatDesign}
use Rattle.sv_flat.specs.Values.{signal_of}
use Rattle.sv_flat.specs.Assigned.{assigns}
use Rattle.sv_flat.specs.Sets.{those}

-- ---- kinds

abbrev pub kind_of : FlatDesign → ℕ → SigKind
kind_of design s = (signal_of design.signals s).kind

abbrev pub is_top_kind : SigKind → Bool
is_top_kind TopInput = true
is_top_kind _ = false

-- an input port, of the top module or of an instance
abbrev pub is_input_kind : SigKind → Bool
is_input_kind Input = true
is_input_kind kind = is_top_kind kind

-- declared as a `reg`
abbrev pub is_reg_kind : SigKind → Bool
is_reg_kind Reg = true
is_reg_kind OutputReg = true
is_reg_kind _ = false

abbrev pub is_top_input : FlatDesign → ℕ → Bool
is_top_input design s = is_top_kind (kind_of design s)

abbrev pub is_clocked : ProcessKind → Bool
is_clocked (clocked clock) = true
is_clocked _ = false

-- an `always @*`
abbrev pub is_block : ProcessKind → Bool
is_block combinational = true
is_block _ = false

-- ---- signals

-- the place of a signal's declaration
abbrev pub declared_at : FlatDesign → ℕ → Place
declared_at design s = (signal_of design.signals s).place

-- the numbers of all signals
abbrev pub signal_numbers : FlatDesign → List ℕ
signal_numbers design = range_with_len 0 (length design.signals)

-- the signals that pass a test, in signal order
abbrev pub signals_that : FlatDesign → (ℕ → Bool) → List ℕ
signals_that design test = those (length design.signals) test

-- the processes that assign a signal, in order
abbrev pub drivers : List ProcessForm → ℕ → List ProcessForm
drivers processes s = filter (λ (p : ProcessForm). assigns p.body s) processes

-- some clocked process assigns the signal
abbrev pub is_register : FlatDesign → ℕ → Bool
is_register design s =
    list_any (λ (p : ProcessForm). is_clocked p.kind && assigns p.body s) design.processes
