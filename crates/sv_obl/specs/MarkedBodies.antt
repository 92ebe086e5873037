-- Bodies in which earlier reads are wanted, and the bodies of a design as the calls hold them (this
-- project's profile; which reads are earlier ones by IEEE 1364-2005, clauses 9.2.1 and 9.8.1).
use Rattle.std.specs.Prelude.{◌≡◌, ◌≤◌, ℕ, ◌&&◌, List, map, length, Option, Some, None}
use Rattle.std.specs.Prelude.{option_copied}
use Rattle.std.specs.Prelude.{Contains, IsTrue, IsFalse}
use Rattle.std.specs.Borrow.{Bor}
use Rattle.std.specs.BTreeSet.{BTreeSet, contains}
use Rattle.std.specs.List.{AllZip}
use Rattle.std.specs.Ordering.{nat_cmp}
use Rattle.sv_flat.specs.Assigned.{assigns}
use Rattle.sv_flat.specs.ByNumber.{signal_forms}
use Rattle.sv_flat.specs.Clocks.{processes_of}
use Rattle.sv_flat.specs.Design.{SignalForm, FlatStatement, nothing, after, assign, branch}
use Rattle.sv_flat.specs.Design.{ProcessForm, FlatDesign}
use Rattle.sv_flat.specs.Processes.{is_block}
use Rattle.sv_flat.specs.Readings.{Reading, readings, no_bits, is_followed}
use Rattle.sv_flat.specs.Views.{typed_tree, piece_form}
use Rattle.sv_obl.specs.declared.body_slices.Bodies.{Bodies}
use Rattle.sv_obl.specs.declared.marked.Marked.{Marked}
use Rattle.sv_obl.specs.declared.marked.Marked as marked
use Rattle.sv_obl.specs.BodySlices.{SameParts}
use Rattle.sv_obl.specs.IndexedBodies.{AreIndexed}
use Rattle.sv_obl.specs.Wanted.{with_copies, marked as marked_as}

-- ---- statements

-- the plain form
abbrev pub marked_statement : Marked → FlatStatement
marked_statement marked.Nothing = nothing
marked_statement (marked.Assign pieces place blocking right) =
    assign (map piece_form pieces.now) place blocking (typed_tree right)
marked_statement (marked.Chain' targets p first q second) =
    after (marked_statement first) (marked_statement second)
marked_statement (marked.Branch' targets place cond p first q second) =
    branch place (typed_tree cond) (marked_statement first) (marked_statement second)

-- a set has just the signals that a statement assigns
abbrev pub AreTargets : BTreeSet ℕ → FlatStatement → Type 0
AreTargets targets statement = (s : ℕ) → contains nat_cmp targets s ≡ assigns statement s

-- each part tells what it assigns
abbrev pub TellsTargets : Marked → Type 0
TellsTargets marked.Nothing = Unit {0}
TellsTargets (marked.Assign pieces place blocking right) = Unit {0}
TellsTargets (marked.Chain' targets p first q second) =
    AreTargets targets (after (marked_statement first) (marked_statement second))
    × TellsTargets first × TellsTargets second
TellsTargets (marked.Branch' targets place cond p first q second) =
    AreTargets targets
    (branch place (typed_tree cond) (marked_statement first) (marked_statement second))
    × TellsTargets first × TellsTargets second

-- it has the parts of a statement in which earlier reads are wanted
pub record IsMarkedOf (statement : FlatStatement) (x : Marked) : Type 0 where
  pub parts : SameParts (marked_statement x) statement
  pub tells : TellsTargets x

-- ---- processes

-- no read of the process is an earlier one: in an `always @*`, one that an assignment to a bit that
-- it reads can follow
abbrev pub AllSettled : List SignalForm → ProcessForm → Type 0
AllSettled signals process =
    (r : Reading) → Contains (readings signals process.body no_bits no_bits) r →
    IsFalse (is_block process.kind && is_followed signals r)

-- the body of an `always @*` with its earlier reads wanted, and none only where it has none
abbrev pub IsMarkedBody : List SignalForm → ProcessForm → Option Marked → Type 0
IsMarkedBody signals process (Some x) =
    IsMarkedOf (marked_as signals (is_block process.kind) process.body no_bits) x
    × IsTrue (is_block process.kind)
IsMarkedBody signals process None = AllSettled signals process

-- that of the process that assigns a target
abbrev pub IsMarkedFor : FlatDesign → (target : ℕ) → Option (Bor Marked) → Type 0
IsMarkedFor design s found =
    (process : ProcessForm) → Contains (processes_of design) process
    → IsTrue (assigns process.body s)
    → IsMarkedBody design.signals process (option_copied found)

-- ---- designs

-- the signals and then their copies are held, and each has a number of 32 bits
pub record HasCopies (design : FlatDesign) (held : Bodies) : Type 0 where
  pub few : length design.signals ≤ 2147483647
  pub twice : signal_forms held.twice.items ≡ with_copies design.signals

-- the bodies of the design's processes, indexed, and those with earlier reads with these wanted;
-- and copies of the signals, where there is one of those
pub record AreBodiesOf (design : FlatDesign) (held : Bodies) : Type 0 where
  pub indexed : AreIndexed (processes_of design) held.indexed.items
  pub marked : AllZip (IsMarkedBody design.signals) (processes_of design) held.marked.items
  pub copies : (x : Marked) → Contains held.marked.items (Some x) → HasCopies design held
