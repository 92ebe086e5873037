-- What a signal of a flat design has from its declaration: name, length, signedness and kind (IEEE
-- 1364-2005, clauses 4.2, 4.3, 12.3 and 12.5), and label (SecVerilog, ASPLOS 2015).
use Rattle.std.specs.Prelude.{◌≡◌, ℕ, List, map, Option, Some, None}
use Rattle.std.specs.Prelude.{if◌then◌else◌}
use Rattle.std.specs.List.{slice_get, join_with_byte}
use Rattle.sv_lattice.specs.declared.labels.Label.{Label}
use Rattle.sv_lattice.specs.declared.labels.Label.TheVariants.{Point as By_point, Table}
use Rattle.sv_ast.specs.declared.declarations.DeclKind.{DeclKind}
use Rattle.sv_ast.specs.declared.declarations.DeclKind.TheVariants.{Input, OutputWire, OutputReg}
use Rattle.sv_ast.specs.declared.declarations.DeclKind.TheVariants.{Wire, Reg}
use Rattle.sv_ast.specs.Tree.{LabelTree, point_label, table_label, MapTree, TextTree}
use Rattle.sv_ast.specs.Parts.{Path, Part, within, PartSignal, signal_path, signal_width}
use Rattle.sv_ast.specs.Meaning.{is_top_input}
use Rattle.sv_ast.specs.SourceLabels.{points, least}
use Rattle.sv_flat.specs.declared.signals.SigKind.{SigKind}
use Rattle.sv_flat.specs.declared.signals.SigKind.TheVariants as kinds
use Rattle.sv_flat.specs.Design.{SignalForm}
-- `text_signals`: the signals of a text, in order
pub use Rattle.sv_elab_laws.specs.SideBySide.{text_signals}

-- the names of a path with a `.` between any two (clause 12.5)
abbrev pub dotted : Path → List ℕ
dotted path = join_with_byte 46 path

abbrev pub declared_kind : DeclKind → SigKind
declared_kind Input = kinds.Input
declared_kind OutputWire = kinds.Output
declared_kind OutputReg = kinds.OutputReg
declared_kind Wire = kinds.Net
declared_kind Reg = kinds.Reg

-- the kind of a signal: that of its declaration, with the inputs of the top module told apart
abbrev pub signal_kind : PartSignal → SigKind
signal_kind s = if is_top_input s then kinds.TopInput else declared_kind s.declaration.kind

-- the signal of a name in an instance has the number
abbrev pub IsNumber : List PartSignal → Part → List ℕ → ℕ → Type 0
IsNumber signals p n k = slice_get (map signal_path signals) k ≡ Some (within p n)

-- likewise of a second selector, where there is one
abbrev pub IsSecond : List PartSignal → Part → Option (List ℕ) → Option ℕ → Type 0
IsSecond signals p None None = Unit {0}
IsSecond signals p (Some n) (Some k) = IsNumber signals p n k
IsSecond signals p _ _ = ⊥

-- the label of a declaration in an instance: the number of its point, or those of its map and of
-- its selectors; without a label the number of the least point
abbrev pub IsLabel : TextTree → (signals : List PartSignal) → Part → Option LabelTree → Label
    → Type 0
IsLabel text signals p None (By_point k) = slice_get (points text) k.0 ≡ Some (least text)
IsLabel text signals p (Some (point_label n place)) (By_point k) =
    slice_get (points text) k.0 ≡ Some n
IsLabel text signals p (Some (table_label m first second place)) (Table k a b) =
    (slice_get (map (λ (t : MapTree). t.name) text.maps) k ≡ Some m)
    × IsNumber signals p first a × IsSecond signals p second b
IsLabel text signals p _ _ = ⊥

-- a flat signal is that of a declaration in an instance
pub record IsDeclared (text : TextTree) (signals : List PartSignal) (s : PartSignal)
    (f : SignalForm) : Type 0 where
  pub name : f.name ≡ dotted (signal_path s)
  pub width : f.width ≡ signal_width s
  pub signed : f.signed ≡ s.declaration.signed
  pub kind : f.kind ≡ signal_kind s
  pub label : IsLabel text signals s.part s.declaration.label f.label
  pub place : f.place ≡ s.declaration.place
