-- Short words for the designs of the examples.
use Rattle.std.proofs.Common.{ℕ, Bool, true, false, List, [], ◌∷◌, Some, None}
use Rattle.std.specs.Prelude.{◌-◌, sum, map, flat_map, take, drop}
use Rattle.sv_num.specs.declared.faults.Place.{Place}
use Rattle.sv_lattice.specs.declared.points.Point.{Point}
use Rattle.sv_lattice.specs.declared.labels.Label.{Label}
use Rattle.sv_lattice.specs.declared.labels.Label.TheVariants.{Point as Declared, Table}
use Rattle.sv_lattice.specs.Maps.{MapRows}
use Rattle.sv_flat.specs.declared.signals.SigKind.{SigKind}
use Rattle.sv_flat.specs.Design.{SignalForm, TypedTree, typed, read, FlatStatement, assign}
use Rattle.sv_flat.specs.Design.{ProcessForm, FlatDesign}
use Rattle.sv_flat.proofs.Forms.{at, part}
use Rattle.sv_obl.specs.Obligations.{Obligation, obligations}
use Rattle.sv_encoding.specs.Encoding.{BitPlace, encoding}
use Rattle.sv_encoding.specs.CnfText.{cnf_text}
use Rattle.sv_encoding.specs.Sizes.{encoding_size}

abbrev pub here : Place
here = at 1 1

-- ---- labels

-- the points L and H
abbrev pub low : Label
low = Declared (record { 0 = 0 })

abbrev pub high : Label
high = Declared (record { 0 = 1 })

-- by a map of one range, and of two
abbrev pub by : (selector : ℕ) → Label
by s = Table 0 s None

abbrev pub by_both : (first second : ℕ) → Label
by_both s t = Table 1 s (Some t)

abbrev rows : List ℕ → List Point
rows points = map (λ p. record { 0 = p }) points

-- labelmap D [0:0] 0: L; default: H; and labelmap T [0:0] [0:0] 0, 0: L; default: H;
abbrev maps : List MapRows
maps =
    record { first = 1; second = None; rows = rows (0 ∷ 1 ∷ []) }
    ∷ record { first = 1; second = Some 1; rows = rows (0 ∷ 1 ∷ 1 ∷ 1 ∷ []) }
    ∷ []

-- ---- designs

abbrev pub typed_signal : (width : ℕ) → Bool → SigKind → Label → SignalForm
typed_signal width is_signed kind label = record {
  name = [];
  width = width;
  signed = is_signed;
  kind = kind;
  label = label;
  place = here;
}

abbrev pub signal : (width : ℕ) → SigKind → Label → SignalForm
signal width kind label = typed_signal width false kind label

abbrev pub design : List SignalForm → List ProcessForm → FlatDesign
design signals processes = record {
  signals = signals;
  processes = processes;
  lattice = 3 ∷ 2 ∷ [];
  points = [] ∷ [] ∷ [];
  maps = maps;
  invariants = [];
}

-- ---- expressions and statements

-- a name at its own length
abbrev pub name : (signal width : ℕ) → TypedTree
name s width = typed width false (read s here)

-- bits from `high` down to `low` of a signal get a value
abbrev pub sets_part : (signal high low : ℕ) → TypedTree → FlatStatement
sets_part s h l e = assign (part s here h l 0 ∷ []) here true e

-- a signal of one bit gets a value
abbrev pub sets_bit : (signal : ℕ) → TypedTree → FlatStatement
sets_bit s e = sets_part s 0 0 e

abbrev pub updates_bit : (signal : ℕ) → TypedTree → FlatStatement
updates_bit s e = assign (part s here 0 0 0 ∷ []) here false e

-- ---- encodings

-- obligation k of a design, as a list
abbrev pub numbered : FlatDesign → (k : ℕ) → List Obligation
numbered design k = take 1 (drop (k - 1) (obligations [] design))

-- what is printed of it, the places of its bits, and its size
abbrev pub cnf_of : FlatDesign → (k : ℕ) → List ℕ
cnf_of design k = flat_map (λ o. cnf_text (encoding design o)) (numbered design k)

abbrev pub bits_of : FlatDesign → (k : ℕ) → List BitPlace
bits_of design k = flat_map (λ o. (encoding design o).bits) (numbered design k)

abbrev pub size_of : FlatDesign → (k : ℕ) → ℕ
size_of design k = sum (map (encoding_size design) (numbered design k))
