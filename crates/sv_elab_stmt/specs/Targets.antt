-- Private: how the code goes. What the code holds of an assignment's targets on the way to their
-- pieces (IEEE 1364-2005, clause 9.2).
use Rattle.std.specs.Prelude.{◌≡◌, ℕ, ◌+◌, ◌≤◌, ◌<◌, List, [], ◌∷◌, map, Ok}
use Rattle.sv_num.specs.Parts.{span_of}
use Rattle.sv_ast.specs.Scopes.{width_of}
use Rattle.sv_ast.specs.Tree.{TargetTree}
use Rattle.sv_flat.specs.Design.{PieceForm}
use Rattle.sv_elab_rules.specs.Walks.{each}
use Rattle.sv_elab_rules.specs.Names.{Names}
use Rattle.sv_elab_rules.specs.Targets.{highest, lowest, selection_steps, target_steps}
use Rattle.sv_elab_stmt.specs.declared.parts.TargetPart.{TargetPart}

-- a target's highest and lowest bit, inside its signal
abbrev pub IsSelected : Names → TargetTree → (high low : ℕ) → Type 0
IsSelected names t high low = ((selection_steps names t.name t.place t.selection).end ≡ Ok tt)
    × (high < width_of (names.scope t.name)) × (low ≤ high)
    × (high ≡ highest names.scope (width_of (names.scope t.name)) t.selection)
    × (low ≡ lowest names.scope t.selection)

-- a part as a piece that gets its bits from so many up
abbrev pub piece_at : (from : ℕ) → TargetPart → PieceForm
piece_at from p =
    record { signal = p.signal.0; place = p.place; high = p.high; low = p.low; from = from }

-- the same of a target
abbrev pub target_piece : Names → (from : ℕ) → TargetTree → PieceForm
target_piece names from t = record {
  signal = names.number t.name;
  place = t.place;
  high = highest names.scope (width_of (names.scope t.name)) t.selection;
  low = lowest names.scope t.selection;
  from = from;
}

-- the part that a target has, where it breaks no rule
abbrev pub IsPart : Names → TargetTree → TargetPart → Type 0
IsPart names t p = ((target_steps names t).end ≡ Ok tt) × (piece_at 0 p ≡ target_piece names 0 t)

abbrev pub AreParts : Names → List TargetTree → List TargetPart → Type 0
AreParts names ts ps = ((each (target_steps names) ts).end ≡ Ok tt)
    × (map (piece_at 0) ps ≡ map (target_piece names 0) ts)

-- the bits of all parts together
abbrev pub parts_width : List TargetPart → ℕ
parts_width [] = 0
parts_width (p ∷ ps) = span_of p.high p.low + parts_width ps

-- the pieces, of which the last has the lowest bits
abbrev pub placed : List TargetPart → List PieceForm
placed [] = []
placed (p ∷ ps) = piece_at (parts_width ps) p ∷ placed ps
