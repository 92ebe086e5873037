-- Which assignments stand where they may (IEEE 1364-2005, clauses 6 and 9; that a clocked block has
-- nonblocking assignments alone and an `always @*` blocking ones is this project's profile).
use Rattle.std.specs.Prelude.{Bool, false, ◌==◌, ◌&&◌, ◌||◌, not, nat_le, List, [], ◌∷◌, ◌++◌, map}
use Rattle.std.specs.Prelude.{filter, flat_map}
use Rattle.std.specs.List.{list_any}
use Rattle.sv_flat.specs.declared.signals.SigKind.{SigKind}
use Rattle.sv_flat.specs.Design.{PieceForm, FlatStatement, nothing, after, assign, branch}
use Rattle.sv_flat.specs.Design.{ProcessKind, continuous, port_in, port_out, combinational, clocked}
use Rattle.sv_flat.specs.Design.{release, ProcessForm, FlatDesign}
use Rattle.sv_flat.specs.Processes.{kind_of, is_top_kind, is_reg_kind}
use Rattle.sv_flat.specs.Breaches.{Breach, breach}

-- a target of an assignment: its piece, the pieces before it, and whether the assignment is `=`
pub record TargetForm : Type 0 where
  pub piece : PieceForm
  pub before : List PieceForm
  pub blocking : Bool

abbrev pub targets_after : (before pieces : List PieceForm) → (blocking : Bool) → List TargetForm
targets_after before [] blocking = []
targets_after before (piece ∷ pieces) blocking =
    record {
      piece = piece;
      before = before;
      blocking = blocking;
    } ∷ targets_after (piece ∷ before) pieces blocking

-- the targets of a statement, in textual order
abbrev pub targets : FlatStatement → List TargetForm
targets nothing = []
targets (after first second) = targets first ++ targets second
targets (assign pieces place blocking right) = targets_after [] pieces blocking
targets (branch place condition first second) = targets first ++ targets second

-- `=` in a clocked block, `<=` in an `always @*`
abbrev pub is_wrong_sign : ProcessKind → (blocking : Bool) → Bool
is_wrong_sign (clocked clock) blocking = blocking
is_wrong_sign combinational blocking = not blocking
is_wrong_sign _ blocking = false

-- a target in an `always` that is no `reg`; a `reg` or an input of the top module in an `assign` or
-- as an output's net
abbrev pub is_wrong_kind : ProcessKind → SigKind → Bool
is_wrong_kind (clocked clock) kind = not (is_reg_kind kind)
is_wrong_kind combinational kind = not (is_reg_kind kind)
is_wrong_kind continuous kind = is_reg_kind kind || is_top_kind kind
is_wrong_kind port_out kind = is_reg_kind kind || is_top_kind kind
is_wrong_kind (release point) kind = is_reg_kind kind || is_top_kind kind
is_wrong_kind port_in kind = false

-- two pieces have a bit of a signal in common
abbrev pub overlap : PieceForm → PieceForm → Bool
overlap a b = (a.signal == b.signal) && nat_le a.low b.high && nat_le b.low a.high

-- a bit that the assignment has assigned before is assigned again
abbrev pub is_twice : TargetForm → Bool
is_twice target = list_any (overlap target.piece) target.before

abbrev pub is_wrong_target : FlatDesign → ProcessKind → TargetForm → Bool
is_wrong_target design kind target =
    is_wrong_sign kind target.blocking || is_wrong_kind kind (kind_of design target.piece.signal)
    || is_twice target

abbrev pub target_breach : TargetForm → Breach
target_breach target = breach 601 target.piece.place target.piece.signal

-- rule 601, at each target that breaks it
abbrev pub wrong_assigns : FlatDesign → List Breach
wrong_assigns design =
    flat_map (λ (p : ProcessForm).
    map target_breach (filter (is_wrong_target design p.kind) (targets p.body)))
    design.processes
