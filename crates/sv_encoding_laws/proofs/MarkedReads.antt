-- The names in an expression of a process whose earlier reads are marked: each is of a signal or of
-- its copy, of the width of what is read.
use Rattle.std.proofs.Common.{◌≡◌, ℕ, ◌+◌, ◌<◌, ◌&&◌, ◌⊎◌, inl, inr, Bool, true, false, cond, List}
use Rattle.std.proofs.Common.{length, sym, arith, ltb-true, length-append, ◌++◌, ◌||◌, ◌∙◌, refl}
use Rattle.std.proofs.Common.{ap₂}
use Rattle.std.specs.Prelude.{Contains, IsTrue, IsFalse}
use Rattle.std.specs.List.{list_any, list_all}
use Rattle.std.proofs.lemmas.Bool.{false≢true, lt-ltb}
use Rattle.sv_num.specs.declared.faults.Place.{Place}
use Rattle.sv_system.proofs.Lists.{Contains-map}
use Rattle.sv_flat.specs.Assigned.{assigns, can_assign, always_assigns}
use Rattle.sv_flat.specs.Design.{SignalForm, TypedTree, ProcessForm, FlatDesign, PieceForm}
use Rattle.sv_flat.specs.Design.{FlatStatement, nothing, after, assign, branch}
use Rattle.sv_flat.specs.Values.{signal_width}
use Rattle.sv_flat.specs.Soundness.{is_signal, well_formed, piece_fits, statement_sound}
use Rattle.sv_flat.specs.Readings.{ReadForm, reads, BitSet, Reading, readings_of, is_followed}
use Rattle.sv_flat.specs.Readings.{readings, either}
use Rattle.sv_flat.specs.Processes.{is_block}
use Rattle.sv_flat.specs.Reads.{followed, is_read_for}
use Rattle.sv_flat.proofs.Depths.{first_of, second_of}
use Rattle.sv_flat.proofs.LeastSets.{from_some}
use Rattle.sv_flat.proofs.Members.{Contains-left, Contains-right}
use Rattle.sv_flat.proofs.ReadSignals.{reads_signals}
use Rattle.sv_obl.specs.Exchange.{name}
use Rattle.sv_obl.specs.Wanted.{with_copies, copy_of, mark, marked_tree, marked}
use Rattle.sv_obl.proofs.PutFacts.{width_settled, width_copy}
use Rattle.sv_encoding_laws.proofs.Renamed.{AllFit, IsFit}

module _ (design : FlatDesign) where
  abbrev signals : List SignalForm
  signals = design.signals

  abbrev both : List SignalForm
  both = with_copies design.signals

  pub twice_long : length both ≡ length signals + length signals
  twice_long = length-append signals signals

  in_both : (t : ℕ) → t < length signals → IsTrue (is_signal both t)
  in_both t low = lt-ltb t (length both) (omega (arith, low, twice_long))

  copy_in_both : (t : ℕ) → t < length signals → IsTrue (is_signal both (copy_of signals t))
  copy_in_both t low = lt-ltb (copy_of signals t) (length both) (omega (arith, low, twice_long))

  pub same_width : (t : ℕ) → IsTrue (is_signal signals t) →
      IsTrue (is_signal both t) × (signal_width both t ≡ signal_width signals t)
  same_width t known =
      let low = ltb-true t (length signals) known in (in_both t low, width_settled signals t low)

  module _ (p : ProcessForm) (s : ℕ) where
    abbrev targets : List ℕ
    targets = followed design p s

    -- what is read for a target is settled and read for the signal, or is an earlier value of
    -- another target
    abbrev pub ReadsCount : List Reading → Type 0
    ReadsCount rs =
        (r : Reading) → Contains rs r → (u : ℕ) → Contains targets u → IsTrue (r.serves u) →
        (IsFalse (is_block p.kind && is_followed signals r)
        × IsTrue (is_read_for design s r.name.signal))
        ⊎ (IsTrue (is_block p.kind && is_followed signals r) × Contains targets r.name.signal)

    -- what holds of what is read for the signal, and of copies of targets, holds of each name
    pub marked_fit : (Has : ℕ → Type 0) →
        ((t : ℕ) → t < length signals → IsTrue (is_read_for design s t) → Has t) →
        ((t : ℕ) → Contains targets t → Has (copy_of signals t)) →
        (e : TypedTree) (serves : ℕ → Bool) (early follows : BitSet) →
        IsTrue (well_formed signals e) → (u : ℕ) → Contains targets u → IsTrue (serves u) →
        ReadsCount (readings_of signals e serves early follows) →
        AllFit signals both (mark signals (is_block p.kind) follows) Has same_width
        (reads signals e)
    marked_fit Has settled copied e serves early follows formed u u_at served count r r_at =
        let reading : Reading = record {
          name = r;
          serves = serves;
          assigned = early;
          follows = follows;
        } in
        let low = ltb-true r.signal (length signals) (reads_signals signals e formed r r_at) in
        by (is_block p.kind && is_followed signals reading) low
        (count reading (Contains-map (λ (x : ReadForm).
        record { name = x; serves = serves; assigned = early; follows = follows })
        (reads signals e) r r_at) u u_at served)
      where
        by : (c : Bool) → r.signal < length signals →
            (IsFalse c × IsTrue (is_read_for design s r.signal))
            ⊎ (IsTrue c × Contains targets r.signal) →
            IsFit signals both (mark signals (is_block p.kind) follows) Has same_width r.signal
            (name (cond c (copy_of signals r.signal) r.signal))
        by true low (inl late) = absurd (false≢true (sym late.0))
        by true low (inr earlier) =
            (copy_in_both r.signal low, (width_copy signals r.signal, copied r.signal earlier.1))
        by false low (inl late) =
            (in_both r.signal low, (width_settled signals r.signal low, settled r.signal low late.1))
        by false low (inr earlier) = absurd (false≢true earlier.0)

    -- ---- the marked body

    -- marks change no target
    marked_targets : (b : FlatStatement) (later : BitSet) (t : ℕ) →
        assigns (marked signals (is_block p.kind) b later) t ≡ assigns b t
    marked_targets nothing later t = refl
    marked_targets (after first second) later t =
        ap₂ ◌||◌ (marked_targets first (either (can_assign second) later) t)
        (marked_targets second later t)
    marked_targets (assign pieces place blocking right) later t = refl
    marked_targets (branch place condition first second) later t =
        ap₂ ◌||◌ (marked_targets first later t) (marked_targets second later t)

    -- what holds of a body is told by its parts, and of these by marked trees that a target needs
    module _ (Tree : TypedTree → Type 0) (Fits : FlatStatement → Type 0)
        (tree_fits : (e : TypedTree) (serves : ℕ → Bool) (early follows : BitSet) →
        IsTrue (well_formed signals e) → (u : ℕ) → Contains targets u → IsTrue (serves u) →
        ReadsCount (readings_of signals e serves early follows) →
        Tree (marked_tree signals (is_block p.kind) follows e))
        (fits_nothing : Fits nothing)
        (fits_after : (a b : FlatStatement) → Fits a → Fits b → Fits (after a b))
        (fits_assign : (pieces : List PieceForm) (place : Place) (blocking : Bool) (e : TypedTree)
        (follows : BitSet) → IsTrue (list_all (piece_fits signals e) pieces) →
        (IsTrue (list_any (assigns (assign pieces place blocking e)) targets) →
        Tree (marked_tree signals (is_block p.kind) follows e)) →
        Fits (assign pieces place blocking (marked_tree signals (is_block p.kind) follows e)))
        (fits_branch : (place : Place) (condition : TypedTree) (a b : FlatStatement) →
        (IsTrue (list_any (assigns (branch place condition a b)) targets) → Tree condition) →
        Fits a → Fits b → Fits (branch place condition a b)) where
      pub marked_body_fits : (b : FlatStatement) (early later : BitSet) →
          IsTrue (statement_sound signals b) → ReadsCount (readings signals b early later) →
          Fits (marked signals (is_block p.kind) b later)
      marked_body_fits nothing early later right count = fits_nothing
      marked_body_fits (after first second) early later right count =
          let late = either (can_assign second) later in
          let mid = either (always_assigns first) early in
          fits_after (marked signals (is_block p.kind) first late)
          (marked signals (is_block p.kind) second later)
          (marked_body_fits first early late
          (first_of (statement_sound signals first) (statement_sound signals second) right)
          (λ r r_at. count r (Contains-left (readings signals first early late)
          (readings signals second mid later) r r_at)))
          (marked_body_fits second mid later
          (second_of (statement_sound signals first) (statement_sound signals second) right)
          (λ r r_at. count r (Contains-right (readings signals first early late)
          (readings signals second mid later) r r_at)))
      marked_body_fits (assign pieces place blocking e) early later right count =
          let whole = assign pieces place blocking e in
          let follows = either (can_assign whole) later in
          fits_assign pieces place blocking e follows
          (second_of (well_formed signals e) (list_all (piece_fits signals e) pieces) right)
          (λ some.
          let by = from_some (assigns whole) targets some in
          tree_fits e (assigns whole) early follows
          (first_of (well_formed signals e) (list_all (piece_fits signals e) pieces) right)
          by.0 by.1 by.2 count)
      marked_body_fits (branch place condition first second) early later right count =
          let whole = branch place condition first second in
          let follows = either (can_assign whole) later in
          let in_first = readings signals first early later in
          let in_second = readings signals second early later in
          let before = readings_of signals condition (assigns whole) early follows ++ in_first in
          let front = first_of (well_formed signals condition && statement_sound signals first)
          (statement_sound signals second) right in
          fits_branch place (marked_tree signals (is_block p.kind) follows condition)
          (marked signals (is_block p.kind) first later)
          (marked signals (is_block p.kind) second later)
          (λ some.
          let by = from_some (assigns (marked signals (is_block p.kind) whole later)) targets
          some in
          tree_fits condition (assigns whole) early follows
          (first_of (well_formed signals condition) (statement_sound signals first) front)
          by.0 by.1 (sym (marked_targets whole later by.0) ∙ by.2)
          (λ r r_at. count r (Contains-left before in_second r
          (Contains-left (readings_of signals condition (assigns whole) early follows) in_first r
          r_at))))
          (marked_body_fits first early later
          (second_of (well_formed signals condition) (statement_sound signals first) front)
          (λ r r_at. count r (Contains-left before in_second r
          (Contains-right (readings_of signals condition (assigns whole) early follows) in_first r
          r_at))))
          (marked_body_fits second early later
          (second_of (well_formed signals condition && statement_sound signals first)
          (statement_sound signals second) right)
          (λ r r_at. count r (Contains-right before in_second r r_at)))
