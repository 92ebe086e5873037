-- The cycle systems of a text and of its flat design are joined.
use Rattle.std.proofs.Common.{◌≡◌, ℕ, false, List, Option, Some, refl, sym, ap}
use Rattle.std.proofs.Common.{◌∙◌, ⊎_elim}
use Rattle.std.specs.Prelude.{IsTrue, Contains}
use Rattle.sv_system.specs.System.{Environment}
use Rattle.sv_system.specs.Joining.{Agree, Joined}
use Rattle.sv_lattice.specs.Tables.{flow_test}
use Rattle.sv_lattice.specs.declared.points.Point.{Point}
use Rattle.sv_ast.specs.Tree.{TextTree}
use Rattle.sv_ast.specs.Parts.{Path, signal_path}
use Rattle.sv_ast.specs.Meaning.{label_in, is_top_input, is_register, system}
use Rattle.sv_ast.specs.TextSystem.{text_system}
use Rattle.sv_flat.specs.Design.{FlatDesign}
use Rattle.sv_flat.specs.Admission.{IsAdmitted}
use Rattle.sv_flat.specs.Soundness.{sound}
use Rattle.sv_flat.specs.FlatSystem.{flat_system}
use Rattle.sv_ast.specs.SourceLabels.{points, pairs, least, flows}
use Rattle.sv_elab_rules.specs.Texts.{flat_of}
use Rattle.sv_elab_laws.specs.FlattenedTexts.{CanBeFlattened}
use Rattle.sv_elab_laws.specs.SideBySide.{text_signals, path_at}
use Rattle.sv_elab_laws.specs.InOrder.{SchedulesAgree}
use Rattle.sv_elab_laws.proofs.PartsShapes.{flattened}
use Rattle.sv_elab_laws.proofs.PartsTexts.{SideBySide, side_by_side}
use Rattle.sv_elab_laws.proofs.JoinedLattice.{IsPointNumber, IsOrderFrom, order_of, level, flow_at}
use Rattle.sv_elab_laws.proofs.JoinedNumbers.{flat_signals}
use Rattle.sv_elab_laws.proofs.JoinedNumbers.{to, from, to_is, from_is, at_number, signal_below}
use Rattle.sv_elab_laws.proofs.JoinedNumbers.{signal_no_clock, said_at, said_within, same_signals}
use Rattle.sv_elab_laws.proofs.JoinedNumbers.{same_inputs, same_widths, same_registers, input_within}
use Rattle.sv_elab_laws.proofs.JoinedLeast.{least_beside}
use Rattle.sv_elab_laws.proofs.JoinedLabels.{same_label}
use Rattle.sv_elab_laws.proofs.JoinedRuns.{source_system, path_to}
use Rattle.sv_elab_laws.proofs.JoinedRegisters.{register_within}
use Rattle.sv_elab_laws.proofs.JoinedProcesses.{in_order}
use Rattle.sv_elab_laws.proofs.JoinedSchedules.{RunsKeepFits, flat_keeps_fits, schedules_agree}
use Rattle.sv_elab_laws.proofs.JoinedNext.{next_same}
use Rattle.sv_elab_laws.proofs.SoundDesigns.{design_sound}

module _ (text : TextTree) (top : Option (List ℕ)) (design : FlatDesign)
    (is_sound : IsTrue (sound design)) (admitted : IsAdmitted design) where
  order_is : (side : SideBySide text top design) → IsOrderFrom (points text) (pairs text) side.order
  order_is side = order_of text side.order side.lattice

  -- the number of a point, or one that is no point's
  abbrev level_of : SideBySide text top design → List ℕ → Point
  level_of side = level text side.order (order_is side)

  least_in : (side : SideBySide text top design) →
      IsPointNumber side.order.points (least text) side.tables.least
  least_in side = least_beside text top design side

  -- a level sees the same signals by number as by path
  seen : (side : SideBySide text top design) (point : List ℕ) (e : Environment ℕ)
      (f : Environment Path)
      → Agree (flat_system design) (source_system text top design side)
      (path_to text top design side) e f
      → (s : ℕ) → Contains (flat_signals text top design side) s
      → (flat_system design).flows ((flat_system design).label s e) (level_of side point)
      ≡ (source_system text top design side).flows
      ((source_system text top design side).label (path_to text top design side s) f) point
  seen side point e f agree s at =
      let a = at_number text top design side s (signal_below text top design side s at) in
      let number = same_label text top design side is_sound admitted (least_in side) e f
      agree s a in
      let flat_label = ((flat_system design).label s e).0 in
      ap (λ t. flow_test t flat_label (level_of side point).0) side.table
      ∙ flow_at text side.order (order_is side) (label_in text f a.source) flat_label number point
      ∙ ap (λ l. flows text l point)
      (sym (said_at text top design side (label_in text f) (least text) s a
      (signal_no_clock text top design side s at)))

  joined_side : SideBySide text top design → Joined (flat_system design) (text_system text top)
  unfolding system
  joined_side side = record {
    to = to text top design side;
    from = from text top design side;
    from_to = λ k at.
        let a = at_number text top design side k (signal_below text top design side k at) in
        ap (from text top design side)
        (to_is text top design side (signal_path a.source) k a.number)
        ∙ from_is text top design side (signal_path a.source) k a.number;
    level = level_of side;
    signals = same_signals text top design side;
    inputs = λ k at. same_inputs text top design side k at;
    registers = λ k at.
        let a = at_number text top design side k (signal_below text top design side k at) in
        same_registers text top design side k a
        ∙ sym (said_at text top design side is_register false k a
        (signal_no_clock text top design side k at));
    widths = λ k at. same_widths text top design side k at;
    first_kinds =
        λ k kind. ⊎_elim (input_within text top design side k)
        (register_within text top design side is_sound admitted k) kind;
    second_kinds =
        λ x kind. ⊎_elim (said_within text top design side is_top_input x)
        (said_within text top design side is_register x) kind;
    processes = in_order text top design side is_sound admitted;
    next =
        λ e f agree k register.
        next_same text top design side is_sound admitted e f agree k register;
    seen_alike = seen side;
  }

  same_name : (side : SideBySide text top design)
      → (joined_side side).to ≡ path_at (text_signals text top)
  unfolding joined_side
  same_name side = refl

  pub joined_named : CanBeFlattened text → flat_of text top ≡ Some design
      → (joined : Joined (flat_system design) (text_system text top))
      × (joined.to ≡ path_at (text_signals text top))
  joined_named can h =
      let side = side_by_side text top can design h in (joined_side side, same_name side)

  pub keep_fits : CanBeFlattened text → flat_of text top ≡ Some design
      → RunsKeepFits (flat_system design)
  keep_fits can h =
      flat_keeps_fits text top design (side_by_side text top can design h) is_sound admitted

-- where a text can be flattened, with the path of each signal for its number
pub flattened_named : (text : TextTree) (top : Option (List ℕ)) (design : FlatDesign)
    → CanBeFlattened text → flat_of text top ≡ Some design → IsAdmitted design
    → (joined : Joined (flat_system design) (text_system text top))
    × (joined.to ≡ path_at (text_signals text top))
flattened_named text top design can flat admitted =
    let is_sound = design_sound text top design can.shaped (flattened text can) can.lengths flat in
    joined_named text top design is_sound admitted can flat

pub flattened_joined : (text : TextTree) (top : Option (List ℕ)) (design : FlatDesign)
    → CanBeFlattened text → flat_of text top ≡ Some design → IsAdmitted design
    → Joined (flat_system design) (text_system text top)
flattened_joined text top design can flat admitted =
    (flattened_named text top design can flat admitted).0

-- and schedules of places lead to environments that agree
pub flattened_schedules : (text : TextTree) (top : Option (List ℕ)) (design : FlatDesign)
    → CanBeFlattened text → flat_of text top ≡ Some design → IsAdmitted design
    → (joined : Joined (flat_system design) (text_system text top))
    → SchedulesAgree (flat_system design) (text_system text top) joined.to
flattened_schedules text top design can flat admitted joined =
    let is_sound = design_sound text top design can.shaped (flattened text can) can.lengths flat in
    schedules_agree (flat_system design) (text_system text top) joined
    (keep_fits text top design is_sound admitted can flat)
