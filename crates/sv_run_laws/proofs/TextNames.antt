-- The signals of a flat design have the full names of their paths, and what is asked for by a
-- point's name is shown or refused of the design as of its text.
use Rattle.std.proofs.Common.{◌≡◌, ℕ, Bool, true, cond, List, Option, Some, None}
use Rattle.std.proofs.Common.{refl, sym, ap, subst, ◌∙◌}
use Rattle.std.specs.Prelude.{Contains, position, option_map}
use Rattle.std.specs.List.{slice_get}
use Rattle.std.specs.Str.{bytes_eq}
use Rattle.std.proofs.Math.Path.{fun_ext}
use Rattle.std.proofs.lemmas.Bool.{false_from_ne_true}
use Rattle.sv_system.specs.Joining.{Agree, Joined}
use Rattle.sv_lattice.specs.declared.points.Point.{Point}
use Rattle.sv_lattice.specs.Tables.{flow_test}
use Rattle.sv_ast.specs.Meaning.{label_in, system}
use Rattle.sv_ast.specs.Parts.{signal_path}
use Rattle.sv_ast.specs.Reach.{holds}
use Rattle.sv_ast.specs.SourceLabels.{points, pairs, least, flows}
use Rattle.sv_ast.specs.TextSystem.{text_system}
use Rattle.sv_ast.specs.Tree.{TextTree}
use Rattle.sv_flat.specs.Admission.{IsAdmitted}
use Rattle.sv_flat.specs.Design.{SignalForm, FlatDesign}
use Rattle.sv_flat.specs.FlatSystem.{flat_system}
use Rattle.sv_flat.proofs.LeastSets.{some_from, from_some}
use Rattle.sv_elab_rules.specs.Texts.{flat_of}
use Rattle.sv_elab_laws.specs.FlattenedTexts.{CanBeFlattened}
use Rattle.sv_elab_laws.proofs.JoinedClocks.{same_bool}
use Rattle.sv_elab_laws.proofs.JoinedLabels.{same_label}
use Rattle.sv_elab_laws.proofs.JoinedLattice.{IsPointNumber, IsOrderFrom, order_of, flows_same}
use Rattle.sv_elab_laws.proofs.JoinedLattice.{listed_number, position_found}
use Rattle.sv_elab_laws.proofs.JoinedLeast.{least_beside}
use Rattle.sv_elab_laws.proofs.JoinedNumbers.{at_number, signal_at, signal_below, signal_no_clock}
use Rattle.sv_elab_laws.proofs.JoinedNumbers.{said_at, same_signals, to_is}
use Rattle.sv_elab_laws.proofs.JoinedRuns.{source_system, path_to}
use Rattle.sv_elab_laws.proofs.JoinedWhole.{flattened_joined}
use Rattle.sv_elab_laws.proofs.PartsBindings.{same_name, name_itself}
use Rattle.sv_elab_laws.proofs.PartsLists.{get_contains, zip_left}
use Rattle.sv_elab_laws.proofs.PartsMaps.{same_some}
use Rattle.sv_elab_laws.proofs.PartsTexts.{SideBySide, side_by_side}
use Rattle.sv_trace.specs.Forms.{name_in}
use Rattle.sv_sim_run.specs.Simulated.{level_asked}
use Rattle.sv_sim_run.proofs.CycleFacts.{agree_on}
use Rattle.sv_run_laws.specs.Signals.{text_signals, dotted, IsDeclared}
use Rattle.sv_run_laws.specs.SimulatedTexts.{level_asked_of}
use Rattle.sv_run_laws.proofs.CheckedDesigns.{admitted_checked}
use Rattle.sv_run_laws.proofs.DeclaredSignals.{all_declared, same_points}
use Rattle.sv_run_laws.proofs.SameSimulations.{SeeAlike}

turned : (m n : List ℕ) → bytes_eq m n ≡ bytes_eq n m
turned m n = same_bool (bytes_eq m n) (bytes_eq n m)
    (λ h. subst (λ k. bytes_eq k m ≡ true) (same_name m n h) (name_itself m))
    (λ h. subst (λ k. bytes_eq k n ≡ true) (same_name n m h) (name_itself n))

module _ (text : TextTree) (asked : Option (List ℕ)) (design : FlatDesign)
    (can : CanBeFlattened text) (flat : flat_of text asked ≡ Some design)
    (admitted : IsAdmitted design) where
  abbrev side : SideBySide text asked design
  side = side_by_side text asked can design flat

  abbrev pub joined : Joined (flat_system design) (text_system text asked)
  joined = flattened_joined text asked design can flat admitted

  -- ---- names

  pub path_is : (s : ℕ) → Contains (flat_system design).signals s →
      joined.to s ≡ path_to text asked design side s
  unfolding system
  path_is s at =
      agree_on joined.to (path_to text asked design side) (flat_system design).signals
      (sym joined.signals ∙ same_signals text asked design side) s at

  pub same_names : (s : ℕ) → Contains (flat_system design).signals s →
      name_in design.signals s ≡ dotted (joined.to s)
  same_names s at =
      let a = at_number text asked design side s (signal_below text asked design side s at) in
      let sources = text_signals text asked in
      let found = zip_left (IsDeclared text sources) sources design.signals
      (all_declared text asked design can.shaped can.numbers flat) s a.source a.source_at in
      let same = same_some (slice_get design.signals s) a.form found.0 a.form_at found.1 in
      ap (λ (f : SignalForm). f.name) (signal_at text asked design side s a ∙ same)
      ∙ found.2.name
      ∙ ap dotted
      (sym (path_is s at ∙ to_is text asked design side (signal_path a.source) s a.number))

  -- ---- levels

  order_is : IsOrderFrom (points text) (pairs text) side.order
  order_is = order_of text side.order side.lattice

  least_in : IsPointNumber side.order.points (least text) side.tables.least
  least_in = least_beside text asked design side

  abbrev pub Alike : Option Point → Option (List ℕ) → Type 0
  Alike level other = SeeAlike (flat_system design) (text_system text asked) joined level other

  point_sees : (name : List ℕ) (k : ℕ) → IsPointNumber side.order.points name k
      → Alike (Some (record { 0 = k })) (Some name)
  unfolding system
  point_sees name k number e f agree s at =
      let a = at_number text asked design side s (signal_below text asked design side s at) in
      let by_path : Agree (flat_system design) (source_system text asked design side)
      (path_to text asked design side) e f =
      record {
        first_fits = agree.first_fits;
        second_fits = agree.second_fits;
        same = λ t within. agree.same t within ∙ ap f (path_is t within);
      } in
      let is_sound = (admitted_checked text asked design can flat admitted).is_sound in
      let label = same_label text asked design side is_sound admitted least_in e f by_path s a in
      let flat_label = ((flat_system design).label s e).0 in
      let source = text_system text asked in
      ap (λ t. flow_test t flat_label k) side.table
      ∙ flows_same text side.order order_is (label_in text f a.source) name flat_label k label
      number
      ∙ ap (λ l. flows text l name)
      (sym (said_at text asked design side (label_in text f) (least text) s a
      (signal_no_clock text asked design side s at)))
      ∙ ap (λ x. source.flows (source.label x f) name) (sym (path_is s at))

  -- what is asked for is refused on both sides, or shows the same
  abbrev pub AskedAlike : Option (Option Point) → Option (Option (List ℕ)) → Type 0
  AskedAlike None None = Unit {0}
  AskedAlike (Some level) (Some other) = Alike level other
  AskedAlike _ _ = ⊥

  abbrev level_if : List ℕ → Bool → Option (Option (List ℕ))
  level_if name b = cond b (Some (Some name)) None

  point_asked : (name : List ℕ) (o : Option ℕ) → position (bytes_eq name) (points text) ≡ o
      → AskedAlike (option_map (λ k. Some (record { 0 = k })) o)
      (level_if name (holds bytes_eq (points text) name))
  point_asked name (Some k) e =
      let found = position_found (bytes_eq name) (points text) k e in
      let held = some_from (bytes_eq name) (points text) found.0
      (get_contains (points text) k found.0 found.1) found.2 in
      subst (λ b. AskedAlike (Some (Some (record { 0 = k }))) (level_if name b)) (sym held)
      (point_sees name k
      (ap (λ (ps : List (List ℕ)). position (bytes_eq name) ps) (sym order_is.points_are) ∙ e))
  point_asked name None e =
      let missing = false_from_ne_true (holds bytes_eq (points text) name) (λ h.
      let found = from_some (bytes_eq name) (points text) h in
      let number = listed_number (points text) name
      (subst (Contains (points text)) (sym (same_name name found.0 found.2)) found.1) in
      let c : None ≡ Some number.0 = sym e ∙ number.1 in cc c) in
      subst (λ b. AskedAlike None (level_if name b)) (sym missing) tt

  pub asked_alike : (level : Option (List ℕ)) →
      AskedAlike (level_asked design level) (level_asked_of text level)
  asked_alike None = tt
  asked_alike (Some name) =
      let number = λ (ps : List (List ℕ)). position (λ point. bytes_eq point name) ps in
      subst (λ o. AskedAlike (option_map (λ k. Some (record { 0 = k })) o)
      (level_asked_of text (Some name)))
      (sym (ap number (same_points text asked design can.shaped can.numbers flat)
      ∙ ap (λ test. position test (points text)) (fun_ext (λ point. turned point name))))
      (point_asked name (position (bytes_eq name) (points text)) refl)
