-- The flat form of an assignment does to numbers what the assignment does to names.
use Rattle.std.proofs.Common.{◌≡◌, ℕ, ◌+◌, ◌/◌, ◌%◌, ◌^◌, ◌<◌, ◌≤◌, max, Bool, true, false, List}
use Rattle.std.proofs.Common.{[], ◌∷◌, fold, sym, ap, subst, ◌∙◌}
use Rattle.std.specs.Prelude.{◌==◌, Ok}
use Rattle.std.proofs.lemmas.Nat.{pow_pos, mod_below}
use Rattle.std.proofs.Math.Nat.{mod-eq_of_lt}
use Rattle.sv_num.specs.declared.faults.Place.{Place}
use Rattle.sv_num.specs.Parts.{replaced_bits}
use Rattle.sv_system.specs.System.{Environment, last_update}
use Rattle.sv_ast.specs.Scopes.{width_of}
use Rattle.sv_ast.specs.Tree.{ExpressionTree, TargetTree}
use Rattle.sv_ast.specs.Values.{length_of, signed_of, value as source_value}
use Rattle.sv_ast.specs.Runs.{Running, pending, target_width, targets_width, pieces}
use Rattle.sv_ast.specs.Runs.{with_piece as with_source_piece, assign_piece}
use Rattle.sv_ast.specs.Runs.{assign as source_assign}
use Rattle.sv_flat.specs.Design.{SignalForm, TypedTree, PieceForm, FlatStatement, assign}
use Rattle.sv_flat.specs.Values.{signal_width, value}
use Rattle.sv_flat.specs.Runs.{Updates, with_piece, put_piece, run}
use Rattle.sv_flat.proofs.ReplacedBits.{replaced_below}
use Rattle.sv_elab_rules.specs.Names.{Names}
use Rattle.sv_elab_rules.specs.TypedExpressions.{typed_of}
use Rattle.sv_elab_rules.specs.ExpressionSteps.{asked, divisors, typed_walk, expression_walk}
use Rattle.sv_elab_rules.specs.Targets.{highest, lowest, pieces_of, targets_steps, assignment_walk}
use Rattle.sv_elab_rules.proofs.WalkLemmas.{parts_done}
use Rattle.sv_width.specs.Agreement.{AllDeclared, HaveSignals, HaveValues}
use Rattle.sv_width.proofs.Sound.{passed_sound}
use Rattle.sv_width.proofs.SameValue.{same_value}
use Rattle.sv_elab_laws.specs.Numbering.{IsNumbering}
use Rattle.sv_elab_laws.specs.SameStates.{AreSame}
use Rattle.sv_elab_laws.proofs.PieceValues.{same_lower, same_piece}
use Rattle.sv_elab_laws.proofs.Targets.{IsTarget, AreTargets, targets_found, selection_ordered}
use Rattle.sv_elab_laws.proofs.Targets.{selection_replaced}
use Rattle.sv_elab_laws.proofs.SameUpdates.{signal_known, last_same, last_fits, put_same, later_same}

-- ---- typed expressions

-- an expression that breaks no rule, in its typed form
pub typed_found : (names : Names) (e : ExpressionTree) (n : ℕ) (s : Bool) (t : TypedTree)
    → (typed_walk names e n s).end ≡ Ok t
    → ((asked names false e).end ≡ Ok tt) × (typed_of names e n s ≡ t)
unfolding typed_walk
typed_found names e n s t h =
    let first = parts_done (asked names false e) _ t h in
    let second = parts_done (divisors names.scope e n s) _ t first.2 in
    (first.1, cc second.2)

module _ (names : Names) (signals : List SignalForm) (declared : AllDeclared names)
    (listed : HaveSignals names signals)
    (by_name : Environment (List ℕ)) (by_num : Environment ℕ)
    (values : HaveValues names by_name by_num) where
  -- the typed form has the value of its source
  pub typed_same : (e : ExpressionTree) (n : ℕ) (s : Bool) (t : TypedTree)
      → (typed_walk names e n s).end ≡ Ok t
      → value signals by_num t ≡ source_value names.scope by_name e n s
  typed_same e n s t h =
      let found = typed_found names e n s t h in
      ap (value signals by_num) (sym found.1)
      ∙ same_value names declared signals listed by_name by_num values false e
      (passed_sound names false e found.0) n s

  -- a right side, before it is cut
  pub right_same : (e : ExpressionTree) (width : ℕ) (t : TypedTree)
      → (expression_walk names e width).end ≡ Ok t
      → value signals by_num t ≡
      source_value names.scope by_name e (max (length_of names.scope e) width)
      (signed_of names.scope e)
  unfolding expression_walk
  right_same e width t h =
      typed_same e (max (length_of names.scope e) width) (signed_of names.scope e) t h

-- ---- pieces

-- the flat form of a target that gets the bits of a value from `rest` up
abbrev pub piece_of : Names → TargetTree → (rest : ℕ) → PieceForm
piece_of names t rest = record {
  signal = names.number t.name;
  place = t.place;
  high = highest names.scope (width_of (names.scope t.name)) t.selection;
  low = lowest names.scope t.selection;
  from = rest;
}

module _ (names : Names) (signals : List SignalForm) (numbering : IsNumbering names signals) where
  module _ (t : TargetTree) (target : IsTarget names.scope t) (rest v x : ℕ)
      (same : v % 2 ^ (target_width names.scope t + rest) ≡
      x % 2 ^ (target_width names.scope t + rest)) where
    abbrev number : ℕ
    number = names.number t.name

    abbrev width : ℕ
    width = width_of (names.scope t.name)

    abbrev piece : ℕ
    piece = v / 2 ^ rest % 2 ^ target_width names.scope t

    -- the length of the target's signal, there and here
    width_is : signal_width signals number ≡ width
    width_is =
        let known = signal_known names.scope t.name target.0 in
        (numbering.listed t.name known.0 known.1 known.2).1 ∙ sym (ap width_of known.2)

    some_width : 1 ≤ width
    some_width =
        let known = signal_known names.scope t.name target.0 in
        subst (λ k. 1 ≤ k) (sym (ap width_of known.2))
        (numbering.widths t.name known.0 known.1 known.2)

    -- bits put by number and by name
    bits_same : (old : ℕ) → old < 2 ^ width
        → replaced_bits width (highest names.scope width t.selection)
        (lowest names.scope t.selection) old (x / 2 ^ rest)
        ≡ with_source_piece names.scope t old piece
    bits_same old fits =
        selection_replaced names.scope t.name t.place t.selection old (x / 2 ^ rest) some_width
        target.1 fits
        ∙ ap (λ z. with_source_piece names.scope t old z)
        (same_piece x v (target_width names.scope t) rest (sym same))

    new_same : (here there : ℕ) → here ≡ there → there < 2 ^ width
        → with_piece signals (piece_of names t rest) x here ≡
        with_source_piece names.scope t there piece
    new_same here there is fits =
        ap (λ w. replaced_bits w (highest names.scope width t.selection)
        (lowest names.scope t.selection) here (x / 2 ^ rest)) width_is
        ∙ ap (λ old. replaced_bits width (highest names.scope width t.selection)
        (lowest names.scope t.selection) old (x / 2 ^ rest)) is
        ∙ bits_same there fits

    new_fits : (old : ℕ) → old < 2 ^ width → with_source_piece names.scope t old piece < 2 ^ width
    new_fits old fits =
        let ordered = selection_ordered names.scope width t.selection some_width target.1 in
        subst (λ z. z < 2 ^ width) (bits_same old fits)
        (replaced_below width (highest names.scope width t.selection)
        (lowest names.scope t.selection) old (x / 2 ^ rest) ordered.0 ordered.1)

    module _ (flat : Environment ℕ × Updates) (source : Running)
        (before : AreSame names flat source) where
      -- the target's signal, now and with what is pending
      now_same : flat.0 number ≡ source.environment t.name
      now_same =
          let known = signal_known names.scope t.name target.0 in
          before.values t.name known.0 known.1 known.2

      now_fits : source.environment t.name < 2 ^ width
      now_fits =
          let known = signal_known names.scope t.name target.0 in
          subst (λ k. source.environment t.name < 2 ^ k) (sym (ap width_of known.2))
          (before.fits t.name known.0 known.1 known.2)

      pending_same : last_update ◌==◌ number (flat.0 number) flat.1 ≡ pending source t.name
      pending_same =
          ap (λ (us : Updates). last_update ◌==◌ number (flat.0 number) us) before.updates
          ∙ last_same names signals numbering source.updates t.name (flat.0 number)
          (source.environment t.name) before.updates_fit target.0 now_same

      pending_fits : pending source t.name < 2 ^ width
      pending_fits =
          let known = signal_known names.scope t.name target.0 in
          subst (λ k. pending source t.name < 2 ^ k) (sym (ap width_of known.2))
          (last_fits names signals numbering source.updates t.name known.0 known.1
          (source.environment t.name) before.updates_fit known.2
          (before.fits t.name known.0 known.1 known.2))

      piece_same : (blocking : Bool)
          → AreSame names (put_piece signals blocking x flat (piece_of names t rest))
          (assign_piece names.scope blocking source (t, piece))
      piece_same true = put_same names signals numbering t.name target.0 _ _
          (new_same (flat.0 number) (source.environment t.name) now_same now_fits)
          (new_fits (source.environment t.name) now_fits) flat source before
      piece_same false = later_same names signals numbering t.name target.0 _ _
          (new_same (last_update ◌==◌ number (flat.0 number) flat.1) (pending source t.name)
          pending_same pending_fits)
          (new_fits (pending source t.name) pending_fits) flat source before

  pub pieces_same : (blocking : Bool) (ts : List TargetTree) → AreTargets names.scope ts → (v x : ℕ)
      → v % 2 ^ targets_width names.scope ts ≡ x % 2 ^ targets_width names.scope ts
      → (flat : Environment ℕ × Updates) (source : Running) → AreSame names flat source
      → AreSame names (fold (put_piece signals blocking x) flat (pieces_of names ts))
      (fold (assign_piece names.scope blocking) source (pieces names.scope ts v))
  pieces_same blocking [] targets v x same flat source before = before
  pieces_same blocking (t ∷ ts) targets v x same flat source before =
      let rest : ℕ = targets_width names.scope ts in
      pieces_same blocking ts targets.1 v x (same_lower v x (target_width names.scope t) rest same)
      (put_piece signals blocking x flat (piece_of names t rest))
      (assign_piece names.scope blocking source (t, v / 2 ^ rest % 2 ^ target_width names.scope t))
      (piece_same t targets.0 rest v x same flat source before blocking)

  -- a whole assignment, where the right side has its source's value
  pub assigned_same : (ts : List TargetTree) (p : Place) (blocking : Bool) (e : ExpressionTree)
      (right : TypedTree)
      → AreTargets names.scope ts
      → (expression_walk names e (targets_width names.scope ts)).end ≡ Ok right
      → (flat : Environment ℕ × Updates) (source : Running) → AreSame names flat source
      → AreSame names (run signals (assign (pieces_of names ts) p blocking right) flat)
      (source_assign names.scope blocking ts e source)
  assigned_same ts p blocking e right targets walked flat source before =
      let width : ℕ = targets_width names.scope ts in
      let whole : ℕ = source_value names.scope source.environment e
      (max (length_of names.scope e) width) (signed_of names.scope e) in
      let is : value signals flat.0 right ≡ whole =
      right_same names signals numbering.declared numbering.listed source.environment flat.0
      before.values e width right walked in
      pieces_same blocking ts targets (whole % 2 ^ width) (value signals flat.0 right)
      (mod-eq_of_lt (mod_below whole (2 ^ width) (pow_pos width))
      ∙ ap (λ z. z % 2 ^ width) (sym is))
      flat source before

  pub assignment_same :
      (ts : List TargetTree) (p : Place) (blocking : Bool) (e : ExpressionTree) (f : FlatStatement)
      → (assignment_walk names ts p blocking e).end ≡ Ok f
      → (flat : Environment ℕ × Updates) (source : Running) → AreSame names flat source
      → AreSame names (run signals f flat) (source_assign names.scope blocking ts e source)
  unfolding assignment_walk
  assignment_same ts p blocking e f h flat source before =
      let first = parts_done (targets_steps names ts p) _ f h in
      let second = parts_done (expression_walk names e (targets_width names.scope ts)) _ f
      first.2 in
      let is : assign (pieces_of names ts) p blocking second.0 ≡ f = cc second.2 in
      subst (λ (g : FlatStatement).
      AreSame names (run signals g flat) (source_assign names.scope blocking ts e source)) is
      (assigned_same ts p blocking e second.0 (targets_found names ts p first.1) second.1 flat
      source before)
