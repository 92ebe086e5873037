-- The processes of an instance, one more at a time.
use Rattle.std.proofs.Common.{◌≡◌, ℕ, Bool, true, false, List, [], ◌∷◌, ◌++◌, map, Option, Some}
use Rattle.std.proofs.Common.{None, refl, sym, ap, ◌∙◌}
use Rattle.std.specs.Prelude.{Ok, Err, ◌&&◌}
use Rattle.std.specs.List.{list_all}
use Rattle.std.proofs.lemmas.Bool.{and_parts}
use Rattle.std.proofs.lemmas.List.{map-append}
use Rattle.sv_num.specs.declared.faults.Place.{Place}
use Rattle.sv_ast.specs.Instances.{is_signal}
use Rattle.sv_ast.specs.Scopes.{width_of}
use Rattle.sv_ast.specs.Shape.{are_whole_targets, are_shaped_targets, has_target, is_whole_target}
use Rattle.sv_ast.specs.Shape.{is_shaped_target, is_whole, is_shaped_selection}
use Rattle.sv_ast.specs.Tree.{Selection, whole, bit_at, part_from, ExpressionTree, TargetTree}
use Rattle.sv_ast.specs.Tree.{StatementTree, DeclarationTree, PlacedName}
use Rattle.sv_flat.specs.declared.designs.Process.{Process}
use Rattle.sv_flat.specs.Views.{process_form}
use Rattle.sv_flat.specs.Design.{SignalForm, ProcessForm, TypedTree, FlatStatement, ProcessKind}
use Rattle.sv_flat.specs.Design.{continuous}
use Rattle.sv_elab_rules.specs.Walks.{WalkStep}
use Rattle.sv_elab_rules.specs.Rules.{unknown_name}
use Rattle.sv_elab_rules.specs.Names.{Names}
use Rattle.sv_elab_rules.specs.ExpressionSteps.{expression_walk}
use Rattle.sv_elab_rules.specs.Targets.{assignment_walk}
use Rattle.sv_elab_rules.specs.Statements.{statement_walk}
use Rattle.sv_elab_rules.specs.Links.{whole_assignment}
use Rattle.sv_elab_rules.specs.InstanceSteps.{Built, with_process, value_walk, assign_walk, always_walk}
use Rattle.sv_elab.specs.Instances.{always_kind_walk}

module _ (names : Names) (built : Built) where
  module _ (d : DeclarationTree) where
    pub value_none : (v : Option ExpressionTree) → v ≡ None →
        (value_walk names built d v).end ≡ Ok built
    unfolding value_walk
    value_none v h = rw h refl

    module _ (o : Option ExpressionTree) (e : ExpressionTree) (is : o ≡ Some e) where
      pub value_found : (v : TypedTree)
          → (expression_walk names e (width_of (names.scope d.name))).end ≡ Ok v
          → (value_walk names built d o).end ≡ Ok (with_process built
          (whole_assignment d.place continuous (names.number d.name)
          (width_of (names.scope d.name)) v))
      unfolding value_walk
      value_found v h = rw (is, h) refl

      pub value_broken : (s : WalkStep)
          → (expression_walk names e (width_of (names.scope d.name))).end ≡ Err s
          → (value_walk names built d o).end ≡ Err s
      unfolding value_walk
      value_broken s h = rw (is, h) refl

  module _ (ts : List TargetTree) (p : Place) (e : ExpressionTree) where
    pub assign_found : (body : FlatStatement) → (assignment_walk names ts p true e).end ≡ Ok body
        → (assign_walk names built ts p e).end
        ≡ Ok (with_process built (record { place = p; kind = continuous; body = body }))
    unfolding assign_walk
    assign_found body h = rw h refl

    pub assign_broken : (s : WalkStep) → (assignment_walk names ts p true e).end ≡ Err s
        → (assign_walk names built ts p e).end ≡ Err s
    unfolding assign_walk
    assign_broken s h = rw h refl

  module _ (p : Place) (clock : Option PlacedName) (s : StatementTree) where
    pub always_found : (kind : ProcessKind) (body : FlatStatement)
        → (always_kind_walk names clock).end ≡ Ok kind
        → (statement_walk names s).end ≡ Ok body
        → (always_walk names built p clock s).end
        ≡ Ok (with_process built (record { place = p; kind = kind; body = body }))
    unfolding always_walk
    always_found kind body = by clock
      where
        tested : (c : PlacedName) (b : Bool) → is_signal (names.scope c.name) ≡ b
            → (always_kind_walk names (Some c)).end ≡ Ok kind
            → (statement_walk names s).end ≡ Ok body
            → (always_walk names built p (Some c) s).end
            ≡ Ok (with_process built (record { place = p; kind = kind; body = body }))
        tested c true h k l =
            rw (h, l) (ap (λ (r : ProcessKind).
            Ok (with_process built (record { place = p; kind = r; body = body }))) (cc (rw h at k)))
        tested c false h k l = absurd (cc (rw h at k))

        by : (o : Option PlacedName) → (always_kind_walk names o).end ≡ Ok kind
            → (statement_walk names s).end ≡ Ok body
            → (always_walk names built p o s).end
            ≡ Ok (with_process built (record { place = p; kind = kind; body = body }))
        by None k l =
            rw l (ap (λ (r : ProcessKind).
            Ok (with_process built (record { place = p; kind = r; body = body }))) (cc k))
        by (Some c) k l = tested c (is_signal (names.scope c.name)) refl k l

    pub always_unclocked : (t : WalkStep) → (always_kind_walk names clock).end ≡ Err t →
        (always_walk names built p clock s).end ≡ Err t
    unfolding always_walk
    always_unclocked t = by clock
      where
        tested : (c : PlacedName) (b : Bool) → is_signal (names.scope c.name) ≡ b
            → (always_kind_walk names (Some c)).end ≡ Err t
            → (always_walk names built p (Some c) s).end ≡ Err t
        tested c true h k = absurd (cc (rw h at k))
        tested c false h k =
            let e : unknown_name c.place c.name ≡ t = cc (rw h at k) in
            rw h (ap (λ (u : WalkStep). Err u) e)

        by : (o : Option PlacedName) → (always_kind_walk names o).end ≡ Err t →
            (always_walk names built p o s).end ≡ Err t
        by None k = absurd (cc k)
        by (Some c) k = tested c (is_signal (names.scope c.name)) refl k

    pub always_broken : (kind : ProcessKind) → (always_kind_walk names clock).end ≡ Ok kind
        → (t : WalkStep)
        → (statement_walk names s).end ≡ Err t → (always_walk names built p clock s).end ≡ Err t
    unfolding always_walk
    always_broken kind = by clock
      where
        tested : (c : PlacedName) (b : Bool) → is_signal (names.scope c.name) ≡ b
            → (always_kind_walk names (Some c)).end ≡ Ok kind → (t : WalkStep)
            → (statement_walk names s).end ≡ Err t
            → (always_walk names built p (Some c) s).end ≡ Err t
        tested c true h k t l = rw (h, l) refl
        tested c false h k t l = absurd (cc (rw h at k))

        by : (o : Option PlacedName) → (always_kind_walk names o).end ≡ Ok kind → (t : WalkStep)
            → (statement_walk names s).end ≡ Err t
            → (always_walk names built p o s).end ≡ Err t
        by None k t l = rw l refl
        by (Some c) k t l = tested c (is_signal (names.scope c.name)) refl k t l

-- a process more, as it is pushed
pub pushed : (ps qs : List Process) (p : Process) → qs ≡ ps ++ p ∷ []
    → map process_form ps ++ process_form p ∷ [] ≡ map process_form qs
pushed ps qs p h = sym (map-append process_form ps (p ∷ [])) ∙ ap (map process_form) (sym h)

pub with_pushed : (signals : List SignalForm) (instances : ℕ) (ps qs : List Process) (p : Process)
    → qs ≡ ps ++ p ∷ []
    → with_process (record {
      signals = signals;
      processes = map process_form ps;
      instances = instances;
    }) (process_form p)
    ≡ record { signals = signals; processes = map process_form qs; instances = instances }
with_pushed signals instances ps qs p h =
    ap (λ (fs : List ProcessForm).
    record { signals = signals; processes = fs; instances = instances }) (pushed ps qs p h)

-- ---- the targets of an `assign`

whole_is_shaped : (s : Selection) → is_whole s ≡ true → is_shaped_selection s ≡ true
whole_is_shaped whole h = refl
whole_is_shaped (bit_at i) h = absurd (cc h)
whole_is_shaped (part_from a b) h = absurd (cc h)

wholes_are_shaped : (ts : List TargetTree) → list_all is_whole_target ts ≡ true →
    list_all is_shaped_target ts ≡ true
wholes_are_shaped [] h = refl
wholes_are_shaped (t ∷ ts) h =
    let both : (is_whole t.selection ≡ true) × (list_all is_whole_target ts ≡ true) =
    and_parts (is_whole t.selection) (list_all is_whole_target ts) h in
    ap (λ b. b && list_all is_shaped_target ts) (whole_is_shaped t.selection both.0)
    ∙ wholes_are_shaped ts both.1

pub whole_targets : (ts : List TargetTree) → are_whole_targets ts ≡ true →
    are_shaped_targets ts ≡ true
whole_targets ts h = by (has_target ts) h
  where
    by : (b : Bool) → (b && list_all is_whole_target ts) ≡ true →
        (b && list_all is_shaped_target ts) ≡ true
    by true k = wholes_are_shaped ts k
    by false k = absurd (cc k)
