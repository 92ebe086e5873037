-- A run changes the values of the names alone that its statement assigns, and updates no others.
use Rattle.std.proofs.Common.{◌≡◌, ℕ, Bool, true, false, List, [], ◌∷◌, ◌++◌, map, ◌⊎◌, inl, inr}
use Rattle.std.proofs.Common.{⊎_elim, refl, subst, ◌∙◌}
use Rattle.std.specs.Prelude.{Contains, fold}
use Rattle.std.specs.Str.{bytes_eq}
use Rattle.sv_num.specs.Vectors.{is_true}
use Rattle.std.proofs.lemmas.Bool.{cond-false, cond_both, false_from_ne_true}
use Rattle.std.proofs.lemmas.List.Elements.{Contains-append_left, Contains-append_right}
use Rattle.std.proofs.lemmas.List.Elements.{Contains-append_cases}
use Rattle.std.proofs.lemmas.Slice.Eq.{bytes_eq-Decides}
use Rattle.sv_system.proofs.Lists.{Contains-head, Contains-later, Contains-cases, Contains-nil}
use Rattle.sv_ast.specs.Scopes.{Scope}
use Rattle.sv_ast.specs.Tree.{TargetTree, StatementTree, null, assignment, block, if_only, if_else}
use Rattle.sv_ast.specs.Tree.{case_of, StatementTrees, no_statements, more_statements, ArmTrees}
use Rattle.sv_ast.specs.Tree.{no_arms, more_arms}
use Rattle.sv_ast.specs.Values.{value, own_value, assigned_value}
use Rattle.sv_ast.specs.Runs.{Running, pieces, targets_width, assign_piece, has_item, case_length}
use Rattle.sv_ast.specs.Runs.{case_signed, run, run_each, run_arms, run_default, assigned}
use Rattle.sv_ast.specs.Runs.{assigned_in, assigned_by}

abbrev name_of : TargetTree → List ℕ
name_of t = t.name

-- Names that are not assigned.

abbrev pub IsOutside : List (List ℕ) → List ℕ → Type 0
IsOutside names n = Contains names n → ⊥

module _ (scope : Scope) where
  piece_keeps : (blocking : Bool) (r : Running) (p : TargetTree × ℕ) (n : List ℕ)
      → (p.0.name ≡ n → ⊥)
      → (assign_piece scope blocking r p).environment n ≡ r.environment n
  piece_keeps true r (t, piece) n other = cond-false (bytes_eq t.name n) _ _
      (false_from_ne_true (bytes_eq t.name n) (λ same. other ((bytes_eq-Decides t.name n).0 same)))
  piece_keeps false r (t, piece) n other = refl

  pieces_keep : (blocking : Bool) (ts : List TargetTree) (v : ℕ) (r : Running) (n : List ℕ)
      → IsOutside (map name_of ts) n
      → (fold (assign_piece scope blocking) r (pieces scope ts v)).environment n ≡ r.environment n
  pieces_keep blocking [] v r n outside = refl
  pieces_keep blocking (t ∷ ts) v r n outside =
      pieces_keep blocking ts v _ n (λ at. outside (Contains-later t.name (map name_of ts) n at))
      ∙ piece_keeps blocking r _ n (λ e.
      outside (subst (Contains (t.name ∷ map name_of ts)) e
      (Contains-head t.name (map name_of ts))))

  mutual
    unfolding run

    pub run_keeps : (s : StatementTree) (r : Running) (n : List ℕ) → IsOutside (assigned s) n
        → (run scope s r).environment n ≡ r.environment n
    run_keeps null r n outside = refl
    run_keeps (assignment ts p blocking e) r n outside =
        pieces_keep blocking ts (assigned_value scope r.environment (targets_width scope ts) e) r
        n outside
    run_keeps (block ss) r n outside = run_each_keeps ss r n outside
    run_keeps (if_only p c first) r n outside =
        cond_both (is_true (own_value scope r.environment c)) (run scope first r) r
        (λ after. after.environment n ≡ r.environment n)
        (λ yes'. run_keeps first r n outside)
        (λ no'. refl)
    run_keeps (if_else p c first second) r n outside =
        cond_both (is_true (own_value scope r.environment c)) (run scope first r)
        (run scope second r)
        (λ after. after.environment n ≡ r.environment n)
        (λ yes'. run_keeps first r n (λ at.
        outside (Contains-append_left (assigned first) (assigned second) n at)))
        (λ no'. run_keeps second r n (λ at.
        outside (Contains-append_right (assigned first) (assigned second) n at)))
    run_keeps (case_of p e arms) r n outside =
        run_arms_keeps (case_length scope e arms) (case_signed scope e arms)
        (value scope r.environment e (case_length scope e arms) (case_signed scope e arms)) arms
        (run_default scope arms r) r n
        outside (run_default_keeps arms r n outside)

    run_each_keeps : (ss : StatementTrees) (r : Running) (n : List ℕ) → IsOutside (assigned_in ss) n
        → (run_each scope ss r).environment n ≡ r.environment n
    run_each_keeps no_statements r n outside = refl
    run_each_keeps (more_statements s ss) r n outside =
        run_each_keeps ss (run scope s r) n (λ at.
        outside (Contains-append_right (assigned s) (assigned_in ss) n at))
        ∙ run_keeps s r n (λ at. outside (Contains-append_left (assigned s) (assigned_in ss) n at))

    run_arms_keeps : (length : ℕ) (signed : Bool) (selector : ℕ) (arms : ArmTrees)
        (otherwise r : Running) (n : List ℕ)
        → IsOutside (assigned_by arms) n → otherwise.environment n ≡ r.environment n
        → (run_arms scope length signed selector arms otherwise r).environment n ≡ r.environment n
    run_arms_keeps w sg v no_arms otherwise r n outside same = same
    run_arms_keeps w sg v (more_arms p items body arms) otherwise r n outside same =
        cond_both (has_item scope r.environment w sg v items) (run scope body r)
        (run_arms scope w sg v arms otherwise r)
        (λ after. after.environment n ≡ r.environment n)
        (λ yes'. run_keeps body r n (λ at.
        outside (Contains-append_left (assigned body) (assigned_by arms) n at)))
        (λ no'. run_arms_keeps w sg v arms otherwise r n
        (λ at. outside (Contains-append_right (assigned body) (assigned_by arms) n at)) same)

    run_default_keeps : (arms : ArmTrees) (r : Running) (n : List ℕ)
        → IsOutside (assigned_by arms) n
        → (run_default scope arms r).environment n ≡ r.environment n
    run_default_keeps no_arms r n outside = refl
    run_default_keeps (more_arms p [] body arms) r n outside =
        run_keeps body r n (λ at.
        outside (Contains-append_left (assigned body) (assigned_by arms) n at))
    run_default_keeps (more_arms p (item ∷ items) body arms) r n outside =
        run_default_keeps arms r n (λ at.
        outside (Contains-append_right (assigned body) (assigned_by arms) n at))

-- Updates.

-- a list of updates has those of another alone, and others of some names
abbrev pub AddsOnly : (names : List (List ℕ)) → (before after : List (List ℕ × ℕ)) → Type 0
AddsOnly names before after =
    (u : List ℕ × ℕ) → Contains after u → Contains before u ⊎ Contains names u.0

adds_nothing : (names : List (List ℕ)) (us : List (List ℕ × ℕ)) → AddsOnly names us us
adds_nothing names us u at = inl at

adds_less : (names more : List (List ℕ)) → ((n : List ℕ) → Contains names n → Contains more n)
    → (before after : List (List ℕ × ℕ)) → AddsOnly names before after → AddsOnly more before after
adds_less names more within before after adds u at =
    ⊎_elim inl (λ new. inr (within u.0 new)) (adds u at)

adds_both : (names : List (List ℕ)) (first second third : List (List ℕ × ℕ))
    → AddsOnly names first second → AddsOnly names second third
    → AddsOnly names first third
adds_both names first second third one two u at = ⊎_elim (one u) inr (two u at)

module _ (scope : Scope) where
  piece_adds : (blocking : Bool) (r : Running) (p : TargetTree × ℕ) →
      AddsOnly (p.0.name ∷ []) r.updates (assign_piece scope blocking r p).updates
  piece_adds true r (t, piece) u at = inl at
  piece_adds false r (t, piece) u at = ⊎_elim inl
      (λ new. ⊎_elim
      (λ e. inr (subst (λ (w : List ℕ × ℕ).
      Contains (t.name ∷ []) w.0) e (Contains-head t.name [])))
      (λ none. absurd (Contains-nil u none))
      (Contains-cases _ [] u new))
      (Contains-append_cases r.updates _ u at)

  pieces_add : (blocking : Bool) (ts : List TargetTree) (v : ℕ) (r : Running)
      → AddsOnly (map name_of ts) r.updates
      (fold (assign_piece scope blocking) r (pieces scope ts v)).updates
  pieces_add blocking [] v r u at = inl at
  pieces_add blocking (t ∷ ts) v r u at = ⊎_elim
      (λ first. ⊎_elim inl (λ new.
      inr (Contains-append_left (t.name ∷ []) (map name_of ts) u.0 new))
      (piece_adds blocking r _ u first))
      (λ later. inr (Contains-later t.name (map name_of ts) u.0 later))
      (pieces_add blocking ts v _ u at)

  mutual
    unfolding run

    pub run_adds : (s : StatementTree) (r : Running) →
        AddsOnly (assigned s) r.updates (run scope s r).updates
    run_adds null r = adds_nothing [] r.updates
    run_adds (assignment ts p blocking e) r =
        pieces_add blocking ts (assigned_value scope r.environment (targets_width scope ts) e) r
    run_adds (block ss) r = run_each_adds ss r
    run_adds (if_only p c first) r =
        cond_both (is_true (own_value scope r.environment c)) (run scope first r) r
        (λ after. AddsOnly (assigned first) r.updates after.updates)
        (λ yes'. run_adds first r)
        (λ no'. adds_nothing (assigned first) r.updates)
    run_adds (if_else p c first second) r =
        cond_both (is_true (own_value scope r.environment c)) (run scope first r)
        (run scope second r)
        (λ after. AddsOnly (assigned first ++ assigned second) r.updates after.updates)
        (λ yes'. adds_less (assigned first) _
        (Contains-append_left (assigned first) (assigned second)) r.updates _
        (run_adds first r))
        (λ no'. adds_less (assigned second) _
        (Contains-append_right (assigned first) (assigned second)) r.updates _
        (run_adds second r))
    run_adds (case_of p e arms) r =
        run_arms_adds (case_length scope e arms) (case_signed scope e arms)
        (value scope r.environment e (case_length scope e arms) (case_signed scope e arms)) arms
        (run_default scope arms r) r
        (assigned_by arms) (λ n at. at) (run_default_adds arms r)

    run_each_adds : (ss : StatementTrees) (r : Running) →
        AddsOnly (assigned_in ss) r.updates (run_each scope ss r).updates
    run_each_adds no_statements r = adds_nothing [] r.updates
    run_each_adds (more_statements s ss) r =
        adds_both (assigned s ++ assigned_in ss) r.updates (run scope s r).updates
        (run_each scope ss (run scope s r)).updates
        (adds_less (assigned s) _ (Contains-append_left (assigned s) (assigned_in ss)) r.updates _
        (run_adds s r))
        (adds_less (assigned_in ss) _ (Contains-append_right (assigned s) (assigned_in ss))
        (run scope s r).updates _
        (run_each_adds ss (run scope s r)))

    run_arms_adds : (length : ℕ) (signed : Bool) (selector : ℕ) (arms : ArmTrees)
        (otherwise r : Running) (names : List (List ℕ))
        → ((n : List ℕ) → Contains (assigned_by arms) n → Contains names n)
        → AddsOnly names r.updates otherwise.updates
        → AddsOnly names r.updates (run_arms scope length signed selector arms otherwise r).updates
    run_arms_adds w sg v no_arms otherwise r names within adds = adds
    run_arms_adds w sg v (more_arms p items body arms) otherwise r names within adds =
        cond_both (has_item scope r.environment w sg v items) (run scope body r)
        (run_arms scope w sg v arms otherwise r)
        (λ after. AddsOnly names r.updates after.updates)
        (λ yes'. adds_less (assigned body) names
        (λ n at. within n (Contains-append_left (assigned body) (assigned_by arms) n at)) r.updates
        _ (run_adds body r))
        (λ no'. run_arms_adds w sg v arms otherwise r names
        (λ n at. within n (Contains-append_right (assigned body) (assigned_by arms) n at)) adds)

    run_default_adds : (arms : ArmTrees) (r : Running) →
        AddsOnly (assigned_by arms) r.updates (run_default scope arms r).updates
    run_default_adds no_arms r = adds_nothing [] r.updates
    run_default_adds (more_arms p [] body arms) r =
        adds_less (assigned body) _ (Contains-append_left (assigned body) (assigned_by arms))
        r.updates _ (run_adds body r)
    run_default_adds (more_arms p (item ∷ items) body arms) r =
        adds_less (assigned_by arms) _ (Contains-append_right (assigned body) (assigned_by arms))
        r.updates _ (run_default_adds arms r)
