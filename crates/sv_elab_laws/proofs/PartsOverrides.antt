-- What the walk of an instance's overrides finds is what the source sets, and each is a parameter
-- that may be set.
use Rattle.std.proofs.Common.{◌≡◌, ℕ, true, List, [], ◌∷◌, ◌++◌, map}
use Rattle.std.proofs.Common.{Some, refl, sym, ap, subst, ◌∙◌, ⊎_elim}
use Rattle.std.specs.Prelude.{not, ◌&&◌, Contains, Ok, zip, is_some}
use Rattle.std.specs.List.{list_any}
use Rattle.std.specs.Str.{bytes_eq}
use Rattle.std.proofs.lemmas.Bool.{false≢true, and_parts, or_cases}
use Rattle.std.proofs.lemmas.List.{append_assoc, append-nil}
use Rattle.sv_system.proofs.Lists.{Contains-head, Contains-later}
use Rattle.sv_ast.specs.Scopes.{Number}
use Rattle.sv_ast.specs.Tree.{ExpressionTree, ParameterTree, NamedOverride, OverrideTrees}
use Rattle.sv_ast.specs.Tree.{named_overrides, ordered_overrides}
use Rattle.sv_ast.specs.Tree.{ModuleTree}
use Rattle.sv_ast.specs.Values.{constant_of}
use Rattle.sv_ast.specs.Instances.{entry, open_parameters, settings}
use Rattle.sv_elab_rules.specs.Walks.{ask}
use Rattle.sv_elab_rules.specs.Rules.{wrong_override}
use Rattle.sv_elab_rules.specs.Names.{Names}
use Rattle.sv_elab_rules.specs.ExpressionSteps.{constant_walk}
use Rattle.sv_elab_rules.specs.Overrides.{is_open, named_walk, ordered_walk, overrides_walk}
use Rattle.sv_elab_rules.proofs.WalkLemmas.{parts_done, asked_true}
use Rattle.sv_elab_laws.proofs.PartsBindings.{same_name, last_entry}
use Rattle.sv_elab_laws.proofs.PartsDeclared.{same_ok, constant_done}

-- each of the names stands for a parameter of the list
abbrev pub AllOpen : List ParameterTree → List (List ℕ × Number) → Type 0
AllOpen free set =
    (n : List ℕ) (v : Number) → entry set n ≡ Some v →
    (q : ParameterTree) × Contains free q × (q.name ≡ n)

module _ (outer : Names) where
  abbrev by_name : NamedOverride → List ℕ × Number
  by_name o = (o.name, constant_of outer.scope o.value)

  -- what the walk of a named override and those behind it has gone through
  pub named_step : (m : ModuleTree) (o : NamedOverride) (os : List NamedOverride)
      (set found : List (List ℕ × Number))
      → (named_walk outer m set (o ∷ os)).end ≡ Ok found
      → (n : Number) × ((constant_walk outer o.value).end ≡ Ok n)
      × ((named_walk outer m (set ++ (o.name, n) ∷ []) os).end ≡ Ok found)
  unfolding named_walk
  named_step m o os set found h =
      let first = parts_done
      (ask (is_open m o.name && not (is_some (entry set o.name)))
      (wrong_override o.place o.name)) _ found h in
      parts_done (constant_walk outer o.value) (λ n.
      named_walk outer m (set ++ (o.name, n) ∷ []) os) found first.2

  named_done : (m : ModuleTree) (os : List NamedOverride) (set found : List (List ℕ × Number))
      → (named_walk outer m set os).end ≡ Ok found
      → found ≡ set ++ map by_name os
  unfolding named_walk
  named_done m [] set found h = sym (same_ok set found h) ∙ sym (append-nil set)
  named_done m (o ∷ os) set found h =
      let step = named_step m o os set found h in
      named_done m os (set ++ (o.name, step.0) ∷ []) found step.2
      ∙ append_assoc set ((o.name, step.0) ∷ []) (map by_name os)
      ∙ ap (λ (n : Number).
      set ++ (o.name, n) ∷ map by_name os) (sym (constant_done outer o.value step.0 step.1))

  ordered_done : (es : List ExpressionTree) (free : List ParameterTree)
      (set found : List (List ℕ × Number))
      → (ordered_walk outer free set es).end ≡ Ok found
      → found ≡ set ++ zip (map (λ (p : ParameterTree). p.name) free)
      (map (constant_of outer.scope) es)
  unfolding ordered_walk
  ordered_done [] [] set found h = sym (same_ok set found h) ∙ sym (append-nil set)
  ordered_done [] (p ∷ free) set found h = sym (same_ok set found h) ∙ sym (append-nil set)
  ordered_done (e ∷ es) [] set found h = absurd (cc h)
  ordered_done (e ∷ es) (p ∷ free) set found h =
      let first = parts_done (constant_walk outer e) (λ n.
      ordered_walk outer free (set ++ (p.name, n) ∷ []) es) found h in
      ordered_done es free (set ++ (p.name, first.0) ∷ []) found first.2
      ∙ append_assoc set ((p.name, first.0) ∷ [])
      (zip (map (λ (p : ParameterTree). p.name) free) (map (constant_of outer.scope) es))
      ∙ ap (λ (n : Number).
      set ++ (p.name, n) ∷ zip (map (λ (p : ParameterTree). p.name) free)
      (map (constant_of outer.scope) es))
      (sym (constant_done outer e first.0 first.1))

  pub overrides_done : (m : ModuleTree) (os : OverrideTrees) (found : List (List ℕ × Number))
      → (overrides_walk outer m os).end ≡ Ok found
      → found ≡ settings outer.scope m os
  unfolding overrides_walk
  overrides_done m (named_overrides os) found h = named_done m os [] found h
  overrides_done m (ordered_overrides es) found h = ordered_done es (open_parameters m) [] found h

  -- ---- each is open

  found_open : (ps : List ParameterTree) (n : List ℕ)
      → list_any (λ (p : ParameterTree). bytes_eq n p.name) ps ≡ true
      → (q : ParameterTree) × Contains ps q × (q.name ≡ n)
  found_open [] n h = absurd (false≢true h)
  found_open (p ∷ ps) n h = ⊎_elim
      (λ here. (p, Contains-head p ps, sym (same_name n p.name here)))
      (λ later. let q = found_open ps n later in (q.0, Contains-later p ps q.0 q.1, q.2))
      (or_cases (bytes_eq n p.name) (list_any (λ (p : ParameterTree). bytes_eq n p.name) ps) h)

  one_more_open : (free : List ParameterTree) (set : List (List ℕ × Number)) (m : List ℕ)
      (k : Number) → AllOpen free set
      → (q : ParameterTree) × Contains free q × (q.name ≡ m) → AllOpen free (set ++ (m, k) ∷ [])
  one_more_open free set m k all q n v e = ⊎_elim
      (λ old. all n v old)
      (λ new. (q.0, q.1, q.2 ∙ sym new.0))
      (last_entry set m k n v e)

  named_open : (m : ModuleTree) (os : List NamedOverride) (set found : List (List ℕ × Number))
      → (named_walk outer m set os).end ≡ Ok found
      → AllOpen (open_parameters m) set → AllOpen (open_parameters m) found
  unfolding named_walk
  named_open m [] set found h all = subst (AllOpen (open_parameters m)) (same_ok set found h) all
  named_open m (o ∷ os) set found h all =
      let test = is_open m o.name && not (is_some (entry set o.name)) in
      let first = parts_done (ask test (wrong_override o.place o.name)) _ found h in
      let second = parts_done (constant_walk outer o.value) (λ n.
      named_walk outer m (set ++ (o.name, n) ∷ []) os) found first.2 in
      let is = (and_parts (is_open m o.name) (not (is_some (entry set o.name)))
      (asked_true test (wrong_override o.place o.name) first.1)).0 in
      named_open m os (set ++ (o.name, second.0) ∷ []) found second.2
      (one_more_open (open_parameters m) set o.name second.0 all
      (found_open (open_parameters m) o.name is))

  ordered_open : (all_free : List ParameterTree) (es : List ExpressionTree)
      (free : List ParameterTree) (set found : List (List ℕ × Number))
      → (ordered_walk outer free set es).end ≡ Ok found
      → ((q : ParameterTree) → Contains free q → Contains all_free q)
      → AllOpen all_free set → AllOpen all_free found
  unfolding ordered_walk
  ordered_open all_free [] [] set found h within all =
      subst (AllOpen all_free) (same_ok set found h) all
  ordered_open all_free [] (p ∷ free) set found h within all =
      subst (AllOpen all_free) (same_ok set found h) all
  ordered_open all_free (e ∷ es) [] set found h within all = absurd (cc h)
  ordered_open all_free (e ∷ es) (p ∷ free) set found h within all =
      let first = parts_done (constant_walk outer e) (λ n.
      ordered_walk outer free (set ++ (p.name, n) ∷ []) es) found h in
      ordered_open all_free es free (set ++ (p.name, first.0) ∷ []) found first.2 (λ q at.
      within q (Contains-later p free q at))
      (one_more_open all_free set p.name first.0 all (p, within p (Contains-head p free), refl))

  nothing_open : (free : List ParameterTree) → AllOpen free []
  nothing_open free n v e = absurd (cc e)

  pub overrides_open : (m : ModuleTree) (os : OverrideTrees) (found : List (List ℕ × Number))
      → (overrides_walk outer m os).end ≡ Ok found
      → AllOpen (open_parameters m) found
  unfolding overrides_walk
  overrides_open m (named_overrides os) found h =
      named_open m os [] found h (nothing_open (open_parameters m))
  overrides_open m (ordered_overrides es) found h =
      ordered_open (open_parameters m) es (open_parameters m) [] found h (λ q at.
      at) (nothing_open (open_parameters m))
