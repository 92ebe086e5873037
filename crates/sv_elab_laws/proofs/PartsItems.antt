-- What the walk of an item that is no instance adds: the process that it is.
use Rattle.std.proofs.Common.{◌≡◌, ℕ, ◌+◌, ◌≤◌, Bool, true, List}
use Rattle.std.proofs.Common.{[], ◌∷◌, ◌++◌, map, Option, Some, None, refl, sym, ap, subst}
use Rattle.std.proofs.Common.{◌∙◌, arith}
use Rattle.std.specs.Prelude.{◌&&◌, nat_le, Contains, Ok, IsTrue}
use Rattle.std.specs.Prelude.{option_map, option_to_list}
use Rattle.std.specs.List.{list_all}
use Rattle.std.specs.Option.{option_map_or}
use Rattle.std.proofs.lemmas.Bool.{and_parts, and_from, false≢true, le-leb}
use Rattle.sv_num.specs.declared.faults.Place.{Place}
use Rattle.sv_ast.specs.Scopes.{width_of}
use Rattle.sv_ast.specs.Tree.{ExpressionTree, Selection, whole, bit_at, part_from, TargetTree}
use Rattle.sv_ast.specs.Tree.{StatementTree, assignment, PlacedName, DeclarationTree}
use Rattle.sv_ast.specs.Tree.{continuous}
use Rattle.sv_ast.specs.Shape.{is_whole, is_shaped_selection, is_shaped_target, is_whole_target}
use Rattle.sv_ast.specs.Shape.{has_target, is_shaped_expression}
use Rattle.sv_ast.specs.Shape.{is_shaped_item, is_shaped_statement}
use Rattle.sv_ast.specs.Values.{length_of}
use Rattle.sv_ast.specs.Instances.{is_signal}
use Rattle.sv_ast.specs.Parts.{Part, within, declarations}
use Rattle.sv_ast.specs.Processes.{combinational, clocked, assigns}
use Rattle.sv_flat.specs.Design.{ProcessForm, assign, continuous as continuous_kind}
use Rattle.sv_flat.specs.Design.{combinational as combinational_kind, clocked as clocked_kind}
use Rattle.sv_elab_rules.specs.Walks.{WalkStep, done, ask, each, ◌>>=◌}
use Rattle.sv_elab_rules.specs.Rules.{unknown_name, too_wide}
use Rattle.sv_elab_rules.specs.Names.{Names}
use Rattle.sv_elab_rules.specs.ExpressionSteps.{expression_walk}
use Rattle.sv_elab_rules.specs.Targets.{selection_steps, target_steps, targets_steps, pieces_of}
use Rattle.sv_elab_rules.specs.Targets.{assignment_walk}
use Rattle.sv_elab_rules.specs.Statements.{statement_walk}
use Rattle.sv_elab_rules.specs.Links.{whole_assignment}
use Rattle.sv_elab_rules.specs.LabelSteps.{SharedTables}
use Rattle.sv_elab_rules.specs.InstanceSteps.{Built, with_process, value_walk, assign_walk, always_walk}
use Rattle.sv_elab_rules.proofs.WalkLemmas.{parts_done, end_after, asked_true}
use Rattle.sv_ast.specs.Parts.{PartSignal}
use Rattle.sv_elab_laws.specs.Numbers.{SelectorsFit}
use Rattle.sv_elab_laws.proofs.PartsLists.{contains_get}
use Rattle.sv_elab_laws.proofs.PartsDeclared.{same_ok}
use Rattle.sv_elab_laws.proofs.PartsNamed.{IsNamed}
use Rattle.sv_elab_laws.proofs.PartsGrown.{KindFits, IsBody, Grown, grown_none, grown_one}
use Rattle.sv_elab_laws.proofs.PartsGrown.{number_of_name, signal_is}

ask_ok : (b : Bool) (s : WalkStep) → b ≡ true → (ask b s).end ≡ Ok tt
ask_ok b s h = subst (λ x. (ask x s).end ≡ Ok tt) (sym h) refl

-- the value of a wire is an assignment to it
pub wire_walked : (names : Names) (n : List ℕ) (p : Place) (e : ExpressionTree) (value : _)
    → IsTrue (is_signal (names.scope n))
    → width_of (names.scope n) ≤ 64
    → (expression_walk names e (width_of (names.scope n))).end ≡ Ok value
    → (statement_walk names (assigns n p e)).end ≡
    Ok (whole_assignment p continuous_kind (names.number n) (width_of (names.scope n))
    value).body
unfolding statement_walk assignment_walk targets_steps target_steps selection_steps each length_of
wire_walked names n p e value is fits walked =
    let t : TargetTree = record { name = n; place = p; selection = whole } in
    let width = width_of (names.scope n) in
    let target : (target_steps names t).end ≡ Ok tt =
    end_after (ask (is_signal (names.scope n)) (unknown_name p n)) (λ _.
    selection_steps names n p whole) tt
    (ask_ok (is_signal (names.scope n)) (unknown_name p n) is) in
    let targets : (each (target_steps names) (t ∷ [])).end ≡ Ok tt =
    end_after (target_steps names t) (λ _. each (target_steps names) []) tt target in
    let all : (targets_steps names (t ∷ []) p).end ≡ Ok tt =
    end_after (each (target_steps names) (t ∷ [])) (λ _.
    ask (nat_le (width + 0) 64) (too_wide p)) tt targets
    ∙ ask_ok (nat_le (width + 0) 64) (too_wide p) (le-leb (width + 0) 64 (omega arith)) in
    let same : width ≡ width + 0 = omega arith in
    end_after (targets_steps names (t ∷ []) p)
    (λ _. expression_walk names e (width + 0) >>= λ v.
    done (assign (pieces_of names (t ∷ [])) p true v)) tt all
    ∙ end_after (expression_walk names e (width + 0)) (λ v.
    done (assign (pieces_of names (t ∷ [])) p true v)) value
    (subst (λ w. (expression_walk names e w).end ≡ Ok value) same walked)

whole_is_shaped : (s : Selection) → is_whole s ≡ true → is_shaped_selection s ≡ true
whole_is_shaped whole h = refl
whole_is_shaped (bit_at i) h = absurd (false≢true h)
whole_is_shaped (part_from a b) h = absurd (false≢true h)

wholes_are_shaped : (ts : List TargetTree) → list_all is_whole_target ts ≡ true →
    list_all is_shaped_target ts ≡ true
wholes_are_shaped [] h = refl
wholes_are_shaped (t ∷ ts) h =
    let both = and_parts (is_whole_target t) (list_all is_whole_target ts) h in
    and_from (is_shaped_target t) (list_all is_shaped_target ts)
    (whole_is_shaped t.selection both.0) (wholes_are_shaped ts both.1)

module _ (tables : SharedTables) (sources : List PartSignal) (everything : List Part) (p : Part)
    (names : Names)
    (named : IsNamed sources everything p names) where
  body_of : (s : StatementTree) (f : ProcessForm) → (statement_walk names s).end ≡ Ok f.body
      → IsTrue (is_shaped_statement s) → SelectorsFit s
      → KindFits tables sources everything f.kind s → IsBody tables sources everything p s f
  body_of s f walked shaped fits kind = record {
    names = names;
    named = named;
    walked = walked;
    shaped = shaped;
    fits = fits;
    kind = kind;
  }

  pub value_grown : (d : DeclarationTree) (v : Option ExpressionTree) (built next : Built)
      → (value_walk names built d v).end ≡ Ok next
      → Contains (declarations p.definition) d → IsTrue (option_map_or is_shaped_expression v true)
      → Grown tables sources everything built next []
      (map (combinational p) (option_to_list (option_map (assigns d.name d.place) v)) ++ []) []
  unfolding value_walk
  value_grown d None built next h listed shaped =
      subst (λ z. Grown tables sources everything built z [] [] []) (same_ok built next h)
      (grown_none tables sources everything built)
  value_grown d (Some e) built next h listed shaped =
      let width = width_of (names.scope d.name) in
      let first = parts_done (expression_walk names e width) _ next h in
      let f = whole_assignment d.place continuous_kind (names.number d.name) width first.0 in
      let at = contains_get (declarations p.definition) d listed in
      let is = (named.known at.0 d at.1).0 in
      let b = signal_is tables sources everything (names.scope d.name) is in
      let fits : width ≤ 64 =
      subst (λ x. x ≤ 64) (sym (ap width_of b.2)) (named.widths d.name b.0 b.1 b.2).1 in
      subst (λ z. Grown tables sources everything built z []
      (combinational p (assigns d.name d.place e) ∷ []) [])
      (same_ok (with_process built f) next first.2)
      (grown_one tables sources everything built (combinational p (assigns d.name d.place e)) f [] (
        record {
          names = names;
          named = named;
          walked = wire_walked names d.name d.place e first.0 is fits first.1;
          shaped = shaped;
          fits = tt;
          kind = refl;
        },
        refl,
        (refl, refl),
      ) tt)

  pub assign_grown : (ts : List TargetTree) (place : Place) (e : ExpressionTree)
      (built next : Built)
      → (assign_walk names built ts place e).end ≡ Ok next
      → IsTrue (is_shaped_item (continuous ts place e))
      → Grown tables sources everything built next []
      (combinational p (assignment ts place true e) ∷ []) []
  unfolding assign_walk statement_walk
  assign_grown ts place e built next h shaped =
      let first = parts_done (assignment_walk names ts place true e) _ next h in
      let f : ProcessForm = record { place = place; kind = continuous_kind; body = first.0 } in
      let both = and_parts (has_target ts && list_all is_whole_target ts) (is_shaped_expression e)
      shaped in
      let targets = and_parts (has_target ts) (list_all is_whole_target ts) both.0 in
      subst (λ z. Grown tables sources everything built z []
      (combinational p (assignment ts place true e) ∷ []) [])
      (same_ok (with_process built f) next first.2)
      (grown_one tables sources everything built
      (combinational p (assignment ts place true e)) f [] (
        record {
          names = names;
          named = named;
          walked = first.1;
          shaped = and_from (has_target ts && list_all is_shaped_target ts) (is_shaped_expression e)
              (and_from (has_target ts) (list_all is_shaped_target ts) targets.0
              (wholes_are_shaped ts targets.1)) both.1;
          fits = tt;
          kind = targets.1;
        },
        refl,
        (refl, refl),
      ) tt)

  pub block_grown : (place : Place) (s : StatementTree) (built next : Built)
      → (always_walk names built place None s).end ≡ Ok next
      → IsTrue (is_shaped_statement s) → SelectorsFit s
      → Grown tables sources everything built next [] (combinational p s ∷ []) []
  unfolding always_walk
  block_grown place s built next h shaped fits =
      let first = parts_done (statement_walk names s) _ next h in
      let f : ProcessForm = record { place = place; kind = combinational_kind; body = first.0 } in
      subst (λ z. Grown tables sources everything built z [] (combinational p s ∷ []) [])
      (same_ok (with_process built f) next first.2)
      (grown_one tables sources everything built (combinational p s) f [] (
        body_of s f first.1 shaped fits tt,
        refl,
        (refl, refl),
      ) tt)

  pub clocked_grown : (place : Place) (clock : PlacedName) (s : StatementTree) (built next : Built)
      → (always_walk names built place (Some clock) s).end ≡ Ok next
      → IsTrue (is_shaped_statement s) → SelectorsFit s
      → Grown tables sources everything built next [] (clocked p s ∷ []) (within p clock.name ∷ [])
  unfolding always_walk
  clocked_grown place clock s built next h shaped fits =
      let test = parts_done
      (ask (is_signal (names.scope clock.name)) (unknown_name clock.place clock.name)) _
      next h in
      let first = parts_done (statement_walk names s) _ next test.2 in
      let is = asked_true (is_signal (names.scope clock.name)) (unknown_name clock.place clock.name)
      test.1 in
      let f : ProcessForm =
      record { place = place; kind = clocked_kind (names.number clock.name); body = first.0 } in
      subst (λ z. Grown tables sources everything built z [] (clocked p s ∷ [])
      (within p clock.name ∷ []))
      (same_ok (with_process built f) next first.2)
      (grown_one tables sources everything built (clocked p s) f (within p clock.name ∷ []) (
        body_of s f first.1 shaped fits tt,
        refl,
      )
      (number_of_name tables sources everything p names named clock.name is, tt))
