-- The flat form of a statement does to numbers what the statement does to names.
use Rattle.std.proofs.Common.{◌≡◌, ℕ, max, Bool, true, false, cond, List, [], ◌∷◌, map, refl, sym}
use Rattle.std.proofs.Common.{ap, subst, ◌∙◌, arith}
use Rattle.std.specs.Prelude.{◌==◌, not, ◌&&◌, ◌||◌, Option, Some, None, Contains, Ok}
use Rattle.std.specs.List.{filter}
use Rattle.std.proofs.lemmas.Bool.{and_parts}
use Rattle.std.proofs.lemmas.List.Folds.{list_any-append}
use Rattle.sv_num.specs.declared.faults.Place.{Place}
use Rattle.sv_num.specs.Vectors.{is_true}
use Rattle.sv_system.specs.System.{Environment}
use Rattle.sv_system.proofs.Lists.{Contains-nil}
use Rattle.sv_ast.specs.Tree.{ExpressionTree, StatementTree, null, assignment, block, if_only}
use Rattle.sv_ast.specs.Tree.{if_else, case_of, StatementTrees, no_statements, more_statements}
use Rattle.sv_ast.specs.Tree.{ArmTrees, no_arms, more_arms}
use Rattle.sv_ast.specs.Values.{length_of, signed_of, value as source_value, own_value}
use Rattle.sv_ast.specs.Instances.{is_empty}
use Rattle.sv_ast.specs.Runs.{Running, has_item, case_signed, run as source_run, run_each, run_arms}
use Rattle.sv_ast.specs.Runs.{run_default}
use Rattle.sv_flat.specs.Design.{SignalForm, TypedTree, FlatStatement, nothing, after, branch}
use Rattle.sv_flat.specs.Values.{value}
use Rattle.sv_flat.specs.Runs.{Updates, run, run_alone, updates_of}
use Rattle.sv_elab_rules.specs.Names.{Names}
use Rattle.sv_elab_rules.specs.TypedExpressions.{typed_of}
use Rattle.sv_elab_rules.specs.ExpressionSteps.{typed_walk, expression_walk}
use Rattle.sv_elab_rules.specs.CaseChains.{FlatArm, arm_items, arms_signed, common_length, common_signed}
use Rattle.sv_elab_rules.specs.CaseChains.{arm_branch, chain, default_of, case_chain, is_complete}
use Rattle.sv_elab_rules.specs.Statements.{statement_walk, statements_walk, arms_walk}
use Rattle.sv_elab_rules.proofs.WalkLemmas.{parts_done, if_only_done, if_else_done}
use Rattle.sv_width.specs.Agreement.{HaveValues}
use Rattle.sv_elab_laws.specs.Numbers.{NumbersFit, SelectorsFit, SelectorsFitIn, SelectorsFitBy}
use Rattle.sv_elab_laws.specs.Numbering.{IsNumbering}
use Rattle.sv_elab_laws.specs.SameStates.{ValuesFit, IsUpdate, by_number, AreSame}
use Rattle.sv_elab_laws.proofs.SameUpdates.{bound_fits}
use Rattle.sv_elab_laws.proofs.AssignmentsSame.{typed_same, right_same, assignment_same}
use Rattle.sv_elab_laws.proofs.CompleteCases.{ItemsPass, complete_has_item}
use Rattle.sv_elab_laws.proofs.CaseArms.{flat_arm, arm_found, no_arm_found, arms_pass, arms_type}
use Rattle.sv_elab_laws.proofs.CaseArms.{arm_runs, is_among, some_taken, closed_same, among_same}

abbrev pub has_items : FlatArm → Bool
has_items arm = not (is_empty arm.items)

-- the larger of a length and none
with_none : (n : ℕ) → max n 0 ≡ n
with_none n = omega arith

module _ (names : Names) (signals : List SignalForm) (numbering : IsNumbering names signals) where
  module _ (flat : Environment ℕ × Updates) (source : Running)
      (before : AreSame names flat source) where
    -- a condition
    condition_same : (c : ExpressionTree) (t : TypedTree) → (expression_walk names c 0).end ≡ Ok t
        → value signals flat.0 t ≡ own_value names.scope source.environment c
    condition_same c t h =
        right_same names signals numbering.declared numbering.listed source.environment flat.0
        before.values c 0 t h
        ∙ ap (λ n. source_value names.scope source.environment c n (signed_of names.scope c))
        (with_none (length_of names.scope c))

    abbrev IsAfter : FlatStatement → Running → Type 0
    IsAfter f end = AreSame names (run signals f flat) end

    either_same : (b c : Bool) (x y : Environment ℕ × Updates) (v w : Running) → b ≡ c
        → AreSame names x v → AreSame names y w
        → AreSame names (cond b x y) (cond c v w)
    either_same b c x y v w is first second =
        subst (λ d. AreSame names (cond b x y) (cond d v w)) is (by b)
      where
        by : (d : Bool) → AreSame names (cond d x y) (cond d v w)
        by true = first
        by false = second

    branch_same : (p : Place) (c : ExpressionTree) (t : TypedTree) (f g : FlatStatement)
        (v w : Running)
        → (expression_walk names c 0).end ≡ Ok t → IsAfter f v → IsAfter g w
        → IsAfter (branch p t f g) (cond (is_true (own_value names.scope source.environment c)) v w)
    branch_same p c t f g v w h first second =
        either_same (is_true (value signals flat.0 t))
        (is_true (own_value names.scope source.environment c)) _ _ v w
        (ap is_true (condition_same c t h)) first second

    -- ---- cases

    module _ (n : ℕ) (s : Bool) (selector : TypedTree) (v : ℕ)
        (selected : value signals flat.0 selector ≡ v) where
      -- one arm and the rest of its chain
      arm_same : (p : Place) (items : List ExpressionTree) (body rest : FlatStatement)
          (x y : Running) → ItemsPass names items
          → IsAfter body x → IsAfter rest y
          → IsAfter (arm_branch selector p (map (λ (e : ExpressionTree).
          typed_of names e n s) items) body rest)
          (cond (has_item names.scope source.environment n s v items) x y)
      arm_same p items body rest x y pass first second =
          let typed_items : List TypedTree =
          map (λ (e : ExpressionTree). typed_of names e n s) items in
          subst (λ (z : Environment ℕ × Updates).
          AreSame names z (cond (has_item names.scope source.environment n s v items) x y))
          (sym (arm_runs signals flat selector p typed_items body rest))
          (either_same (is_among signals flat.0 (value signals flat.0 selector) typed_items)
          (has_item names.scope source.environment n s v items) _ _ x y
          (among_same names signals numbering.declared numbering.listed source.environment flat.0
          before.values n s
          (value signals flat.0 selector) v selected items pass) first second)

      -- the items of all arms that have some
      any_taken : (arms : ArmTrees) (found : List FlatArm)
          → (arms_walk names n s arms).end ≡ Ok found
          → some_taken signals flat selector (filter has_items found) ≡
          has_item names.scope source.environment n s v (arm_items arms)
      any_taken no_arms found h =
          ap (λ (arms : List FlatArm). some_taken signals flat selector (filter has_items arms))
          (sym (no_arm_found names n s found h))
      any_taken (more_arms p items body arms) found h =
          let arm = arm_found names n s p items body arms found h in
          let typed_items : List TypedTree =
          map (λ (e : ExpressionTree). typed_of names e n s) items in
          ap (λ (arms : List FlatArm). some_taken signals flat selector (filter has_items arms))
          (sym arm.is)
          ∙ kept_arm p items arm.first arm.rest
          ∙ ap (λ b. b || some_taken signals flat selector (filter has_items arm.rest))
          (among_same names signals numbering.declared numbering.listed source.environment flat.0
          before.values n s
          (value signals flat.0 selector) v selected items arm.items_pass)
          ∙ ap (λ b. has_item names.scope source.environment n s v items || b)
          (any_taken arms arm.rest arm.rest_is)
          ∙ sym (list_any-append (λ (e : ExpressionTree).
          source_value names.scope source.environment e n s == v) items (arm_items arms))
        where
          kept_arm : (p : Place) (es : List ExpressionTree) (body : FlatStatement)
              (rest : List FlatArm)
              → some_taken signals flat selector
              (filter has_items (flat_arm p (map (λ (e : ExpressionTree).
              typed_of names e n s) es) body ∷ rest))
              ≡ (is_among signals flat.0 (value signals flat.0 selector)
              (map (λ (e : ExpressionTree). typed_of names e n s) es)
              || some_taken signals flat selector (filter has_items rest))
          kept_arm p [] body rest = refl
          kept_arm p (e ∷ es) body rest = refl

  -- what a default or none leads to
  abbrev IsDefault : Environment ℕ × Updates → Running → Option FlatStatement → Running → Type 0
  IsDefault flat source (Some f) end = AreSame names (run signals f flat) end
  IsDefault flat source None end = source ≡ end

  -- ---- a whole case, once its parts are known

  module _ (flat : Environment ℕ × Updates) (source : Running) (before : AreSame names flat source)
      (e : ExpressionTree) (arms : ArmTrees) (found : List FlatArm) (selector : TypedTree)
      (numbers : NumbersFit e) where
    abbrev length : ℕ
    length = common_length names e arms

    abbrev signedness : Bool
    signedness = common_signed names e arms

    abbrev chosen : ℕ
    chosen = source_value names.scope source.environment e length signedness

    abbrev default : Running
    default = run_default names.scope arms source

    abbrev kept : List FlatArm
    kept = filter has_items found

    module _ (walked : (arms_walk names length signedness arms).end ≡ Ok found)
        (selected : value signals flat.0 selector ≡ chosen)
        (chained : (other : FlatStatement) (otherwise : Running)
        → AreSame names (run signals other flat) otherwise
        → AreSame names (run signals (chain selector kept other) flat)
        (run_arms names.scope length signedness chosen arms otherwise source)) where
      -- where the items are complete, some arm is taken
      complete_taken : is_complete names.scope e (arm_items arms) length signedness ≡ true →
          some_taken signals flat selector kept ≡ true
      complete_taken complete =
          any_taken flat source before length signedness selector chosen selected arms found walked
          ∙ complete_has_item names numbering.declared source.environment
          (bound_fits names signals numbering source.environment before.fits) e (arm_items arms)
          length signedness numbers
          (λ signed. (and_parts (signed_of names.scope e) (arms_signed names arms) signed).0)
          (omega arith) (arms_pass names length signedness arms found walked) complete

      chosen_same : (complete : Bool)
          → is_complete names.scope e (arm_items arms) length signedness ≡ complete
          → (o : Option FlatStatement) → IsDefault flat source o default
          → AreSame names (run signals (case_chain selector complete kept o) flat)
          (run_arms names.scope length signedness chosen arms default source)
      chosen_same complete is (Some other) d = chained other default d
      chosen_same false is None d =
          chained nothing default (subst (λ (end : Running). AreSame names flat end) d before)
      chosen_same true is None d =
          subst (λ (z : Environment ℕ × Updates).
          AreSame names z (run_arms names.scope length signedness chosen arms default source))
          (sym (closed_same signals flat selector kept (complete_taken is)))
          (chained nothing default (subst (λ (end : Running). AreSame names flat end) d before))

      -- the source takes the type of all items
      case_same : (p : Place) → IsDefault flat source (default_of found) default
          → AreSame names (run signals
          (case_chain selector (is_complete names.scope e (arm_items arms) length signedness) kept
          (default_of found)) flat)
          (source_run names.scope (case_of p e arms) source)
      unfolding source_run
      case_same p d =
          let f : FlatStatement =
          case_chain selector (is_complete names.scope e (arm_items arms) length signedness) kept
          (default_of found) in
          let type = arms_type names length signedness arms found walked in
          subst (λ k. AreSame names (run signals f flat)
          (run_arms names.scope k (case_signed names.scope e arms)
          (source_value names.scope source.environment e k (case_signed names.scope e arms)) arms
          default source))
          (ap (λ k. max (length_of names.scope e) k) type.0)
          (subst (λ b. AreSame names (run signals f flat) (run_arms names.scope length b
          (source_value names.scope source.environment e length b) arms default source))
          (ap (λ b. signed_of names.scope e && b) type.1)
          (chosen_same (is_complete names.scope e (arm_items arms) length signedness) refl
          (default_of found) d))

  -- both runs keep what is the same
  abbrev RunSame : FlatStatement → (Running → Running) → Type 0
  RunSame f run_source =
      (flat : Environment ℕ × Updates) (source : Running) → AreSame names flat source
      → AreSame names (run signals f flat) (run_source source)

  mutual
    unfolding source_run run_each run_arms run_default statement_walk statements_walk

    pub statement_same : (statement : StatementTree) (f : FlatStatement)
        → (statement_walk names statement).end ≡ Ok f → SelectorsFit statement
        → RunSame f (source_run names.scope statement)
    statement_same null f h fit flat source before =
        let is : nothing ≡ f = cc h in
        subst (λ (g : FlatStatement). AreSame names (run signals g flat) source) is before
    statement_same (assignment ts p blocking e) f h fit flat source before =
        assignment_same names signals numbering ts p blocking e f h flat source before
    statement_same (block ss) f h fit flat source before =
        statements_same ss f h fit flat source before
    statement_same (if_only p c a) f h fit flat source before =
        let parts = if_only_done names p c a f h in
        subst (λ (g : FlatStatement).
        AreSame names (run signals g flat) (source_run names.scope (if_only p c a) source)) parts.is
        (branch_same flat source before p c parts.condition parts.first nothing
        (source_run names.scope a source) source parts.condition_is
        (statement_same a parts.first parts.first_is fit flat source before) before)
    statement_same (if_else p c a b) f h fit flat source before =
        let other = if_else_done names p c a b f h in
        let parts = other.2 in
        subst (λ (g : FlatStatement).
        AreSame names (run signals g flat) (source_run names.scope (if_else p c a b) source))
        parts.is
        (branch_same flat source before p c parts.condition parts.first other.0
        (source_run names.scope a source) (source_run names.scope b source) parts.condition_is
        (statement_same a parts.first parts.first_is fit.0 flat source before)
        (statement_same b other.0 other.1 fit.1 flat source before))
    statement_same (case_of p e arms) f h fit flat source before =
        let n : ℕ = common_length names e arms in
        let s : Bool = common_signed names e arms in
        let first = parts_done (typed_walk names e n s) _ f h in
        let second = parts_done (arms_walk names n s arms) _ f first.2 in
        let v : ℕ = source_value names.scope source.environment e n s in
        let selected : value signals flat.0 first.0 ≡ v =
        typed_same names signals numbering.declared numbering.listed source.environment flat.0
        before.values e n s first.0 first.1 in
        let is : case_chain first.0 (is_complete names.scope e (arm_items arms) n s)
        (filter has_items second.0) (default_of second.0) ≡ f = cc second.2 in
        subst (λ (g : FlatStatement).
        AreSame names (run signals g flat)
        (source_run names.scope (case_of p e arms) source)) is
        (case_same flat source before e arms second.0 first.0 fit.0 second.1 selected
        (λ other otherwise last.
        chain_same n s arms second.0 second.1 fit.1 flat source before first.0 v selected other
        otherwise last)
        p (default_same n s arms second.0 second.1 fit.1 flat source before))

    statements_same : (ss : StatementTrees) (f : FlatStatement)
        → (statements_walk names ss).end ≡ Ok f → SelectorsFitIn ss
        → RunSame f (run_each names.scope ss)
    statements_same no_statements f h fit flat source before =
        let is : nothing ≡ f = cc h in
        subst (λ (g : FlatStatement). AreSame names (run signals g flat) source) is before
    statements_same (more_statements statement ss) f h fit flat source before =
        let first = parts_done (statement_walk names statement) _ f h in
        let second = parts_done (statements_walk names ss) _ f first.2 in
        let is : after first.0 second.0 ≡ f = cc second.2 in
        subst (λ (g : FlatStatement).
        AreSame names (run signals g flat)
        (run_each names.scope (more_statements statement ss) source)) is
        (statements_same ss second.0 second.1 fit.1 (run signals first.0 flat)
        (source_run names.scope statement source)
        (statement_same statement first.0 first.1 fit.0 flat source before))

    chain_same : (n : ℕ) (s : Bool) (arms : ArmTrees) (found : List FlatArm)
        → (arms_walk names n s arms).end ≡ Ok found → SelectorsFitBy arms
        → (flat : Environment ℕ × Updates) (source : Running) → AreSame names flat source
        → (selector : TypedTree) (v : ℕ) → value signals flat.0 selector ≡ v
        → (other : FlatStatement) (otherwise : Running)
        → AreSame names (run signals other flat) otherwise
        → AreSame names (run signals (chain selector (filter has_items found) other) flat)
        (run_arms names.scope n s v arms otherwise source)
    chain_same n s no_arms found h fit flat source before selector v selected other otherwise last =
        subst (λ (arms : List FlatArm).
        AreSame names (run signals (chain selector (filter has_items arms) other) flat)
        otherwise)
        (no_arm_found names n s found h) last
    chain_same n s (more_arms p [] body arms) found h fit flat source before selector v selected
        other otherwise last =
        let arm = arm_found names n s p [] body arms found h in
        subst (λ (arms_found : List FlatArm).
        AreSame names (run signals (chain selector (filter has_items arms_found) other) flat)
        (run_arms names.scope n s v (more_arms p [] body arms) otherwise source)) arm.is
        (chain_same n s arms arm.rest arm.rest_is fit.1 flat source before selector v selected other
        otherwise last)
    chain_same n s (more_arms p (e ∷ es) body arms) found h fit flat source before selector v
        selected other otherwise last =
        let arm = arm_found names n s p (e ∷ es) body arms found h in
        subst (λ (arms_found : List FlatArm).
        AreSame names (run signals (chain selector (filter has_items arms_found) other) flat)
        (run_arms names.scope n s v (more_arms p (e ∷ es) body arms) otherwise source)) arm.is
        (arm_same flat source before n s selector v selected p (e ∷ es) arm.first
        (chain selector (filter has_items arm.rest) other)
        (source_run names.scope body source) (run_arms names.scope n s v arms otherwise source)
        arm.items_pass
        (statement_same body arm.first arm.first_is fit.0 flat source before)
        (chain_same n s arms arm.rest arm.rest_is fit.1 flat source before selector v selected other
        otherwise last))

    default_same : (n : ℕ) (s : Bool) (arms : ArmTrees) (found : List FlatArm)
        → (arms_walk names n s arms).end ≡ Ok found → SelectorsFitBy arms
        → (flat : Environment ℕ × Updates) (source : Running) → AreSame names flat source
        → IsDefault flat source (default_of found) (run_default names.scope arms source)
    default_same n s no_arms found h fit flat source before =
        subst (λ (arms : List FlatArm).
        IsDefault flat source (default_of arms) source) (no_arm_found names n s found h) refl
    default_same n s (more_arms p [] body arms) found h fit flat source before =
        let arm = arm_found names n s p [] body arms found h in
        subst (λ (arms_found : List FlatArm).
        IsDefault flat source (default_of arms_found)
        (run_default names.scope (more_arms p [] body arms) source))
        arm.is (statement_same body arm.first arm.first_is fit.0 flat source before)
    default_same n s (more_arms p (e ∷ es) body arms) found h fit flat source before =
        let arm = arm_found names n s p (e ∷ es) body arms found h in
        subst (λ (arms_found : List FlatArm).
        IsDefault flat source (default_of arms_found)
        (run_default names.scope (more_arms p (e ∷ es) body arms) source))
        arm.is (default_same n s arms arm.rest arm.rest_is fit.1 flat source before)

  -- a run with nothing pending
  pub body_same : (statement : StatementTree) (f : FlatStatement)
      → (statement_walk names statement).end ≡ Ok f → SelectorsFit statement
      → (by_name : Environment (List ℕ)) (by_num : Environment ℕ) → HaveValues names by_name by_num
      → ValuesFit names.scope by_name
      → HaveValues names (source_run names.scope statement (record {
        environment = by_name;
        updates = [];
      })).environment (run_alone signals f by_num)
      × (updates_of signals f by_num ≡
      map (by_number names)
      (source_run names.scope statement (record {
        environment = by_name;
        updates = [];
      })).updates)
      × ValuesFit names.scope
      (source_run names.scope statement (record {
        environment = by_name;
        updates = [];
      })).environment
      × ((u : List ℕ × ℕ) → Contains
      (source_run names.scope statement (record {
        environment = by_name;
        updates = [];
      })).updates u
      → IsUpdate names.scope u)
  body_same statement f h fit by_name by_num values fits =
      let end = statement_same statement f h fit (by_num, []) (record {
        environment = by_name;
        updates = [];
      })
      (record {
        values = values;
        updates = refl;
        fits = fits;
        updates_fit = λ u none. absurd (Contains-nil u none);
      }) in
      (end.values, end.updates, end.fits, end.updates_fit)
