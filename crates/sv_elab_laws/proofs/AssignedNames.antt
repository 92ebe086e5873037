-- The flat form of a statement assigns the numbers of the names that the statement assigns.
use Rattle.std.proofs.Common.{◌≡◌, ℕ, ◌+◌, ◌≤◌, Bool, true, false, cond, List, [], ◌∷◌, ◌++◌, map}
use Rattle.std.proofs.Common.{⊎_elim, refl, sym, ap, subst, ◌∙◌, arith}
use Rattle.std.specs.Prelude.{◌==◌, not, ◌&&◌, ◌||◌, nat_le, Option, Some, None, Contains, IsTrue}
use Rattle.std.specs.Prelude.{Ok}
use Rattle.std.specs.List.{list_any, list_all, filter}
use Rattle.std.specs.Str.{bytes_eq}
use Rattle.std.proofs.lemmas.Bool.{and_parts, eqb-true, leb-true}
use Rattle.std.proofs.lemmas.List.Folds.{list_any-append}
use Rattle.std.proofs.lemmas.List.Elements.{Contains-append_cases}
use Rattle.sv_num.specs.declared.faults.Place.{Place}
use Rattle.sv_system.proofs.Lists.{Contains-head, Contains-later, Contains-cases, Contains-nil}
use Rattle.sv_ast.specs.Tree.{ExpressionTree, TargetTree, StatementTree, null, assignment, block}
use Rattle.sv_ast.specs.Tree.{if_only, if_else, case_of, StatementTrees, no_statements}
use Rattle.sv_ast.specs.Tree.{more_statements, ArmTrees, no_arms, more_arms}
use Rattle.sv_ast.specs.Shape.{is_shaped_expression, is_shaped_statement, are_shaped_statements}
use Rattle.sv_ast.specs.Shape.{has_arm, default_count, are_shaped_arms}
use Rattle.sv_ast.specs.Instances.{is_empty, is_signal}
use Rattle.sv_ast.specs.Reach.{holds}
use Rattle.sv_ast.specs.Runs.{targets_width, assigned, assigned_in, assigned_by}
use Rattle.sv_flat.specs.Design.{SignalForm, TypedTree, PieceForm, FlatStatement, nothing, after}
use Rattle.sv_flat.specs.Design.{assign}
use Rattle.sv_flat.specs.Assigned.{assigns}
use Rattle.sv_flat.proofs.LeastSets.{from_some}
use Rattle.sv_elab_rules.specs.Names.{Names}
use Rattle.sv_elab_rules.specs.ExpressionSteps.{typed_walk, expression_walk}
use Rattle.sv_elab_rules.specs.Targets.{pieces_of, targets_steps, assignment_walk}
use Rattle.sv_elab_rules.specs.CaseChains.{FlatArm, arm_items, common_length, common_signed, arm_branch}
use Rattle.sv_elab_rules.specs.CaseChains.{chain, closed_chain, default_of, case_chain, is_complete}
use Rattle.sv_elab_rules.specs.Statements.{statement_walk, statements_walk, arms_walk}
use Rattle.sv_elab_rules.proofs.WalkLemmas.{parts_done, if_only_done, if_else_done}
use Rattle.sv_width.proofs.Lengths.{three_parts}
use Rattle.sv_elab_laws.specs.Numbering.{IsNumbering}
use Rattle.sv_elab_laws.proofs.Targets.{AreTargets, targets_found}
use Rattle.sv_elab_laws.proofs.SameUpdates.{same_test}
use Rattle.sv_elab_laws.proofs.CaseArms.{arm_found, no_arm_found, turned, or_assoc, or_none}
use Rattle.sv_elab_laws.proofs.StatementsSame.{has_items}

or_turned : (a b : Bool) → (a || b) ≡ (b || a)
or_turned true true = refl
or_turned true false = refl
or_turned false true = refl
or_turned false false = refl

-- ---- what a chain assigns

-- some arm's statement assigns the signal
abbrev arm_assigns : ℕ → FlatArm → Bool
arm_assigns k arm = assigns arm.body k

abbrev some_assigns : ℕ → List FlatArm → Bool
some_assigns k arms = list_any (arm_assigns k) arms

-- each arm has items
abbrev all_have : List FlatArm → Type 0
all_have [] = Unit {0}
all_have (arm ∷ arms) = IsTrue (has_items arm) × all_have arms

branch_assigns : (k : ℕ) (selector : TypedTree) (p : Place) (items : List TypedTree)
    (body rest : FlatStatement) → IsTrue (not (is_empty items))
    → assigns (arm_branch selector p items body rest) k ≡ (assigns body k || assigns rest k)
branch_assigns k selector p [] body rest h = absurd (cc h)
branch_assigns k selector p (t ∷ ts) body rest h = refl

chain_assigns : (k : ℕ) (selector : TypedTree) (arms : List FlatArm) (other : FlatStatement)
    → all_have arms
    → assigns (chain selector arms other) k ≡ (some_assigns k arms || assigns other k)
chain_assigns k selector [] other h = refl
chain_assigns k selector (arm ∷ arms) other h =
    branch_assigns k selector arm.place arm.items arm.body (chain selector arms other) h.0
    ∙ ap (λ b. assigns arm.body k || b) (chain_assigns k selector arms other h.1)
    ∙ sym (or_assoc (assigns arm.body k) (some_assigns k arms) (assigns other k))

closed_assigns : (k : ℕ) (selector : TypedTree) (arms : List FlatArm) → all_have arms
    → assigns (closed_chain selector arms) k ≡ some_assigns k arms
closed_assigns k selector [] h = refl
closed_assigns k selector (arm ∷ []) h = sym (or_none (assigns arm.body k))
closed_assigns k selector (arm ∷ next ∷ arms) h =
    branch_assigns k selector arm.place arm.items arm.body (closed_chain selector (next ∷ arms)) h.0
    ∙ ap (λ b. assigns arm.body k || b) (closed_assigns k selector (next ∷ arms) h.1)

-- what the default assigns
abbrev default_assigns : ℕ → Option FlatStatement → Bool
default_assigns k (Some f) = assigns f k
default_assigns k None = false

case_assigns : (k : ℕ) (selector : TypedTree) (complete : Bool) (arms : List FlatArm)
    (o : Option FlatStatement) → all_have arms
    → assigns (case_chain selector complete arms o) k ≡ (some_assigns k arms || default_assigns k o)
case_assigns k selector complete arms (Some f) h = chain_assigns k selector arms f h
case_assigns k selector true arms None h =
    closed_assigns k selector arms h ∙ sym (or_none (some_assigns k arms))
case_assigns k selector false arms None h = chain_assigns k selector arms nothing h

-- ---- arms with items, and the default

either_has : (b : Bool) (arm : FlatArm) (arms : List FlatArm) → has_items arm ≡ b → all_have arms →
    all_have (cond b (arm ∷ arms) arms)
either_has true arm arms is rest = (is, rest)
either_has false arm arms is rest = rest

kept_have : (arms : List FlatArm) → all_have (filter has_items arms)
kept_have [] = tt
kept_have (arm ∷ arms) =
    either_has (has_items arm) arm (filter has_items arms) refl (kept_have arms)

-- without a default
no_default : (names : Names) (n : ℕ) (s : Bool) (k : ℕ) (arms : ArmTrees) (found : List FlatArm)
    → (arms_walk names n s arms).end ≡ Ok found
    → default_count arms ≡ 0 → default_assigns k (default_of found) ≡ false
no_default names n s k no_arms found h none =
    ap (λ (xs : List FlatArm).
    default_assigns k (default_of xs)) (sym (no_arm_found names n s found h))
no_default names n s k (more_arms p [] body arms) found h none = absurd (some none)
  where
    some : default_count arms + 1 ≡ 0 → ⊥
    some e = omega (arith, e)
no_default names n s k (more_arms p (e ∷ es) body arms) found h none =
    let arm = arm_found names n s p (e ∷ es) body arms found h in
    ap (λ (xs : List FlatArm). default_assigns k (default_of xs)) (sym arm.is)
    ∙ no_default names n s k arms arm.rest arm.rest_is none

no_more : (n : ℕ) → n + 1 ≤ 1 → n ≡ 0
no_more n h = omega arith

module _ (names : Names) where
  -- some name has the number
  abbrev numbers_one : ℕ → List (List ℕ) → Bool
  numbers_one k ns = list_any (λ (n : List ℕ). names.number n == k) ns

  pieces_assign : (k : ℕ) (ts : List TargetTree)
      → list_any (λ (piece : PieceForm). piece.signal == k) (pieces_of names ts) ≡
      numbers_one k (map (λ (t : TargetTree). t.name) ts)
  pieces_assign k [] = refl
  pieces_assign k (t ∷ ts) = ap (λ b. (names.number t.name == k) || b) (pieces_assign k ts)

  pub assignment_assigns :
      (ts : List TargetTree) (p : Place) (blocking : Bool) (e : ExpressionTree) (f : FlatStatement)
      → (assignment_walk names ts p blocking e).end ≡ Ok f → (k : ℕ)
      → assigns f k ≡ numbers_one k (map (λ (t : TargetTree). t.name) ts)
  unfolding assignment_walk
  assignment_assigns ts p blocking e f h k =
      let first = parts_done (targets_steps names ts p) _ f h in
      let second = parts_done (expression_walk names e (targets_width names.scope ts)) _ f
      first.2 in
      let is : assign (pieces_of names ts) p blocking second.0 ≡ f = cc second.2 in
      ap (λ (g : FlatStatement). assigns g k) (sym is) ∙ pieces_assign k ts

  appended : (k : ℕ) (b c : Bool) (xs ys : List (List ℕ)) → b ≡ numbers_one k xs →
      c ≡ numbers_one k ys → (b || c) ≡ numbers_one k (xs ++ ys)
  appended k b c xs ys p q =
      ap (λ d. d || c) p ∙ ap (λ d. numbers_one k xs || d) q
      ∙ sym (list_any-append (λ (n : List ℕ). names.number n == k) xs ys)

  -- the default counts as an arm
  default_last : (a b c : Bool) → c ≡ false → (b || a) ≡ (a || (b || c))
  default_last a b c none =
      or_turned b a ∙ ap (λ d. a || d) (sym (ap (λ d. b || d) none ∙ or_none b))

  mutual
    unfolding statement_walk statements_walk

    pub assigned_same : (statement : StatementTree) (f : FlatStatement)
        → (statement_walk names statement).end ≡ Ok f
        → IsTrue (is_shaped_statement statement) → (k : ℕ)
        → assigns f k ≡ numbers_one k (assigned statement)
    assigned_same null f h shape k =
        let is : nothing ≡ f = cc h in
        ap (λ (g : FlatStatement). assigns g k) (sym is)
    assigned_same (assignment ts p blocking e) f h shape k =
        assignment_assigns ts p blocking e f h k
    assigned_same (block ss) f h shape k = assigned_in_same ss f h shape k
    assigned_same (if_only p c a) f h shape k =
        let shapes = and_parts (is_shaped_expression c) (is_shaped_statement a) shape in
        let parts = if_only_done names p c a f h in
        ap (λ (g : FlatStatement). assigns g k) (sym parts.is) ∙ or_none (assigns parts.first k)
        ∙ assigned_same a parts.first parts.first_is shapes.1 k
    assigned_same (if_else p c a b) f h shape k =
        let shapes = three_parts (is_shaped_expression c) (is_shaped_statement a)
        (is_shaped_statement b) shape in
        let other = if_else_done names p c a b f h in
        let parts = other.2 in
        ap (λ (g : FlatStatement). assigns g k) (sym parts.is)
        ∙ appended k (assigns parts.first k) (assigns other.0 k) (assigned a) (assigned b)
        (assigned_same a parts.first parts.first_is shapes.1 k)
        (assigned_same b other.0 other.1 shapes.2 k)
    assigned_same (case_of p e arms) f h shape k =
        let n : ℕ = common_length names e arms in
        let s : Bool = common_signed names e arms in
        let outer = and_parts (is_shaped_expression e && has_arm arms
        && nat_le (default_count arms) 1) (are_shaped_arms arms) shape in
        let inner = and_parts (is_shaped_expression e && has_arm arms)
        (nat_le (default_count arms) 1) outer.0 in
        let first = parts_done (typed_walk names e n s) _ f h in
        let second = parts_done (arms_walk names n s arms) _ f first.2 in
        let complete : Bool = is_complete names.scope e (arm_items arms) n s in
        let is : case_chain first.0 complete (filter has_items second.0) (default_of second.0) ≡ f =
        cc second.2 in
        ap (λ (g : FlatStatement). assigns g k) (sym is)
        ∙ case_assigns k first.0 complete (filter has_items second.0) (default_of second.0)
        (kept_have second.0)
        ∙ assigned_by_same n s arms second.0 second.1 (leb-true (default_count arms) 1 inner.1)
        outer.1 k

    assigned_in_same : (ss : StatementTrees) (f : FlatStatement)
        → (statements_walk names ss).end ≡ Ok f
        → IsTrue (are_shaped_statements ss) → (k : ℕ) → assigns f k ≡ numbers_one k (assigned_in ss)
    assigned_in_same no_statements f h shape k =
        let is : nothing ≡ f = cc h in
        ap (λ (g : FlatStatement). assigns g k) (sym is)
    assigned_in_same (more_statements statement ss) f h shape k =
        let shapes = and_parts (is_shaped_statement statement) (are_shaped_statements ss) shape in
        let first = parts_done (statement_walk names statement) _ f h in
        let second = parts_done (statements_walk names ss) _ f first.2 in
        let is : after first.0 second.0 ≡ f = cc second.2 in
        ap (λ (g : FlatStatement). assigns g k) (sym is)
        ∙ appended k (assigns first.0 k) (assigns second.0 k) (assigned statement) (assigned_in ss)
        (assigned_same statement first.0 first.1 shapes.0 k)
        (assigned_in_same ss second.0 second.1 shapes.1 k)

    assigned_by_same : (n : ℕ) (s : Bool) (arms : ArmTrees) (found : List FlatArm)
        → (arms_walk names n s arms).end ≡ Ok found
        → default_count arms ≤ 1 → IsTrue (are_shaped_arms arms) → (k : ℕ)
        → (some_assigns k (filter has_items found) || default_assigns k (default_of found)) ≡
        numbers_one k (assigned_by arms)
    assigned_by_same n s no_arms found h few shape k =
        ap (λ (xs : List FlatArm).
        some_assigns k (filter has_items xs)
        || default_assigns k (default_of xs)) (sym (no_arm_found names n s found h))
    assigned_by_same n s (more_arms p [] body arms) found h few shape k =
        let shapes = and_parts (is_shaped_statement body) (are_shaped_arms arms) shape in
        let arm = arm_found names n s p [] body arms found h in
        let none : default_count arms ≡ 0 = no_more (default_count arms) few in
        ap (λ (xs : List FlatArm).
        some_assigns k (filter has_items xs) || default_assigns k (default_of xs)) (sym arm.is)
        ∙ default_last (assigns arm.first k) (some_assigns k (filter has_items arm.rest))
        (default_assigns k (default_of arm.rest))
        (no_default names n s k arms arm.rest arm.rest_is none)
        ∙ appended k (assigns arm.first k) (some_assigns k (filter has_items arm.rest)
        || default_assigns k (default_of arm.rest))
        (assigned body) (assigned_by arms)
        (assigned_same body arm.first arm.first_is shapes.0 k)
        (assigned_by_same n s arms arm.rest arm.rest_is (omega (arith, none)) shapes.1 k)
    assigned_by_same n s (more_arms p (e ∷ es) body arms) found h few shape k =
        let shapes = three_parts (list_all is_shaped_expression (e ∷ es)) (is_shaped_statement body)
        (are_shaped_arms arms) shape in
        let arm = arm_found names n s p (e ∷ es) body arms found h in
        ap (λ (xs : List FlatArm).
        some_assigns k (filter has_items xs) || default_assigns k (default_of xs)) (sym arm.is)
        ∙ or_assoc (assigns arm.first k) (some_assigns k (filter has_items arm.rest))
        (default_assigns k (default_of arm.rest))
        ∙ appended k (assigns arm.first k) (some_assigns k (filter has_items arm.rest)
        || default_assigns k (default_of arm.rest))
        (assigned body) (assigned_by arms)
        (assigned_same body arm.first arm.first_is shapes.1 k)
        (assigned_by_same n s arms arm.rest arm.rest_is few shapes.2 k)

  -- ---- assigned names are signals

  abbrev AreSignals : List (List ℕ) → Type 0
  AreSignals ns = (n : List ℕ) → Contains ns n → IsTrue (is_signal (names.scope n))

  both_signals : (xs ys : List (List ℕ)) → AreSignals xs → AreSignals ys → AreSignals (xs ++ ys)
  both_signals xs ys p q n at = ⊎_elim (p n) (q n) (Contains-append_cases xs ys n at)

  targets_signals : (ts : List TargetTree) → AreTargets names.scope ts →
      AreSignals (map (λ (t : TargetTree). t.name) ts)
  targets_signals [] targets n at = absurd (Contains-nil n at)
  targets_signals (t ∷ ts) targets n at = ⊎_elim
      (λ is. subst (λ m. IsTrue (is_signal (names.scope m))) is targets.0.0)
      (λ later. targets_signals ts targets.1 n later)
      (Contains-cases t.name (map (λ (u : TargetTree). u.name) ts) n at)

  pub assignment_signals :
      (ts : List TargetTree) (p : Place) (blocking : Bool) (e : ExpressionTree) (f : FlatStatement)
      → (assignment_walk names ts p blocking e).end ≡ Ok f
      → AreSignals (map (λ (t : TargetTree). t.name) ts)
  unfolding assignment_walk
  assignment_signals ts p blocking e f h =
      let first = parts_done (targets_steps names ts p) _ f h in
      targets_signals ts (targets_found names ts p first.1)

  mutual
    unfolding statement_walk statements_walk

    pub assigned_are_signals : (statement : StatementTree) (f : FlatStatement)
        → (statement_walk names statement).end ≡ Ok f
        → AreSignals (assigned statement)
    assigned_are_signals null f h n at = absurd (Contains-nil n at)
    assigned_are_signals (assignment ts p blocking e) f h n at =
        assignment_signals ts p blocking e f h n at
    assigned_are_signals (block ss) f h n at = assigned_in_signals ss f h n at
    assigned_are_signals (if_only p c a) f h n at =
        let parts = if_only_done names p c a f h in
        assigned_are_signals a parts.first parts.first_is n at
    assigned_are_signals (if_else p c a b) f h n at =
        let other = if_else_done names p c a b f h in
        let parts = other.2 in
        both_signals (assigned a) (assigned b)
        (assigned_are_signals a parts.first parts.first_is)
        (assigned_are_signals b other.0 other.1) n at
    assigned_are_signals (case_of p e arms) f h n at =
        let first = parts_done
        (typed_walk names e (common_length names e arms) (common_signed names e arms)) _ f h in
        let second = parts_done
        (arms_walk names (common_length names e arms) (common_signed names e arms) arms) _ f
        first.2 in
        assigned_by_signals (common_length names e arms) (common_signed names e arms) arms second.0
        second.1 n at

    assigned_in_signals : (ss : StatementTrees) (f : FlatStatement) →
        (statements_walk names ss).end ≡ Ok f → AreSignals (assigned_in ss)
    assigned_in_signals no_statements f h n at = absurd (Contains-nil n at)
    assigned_in_signals (more_statements statement ss) f h n at =
        let first = parts_done (statement_walk names statement) _ f h in
        let second = parts_done (statements_walk names ss) _ f first.2 in
        both_signals (assigned statement) (assigned_in ss)
        (assigned_are_signals statement first.0 first.1)
        (assigned_in_signals ss second.0 second.1) n at

    assigned_by_signals : (n : ℕ) (s : Bool) (arms : ArmTrees) (found : List FlatArm)
        → (arms_walk names n s arms).end ≡ Ok found
        → AreSignals (assigned_by arms)
    assigned_by_signals n s no_arms found h m at = absurd (Contains-nil m at)
    assigned_by_signals n s (more_arms p items body arms) found h m at =
        let arm = arm_found names n s p items body arms found h in
        both_signals (assigned body) (assigned_by arms)
        (assigned_are_signals body arm.first arm.first_is)
        (assigned_by_signals n s arms arm.rest arm.rest_is) m at

module _ (names : Names) where
  -- what the flat form of a statement assigns is the number of a name that the statement assigns
  pub assigned_name : (s : StatementTree) (f : FlatStatement)
      → (statement_walk names s).end ≡ Ok f → IsTrue (is_shaped_statement s) → (k : ℕ)
      → assigns f k ≡ true
      → (n : List ℕ) × Contains (assigned s) n × IsTrue (is_signal (names.scope n))
      × (names.number n ≡ k)
  assigned_name s f walked shaped k h =
      let n = from_some (λ (m : List ℕ).
      names.number m == k) (assigned s)
      (sym (assigned_same names s f walked shaped k) ∙ h) in (
        n.0,
        n.1,
        assigned_are_signals names s f walked n.0 n.1,
        eqb-true (names.number n.0) k n.2,
      )

-- ---- by names

module _ (names : Names) (signals : List SignalForm) (numbering : IsNumbering names signals) where
  -- numbers of names are found where the names are
  pub numbers_held : (n : List ℕ) → IsTrue (is_signal (names.scope n)) → (ns : List (List ℕ))
      → AreSignals names ns
      → numbers_one names (names.number n) ns ≡ holds bytes_eq ns n
  numbers_held n there [] each = refl
  numbers_held n there (m ∷ ns) each =
      ap (λ b. b || numbers_one names (names.number n) ns)
      (turned (names.number m) (names.number n)
      ∙ same_test names signals numbering n m there (each m (Contains-head m ns)))
      ∙ ap (λ b. bytes_eq n m || b) (numbers_held n there ns (λ k at.
      each k (Contains-later m ns k at)))

  pub assigned_by_name : (statement : StatementTree) (f : FlatStatement)
      → (statement_walk names statement).end ≡ Ok f
      → IsTrue (is_shaped_statement statement) → (n : List ℕ) → IsTrue (is_signal (names.scope n))
      → assigns f (names.number n) ≡ holds bytes_eq (assigned statement) n
  assigned_by_name statement f h shape n there =
      assigned_same names statement f h shape (names.number n)
      ∙ numbers_held n there (assigned statement) (assigned_are_signals names statement f h)
