-- Chains of `if`, from the last arm to the first.
use Rattle.std.proofs.Common.{◌≡◌, ℕ, suc, ◌+◌, ◌<◌, Bool, true, false, cond, List, [], ◌∷◌, ◌++◌}
use Rattle.std.proofs.Common.{length, get_or, take, drop, Option, Some, None, refl, sym, ap, ◌∙◌}
use Rattle.std.proofs.Common.{subst, arith}
use Rattle.std.specs.Prelude.{not, ◌==◌, vec_len, filter, position, option_map, option_to_list}
use Rattle.std.specs.Prelude.{if◌then◌else◌}
use Rattle.std.specs.List.{position_from}
use Rattle.std.proofs.lemmas.Iterator.Adapters.{position_from-zero}
use Rattle.std.proofs.lemmas.Bool.{eqb-true}
use Rattle.sv_num.specs.declared.operators.BinOp.TheVariants.{LogicOr}
use Rattle.sv_ast.specs.Instances.{is_empty}
use Rattle.sv_flat.specs.Design.{TypedTree, typed, binary, FlatStatement, nothing}
use Rattle.sv_flat.specs.declared.expressions.FExpr.{FExpr}
use Rattle.sv_flat.specs.Views.{typed_trees, flat_statement}
use Rattle.sv_elab_rules.specs.CaseChains as walk
use Rattle.sv_elab_rules.specs.CaseChains.{equals, or_equals, arm_branch, chain, closed_chain, case_chain}
use Rattle.sv_elab_rules.specs.CaseChains.{default_of}
use Rattle.sv_elab_stmt.specs.declared.chains.FlatArm.{FlatArm}
use Rattle.sv_elab_stmt.specs.Chains.{flat_arm, flat_arms, has_items, either, condition_of, otherwise_of}

-- ---- conditions

or_push : (s before : TypedTree) (es : List TypedTree) (e : TypedTree)
    → or_equals s before (es ++ e ∷ []) ≡
    typed 1 false (binary LogicOr (or_equals s before es) (equals s e))
or_push s before [] e = refl
or_push s before (x ∷ xs) e = or_push s (typed 1 false (binary LogicOr before (equals s x))) xs e

pub condition_push : (s : TypedTree) (es : List TypedTree) (e : TypedTree)
    → condition_of s (es ++ e ∷ []) ≡ Some (either (condition_of s es) (equals s e))
condition_push s [] e = refl
condition_push s (x ∷ xs) e = ap Some (or_push s (equals s x) xs e)

-- ---- chains

pub chain_push : (s : TypedTree) (xs : List walk.FlatArm) (x : walk.FlatArm) (o : FlatStatement)
    → chain s (xs ++ x ∷ []) o ≡ chain s xs (arm_branch s x.place x.items x.body o)
chain_push s [] x o = refl
chain_push s (a ∷ later) x o = ap (arm_branch s a.place a.items a.body) (chain_push s later x o)

pub closed_push : (s : TypedTree) (xs : List walk.FlatArm) (x : walk.FlatArm)
    → closed_chain s (xs ++ x ∷ []) ≡ chain s xs x.body
closed_push s [] x = refl
closed_push s (a ∷ []) x = refl
closed_push s (a ∷ b ∷ bs) x = ap (arm_branch s a.place a.items a.body) (closed_push s (b ∷ bs) x)

empty_is : {X : Type 0} (xs : List X) → is_empty xs ≡ true → xs ≡ []
empty_is [] h = refl
empty_is (x ∷ xs) h = absurd (cc h)

-- an arm without items leaves the rest alone
left_out : (s : TypedTree) (a : walk.FlatArm) (o : FlatStatement) → is_empty a.items ≡ true
    → arm_branch s a.place a.items a.body o ≡ o
left_out s a o h = ap (λ es. arm_branch s a.place es a.body o) (empty_is a.items h)

pub chain_kept : (s : TypedTree) (xs : List walk.FlatArm) (o : FlatStatement)
    → chain s (filter has_items xs) o ≡ chain s xs o
chain_kept s [] o = refl
chain_kept s (a ∷ later) o = by (is_empty a.items) refl (chain_kept s later o)
  where
    by : (b : Bool) → is_empty a.items ≡ b → chain s (filter has_items later) o ≡ chain s later o
        → chain s (cond (not b) (a ∷ filter has_items later) (filter has_items later)) o
        ≡ arm_branch s a.place a.items a.body (chain s later o)
    by true h rest = rest ∙ sym (left_out s a (chain s later o) h)
    by false h rest = ap (arm_branch s a.place a.items a.body) rest

-- ---- defaults

abbrev pub is_default : FlatArm → Bool
is_default arm = vec_len arm.items == 0

empty_list : (n : ℕ) (es : List FExpr) → n ≡ length es → is_empty (typed_trees es) ≡ (n == 0)
empty_list n [] h = sym (ap (λ k. k == 0) h)
empty_list n (e ∷ es) h = by (n == 0) refl
  where
    by : (b : Bool) → (n == 0) ≡ b → false ≡ b
    by true e = absurd (omega (arith, eqb-true n 0 e, h))
    by false e = refl

-- an arm is a default where it has no items
default_is : (a : FlatArm) → is_empty (flat_arm a).items ≡ is_default a
default_is a = empty_list (vec_len a.items) a.items.items a.items.ok.0

-- no default
no_default_from : (xs : List FlatArm) (i : ℕ) → position_from is_default i xs ≡ None
    → (default_of (flat_arms xs) ≡ None) × (filter has_items (flat_arms xs) ≡ flat_arms xs)
no_default_from [] i h = (refl, refl)
no_default_from (a ∷ later) i h = by (is_default a) (default_is a) h (no_default_from later (i + 1))
  where
    by : (b : Bool) → is_empty (flat_arm a).items ≡ b
        → cond b (Some i) (position_from is_default (i + 1) later) ≡ None
        → (position_from is_default (i + 1) later ≡ None
        → (default_of (flat_arms later) ≡ None)
        × (filter has_items (flat_arms later) ≡ flat_arms later))
        → (default_of (flat_arms (a ∷ later)) ≡ None)
        × (filter has_items (flat_arms (a ∷ later)) ≡ flat_arms (a ∷ later))
    by true e h more = absurd (cc h)
    by false e h more =
        let rest = more h in (
          ap (λ b. if b then Some (flat_statement a.body) else default_of (flat_arms later)) e
              ∙ rest.0,
          ap (λ b. cond (not b) (flat_arm a ∷ filter has_items (flat_arms later))
              (filter has_items (flat_arms later))) e
              ∙ ap (λ ys. flat_arm a ∷ ys) rest.1,
        )

no_default : (xs : List FlatArm) → position is_default xs ≡ None
    → (default_of (flat_arms xs) ≡ None) × (filter has_items (flat_arms xs) ≡ flat_arms xs)
no_default xs h = no_default_from xs 0 (sym (position_from-zero is_default xs) ∙ h)

-- a default at a place
abbrev StandsAt : List FlatArm → ℕ → Type 0
StandsAt xs j =
    (j < length xs)
    × ((d : FlatArm) → default_of (flat_arms xs) ≡ Some (flat_statement (get_or xs j d).body))
    × ((s : TypedTree) (o : FlatStatement) →
    chain s (flat_arms (take j xs ++ drop (j + 1) xs)) o ≡ chain s (flat_arms xs) o)

one_default_from : (xs : List FlatArm) (i k : ℕ) → position_from is_default i xs ≡ Some k
    → (j : ℕ) × (k ≡ i + j) × StandsAt xs j
one_default_from [] i k h = absurd (cc h)
one_default_from (a ∷ later) i k h =
    by (is_default a) (default_is a) h (one_default_from later (i + 1) k)
  where
    by : (b : Bool) → is_empty (flat_arm a).items ≡ b
        → cond b (Some i) (position_from is_default (i + 1) later) ≡ Some k
        → (position_from is_default (i + 1) later ≡ Some k
        → (j : ℕ) × (k ≡ i + 1 + j) × StandsAt later j)
        → (j : ℕ) × (k ≡ i + j) × StandsAt (a ∷ later) j
    by true e h more =
        let here : i ≡ k = cc h in (
          0,
          omega arith,
          (
            omega arith,
            λ d. ap (λ b. if b then Some (flat_statement a.body)
                else default_of (flat_arms later)) e,
            λ s o. sym (left_out s (flat_arm a) (chain s (flat_arms later) o) e),
          ),
        )
    by false e h more =
        let rest = more h in
        let j : ℕ = rest.0 in
        let next : suc j + 1 ≡ suc (j + 1) = omega arith in (
          suc j,
          omega (arith, rest.1),
          (
            omega (arith, rest.2.0),
            λ d. ap (λ b. if b then Some (flat_statement a.body) else default_of (flat_arms later))
                e ∙ rest.2.1 d,
            λ s o. ap (λ m. chain s (flat_arms (a ∷ (take j later ++ drop m (a ∷ later)))) o) next
                ∙ ap (arm_branch s a.place (typed_trees a.items.items) (flat_statement a.body))
                (rest.2.2 s o),
          ),
        )

one_default : (xs : List FlatArm) (k : ℕ) → position is_default xs ≡ Some k → StandsAt xs k
one_default xs k h =
    let found = one_default_from xs 0 k (sym (position_from-zero is_default xs) ∙ h) in
    let same : found.0 ≡ k = omega (arith, found.1) in
    subst (StandsAt xs) same found.2

-- ---- the arm that is taken where no other one is

pub default_taken : (s : TypedTree) (complete : Bool) (xs ys : List FlatArm) (k : ℕ) (x : FlatArm)
    → position is_default xs ≡ Some k → x ≡ get_or xs k x → ys ≡ take k xs ++ drop (k + 1) xs
    → chain s (flat_arms ys) (flat_statement x.body)
    ≡ case_chain s complete (filter has_items (flat_arms xs)) (default_of (flat_arms xs))
default_taken s complete xs ys k x h is left =
    let stands = one_default xs k h in
    let body : Some (flat_statement x.body) ≡ default_of (flat_arms xs) =
    ap (λ (a : FlatArm). Some (flat_statement a.body)) is ∙ sym (stands.1 x) in
    ap (λ zs. chain s (flat_arms zs) (flat_statement x.body)) left
    ∙ stands.2 s (flat_statement x.body)
    ∙ sym (chain_kept s (flat_arms xs) (flat_statement x.body))
    ∙ ap (case_chain s complete (filter has_items (flat_arms xs))) body

flat_push : (xs : List FlatArm) (x : FlatArm) →
    flat_arms (xs ++ x ∷ []) ≡ flat_arms xs ++ flat_arm x ∷ []
flat_push [] x = refl
flat_push (a ∷ later) x = ap (λ ys. flat_arm a ∷ ys) (flat_push later x)

pub last_taken : (s : TypedTree) (xs ys : List FlatArm) (r : Option FlatArm)
    → position is_default xs ≡ None
    → xs ≡ ys ++ option_to_list r → (r ≡ None → xs ≡ [])
    → chain s (flat_arms ys) (otherwise_of (option_map flat_arm r))
    ≡ case_chain s true (filter has_items (flat_arms xs)) (default_of (flat_arms xs))
last_taken s xs ys (Some x) h is none =
    let all = no_default xs h in
    sym (closed_push s (flat_arms ys) (flat_arm x))
    ∙ ap (closed_chain s) (sym (flat_push ys x) ∙ ap flat_arms (sym is) ∙ sym all.1)
    ∙ ap (case_chain s true (filter has_items (flat_arms xs))) (sym all.0)
last_taken s xs ys None h is none =
    let all = no_default xs h in
    let empty = none refl in
    ap (λ zs. chain s (flat_arms zs) nothing) (nil_left ys (sym is ∙ empty))
    ∙ ap (λ zs. closed_chain s (flat_arms zs)) (sym empty)
    ∙ ap (closed_chain s) (sym all.1)
    ∙ ap (case_chain s true (filter has_items (flat_arms xs))) (sym all.0)
  where
    nil_left : (zs : List FlatArm) → zs ++ [] ≡ [] → zs ≡ []
    nil_left [] e = refl
    nil_left (z ∷ zs) e = absurd (cc e)

pub none_taken : (s : TypedTree) (xs : List FlatArm) → position is_default xs ≡ None
    → chain s (flat_arms xs) nothing
    ≡ case_chain s false (filter has_items (flat_arms xs)) (default_of (flat_arms xs))
none_taken s xs h =
    sym (chain_kept s (flat_arms xs) nothing)
    ∙ ap (case_chain s false (filter has_items (flat_arms xs))) (sym (no_default xs h).0)
