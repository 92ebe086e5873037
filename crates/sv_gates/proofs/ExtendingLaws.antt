-- How formulas that grow are put together.
use Rattle.std.proofs.Common.{◌≡◌, ℕ, suc, ◌≤◌, nat_eq, Bool, true, false, ℤ, List, [], ◌∷◌}
use Rattle.std.proofs.Common.{◌++◌, length, take, drop, All, if◌then◌else◌, refl, sym, ap, ◌∙◌, subst}
use Rattle.std.proofs.Common.{⊎_elim, arith, pos, unsigned_abs, lit≤}
use Rattle.std.specs.Ordering.{int_eq}
use Rattle.std.proofs.lemmas.Bool.{and_parts, cond-true, cond-false, eq-eqb, ne_eqb, or_cases}
use Rattle.std.proofs.lemmas.Bool.{false≢true}
use Rattle.std.proofs.lemmas.List.{take-append-drop, append-nil, append_assoc}
use Rattle.std.proofs.lemmas.List.Elements.{All-weaker, All-cons, All-nil}
use Rattle.std.proofs.lemmas.List.Folds.{list_all-append}
use Rattle.std.proofs.Math.Seq.{take-append_seam}
use Rattle.sv_clause.specs.Literals.{clause_true}
use Rattle.sv_clause.proofs.Standing.{same_from_int_eq}
use Rattle.sv_gates.specs.Formulas.{Formula, meets, IsWithin, IsClosed}
use Rattle.sv_gates.specs.Gates.{fresh_variable, start}
use Rattle.sv_gates.specs.Extending.{AgreeUpTo, cut_back, Begins, Extends, Makes, ExtendsFreely}
use Rattle.sv_gates.proofs.Valuations.{meets_agrees}

-- a list that begins with another is that one and what follows
pub front_and_rest : {X : Type 0} (xs ys : List X) → take (length xs) ys ≡ xs →
    ys ≡ xs ++ drop (length xs) ys
front_and_rest xs ys e =
    sym (take-append-drop (length xs) ys) ∙ ap (λ z. z ++ drop (length xs) ys) e

pub front_from : {X : Type 0} (xs ys more : List X) → ys ≡ xs ++ more → take (length xs) ys ≡ xs
front_from xs ys more e = ap (take (length xs)) e ∙ take-append_seam xs more

pub begins_none : (old : Formula) → Begins old old
begins_none old = record {
  grows = omega arith;
  front = front_from old.clauses old.clauses [] (sym (append-nil old.clauses));
}

pub begins_trans : (first second third : Formula) → Begins first second → Begins second third →
    Begins first third
begins_trans first second third p q = record {
  grows = omega arith;
  front = front_from first.clauses third.clauses
      (drop (length first.clauses) second.clauses ++ drop (length second.clauses) third.clauses)
      (front_and_rest second.clauses third.clauses q.front
      ∙ ap (λ z. z ++ drop (length second.clauses) third.clauses)
      (front_and_rest first.clauses second.clauses p.front)
      ∙ append_assoc first.clauses (drop (length first.clauses) second.clauses)
      (drop (length second.clauses) third.clauses));
}

-- a formula that begins with another, cut back to that one, is that one
pub cut_back-begins : (old new : Formula) → Begins old new →
    cut_back old.variables (length old.clauses) new ≡ old
cut_back-begins old new b =
    ap (λ (z : List (List ℤ)). record { variables = old.variables; clauses = z }) b.front

-- values that meet a formula meet those that it begins with
pub meets-begins : (old new : Formula) (values : ℕ → Bool) → Begins old new →
    meets values new.clauses ≡ true → meets values old.clauses ≡ true
meets-begins old new values b e =
    (and_parts (meets values old.clauses) (meets values (drop (length old.clauses) new.clauses))
    (sym (list_all-append (clause_true values) old.clauses
    (drop (length old.clauses) new.clauses))
    ∙ ap (meets values) (sym (front_and_rest old.clauses new.clauses b.front)) ∙ e)).0

pub extends_none : (old : Formula) → IsClosed old → Extends old old
extends_none old closed = record {
  begins = begins_none old;
  closed = closed;
  onward = λ values e. (values, (λ n small. refl), e);
  unique = λ one other e f agree. agree;
}

pub extends_trans : (first second third : Formula) → Extends first second → Extends second third →
    Extends first third
extends_trans first second third p q = record {
  begins = begins_trans first second third p.begins q.begins;
  closed = q.closed;
  onward = λ values e.
      let more = p.onward values e in
      let most = q.onward more.0 more.2 in
      let grows = p.begins.grows in
      (most.0, (λ n small. more.1 n small ∙ most.1 n (omega arith)), most.2);
  unique = λ one other e f agree.
      q.unique one other e f (p.unique one other
      (meets-begins second third one q.begins e)
      (meets-begins second third other q.begins f) agree);
}

-- clauses within fewer variables are within more
pub within_more : (m n : ℕ) (clauses : List (List ℤ)) → m ≤ n → All (IsWithin m) clauses →
    All (IsWithin n) clauses
within_more m n clauses h all =
    All-weaker (IsWithin m) (IsWithin n)
    (λ clause within l at. let small = within l at in omega (arith, h, small)) clauses all

-- values with another value at one variable
abbrev pub changed_at : ℕ → Bool → (ℕ → Bool) → ℕ → Bool
changed_at variable value values n = if nat_eq n variable then value else values n

pub changed_at-here : (variable : ℕ) (value : Bool) (values : ℕ → Bool) →
    changed_at variable value values variable ≡ value
changed_at-here variable value values =
    cond-true (nat_eq variable variable) value (values variable) (eq-eqb variable variable refl)

pub changed_at-below : (variables : ℕ) (value : Bool) (values : ℕ → Bool) →
    AgreeUpTo variables values (changed_at (suc variables) value values)
changed_at-below variables value values n small =
    sym (cond-false (nat_eq n (suc variables)) value (values n)
    (ne_eqb n (suc variables) (λ e. omega (arith, small, e))))

pub start_closed : IsClosed start
start_closed =
    All-cons (IsWithin 1) (pos 1 ∷ []) []
    (λ l at. ⊎_elim (λ here. subst (λ z. unsigned_abs z ≤ 1) (sym (same_from_int_eq l (pos 1) here))
    (lit≤ tt)) (λ none. absurd (false≢true none)) (or_cases (int_eq l (pos 1)) false at))
    (All-nil (IsWithin 1))

-- a fresh variable may have any value
pub fresh_extends : (old : Formula) → IsClosed old → ExtendsFreely old (fresh_variable old).0
fresh_extends old closed = record {
  begins = record {
    grows = omega arith;
    front = front_from old.clauses old.clauses [] (sym (append-nil old.clauses));
  };
  one = refl;
  closed = within_more old.variables (suc old.variables) old.clauses (omega arith) closed;
  onward = λ values value e.
      let agree = changed_at-below old.variables value values in (
        changed_at (suc old.variables) value values,
        agree,
        sym (meets_agrees old.variables values (changed_at (suc old.variables) value values)
            old.clauses agree closed) ∙ e,
        changed_at-here (suc old.variables) value values,
      );
}

-- what is made without a gate
pub makes_at_once : {A : Type 0} (old : Formula) (a : A) (Inside : ℕ → A → Type 0)
    (Means : (ℕ → Bool) → A → Type 0) → IsClosed old → Inside old.variables a →
    ((values : ℕ → Bool) → meets values old.clauses ≡ true → Means values a) →
    Makes old (old, a) Inside Means
makes_at_once old a Inside Means closed within says = record {
  extends = extends_none old closed;
  within = within;
  says = says;
}

-- what is made after something else was made: of that it keeps the meaning
pub makes_then : {A B : Type 0} (old : Formula) (first : Formula × A) (second : Formula × B)
    (Inside : ℕ → A → Type 0) (Within : ℕ → B → Type 0) (Means : (ℕ → Bool) → A → Type 0)
    (Says : (ℕ → Bool) → B → Type 0) → Makes old first Inside Means →
    Makes first.0 second Within Says →
    Makes old second Within (λ values b. Means values first.1 × Says values b)
makes_then old first second Inside Within Means Says p q = record {
  extends = extends_trans old first.0 second.0 p.extends q.extends;
  within = q.within;
  says = λ values e. (
    p.says values (meets-begins first.0 second.0 values q.extends.begins e),
    q.says values e,
  );
}

-- the same formula with something else made of what was made
pub makes_as : {A B : Type 0} (old : Formula) (made : Formula × A) (b : B)
    (Inside : ℕ → A → Type 0) (Within : ℕ → B → Type 0) (Means : (ℕ → Bool) → A → Type 0)
    (Says : (ℕ → Bool) → B → Type 0) → Makes old made Inside Means →
    (Inside (made.0).variables made.1 → Within (made.0).variables b) →
    ((values : ℕ → Bool) → Means values made.1 → Says values b) →
    Makes old (made.0, b) Within Says
makes_as old made b Inside Within Means Says p within says = record {
  extends = p.extends;
  within = within p.within;
  says = λ values e. says values (p.says values e);
}
