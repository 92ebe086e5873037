-- Resolving along a chain: each numbered clause leaves one clause, whichever way it is seen.
use Rattle.std.proofs.Common.{◌≡◌, ℕ, ◌+◌, ◌<◌, ◌≤◌, not, ◌&&◌, ◌||◌, ℤ, neg_ℤ, List, [], ◌∷◌, sym}
use Rattle.std.proofs.Common.{ap, ◌∙◌, subst, length, drop, get_or, Some, None}
use Rattle.std.specs.Ordering.{int_eq}
use Rattle.std.proofs.lemmas.List.{drop_more, drop_all}
use Rattle.sv_clause.specs.Literals.{stands, SameLiterals, IsClause}
use Rattle.sv_clause.specs.Resolution.{IsOnlyClash, IsResolvent}
use Rattle.sv_clause.specs.Logs.{numbered, ResolvesTo}

-- what a list of literals resolves to depends on its literals alone
same_first : (a b c : List ℤ) (p : ℤ) (r : List ℤ) → SameLiterals a b → IsResolvent a c p r →
    IsResolvent b c p r
same_first a b c p r same h =
    record {
      clash = record {
        here = sym (same p) ∙ h.clash.here;
        there = h.clash.there;
        only = λ o e f. h.clash.only o (same o ∙ e) f;
      };
      literals =
          λ o. h.literals o ∙ ap (λ z.
          ((z && not (int_eq o p)) || (stands o c && not (int_eq o (neg_ℤ p))))) (same o);
    }

pub same_start : (all : List (List ℤ)) (a b : List ℤ) (chain : List ℕ) (clause : List ℤ) →
    SameLiterals a b → ResolvesTo all a chain clause → ResolvesTo all b chain clause
same_start all a b [] clause same h = λ l. sym (same l) ∙ h l
same_start all a b (n ∷ chain) clause same (next, p, r, e, is, h) =
    (next, p, r, e, same_first a b next p r same is, h)

some_same : (a b : List ℤ) → Some a ≡ Some b → a ≡ b
some_same a b e = cc

-- two resolvents of the same clauses have the same literals
one_resolvent : (a b : List ℤ) (p q : ℤ) (r s : List ℤ) → IsResolvent a b p r →
    IsResolvent a b q s → SameLiterals r s
one_resolvent a b p q r s h k =
    let same : q ≡ p = h.clash.only q k.clash.here k.clash.there in
    λ o. h.literals o ∙ ap (λ z.
    ((stands o a && not (int_eq o z)) || (stands o b && not (int_eq o (neg_ℤ z))))) (sym same)
    ∙ sym (k.literals o)

-- so far the chain leaves this clause: what it gives from here on is what the whole gives
pub record GoesOn (all : List (List ℤ)) (from : List ℤ) (chain : List ℕ) (work : List ℤ) (k : ℕ) :
    Type 0 where
  pub normal : IsClause work
  pub onward : (clause : List ℤ) → ResolvesTo all work (drop k chain) clause →
      ResolvesTo all from chain clause
  pub back : (clause : List ℤ) → ResolvesTo all from chain clause →
      ResolvesTo all work (drop k chain) clause

pub goes_on_start : (all : List (List ℤ)) (from : List ℤ) (chain : List ℕ) → IsClause from →
    GoesOn all from chain from 0
goes_on_start all from chain h = record { normal = h; onward = λ clause r. r; back = λ clause r. r }

module _ (all : List (List ℤ)) (from : List ℤ) (chain : List ℕ) (work : List ℤ) (k : ℕ)
    (g : GoesOn all from chain work k) (inside : k < length chain) where
  next_is : drop k chain ≡ get_or chain k 0 ∷ drop (k + 1) chain
  next_is = drop_more chain k 0 inside

  -- the next number, and what resolving with its clause does
  at_next : (clause : List ℤ) → ResolvesTo all from chain clause →
      ResolvesTo all work (get_or chain k 0 ∷ drop (k + 1) chain) clause
  at_next clause r = subst (λ z. ResolvesTo all work z clause) next_is (g.back clause r)

  pub goes_on : (next : List ℤ) (p : ℤ) (now : List ℤ) →
      Some next ≡ numbered all (get_or chain k 0) → IsResolvent work next p now → IsClause now →
      GoesOn all from chain now (k + 1)
  goes_on next p now e is up =
      record {
        normal = up;
        onward =
            λ clause r. g.onward clause
            (subst (λ z. ResolvesTo all work z clause) (sym next_is) (next, p, now, sym e, is, r));
        back = λ clause r.
            let (next', q, other, e', is', rest) = at_next clause r in
            let same : next' ≡ next = some_same next' next (sym e' ∙ sym e) in
            same_start all other now (drop (k + 1) chain) clause
            (one_resolvent work next q p other now
            (subst (λ z. IsResolvent work z q other) same is') is) rest;
      }

  pub stuck_at_number : None ≡ numbered all (get_or chain k 0) → (clause : List ℤ) →
      ResolvesTo all from chain clause → ⊥
  stuck_at_number e clause r = let (next', q, other, e', is', rest) = at_next clause r in (cc)

  pub stuck_at_clash : (next : List ℤ) → Some next ≡ numbered all (get_or chain k 0) →
      ((p : ℤ) → IsOnlyClash work next p → ⊥) → (clause : List ℤ) →
      ResolvesTo all from chain clause → ⊥
  stuck_at_clash next e none clause r =
      let (next', q, other, e', is', rest) = at_next clause r in
      let same : next' ≡ next = some_same next' next (sym e' ∙ sym e) in
      none q (subst (λ z. IsOnlyClash work z q) same is'.clash)

pub goes_on_end : (all : List (List ℤ)) (from : List ℤ) (chain : List ℕ) (work : List ℤ) (k : ℕ)
    → GoesOn all from chain work k → length chain ≤ k → (clause : List ℤ)
    → (SameLiterals work clause → ResolvesTo all from chain clause)
    × (ResolvesTo all from chain clause → SameLiterals work clause)
goes_on_end all from chain work k g h clause =
    let none : drop k chain ≡ [] = drop_all k chain h in (
      λ same. g.onward clause (subst (λ z. ResolvesTo all work z clause) (sym none) same),
      λ r.
          subst (λ z. ResolvesTo all work z clause) none (g.back clause r),
    )
