-- Resolution along a trail.
use Rattle.std.proofs.Common.{◌≡◌, ℕ, ◌+◌, ◌-◌, ◌<◌, ◌≤◌, Bool, true, false, not, ◌&&◌, ◌||◌, ℤ}
use Rattle.std.proofs.Common.{pos, neg_ℤ, List, [], ◌∷◌, ◌++◌, refl, sym, ap, ◌∙◌, subst, inl, inr}
use Rattle.std.proofs.Common.{◌⊎◌, ⊎_elim, length, take, get_or, arith, Some}
use Rattle.std.specs.Prelude.{filter}
use Rattle.std.specs.Ordering.{int_eq}
use Rattle.std.proofs.lemmas.Bool.{false≢true, cases_lt, cond-true, cond-false, cases_Bool}
use Rattle.std.proofs.lemmas.Bool.{and_parts, and_from, and_left, and_right, or_left, or_right}
use Rattle.std.proofs.lemmas.Bool.{or_cases, not_from_false}
use Rattle.std.proofs.lemmas.List.{length-take-le, get_or-take}
use Rattle.std.proofs.lemmas.List.Folds.{list_any-append}
use Rattle.sv_clause.specs.Literals.{stands, SameLiterals}
use Rattle.sv_clause.specs.Resolution.{IsOnlyClash, IsResolvent}
use Rattle.sv_clause.specs.Logs.{numbered, ResolvesTo, ChainGives}
use Rattle.sv_clause.specs.Units.{IsOpen, IsAtRest, IsNew}
use Rattle.sv_clause.proofs.Standing.{cases_int, same_from_int_eq, int_eq-same, int_eq-other}
use Rattle.sv_clause.proofs.Merging.{neg-neg}
use Rattle.sv_solve.specs.Search.{AllFalse, OthersFalse, IsSettled, IsConsistent, Implies, Derives}
use Rattle.sv_solve.specs.Search.{HasLater, NoneSeen}
use Rattle.sv_solve.proofs.Places.{place_of, stands_take_le, stands_take, stands_more_cases}
use Rattle.sv_solve.proofs.Places.{stands_more_here, stands_more_other, stands_whole}
use Rattle.sv_solve.proofs.Places.{stands_push_cases, stands_push_old, stands_push_new, or_nothing}
use Rattle.sv_solve.proofs.Places.{same_tests}
use Rattle.sv_solve.proofs.Clauses.{numbered_place}
use Rattle.sv_solve.proofs.Trails.{stands_before}

-- the resolvent does not ask how the first clause is written
resolvent_like : (a a' b : List ℤ) (p : ℤ) (r : List ℤ) → SameLiterals a a' → IsResolvent a b p r →
    IsResolvent a' b p r
resolvent_like a a' b p r same h =
    record {
      clash =
          record {
            here = sym (same p) ∙ h.clash.here;
            there = h.clash.there;
            only = λ o e f. h.clash.only o (same o ∙ e) f;
          };
      literals =
          λ o. h.literals o ∙ ap (λ z.
          (z && not (int_eq o p)) || (stands o b && not (int_eq o (neg_ℤ p)))) (same o);
    }

-- a chain goes on by one more clause
resolves_more : (clauses : List (List ℤ)) (from : List ℤ) (chain : List ℕ) (clause next : List ℤ)
    (p : ℤ) (r : List ℤ) (n : ℕ)
    → ResolvesTo clauses from chain clause → numbered clauses n ≡ Some next
    → IsResolvent clause next p r → ResolvesTo clauses from (chain ++ n ∷ []) r
resolves_more clauses from [] clause next p r n same at res =
    (next, p, r, at, resolvent_like clause from next p r (λ o. sym (same o)) res, λ o. refl)
resolves_more clauses from (m ∷ ms) clause next p r n h at res =
    (h.0, h.1, h.2, h.3, h.4, resolves_more clauses h.2 ms clause next p r n h.5 at res)

chain_more : (clauses : List (List ℤ)) (chain : List ℕ) (clause next : List ℤ) (p : ℤ)
    (r : List ℤ) (n : ℕ)
    → ChainGives clauses chain clause → numbered clauses n ≡ Some next → IsResolvent clause next p r
    → ChainGives clauses (chain ++ n ∷ []) r
chain_more clauses [] clause next p r n h at res = absurd h
chain_more clauses (m ∷ ms) clause next p r n h at res =
    (h.0, h.1, resolves_more clauses h.0 ms clause next p r n h.2 at res)

resolves_like : (clauses : List (List ℤ)) (from : List ℤ) (chain : List ℕ)
    (clause clause' : List ℤ) → SameLiterals clause clause' → ResolvesTo clauses from chain clause →
    ResolvesTo clauses from chain clause'
resolves_like clauses from [] clause clause' same h = λ o. h o ∙ same o
resolves_like clauses from (m ∷ ms) clause clause' same h =
    (h.0, h.1, h.2, h.3, h.4, resolves_like clauses h.2 ms clause clause' same h.5)

-- a chain gives a clause however it is written
pub chain_like : (clauses : List (List ℤ)) (chain : List ℕ) (clause clause' : List ℤ) →
    SameLiterals clause clause' → ChainGives clauses chain clause → ChainGives clauses chain clause'
chain_like clauses [] clause clause' same h = absurd h
chain_like clauses (m ∷ ms) clause clause' same h =
    (h.0, h.1, resolves_like clauses h.0 ms clause clause' same h.2)

-- one clause alone is a chain
pub chain_one : (clauses : List (List ℤ)) (n : ℕ) (clause : List ℤ) →
    numbered clauses n ≡ Some clause → ChainGives clauses (n ∷ []) clause
chain_one clauses n clause at = (clause, at, λ o. refl)

-- the literals of a resolvent are those of both clauses but the two that clash
resolvent_of : (a b r : List ℤ) (p : ℤ) → IsOnlyClash a b p
    → ((o : ℤ) → stands o r ≡ true → (stands o a ≡ true × (o ≡ p → ⊥))
    ⊎ (stands o b ≡ true × (o ≡ neg_ℤ p → ⊥)))
    → ((o : ℤ) → stands o a ≡ true → (o ≡ p → ⊥) → stands o r ≡ true)
    → ((o : ℤ) → stands o b ≡ true → (o ≡ neg_ℤ p → ⊥) → stands o r ≡ true)
    → IsResolvent a b p r
resolvent_of a b r p clash into left right =
    record {
      clash = clash;
      literals =
          λ o. same_tests (stands o r) ((stands o a && not (int_eq o p))
          || (stands o b && not (int_eq o (neg_ℤ p))))
          (λ e. ⊎_elim
          (λ l. or_left (stands o a && not (int_eq o p)) (stands o b && not (int_eq o (neg_ℤ p)))
          (and_from (stands o a) (not (int_eq o p)) l.0
          (not_from_false (int_eq o p) (int_eq-other o p l.1))))
          (λ g. or_right (stands o a && not (int_eq o p)) (stands o b && not (int_eq o (neg_ℤ p)))
          (and_from (stands o b) (not (int_eq o (neg_ℤ p))) g.0
          (not_from_false (int_eq o (neg_ℤ p)) (int_eq-other o (neg_ℤ p) g.1))))
          (into o e))
          (λ e. ⊎_elim
          (λ l. let q = and_parts (stands o a) (not (int_eq o p)) l in
          left o q.0 (λ same. not_both (int_eq o p) (int_eq-same o p same) q.1))
          (λ g. let q = and_parts (stands o b) (not (int_eq o (neg_ℤ p))) g in
          right o q.0 (λ same.
          not_both (int_eq o (neg_ℤ p)) (int_eq-same o (neg_ℤ p) same) q.1))
          (or_cases (stands o a && not (int_eq o p)) (stands o b && not (int_eq o (neg_ℤ p))) e));
    }
  where
    not_both : (x : Bool) → x ≡ true → not x ≡ true → ⊥
    not_both true e f = false≢true f
    not_both false e f = false≢true e

filter_in : (test : ℤ → Bool) (l : ℤ) (xs : List ℤ) → stands l xs ≡ true → test l ≡ true →
    stands l (filter test xs) ≡ true
filter_in test l [] e t = e
filter_in test l (x ∷ xs) e t =
    ⊎_elim
    (λ yes. ap (stands l) (cond-true (test x) (x ∷ filter test xs) (filter test xs) yes)
    ∙ ⊎_elim (λ same. or_left (int_eq l x) (stands l (filter test xs)) same) (λ there.
    or_right (int_eq l x) (stands l (filter test xs)) (filter_in test l xs there t))
    (or_cases (int_eq l x) (stands l xs) e))
    (λ no. ap (stands l) (cond-false (test x) (x ∷ filter test xs) (filter test xs) no)
    ∙ ⊎_elim (λ same. absurd (false≢true (sym no ∙ ap test (sym (same_from_int_eq l x same)) ∙ t)))
    (λ there. filter_in test l xs there t) (or_cases (int_eq l x) (stands l xs) e))
    (cases_Bool (test x))

filter_out : (test : ℤ → Bool) (l : ℤ) (xs : List ℤ) → stands l (filter test xs) ≡ true →
    (stands l xs ≡ true) × (test l ≡ true)
filter_out test l [] e = absurd (false≢true e)
filter_out test l (x ∷ xs) e =
    ⊎_elim
    (λ yes. ⊎_elim
    (λ same. (or_left (int_eq l x) (stands l xs) same, ap test (same_from_int_eq l x same) ∙ yes))
    (λ there. let r = filter_out test l xs there in (or_right (int_eq l x) (stands l xs) r.0, r.1))
    (or_cases (int_eq l x) (stands l (filter test xs))
    (sym (ap (stands l) (cond-true (test x) (x ∷ filter test xs) (filter test xs) yes)) ∙ e)))
    (λ no. let r = filter_out test l xs
    (sym (ap (stands l) (cond-false (test x) (x ∷ filter test xs) (filter test xs) no)) ∙ e) in
    (or_right (int_eq l x) (stands l xs) r.0, r.1))
    (cases_Bool (test x))

negated_back : (l t : ℤ) → neg_ℤ l ≡ t → l ≡ neg_ℤ t
negated_back l t e = sym (neg-neg l) ∙ ap neg_ℤ e

and_both : (a b : Bool) → (a && b) ≡ true → (a ≡ true) × (b ≡ true)
and_both a b e = and_parts a b e

-- what stands in one list or in another
stands_both : (l : ℤ) (xs ys : List ℤ) → stands l (xs ++ ys) ≡ (stands l xs || stands l ys)
stands_both l xs ys = list_any-append (int_eq l) xs ys

module _ (clauses : List (List ℤ)) (trail : List ℤ) where
  -- the first chain is the false clause alone
  pub derive_start : (chain : List ℕ) (n : ℕ) (clause seen : List ℤ) → chain ≡ n ∷ []
      → numbered clauses n ≡ Some clause → AllFalse trail clause
      → ((l : ℤ) → stands l seen ≡ (stands l clause && stands (neg_ℤ l) trail))
      → Derives clauses chain [] seen trail (length trail)
  derive_start chain n clause seen is at all tests =
      record {
        clause = clause;
        chain_gives =
            subst (λ z. ChainGives clauses z clause) (sym is) (chain_one clauses n clause at);
        literals =
            λ l. same_tests (stands l clause) (stands l seen
            && stands (neg_ℤ l) (take (length trail) trail))
            (λ e. and_from (stands l seen) (stands (neg_ℤ l) (take (length trail) trail)) (tests l
            ∙ and_from (stands l clause) (stands (neg_ℤ l) trail) e (all l e))
            (stands_whole (neg_ℤ l) trail (length trail) (omega arith) ∙ all l e))
            (λ e.
            (and_both (stands l clause) (stands (neg_ℤ l) trail) (sym (tests l)
            ∙ (and_both (stands l seen) (stands (neg_ℤ l) (take (length trail) trail))
            e).0)).0);
      }

  -- what is derived stays so where other tests say the same
  derives_on : (chain : List ℕ) (kept kept' seen : List ℤ) (bound p : ℕ)
      → ((l : ℤ) → (stands l kept || (stands l seen && stands (neg_ℤ l) (take bound trail)))
      ≡ (stands l kept' || (stands l seen && stands (neg_ℤ l) (take p trail))))
      → Derives clauses chain kept seen trail bound → Derives clauses chain kept' seen trail p
  derives_on chain kept kept' seen bound p same d =
      record {
        clause = d.clause;
        chain_gives = d.chain_gives;
        literals = λ l. d.literals l ∙ same l;
      }

  -- an unseen literal of the trail changes nothing
  pub derive_skip : (chain : List ℕ) (kept seen : List ℤ) (bound p : ℕ) → bound ≡ p + 1
      → p < length trail → stands (neg_ℤ (get_or trail p (pos 0))) seen ≡ false
      → Derives clauses chain kept seen trail bound → Derives clauses chain kept seen trail p
  derive_skip chain kept seen bound p is small unseen d =
      derives_on chain kept kept seen bound p
      (λ l. ap (λ z. stands l kept || (stands l seen && stands (neg_ℤ l) (take z trail))) is
      ∙ ap (λ z. stands l kept || z)
      (⊎_elim
      (λ same. let none : stands l seen ≡ false = ap (λ z.
      stands z seen) (negated_back l (get_or trail p (pos 0)) same) ∙ unseen in
      and_left (stands l seen) (stands (neg_ℤ l) (take (p + 1) trail)) none
      ∙ sym (and_left (stands l seen) (stands (neg_ℤ l) (take p trail)) none))
      (λ ne. ap (λ z. stands l seen && z) (stands_more_other (neg_ℤ l) trail p small ne))
      (cases_int (neg_ℤ l) (get_or trail p (pos 0))))) d

  -- nor do several
  pub derive_unseen : (chain : List ℕ) (kept seen : List ℤ) (from bound : ℕ) → from ≤ bound
      → bound ≤ length trail → NoneSeen seen trail from bound
      → Derives clauses chain kept seen trail bound → Derives clauses chain kept seen trail from
  derive_unseen chain kept seen from bound low size none d =
      record {
        clause = d.clause;
        chain_gives = d.chain_gives;
        literals = λ l. d.literals l ∙ ap (λ z. stands l kept || z)
            (same_tests (stands l seen && stands (neg_ℤ l) (take bound trail)) (stands l seen
            && stands (neg_ℤ l) (take from trail))
            (λ e. let q = and_both (stands l seen) (stands (neg_ℤ l) (take bound trail)) e in
            let r = place_of (neg_ℤ l) (take bound trail) q.1 in
            let long : length (take bound trail) ≡ bound = length-take-le bound trail size in
            let below : r.0 < length (take bound trail) = r.1 in
            let at : get_or trail r.0 (pos 0) ≡ neg_ℤ l =
            sym (get_or-take bound trail r.0 (pos 0) (omega arith)) ∙ r.2 in
            ⊎_elim
            (λ early. and_from (stands l seen) (stands (neg_ℤ l) (take from trail)) q.0
            (stands_before trail r.0 from (neg_ℤ l) early (omega arith) at))
            (λ late.
            absurd (false≢true (sym (none r.0 late (omega arith))
            ∙ ap (λ z. stands (neg_ℤ z) seen) at ∙ ap (λ z. stands z seen) (neg-neg l) ∙ q.0)))
            (cases_lt r.0 from))
            (λ e. let q = and_both (stands l seen) (stands (neg_ℤ l) (take from trail)) e in
            and_from (stands l seen) (stands (neg_ℤ l) (take bound trail)) q.0
            (stands_take_le (neg_ℤ l) trail from bound low q.1)));
      }

  -- a seen literal of the trail is kept
  pub derive_keep : (chain : List ℕ) (kept kept' seen : List ℤ) (bound p : ℕ) → bound ≡ p + 1
      → p < length trail → stands (neg_ℤ (get_or trail p (pos 0))) seen ≡ true
      → kept' ≡ kept ++ neg_ℤ (get_or trail p (pos 0)) ∷ []
      → Derives clauses chain kept seen trail bound → Derives clauses chain kept' seen trail p
  derive_keep chain kept kept' seen bound p is small here longer d =
      let t = get_or trail p (pos 0) in
      let all : ℤ → Bool = λ l. stands l seen && stands (neg_ℤ l) (take (p + 1) trail) in
      let less : ℤ → Bool = λ l. stands l seen && stands (neg_ℤ l) (take p trail) in
      derives_on chain kept kept' seen bound p
      (λ l. ap (λ z. stands l kept || (stands l seen && stands (neg_ℤ l) (take z trail))) is
      ∙ same_tests (stands l kept || all l) (stands l (kept ++ neg_ℤ t ∷ []) || less l)
      (λ e. ⊎_elim
      (λ old. or_left (stands l (kept ++ neg_ℤ t ∷ [])) (less l)
      (stands_push_old l (neg_ℤ t) kept old))
      (λ both. let q = and_both (stands l seen) (stands (neg_ℤ l) (take (p + 1) trail))
      both in ⊎_elim
      (λ older. or_right (stands l (kept ++ neg_ℤ t ∷ [])) (less l)
      (and_from (stands l seen) (stands (neg_ℤ l) (take p trail)) q.0 older))
      (λ same. or_left (stands l (kept ++ neg_ℤ t ∷ [])) (less l)
      (ap (λ z. stands z (kept ++ neg_ℤ t ∷ [])) (negated_back l t same)
      ∙ stands_push_new (neg_ℤ t) kept))
      (stands_more_cases (neg_ℤ l) trail p small q.1))
      (or_cases (stands l kept) (all l) e))
      (λ e. ⊎_elim
      (λ new. ⊎_elim
      (λ old. or_left (stands l kept) (all l) old)
      (λ same. or_right (stands l kept) (all l)
      (and_from (stands l seen) (stands (neg_ℤ l) (take (p + 1) trail))
      (ap (λ z. stands z seen) same ∙ here)
      (ap (λ z. stands z (take (p + 1) trail)) (ap neg_ℤ same ∙ neg-neg t)
      ∙ stands_more_here trail p small)))
      (stands_push_cases l (neg_ℤ t) kept new))
      (λ both. let q = and_both (stands l seen) (stands (neg_ℤ l) (take p trail)) both in
      or_right (stands l kept) (all l)
      (and_from (stands l seen) (stands (neg_ℤ l) (take (p + 1) trail)) q.0
      (stands_take_le (neg_ℤ l) trail p (p + 1) (omega arith) q.1)))
      (or_cases (stands l (kept ++ neg_ℤ t ∷ [])) (less l) e))
      ∙ ap (λ z. stands l z || less l) (sym longer)) d

  -- a seen literal of the trail is resolved on with its reason
  pub derive_step : (chain chain' : List ℕ) (kept seen seen' : List ℤ) (bound p n : ℕ)
      → bound ≡ p + 1 → p < length trail → IsConsistent trail
      → IsOpen (take p trail) (get_or trail p (pos 0))
      → stands (neg_ℤ (get_or trail p (pos 0))) seen ≡ true
      → (h : Implies clauses n (take p trail) (get_or trail p (pos 0)))
      → chain' ≡ chain ++ n ∷ []
      → ((l : ℤ) → stands l seen' ≡
      (stands l seen || (stands l h.clause && stands (neg_ℤ l) trail)))
      → ((l : ℤ) → stands l kept ≡ true → (stands (neg_ℤ l) (take bound trail) ≡ false)
      × (stands (neg_ℤ l) trail ≡ true))
      → Derives clauses chain kept seen trail bound → Derives clauses chain' kept seen' trail p
  derive_step chain chain' kept seen seen' bound p n is small consistent o here h longer tests
      late d =
      let t = get_or trail p (pos 0) in
      let below = take p trail in
      let test : ℤ → Bool = λ l. stands (neg_ℤ l) below in
      let old : ℤ → Bool = λ l. stands l seen && stands (neg_ℤ l) (take (p + 1) trail) in
      let brings : ℤ → Bool = λ l. stands l h.clause && stands (neg_ℤ l) trail in
      let rest = kept ++ filter test seen' in
      let at_bound : (l : ℤ) → stands l d.clause ≡ (stands l kept || old l) =
      λ l. d.literals l ∙ ap (λ z.
      stands l kept || (stands l seen && stands (neg_ℤ l) (take z trail))) is in
      let not_yet : (l : ℤ) → stands l kept ≡ true → stands (neg_ℤ l) (take (p + 1) trail) ≡ false =
      λ l e. ap (λ z. stands (neg_ℤ l) (take z trail)) (sym is) ∙ (late l e).0 in
      let in_rest : (l : ℤ) → stands l (filter test seen') ≡ true → stands l rest ≡ true =
      λ l e. stands_both l kept (filter test seen')
      ∙ or_right (stands l kept) (stands l (filter test seen')) e in
      let clash : IsOnlyClash d.clause h.clause (neg_ℤ t) = record {
        here = at_bound (neg_ℤ t) ∙ or_right (stands (neg_ℤ t) kept) (old (neg_ℤ t))
            (and_from (stands (neg_ℤ t) seen) (stands (neg_ℤ (neg_ℤ t)) (take (p + 1) trail)) here
            (ap (λ z. stands z (take (p + 1) trail)) (neg-neg t)
            ∙ stands_more_here trail p small));
        there = ap (λ z. stands z h.clause) (neg-neg t) ∙ h.member;
        only = λ x e f. ⊎_elim
            (λ same. negated_back x t same)
            (λ ne. let false_here : stands (neg_ℤ (neg_ℤ x)) below ≡
            true = h.others (neg_ℤ x) f ne in
            let clear : stands (neg_ℤ x) trail ≡ true → x ≡ neg_ℤ t =
            λ g.
            absurd (false≢true (sym (consistent (neg_ℤ x) g)
            ∙ stands_take (neg_ℤ (neg_ℤ x)) trail p false_here)) in
            ⊎_elim (λ k. clear (late x k).1)
            (λ both.
            clear (stands_take (neg_ℤ x) trail (p + 1)
            (and_both (stands x seen) (stands (neg_ℤ x) (take (p + 1) trail)) both).1))
            (or_cases (stands x kept) (old x) (sym (at_bound x) ∙ e)))
            (cases_int (neg_ℤ x) t);
      } in
      let resolvent : IsResolvent d.clause h.clause (neg_ℤ t) rest =
      resolvent_of d.clause h.clause rest (neg_ℤ t) clash
      (λ x e. ⊎_elim
      (λ k. inl (
        at_bound x ∙ or_left (stands x kept) (old x) k,
        λ same. false≢true (sym (not_yet x k)
            ∙ ap (λ z. stands z (take (p + 1) trail)) (ap neg_ℤ same ∙ neg-neg t)
            ∙ stands_more_here trail p small),
      ))
      (λ f. let q = filter_out test x seen' f in ⊎_elim
      (λ was. inl (
        at_bound x ∙ or_right (stands x kept) (old x)
            (and_from (stands x seen) (stands (neg_ℤ x) (take (p + 1) trail)) was
            (stands_take_le (neg_ℤ x) trail p (p + 1) (omega arith) q.1)),
        λ same. false≢true (sym o.0
            ∙ ap (λ z. stands z below) (sym (ap neg_ℤ same ∙ neg-neg t)) ∙ q.1),
      ))
      (λ new. inr (
        (and_both (stands x h.clause) (stands (neg_ℤ x) trail) new).0,
        λ same.
            false≢true (sym o.1 ∙ ap (λ z. stands (neg_ℤ z) below) (sym (same ∙ neg-neg t)) ∙ q.1),
      ))
      (or_cases (stands x seen) (brings x) (sym (tests x) ∙ q.0)))
      (or_cases (stands x kept) (stands x (filter test seen'))
      (sym (stands_both x kept (filter test seen')) ∙ e)))
      (λ x e ne. ⊎_elim
      (λ k. stands_both x kept (filter test seen')
      ∙ or_left (stands x kept) (stands x (filter test seen')) k)
      (λ both. let q = and_both (stands x seen) (stands (neg_ℤ x) (take (p + 1) trail)) both in
      in_rest x (filter_in test x seen' (tests x ∙ or_left (stands x seen) (brings x) q.0)
      (sym (stands_more_other (neg_ℤ x) trail p small (λ same. ne (negated_back x t same)))
      ∙ q.1)))
      (or_cases (stands x kept) (old x) (sym (at_bound x) ∙ e)))
      (λ x e ne. let wrong = h.others x e (λ same. ne (same ∙ sym (neg-neg t))) in
      in_rest x (filter_in test x seen' (tests x
      ∙ or_right (stands x seen) (brings x)
      (and_from (stands x h.clause) (stands (neg_ℤ x) trail) e
      (stands_take (neg_ℤ x) trail p wrong))) wrong)) in
      record {
        clause = rest;
        chain_gives =
            subst (λ z. ChainGives clauses z rest) (sym longer)
            (chain_more clauses chain d.clause h.clause (neg_ℤ t) rest n d.chain_gives h.is
            resolvent);
        literals = λ l. stands_both l kept (filter test seen') ∙ ap (λ z. stands l kept || z)
            (same_tests (stands l (filter test seen')) (stands l seen' && stands (neg_ℤ l) below)
            (λ e. let q = filter_out test l seen' e in
            and_from (stands l seen') (stands (neg_ℤ l) below) q.0 q.1)
            (λ e. let q = and_both (stands l seen') (stands (neg_ℤ l) below) e in
            filter_in test l seen' q.0 q.1));
      }

  -- with no bound left the chain gives the clause of what is kept
  pub derive_end : (chain : List ℕ) (kept seen : List ℤ) → Derives clauses chain kept seen trail 0 →
      ChainGives clauses chain kept
  derive_end chain kept seen d =
      chain_like clauses chain d.clause kept (λ l.
      d.literals l ∙ ap (λ z. stands l kept || z) (and_right (stands l seen) false refl)
      ∙ or_nothing (stands l kept)) d.chain_gives

  -- where only one seen literal is false from the mark on, it is kept
  pub derive_first : (chain : List ℕ) (seen : List ℤ) (mark p : ℕ) → mark ≤ p → p < length trail
      → stands (neg_ℤ (get_or trail p (pos 0))) seen ≡ true → NoneSeen seen trail mark p
      → Derives clauses chain [] seen trail (p + 1)
      → Derives clauses chain (neg_ℤ (get_or trail p (pos 0)) ∷ []) seen trail mark
  derive_first chain seen mark p low small here none d =
      let first = neg_ℤ (get_or trail p (pos 0)) in
      derive_unseen chain (first ∷ []) seen mark p low (omega arith) none
      (derive_keep chain [] (first ∷ []) seen (p + 1) p refl small here refl d)

  -- a clause of which one literal is left at rest is new
  pub learned_new : (learned : List ℤ) (first : ℤ) (mark : ℕ) → IsAtRest clauses (take mark trail) →
      stands first learned ≡ true → IsOpen (take mark trail) first →
      OthersFalse (take mark trail) learned first → IsNew clauses learned
  learned_new learned first mark rest member o others = (
    take mark trail,
    first,
    record {
      rest = rest;
      member = member;
      open_left = o;
      others = others;
    },
  )

  -- the clause of a number is settled at rest
  settled_number : (literals : List ℤ) (n : ℕ) (clause : List ℤ) → IsAtRest clauses literals →
      numbered clauses n ≡ Some clause → IsSettled literals clause
  settled_number literals n clause rest at =
      let r = numbered_place clauses n clause at in
      subst (IsSettled literals) r.2 (rest.each (n - 1) [] r.1)

  -- a clause that is false now was not at rest: two of its literals became false later
  pub later_start : (seen clause : List ℤ) (mark n : ℕ) → IsConsistent trail
      → IsAtRest clauses (take mark trail) → numbered clauses n ≡ Some clause
      → AllFalse trail clause
      → ((l : ℤ) → stands l seen ≡ (stands l clause && stands (neg_ℤ l) trail))
      → HasLater seen trail mark (length trail)
  later_start seen clause mark n consistent rest at all tests =
      ⊎_elim
      (λ one. absurd (false≢true (sym (consistent one.0 (stands_take one.0 trail mark one.2))
      ∙ all one.0 one.1)))
      (λ two. (
        two.0,
        tests two.0
            ∙ and_from (stands two.0 clause) (stands (neg_ℤ two.0) trail) two.3
            (all two.0 two.3),
        stands_whole (neg_ℤ two.0) trail (length trail) (omega arith)
            ∙ all two.0 two.3,
        (two.5).1,
      ))
      (settled_number (take mark trail) n clause rest at)

  pub later_skip : (seen : List ℤ) (mark bound p : ℕ) → bound ≡ p + 1 → p < length trail →
      stands (neg_ℤ (get_or trail p (pos 0))) seen ≡ false → HasLater seen trail mark bound →
      HasLater seen trail mark p
  later_skip seen mark bound p is small unseen (l, e, f, g) = (
    l,
    e,
    ⊎_elim (λ older. older) (λ same.
        absurd (false≢true (sym unseen
        ∙ ap (λ z. stands z seen) (sym (negated_back l (get_or trail p (pos 0)) same)) ∙ e)))
        (stands_more_cases (neg_ℤ l) trail p small
        (ap (λ z. stands (neg_ℤ l) (take z trail)) (sym is) ∙ f)),
    g,
  )

  pub later_step : (seen seen' : List ℤ) (mark p n : ℕ) → mark ≤ p → p < length trail
      → IsConsistent trail → IsOpen (take p trail) (get_or trail p (pos 0))
      → IsAtRest clauses (take mark trail)
      → (h : Implies clauses n (take p trail) (get_or trail p (pos 0)))
      → ((l : ℤ) → stands l seen' ≡
      (stands l seen || (stands l h.clause && stands (neg_ℤ l) trail)))
      → HasLater seen' trail mark p
  later_step seen seen' mark p n low small consistent o rest h tests =
      let t = get_or trail p (pos 0) in
      let open_one : (y : ℤ) → stands y h.clause ≡ true → (y ≡ t → ⊥) → IsOpen (take mark trail) y →
      HasLater seen' trail mark p =
      λ y e ne w. (
        y,
        tests y ∙ or_right (stands y seen) (stands y h.clause && stands (neg_ℤ y) trail)
            (and_from (stands y h.clause) (stands (neg_ℤ y) trail) e
            (stands_take (neg_ℤ y) trail p (h.others y e ne))),
        h.others y e ne,
        w.1,
      ) in
      ⊎_elim
      (λ one. ⊎_elim
      (λ same. absurd (false≢true (sym o.0 ∙ ap (λ z. stands z (take p trail)) (sym same)
      ∙ stands_take_le one.0 trail mark p low one.2)))
      (λ ne. absurd (false≢true (sym (consistent one.0 (stands_take one.0 trail mark one.2))
      ∙ stands_take (neg_ℤ one.0) trail p (h.others one.0 one.1 ne))))
      (cases_int one.0 t))
      (λ two. ⊎_elim
      (λ same. open_one two.1 two.4 (λ e. two.2 (same ∙ sym e)) two.6)
      (λ ne. open_one two.0 two.3 ne two.5)
      (cases_int two.0 t))
      (settled_number (take mark trail) n h.clause rest h.is)

  pub later_above : (seen : List ℤ) (mark bound : ℕ) → HasLater seen trail mark bound → mark < bound
  later_above seen mark bound (l, e, f, g) =
      ⊎_elim (λ lt. lt) (λ ge.
      absurd (false≢true (sym g ∙ stands_take_le (neg_ℤ l) trail bound mark ge f)))
      (cases_lt mark bound)
