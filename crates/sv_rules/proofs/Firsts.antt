-- The first of what was found in two lists is the first of both.
use Rattle.std.proofs.Common.{◌≡◌, ◌⊎◌, inl, inr, ℕ, ◌+◌, ◌<◌, Bool, true, false, cond, ◌&&◌}
use Rattle.std.proofs.Common.{◌||◌, ◌==◌}
use Rattle.std.proofs.Common.{nat_lt, ltb-true, lt-ltb, List, [], ◌∷◌, ◌++◌, map, ⊎_elim, refl, sym}
use Rattle.std.proofs.Common.{subst, ◌∙◌, arith, Some, None, Option}
use Rattle.std.specs.Prelude.{IsTrue, IsFalse, filter}
use Rattle.std.specs.List.{range_with_len}
use Rattle.std.proofs.lemmas.Bool.{false≢true, eqb-true, eq-eqb}
use Rattle.sv_flat.specs.Breaches.{Breach, breach, then_by, comes_before, first_signal}
use Rattle.sv_flat.specs.Design.{SignalForm, FlatDesign}
use Rattle.sv_flat.specs.Processes.{declared_at}
use Rattle.sv_flat.specs.Values.{signal_of}
use Rattle.sv_flat.proofs.LeastSets.{or_cases, either_way}
use Rattle.sv_flat.proofs.Depths.{first_of, second_of}
use Rattle.sv_flat.proofs.AdmittedFacts.{none_in}
use Rattle.sv_flat.proofs.Members.{Contains-left, Contains-right, Contains-either}
use Rattle.sv_graph.proofs.ListFacts.{passed_more}
use Rattle.sv_rules.specs.declared.found.Found.{Found}
use Rattle.sv_rules.specs.First.{breach_of, IsFirst, FindsFirst, found_before, first_found}

-- ---- two numbers, then something else

pub or_left : (a b : Bool) → IsTrue a → IsTrue (a || b)
or_left true b h = refl
or_left false b h = absurd (false≢true h)

pub or_right : (a b : Bool) → IsTrue b → IsTrue (a || b)
or_right true b h = refl
or_right false b h = h

pub and_both : (a b : Bool) → IsTrue a → IsTrue b → IsTrue (a && b)
and_both true b h k = k
and_both false b h k = h

less : (a b : ℕ) (next : Bool) → a < b → IsTrue (then_by a b next)
less a b next h = or_left (nat_lt a b) ((a == b) && next) (lt-ltb a b h)

same : (a b : ℕ) (next : Bool) → a ≡ b → IsTrue next → IsTrue (then_by a b next)
same a b next e h =
    or_right (nat_lt a b) ((a == b) && next) (and_both (a == b) next (eq-eqb a b e) h)

split : (a b : ℕ) (next : Bool) → IsTrue (then_by a b next) → (a < b) ⊎ ((a ≡ b) × IsTrue next)
split a b next h = ⊎_elim
    (λ l. inl (ltb-true a b l))
    (λ r. inr (eqb-true a b (first_of (a == b) next r), second_of (a == b) next r))
    (or_cases (nat_lt a b) ((a == b) && next) h)

pub compare : (a b : ℕ) → (a < b) ⊎ ((a ≡ b) ⊎ (b < a))
compare a b = ⊎_elim
    (λ l. inl (ltb-true a b l))
    (λ n. ⊎_elim
    (λ l. inr (inr (ltb-true b a l)))
    (λ m. inr (inl (grind (arith, n, m))))
    (either_way (nat_lt b a)))
    (either_way (nat_lt a b))

chain : (o b a : ℕ) (ob ba oa : Bool) → (IsTrue ob → IsTrue ba → IsTrue oa)
    → IsTrue (then_by o b ob) → IsTrue (then_by b a ba) → IsTrue (then_by o a oa)
chain o b a ob ba oa next first second = ⊎_elim
    (λ l. ⊎_elim
    (λ k. less o a oa (omega arith))
    (λ k. less o a oa (let e = k.0 in omega arith))
    (split b a ba second))
    (λ l. ⊎_elim
    (λ k. less o a oa (let e = l.0 in omega arith))
    (λ k. same o a oa (l.0 ∙ k.0) (next l.1 k.1))
    (split b a ba second))
    (split o b ob first)

apart : (o b a : ℕ) (ob ba oa : Bool) → (IsTrue oa → IsTrue ob ⊎ IsTrue ba)
    → IsTrue (then_by o a oa) → IsTrue (then_by o b ob) ⊎ IsTrue (then_by b a ba)
apart o b a ob ba oa next h = ⊎_elim
    (λ l. ⊎_elim
    (λ k. inl (less o b ob k))
    (λ k. inr (less b a ba (⊎_elim (λ e. omega arith) (λ m. omega arith) k)))
    (compare o b))
    (λ l. ⊎_elim
    (λ k. inl (less o b ob k))
    (λ k. ⊎_elim
    (λ e. ⊎_elim (λ t. inl (same o b ob e t)) (λ t. inr (same b a ba (sym e ∙ l.0) t)) (next l.1))
    (λ m. inr (less b a ba (let e = l.0 in omega arith)))
    k)
    (compare o b))
    (split o a oa h)

-- ---- breaches

below : (o b a : ℕ) → IsTrue (nat_lt o b) → IsTrue (nat_lt b a) → IsTrue (nat_lt o a)
below o b a h k = lt-ltb o a (let l = ltb-true o b h in let m = ltb-true b a k in omega arith)

between : (o b a : ℕ) → IsTrue (nat_lt o a) → IsTrue (nat_lt o b) ⊎ IsTrue (nat_lt b a)
between o b a h = let l = ltb-true o a h in ⊎_elim
    (λ k. inl (lt-ltb o b k))
    (λ k. inr (lt-ltb b a (⊎_elim (λ e. omega arith) (λ m. omega arith) k)))
    (compare o b)

pub before_chain : (o b a : Breach) → IsTrue (comes_before o b) → IsTrue (comes_before b a) →
    IsTrue (comes_before o a)
before_chain o b a h k =
    chain o.number b.number a.number _ _ _
    (chain o.place.line b.place.line a.place.line _ _ _
    (chain o.place.column b.place.column a.place.column _ _ _
    (below (first_signal o) (first_signal b) (first_signal a)))) h k

pub before_apart : (o b a : Breach) → IsTrue (comes_before o a) →
    IsTrue (comes_before o b) ⊎ IsTrue (comes_before b a)
before_apart o b a h =
    apart o.number b.number a.number _ _ _
    (apart o.place.line b.place.line a.place.line _ _ _
    (apart o.place.column b.place.column a.place.column _ _ _
    (between (first_signal o) (first_signal b) (first_signal a)))) h

unequal : (n : ℕ) (next : Bool) → then_by n n next ≡ next
unequal n true = same n n true refl refl
unequal n false = ⊎_elim
    (λ h. absurd (⊎_elim (λ l. omega arith) (λ r. false≢true r.1) (split n n false h)))
    (λ h. h)
    (either_way (then_by n n false))

-- breaches of one rule go by place and signal
pub one_rule : (number : ℕ) (a b : Found) →
    comes_before (breach_of number a) (breach_of number b) ≡ found_before a b
one_rule number a b = unequal number (found_before a b)

-- ---- first of two lists

pub not_before : (o b a : Breach) → IsFalse (comes_before o a) → IsTrue (comes_before b a) →
    IsFalse (comes_before o b)
not_before o b a h k = ⊎_elim
    (λ before. absurd (false≢true (sym h ∙ before_chain o b a before k)))
    (λ fails. fails)
    (either_way (comes_before o b))

not_earlier : (o b a : Breach) → IsFalse (comes_before o b) → IsFalse (comes_before b a) →
    IsFalse (comes_before o a)
not_earlier o b a h k = ⊎_elim
    (λ before. ⊎_elim
    (λ l. absurd (false≢true (sym h ∙ l)))
    (λ l. absurd (false≢true (sym k ∙ l)))
    (before_apart o b a before))
    (λ fails. fails)
    (either_way (comes_before o a))

module _ (xs ys : List Breach) where
  second_first : (a b : Breach) → IsFirst xs a → IsFirst ys b → IsTrue (comes_before b a) →
      IsFirst (xs ++ ys) b
  second_first a b p q before = record {
    among = Contains-right xs ys b q.among;
    before = λ o at. ⊎_elim
        (λ l. not_before o b a (p.before o l) before)
        (λ r. q.before o r)
        (Contains-either xs ys o at);
  }

  first_first : (a b : Breach) → IsFirst xs a → IsFirst ys b → IsFalse (comes_before b a) →
      IsFirst (xs ++ ys) a
  first_first a b p q before = record {
    among = Contains-left xs ys a p.among;
    before = λ o at. ⊎_elim
        (λ l. p.before o l)
        (λ r. not_earlier o b a (q.before o r) before)
        (Contains-either xs ys o at);
  }

  second_none : (a : Breach) → IsFirst xs a → ys ≡ [] → IsFirst (xs ++ ys) a
  second_none a p none = record {
    among = Contains-left xs ys a p.among;
    before = λ o at. ⊎_elim
        (λ l. p.before o l)
        (λ r. absurd (none_in ys none o r))
        (Contains-either xs ys o at);
  }

  chosen : (number : ℕ) (f o : Found) (b : Bool) → found_before o f ≡ b
      → IsFirst xs (breach_of number f) → IsFirst ys (breach_of number o)
      → FindsFirst number (xs ++ ys) (Some (cond b o f))
  chosen number f o true is p q =
      second_first (breach_of number f) (breach_of number o) p q (one_rule number o f ∙ is)
  chosen number f o false is p q =
      first_first (breach_of number f) (breach_of number o) p q (one_rule number o f ∙ is)

  pub finds_both : (number : ℕ) (found other : Option Found) → FindsFirst number xs found
      → FindsFirst number ys other
      → FindsFirst number (xs ++ ys) (first_found found other)
  finds_both number None other p q = subst (λ zs. FindsFirst number (zs ++ ys) other) (sym p) q
  finds_both number (Some f) None p q = second_none (breach_of number f) p q
  finds_both number (Some f) (Some o) p q = chosen number f o (found_before o f) refl p q

pub itself : (found : Found) → IsFalse (found_before found found)
itself found =
    unequal found.place.line
    (then_by found.place.column found.place.column (nat_lt found.signal.0 found.signal.0))
    ∙ unequal found.place.column (nat_lt found.signal.0 found.signal.0)
    ∙ ⊎_elim (λ l. absurd (let k = ltb-true found.signal.0 found.signal.0 l in omega arith)) (λ f.
    f) (either_way (nat_lt found.signal.0 found.signal.0))

-- what was found is the first breach of a rule among the first signals, at each that fails a test
abbrev pub FindsUpTo : FlatDesign → (rule : ℕ) → (test : ℕ → Bool) → ℕ → Option Found → Type 0
FindsUpTo design rule test n found =
    FindsFirst rule (map (λ s. breach rule (declared_at design s) s)
    (filter test (range_with_len 0 n))) found

-- one signal more of a design, whose declaration is at hand
pub finds_more : (design : FlatDesign) (rule : ℕ) (test : ℕ → Bool) (i : ℕ) (form : SignalForm)
    (wrong : Bool) (before here now : Option Found)
    → signal_of design.signals i ≡ form → wrong ≡ test i → now ≡ first_found before here
    → FindsUpTo design rule test i before
    → FindsFirst rule (cond wrong (breach rule form.place i ∷ []) []) here
    → FindsUpTo design rule test (i + 1) now
finds_more design rule test i form wrong before here now at is joined so_far this =
    let fault = λ (s : ℕ). breach rule (declared_at design s) s in
    let done = map fault (filter test (range_with_len 0 i)) in
    subst (FindsFirst rule (map fault (filter test (range_with_len 0 (i + 1))))) (sym joined)
    (subst (λ bs. FindsFirst rule bs (first_found before here)) (sym (passed_more fault test i))
    (finds_both done (cond (test i) (fault i ∷ []) []) rule before here so_far
    (subst (λ b. FindsFirst rule (cond b (fault i ∷ []) []) here) is
    (subst (λ (s : SignalForm). FindsFirst rule (cond wrong (breach rule s.place i ∷ []) []) here)
    (sym at) this))))
