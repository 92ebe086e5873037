-- What a list of bindings says of a name, and the numbers of its signals, as bindings are added
-- behind.
use Rattle.std.proofs.Common.{◌≡◌, ℕ, suc, ◌+◌, Bool, true, false, cond, List, [], ◌∷◌, ◌++◌}
use Rattle.std.proofs.Common.{Option, Some, None, refl, sym, ap, ◌∙◌, arith, ◌⊎◌, inl, inr}
use Rattle.std.proofs.Common.{⊎_elim, subst}
use Rattle.std.specs.Prelude.{find, option_map}
use Rattle.std.specs.Str.{bytes_eq}
use Rattle.std.proofs.lemmas.Bool.{cases_Bool}
use Rattle.std.proofs.lemmas.Slice.Eq.{bytes_eq-Decides}
use Rattle.sv_ast.specs.Scopes.{Binding, parameter, signal}
use Rattle.sv_ast.specs.Instances.{entry}
use Rattle.sv_elab_rules.specs.Names.{number_from}

pub same_name : (n m : List ℕ) → bytes_eq n m ≡ true → n ≡ m
same_name n m h = (bytes_eq-Decides n m).0 h

pub name_itself : (n : List ℕ) → bytes_eq n n ≡ true
name_itself n = (bytes_eq-Decides n n).1 refl

module _ {A : Type 0} where
  abbrev rest_of : List (List ℕ × A) → List ℕ → Option (List ℕ × A)
  rest_of bs n = find (λ (row : List ℕ × A). bytes_eq n row.0) bs

  abbrev value_at : Option (List ℕ × A) → Option A
  value_at row = option_map (λ (r : List ℕ × A). r.1) row

  entry_here : (m : List ℕ) (a : A) (bs : List (List ℕ × A)) (n : List ℕ) → bytes_eq n m ≡ true →
      entry ((m, a) ∷ bs) n ≡ Some a
  entry_here m a bs n h = ap (λ b. value_at (cond b (Some (m, a)) (rest_of bs n))) h

  entry_there : (m : List ℕ) (a : A) (bs : List (List ℕ × A)) (n : List ℕ) → bytes_eq n m ≡ false →
      entry ((m, a) ∷ bs) n ≡ entry bs n
  entry_there m a bs n h = ap (λ b. value_at (cond b (Some (m, a)) (rest_of bs n))) h

  pub entry_old : (bs cs : List (List ℕ × A)) (n : List ℕ) (x : A) → entry bs n ≡ Some x →
      entry (bs ++ cs) n ≡ Some x
  entry_old [] cs n x h = absurd (cc h)
  entry_old ((m, a) ∷ bs) cs n x h = ⊎_elim
      (λ same. entry_here m a (bs ++ cs) n same ∙ sym (entry_here m a bs n same) ∙ h)
      (λ other. entry_there m a (bs ++ cs) n other
      ∙ entry_old bs cs n x (sym (entry_there m a bs n other) ∙ h))
      (cases_Bool (bytes_eq n m))

  pub entry_behind : (bs cs : List (List ℕ × A)) (n : List ℕ) → entry bs n ≡ None →
      entry (bs ++ cs) n ≡ entry cs n
  entry_behind [] cs n h = refl
  entry_behind ((m, a) ∷ bs) cs n h = ⊎_elim
      (λ same. absurd (let e : Some a ≡ None = sym (entry_here m a bs n same) ∙ h in cc e))
      (λ other. entry_there m a (bs ++ cs) n other
      ∙ entry_behind bs cs n (sym (entry_there m a bs n other) ∙ h))
      (cases_Bool (bytes_eq n m))

  pub entry_new : (bs : List (List ℕ × A)) (n : List ℕ) (x : A) → entry bs n ≡ None →
      entry (bs ++ (n, x) ∷ []) n ≡ Some x
  entry_new bs n x h = entry_behind bs ((n, x) ∷ []) n h ∙ entry_here n x [] n (name_itself n)

  -- a name that stands for something stands for it in one of the two lists
  pub entry_cases : (bs : List (List ℕ × A)) (n : List ℕ) →
      ((x : A) × (entry bs n ≡ Some x)) ⊎ (entry bs n ≡ None)
  entry_cases bs n = by_value (entry bs n) refl
    where
      by_value : (o : Option A) → entry bs n ≡ o →
          ((x : A) × (entry bs n ≡ Some x)) ⊎ (entry bs n ≡ None)
      by_value (Some x) e = inl (x, e)
      by_value None e = inr e

  pub last_entry : (bs : List (List ℕ × A)) (m : List ℕ) (a : A) (n : List ℕ) (x : A)
      → entry (bs ++ (m, a) ∷ []) n ≡ Some x
      → (entry bs n ≡ Some x) ⊎ ((n ≡ m) × (a ≡ x))
  last_entry bs m a n x h = ⊎_elim
      (λ old. inl (old.1 ∙ (sym (entry_old bs ((m, a) ∷ []) n old.0 old.1) ∙ h)))
      (λ none. ⊎_elim
      (λ same. inr (
        same_name n m same,
        let e : Some a ≡ Some x = sym (entry_here m a [] n same)
            ∙ sym (entry_behind bs ((m, a) ∷ []) n none) ∙ h in cc e,
      ))
      (λ other. absurd (let e : None ≡ Some x = sym (entry_there m a [] n other)
      ∙ sym (entry_behind bs ((m, a) ∷ []) n none) ∙ h in cc e))
      (cases_Bool (bytes_eq n m)))
      (entry_cases bs n)

  -- what holds of all values holds with one more
  pub one_more_holds : (P : A → Type 0) (bs : List (List ℕ × A)) (m : List ℕ) (a : A)
      → ((n : List ℕ) (x : A) → entry bs n ≡ Some x → P x) → P a
      → (n : List ℕ) (x : A) → entry (bs ++ (m, a) ∷ []) n ≡ Some x → P x
  one_more_holds P bs m a all here n x e = ⊎_elim
      (λ old. all n x old)
      (λ new. subst P new.1 here)
      (last_entry bs m a n x e)

-- ---- numbers

-- how many signals there are
abbrev pub signals_in : List (List ℕ × Binding) → ℕ
signals_in [] = 0
signals_in ((m, parameter v) ∷ bs) = signals_in bs
signals_in ((m, signal width signed) ∷ bs) = suc (signals_in bs)

pub signals_in_more : (bs cs : List (List ℕ × Binding)) →
    signals_in (bs ++ cs) ≡ signals_in bs + signals_in cs
signals_in_more [] cs = omega arith
signals_in_more ((m, parameter v) ∷ bs) cs = signals_in_more bs cs
signals_in_more ((m, signal width signed) ∷ bs) cs = let h = signals_in_more bs cs in omega arith

pub number_new : (bs : List (List ℕ × Binding)) (k : ℕ) (n : List ℕ) (width : ℕ) (signed : Bool)
    → entry bs n ≡ None
    → number_from k (bs ++ (n, signal width signed) ∷ []) n ≡ k + signals_in bs
number_new [] k n width signed h =
    ap (λ b. cond b k (number_from (k + 1) [] n)) (name_itself n)
    ∙ (let e : k ≡ k + 0 = omega arith in e)
number_new ((m, parameter v) ∷ bs) k n width signed h = ⊎_elim
    (λ same. absurd (let e : Some (parameter v) ≡ None = sym (entry_here m (parameter v) bs n same)
    ∙ h in cc e))
    (λ other. number_new bs k n width signed (sym (entry_there m (parameter v) bs n other) ∙ h))
    (cases_Bool (bytes_eq n m))
number_new ((m, signal w s) ∷ bs) k n width signed h = ⊎_elim
    (λ same. absurd (let e : Some (signal w s) ≡ None = sym (entry_here m (signal w s) bs n same)
    ∙ h in cc e))
    (λ other. ap (λ b. cond b k (number_from (k + 1) (bs ++ (n, signal width signed) ∷ []) n)) other
    ∙ number_new bs (k + 1) n width signed (sym (entry_there m (signal w s) bs n other) ∙ h)
    ∙ (let e : k + 1 + signals_in bs ≡ k + suc (signals_in bs) = omega arith in e))
    (cases_Bool (bytes_eq n m))

pub number_old : (bs cs : List (List ℕ × Binding)) (k : ℕ) (n : List ℕ) (width : ℕ) (signed : Bool)
    → entry bs n ≡ Some (signal width signed)
    → number_from k (bs ++ cs) n ≡ number_from k bs n
number_old [] cs k n width signed h = absurd (cc h)
number_old ((m, parameter v) ∷ bs) cs k n width signed h = ⊎_elim
    (λ same. absurd (let e : Some (parameter v) ≡
    Some (signal width signed) = sym (entry_here m (parameter v) bs n same) ∙ h in cc e))
    (λ other. number_old bs cs k n width signed (sym (entry_there m (parameter v) bs n other) ∙ h))
    (cases_Bool (bytes_eq n m))
number_old ((m, signal w s) ∷ bs) cs k n width signed h = ⊎_elim
    (λ same. ap (λ b. cond b k (number_from (k + 1) (bs ++ cs) n)) same
    ∙ sym (ap (λ b. cond b k (number_from (k + 1) bs n)) same))
    (λ other. ap (λ b. cond b k (number_from (k + 1) (bs ++ cs) n)) other
    ∙ number_old bs cs (k + 1) n width signed (sym (entry_there m (signal w s) bs n other) ∙ h)
    ∙ sym (ap (λ b. cond b k (number_from (k + 1) bs n)) other))
    (cases_Bool (bytes_eq n m))
