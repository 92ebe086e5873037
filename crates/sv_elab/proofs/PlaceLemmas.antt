-- Ports by their names.
use Rattle.std.proofs.Common.{◌≡◌, ℕ, suc, ◌+◌, ◌-◌, ◌<◌, ◌≤◌, Bool, true, false, cond, List}
use Rattle.std.proofs.Common.{[], ◌∷◌, ◌++◌, length, get_or, map, find, Option, Some, None}
use Rattle.std.proofs.Common.{refl, sym, ap, ◌∙◌, arith}
use Rattle.std.specs.Prelude.{option_map, is_some, if◌then◌else◌, Result, Ok, Err, OnOk}
use Rattle.std.specs.List.{position_from}
use Rattle.std.specs.Map.{lookup}
use Rattle.std.specs.Str.{bytes_eq}
use Rattle.std.proofs.lemmas.Slice.Eq.{bytes_eq-Decides}
use Rattle.sv_ast.specs.declared.declarations.Decl.{Decl}
use Rattle.sv_ast.specs.Instances.{entry}
use Rattle.sv_width.proofs.EntryLemmas.{lookup_is_entry}
use Rattle.sv_elab.specs.Instances.{first_of, place_from}

-- ---- the first that passes a test, and its place

module _ {X Y : Type 0} (f : X → Y) (p : Y → Bool) where
  pub find_none : (xs : List X) (k : ℕ) → position_from p k (map f xs) ≡ None →
      find p (map f xs) ≡ None
  find_none [] k h = refl
  find_none (x ∷ xs) k h = by (p (f x)) (find_none xs (k + 1)) h
    where
      by : (b : Bool) → (position_from p (k + 1) (map f xs) ≡ None → find p (map f xs) ≡ None)
          → cond b (Some k) (position_from p (k + 1) (map f xs)) ≡ None
          → cond b (Some (f x)) (find p (map f xs)) ≡ None
      by true rest e = absurd (cc e)
      by false rest e = rest e

  pub place_within : (xs : List X) (k i : ℕ) → position_from p k (map f xs) ≡ Some i
      → (k ≤ i) × (i < k + length xs)
  place_within [] k i h = absurd (cc h)
  place_within (x ∷ xs) k i h = by (p (f x)) (place_within xs (k + 1) i) h
    where
      by : (b : Bool) → (position_from p (k + 1) (map f xs) ≡ Some i
          → (k + 1 ≤ i) × (i < k + 1 + length xs))
          → cond b (Some k) (position_from p (k + 1) (map f xs)) ≡ Some i
          → (k ≤ i) × (i < k + length (x ∷ xs))
      by true rest e = let same : k ≡ i = cc e in (omega arith, omega arith)
      by false rest e = let r = rest e in (omega (arith, r.0), omega (arith, r.1))

  pub find_some : (xs : List X) (k i : ℕ) (d : X) → position_from p k (map f xs) ≡ Some i
      → find p (map f xs) ≡ Some (f (get_or xs (i - k) d))
  find_some [] k i d h = absurd (cc h)
  find_some (x ∷ xs) k i d h = by (p (f x)) (place_within xs (k + 1) i) (find_some xs (k + 1) i d) h
    where
      by : (b : Bool) → (position_from p (k + 1) (map f xs) ≡ Some i
          → (k + 1 ≤ i) × (i < k + 1 + length xs))
          → (position_from p (k + 1) (map f xs) ≡ Some i
          → find p (map f xs) ≡ Some (f (get_or xs (i - (k + 1)) d)))
          → cond b (Some k) (position_from p (k + 1) (map f xs)) ≡ Some i
          → cond b (Some (f x)) (find p (map f xs)) ≡ Some (f (get_or (x ∷ xs) (i - k) d))
      by true within rest e =
          let same : k ≡ i = cc e in
          let z : i - k ≡ 0 = omega arith in
          ap (λ n. Some (f (get_or (x ∷ xs) n d))) (sym z)
      by false within rest e =
          let r = within e in
          let z : i - k ≡ suc (i - (k + 1)) = omega (arith, r.0) in
          rest e ∙ ap (λ n. Some (f (get_or (x ∷ xs) n d))) (sym z)

-- ---- a place more

kept_or_noted : (e : Option ℕ) (b : Bool) (k : ℕ) (rest : Option ℕ)
    → first_of (first_of e (if b then Some k else None)) rest ≡ first_of e (cond b (Some k) rest)
kept_or_noted (Some i) b k rest = refl
kept_or_noted None true k rest = refl
kept_or_noted None false k rest = refl

pub place_more : (e : Option ℕ) (k : ℕ) (d : Decl) (ds : List Decl) (n : List ℕ)
    → first_of (first_of e (if bytes_eq n d.name then Some k else None)) (place_from (k + 1) ds n)
    ≡ first_of e (place_from k (d ∷ ds) n)
place_more e k d ds n = kept_or_noted e (bytes_eq n d.name) k (place_from (k + 1) ds n)

pub place_none : (e : Option ℕ) → first_of e None ≡ e
place_none (Some i) = refl
place_none None = refl

-- a name that is there keeps its place
pub place_kept : (es : List (List ℕ × ℕ)) (m : List ℕ) (k : ℕ)
    → is_some (lookup (bytes_eq m) es) ≡ true
    → (n : List ℕ) → entry es n ≡ first_of (entry es n) (if bytes_eq n m then Some k else None)
place_kept es m k there n = by (bytes_eq n m) refl
  where
    some : (e : Option ℕ) → is_some e ≡ true → e ≡ first_of e (Some k)
    some (Some i) h = refl
    some None h = absurd (cc h)

    by : (b : Bool) → bytes_eq n m ≡ b →
        entry es n ≡ first_of (entry es n) (if b then Some k else None)
    by true e =
        some (entry es n) (ap (λ l. is_some (entry es l)) ((bytes_eq-Decides n m).0 e)
        ∙ ap is_some (sym (lookup_is_entry m es)) ∙ there)
    by false e = sym (place_none (entry es n))

-- a new name gets its place
pub place_added : (es : List (List ℕ × ℕ)) (m : List ℕ) (k : ℕ) (n : List ℕ)
    → entry (es ++ (m, k) ∷ []) n ≡ first_of (entry es n) (if bytes_eq n m then Some k else None)
place_added [] m k n = by (bytes_eq n m)
  where
    by : (b : Bool) → option_map (λ (row : List ℕ × ℕ). row.1) (cond b (Some (m, k)) None)
        ≡ (if b then Some k else None)
    by true = refl
    by false = refl
place_added (e ∷ es) m k n = by (bytes_eq n e.0) (place_added es m k n)
  where
    by : (b : Bool) → option_map (λ (row : List ℕ × ℕ).
        row.1) (find (λ (row : List ℕ × ℕ). bytes_eq n row.0) (es ++ (m, k) ∷ []))
        ≡ first_of (option_map (λ (row : List ℕ × ℕ).
        row.1) (find (λ (row : List ℕ × ℕ). bytes_eq n row.0) es)) (if bytes_eq n m then Some k
        else None)
        → option_map (λ (row : List ℕ × ℕ).
        row.1) (cond b (Some e) (find (λ (row : List ℕ × ℕ).
        bytes_eq n row.0) (es ++ (m, k) ∷ [])))
        ≡ first_of (option_map (λ (row : List ℕ × ℕ).
        row.1) (cond b (Some e) (find (λ (row : List ℕ × ℕ). bytes_eq n row.0) es)))
        (if bytes_eq n m then Some k else None)
    by true h = refl
    by false h = h

-- ---- what a call answers, taken on

pub on_weaker : {T E : Type 0} (r : Result T E) (P Q : Type 0) → (P → Q) → OnOk r P → OnOk r Q
on_weaker (Ok x) P Q f h = f h
on_weaker (Err e) P Q f h = tt
