-- What lists say of names.
use Rattle.std.proofs.Common.{◌≡◌, ℕ, Bool, true, false, cond, List, [], ◌∷◌, ◌++◌, map, Option}
use Rattle.std.proofs.Common.{Some, None, refl, sym, ap, ◌∙◌}
use Rattle.std.specs.Prelude.{option_map, find, is_some, ◌||◌}
use Rattle.std.specs.List.{list_any}
use Rattle.std.specs.Map.{lookup}
use Rattle.std.specs.Str.{bytes_eq}
use Rattle.sv_token.specs.Bytes.{entry}

chosen : {A B : Type 0} (f : A → B) (b : Bool) (x : A) (rest : Option A)
    → cond b (Some (f x)) (option_map f rest) ≡ option_map f (cond b (Some x) rest)
chosen f true x rest = refl
chosen f false x rest = refl

-- of a list that begins with a name
pub entry_first : {A : Type 0} (e : List ℕ × A) (es : List (List ℕ × A)) (n : List ℕ)
    → entry (e ∷ es) n ≡ cond (bytes_eq n e.0) (Some e.1) (entry es n)
entry_first {A} e es n =
    sym (chosen (λ (row : List ℕ × A). row.1) (bytes_eq n e.0) e
    (find (λ (row : List ℕ × A). bytes_eq n row.0) es))

-- of a list whose values are changed
pub entry_map : {A B : Type 0} (f : A → B) (es : List (List ℕ × A)) (n : List ℕ)
    → entry (map (λ (e : List ℕ × A). (e.0, f e.1)) es) n ≡ option_map f (entry es n)
entry_map f [] n = refl
entry_map {A} {B} f (e ∷ es) n =
    entry_first (e.0, f e.1) (map (λ (e : List ℕ × A). (e.0, f e.1)) es) n
    ∙ ap (λ (r : Option B). cond (bytes_eq n e.0) (Some (f e.1)) r) (entry_map f es n)
    ∙ chosen f (bytes_eq n e.0) e.1 (entry es n)
    ∙ ap (λ (r : Option A). option_map f r) (sym (entry_first e es n))

-- the first of two values that may be there
abbrev pub first_of_two : {A : Type 0} → Option A → Option A → Option A
first_of_two (Some x) other = Some x
first_of_two None other = other

chosen_two : {A : Type 0} (b : Bool) (x : A) (r s : Option A)
    → cond b (Some x) (first_of_two r s) ≡ first_of_two (cond b (Some x) r) s
chosen_two true x r s = refl
chosen_two false x r s = refl

-- of two lists, one behind the other
pub entry_append : {A : Type 0} (xs ys : List (List ℕ × A)) (n : List ℕ)
    → entry (xs ++ ys) n ≡ first_of_two (entry xs n) (entry ys n)
entry_append [] ys n = refl
entry_append {A} (e ∷ xs) ys n =
    entry_first e (xs ++ ys) n
    ∙ ap (λ (r : Option A). cond (bytes_eq n e.0) (Some e.1) r) (entry_append xs ys n)
    ∙ chosen_two (bytes_eq n e.0) e.1 (entry xs n) (entry ys n)
    ∙ ap (λ (r : Option A). first_of_two r (entry ys n)) (sym (entry_first e xs n))

pub first_of_none : {A : Type 0} (r : Option A) → first_of_two r None ≡ r
first_of_none (Some x) = refl
first_of_none None = refl

-- where a list says nothing of a name, the name is not its first, and the others say nothing of it
pub none_parts : {A : Type 0} (e : List ℕ × A) (es : List (List ℕ × A)) (n : List ℕ)
    → entry (e ∷ es) n ≡ None → (bytes_eq n e.0 ≡ false) × (entry es n ≡ None)
none_parts {A} e es n none = by (bytes_eq n e.0) refl
  where
    by : (b : Bool) → bytes_eq n e.0 ≡ b → (bytes_eq n e.0 ≡ false) × (entry es n ≡ None)
    by true q =
        let there : Some e.1 ≡ None =
        ap (λ (b : Bool). cond b (Some e.1) (entry es n)) (sym q) ∙ sym (entry_first e es n)
        ∙ none in
        absurd (cc there)
    by false q = (
      q,
      ap (λ (b : Bool). cond b (Some e.1) (entry es n)) (sym q)
          ∙ sym (entry_first e es n) ∙ none,
    )

-- whether a list says something of a name
pub entry_there : {A : Type 0} (es : List (List ℕ × A)) (n : List ℕ)
    → is_some (entry es n) ≡ list_any (bytes_eq n) (map (λ (e : List ℕ × A). e.0) es)
entry_there [] n = refl
entry_there {A} (e ∷ es) n =
    ap (λ (r : Option A). is_some r) (entry_first e es n) ∙ by (bytes_eq n e.0) (entry_there es n)
  where
    by : (b : Bool) → is_some (entry es n) ≡
        list_any (bytes_eq n) (map (λ (e : List ℕ × A). e.0) es)
        → is_some (cond b (Some e.1) (entry es n))
        ≡ (b || list_any (bytes_eq n) (map (λ (e : List ℕ × A). e.0) es))
    by true rest = refl
    by false rest = rest

pub none_there : {A : Type 0} (r : Option A) → is_some r ≡ false → r ≡ None
none_there None h = refl
none_there (Some x) h = absurd (cc h)

-- a table's look-up is that
pub lookup_is_entry : {A : Type 0} (n : List ℕ) (es : List (List ℕ × A))
    → lookup (bytes_eq n) es ≡ entry es n
lookup_is_entry n [] = refl
lookup_is_entry {A} n (e ∷ es) =
    ap (λ (r : Option A). cond (bytes_eq n e.0) (Some e.1) r) (lookup_is_entry n es)
    ∙ sym (entry_first e es n)
