-- How the numbers and flags in words are read.
use Rattle.std.proofs.Common.{◌≡◌, ◌∙◌, ◌<◌, ◌^◌, ◌==◌, ◌||◌, ℕ, Bool, true, false, List, [], ◌∷◌}
use Rattle.std.proofs.Common.{Option, Some, None, refl, sym, ap, subst, arith, cond, drop, ne_eqb}
use Rattle.std.proofs.Common.{codes}
use Rattle.std.specs.Prelude.{Result, Ok, Err, pos, unwrap_or, option_map, option_and_then}
use Rattle.std.specs.Prelude.{slice_get}
use Rattle.std.specs.Borrow.{Bor}
use Rattle.std.specs.Str.{bytes_eq}
use Rattle.std.specs.Str.Parse.{IsNumeral, ParsesUnsigned, digits_value, starts_with_minus}
use Rattle.std.specs.Str.Parse.{without_leading_plus}
use Rattle.std.proofs.lemmas.Int.{ints}
use Rattle.std.proofs.lemmas.Slice.Eq.{bytes_eq-Decides}
use Rattle.std.proofs.lemmas.Str.Parse.{digit_from_value}
use Rattle.clap.specs.Lexer.{without_minus}
use Rattle.clap.specs.Matches.{ReadsOne, first_value, matched_of, one_text}
use Rattle.clap.specs.Values.{IsSignedIn, read_as}
use Rattle.clap.specs.declared.parser.matches.Found.{Found}
use Rattle.clap.specs.declared.parser.matches.MatchedArg.{MatchedArg}
use Rattle.sv_words.specs.Lines.{greatest_budget, greatest_small}
use Rattle.sv_words.specs.Words.{IsBudget, budget_of, default_budget, is_set, number_of}

-- a numeral begins with no minus
no_minus : (ds : List ℕ) → IsNumeral 10 (without_leading_plus ds) → starts_with_minus ds ≡ false
no_minus [] h = refl
no_minus (d ∷ ds) h = by_plus (d == 43) refl
  where
    by_plus : (b : Bool) → (d == 43) ≡ b → (d == 45) ≡ false
    by_plus true is = ne_eqb _ _ (λ e. let f : d ≡ 43 = cc in omega (arith, e, f))
    by_plus false is =
        let h2 : IsNumeral 10 (d ∷ ds) =
        subst (λ (b : Bool). IsNumeral 10 (drop (cond b 1 0) (d ∷ ds))) is h in
        ne_eqb _ _ (λ e. omega (arith, digit_from_value d h2.1.0))

-- behind a plus or no sign the digits are the same
pub unsigned_number : (t : List ℕ) → IsNumeral 10 (without_leading_plus t)
    → digits_value 10 (without_leading_plus t) ≡ number_of t
unsigned_number t numeral =
    ap (λ (b : Bool). digits_value 10 (cond b (drop 1 t) (without_leading_plus t)))
    (sym (no_minus t numeral))

-- digits have no plus before them
no_plus : (ds : List ℕ) → IsNumeral 10 ds → without_leading_plus ds ≡ ds
no_plus [] h = refl
no_plus (d ∷ ds) h =
    ap (λ (b : Bool). drop (cond b 1 0) (d ∷ ds))
    (ne_eqb _ _ (λ (e : d ≡ 43). omega (arith, e, digit_from_value d h.1.0)))

minus_dropped : (t : List ℕ) → without_minus t ≡ cond (starts_with_minus t) (drop 1 t) t
minus_dropped [] = refl
minus_dropped (x ∷ xs) = by_first (x == 45)
  where
    by_first : (b : Bool) → unwrap_or (cond b (Some xs) None) (x ∷ xs) ≡ cond b xs (x ∷ xs)
    by_first true = refl
    by_first false = refl

-- a text that is a number of 32 bits is read as that number
pub small_number : (E : Type 0) (G : List ℕ → Result ℕ E → Type 0) (t : List ℕ) (r : Option ℕ)
    → ReadsOne G (without_minus t) r
    → ((u : List ℕ) (x : Result ℕ E) → G u x → ParsesUnsigned 32 10 u x)
    → IsSignedIn (pos 0) (pos greatest_small) t → r ≡ Some (number_of t)
small_number E G t r read only passed =
    go (starts_with_minus t) refl r
    (subst (λ (u : List ℕ). ReadsOne G u r) (minus_dropped t) read)
  where
    go : (b : Bool) → starts_with_minus t ≡ b → (o : Option ℕ)
        → ReadsOne G (cond (starts_with_minus t) (drop 1 t) t) o → o ≡ Some (number_of t)
    go true minus (Some v) h =
        let numeral : IsNumeral 10 (drop 1 t) = rw minus at passed.0 in
        let parsed = only (drop 1 t) (Ok v) (rw minus at h) in
        ap Some (parsed.1 ∙ ap (digits_value 10) (no_plus (drop 1 t) numeral)
        ∙ ap (λ (b : Bool). digits_value 10 (cond b (drop 1 t) (without_leading_plus t)))
        (sym minus))
    go true minus None h =
        let low_ok = rw minus at passed.2 in
        let numeral : IsNumeral 10 (drop 1 t) = rw minus at passed.0 in
        let same = no_plus (drop 1 t) numeral in
        let small : digits_value 10 (drop 1 t) < 2 ^ 32 = omega (arith, ints) in
        absurd (only (drop 1 t) (Err h.0) (rw minus at h.1) (rw same numeral, rw same small))
    go false minus (Some v) h =
        let parsed = only t (Ok v) (rw minus at h) in
        ap Some (parsed.1
        ∙ ap (λ (b : Bool). digits_value 10 (cond b (drop 1 t) (without_leading_plus t)))
        (sym minus))
    go false minus None h =
        let low_ok = rw minus at passed.2 in
        let high_ok = rw minus at passed.3 in
        let numeral = rw minus at passed.0 in
        absurd (only t (Err h.0) (rw minus at h.1) (numeral, omega (arith, ints)))

-- ---- budgets

within_small : (t : List ℕ) → IsSignedIn (pos 1) (pos greatest_budget) t
    → IsSignedIn (pos 0) (pos greatest_small) t
within_small t h =
    let low = h.2 in
    let high = h.3 in
    (h.0, h.1, omega (arith, ints), omega (arith, ints))

within_budget : (t : List ℕ) → IsSignedIn (pos 1) (pos greatest_budget) t
    → IsBudget (number_of t)
within_budget t passed = go (starts_with_minus t) refl
  where
    go : (b : Bool) → starts_with_minus t ≡ b → IsBudget (number_of t)
    go true minus =
        let low = rw minus at passed.2 in
        absurd (omega (arith, ints))
    go false minus =
        let low = rw minus at passed.2 in
        let high = rw minus at passed.3 in
        let same : number_of t ≡ digits_value 10 (without_leading_plus t) =
        ap (λ (b : Bool). digits_value 10 (cond b (drop 1 t) (without_leading_plus t))) minus in
        (omega (arith, ints), omega (arith, ints))

-- an argument that is not there is not read
no_value : (a : MatchedArg) (o : Option (Bor (List ℕ)))
    → option_map (λ (s : Bor (List ℕ)). s.now) o ≡ None
    → option_map (λ (s : Bor (List ℕ)). read_as a.reading s.now) o ≡ None
no_value a None none = refl
no_value a (Some s) none = absurd cc

not_read : (f : Found) (id : List ℕ) → first_value f id ≡ None → one_text f id ≡ None
not_read f id = go (matched_of f id)
  where
    go : (o : Option MatchedArg)
        → option_and_then (λ (a : MatchedArg).
        option_map (λ (s : Bor (List ℕ)). s.now) (slice_get a.vals.items 0)) o ≡ None
        → option_and_then (λ (a : MatchedArg).
        option_map (λ (s : Bor (List ℕ)). read_as a.reading s.now) (slice_get a.vals.items 0)) o
        ≡ None
    go None none = refl
    go (Some a) none = no_value a (slice_get a.vals.items 0) none

-- the value of `--budget` is read as its number, and the default where it is not there
pub budget_is_read : (E : Type 0) (G : List ℕ → Result ℕ E → Type 0) (f : Found) (id : List ℕ)
    (r : Option ℕ) → (one_text f id ≡ None → r ≡ None)
    → ((t : List ℕ) → one_text f id ≡ Some t → ReadsOne G t r)
    → ((u : List ℕ) (x : Result ℕ E) → G u x → ParsesUnsigned 32 10 u x)
    → ((t : List ℕ) → first_value f id ≡ Some t → (one_text f id ≡ Some (without_minus t))
    × IsSignedIn (pos 1) (pos greatest_budget) t)
    → (unwrap_or r default_budget ≡ budget_of (first_value f id))
    × IsBudget (unwrap_or r default_budget)
budget_is_read E G f id r none value only has = go (first_value f id) refl
  where
    given : Option (List ℕ) → Option ℕ → Type 0
    given o n = (unwrap_or n default_budget ≡ budget_of o) × IsBudget (unwrap_or n default_budget)

    go : (o : Option (List ℕ)) → first_value f id ≡ o → given o r
    go None e = subst (given None) (sym (none (not_read f id e))) (refl, (omega arith, omega arith))
    go (Some t) e =
        let h = has t e in
        subst (given (Some t))
        (sym (small_number E G t r (value (without_minus t) h.0) only (within_small t h.1)))
        (refl, within_budget t h.1)

-- ---- flags

-- a flag is read as whether it stands
pub flag_is_read : (f : Found) (id : List ℕ) (r : Bool)
    → (one_text f id ≡ None → r ≡ false) → (one_text f id ≡ Some (codes "true") → r ≡ true)
    → (one_text f id ≡ Some (codes "false") → r ≡ false)
    → ((t : List ℕ) → first_value f id ≡ Some t → (one_text f id ≡ Some t)
    × ((bytes_eq t (codes "true") || bytes_eq t (codes "false")) ≡ true))
    → r ≡ is_set (first_value f id)
flag_is_read f id r none if_true if_false has = go (first_value f id) refl
  where
    by_text : (t : List ℕ) → one_text f id ≡ Some t → (b : Bool) → bytes_eq t (codes "true") ≡ b
        → (b || bytes_eq t (codes "false")) ≡ true → r ≡ b
    by_text t one true is word =
        if_true (one ∙ ap Some ((bytes_eq-Decides t (codes "true")).0 is))
    by_text t one false is word =
        if_false (one ∙ ap Some ((bytes_eq-Decides t (codes "false")).0 word))

    go : (o : Option (List ℕ)) → first_value f id ≡ o → r ≡ is_set o
    go None e = none (not_read f id e)
    go (Some t) e =
        let h = has t e in
        by_text t h.0 (bytes_eq t (codes "true")) refl h.1
