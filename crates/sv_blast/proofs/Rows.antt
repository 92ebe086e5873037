-- Rows of a table of words, by number.
use Rattle.std.proofs.Common.{◌≡◌, ℕ, zero, suc, ◌<◌, ◌≢◌, ◌==◌, Bool, true, false, List, [], ◌∷◌}
use Rattle.std.proofs.Common.{◌++◌, length, map, get_or, set, if◌then◌else◌, cond, refl, sym, ap, subst}
use Rattle.std.proofs.Common.{◌∙◌, arith, eqb-true}
use Rattle.std.proofs.lemmas.Bool.{false≢true}
use Rattle.std.proofs.lemmas.Bool.{eq-eqb}
use Rattle.sv_circuits.specs.Words.{Word}

-- one more row without a word
pub words_push : {R : Type 0} (f : R → Word) (rows : List R) (row : R) (s : ℕ) → f row ≡ [] →
    get_or (map f (rows ++ row ∷ [])) s [] ≡ get_or (map f rows) s []
words_push f [] row zero e = e
words_push f [] row (suc s) e = refl
words_push f (r ∷ rows) row zero e = refl
words_push f (r ∷ rows) row (suc s) e = words_push f rows row s e

put_same : {R : Type 0} (f : R → Word) (rows : List R) (row : R) (k : ℕ) → k < length rows →
    get_or (map f (set rows k row)) k [] ≡ f row
put_same f [] row k h = absurd (omega arith)
put_same f (r ∷ rows) row zero h = refl
put_same f (r ∷ rows) row (suc k) h = put_same f rows row k (omega arith)

put_other : {R : Type 0} (f : R → Word) (rows : List R) (row : R) (k s : ℕ) → s ≢ k →
    get_or (map f (set rows k row)) s [] ≡ get_or (map f rows) s []
put_other f [] row k s h = refl
put_other f (r ∷ rows) row zero zero h = absurd (h refl)
put_other f (r ∷ rows) row zero (suc s) h = refl
put_other f (r ∷ rows) row (suc k) zero h = refl
put_other f (r ∷ rows) row (suc k) (suc s) h = put_other f rows row k s (λ e. h (ap suc e))

-- one row's word changed
pub words_put : {R : Type 0} (f : R → Word) (rows : List R) (row : R) (k s : ℕ) →
    k < length rows →
    get_or (map f (set rows k row)) s [] ≡ (if s == k then f row else get_or (map f rows) s [])
words_put f rows row k s h = by (s == k) refl
  where
    by : (t : Bool) → (s == k) ≡ t →
        get_or (map f (set rows k row)) s [] ≡ cond t (f row) (get_or (map f rows) s [])
    by true e =
        subst (λ z. get_or (map f (set rows k row)) z [] ≡ f row) (sym (eqb-true s k e))
        (put_same f rows row k h)
    by false e =
        put_other f rows row k s (λ same. false≢true (sym e ∙ eq-eqb s k same))
