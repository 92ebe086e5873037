-- Searches from what is read to what it is read for.
use Rattle.std.proofs.Common.{◌≡◌, ℕ, ◌+◌, ◌<◌, Bool, false}
use Rattle.std.proofs.Common.{List, [], ◌∷◌, ◌++◌, length, get_or}
use Rattle.std.proofs.Common.{◌⊎◌, ⊎_elim, refl, sym, ap, subst, ◌∙◌, arith}
use Rattle.std.specs.Prelude.{IsTrue, IsFalse, Contains}
use Rattle.std.specs.List.{list_any}
use Rattle.std.proofs.lemmas.Bool.{false≢true}
use Rattle.std.proofs.lemmas.List.{length_push, get_or_push, get_or_append_left}
use Rattle.sv_system.proofs.Lists.{Contains-head, Contains-nil, Contains-cases}
use Rattle.sv_flat.specs.Sets.{least_set}
use Rattle.sv_flat.proofs.LeastSets.{some_from, from_some}
use Rattle.sv_flat.proofs.LeastSets.{least_set_has, least_set_least}
use Rattle.sv_graph.specs.BitGraphs.{leads_through}
use Rattle.sv_graph.proofs.BitFacts.{same_answer}
use Rattle.sv_graph.proofs.SearchFacts.{below_or_at}

-- ---- ways back

pub only_one : (x y : ℕ) → Contains (x ∷ []) y → x ≡ y
only_one x y at = ⊎_elim (λ e. e) (λ l. absurd (Contains-nil y l)) (Contains-cases x [] y at)

-- where there are no earlier reads, what is read for a signal feeds it at once
pub through_none : (n : ℕ) (settled earlier : ℕ → ℕ → Bool) → ((a b : ℕ) → IsFalse (earlier a b))
    → (a b : ℕ) → b < n → settled a b ≡ leads_through n settled earlier a b
through_none n settled earlier none a b below =
    let brings : ℕ → ℕ → Bool = λ m k. earlier k m in
    let starts = λ (k : ℕ) (at : Contains (b ∷ []) k). subst (λ z. z < n) (only_one b k at) below in
    let all = least_set n brings (b ∷ []) in
    same_answer (settled a b) (list_any (settled a) all)
    (λ h. some_from (settled a) all b
    (least_set_has n brings (b ∷ []) starts b (Contains-head b [])) h)
    (λ h.
    let found = from_some (settled a) all h in
    let same = least_set_least n brings (b ∷ []) starts (λ z. b ≡ z) (λ k at. only_one b k at)
    (λ m k e leads k_below. absurd (false≢true (sym (none k m) ∙ leads))) found.0 found.1 in
    subst (λ z. IsTrue (settled a z)) (sym same) found.2)

-- the rows so far
pub record RowsSoFar (rows : List (List ℕ)) (i : ℕ) (all : ℕ → List ℕ) : Type 0 where
  pub size_is : length rows ≡ i
  pub are : (k : ℕ) → k < i → get_or rows k [] ≡ all k

pub rows_begin : (all : ℕ → List ℕ) → RowsSoFar [] 0 all
rows_begin all = record { size_is = refl; are = λ k below. absurd (omega arith) }

pub rows_more : (rows : List (List ℕ)) (i : ℕ) (all : ℕ → List ℕ) (list : List ℕ)
    → list ≡ all i → RowsSoFar rows i all
    → RowsSoFar (rows ++ list ∷ []) (i + 1) all
rows_more rows i all list is so_far = record {
  size_is = length_push rows list ∙ ap (λ k. k + 1) so_far.size_is;
  are = λ k below. ⊎_elim
      (λ l. get_or_append_left rows (list ∷ []) [] k
      (subst (λ m. k < m) (sym so_far.size_is) l) ∙ so_far.are k l)
      (λ e. get_or_push rows list [] k (so_far.size_is ∙ e) ∙ is ∙ ap all e)
      (below_or_at k i below);
}
