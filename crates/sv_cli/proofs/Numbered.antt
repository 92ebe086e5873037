-- The obligation of a number, where those of one target are looked at after the other.
use Rattle.std.proofs.Common.{◌≡◌, ℕ, ◌+◌, ◌-◌, ◌<◌, ◌≤◌, ◌++◌, zero, suc, List, [], ◌∷◌, map}
use Rattle.std.proofs.Common.{length, Option, Some, None, refl, sym, ◌∙◌, ap, arith}
use Rattle.std.proofs.Common.{length-append}
use Rattle.std.specs.Prelude.{slice_get, option_map, IfSome, All, Result, Ok, Err, IfOk}
use Rattle.std.proofs.lemmas.Option.{slice_get-map}
use Rattle.sv_flat.specs.Design.{FlatDesign}
use Rattle.sv_obl.specs.DesignQueries.{IsQueryOf}
use Rattle.sv_paths.specs.ListParts.{IsAt, obligations_before, obligations_from}
use Rattle.sv_obl.specs.Obligations.{Obligation, obligations, target_obligations}
use Rattle.sv_obl.specs.Views.{obligation_of}
use Rattle.sv_paths.specs.declared.list_parts.Listing.{Listing}
use Rattle.sv_obl.specs.declared.queries.Query.{Query}
use Rattle.sv_obl.proofs.FormLists.{get_all}
use Rattle.sv_paths.proofs.WrittenFacts.{before_and_from, from_next, next_before}
use Rattle.sv_judge.proofs.Lists.{get_behind, get_first}
use Rattle.sv_cli.specs.Clauses.{IsFoundOrNext}

-- ---- lists

module _ {A : Type 0} where
  -- nothing stands past the end alone
  pub none_past : (xs : List A) (k : ℕ) → slice_get xs k ≡ None → length xs ≤ k
  none_past [] k none = omega arith
  none_past (x ∷ xs) zero none = absurd cc
  none_past (x ∷ xs) (suc k) none = let low = none_past xs k none in omega arith

-- ---- obligations

module _ (design : FlatDesign) (before : ℕ) where
  -- the plain form of what stands at a place
  plain_at : (queries : List Query) (os : List Obligation) (k : ℕ) (found : Option Query)
      → map obligation_of queries ≡ os → found ≡ slice_get queries k
      → option_map obligation_of found ≡ slice_get os k
  plain_at queries os k found are is =
      ap (option_map obligation_of) is ∙ sym (slice_get-map obligation_of queries k)
      ∙ ap (λ (xs : List Obligation). slice_get xs k) are

  -- a query that was found is one of the design
  pub is_query : (queries : List Query) (k : ℕ) (found : Option Query)
      → All (IsQueryOf design) (map obligation_of queries) → found ≡ slice_get queries k
      → IfSome found (λ query. IsQueryOf design (obligation_of query))
  is_query queries k None all is = tt
  is_query queries k (Some query) all is =
      get_all (IsQueryOf design) (map obligation_of queries) k (obligation_of query) all
      (sym (plain_at queries (map obligation_of queries) k (Some query) refl is))

  -- the place among those behind the first ones
  place : (first : ℕ) → first ≤ before → before ≡ first + (before - first)
  place first behind = omega arith

  -- among the obligations of the target that comes next
  pub found_or_next : (i : ℕ) (old new : Listing) (found : Option Query)
      → i < length design.signals → IsAt design i old → IsAt design (i + 1) new
      → old.count ≤ before
      → option_map obligation_of found
      ≡ slice_get (target_obligations [] design i) (before - old.count)
      → IfSome found (λ query. IsQueryOf design (obligation_of query))
      → IsFoundOrNext design (i + 1) before new found
  found_or_next i old new (Some query) inside at next behind is of_design =
      let k = before - old.count in
      let here = target_obligations [] design i in
      let before_it = obligations_before design i in
      let after = obligations_from design (i + 1) in
      let at_place : before ≡ length before_it + k =
      place old.count behind ∙ ap (λ n. n + k) at.counted.count in (
        ap (λ n. slice_get (obligations [] design) n) at_place
            ∙ ap (λ (os : List Obligation). slice_get os (length before_it + k))
            (sym (before_and_from design i (low i inside)) ∙ ap (λ os. before_it ++ os)
            (from_next design i inside))
            ∙ get_behind before_it (here ++ after) k
            ∙ get_first here after k (obligation_of query) (sym is),
        of_design,
      )
    where
      low : (j : ℕ) → j < length design.signals → j ≤ length design.signals
      low j lt = omega arith
  found_or_next i old new None inside at next behind is of_design =
      (next, above (length (target_obligations [] design i)) past many)
    where
      past : length (target_obligations [] design i) ≤ before - old.count
      past = none_past (target_obligations [] design i) (before - old.count) (sym is)

      many : new.count ≡ old.count + length (target_obligations [] design i)
      many =
          next.counted.count
          ∙ ap length (next_before design i)
          ∙ length-append (obligations_before design i) (target_obligations [] design i)
          ∙ ap (λ n. n + length (target_obligations [] design i)) (sym at.counted.count)

      above : (n : ℕ) → n ≤ before - old.count → new.count ≡ old.count + n → new.count ≤ before
      above n le is_many = omega arith

-- what follows from two facts on the value in an `Ok`
pub both_ok : {T E : Type 0} (r : Result T E) (P Q R : T → Type 0) → IfOk r P → IfOk r Q
    → ((x : T) → P x → Q x → R x) → IfOk r R
both_ok (Ok x) P Q R first second then = then x first second
both_ok (Err y) P Q R first second then = tt
