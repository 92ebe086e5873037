-- Lists of numbers that ascend.
use Rattle.std.proofs.Common.{◌≡◌, ℕ, ◌<◌, ◌≤◌, List, ap, ◌∙◌, ⊎_elim, length, take, get_or}
use Rattle.std.proofs.Common.{arith}
use Rattle.std.specs.Prelude.{All, AllPairs, Contains}
use Rattle.std.proofs.lemmas.Bool.{cases_order, cases_lt, ltb-true, lt-ltb}
use Rattle.std.specs.List.Sorted.{IsPartitionedBy}
use lib.Dec.{ltb}
use Rattle.std.proofs.lemmas.List.{get_or_default, get_or-take, length-take-le}

-- an ascending list: what is below its element at a place stands before that place
pub before_place : (xs : List ℕ) (n x : ℕ) → AllPairs ◌<◌ xs → n < length xs → x < get_or xs n 0 →
    Contains xs x → Contains (take n xs) x
before_place xs n x up h lt (k, small, at) =
    let mine : get_or xs k 0 ≡ x = get_or_default xs k 0 x small ∙ at in
    let low : k < n =
    ⊎_elim (λ less. less)
    (λ ge. ⊎_elim (λ same.
    absurd (let e : get_or xs n 0 ≡ get_or xs k 0 = ap (λ z. get_or xs z 0) same in
    omega arith))
    (λ other. ⊎_elim (λ less.
    absurd (let more : get_or xs n 0 < get_or xs k 0 = up n k 0 less small in
    omega arith)) (λ more. absurd (omega arith)) other)
    (cases_order n k))
    (cases_lt k n) in
    let size : length (take n xs) ≡ n = length-take-le n xs (omega arith) in
    (k, omega arith, get_or-take n xs k x low ∙ at)

pub ascend_take : (xs : List ℕ) (n : ℕ) → AllPairs ◌<◌ xs → n ≤ length xs → AllPairs ◌<◌ (take n xs)
ascend_take xs n up most i j d lt h =
    let size : length (take n xs) ≡ n = length-take-le n xs most in
    let less : get_or xs i d < get_or xs j d = up i j d lt (omega arith) in
    let one : get_or (take n xs) i d ≡ get_or xs i d = get_or-take n xs i d (omega arith) in
    let other : get_or (take n xs) j d ≡ get_or xs j d = get_or-take n xs j d (omega arith) in
    omega arith

-- an ascending list: what is below a bound stands before what is not
pub below_first : (xs : List ℕ) (bound : ℕ) → AllPairs ◌<◌ xs →
    IsPartitionedBy (λ x. ltb x bound) xs
below_first xs bound up i j d le some below =
    let low : get_or xs j d < bound = ltb-true (get_or xs j d) bound below in
    lt-ltb (get_or xs i d) bound
    (⊎_elim (λ less. let more : get_or xs i d < get_or xs j d = up i j d less some in omega arith)
    (λ ge. let same : i ≡ j = omega arith in
    let here : get_or xs i d ≡ get_or xs j d = ap (λ z. get_or xs z d) same in omega arith)
    (cases_lt i j))

-- an ascending list: what is not below a bound stands at a place or later, and is no lower
pub from_place : (xs : List ℕ) (n bound : ℕ) → AllPairs ◌<◌ xs → n < length xs →
    All (λ x. x < bound) (take n xs) → All (λ x. bound ≤ x → get_or xs n 0 ≤ x) xs
from_place xs n bound up some below k d h high =
    ⊎_elim
    (λ less. let size : length (take n xs) ≡ n = length-take-le n xs (omega arith) in
    let low : get_or (take n xs) k d < bound = below k d (omega arith) in
    let at : get_or (take n xs) k d ≡ get_or xs k d = get_or-take n xs k d less in
    absurd (omega arith))
    (λ ge. let here : get_or xs n d ≡ get_or xs n 0 = get_or_default xs n d 0 some in
    ⊎_elim (λ same. let at : get_or xs n d ≡ get_or xs k d = ap (λ z. get_or xs z d) same in
    omega arith)
    (λ other. ⊎_elim (λ less. let more : get_or xs n d < get_or xs k d = up n k d less h in
    omega arith) (λ more. absurd (omega arith)) other)
    (cases_order n k))
    (cases_lt k n)
