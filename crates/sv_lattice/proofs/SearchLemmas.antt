-- Searches of points for the first one, and row by row for the first pair.
use Rattle.std.proofs.Common.{◌≡◌, ℕ, ◌+◌, ◌<◌, ◌≤◌, ◌⊎◌, inl, inr, Option, Some, None}
use Rattle.std.proofs.Common.{Bool, true, false, refl, ◌↔◌, IsTrue, not, subst, sym, arith}
use Rattle.std.specs.Prelude.{MatchOption, IsSomeAnd, IfSome}
use Rattle.std.specs.Option.{option_map}
use Rattle.std.specs.declared.ops.Range.{Range}
use Rattle.std.specs.Iterator.Runs.{Run, SomeRun, EveryRun, ItemsCountUp, AllItemsGive}
use Rattle.std.specs.Iterator.Runs.{IsFirstToGive, CallKeepsClosure}
use Rattle.std.specs.Fn.{Mut, Called}
use Rattle.sv_lattice.specs.Flows.{IsFirstWithout}
use Rattle.sv_lattice.specs.Tables.{IsFirstNot, FindsNumber, FindsPair}

-- what `find` over the numbers below n says, where it looks for one of which P does not hold
pub found_number : (n : ℕ) (P : ℕ → Type 0) (r : Option ℕ) →
    MatchOption r ((k : ℕ) → 0 ≤ k → k < n → P k) (λ i.
    (0 ≤ i) × (i < n) × (P i → ⊥) × ((k : ℕ) → 0 ≤ k → k < i → P k)) →
    FindsNumber n P r
found_number n P None none = λ k p. none k (omega arith) p
found_number n P (Some i) first = record {
  is_point = first.1;
  fails = first.2;
  before = λ j p. first.3 j (omega arith) p;
}

-- the answer turns round that of a function that tells whether P
abbrev pub Denies : Type 0 → Bool → Type 0
Denies P answer = (told : Bool) × (IsTrue told ↔ P) × (answer ≡ not told)

pub fails_if : (P : Type 0) → Denies P true → P → ⊥
fails_if P (told, says, turned) p = let sure : told ≡ true = says.1 p in cc

pub holds_unless : (P : Type 0) → Denies P false → P
holds_unless P (true, says, turned) = says.0 refl
holds_unless P (false, says, turned) = cc

module _ (n : ℕ) (Q : ℕ → ℕ → Type 0) (a : ℕ) (rows : (c d : ℕ) → c < a → d < n → Q c d) where
  before_pair : (b c d : ℕ) → ((j : ℕ) → j < b → Q a j) → d < n →
      (c < a) ⊎ ((c ≡ a) × (d < b)) → Q c d
  before_pair b c d below p (inl lt) = rows c d lt p
  before_pair b c d below p (inr h) = subst (λ k. Q k d) (sym h.0) (below d h.1)

  -- the first in row a, where the rows before have none
  pub first_pair : (b : ℕ) → a < n → IsFirstNot n (Q a) b → IsFirstWithout n Q a b
  first_pair b p first = record {
    first_is_point = p;
    second_is_point = first.is_point;
    fails = first.fails;
    before = λ c d q r. before_pair b c d first.before r;
  }

-- the answer is point x and what a search of its row found
abbrev pub TellsRow : ℕ → (ℕ → ℕ → Type 0) → ℕ → Option (ℕ × ℕ) → Type 0
TellsRow n Q x answer =
    (found : Option ℕ) × FindsNumber n (Q x) found × (answer ≡ option_map (λ b. (x, b)) found)

-- a search of row x for a second point has this answer
abbrev FindsInRow : ℕ → (ℕ → ℕ → Type 0) → ℕ → Option (ℕ × ℕ) → Type 0
FindsInRow n Q x answer =
    MatchOption answer ((d : ℕ) → d < n → Q x d)
    (λ pair. (pair.0 ≡ x) × IsFirstNot n (Q x) pair.1)

in_row : (n : ℕ) (Q : ℕ → ℕ → Type 0) (x : ℕ) (answer : Option (ℕ × ℕ)) → TellsRow n Q x answer →
    FindsInRow n Q x answer
in_row n Q x answer (None, found, is) = subst (FindsInRow n Q x) (sym is) found
in_row n Q x answer (Some b, found, is) = subst (FindsInRow n Q x) (sym is) (refl, found)

at_place : (o : Option ℕ) (x : ℕ) (P : ℕ → Type 0) → option_map (λ y. y) o ≡ Some (0 + x) →
    IfSome o P → P x
at_place None x P e all = cc
at_place (Some y) x P e all =
    let is : y ≡ 0 + x = cc in
    subst P {x = y} {y = x} (omega (arith, is)) all

at_end : (o : Option ℕ) (x : ℕ) (P : ℕ → Type 0) → option_map (λ y. y) o ≡ Some (0 + x) →
    IsSomeAnd o P → P x
at_end None x P e all = cc
at_end (Some y) x P e all = at_place (Some y) x P e all

module _ (n : ℕ) (Q : ℕ → ℕ → Type 0) {F : Type 0}
    {g : Mut F (ℕ × Unit {0}) (Option (ℕ × ℕ))} (f : F) (keeps : CallKeepsClosure g f)
    (row : (x : ℕ) (o : Option (ℕ × ℕ)) → x < n → Called g f (x, tt) o f → TellsRow n Q x o) where
  abbrev Gives : Option (ℕ × ℕ) → ℕ → Type 0
  Gives o x = Called g f (x, tt) o f

  module _ {steps : Range ℕ → Option ℕ → Range ℕ → Type 0} (p : Run steps)
      (up : ItemsCountUp p 0 n) where
    by_rows : (r : Option (ℕ × ℕ)) →
        MatchOption r (IsTrue p.whole × AllItemsGive p g f None) (λ y.
        (i : ℕ) × (i < p.len) × (p.len ≡ i + 1) × IsFirstToGive p g f (Some y) None i) →
        FindsPair n Q r
    by_rows None all =
        λ a b q s. in_row n Q a None (row a None q
        (at_place (p.at a) a (Gives None) (up.3 a (omega (arith, up.1 all.0, q)))
        (all.1 keeps a))) b s
    by_rows (Some y) first =
        let i = first.0 in
        let gives = first.3 keeps in
        let i_in : i < n = omega (arith, up.0, first.1) in
        let found =
        in_row n Q i (Some y) (row i (Some y) i_in
        (at_end (p.at i) i (Gives (Some y)) (up.3 i first.1) gives.0)) in
        let before : (c d : ℕ) → c < i → d < n → Q c d =
        λ c d q s. in_row n Q c None (row c None (omega arith)
        (at_end (p.at c) c (Gives None) (up.3 c (omega (arith, first.1))) (gives.1 c q))) d s in
        subst (λ a. IsFirstWithout n Q a y.1) (sym found.0)
        (first_pair n Q i before y.1 i_in found.1)

  -- what `find_map` says over the points, where each call searches the row of one
  pub row_by_row : {steps : Range ℕ → Option ℕ → Range ℕ → Type 0} →
      EveryRun steps (λ p. ItemsCountUp p p.from.start p.from.end) → (r : Option (ℕ × ℕ)) →
      SomeRun steps (record { start = 0; end = n }) (λ p.
      MatchOption r (IsTrue p.whole × AllItemsGive p g f None) (λ y.
      (i : ℕ) × (i < p.len) × (p.len ≡ i + 1) × IsFirstToGive p g f (Some y) None i)) →
      FindsPair n Q r
  row_by_row counts r (p, starts, says) =
      by_rows p
      (subst (λ (s : Range ℕ). ItemsCountUp p s.start s.end) starts (counts p p.seen)) r says
