-- Tables that say of each signal whether it is marked: what a table says once some lists of signals
-- were marked in it, and the lists that are made of it.
use Rattle.std.proofs.Common.{◌≡◌, ℕ, zero, suc, ◌<◌, ◌≤◌, Bool, true, false, ◌||◌, ◌==◌}
use Rattle.std.proofs.Common.{List, [], ◌∷◌, ◌++◌, length, replicate, get_or, refl, sym}
use Rattle.std.proofs.Common.{ap, ap₂, subst, ◌∙◌, ◌⊎◌, inl, inr, ⊎_elim, arith, zero-add, nat_lt}
use Rattle.std.proofs.Common.{ltb-true, ltb-false}
use Rattle.std.specs.Prelude.{Contains, IsTrue}
use Rattle.std.specs.List.{list_any, range_with_len}
use Rattle.std.proofs.lemmas.Bool.{false≢true}
use Rattle.std.proofs.lemmas.List.FromFn.{length-range_with_len, get_or-range_with_len}
use Rattle.std.proofs.lemmas.List.{length-replicate}
use Rattle.std.proofs.lemmas.List.Elements.{Contains-get_or}
use Rattle.sv_system.proofs.Lists.{Contains-map}
use Rattle.sv_graph.proofs.Differing.{filter_same}
use Rattle.sv_flat.specs.declared.signals.SigId.{SigId}
use Rattle.sv_flat.specs.Design.{SignalForm, TypedTree}
use Rattle.sv_flat.specs.Readings.{reads, names_signal}
use Rattle.sv_flat.specs.Sets.{holds, those}
use Rattle.sv_flat.proofs.LeastSets.{in_those, those_pass, holds-from_Contains, Contains-from_holds}
use Rattle.sv_graph.specs.Marks.{is_marked, Marks, IsTable}
use Rattle.sv_design.specs.Numbers.{numbers}
use Rattle.sv_graph.proofs.MarkFacts.{any_append}
use Rattle.sv_obl.proofs.RouteNames.{names_alike, held_name}
use Rattle.sv_blast.specs.NamedMarks.{is_named_in, AreBelow}

-- ---- tests

pub lt_or_le : (a b : ℕ) → (a < b) ⊎ (b ≤ a)
lt_or_le a b = by (nat_lt a b) refl
  where
    by : (c : Bool) → nat_lt a b ≡ c → (a < b) ⊎ (b ≤ a)
    by true is = inl (ltb-true a b is)
    by false is = inr (ltb-false a b is)

-- tests that pass in the same cases are the same
pub alike : (a b : Bool) → (IsTrue a → IsTrue b) → (IsTrue b → IsTrue a) → a ≡ b
alike true b to from = sym (to refl)
alike false true to from = from refl
alike false false to from = refl

range_low : (n k : ℕ) → Contains (range_with_len 0 n) k → k < n
range_low n k at =
    let inside : at.0 < n = subst (λ l. at.0 < l) (length-range_with_len 0 n) at.1 in
    subst (λ z. z < n)
    (sym (get_or-range_with_len 0 n at.0 k inside ∙ zero-add at.0) ∙ at.2) inside

pub those_same : (n : ℕ) (p q : ℕ → Bool) → ((k : ℕ) → k < n → p k ≡ q k) → those n p ≡ those n q
those_same n p q same = filter_same p q (range_with_len 0 n) (λ k at. same k (range_low n k at))

pub holds_those : (n : ℕ) (test : ℕ → Bool) (s : ℕ) → s < n → holds (those n test) s ≡ test s
holds_those n test s below = alike (holds (those n test) s) (test s)
    (λ held. those_pass n test s (Contains-from_holds (those n test) s held))
    (λ passes. holds-from_Contains (those n test) s (in_those n test s below passes))

pub holds_join : (xs ys : List ℕ) (s : ℕ) → holds (xs ++ ys) s ≡ (holds xs s || holds ys s)
holds_join xs ys s = any_append (λ m. m == s) xs ys

-- ---- tables

abbrev pub no_signal : SigId
no_signal = record { 0 = 0 }

-- a table has nothing behind its end
pub none_behind : (table : List Bool) (s : ℕ) → length table ≤ s → is_marked table s ≡ false
none_behind [] s le = refl
none_behind (b ∷ table) zero le = absurd (omega arith)
none_behind (b ∷ table) (suc s) le = none_behind table s (omega arith)

pub none_marked : (n s : ℕ) → is_marked (replicate n false) s ≡ false
none_marked zero s = refl
none_marked (suc n) zero = refl
none_marked (suc n) (suc s) = none_marked n s

-- what is marked in a table without marks
pub first_marks : (n : ℕ) (old new : List Bool) (test : ℕ → Bool) → old ≡ replicate n false →
    length new ≡ length old → Marks old new test → IsTable n new test
first_marks n old new test empty kept marks =
    let size : length old ≡ n = ap length empty ∙ length-replicate n false in (
      kept ∙ size,
      λ s below.
          marks s (subst (λ l. s < l) (sym size) below)
          ∙ ap (λ b. b || test s) (ap (λ t. is_marked t s) empty ∙ none_marked n s),
    )

-- ---- names

-- which signals an expression names does not hang on their widths
pub named_alike : (signals : List SignalForm) (e : TypedTree) (s : ℕ) →
    names_signal [] e s ≡ names_signal signals e s
named_alike signals e s =
    sym (held_name (reads [] e) s) ∙ ap (λ ns. holds ns s) (names_alike signals [] e)
    ∙ held_name (reads signals e) s

pub named_in_alike : (signals : List SignalForm) (es : List TypedTree) (s : ℕ) →
    is_named_in es s ≡ list_any (λ e. names_signal signals e s) es
named_in_alike signals [] s = refl
named_in_alike signals (e ∷ es) s =
    ap₂ (λ a b. a || b) (named_alike signals e s) (named_in_alike signals es s)

-- ---- numbers of signals

pub below_at : (n : ℕ) (signals : List SigId) (i : ℕ) → AreBelow n (numbers signals) →
    i < length signals → (get_or signals i no_signal).0 < n
below_at n signals i below inside =
    below (get_or signals i no_signal).0
    (Contains-map (λ (s : SigId). s.0) signals (get_or signals i no_signal)
    (Contains-get_or signals i no_signal inside))

-- ---- filters by tables

-- a table that says of each of n signals what a test says, which no other passes
pub tabled : (n : ℕ) (table : List Bool) (test : ℕ → Bool) → IsTable n table test →
    ((s : ℕ) → IsTrue (test s) → s < n) → (s : ℕ) → is_marked table s ≡ test s
tabled n table test is low s = ⊎_elim
    (λ below. is.1 s below)
    (λ behind. alike (is_marked table s) (test s)
    (λ marked. absurd (false≢true
    (sym (none_behind table s (subst (λ l. l ≤ s) (sym is.0) behind)) ∙ marked)))
    (λ passes. let less = low s passes in absurd (omega arith)))
    (lt_or_le s n)
