-- Listed signals have the values that are given for them, and all others keep theirs.
use Rattle.std.proofs.Common.{◌≡◌, ℕ, zero, suc, ◌+◌, ◌<◌, Bool, cond, ◌==◌, List}
use Rattle.std.proofs.Common.{[], ◌∷◌, ◌++◌, length, map, take, ⊎_elim, refl, sym, ap}
use Rattle.std.proofs.Common.{subst}
use Rattle.std.proofs.Common.{◌∙◌, arith, add-one}
use Rattle.std.specs.Prelude.{Contains, slice_index}
use Rattle.std.specs.List.{zip}
use Rattle.std.proofs.lemmas.Bool.{eqb-true, eq-eqb, false≢true}
use Rattle.std.proofs.lemmas.List.Elements.{Contains-get_or}
use Rattle.sv_system.specs.System.{Environment, last_update, put}
use Rattle.sv_system.proofs.Lists.{Contains-head, Contains-later, Contains-nil, Contains-cases}
use Rattle.sv_system.proofs.Pointwise.{either_way as contained_or_not}
use Rattle.sv_flat.specs.Given.{with_given}
use Rattle.sv_flat.specs.Sets.{those}
use Rattle.sv_flat.proofs.LeastSets.{either_way, those_below}
use Rattle.sv_flat.proofs.SameRuns.{none_found, put_there}

-- a listed signal's value does not hang on the one that it had
pub listed_value : (listed values : List ℕ) (s a b : ℕ) → length values ≡ length listed
    → Contains listed s
    → last_update ◌==◌ s a (zip listed values) ≡ last_update ◌==◌ s b (zip listed values)
listed_value [] values s a b count at = absurd (Contains-nil s at)
listed_value (t ∷ ts) [] s a b count at = absurd (omega (arith, count))
listed_value (t ∷ ts) (v ∷ vs) s a b count at =
    let after = λ (c : Bool) (old : ℕ). last_update ◌==◌ s (cond c v old) (zip ts vs) in
    ⊎_elim
    (λ same. ap (λ c. after c a) same ∙ sym (ap (λ c. after c b) same))
    (λ other. ⊎_elim
    (λ is. absurd (false≢true (sym other ∙ eq-eqb t s is)))
    (λ later. listed_value ts vs s (cond (t == s) v a) (cond (t == s) v b) (omega (arith, count))
    later)
    (Contains-cases t ts s at))
    (either_way (t == s))

-- a signal that is not listed keeps its value
pub other_value : (listed values : List ℕ) (s a : ℕ) → (Contains listed s → ⊥) →
    last_update ◌==◌ s a (zip listed values) ≡ a
other_value [] values s a none = refl
other_value (t ∷ ts) [] s a none = refl
other_value (t ∷ ts) (v ∷ vs) s a none =
    ap (λ c. last_update ◌==◌ s (cond c v a) (zip ts vs))
    (none_found (t == s) (λ same. none (subst (Contains (t ∷ ts)) (eqb-true t s same)
    (Contains-head t ts))))
    ∙ other_value ts vs s a (λ later. none (Contains-later t ts s later))

-- each listed signal has its value in an environment whose values are given for all of them
pub mapped_value : (listed : List ℕ) (f e : Environment ℕ) (s : ℕ) → Contains listed s →
    with_given listed (map f listed) e s ≡ f s
mapped_value [] f e s at = absurd (Contains-nil s at)
mapped_value (t ∷ ts) f e s at =
    let g : Environment ℕ = put ◌==◌ t (f t) e in
    contained_or_not (with_given ts (map f ts) g s) (f s) (Contains ts s)
    (λ later. mapped_value ts f g s later)
    (λ none. other_value ts (map f ts) s (g s) none
    ∙ ⊎_elim
    (λ same. subst (λ r. g r ≡ f r) same (put_there t (f t) e))
    (λ later. absurd (none later))
    (Contains-cases t ts s at))

-- one more value given
pub zip_more : (listed values : List ℕ) (k : ℕ) → k < length listed → k < length values
    → zip (take (k + 1) listed) values ≡
    zip (take k listed) values ++ (slice_index listed k, slice_index values k) ∷ []
zip_more [] values k listed_inside inside = absurd (omega arith)
zip_more (t ∷ ts) [] k listed_inside inside = absurd (omega arith)
zip_more (t ∷ ts) (v ∷ vs) zero listed_inside inside = refl
zip_more (t ∷ ts) (v ∷ vs) (suc k) listed_inside inside =
    let next = zip_more ts vs k (omega arith) (omega arith) in
    ap (λ j. zip (take j (t ∷ ts)) (v ∷ vs)) (add-one (suc k))
    ∙ ap (λ j. (t, v) ∷ zip (take j ts) vs) (sym (add-one k))
    ∙ ap (λ us. (t, v) ∷ us) next

-- listed numbers below a bound
pub listed_within : (n : ℕ) (test : ℕ → Bool) (ss : List ℕ) → ss ≡ those n test → (k : ℕ) →
    k < length ss → slice_index ss k < n
listed_within n test ss is k inside =
    those_below n test (slice_index ss k)
    (subst (λ zs. Contains zs (slice_index ss k)) is (Contains-get_or ss k 0 inside))
