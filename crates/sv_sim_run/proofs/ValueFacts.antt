-- Values of listed signals, one after the other.
use Rattle.std.proofs.Common.{◌≡◌, ℕ, ◌+◌, ◌<◌, List, length, map, get_or, sym, ap, subst, ◌∙◌}
use Rattle.std.proofs.Common.{below_more, arith, get_or-set_other, get_or-set_same, ◌≢◌}
use Rattle.std.specs.Prelude.{slice_set, Contains}
use Rattle.std.proofs.lemmas.List.{length-map, get_or-map, ext_get_or}
use Rattle.std.proofs.lemmas.List.Elements.{Contains-get_or}
use Rattle.sv_flat.specs.declared.signals.SigId.{SigId}
use Rattle.sv_design.specs.Numbers.{numbers}
use Rattle.sv_sim.proofs.Simulated.{number_at}

pub count_is : (ss : List SigId) (ns : List ℕ) → numbers ss ≡ ns → length ss ≡ length ns
count_is ss ns is = sym (length-map ss (λ (s : SigId). s.0)) ∙ ap length is

pub is_among : (ss : List SigId) (ns : List ℕ) → numbers ss ≡ ns → (k : ℕ) → k < length ss
    → Contains ns (get_or ss k (record { 0 = 0 })).0
is_among ss ns is k inside =
    subst (Contains ns) (number_at ss ns is k inside)
    (Contains-get_or ns k 0 (subst (λ n. k < n) (count_is ss ns is) inside))

-- one more value
pub value_more : (ss : List SigId) (ns : List ℕ) (f : ℕ → ℕ) (values : List ℕ) (k v : ℕ)
    → numbers ss ≡ ns → k < length ss → length values ≡ length ns
    → v ≡ f (get_or ss k (record { 0 = 0 })).0
    → ((j : ℕ) → j < k → get_or values j 0 ≡ f (get_or ns j 0))
    → (j : ℕ) → j < k + 1 → get_or (slice_set values k v) j 0 ≡ f (get_or ns j 0)
value_more ss ns f values k v is inside count value before =
    below_more _ _
    (λ j below. let other : j ≢ k = omega arith in rw get_or-set_other (before j below))
    (let lt : k < length values = omega (arith, count_is ss ns is) in
    let now : v ≡ f (get_or ns k 0) = value ∙ ap f (sym (number_at ss ns is k inside)) in
    rw get_or-set_same now)

pub values_are : (ns xs : List ℕ) (f : ℕ → ℕ) → length xs ≡ length ns
    → ((j : ℕ) → j < length ns → get_or xs j 0 ≡ f (get_or ns j 0))
    → xs ≡ map f ns
values_are ns xs f count each =
    ext_get_or 0 xs (map f ns) (count ∙ sym (length-map ns f))
    (λ j inside.
    let lt : j < length ns = omega (arith, count) in
    each j lt ∙ sym (get_or-map f ns j 0 0 lt))
