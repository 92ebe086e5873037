-- Signals that are listed as the code holds them, and their numbers.
use Rattle.std.proofs.Common.{◌≡◌, ℕ, ◌<◌, Bool, true, false, cond, List, [], ◌∷◌, length, get_or}
use Rattle.std.proofs.Common.{Option, Some, refl, sym, ap, subst, ◌∙◌}
use Rattle.std.specs.Prelude.{All, find}
use Rattle.std.proofs.lemmas.List.{length-map, get_or-map}
use Rattle.std.proofs.lemmas.List.Elements.{All-get_or, All-from_get_or}
use Rattle.sv_flat.specs.declared.signals.SigId.{SigId}
use Rattle.sv_design.specs.Numbers.{numbers, number_if_any}

-- each listed signal is one
pub inside_of : (n : ℕ) (listed : List SigId) → All (λ (s : ℕ). s < n) (numbers listed) → (k : ℕ)
    → k < length listed → (get_or listed k (record { 0 = 0 })).0 < n
inside_of n listed each k inside =
    subst (λ s. s < n) (get_or-map (λ (s : SigId). s.0) listed k (record { 0 = 0 }) 0 inside)
    (All-get_or (λ s. s < n) (numbers listed) k 0
    (subst (λ m. k < m) (sym (length-map listed (λ (s : SigId). s.0))) inside) each)

pub all_inside : (n : ℕ) (listed : List SigId) → All (λ (s : ℕ). s < n) (numbers listed)
    → All (λ (s : SigId). s.0 < n) listed
all_inside n listed each =
    All-from_get_or (λ (s : SigId). s.0 < n) listed (record { 0 = 0 }) (inside_of n listed each)

number_of_either : (b : Bool) (s : SigId) (rest : Option SigId)
    → number_if_any (cond b (Some s) rest) ≡ cond b (Some s.0) (number_if_any rest)
number_of_either true s rest = refl
number_of_either false s rest = refl

-- the first number that passes is that of the first signal whose number does
pub find_numbers : (passes : ℕ → Bool) (listed : List SigId)
    → number_if_any (find (λ (s : SigId). passes s.0) listed) ≡ find passes (numbers listed)
find_numbers passes [] = refl
find_numbers passes (s ∷ listed) =
    number_of_either (passes s.0) s (find (λ (t : SigId). passes t.0) listed)
    ∙ ap (cond (passes s.0) (Some s.0)) (find_numbers passes listed)
