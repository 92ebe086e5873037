-- The signal that a finding tells is one of the system, and findings under other names.
use Rattle.std.proofs.Common.{◌≡◌, ℕ, List, ◌∷◌, refl, sym, ap, subst}
use Rattle.std.specs.Prelude.{Contains, IfSome}
use Rattle.std.proofs.lemmas.List.Elements.{Contains-append_right}
use Rattle.sv_system.specs.System.{System, Environment}
use Rattle.sv_system.proofs.Lists.{Contains-head}
use Rattle.sv_tworun.specs.Comparisons.{IsFirstApart, IsFound}
use Rattle.sv_tworun.specs.Forms.{Finding, equal, inputs_differ, views_differ, lengths_differ}
use Rattle.sv_compare.specs.ComparedTexts.{with_names, signal_told}

-- it holds of the signal that a finding tells, if it tells one
abbrev pub Told : {X : Type 0} → (X → Type 0) → Finding X → Type 0
Told P found = IfSome (signal_told found) P

apart_within : {X : Type 0} (listed : List X) (ps qs : List (X × ℕ)) (s : X)
    → IsFirstApart listed ps qs s → Contains listed s
apart_within listed ps qs s is =
    subst (λ ss. Contains ss s) (sym is.stands)
    (Contains-append_right is.front (s ∷ is.rest) s (Contains-head s is.rest))

module _ {X P : Type 0} (system : System X P) (level : P) (es gs : List (Environment X)) where
  pub told_within : (found : Finding X) → IsFound system level es gs found
      → Told (Contains system.signals) found
  told_within (equal cycles) is = tt
  told_within (inputs_differ cycle s) is = apart_within system.signals _ _ s is.1.holds
  told_within (views_differ cycle s) is = apart_within system.signals _ _ s is.1.holds.first
  told_within (lengths_differ cycles) is = tt

module _ {X : Type 0} where
  pub told_weaker : (P Q : X → Type 0) → ((s : X) → P s → Q s) → (found : Finding X)
      → Told P found → Told Q found
  told_weaker P Q brings (equal cycles) told = tt
  told_weaker P Q brings (inputs_differ cycle s) told = brings s told
  told_weaker P Q brings (views_differ cycle s) told = brings s told
  told_weaker P Q brings (lengths_differ cycles) told = tt

  module _ {Y : Type 0} where
    -- names that agree on the signal that is told
    pub told_same : (f g : X → Y) (found : Finding X) → Told (λ s. f s ≡ g s) found
        → with_names f found ≡ with_names g found
    told_same f g (equal cycles) told = refl
    told_same f g (inputs_differ cycle s) told = ap (inputs_differ cycle) told
    told_same f g (views_differ cycle s) told = ap (views_differ cycle) told
    told_same f g (lengths_differ cycles) told = refl

    -- one name after another
    pub told_twice : {Z : Type 0} (f : X → Y) (g : Y → Z) (found : Finding X)
        → with_names g (with_names f found) ≡ with_names (λ s. g (f s)) found
    told_twice f g (equal cycles) = refl
    told_twice f g (inputs_differ cycle s) = refl
    told_twice f g (views_differ cycle s) = refl
    told_twice f g (lengths_differ cycles) = refl

  -- the same names
  pub told_itself : (found : Finding X) → with_names (λ s. s) found ≡ found
  told_itself (equal cycles) = refl
  told_itself (inputs_differ cycle s) = refl
  told_itself (views_differ cycle s) = refl
  told_itself (lengths_differ cycles) = refl
