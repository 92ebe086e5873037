-- What a map says of a name is what the list of its entries says.
use Rattle.std.proofs.Common.{◌≡◌, ℕ, Bool, true, false, cond, List, [], ◌∷◌, Option, Some, None}
use Rattle.std.proofs.Common.{refl, ap, ◌∙◌}
use Rattle.std.specs.Prelude.{option_map, find, is_some, IsTrue}
use Rattle.std.specs.Map.{lookup}
use Rattle.std.specs.Str.{bytes_eq}
use Rattle.sv_num.specs.declared.faults.Place.{Place}
use Rattle.sv_num.specs.declared.faults.Fault.{Fault}
use Rattle.sv_num.specs.declared.faults.Fault.TheVariants.{Rule, OutOfMemory}
use Rattle.sv_num.specs.Faults.{Refuses}
use Rattle.sv_token.specs.Bytes.{entry}
use Rattle.sv_elab_rules.specs.Rules.{step}
use Rattle.sv_width.specs.Scopes.{Known, meaning_of, IsTwice}

chosen : {A B : Type 0} (f : A → B) (b : Bool) (x : A) (rest : Option A)
    → cond b (Some (f x)) (option_map f rest) ≡ option_map f (cond b (Some x) rest)
chosen f true x rest = refl
chosen f false x rest = refl

pub lookup_is_entry : {A : Type 0} (n : List ℕ) (es : List (List ℕ × A)) →
    lookup (bytes_eq n) es ≡ entry es n
lookup_is_entry n [] = refl
lookup_is_entry {A} n (e ∷ es) =
    ap (λ (r : Option A). cond (bytes_eq n e.0) (Some e.1) r) (lookup_is_entry n es)
    ∙ chosen (λ (row : List ℕ × A).
    row.1) (bytes_eq n e.0) e (find (λ (row : List ℕ × A). bytes_eq n row.0) es)

pub none_there : {A : Type 0} (r : Option A) → is_some r ≡ false → r ≡ None
none_there None h = refl
none_there (Some x) h = absurd (cc h)

-- a refusal with rule 312
pub refuses_twice : (known : Known) (n : List ℕ) (place : Place) (f : Fault) (names : List (List ℕ))
    → Refuses f 312 place names → names ≡ n ∷ [] → IsTrue (is_some (meaning_of known n))
    → IsTwice known n place f
refuses_twice known n place (Rule r) names refuses is there = (
  ap (λ (t : ℕ × Place × List (List ℕ)). step t.0 t.1 t.2) refuses
      ∙ ap (λ ns. step 312 place ns) is,
  there,
)
refuses_twice known n place OutOfMemory names refuses is there = tt
