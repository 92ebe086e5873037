-- Whether something is put for a name in an expression is told by the wanted names in it alone.
use Rattle.std.proofs.Common.{◌≡◌, ℕ, ◌-◌, Bool, true, false, ◌&&◌, ◌||◌, nat_le, cond, List, [], ◌∷◌}
use Rattle.std.proofs.Common.{filter, refl, sym, ap, ◌∙◌}
use Rattle.std.specs.List.{list_any}
use Rattle.sv_paths.specs.PutIn.{is_put_for, is_put_at}
use Rattle.sv_paths.specs.declared.exchange.Put.{Put}

-- where no other element passes a test, those that are kept tell whether some element passes it
module _ (keep test : ℕ → Bool) (others : (t : ℕ) → keep t ≡ false → test t ≡ false) where
  one_kept : (t : ℕ) (ts : List ℕ) (b : Bool) → keep t ≡ b
      → list_any test (cond b (t ∷ ts) ts) ≡ (test t || list_any test ts)
  one_kept t ts true is = refl
  one_kept t ts false is = sym (ap (λ c. c || list_any test ts) (others t is))

  kept_tell : (ts : List ℕ) → list_any test (filter keep ts) ≡ list_any test ts
  kept_tell [] = refl
  kept_tell (t ∷ ts) =
      one_kept t (filter keep ts) (keep t) refl ∙ ap (λ b. test t || b) (kept_tell ts)

pub wanted_tell : (count : ℕ) (put : Put) (ts : List ℕ)
    → list_any (is_put_at count put) (filter (nat_le count) ts)
    ≡ list_any (is_put_at count put) ts
wanted_tell count put ts =
    kept_tell (nat_le count) (is_put_at count put)
    (λ t is. ap (λ b. b && is_put_for put (t - count)) is) ts
