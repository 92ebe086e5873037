-- What the store of a certificate comes to.
use Rattle.std.proofs.Common.{◌≡◌, ℕ, Bool, true, false, List, [], ◌∷◌, Some, refl, subst, inr}
use Rattle.std.specs.Prelude.{Result, Ok, Err}
use Rattle.std.proofs.lemmas.List.Elements.{All-nil, All-cons}
use Rattle.sv_io.specs.Count.{Rose}
use Rattle.sv_io.specs.Exchange.{Exchange, stored}
use Rattle.sv_io.specs.Traffic.{Files, Passed, IsFailed}
use Rattle.sv_io.specs.declared.faults.StoreFault.{StoreFault}
use Rattle.sv_cli.specs.declared.prepared.NoReport.{NoReport}
use Rattle.sv_cli.specs.declared.prepared.NoReport.TheVariants.{Unwritten, OutOfMemory}
use Rattle.sv_cli.specs.Prepared.{Readies, MayStoreBytes, StoresBytes}
use Rattle.sv_cli.specs.Runs.{KeepsCounts}

pub failed_is : {U : Type 0} (f g : StoreFault) → f ≡ g
    → ◌≡◌ {A = Result U StoreFault} (Err f) (Err g)
failed_is f g same = cc

passed_as : (name bytes given : List ℕ) → given ≡ bytes → (tells : Bool) (old new : Files)
    (is_done : Bool) → Passed tells old new (stored name given is_done ∷ [])
    → Passed tells old new (stored name bytes is_done ∷ [])
passed_as name bytes given same tells old new is_done passed =
    subst (λ (bs : List ℕ). Passed tells old new (stored name bs is_done ∷ [])) same passed

module _ {U : Type 0} (name bytes given : List ℕ) (same : given ≡ bytes) (tells : Bool)
    (old new : Files) where
  -- it is stored
  pub stored_readied : (unit : U) → Passed tells old new (stored name given true ∷ [])
      → KeepsCounts old new
      → (let r : Result U NoReport = Ok unit in
      Readies (MayStoreBytes (Some name) bytes)
      (λ exchanges _. StoresBytes (Some name) bytes exchanges) tells old new r)
  stored_readied unit passed kept = record {
    exchanges = stored name bytes true ∷ [];
    passed = passed_as name bytes given same tells old new true passed;
    may = inr (true, refl);
    made = (
      refl,
      All-cons (λ (e : Exchange). IsFailed e → ⊥) (stored name bytes true) [] (λ none. none)
          (All-nil (λ (e : Exchange). IsFailed e → ⊥)),
    );
    unfailed = kept;
    fault = tt;
  }

  module _ (passed : Passed tells old new (stored name given false ∷ [])) where
    -- the store fails
    pub unwritten_readied : Rose (old.store_faults name) (new.store_faults name)
        → (let r : Result U NoReport = Err Unwritten in
        Readies (MayStoreBytes (Some name) bytes)
        (λ exchanges _. StoresBytes (Some name) bytes exchanges) tells old new r)
    unwritten_readied rose = record {
      exchanges = stored name bytes false ∷ [];
      passed = passed_as name bytes given same tells old new false passed;
      may = inr (false, refl);
      made = tt;
      unfailed = tt;
      fault = record { before = []; name = name; bytes = bytes; last = refl; rose = rose };
    }

    -- or memory runs out over it
    pub spent_storing : (let r : Result U NoReport = Err OutOfMemory in
        Readies (MayStoreBytes (Some name) bytes)
        (λ exchanges _. StoresBytes (Some name) bytes exchanges) tells old new r)
    spent_storing = record {
      exchanges = stored name bytes false ∷ [];
      passed = passed_as name bytes given same tells old new false passed;
      may = inr (false, refl);
      made = tt;
      unfailed = tt;
      fault = tt;
    }
