-- Of which answers `check` gives none.
use Rattle.std.proofs.Common.{◌≡◌, ◌≢◌, ◌<◌, ◌≤◌, ℕ, List, [], Option, subst, ⊎_elim, arith}
use Rattle.sv_flat.specs.Design.{FlatDesign}
use Rattle.sv_io.specs.Exchange.{Exchange}
use Rattle.sv_gates.specs.Formulas.{most_variables}
use Rattle.sv_obl.specs.Noninterference.{IsChecked}
use Rattle.sv_obl.specs.Obligations.{obligations}
use Rattle.sv_obl.specs.Validity.{IsValid, AllValid}
use Rattle.sv_obl.specs.Valuations.{valuation_of}
use Rattle.sv_obl.proofs.FormLists.{get_all}
use Rattle.sv_encoding.specs.Encoding.{encoding}
use Rattle.sv_encoding.specs.Deciding.{Fits}
use Rattle.sv_judge.proofs.NeverSpent.{large_not_spent, units_not_spent}
use Rattle.sv_report.specs.declared.styles.Style.{Style}
use Rattle.sv_cli.specs.Answer.{Answer, done}
use Rattle.sv_cli.specs.Checks as checks
use Rattle.sv_cli.specs.Checks.{Decides}
use Rattle.sv_cli.specs.Completeness.{IsNotFalsified, IsNotLimit, IsNotUndecided, SomeFails, AllFit}
use Rattle.sv_cli.specs.Completeness.{IsLarge, AllHaveUnitConflicts, Suffices}
use Rattle.sv_cli.specs.Texts.{Passes}
use Rattle.sv_cli.proofs.Apart.{accepted_valid}
use Rattle.sv_cli.proofs.Secrets.{RefutedAreValid}

-- ---- what the answer is not

module _ (style : Style) (design : FlatDesign) (budget : ℕ) (answer : Answer)
    (printed : List ℕ) where
  valid_not_falsified : AllValid [] design
      → checks.Falsifies style design budget answer printed → ⊥
  valid_not_falsified valid fails =
      get_all (IsValid design) (obligations [] design) fails.falsifies.before
      fails.falsifies.obligation valid fails.falsifies.numbered.among
      (valuation_of design fails.valuation) fails.falsifies.falsifies

  fits_not_large : AllFit design → checks.IsTooLarge style design budget answer printed → ⊥
  fits_not_large fits told =
      let o = told.large.obligation in
      let small : (encoding design o).variables ≤ most_variables =
      get_all (Fits design) (obligations [] design) told.large.before o fits
      told.large.numbered.among in
      let large : most_variables < (encoding design o).variables = told.large.large in
      absurd (omega arith)

  large_decides : IsChecked design → IsLarge design budget
      → checks.Spends style design budget answer printed → ⊥
  large_decides checked (most, few, large) spends =
      large_not_spent design budget spends.number spends.steps spends.spent most checked few large

  units_decide : AllHaveUnitConflicts design
      → checks.Spends style design budget answer printed → ⊥
  units_decide units spends =
      units_not_spent design budget spends.number spends.steps spends.spent units

  not_spent : IsChecked design → Suffices design budget
      → checks.Spends style design budget answer printed → ⊥
  not_spent checked enough spends =
      ⊎_elim (λ large. large_decides checked large spends) (λ units. units_decide units spends)
      enough

-- ---- of each decision

module _ (style : Style) (design : FlatDesign) (proof : Option (List ℕ)) (budget : ℕ)
    (exchanges : List Exchange) (answer : Answer) (printed : List ℕ) where
  pub never_falsified : Decides style proof budget design exchanges answer printed
      → AllValid [] design → IsNotFalsified answer
  never_falsified (checks.accepts stores accepts) valid number v e =
      let a = accepts.answers in cc
  never_falsified (checks.falsifies none fails) valid number v e =
      valid_not_falsified style design budget answer printed valid fails
  never_falsified (checks.too_large none large) valid number v e =
      let a = large.tells.answers in cc
  never_falsified (checks.spends none spends) valid number v e =
      let a = spends.answers in cc

  pub never_limit : Decides style proof budget design exchanges answer printed → AllFit design
      → IsNotLimit answer
  never_limit (checks.accepts stores accepts) fits number names e =
      let a = accepts.answers in cc
  never_limit (checks.falsifies none fails) fits number names e =
      let a = fails.answers in cc
  never_limit (checks.too_large none large) fits number names e =
      fits_not_large style design budget answer printed fits large
  never_limit (checks.spends none spends) fits number names e =
      let a = spends.answers in cc

  never_undecided : Decides style proof budget design exchanges answer printed
      → (checks.Spends style design budget answer printed → ⊥) → IsNotUndecided answer
  never_undecided (checks.accepts stores accepts) not number steps e =
      let a = accepts.answers in cc
  never_undecided (checks.falsifies none fails) not number steps e =
      let a = fails.answers in cc
  never_undecided (checks.too_large none large) not number steps e =
      let a = large.tells.answers in cc
  never_undecided (checks.spends none spends) not number steps e = not spends

  pub large_never_undecided : IsChecked design
      → Decides style proof budget design exchanges answer printed → IsLarge design budget
      → IsNotUndecided answer
  large_never_undecided checked decides large =
      never_undecided decides (large_decides style design budget answer printed checked large)

  pub units_never_undecided : Decides style proof budget design exchanges answer printed
      → AllHaveUnitConflicts design → IsNotUndecided answer
  units_never_undecided decides units =
      never_undecided decides (units_decide style design budget answer printed units)

  pub is_done : IsChecked design → Decides style proof budget design exchanges answer printed
      → AllValid [] design → AllFit design → Suffices design budget → answer ≡ done
  is_done checked (checks.accepts stores accepts) valid fits enough = accepts.answers
  is_done checked (checks.falsifies none fails) valid fits enough =
      absurd (valid_not_falsified style design budget answer printed valid fails)
  is_done checked (checks.too_large none large) valid fits enough =
      absurd (fits_not_large style design budget answer printed fits large)
  is_done checked (checks.spends none spends) valid fits enough =
      absurd (not_spent style design budget answer printed checked enough spends)

-- ---- what is falsified is not accepted

valid_none_fails : (design : FlatDesign) → AllValid [] design → SomeFails design → ⊥
valid_none_fails design valid (k, o, small, at, (v, fails)) =
    subst (IsValid design) at (valid k o small) v fails

module _ (law : (design : FlatDesign) → RefutedAreValid design) (top : Option (List ℕ))
    (text : List ℕ) (passes : Passes top text) (style : Style) (proof : Option (List ℕ))
    (budget : ℕ) (exchanges : List Exchange) (answer : Answer) (printed : List ℕ) where
  pub never_done : Decides style proof budget passes.design exchanges answer printed
      → SomeFails passes.design → answer ≢ done
  never_done (checks.accepts stores accepts) fails e =
      valid_none_fails passes.design
      (accepted_valid law top text passes budget accepts.count accepts.accepted) fails
  never_done (checks.falsifies none falsifies) fails e =
      let a = falsifies.answers in cc
  never_done (checks.too_large none large) fails e = let a = large.tells.answers in cc
  never_done (checks.spends none spends) fails e = let a = spends.answers in cc
