-- No text is both accepted and falsified: what is proved of its obligations is valid.
use Rattle.std.proofs.Common.{ℕ, List, [], Option}
use Rattle.sv_flat.specs.Design.{FlatDesign}
use Rattle.sv_obl.specs.Obligations.{obligations}
use Rattle.sv_obl.specs.Validity.{IsValid, AllValid}
use Rattle.sv_obl.specs.Valuations.{valuation_of}
use Rattle.sv_obl.specs.declared.valuations.Valuation.{Valuation as Listed}
use Rattle.sv_obl.proofs.FormLists.{get_all}
use Rattle.sv_judge.specs.Verdicts.{IsAccepted, IsFalsified}
use Rattle.sv_cli.specs.Texts.{Passes}
use Rattle.sv_cli.proofs.Secrets.{RefutedAreValid, all_proved, is_checked}

module _ (law : (design : FlatDesign) → RefutedAreValid design) (top : Option (List ℕ))
    (text : List ℕ) (passes : Passes top text) (most count : ℕ) where
  pub accepted_valid : IsAccepted passes.design most count → AllValid [] passes.design
  accepted_valid accepted =
      all_proved passes.design (is_checked top text passes) (law passes.design) most
      accepted.each

  pub not_falsified : (budget number : ℕ) (v : Listed) → IsAccepted passes.design most count
      → IsFalsified passes.design budget number v → ⊥
  not_falsified budget number v accepted falsified =
      get_all (IsValid passes.design) (obligations [] passes.design) falsified.before
      falsified.obligation (accepted_valid accepted) falsified.numbered.among
      (valuation_of passes.design v) falsified.falsifies
