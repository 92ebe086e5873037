-- A valuation fits a design where its values fit a simulation of that design.
use Rattle.std.proofs.Common.{◌≡◌, ℕ, List, subst}
use Rattle.sv_flat.specs.declared.designs.Flat.{Flat}
use Rattle.sv_flat.specs.Given.{FitListed}
use Rattle.sv_flat.specs.SignalLists.{inputs, registers}
use Rattle.sv_flat.specs.Views.{design_of}
use Rattle.sv_obl.specs.declared.valuations.Valuation.{Valuation as Listed}
use Rattle.sv_obl.specs.Valuations.{FitsDesign}

pub fits_design : (sim flat : Flat) (regs ins next : List ℕ) (v : Listed) → sim ≡ flat
    → regs ≡ v.regs.items → ins ≡ v.inputs.items → next ≡ v.next_inputs.items
    → FitListed (design_of sim).signals (registers (design_of sim)) regs
    → FitListed (design_of sim).signals (inputs (design_of sim)) ins
    → FitListed (design_of sim).signals (inputs (design_of sim)) next
    → FitsDesign (design_of flat) v
fits_design sim flat regs ins next v same regs_are ins_are next_are of_regs of_ins of_next = record {
  of_registers =
      subst (λ (d : Flat). FitListed (design_of d).signals (registers (design_of d)) v.regs.items)
      same
      (subst (FitListed (design_of sim).signals (registers (design_of sim))) regs_are of_regs);
  of_inputs =
      subst (λ (d : Flat). FitListed (design_of d).signals (inputs (design_of d)) v.inputs.items)
      same (subst (FitListed (design_of sim).signals (inputs (design_of sim))) ins_are of_ins);
  of_next_inputs =
      subst (λ (d : Flat). FitListed (design_of d).signals (inputs (design_of d))
      v.next_inputs.items) same
      (subst (FitListed (design_of sim).signals (inputs (design_of sim))) next_are of_next);
}
