-- What is settled after a simulation is loaded with the values of a valuation.
use Rattle.std.proofs.Common.{◌≡◌, ℕ, List, sym, ap, ◌∙◌, subst}
use Rattle.sv_system.specs.System.{Environment, Settled}
use Rattle.sv_system.specs.Schedules.{IsTheSettled}
use Rattle.sv_flat.specs.declared.designs.Flat.{Flat}
use Rattle.sv_flat.specs.ByNumber.{by_number, FitSignals}
use Rattle.sv_flat.specs.Design.{FlatDesign}
use Rattle.sv_flat.specs.FlatSystem.{flat_system}
use Rattle.sv_flat.specs.Given.{FitListed, with_given, given}
use Rattle.sv_flat.specs.SignalLists.{inputs, registers}
use Rattle.sv_flat.specs.Views.{design_of}
use Rattle.sv_design.specs.Designs.{IsDesign}
use Rattle.sv_obl.specs.declared.valuations.Valuation.{Valuation as Listed}
use Rattle.sv_obl.specs.declared.frames.Frame.{Frame}
use Rattle.sv_obl.specs.Validity.{IsInFrame}
use Rattle.sv_obl.specs.Valuations.{FitsDesign, valuation_of}
use Rattle.sv_sim.proofs.GivenValues.{listed_value}
use Rattle.sv_sim.proofs.OneDesign.{register_listed}

module _ (design : FlatDesign) (is : IsDesign design) where
  -- what is settled for the loaded registers is settled for those that are given
  pub settled_from : (values : List ℕ) (old loaded now e : Environment ℕ)
      → FitListed design.signals (registers design) values
      → loaded ≡ with_given (registers design) values old
      → IsTheSettled (flat_system design) loaded now e
      → Settled (flat_system design) (given (registers design) values) now e
  settled_from values old loaded now e fit is_loaded the = record {
    registers = λ s register.
        the.settled.registers s register
        ∙ ap (λ f. f s) is_loaded
        ∙ listed_value (registers design) values s (old s) 0 fit.count
        (register_listed design is.is_sound is.is_admitted s register);
    inputs_are = the.settled.inputs_are;
    fits = the.settled.fits;
    still = the.settled.still;
  }

-- the values fit the design of the simulation
pub registers_fit : (sim flat : Flat) (values : List ℕ) (v : Listed) → sim ≡ flat
    → values ≡ v.regs.items → FitsDesign (design_of flat) v
    → FitListed (design_of sim).signals (registers (design_of sim)) values
registers_fit sim flat values v same are fits =
    subst (λ (d : Flat). FitListed (design_of d).signals (registers (design_of d)) values)
    (sym same)
    (subst (FitListed (design_of flat).signals (registers (design_of flat))) (sym are)
    fits.of_registers)

pub inputs_fit : (sim flat : Flat) (values given : List ℕ) → sim ≡ flat → values ≡ given
    → FitListed (design_of flat).signals (inputs (design_of flat)) given
    → FitListed (design_of sim).signals (inputs (design_of sim)) values
inputs_fit sim flat values given same are fits =
    subst (λ (d : Flat). FitListed (design_of d).signals (inputs (design_of d)) values) (sym same)
    (subst (FitListed (design_of flat).signals (inputs (design_of flat))) (sym are) fits)

-- what is settled for the design of the simulation is settled for the design
pub here_settled : (first second flat : Flat)
    (regs those ins these old loaded values here : List ℕ)
    → IsDesign (design_of flat)
    → FitListed (design_of flat).signals (registers (design_of flat)) those
    → first ≡ flat → second ≡ flat → regs ≡ those → ins ≡ these
    → by_number loaded ≡ with_given (registers (design_of first)) regs (by_number old)
    → IsTheSettled (flat_system (design_of second)) (by_number loaded)
    (given (inputs (design_of second)) ins) (by_number values)
    → here ≡ values
    → Settled (flat_system (design_of flat)) (given (registers (design_of flat)) those)
    (given (inputs (design_of flat)) these) (by_number here)
here_settled first second flat regs those ins these old loaded values here is fit first_is second_is
    regs_are ins_are is_loaded the here_is =
    let design = design_of flat in
    settled_from design is those (by_number old) (by_number loaded) (given (inputs design) these)
    (by_number here) fit
    (is_loaded
    ∙ ap (λ (d : Flat). with_given (registers (design_of d)) regs (by_number old)) first_is
    ∙ ap (λ vs. with_given (registers design) vs (by_number old)) regs_are)
    (subst (λ vs. IsTheSettled (flat_system design) (by_number loaded)
    (given (inputs design) these) (by_number vs)) (sym here_is)
    (subst (λ vs. IsTheSettled (flat_system design) (by_number loaded)
    (given (inputs design) vs) (by_number values)) ins_are
    (subst (λ (d : Flat). IsTheSettled (flat_system (design_of d)) (by_number loaded)
    (given (inputs (design_of d)) ins) (by_number values)) second_is the)))

-- so is what is settled for the next registers and the next inputs
pub next_settled : (sim flat : Flat) (ins these : List ℕ) (state next e : Environment ℕ)
    → sim ≡ flat → ins ≡ these → state ≡ next
    → IsTheSettled (flat_system (design_of sim)) state (given (inputs (design_of sim)) ins) e
    → Settled (flat_system (design_of flat)) next (given (inputs (design_of flat)) these) e
next_settled sim flat ins these state next e same ins_are state_is the =
    subst (λ s. Settled (flat_system (design_of flat)) s
    (given (inputs (design_of flat)) these) e) state_is
    (subst (λ vs. Settled (flat_system (design_of flat)) state
    (given (inputs (design_of flat)) vs) e) ins_are
    (subst (λ (d : Flat). Settled (flat_system (design_of d)) state
    (given (inputs (design_of d)) ins) e) same the.settled))

-- the frames of the simulation are those of the design
pub same_frames : (sim flat : Flat) (v : Listed) (frame : Frame) (now there here beyond : List ℕ)
    → sim ≡ flat → here ≡ now → beyond ≡ there
    → IsInFrame (design_of sim) (valuation_of (design_of sim) v) (by_number now) frame
    (by_number there)
    → IsInFrame (design_of flat) (valuation_of (design_of flat) v) (by_number here) frame
    (by_number beyond)
same_frames sim flat v frame now there here beyond same here_is beyond_is in_frame =
    subst (λ vs. IsInFrame (design_of flat) (valuation_of (design_of flat) v) (by_number here)
    frame (by_number vs)) (sym beyond_is)
    (subst (λ vs. IsInFrame (design_of flat) (valuation_of (design_of flat) v) (by_number vs)
    frame (by_number there)) (sym here_is)
    (subst (λ (d : Flat). IsInFrame (design_of d) (valuation_of (design_of d) v) (by_number now)
    frame (by_number there)) same in_frame))

pub same_fit : (sim flat : Flat) (values here : List ℕ) → sim ≡ flat → here ≡ values
    → FitSignals (design_of sim).signals values → FitSignals (design_of flat).signals here
same_fit sim flat values here same here_is fit =
    subst (FitSignals (design_of flat).signals) (sym here_is)
    (subst (λ (d : Flat). FitSignals (design_of d).signals values) same fit)
