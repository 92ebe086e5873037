-- What a simulation settles to, after the registers of a valuation are loaded, is the environment
-- of the valuation's cycle; and after the clock edge that of the next one.
use Rattle.std.proofs.Common.{◌≡◌, ℕ, List, refl, sym, ap, subst, ◌∙◌}
use Rattle.std.specs.Prelude.{IsTrue}
use Rattle.sv_system.specs.System.{Environment, Settled}
use Rattle.sv_system.specs.Schedules.{IsTheSettled}
use Rattle.sv_flat.specs.declared.designs.Flat.{Flat}
use Rattle.sv_flat.specs.ByNumber.{by_number}
use Rattle.sv_flat.specs.Design.{FlatDesign}
use Rattle.sv_flat.specs.FlatSystem.{flat_system}
use Rattle.sv_flat.specs.Given.{FitListed, with_given, given}
use Rattle.sv_flat.specs.Processes.{is_register}
use Rattle.sv_flat.specs.SignalLists.{registers, inputs}
use Rattle.sv_flat.specs.Views.{design_of}
use Rattle.sv_design.specs.Designs.{IsDesign}
use Rattle.sv_obl.specs.declared.frames.Frame.TheVariants.{Now, Next}
use Rattle.sv_obl.specs.declared.valuations.Valuation.{Valuation as Listed}
use Rattle.sv_obl.specs.Valuations.{FitsDesign, valuation_of}
use Rattle.sv_sim.proofs.GivenValues.{listed_value}
use Rattle.sv_decide.specs.Simulating.{IsOfFrame}
use Rattle.sv_decide.proofs.DesignSignals.{register_listed}

-- a state with the same registers settles to the same
same_settled : (design : FlatDesign) (one other now e : Environment ℕ) →
    ((s : ℕ) → IsTrue (is_register design s) → one s ≡ other s) →
    IsTheSettled (flat_system design) one now e → IsTheSettled (flat_system design) other now e
same_settled design one other now e same is = record {
  settled = record {
    registers = λ s register. is.settled.registers s register ∙ same s register;
    inputs_are = is.settled.inputs_are;
    fits = is.settled.fits;
    still = is.settled.still;
  };
  alone = λ f rests. is.alone f (record {
    registers = λ s register. rests.registers s register ∙ sym (same s register);
    inputs_are = rests.inputs_are;
    fits = rests.fits;
    still = rests.still;
  });
}

-- values that fit, as the code holds the design and the list
pub list_fits : (flat d : Flat) → d ≡ flat → (listed : FlatDesign → List ℕ) (values items : List ℕ)
    → values ≡ items → FitListed (design_of flat).signals (listed (design_of flat)) items
    → FitListed (design_of d).signals (listed (design_of d)) values
list_fits flat d same listed values items are fits =
    subst (λ (e : Flat). FitListed (design_of e).signals (listed (design_of e)) values) (sym same)
    (subst (FitListed (design_of flat).signals (listed (design_of flat))) (sym are) fits)

module _ (flat : Flat) (v : Listed) where
  abbrev design : FlatDesign
  design = design_of flat

  -- the settled environment of the valuation's cycle
  abbrev pub IsSettledNow : List ℕ → Type 0
  IsSettledNow values =
      IsTheSettled (flat_system (design_of flat)) (valuation_of (design_of flat) v).registers
      (valuation_of (design_of flat) v).inputs (by_number values)

  pub settled_now : IsDesign (design_of flat) → FitsDesign (design_of flat) v → (d : Flat) →
      d ≡ flat → (old mid new regs ins : List ℕ) → regs ≡ v.regs.items → ins ≡ v.inputs.items →
      by_number mid ≡ with_given (registers (design_of flat)) regs (by_number old) →
      IsTheSettled (flat_system (design_of d)) (by_number mid)
      (given (inputs (design_of d)) ins) (by_number new) → IsSettledNow new
  settled_now is fits d same old mid new regs ins regs_are ins_are loaded settled =
      same_settled design (by_number mid) (given (registers design) v.regs.items)
      (given (inputs design) v.inputs.items) (by_number new)
      (λ s register.
      ap (λ (e : Environment ℕ). e s) loaded
      ∙ ap (λ (values : List ℕ). with_given (registers design) values (by_number old) s) regs_are
      ∙ listed_value (registers design) v.regs.items s (by_number old s) 0
      fits.of_registers.count (register_listed design is.is_sound is.is_admitted s register))
      (subst (λ (values : List ℕ). IsTheSettled (flat_system design) (by_number mid)
      (given (inputs design) values) (by_number new)) ins_are
      (subst (λ (e : Flat). IsTheSettled (flat_system (design_of e)) (by_number mid)
      (given (inputs (design_of e)) ins) (by_number new)) same settled))

  pub frame_now : (values : List ℕ) → IsSettledNow values →
      IsOfFrame (design_of flat) (valuation_of (design_of flat) v) Now (by_number values)
  frame_now values is = record { now = by_number values; settled = is; in_frame = refl }

  pub frame_next : (one two : Flat) → one ≡ flat → two ≡ flat → (now ticked new ins : List ℕ) →
      ins ≡ v.next_inputs.items → IsSettledNow now →
      by_number ticked ≡ (flat_system (design_of one)).next (by_number now) →
      IsTheSettled (flat_system (design_of two)) (by_number ticked)
      (given (inputs (design_of two)) ins) (by_number new) →
      IsOfFrame (design_of flat) (valuation_of (design_of flat) v) Next (by_number new)
  frame_next one two one_is two_is now ticked new ins ins_are is ticks settled =
      let there = subst (λ (values : List ℕ). IsTheSettled (flat_system design) (by_number ticked)
      (given (inputs design) values) (by_number new)) ins_are
      (subst (λ (e : Flat). IsTheSettled (flat_system (design_of e)) (by_number ticked)
      (given (inputs (design_of e)) ins) (by_number new)) two_is settled) in
      let ticked_is : by_number ticked ≡ (flat_system design).next (by_number now) =
      ticks ∙ ap (λ (e : Flat). (flat_system (design_of e)).next (by_number now)) one_is in
      record {
        now = by_number now;
        settled = is;
        in_frame = subst (λ (state : Environment ℕ). Settled (flat_system design) state
            (given (inputs design) v.next_inputs.items) (by_number new)) ticked_is there.settled;
      }
