-- Values in lists falsify an obligation for a flat design exactly where they do for the text.
use Rattle.std.proofs.Common.{◌≡◌, ℕ, List, Option, Some, refl, sym, ◌∙◌}
use Rattle.std.specs.Prelude.{◌↔◌, IsTrue, Contains}
use Rattle.sv_system.specs.System.{System, Environment, Settled}
use Rattle.sv_lattice.specs.declared.points.Point.{Point}
use Rattle.sv_ast.specs.Parts.{PartSignal}
use Rattle.sv_ast.specs.Tree.{TextTree}
use Rattle.sv_flat.specs.Admission.{IsAdmitted}
use Rattle.sv_flat.specs.Design.{TypedTree, FlatDesign}
use Rattle.sv_flat.specs.FlatSystem.{flat_system}
use Rattle.sv_elab_rules.specs.Texts.{flat_of}
use Rattle.sv_elab_laws.specs.FlattenedTexts.{CanBeFlattened}
use Rattle.sv_elab_laws.specs.SideBySide.{text_signals}
use Rattle.sv_obl.specs.declared.frames.Frame.{Frame}
use Rattle.sv_obl.specs.declared.frames.Frame.TheVariants.{Now, Next}
use Rattle.sv_obl.specs.declared.valuations.Valuation.{Valuation as Listed}
use Rattle.sv_obl.specs.Obligations.{Obligation, obligations}
use Rattle.sv_obl.specs.Validity.{Valuation, goal_frame, IsInFrame, Falsifies}
use Rattle.sv_obl.specs.Valuations.{FitsDesign, valuation_of}
use Rattle.sv_run_laws.specs.FalsifiedTexts.{by_path, FalsifiesText, HasListed, ListsFalsifyText}
use Rattle.sv_run_laws.proofs.FalsifiedTexts.{registers_same, inputs_same, falsified_alike}
use Rattle.sv_run_laws.proofs.OwnRounds.{started_over, registers_back, now_over, input_back}

module _ (text : TextTree) (asked : Option (List ℕ)) (design : FlatDesign)
    (can : CanBeFlattened text) (flat : flat_of text asked ≡ Some design)
    (admitted : IsAdmitted design) where
  abbrev first : System ℕ Point
  first = flat_system design

  abbrev signals : List PartSignal
  signals = text_signals text asked

  -- ---- registers and inputs with the same values

  abbrev SameRegisters : Environment ℕ → Environment ℕ → Type 0
  SameRegisters e f = (s : ℕ) → IsTrue (first.is_register s) → e s ≡ f s

  abbrev SameInputs : Environment ℕ → Environment ℕ → Type 0
  SameInputs e f = (s : ℕ) → IsTrue (first.is_input s) → e s ≡ f s

  settled_too : (state other inputs others e : Environment ℕ) → SameRegisters state other
      → SameInputs inputs others → Settled first state inputs e → Settled first other others e
  settled_too state other inputs others e states given is = record {
    registers = λ s register. is.registers s register ∙ states s register;
    inputs_are = λ s input. is.inputs_are s input ∙ given s input;
    fits = is.fits;
    still = is.still;
  }

  in_frame_too : (v w : Valuation) (now there : Environment ℕ)
      → SameInputs v.next_inputs w.next_inputs → (frame : Frame)
      → IsInFrame design v now frame there → IsInFrame design w now frame there
  in_frame_too v w now there same Now is = is
  in_frame_too v w now there same Next is =
      settled_too (first.next now) (first.next now) v.next_inputs w.next_inputs there
      (λ s register. refl) same is

  falsifies_too : (v w : Valuation) (o : Obligation) → SameRegisters v.registers w.registers
      → SameInputs v.inputs w.inputs → SameInputs v.next_inputs w.next_inputs
      → Falsifies design v o → Falsifies design w o
  falsifies_too v w o registers inputs next_inputs is = record {
    now = is.now;
    there = is.there;
    settled = settled_too v.registers w.registers v.inputs w.inputs is.now registers inputs
        is.settled;
    in_frame = in_frame_too v w is.now is.there next_inputs (goal_frame o.goal) is.in_frame;
    facts = is.facts;
    path = is.path;
    fails = is.fails;
  }

  -- ---- lists

  module _ (listed : Listed) (fits : FitsDesign design listed) where
    abbrev own : Valuation
    own = valuation_of design listed

    own_has : HasListed text asked listed own
    own_has = record {
      registers = started_over text asked design can flat admitted listed.regs.items
          fits.of_registers;
      inputs = now_over text asked design can flat admitted listed.inputs.items fits.of_inputs;
      next_inputs = now_over text asked design can flat admitted listed.next_inputs.items
          fits.of_next_inputs;
    }

    -- whatever has the listed values has those of the design's own valuation
    module _ (v : Valuation) (has : HasListed text asked listed v) where
      registers_are : SameRegisters v.registers own.registers
      registers_are s register =
          registers_same text asked design can flat admitted v.registers s register
          ∙ sym ((registers_back text asked design can flat admitted listed.regs.items
          fits.of_registers (by_path signals v.registers) has.registers).same s register)

      inputs_are : SameInputs v.inputs own.inputs
      inputs_are s input =
          inputs_same text asked design can flat admitted v.inputs s input
          ∙ sym ((input_back text asked design can flat admitted listed.inputs.items
          fits.of_inputs (by_path signals v.inputs) has.inputs).same s input)

      next_inputs_are : SameInputs v.next_inputs own.next_inputs
      next_inputs_are s input =
          inputs_same text asked design can flat admitted v.next_inputs s input
          ∙ sym ((input_back text asked design can flat admitted listed.next_inputs.items
          fits.of_next_inputs (by_path signals v.next_inputs) has.next_inputs).same s input)

  pub listed_alike : (facts : List TypedTree) (listed : Listed) (o : Obligation)
      → FitsDesign design listed → Contains (obligations facts design) o
      → Falsifies design (valuation_of design listed) o
      ↔ ListsFalsifyText text asked design listed o
  listed_alike facts listed o fits at =
      let own = valuation_of design listed in
      let alike : (v : Valuation) → Falsifies design v o ↔ FalsifiesText text asked design v o =
      λ v. falsified_alike text asked design can flat admitted facts v o at in (
        λ is. record {
          valuation = own;
          has = own_has listed fits;
          falsifies = (alike own).0 is;
        },
        λ is. falsifies_too is.valuation own o (registers_are listed fits is.valuation is.has)
            (inputs_are listed fits is.valuation is.has)
            (next_inputs_are listed fits is.valuation is.has)
            ((alike is.valuation).1 is.falsifies),
      )
