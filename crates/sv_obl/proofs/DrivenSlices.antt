-- A target by its number in the design, and its slice of the process that drives it, whose body is
-- given indexed.
use Rattle.std.proofs.Common.{◌≡◌, ℕ, ◌<◌, List, length, get_or, Some, None, sym, ap}
use Rattle.std.proofs.Common.{◌∙◌}
use Rattle.sv_flat.specs.Clocks.{processes_of}
use Rattle.sv_flat.specs.Design.{ProcessForm, FlatStatement, nothing, FlatDesign}
use Rattle.sv_flat.specs.SignalLists.{driver_of}
use Rattle.sv_flat.specs.Views.{design_of}
use Rattle.sv_flat.specs.declared.designs.Flat.{Flat}
use Rattle.sv_design.specs.Designs.{IsDesign}
use Rattle.sv_obl.specs.declared.indexed.Indexed.{Indexed}
use Rattle.sv_obl.specs.BodySlices.{sliced, in_sequence, SameParts, slice_statement, first_body}
use Rattle.sv_obl.specs.BodySlices.{driven_body}
use Rattle.sv_obl.specs.SliceRoutes.{IsSliceOf}
use Rattle.sv_obl.specs.declared.body_slices.BodySlice.{BodySlice}
use Rattle.sv_obl.specs.IndexedBodies.{looked_up, AreIndexed}
use Rattle.sv_obl.proofs.IndexedFacts.{indexed_of_driver, inside_bodies}
use Rattle.sv_obl.proofs.OneDriver.{no_process, found_again, no_driver, one_driver_at}
use Rattle.sv_obl.proofs.FormLists.{signal_known}

module _ (flat : Flat) (is : IsDesign (design_of flat)) (s : ℕ)
    (known : s < length flat.signals.items) where
  abbrev design : FlatDesign
  design = design_of flat

  undriven_body : driver_of design s ≡ None → driven_body design s ≡ nothing
  undriven_body none =
      ap first_body
      (no_driver design is.is_sound is.is_admitted s (signal_known flat s known) none)

  pub undriven_slice : driver_of design s ≡ None
      → SameParts nothing (sliced s (driven_body design s))
  undriven_slice none =
      ap (λ (body : FlatStatement). in_sequence (sliced s body) nothing)
      (sym (undriven_body none))

  module _ (bodies : List Indexed) (all : AreIndexed (processes_of design) bodies) (k : ℕ)
      (driven : driver_of design s ≡ Some k) where
    abbrev process : ProcessForm
    process = get_or (processes_of design) k no_process

    there : get_or (processes_of design) k process ≡ process
    there = found_again (processes_of design) k no_process

    pub has_body : k < length bodies
    has_body = inside_bodies design s k process bodies all driven

    pub driven_slice : (x : Indexed) (slice : BodySlice) → x ≡ get_or bodies k x
        → IsSliceOf s (looked_up s x) slice
        → SameParts (slice_statement slice) (sliced s (driven_body design s))
    driven_slice x slice at is_slice =
        let indexed = indexed_of_driver design s k process bodies all driven x there at in
        is_slice.parts nothing
        ∙ indexed s
        ∙ ap (λ (body : FlatStatement). in_sequence (sliced s body) nothing)
        (sym (ap first_body
        (one_driver_at design is.is_sound is.is_admitted s (signal_known flat s known) k process
        driven).2
        ∙ ap (λ (p : ProcessForm). p.body) there))
