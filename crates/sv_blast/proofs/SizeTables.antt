-- The sizes of all signals' words, in a table.
use Rattle.std.proofs.Common.{◌≡◌, ℕ, ◌+◌, ◌<◌, List, [], ◌∷◌, ◌++◌, length, map, min, sym, ap}
use Rattle.std.proofs.Common.{subst, ◌∙◌, arith, Bool, false}
use Rattle.std.specs.Prelude.{slice_index_or, if◌then◌else◌}
use Rattle.std.specs.List.{range_with_len}
use Rattle.std.proofs.lemmas.List.FromFn.{length-map-range_with_len, get_or-map-range_with_len}
use Rattle.std.proofs.lemmas.List.FromFn.{map-range_with_len_more}
use Rattle.sv_flat.specs.declared.designs.Flat.{Flat}
use Rattle.sv_flat.specs.Design.{FlatDesign}
use Rattle.sv_flat.specs.Views.{design_of}
use Rattle.sv_obl.proofs.PathLists.{cond_false}
use Rattle.sv_encoding.specs.Sizes.{signal_size}
use Rattle.sv_blast.specs.ConeSizes.{AreSizes}
use Rattle.sv_blast.proofs.KnownSignals.{as_many, known_signal}

-- what is told of a signal's word
abbrev pub told_size : FlatDesign → ℕ → ℕ
told_size design s = min (signal_size design s) 4194305

module _ (flat : Flat) where
  abbrev design : FlatDesign
  design = design_of flat

  pub size_inside : (sizes : List ℕ) (s : ℕ) → AreSizes (design_of flat) sizes →
      s < length flat.signals.items → s < length sizes
  size_inside sizes s are known =
      subst (λ n. s < n)
      (sym (ap length are ∙ length-map-range_with_len (told_size design) 0 (length design.signals)))
      (known_signal flat s known)

  pub size_there : (sizes : List ℕ) (s : ℕ) → AreSizes (design_of flat) sizes →
      s < length flat.signals.items →
      slice_index_or sizes s 0 ≡ min (signal_size (design_of flat) s) 4194305
  size_there sizes s are known =
      ap (λ xs. slice_index_or xs s 0) are
      ∙ get_or-map-range_with_len (told_size design) 0 (length design.signals) s s 0
      (known_signal flat s known) (omega arith)

  -- what a signal takes that no variables are given
  pub size_else : (given : Bool) (width : ℕ) (sizes : List ℕ) (s : ℕ) → given ≡ false →
      AreSizes (design_of flat) sizes → s < length flat.signals.items →
      slice_index_or sizes s 0
      ≡ min (if given then width else signal_size (design_of flat) s) 4194305
  size_else given width sizes s none are known =
      size_there sizes s are known
      ∙ ap (λ n. min n 4194305)
      (sym (cond_false given width (signal_size (design_of flat) s) none))

  -- the sizes of the signals below a number
  abbrev pub SizesBelow : (number : ℕ) → List ℕ → Type 0
  SizesBelow number sizes = sizes ≡ map (told_size (design_of flat)) (range_with_len 0 number)

  pub sizes_more : (number size : ℕ) (sizes more : List ℕ) → SizesBelow number sizes →
      more ≡ sizes ++ size ∷ [] → size ≡ min (signal_size (design_of flat) number) 4194305 →
      SizesBelow (number + 1) more
  sizes_more number size sizes more so_far pushed told =
      pushed ∙ ap (λ xs. xs ++ size ∷ []) so_far
      ∙ ap (λ k. map (told_size design) (range_with_len 0 number) ++ k ∷ []) told
      ∙ sym (map-range_with_len_more (told_size design) 0 number number (omega arith))

  pub sizes_all : (number : ℕ) (sizes : List ℕ) → SizesBelow number sizes →
      number ≡ length flat.signals.items → AreSizes (design_of flat) sizes
  sizes_all number sizes so_far all =
      so_far ∙ ap (λ n. map (told_size design) (range_with_len 0 n)) (all ∙ sym (as_many flat))
