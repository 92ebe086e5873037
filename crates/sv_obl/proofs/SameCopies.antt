-- Statements of the same parts name copies alike.
use Rattle.std.proofs.Common.{◌≡◌, ℕ, ◌||◌, refl, sym, ap, ap₂, ◌∙◌}
use Rattle.sv_flat.specs.Design.{FlatStatement, nothing, after, assign, branch}
use Rattle.sv_obl.specs.BodySlices.{in_sequence, SameParts}
use Rattle.sv_obl.specs.Marked.{names_copy, has_copy}
use Rattle.sv_obl.proofs.SliceFacts.{or_of, or_none}

-- ---- copies

module _ (count : ℕ) where
  copies_in_sequence : (a b : FlatStatement)
      → has_copy count (in_sequence a b) ≡ (has_copy count a || has_copy count b)
  copies_in_sequence nothing b = refl
  copies_in_sequence (after x y) b =
      copies_in_sequence x (in_sequence y b)
      ∙ ap (λ c. has_copy count x || c) (copies_in_sequence y b)
      ∙ sym (or_of (has_copy count x) (has_copy count y) (has_copy count b))
  copies_in_sequence (assign pieces place blocking right) b = refl
  copies_in_sequence (branch place condition x y) b =
      ap₂ (λ m n. (names_copy count condition || m || n) || has_copy count b)
      (copies_in_sequence x nothing ∙ or_none (has_copy count x))
      (copies_in_sequence y nothing ∙ or_none (has_copy count y))

  pub same_copies : (a b : FlatStatement) → SameParts a b → has_copy count a ≡ has_copy count b
  same_copies a b same =
      sym (copies_in_sequence a nothing ∙ or_none (has_copy count a))
      ∙ ap (has_copy count) same
      ∙ copies_in_sequence b nothing ∙ or_none (has_copy count b)
