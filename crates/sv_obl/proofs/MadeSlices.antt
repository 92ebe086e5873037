-- What a process makes of a target is what its slice makes of it.
use Rattle.std.proofs.Common.{◌≡◌, ℕ, Bool, true, false, cond, ◌==◌, List, [], ◌∷◌, fold, refl, ap}
use Rattle.std.proofs.Common.{ap₂, ◌∙◌}
use Rattle.std.specs.Prelude.{IsFalse}
use Rattle.std.specs.List.{list_any}
use Rattle.sv_num.specs.Vectors.{is_true}
use Rattle.sv_system.specs.System.{Environment}
use Rattle.sv_flat.specs.Design.{SignalForm, PieceForm, FlatStatement, nothing, after, assign}
use Rattle.sv_flat.specs.Design.{branch}
use Rattle.sv_flat.specs.Values.{value}
use Rattle.sv_flat.specs.Runs.{with_piece}
use Rattle.sv_flat.specs.Assigned.{assigns}
use Rattle.sv_flat.proofs.SameRuns.{or_none_left, or_none_right}
use Rattle.sv_obl.specs.BodySlices.{sliced, SameParts}
use Rattle.sv_obl.specs.MadeValues.{after_piece, made}
use Rattle.sv_obl.proofs.SliceFacts.{PassesOver, slice_means}

module _ (signals : List SignalForm) (settled : Environment ℕ) (s : ℕ) where
  pieces_pass : (right : ℕ) (pieces : List PieceForm) (old : ℕ)
      → IsFalse (list_any (λ (piece : PieceForm). piece.signal == s) pieces)
      → fold (after_piece signals s right) old pieces ≡ old
  pieces_pass right [] old none = refl
  pieces_pass right (piece ∷ pieces) old none =
      ap (λ n. fold (after_piece signals s right) n pieces)
      (ap (λ b. cond b (with_piece signals piece right old) old)
      (or_none_left (piece.signal == s)
      (list_any (λ (p : PieceForm). p.signal == s) pieces) none))
      ∙ pieces_pass right pieces old (or_none_right (piece.signal == s)
      (list_any (λ (p : PieceForm). p.signal == s) pieces) none)

  either_old : (b : Bool) (x y old : ℕ) → x ≡ old → y ≡ old → cond b x y ≡ old
  either_old true x y old one two = one
  either_old false x y old one two = two

  others_pass : (a : FlatStatement) → IsFalse (assigns a s) → (old : ℕ)
      → made signals settled s a old ≡ old
  others_pass nothing none old = refl
  others_pass (after a b) none old =
      ap (made signals settled s b)
      (others_pass a (or_none_left (assigns a s) (assigns b s) none) old)
      ∙ others_pass b (or_none_right (assigns a s) (assigns b s) none) old
  others_pass (assign pieces place blocking right) none old =
      pieces_pass (value signals settled right) pieces old none
  others_pass (branch place condition a b) none old =
      either_old (is_true (value signals settled condition)) (made signals settled s a old)
      (made signals settled s b old) old
      (others_pass a (or_none_left (assigns a s) (assigns b s) none) old)
      (others_pass b (or_none_right (assigns a s) (assigns b s) none) old)

  pub made_passes : PassesOver s (made signals settled s)
  made_passes = record {
    chain = λ a b old. refl;
    arms = λ place condition a b c d same_a same_b one two old.
        ap₂ (λ x y. cond (is_true (value signals settled condition)) x y) (one old) (two old);
    others = others_pass;
  }

  -- whatever has the parts of a body's slice makes of the target what the body makes of it
  pub slice_makes : (slice body : FlatStatement) → SameParts slice (sliced s body) → (old : ℕ)
      → made signals settled s slice old ≡ made signals settled s body old
  slice_makes slice body same old =
      slice_means s (made signals settled s) made_passes slice body same old
