-- What statements with the same parts have in common, however their sequences are grouped: the words
-- that they make of all followed signals, how many gates these take, and what they need.
use Rattle.std.proofs.Common.{◌≡◌, ℕ, ◌+◌, ◌||◌, Bool, cond, List}
use Rattle.std.proofs.Common.{filter, refl, sym, ap, ap₂, subst, ◌∙◌}
use Rattle.std.specs.Prelude.{IsTrue}
use Rattle.std.specs.List.{list_any}
use mathlib.Core.Path.{fun_ext}
use Rattle.sv_num.specs.declared.faults.Place.{Place}
use Rattle.sv_flat.specs.Design.{SignalForm, TypedTree, FlatStatement, nothing, after}
use Rattle.sv_flat.specs.Design.{assign, branch}
use Rattle.sv_flat.specs.Assigned.{assigns}
use Rattle.sv_obl.specs.BodySlices.{in_sequence, SameParts}
use Rattle.sv_obl.specs.Wanted.{with_copies}
use Rattle.sv_obl.proofs.SliceFacts.{or_none, assigns_in_sequence, same_parts_have}
use Rattle.sv_obl.proofs.SliceFacts.{same_parts_sized}
use Rattle.sv_gates.specs.Formulas.{Formula}
use Rattle.sv_encoding.specs.Expressions.{Words}
use Rattle.sv_encoding.specs.Bodies.{WordsMaker, branch_words, words_after}
use Rattle.sv_encoding.specs.Sizes.{statement_size, truth_size, widths_of}
use Rattle.sv_blast.specs.FollowedWords.{AreFit, IsFit}

-- ---- targets

-- a branch whose arms are in sequence assigns the same
arms_assign : (place : Place) (condition : TypedTree) (x y : FlatStatement) →
    assigns (branch place condition (in_sequence x nothing) (in_sequence y nothing))
    ≡ assigns (branch place condition x y)
arms_assign place condition x y = fun_ext (λ s.
    ap₂ (λ c d. c || d) (assigns_in_sequence s x nothing ∙ or_none (assigns x s))
    (assigns_in_sequence s y nothing ∙ or_none (assigns y s)))

module _ (signals : List SignalForm) (followed : List ℕ) where
  -- ---- words

  -- a branch by its targets and by what its arms make
  abbrev branch_of : (condition : TypedTree) → (targets : ℕ → Bool) → (one two : WordsMaker) →
      WordsMaker
  branch_of condition targets one two ws f =
      cond (list_any targets followed)
      (branch_words signals condition one two (filter targets followed) ws f) (f, ws)

  sequence_words : (a rest : FlatStatement) (ws : Words) (f : Formula) →
      words_after signals followed (in_sequence a rest) ws f
      ≡ words_after signals followed (after a rest) ws f
  sequence_words nothing rest ws f = refl
  sequence_words (after x y) rest ws f =
      let one = words_after signals followed x ws f in
      sequence_words x (in_sequence y rest) ws f ∙ sequence_words y rest one.1 one.0
  sequence_words (assign pieces place blocking right) rest ws f = refl
  sequence_words (branch place condition x y) rest ws f =
      ap (λ (z : Formula × Words). words_after signals followed rest z.1 z.0)
      (ap (λ (targets : ℕ → Bool). branch_of condition targets
      (words_after signals followed (in_sequence x nothing))
      (words_after signals followed (in_sequence y nothing)) ws f)
      (arms_assign place condition x y)
      ∙ ap₂ (λ (one two : WordsMaker).
      branch_of condition (assigns (branch place condition x y)) one two ws f)
      (fun_ext (λ vs. fun_ext (λ g. sequence_words x nothing vs g)))
      (fun_ext (λ vs. fun_ext (λ g. sequence_words y nothing vs g))))

  pub same_words : (a b : FlatStatement) → SameParts a b → (ws : Words) (f : Formula) →
      words_after signals followed a ws f ≡ words_after signals followed b ws f
  same_words a b same ws f =
      sym (sequence_words a nothing ws f)
      ∙ ap (λ (x : FlatStatement). words_after signals followed x ws f) same
      ∙ sequence_words b nothing ws f

  -- ---- sizes

  abbrev branch_size : (condition : TypedTree) → (targets : ℕ → Bool) → (one two : ℕ) → ℕ
  branch_size condition targets one two =
      cond (list_any targets followed)
      (truth_size (with_copies signals) condition + one + two
      + widths_of signals (filter targets followed)) 0

  pub same_size : (a b : FlatStatement) → SameParts a b →
      statement_size signals followed a ≡ statement_size signals followed b
  same_size =
      same_parts_sized (statement_size signals followed) refl (λ a b. refl)
      (λ place condition x y first second. ap (λ (targets : ℕ → Bool). branch_size condition targets
      (statement_size signals followed (in_sequence x nothing))
      (statement_size signals followed (in_sequence y nothing)))
      (arms_assign place condition x y)
      ∙ ap₂ (branch_size condition (assigns (branch place condition x y))) first second)

  -- ---- what they need

  module _ (IsAtHand : ℕ → Type 0) where
    -- a condition is fit where some followed signal is among such targets
    abbrev FitFor : TypedTree → (ℕ → Bool) → Type 0
    FitFor condition targets =
        IsTrue (list_any targets followed) → IsFit signals IsAtHand condition

    pub same_fit : (a b : FlatStatement) → SameParts a b → AreFit signals followed IsAtHand b →
        AreFit signals followed IsAtHand a
    same_fit =
        same_parts_have (AreFit signals followed IsAtHand) tt (λ a b one two. (one, two))
        (λ a b fit. (fit.0, fit.1))
        (λ place condition x y first second fit. (
          subst (FitFor condition) (sym (arms_assign place condition x y)) fit.0,
          (first fit.1.0, second fit.1.1),
        ))
        (λ place condition x y first second fit. (
          subst (FitFor condition) (arms_assign place condition x y) fit.0,
          (first fit.1.0, second fit.1.1),
        ))
