-- The line of a trail is that of its obligation.
use Rattle.std.proofs.Common.{◌≡◌, ℕ, ◌+◌, List, [], ◌∷◌, ◌++◌, map, reverse, Some, cond, sym, ap}
use Rattle.std.proofs.Common.{◌∙◌, append-nil}
use Rattle.std.specs.Prelude.{codes, decimal}
use Rattle.sv_flat.specs.Design.{SignalForm, ProcessForm, FlatStatement}
use Rattle.sv_paths.specs.declared.list_texts.NumberedLines.{NumberedLines}
use Rattle.sv_paths.specs.Alongs.{conditions_along, trail_obligation}
use Rattle.sv_paths.specs.ListLines.{blanked, frame_word, step_word, right_word, list_line}
use Rattle.sv_obl.specs.SignalNames.{name_of}
use Rattle.sv_obl.specs.Obligations.{is_link, frame_of}
use Rattle.sv_paths.specs.TrailLines.{trail_line}
use Rattle.sv_paths.specs.Trails.{TrailForm}
use Rattle.sv_paths.specs.Written.{mark_word, Writes}

module _ (signals : List SignalForm) (process : ProcessForm) (s : ℕ) (body : FlatStatement)
    (trail : TrailForm)
    (marks : map step_word (conditions_along signals s body trail)
    ≡ map mark_word (reverse trail.marks)) where
  trail_line_is : (number : ℕ) → trail_line signals number process s trail
      ≡ list_line signals number (trail_obligation signals process s body trail)
  trail_line_is number =
      ap (λ (words : List (List ℕ)). decimal number
      ++ blanked (name_of signals s ∷ frame_word (frame_of process.kind) ∷ words
      ++ right_word (cond (is_link process.kind) (Some process.place) trail.place)
      ∷ codes "reads" ∷ map (name_of signals) trail.names.settled)
      ++ codes "\n") (sym marks)

  pub trail_written : (old new : NumberedLines)
      → new.text.items ≡ old.text.items
      ++ trail_line signals (old.count + 1) process s trail
      → new.count ≡ old.count + 1
      → Writes signals (trail_obligation signals process s body trail ∷ []) old new
  trail_written old new text count = record {
    text =
        text
        ∙ ap (λ (line : List ℕ). old.text.items ++ line) (trail_line_is (old.count + 1)
        ∙ sym (append-nil (list_line signals (old.count + 1)
        (trail_obligation signals process s body trail))));
    count = count;
  }
