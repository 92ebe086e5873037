-- The words of a cycle's line against the widths.
use Rattle.std.proofs.Common.{◌≡◌, ℕ, ◌+◌, ◌<◌, ◌≤◌, true, false, List, []}
use Rattle.std.proofs.Common.{◌∷◌, length, drop, get_or, refl, ap, ◌∙◌, Bor}
use Rattle.std.proofs.Common.{Option, Some, None, add-one, drop-cons}
use Rattle.std.specs.List.{slice_split}
use Rattle.std.specs.Option.{option_copied, is_some}
use Rattle.std.proofs.Math.ListN.{drop_of_length-le}
use Rattle.sv_trace.specs.Steps.{left_words}
use Rattle.sv_trace.specs.Stimulus.{is_blank, are_values}
use Rattle.sv_trace.proofs.Splitting.{first_part}

cons_at : (ws : List ℕ) (k : ℕ) → k < length ws → drop k ws ≡ get_or ws k 0 ∷ drop (k + 1) ws
cons_at ws k inside = rw (add-one, drop-cons ws k 0) refl

-- a width is left and no word
pub no_word : (ws : List ℕ) (k : ℕ) → k < length ws → are_values (drop k ws) [] ≡ false
no_word ws k inside = ap (λ vs. are_values vs []) (cons_at ws k inside)

-- a word is left and no width
pub no_width : (ws : List ℕ) (k : ℕ) (rest : Option (Bor (List ℕ))) → length ws ≤ k
    → is_some rest ≡ true → are_values (drop k ws) (left_words (option_copied rest)) ≡ false
no_width ws k None past some = cc
no_width ws k (Some text) past some =
    let parts = first_part is_blank text.now in
    ap (λ vs. are_values vs (slice_split is_blank text.now)) (drop_of_length-le ws past)
    ∙ ap (are_values []) parts.2
