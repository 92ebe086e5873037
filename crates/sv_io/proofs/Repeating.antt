-- Steps through a head and a repeated line.
use Rattle.std.proofs.Common.{◌≡◌, ◌∙◌, ◌<◌, ◌≤◌, ◌⊎◌, ◌+◌, ◌-◌, ◌++◌, ◌∷◌, [], List, ℕ}
use Rattle.std.proofs.Common.{zero, suc, length, drop, drop-cons, slice_index_or, refl, sym, ap}
use Rattle.std.proofs.Common.{inl, inr, arith}
use Rattle.std.proofs.lemmas.List.{drop-append-le, drop_at}
use Rattle.std.proofs.Math.ListN.{drop_of_length-le}
use Rattle.sv_io.specs.Repeated.{repeated}

pub next_of_lines : (line : List ℕ) (times column d : ℕ) → column < length line
    → drop column (repeated (suc times) line)
    ≡ slice_index_or line column d ∷ drop (suc column) (repeated (suc times) line)
next_of_lines line times column d lt =
    drop-append-le column line (repeated times line) (omega arith)
    ∙ ap (λ (xs : List ℕ). xs ++ repeated times line) (drop-cons line column d lt)
    ∙ ap (λ (xs : List ℕ). slice_index_or line column d ∷ xs)
    (sym (drop-append-le (suc column) line (repeated times line) (omega arith)))

pub line_ends : (line : List ℕ) (times column : ℕ) → suc column ≡ length line
    → drop (suc column) (repeated (suc times) line) ≡ drop 0 (repeated times line)
line_ends line times column e = drop_at line (repeated times line) (suc column) (sym e)

no_lines : (times : ℕ) → repeated times [] ≡ []
no_lines zero = refl
no_lines (suc times) = no_lines times

pub nothing_left : (line : List ℕ) (times column : ℕ) → (times ≡ 0) ⊎ (line ≡ [])
    → drop column (repeated times line) ≡ []
nothing_left line times zero (inl e) = ap (λ (n : ℕ). drop 0 (repeated n line)) e
nothing_left line times (suc column) (inl e) = ap (λ (n : ℕ). drop (suc column) (repeated n line)) e
nothing_left line times zero (inr e) =
    ap (λ (l : List ℕ). drop 0 (repeated times l)) e ∙ no_lines times
nothing_left line times (suc column) (inr e) =
    ap (λ (l : List ℕ). drop (suc column) (repeated times l)) e
    ∙ ap (λ (l : List ℕ). drop (suc column) l) (no_lines times)

-- ---- the same, of a source whose head is past

nil_of : (xs : List ℕ) → length xs ≡ 0 → xs ≡ []
nil_of [] e = refl
nil_of (x ∷ xs) e = absurd (omega arith)

pub at_end : (head line : List ℕ) (at times column : ℕ) → length head ≤ at → (times ≡ 0)
    ⊎ (length line ≡ 0)
    → drop at head ++ drop column (repeated times line) ≡ []
at_end head line at times column past (inl e) =
    ap (λ (xs : List ℕ). xs ++ drop column (repeated times line)) (drop_of_length-le head past)
    ∙ nothing_left line times column (inl e)
at_end head line at times column past (inr e) =
    ap (λ (xs : List ℕ). xs ++ drop column (repeated times line)) (drop_of_length-le head past)
    ∙ nothing_left line times column (inr (nil_of line e))

pub in_lines : (head line : List ℕ) (at times column byte d : ℕ) → length head ≤ at → 0 < times
    → column < length line
    → byte ≡ slice_index_or line column d
    → drop at head ++ drop column (repeated times line) ≡ byte ∷ drop (column + 1)
    (repeated times line)
in_lines head line at zero column byte d past some lt is = absurd (omega arith)
in_lines head line at (suc n) column byte d past some lt is =
    let one : column + 1 ≡ suc column = omega arith in
    ap (λ (xs : List ℕ). xs ++ drop column (repeated (suc n) line)) (drop_of_length-le head past)
    ∙ next_of_lines line n column d lt
    ∙ ap (λ (b : ℕ). b ∷ drop (suc column) (repeated (suc n) line)) (sym is)
    ∙ ap (λ (k : ℕ). byte ∷ drop k (repeated (suc n) line)) (sym one)

pub past_line : (head line : List ℕ) (at times column : ℕ) → length head ≤ at → 0 < times
    → column + 1 ≡ length line
    → drop at head ++ drop 0 (repeated (times - 1) line) ≡ drop (column + 1) (repeated times line)
past_line head line at zero column past some e = absurd (omega arith)
past_line head line at (suc n) column past some e =
    let one : column + 1 ≡ suc column = omega arith in
    let less : suc n - 1 ≡ n = omega arith in
    ap (λ (xs : List ℕ). xs ++ drop 0 (repeated (suc n - 1) line)) (drop_of_length-le head past)
    ∙ ap (λ (k : ℕ). drop 0 (repeated k line)) less
    ∙ sym (line_ends line n column (omega arith))
    ∙ ap (λ (k : ℕ). drop k (repeated (suc n) line)) (sym one)
