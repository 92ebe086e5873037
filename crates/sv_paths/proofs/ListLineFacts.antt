-- Lines, piece by piece.
use Rattle.std.proofs.Common.{◌≡◌, ℕ, ◌<◌, zero, suc, List, [], ◌∷◌, ◌++◌, map, length, Option}
use Rattle.std.proofs.Common.{sym, ap, ◌∙◌, append_assoc, append-nil}
use Rattle.std.proofs.Common.{arith, get_or}
use Rattle.std.specs.Prelude.{All, codes}
use Rattle.std.proofs.lemmas.List.Concat.{flat_map-append}
use Rattle.std.proofs.lemmas.List.Elements.{All-head, All-tail}
use Rattle.sv_num.specs.declared.faults.Place.{Place}
use Rattle.sv_flat.specs.Design.{SignalForm}
use Rattle.sv_flat.specs.declared.signals.SigId.{SigId}
use Rattle.sv_obl.specs.declared.frames.Frame.{Frame}
use Rattle.sv_obl.specs.SignalNames.{name_of}
use Rattle.sv_paths.specs.ListLines.{blanked, frame_word, right_word}
use Rattle.sv_obl.specs.Views.{number_of}

-- a read is among the signals
pub known_at : (count : ℕ) (reads : List SigId) (k : ℕ) (d : SigId)
    → All (λ s. s < count) (map number_of reads) → k < length reads
    → (get_or reads k d).0 < count
known_at count [] k d all inside = absurd (omega arith)
known_at count (s ∷ reads) zero d all inside =
    All-head (λ n. n < count) (number_of s) (map number_of reads) all
known_at count (s ∷ reads) (suc k) d all inside =
    known_at count reads k d (All-tail (λ n. n < count) (number_of s) (map number_of reads) all)
    (omega arith)

-- one word, and some after others
one_word : (line word : List ℕ) → line ++ codes " " ++ word ≡ line ++ blanked (word ∷ [])
one_word line word =
    append_assoc line (codes " ") word ∙ ap (λ x. line ++ x) (sym (append-nil (codes " " ++ word)))

pub more_words : (line : List ℕ) (first second : List (List ℕ)) →
    line ++ blanked first ++ blanked second ≡ line ++ blanked (first ++ second)
more_words line first second =
    append_assoc line (blanked first) (blanked second)
    ∙ ap (λ x. line ++ x) (sym (flat_map-append (λ word. codes " " ++ word) first second))

-- the words of a flow of a target
abbrev pub line_words : List SignalForm → (target : ℕ) → Frame → (conditions : List (List ℕ)) →
    Option Place → (reads : List ℕ) → List (List ℕ)
line_words forms s frame conditions right reads =
    name_of forms s ∷ frame_word frame ∷ conditions ++ right_word right
    ∷ codes "reads" ∷ map (name_of forms) reads

-- the words of a flow, one after the other
pub flow_words : (line name frame right : List ℕ) (steps reads : List (List ℕ))
    → line ++ codes " " ++ name ++ codes " " ++ frame ++ blanked steps ++ codes " " ++ right
    ++ blanked reads
    ≡ line ++ blanked (name ∷ frame ∷ (steps ++ right ∷ reads))
flow_words line name frame right steps reads =
    ap (λ x. x ++ codes " " ++ frame ++ blanked steps ++ codes " " ++ right ++ blanked reads)
    (one_word line name)
    ∙ ap (λ x. x ++ blanked steps ++ codes " " ++ right ++ blanked reads)
    (one_word (line ++ blanked (name ∷ [])) frame ∙ more_words line (name ∷ []) (frame ∷ []))
    ∙ ap (λ x. x ++ codes " " ++ right ++ blanked reads) (more_words line (name ∷ frame ∷ []) steps)
    ∙ ap (λ x. x ++ blanked reads)
    (one_word (line ++ blanked (name ∷ frame ∷ steps)) right
    ∙ more_words line (name ∷ frame ∷ steps) (right ∷ []))
    ∙ more_words line (name ∷ frame ∷ (steps ++ right ∷ [])) reads
    ∙ ap (λ ws. line ++ blanked (name ∷ frame ∷ ws)) (append_assoc steps (right ∷ []) reads)

-- the words of a selector
pub selector_words : (line name second third : List ℕ) (reads : List (List ℕ))
    → line ++ codes " " ++ name ++ codes " " ++ second ++ codes " " ++ third ++ blanked reads
    ≡ line ++ blanked (name ∷ second ∷ third ∷ reads)
selector_words line name second third reads =
    ap (λ x. x ++ codes " " ++ second ++ codes " " ++ third ++ blanked reads) (one_word line name)
    ∙ ap (λ x. x ++ codes " " ++ third ++ blanked reads)
    (one_word (line ++ blanked (name ∷ [])) second ∙ more_words line (name ∷ []) (second ∷ []))
    ∙ ap (λ x. x ++ blanked reads)
    (one_word (line ++ blanked (name ∷ second ∷ [])) third
    ∙ more_words line (name ∷ second ∷ []) (third ∷ []))
    ∙ more_words line (name ∷ second ∷ third ∷ []) reads

-- ---- lines

-- the pieces of a line, one after the other
pub whole_line : (text number words end : List ℕ)
    → text ++ number ++ words ++ end ≡ text ++ (number ++ words ++ end)
whole_line text number words end =
    ap (λ x. x ++ end) (append_assoc text number words)
    ∙ append_assoc text (number ++ words) end
