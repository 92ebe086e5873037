-- What one word is.
use Rattle.std.proofs.Common.{◌≡◌, ℕ, ◌<◌, ◌≤◌, Bool, true, List, [], ◌∷◌, length, get_or}
use Rattle.std.proofs.Common.{sym, ◌∙◌, ap, arith}
use Rattle.std.specs.Prelude.{string_bytes, String}
use Rattle.std.specs.declared.alloc.Global.{Global}
use Rattle.std.specs.Str.{bytes_eq}
use Rattle.std.proofs.lemmas.Slice.Eq.{bytes_eq-Decides}
use Rattle.sv_words.specs.Words.{words_of}

-- a list of one word that has this spelling
pub one_word : (words : List (String Global)) (word : String Global) (read text : List ℕ)
    (equal : Bool) → 1 ≤ length words → length words < 2 → word ≡ get_or words 0 word
    → read ≡ string_bytes word → equal ≡ bytes_eq read text → equal ≡ true
    → words_of words ≡ text ∷ []
one_word [] word read text equal some one first reads tested true_is = absurd (omega arith)
one_word (w ∷ []) word read text equal some one first reads tested true_is =
    let same : bytes_eq read text ≡ true = sym tested ∙ true_is in
    let spelled : read ≡ text = (bytes_eq-Decides read text).0 same in
    ap (λ (x : String Global). string_bytes x ∷ []) (sym first)
    ∙ ap (λ (bs : List ℕ). bs ∷ []) (sym reads ∙ spelled)
one_word (w ∷ v ∷ words) word read text equal some one first reads tested true_is =
    absurd (omega arith)
