-- The rest of a line, by a search for its end.
use Rattle.std.specs.Prelude.{◌≡◌, ℕ, List, Option, Some, None, length, unwrap_or}
use Rattle.std.proofs.Common.{sym, arith}
use Rattle.std.specs.List.{position_or_len}
use Rattle.std.proofs.lemmas.Bool.{false_from_ne_true}
use Rattle.std.proofs.lemmas.List.Sums.{position_or_len_is}
use Rattle.memchr.specs.Find.{IsFirstByte, is_byte}
use Rattle.sv_token.specs.Bytes.{is_line_feed}

-- what a search for the line feed says
pub line_end : (bytes : List ℕ) (place : Option ℕ) → IsFirstByte (is_byte 10) bytes place →
    unwrap_or place (length bytes) ≡ position_or_len is_line_feed bytes
line_end bytes None nowhere =
    sym (position_or_len_is is_line_feed bytes (length bytes) 0 (omega arith)
    (λ k low. false_from_ne_true _ (nowhere k (omega arith) low)) (λ more. absurd (omega arith)))
line_end bytes (Some n) found =
    let first = found.0 in
    sym (position_or_len_is is_line_feed bytes n 0 (omega (arith, first.high))
    (λ k low. false_from_ne_true _ (first.before k (omega arith) low)) (λ more. found.1))
