-- What a source in memory gave, and what is left.
use Rattle.std.proofs.Common.{◌≡◌, ◌≤◌, ℕ, ◌+◌, ◌-◌, List, ◌++◌, length, take, drop, arith}
use Rattle.std.proofs.lemmas.Grind.{common_steps}
use Rattle.std.proofs.lemmas.List.{take-append-drop}
use Rattle.std.proofs.Math.Seq.{take-append-add, drop-append-add}

-- where the bytes that a take moves are the next ones, what was given grows by them, and what is
-- left loses them
pub take_moves : (all read moved : List ℕ) (at count : ℕ) → at ≤ length all → read ≡ all
    → moved ≡ take count (take (length read - at) (drop at read))
    → (take (at + count) all ≡ take at all ++ moved)
    × (drop at all ≡ moved ++ drop (at + count) all)
take_moves all read moved at count within same next =
    let whole = take-append-drop at all in
    let rest = take-append-drop count (drop at all) in
    let front : length (take at all) ≡ at = grind (arith, common_steps) in
    let tail : take (length all - at) (drop at all) ≡ drop at all = grind (arith, common_steps) in
    let piece : moved ≡ take count (drop at all) = cc in
    let more = take-append-add (take at all) (drop at all) count in
    let less = drop-append-add (take at all) (drop at all) count in
    (cc, cc)
