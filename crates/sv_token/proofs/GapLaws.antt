-- Comments and directives.
use Rattle.std.proofs.Common.{◌≡◌, ℕ, zero, suc, ◌+◌, ◌-◌, ◌<◌, ◌≤◌, Bool, true, false, List, [], ◌∷◌}
use Rattle.std.proofs.Common.{take, drop, length, get_or, Option, Some, None, refl, sym, ap, subst}
use Rattle.std.proofs.Common.{◌∙◌, arith, ⊎_elim, length-drop, drop_of_length-le}
use Rattle.std.specs.Prelude.{codes, option_map, if◌then◌else◌}
use Rattle.std.specs.List.{prefix_len, list_any}
use Rattle.std.specs.Option.{option_map_or}
use Rattle.std.specs.Str.{bytes_eq}
use Rattle.std.proofs.lemmas.Bool.{cases_Bool, cond-true, cond-false}
use Rattle.std.proofs.lemmas.List.{length-take, take_rest}
use Rattle.std.proofs.lemmas.Slice.Eq.{bytes_eq-Decides}
use Rattle.std.proofs.Math.Seq.{drop-cons}
use Rattle.std.proofs.Math.Numerals.{add-one}
use Rattle.memchr.specs.Find.{OccursAt, Nowhere, FindsNeedle}
use Rattle.memchr.proofs.lemmas.MatchLemmas.{OccursAt-part, OccursAt-from_part}
use Rattle.sv_token.specs.Bytes.{begin_with, continues_name, begins_name, next_is}
use Rattle.sv_token.specs.Fronts.{gap, bad_byte, open_comment, unsupported}
use Rattle.sv_token.specs.Gaps.{close_length, block_comment_at, directive_at, rest_of_line}
use Rattle.sv_token.specs.Gaps.{skipped_directives}

closes : (bs : List ℕ) → begin_with (codes "*/") bs ≡ true → close_length bs ≡ Some 2
closes [] is = absurd cc
closes (b ∷ bs) is =
    cond-true (begin_with (codes "*/") (b ∷ bs)) (Some 2)
    (option_map (λ n. n + 1) (close_length bs)) is

-- a comment by the length of what stands behind `/*`
pub comment_is : (bytes : List ℕ) (o : Option ℕ) → 2 ≤ length bytes →
    o ≡ close_length (drop 2 bytes) →
    block_comment_at (drop 1 bytes) ≡ option_map_or (λ n. gap (n + 1)) o open_comment
unfolding block_comment_at
comment_is [] o some is = absurd (omega arith)
comment_is (a ∷ []) o some is = absurd (omega arith)
comment_is (a ∷ b ∷ bs) o some is =
    ap (λ p. option_map_or (λ n. gap (n + 1)) p open_comment) (sym is)

-- no `*/` begins at a place
shift : (i : ℕ) (o : Option ℕ) →
    option_map (λ n. i + n) (option_map (λ n. n + 1) o) ≡ option_map (λ n. (i + 1) + n) o
shift i None = refl
shift i (Some n) = ap Some (let e : i + (n + 1) ≡ (i + 1) + n = omega arith in e)

close_more : (bytes : List ℕ) (i : ℕ) → i < length bytes →
    begin_with (codes "*/") (drop i bytes) ≡ false →
    close_length bytes ≡ option_map (λ n. i + n) (close_length (drop i bytes)) →
    close_length bytes ≡ option_map (λ n. (i + 1) + n) (close_length (drop (i + 1) bytes))
close_more bytes i h other is =
    let rest : drop i bytes ≡ get_or bytes i 0 ∷ drop (i + 1) bytes =
    rw (add-one, ← drop-cons bytes i 0 h) refl in
    let passed : close_length (drop i bytes) ≡ option_map (λ n.
    n + 1) (close_length (drop (i + 1) bytes)) =
    ap close_length rest
    ∙ cond-false (begin_with (codes "*/") (get_or bytes i 0 ∷ drop (i + 1) bytes)) (Some 2)
    (option_map (λ n. n + 1) (close_length (drop (i + 1) bytes)))
    (ap (begin_with (codes "*/")) (sym rest) ∙ other) in
    is ∙ ap (option_map (λ n. i + n)) passed ∙ shift i (close_length (drop (i + 1) bytes))

-- `*/` stands where the rest begins with it
stands_here : (bytes : List ℕ) (k : ℕ) → OccursAt bytes (codes "*/") k →
    begin_with (codes "*/") (drop k bytes) ≡ true
stands_here bytes k occurs =
    (bytes_eq-Decides (codes "*/") (take 2 (drop k bytes))).1
    (sym (OccursAt-part bytes (codes "*/") k occurs))

occurs_here : (bytes : List ℕ) (k : ℕ) → begin_with (codes "*/") (drop k bytes) ≡ true →
    OccursAt bytes (codes "*/") k
occurs_here bytes k begins =
    let text : take 2 (drop k bytes) ≡ codes "*/" =
    sym ((bytes_eq-Decides (codes "*/") (take 2 (drop k bytes))).0 begins) in
    let fits : k + 2 ≤ length bytes =
    omega (arith, ap length text, length-take 2 (drop k bytes), length-drop k bytes) in
    OccursAt-from_part bytes (codes "*/") k fits text

unshifted : (o : Option ℕ) → o ≡ option_map (λ n. 0 + n) o
unshifted None = refl
unshifted (Some n) = ap Some (let e : n ≡ 0 + n = omega arith in e)

-- a comment goes on past places where no `*/` stands
passed : (bytes : List ℕ) (i : ℕ) → i ≤ length bytes → Nowhere (OccursAt bytes (codes "*/")) 0 i →
    close_length bytes ≡ option_map (λ n. i + n) (close_length (drop i bytes))
passed bytes zero within none = unshifted (close_length bytes)
passed bytes (suc i) within none =
    let other : begin_with (codes "*/") (drop i bytes) ≡ false =
    ⊎_elim (λ begins. absurd (none i (omega arith) (omega arith) (occurs_here bytes i begins)))
    (λ not. not) (cases_Bool (begin_with (codes "*/") (drop i bytes))) in
    let P : ℕ → Type 0 = λ k. close_length bytes ≡ option_map (λ n.
    k + n) (close_length (drop k bytes)) in
    let next : i + 1 ≡ suc i = omega arith in
    let before = passed bytes i (omega arith) (λ k low high. none k low (omega arith)) in
    subst P next (close_more bytes i (omega arith) other before)

-- what a search for `*/` says
pub closes_where : (bytes : List ℕ) (place : Option ℕ) →
    FindsNeedle bytes (codes "*/") 0 place → option_map (λ n. n + 2) place ≡ close_length bytes
closes_where bytes None none =
    let end = passed bytes (length bytes) (omega arith) (λ k low high. none k low (omega arith)) in
    sym (end
    ∙ ap (λ (bs : List ℕ). option_map (λ n. length bytes + n) (close_length bs))
    (drop_of_length-le bytes {i = length bytes} (omega arith)))
closes_where bytes (Some k) found =
    let first = found.0 in
    let before = passed bytes k (omega (arith, first.high)) first.before in
    sym (before
    ∙ ap (option_map (λ n. k + n)) (closes (drop k bytes) (stands_here bytes k found.1)))

-- a directive by the tests of its name
pub directive_is : (bytes rest : List ℕ) (n : ℕ) (t v : Bool) → rest ≡ drop 1 bytes →
    n ≡ prefix_len continues_name rest →
    t ≡ list_any (bytes_eq (take n rest)) skipped_directives → v ≡ next_is begins_name rest →
    directive_at (drop 1 bytes) ≡ (if t then gap (rest_of_line rest)
    else (if v then unsupported (codes "directive") else bad_byte))
unfolding directive_at
directive_is bytes rest n t v behind is skipped next =
    ap directive_at (sym behind) ∙ rw (skipped, next, is) refl

-- where its line is not skipped
pub directive_other : (bytes : List ℕ) (n : ℕ) (t v : Bool) →
    n ≡ prefix_len continues_name (take (length bytes - 1) (drop 1 bytes)) →
    t ≡ list_any (bytes_eq (take n (take (length bytes - 1) (drop 1 bytes)))) skipped_directives →
    v ≡ next_is begins_name (take (length bytes - 1) (drop 1 bytes)) → t ≡ false →
    directive_at (drop 1 bytes) ≡ (if v then unsupported (codes "directive") else bad_byte)
directive_other bytes n t v is skipped next other =
    let same = directive_is bytes (take (length bytes - 1) (drop 1 bytes)) n t v
    (take_rest bytes 1) is skipped next in
    rw other at same
