-- What stands at the front, by its first bytes.
use Rattle.std.proofs.Common.{◌≡◌, ℕ, ◌<◌, Bool, true, false, ◌&&◌, List, [], ◌∷◌, drop, length}
use Rattle.std.proofs.Common.{get_or, refl, sym, ap, subst, arith}
use Rattle.std.specs.Prelude.{codes, if◌then◌else◌}
use Rattle.std.proofs.lemmas.Bool.{ne_eqb}
use Rattle.sv_token.specs.Bytes.{begin_with, is_blank, is_digit, begins_name}
use Rattle.sv_token.specs.Fronts.{Front, gap, unsupported}
use Rattle.sv_token.specs.Gaps.{rest_of_line, block_comment_at, directive_at}
use Rattle.sv_token.specs.Numerals.{number_at, unsized_number_at}
use Rattle.sv_token.specs.Signs.{sign_at}
use Rattle.sv_token.specs.Tokens.{front_at}
use Rattle.sv_token.specs.Words.{name_at, system_name_at}

pub blank_front : (bytes : List ℕ) → 0 < length bytes → is_blank (get_or bytes 0 0) ≡ true →
    front_at (get_or bytes 0 0) (drop 1 bytes) ≡ gap 0
unfolding front_at
blank_front bytes some blank = rw blank refl

pub line_front : (bytes : List ℕ) → 0 < length bytes → is_blank (get_or bytes 0 0) ≡ false →
    begin_with (codes "//") bytes ≡ true →
    front_at (get_or bytes 0 0) (drop 1 bytes) ≡ gap (rest_of_line (drop 1 bytes))
unfolding front_at
line_front [] some blank line = absurd (omega arith)
line_front (b ∷ bs) some blank line = rw (blank, line) refl

pub block_front : (bytes : List ℕ) → 0 < length bytes → is_blank (get_or bytes 0 0) ≡ false →
    begin_with (codes "//") bytes ≡ false →
    begin_with (codes "/*") bytes ≡ true →
    front_at (get_or bytes 0 0) (drop 1 bytes) ≡ block_comment_at (drop 1 bytes)
unfolding front_at
block_front [] some blank line block = absurd (omega arith)
block_front (b ∷ bs) some blank line block = rw (blank, line, block) refl

-- by the first byte alone
first_front : (code : ℕ) (front : List ℕ → Front) (bytes : List ℕ)
    → ((bs : List ℕ) → front_at code bs ≡ front bs) → get_or bytes 0 0 ≡ code
    → front_at (get_or bytes 0 0) (drop 1 bytes) ≡ front (drop 1 bytes)
first_front code front bytes row is =
    subst (λ (d : ℕ). front_at d (drop 1 bytes) ≡ front (drop 1 bytes)) (sym is)
    (row (drop 1 bytes))

pub directive_front : (bytes : List ℕ) → 0 < length bytes → get_or bytes 0 0 ≡ 96 →
    front_at (get_or bytes 0 0) (drop 1 bytes) ≡ directive_at (drop 1 bytes)
unfolding front_at
directive_front bytes some is = first_front 96 directive_at bytes (λ bs. refl) is

pub escaped_front : (bytes : List ℕ) → 0 < length bytes → get_or bytes 0 0 ≡ 92 →
    front_at (get_or bytes 0 0) (drop 1 bytes) ≡ unsupported (codes "escaped-name")
unfolding front_at
escaped_front bytes some is =
    first_front 92 (λ bs. unsupported (codes "escaped-name")) bytes (λ bs. refl) is

pub text_front : (bytes : List ℕ) → 0 < length bytes → get_or bytes 0 0 ≡ 34 →
    front_at (get_or bytes 0 0) (drop 1 bytes) ≡ unsupported (codes "string")
unfolding front_at
text_front bytes some is = first_front 34 (λ bs. unsupported (codes "string")) bytes (λ bs. refl) is

pub system_front : (bytes : List ℕ) → 0 < length bytes → get_or bytes 0 0 ≡ 36 →
    front_at (get_or bytes 0 0) (drop 1 bytes) ≡ system_name_at (drop 1 bytes)
unfolding front_at
system_front bytes some is = first_front 36 system_name_at bytes (λ bs. refl) is

pub unsized_front : (bytes : List ℕ) → 0 < length bytes → get_or bytes 0 0 ≡ 39 →
    front_at (get_or bytes 0 0) (drop 1 bytes) ≡ unsized_number_at (drop 1 bytes)
unfolding front_at
unsized_front bytes some is = first_front 39 unsized_number_at bytes (λ bs. refl) is

-- one byte that does not begin the bytes
not_first : (code b : ℕ) (bs : List ℕ) → (b ≡ code → ⊥) → begin_with (code ∷ []) (b ∷ bs) ≡ false
not_first code b bs other = ap (λ (t : Bool). t && true) (ne_eqb code b (λ e. other (sym e)))

-- none of the first bytes that stand alone
pub record IsOther (b : ℕ) : Type 0 where
  pub tick : b ≡ 96 → ⊥
  pub backslash : b ≡ 92 → ⊥
  pub quote : b ≡ 34 → ⊥
  pub dollar : b ≡ 36 → ⊥
  pub apostrophe : b ≡ 39 → ⊥

pub other_front : (bytes : List ℕ) → 0 < length bytes → is_blank (get_or bytes 0 0) ≡ false →
    begin_with (codes "//") bytes ≡ false →
    begin_with (codes "/*") bytes ≡ false → IsOther (get_or bytes 0 0) →
    front_at (get_or bytes 0 0) (drop 1 bytes) ≡
    (if is_digit (get_or bytes 0 0) then number_at (get_or bytes 0 0) (drop 1 bytes)
    else (if begins_name (get_or bytes 0 0) then name_at (get_or bytes 0 0) (drop 1 bytes)
    else sign_at bytes))
unfolding front_at
other_front [] some blank line block other = absurd (omega arith)
other_front (b ∷ bs) some blank line block other =
    let a = not_first 96 b bs other.tick in
    let d = not_first 92 b bs other.backslash in
    let e = not_first 34 b bs other.quote in
    let f = not_first 36 b bs other.dollar in
    let g = not_first 39 b bs other.apostrophe in
    rw (blank, line, block, a, d, e, f, g) refl
