-- Words and their kinds.
use Rattle.std.proofs.Common.{◌≡◌, ℕ, ◌+◌, ◌-◌, ◌<◌, Bool, true, false, cond, Bor, List, [], ◌∷◌}
use Rattle.std.proofs.Common.{take, drop, length, get_or, map, Option, Some, None, refl, sym}
use Rattle.std.proofs.Common.{ap, ◌∙◌, arith}
use Rattle.std.specs.Prelude.{option_map, codes, find, if◌then◌else◌}
use Rattle.std.specs.List.{prefix_len}
use Rattle.std.specs.Option.{option_map_or}
use Rattle.std.specs.Str.{bytes_eq}
use Rattle.std.proofs.lemmas.Cmp.{nat_list_eq_equiv}
use Rattle.std.proofs.lemmas.List.{take_rest}
use Rattle.std.proofs.lemmas.List.Folds.{length-prefix_len}
use Rattle.std.proofs.Math.Numerals.{add-one}
use Rattle.sv_token.specs.declared.keywords.WordKind.{WordKind}
use Rattle.sv_token.specs.Bytes.{entry, continues_name, begins_name, next_is}
use Rattle.sv_token.specs.Fronts.{token, unsupported, bad_byte}
use Rattle.sv_token.specs.Lexemes.{word, identifier, between}
use Rattle.sv_token.specs.Words.{word_of, name_at, system_name_at}

-- a row of the code as a row of the table
abbrev pub row_of : Bor (List ℕ) × WordKind → List ℕ × WordKind
row_of row = (row.0.now, row.1)

pub found_entry : (text : List ℕ) (rows : List (Bor (List ℕ) × WordKind)) →
    option_map (λ (row : Bor (List ℕ) × WordKind).
    row.1) (find (λ (row : Bor (List ℕ) × WordKind). bytes_eq row.0.now text) rows) ≡
    entry (map row_of rows) text
found_entry text [] = refl
found_entry text (row ∷ rows) =
    step (bytes_eq row.0.now text) (bytes_eq text row.0.now) (nat_list_eq_equiv.symm row.0.now text)
    (found_entry text rows)
  where
    step : (t u : Bool) → t ≡ u →
        option_map (λ (row : Bor (List ℕ) × WordKind).
        row.1) (find (λ (row : Bor (List ℕ) × WordKind). bytes_eq row.0.now text) rows) ≡
        entry (map row_of rows) text →
        option_map (λ (row : Bor (List ℕ) × WordKind).
        row.1) (cond t (Some row) (find (λ (row : Bor (List ℕ) × WordKind).
        bytes_eq row.0.now text) rows)) ≡
        option_map (λ (row : List ℕ × WordKind).
        row.1) (cond u (Some (row_of row)) (find (λ (row : List ℕ × WordKind).
        bytes_eq text row.0) (map row_of rows)))
    step true true e others = refl
    step false false e others = others
    step true false e others = absurd cc
    step false true e others = absurd cc

take-first : (b : ℕ) (bs : List ℕ) (n : ℕ) → take (n + 1) (b ∷ bs) ≡ b ∷ take n bs
take-first b bs n = rw add-one refl

name_by : (bytes : List ℕ) (n : ℕ) (o : Option WordKind) → 0 < length bytes →
    n ≡ prefix_len continues_name (drop 1 bytes) → o ≡ word_of (take (n + 1) bytes) →
    name_at (get_or bytes 0 0) (drop 1 bytes) ≡
    token (option_map_or word o (identifier (between 0 (n + 1) bytes))) n
unfolding name_at
name_by [] n o some is kind = absurd (omega arith)
name_by (b ∷ bs) n o some is kind =
    let text : b ∷ take (prefix_len continues_name bs) bs ≡ take (n + 1) (b ∷ bs) =
    ap (λ k. b ∷ take k bs) (sym is) ∙ sym (take-first b bs n) in
    let known : word_of (b ∷ take (prefix_len continues_name bs) bs) ≡ o =
    ap word_of text ∙ sym kind in
    let count : length (take (prefix_len continues_name bs) bs) ≡ n =
    length-prefix_len continues_name bs ∙ sym is in
    let all : (n + 1) - 0 ≡ n + 1 = omega arith in
    rw (known, text, count, all) refl

-- how long the name goes on behind the first byte
abbrev pub GoesOn : List ℕ → ℕ → Type 0
GoesOn bytes n = n ≡ prefix_len continues_name (take (length bytes - 1) (drop 1 bytes))

goes_on : (bytes : List ℕ) (n : ℕ) → GoesOn bytes n → n ≡ prefix_len continues_name (drop 1 bytes)
goes_on bytes n is = is ∙ ap (prefix_len continues_name) (take_rest bytes 1)

-- a name by what its text is
pub name_is : (bytes : List ℕ) (n : ℕ) (o : Option WordKind) → 0 < length bytes →
    GoesOn bytes n → o ≡ word_of (take (n + 1) bytes) →
    name_at (get_or bytes 0 0) (drop 1 bytes) ≡
    token (option_map_or word o (identifier (between 0 (n + 1) bytes))) n
name_is bytes n o some is kind = name_by bytes n o some (goes_on bytes n is) kind

system_name_by : (bytes : List ℕ) (n : ℕ) (o : Option WordKind) → 0 < length bytes →
    get_or bytes 0 0 ≡ 36 →
    n ≡ prefix_len continues_name (drop 1 bytes) → o ≡ word_of (take (n + 1) bytes) →
    system_name_at (drop 1 bytes) ≡
    option_map_or (λ w. token (word w) n) o
    (if next_is begins_name (take n (drop 1 bytes)) then unsupported (codes "system-name")
    else bad_byte)
unfolding system_name_at
system_name_by [] n o some dollar is kind = absurd (omega arith)
system_name_by (b ∷ bs) n o some dollar is kind =
    let text : 36 ∷ take (prefix_len continues_name bs) bs ≡ take (n + 1) (b ∷ bs) =
    ap (λ k. 36 ∷ take k bs) (sym is) ∙ ap (λ d. d ∷ take n bs) (sym dollar)
    ∙ sym (take-first b bs n) in
    let known : word_of (36 ∷ take (prefix_len continues_name bs) bs) ≡ o =
    ap word_of text ∙ sym kind in
    let count : length (take (prefix_len continues_name bs) bs) ≡ n =
    length-prefix_len continues_name bs ∙ sym is in
    rw (known, count, ← is) refl

-- a name of the system by what its text is
pub system_name_is : (bytes : List ℕ) (n : ℕ) (o : Option WordKind) → 0 < length bytes →
    get_or bytes 0 0 ≡ 36 → GoesOn bytes n → o ≡ word_of (take (n + 1) bytes) →
    system_name_at (drop 1 bytes) ≡
    option_map_or (λ w. token (word w) n) o
    (if next_is begins_name (take n (drop 1 bytes)) then unsupported (codes "system-name")
    else bad_byte)
system_name_is bytes n o some dollar is kind =
    system_name_by bytes n o some dollar (goes_on bytes n is) kind

-- one that spells no word, by whether a name stands there
pub system_name_none : (bytes : List ℕ) (n : ℕ) (o : Option WordKind) (next : Bool) →
    0 < length bytes → get_or bytes 0 0 ≡ 36 → GoesOn bytes n →
    o ≡ word_of (take (n + 1) bytes) → o ≡ None →
    next ≡ next_is begins_name (take ((n + 1) - 1) (drop 1 bytes)) →
    system_name_at (drop 1 bytes) ≡
    (if next then unsupported (codes "system-name") else bad_byte)
system_name_none bytes n o next some dollar is kind none begins =
    let same = system_name_is bytes n o some dollar is kind in
    let other = rw none at same in
    let behind : (n + 1) - 1 ≡ n = omega arith in
    let test : next_is begins_name (take n (drop 1 bytes)) ≡ next =
    ap (λ k. next_is begins_name (take k (drop 1 bytes))) (sym behind) ∙ sym begins in
    rw test at other
