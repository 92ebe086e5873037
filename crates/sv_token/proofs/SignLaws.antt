-- The longest sign.
use Rattle.std.proofs.Common.{◌≡◌, ℕ, suc, ◌+◌, ◌-◌, ◌<◌, ◌≤◌, Bool, true, false, cond, List, []}
use Rattle.std.proofs.Common.{◌∷◌, ◌++◌, take, length, map, Option, Some, None, refl, sym, ap, ◌∙◌}
use Rattle.std.proofs.Common.{arith, not, ◌||◌, ◌⊎◌, inl, inr}
use Rattle.std.specs.Prelude.{option_map, max, nat_le, nat_lt, is_some, find, position}
use Rattle.std.specs.Prelude.{if◌then◌else◌, unwrap_or}
use Rattle.std.specs.List.{list_any, list_all, fold, position_or_len}
use Rattle.std.specs.Option.{option_map_or, option_or, MatchOption}
use Rattle.std.specs.Str.{bytes_eq}
use Rattle.std.proofs.lemmas.List.{length-take-le, length-take}
use Rattle.std.proofs.lemmas.Cmp.{nat_list_eq_equiv}
use Rattle.std.proofs.lemmas.Bool.{cases_lt, lt-ltb, le-ltb, and_parts, or_left, or_right, or_cases}
use Rattle.std.proofs.lemmas.Bool.{leb-true, le-leb, lt-leb, cond-true, cond-false, false≢true}
use Rattle.std.proofs.lemmas.Slice.Eq.{bytes_eq-Decides}
use Rattle.std.proofs.lemmas.List.Folds.{list_any-append}
use Rattle.sv_token.specs.Bytes.{begin_with, entry}
use Rattle.sv_token.specs.Fronts.{Front, token, bad_byte, unsupported}
use Rattle.sv_token.specs.Lexemes.{sign}
use Rattle.sv_token.specs.Signs.{longest, sign_spellings, sign_of, sign_text, sign_at, spellings}
use Rattle.sv_token.specs.Signs.{left_out_signs, punctuation, binary_spellings, unary_spellings}
use Rattle.sv_token.specs.Signs.{operator_of, row_of}
use Rattle.sv_token.specs.Views.{spelled, front_of}
use Rattle.sv_token.specs.declared.fronts.TokenBreach.TheVariants.{BadByte}
use Rattle.sv_token.specs.declared.fronts.Front.{Front as CodeFront}
use Rattle.sv_token.specs.declared.fronts.Front.TheVariants as code_front

-- the length of the longest that begins the bytes, or so many where they are more
abbrev pub longest_from : ℕ → List (List ℕ) → List ℕ → ℕ
longest_from n texts bytes =
    fold (λ n text. if begin_with text bytes then max n (length text) else n) n texts

-- whether so many bytes are one of the texts
abbrev pub is_among : List (List ℕ) → List ℕ → Bool
is_among texts text = list_any (bytes_eq text) texts

-- a text that begins the bytes is their first bytes
begun : (text bytes : List ℕ) → begin_with text bytes ≡ true → text ≡ take (length text) bytes
begun text bytes h = (bytes_eq-Decides text (take (length text) bytes)).0 h

fits : (text bytes : List ℕ) → text ≡ take (length text) bytes → length text ≤ length bytes
fits text bytes h = omega (arith, ap length h ∙ length-take (length text) bytes)

Found : ℕ → ℕ → List (List ℕ) → List ℕ → Type 0
Found r n texts bytes = (r ≡ n) ⊎ ((r ≤ length bytes) × (is_among texts (take r bytes) ≡ true))

more : (r n : ℕ) (t : List ℕ) (ts : List (List ℕ)) (bytes : List ℕ) → Found r n ts bytes →
    Found r n (t ∷ ts) bytes
unfolding Found
more r n t ts bytes (inl e) = inl e
more r n t ts bytes (inr h) =
    inr (h.0, or_right (bytes_eq (take r bytes) t) (is_among ts (take r bytes)) h.1)

either : (n m : ℕ) → (max n m ≡ n) ⊎ (max n m ≡ m)
either n m = by (cases_lt n m)
  where
    by : (n < m) ⊎ (m ≤ n) → (max n m ≡ n) ⊎ (max n m ≡ m)
    by (inl h) = inr (omega arith)
    by (inr h) = inl (omega arith)

longest_found : (texts : List (List ℕ)) (n : ℕ) (bytes : List ℕ) →
    Found (longest_from n texts bytes) n texts bytes
unfolding Found
longest_found [] n bytes = inl refl
longest_found (t ∷ ts) n bytes = step (begin_with t bytes) refl (λ m. longest_found ts m bytes)
  where
    here : begin_with t bytes ≡ true → (r : ℕ) → r ≡ length t →
        (r ≤ length bytes) × (is_among (t ∷ ts) (take r bytes) ≡ true)
    here e r is =
        let text : t ≡ take (length t) bytes = begun t bytes e in
        let same : take r bytes ≡ t = ap (λ (k : ℕ). take k bytes) is ∙ sym text in (
          omega (arith, fits t bytes text),
          or_left (bytes_eq (take r bytes) t)
              (is_among ts (take r bytes)) ((bytes_eq-Decides (take r bytes) t).1 same),
        )

    chosen : (r : ℕ) → begin_with t bytes ≡ true → Found r (max n (length t)) ts bytes →
        (max n (length t) ≡ n) ⊎ (max n (length t) ≡ length t) → Found r n (t ∷ ts) bytes
    chosen r e (inr h) which = more r n t ts bytes (inr h)
    chosen r e (inl is) (inl first) = inl (is ∙ first)
    chosen r e (inl is) (inr second) = inr (here e r (is ∙ second))

    step : (b : Bool) → begin_with t bytes ≡ b →
        ((m : ℕ) → Found (longest_from m ts bytes) m ts bytes) →
        Found (longest_from (if b then max n (length t) else n) ts bytes) n (t ∷ ts) bytes
    step false e others = more (longest_from n ts bytes) n t ts bytes (others n)
    step true e others =
        chosen (longest_from (max n (length t)) ts bytes) e (others (max n (length t)))
        (either n (length t))

longest-ge : (texts : List (List ℕ)) (n : ℕ) (bytes : List ℕ) → n ≤ longest_from n texts bytes
longest-ge [] n bytes = omega arith
longest-ge (t ∷ ts) n bytes = step (begin_with t bytes) (λ m. longest-ge ts m bytes)
  where
    step : (b : Bool) → ((m : ℕ) → m ≤ longest_from m ts bytes) →
        n ≤ longest_from (if b then max n (length t) else n) ts bytes
    step false others = others n
    step true others = omega (arith, others (max n (length t)))

longest_takes : (texts : List (List ℕ)) (n : ℕ) (bytes : List ℕ) (k : ℕ) → k ≤ length bytes →
    is_among texts (take k bytes) ≡ true → k ≤ longest_from n texts bytes
longest_takes [] n bytes k h is = absurd (false≢true is)
longest_takes (t ∷ ts) n bytes k h is =
    step (begin_with t bytes) refl (λ m.
    longest_takes ts m bytes k h)
    (or_cases (bytes_eq (take k bytes) t) (is_among ts (take k bytes)) is)
  where
    begins : take k bytes ≡ t → begin_with t bytes ≡ true
    begins same =
        let count : k ≡ length t = sym (length-take-le k bytes h) ∙ ap length same in
        (bytes_eq-Decides t (take (length t) bytes)).1 (sym same
        ∙ ap (λ (j : ℕ). take j bytes) count)

    step : (b : Bool) → begin_with t bytes ≡ b →
        ((m : ℕ) → is_among ts (take k bytes) ≡ true → k ≤ longest_from m ts bytes) →
        (bytes_eq (take k bytes) t ≡ true) ⊎ (is_among ts (take k bytes) ≡ true) →
        k ≤ longest_from (if b then max n (length t) else n) ts bytes
    step b e others (inr later) = others (if b then max n (length t) else n) later
    step false e others (inl here) =
        absurd (false≢true (sym e ∙ begins ((bytes_eq-Decides (take k bytes) t).0 here)))
    step true e others (inl here) =
        let same : take k bytes ≡ t = (bytes_eq-Decides (take k bytes) t).0 here in
        let count : k ≡ length t = sym (length-take-le k bytes h) ∙ ap length same in
        omega (arith, count, longest-ge ts (max n (length t)) bytes)

-- what is spelled is one of the spellings

shifted : (a b : ℕ) → nat_lt (1 + a) (suc b) ≡ nat_lt a b
shifted a b = step (cases_lt a b)
  where
    step : (a < b) ⊎ (b ≤ a) → nat_lt (1 + a) (suc b) ≡ nat_lt a b
    step (inl h) = lt-ltb (1 + a) (suc b) (omega arith) ∙ sym (lt-ltb a b h)
    step (inr h) = le-ltb (1 + a) (suc b) (omega arith) ∙ sym (le-ltb a b h)

first_known : (p : List ℕ → Bool) (texts : List (List ℕ)) →
    nat_lt (position_or_len p texts) (length texts) ≡ list_any p texts
first_known p [] = refl
first_known p (t ∷ ts) = step (p t) (first_known p ts)
  where
    step : (b : Bool) → nat_lt (position_or_len p ts) (length ts) ≡ list_any p ts →
        nat_lt (cond (not b) (1 + position_or_len p ts) 0) (suc (length ts)) ≡ (b || list_any p ts)
    step true others = lt-ltb 0 (suc (length ts)) (omega arith)
    step false others =
        shifted (position_or_len p ts) (length ts) ∙ others

some_if : {A : Type 0} (b : Bool) (x : A) → is_some (cond b (Some x) None) ≡ b
some_if true x = refl
some_if false x = refl

row_known : (texts : List (List ℕ)) (text : List ℕ) →
    is_some (row_of texts text) ≡ is_among texts text
row_known texts text =
    some_if (nat_lt (position_or_len (bytes_eq text) texts) (length texts))
    (position_or_len (bytes_eq text) texts)
    ∙ first_known (bytes_eq text) texts

entry_known : {A : Type 0} (table : List (List ℕ × A)) (text : List ℕ) →
    is_some (entry table text) ≡ is_among (spellings table) text
entry_known [] text = refl
entry_known {A} (row ∷ rows) text = step (bytes_eq text row.0) (entry_known rows text)
  where
    step : (b : Bool) → is_some (entry rows text) ≡ is_among (spellings rows) text →
        is_some (option_map (λ (r : List ℕ × A).
        r.1) (cond b (Some row) (find (λ (r : List ℕ × A). bytes_eq text r.0) rows))) ≡
        (b || is_among (spellings rows) text)
    step true others = refl
    step false others = others

swap : (x y : Bool) → (x || y) ≡ (y || x)
swap true true = refl
swap true false = refl
swap false true = refl
swap false false = refl

sign_known : (text : List ℕ) →
    is_some (sign_of text) ≡
    (is_among (spellings punctuation) text
    || (is_among binary_spellings text || is_among unary_spellings text))
unfolding sign_of
sign_known text =
    either_known (entry punctuation text) (operator_of text)
    ∙ ap (λ (b : Bool). b || is_some (operator_of text)) (entry_known punctuation text)
    ∙ ap (λ (b : Bool). is_among (spellings punctuation) text || b)
    (some_if (is_some (row_of binary_spellings text) || is_some (row_of unary_spellings text)) _
    ∙ ap (λ (b : Bool). b || is_some (row_of unary_spellings text))
    (row_known binary_spellings text)
    ∙ ap (λ (b : Bool). is_among binary_spellings text || b) (row_known unary_spellings text))
  where
    either_known : {A : Type 0} (o p : Option A) →
        is_some (option_map_or Some o p) ≡ (is_some o || is_some p)
    either_known None p = refl
    either_known (Some x) p = refl

spelled_known : (text : List ℕ) → is_among sign_spellings text ≡ is_some (spelled text)
spelled_known text =
    list_any-append (bytes_eq text) (binary_spellings ++ unary_spellings ++ spellings punctuation)
    (spellings left_out_signs)
    ∙ ap (λ (b : Bool). b || is_among (spellings left_out_signs) text)
    (list_any-append (bytes_eq text) (binary_spellings ++ unary_spellings) (spellings punctuation)
    ∙ ap (λ (b : Bool). b || is_among (spellings punctuation) text)
    (list_any-append (bytes_eq text) binary_spellings unary_spellings)
    ∙ swap (is_among binary_spellings text || is_among unary_spellings text)
    (is_among (spellings punctuation) text)
    ∙ sym (sign_known text))
    ∙ swap (is_some (sign_of text)) (is_among (spellings left_out_signs) text)
    ∙ ap (λ (b : Bool). b || is_some (sign_of text)) (sym (entry_known left_out_signs text))
    ∙ sym (joined (λ form. unsupported form) (λ s.
    token (sign s) (length text - 1)) (entry left_out_signs text) (sign_of text))
  where
    joined : {A B C : Type 0} (f : A → C) (g : B → C) (o : Option A) (p : Option B) →
        is_some (option_map_or (λ x. Some (f x)) o (option_map g p)) ≡ (is_some o || is_some p)
    joined f g None None = refl
    joined f g None (Some y) = refl
    joined f g (Some x) p = refl

short : (texts : List (List ℕ)) (text : List ℕ) → list_all (λ t. nat_le (length t) 3) texts ≡ true →
    is_among texts text ≡ true → length text ≤ 3
short [] text all is = absurd (false≢true is)
short (t ∷ ts) text all is =
    step (or_cases (bytes_eq text t) (is_among ts text) is)
    (short ts text (and_parts (nat_le (length t) 3)
    (list_all (λ t. nat_le (length t) 3) ts) all).1)
  where
    step : (bytes_eq text t ≡ true) ⊎ (is_among ts text ≡ true) →
        (is_among ts text ≡ true → length text ≤ 3) → length text ≤ 3
    step (inl here) later =
        omega (
          arith,
          ap length ((bytes_eq-Decides text t).0 here),
          leb-true (length t) 3
              (and_parts (nat_le (length t) 3) (list_all (λ t. nat_le (length t) 3) ts) all).0,
        )
    step (inr there) later = later there

-- longer texts that spell nothing
abbrev pub NoneFrom : ℕ → List ℕ → Type 0
NoneFrom n bytes = (k : ℕ) → n < k → k ≤ length bytes → k ≤ 3 → spelled (take k bytes) ≡ None

-- the longest is no longer than what the others allow
longest-le : (bytes : List ℕ) (n : ℕ) → NoneFrom n bytes → longest sign_spellings bytes ≤ n
unfolding Found
longest-le bytes n none =
    step (longest_found sign_spellings 0 bytes) (cases_lt n (longest sign_spellings bytes))
  where
    step : Found (longest sign_spellings bytes) 0 sign_spellings bytes →
        (n < longest sign_spellings bytes) ⊎ (longest sign_spellings bytes ≤ n) →
        longest sign_spellings bytes ≤ n
    step found (inr le) = le
    step (inl is) (inl more) = omega arith
    step (inr h) (inl more) =
        let count : length (take (longest sign_spellings bytes) bytes) ≡
        longest sign_spellings bytes = length-take-le (longest sign_spellings bytes)
        bytes h.0 in
        let few : longest sign_spellings bytes ≤ 3 =
        omega (
          arith,
          count,
          short sign_spellings (take (longest sign_spellings bytes) bytes)
              refl h.1,
        ) in
        absurd (false≢true (sym (ap is_some (none (longest sign_spellings bytes) more h.0 few))
        ∙ sym (spelled_known (take (longest sign_spellings bytes) bytes)) ∙ h.1))

sign_front : (bytes : List ℕ) → sign_at bytes ≡ unwrap_or (spelled (sign_text bytes)) bad_byte
unfolding sign_at
sign_front bytes =
    joined (λ form. unsupported form) (λ s.
    token (sign s) (length (sign_text bytes) - 1)) (entry left_out_signs (sign_text bytes))
    (sign_of (sign_text bytes))
  where
    joined : {A B : Type 0} (f : A → Front) (g : B → Front) (o : Option A) (p : Option B) →
        option_map_or f o (option_map_or g p bad_byte) ≡
        unwrap_or (option_map_or (λ x. Some (f x)) o (option_map g p)) bad_byte
    joined f g None None = refl
    joined f g None (Some y) = refl
    joined f g (Some x) p = refl

-- the sign of the longest text that spells one
sign_is : (bytes : List ℕ) (n : ℕ) (f : Front) → n ≤ length bytes →
    Some f ≡ spelled (take n bytes) → NoneFrom n bytes →
    f ≡ sign_at bytes
unfolding sign_text
sign_is bytes n f within is none =
    let among : is_among sign_spellings (take n bytes) ≡ true =
    spelled_known (take n bytes) ∙ ap is_some (sym is) in
    let count : longest sign_spellings bytes ≡ n =
    omega (arith, longest-le bytes n none, longest_takes sign_spellings 0 bytes n within among) in
    sym (sign_front bytes ∙ ap (λ (k : ℕ). unwrap_or (spelled (take k bytes)) bad_byte) count
    ∙ ap (λ (o : Option Front). unwrap_or o bad_byte) (sym is))

nothing : spelled [] ≡ None
unfolding sign_of
nothing = refl

-- no text spells a sign
no_sign : (bytes : List ℕ) → NoneFrom 0 bytes → bad_byte ≡ sign_at bytes
unfolding sign_text
no_sign bytes none =
    let count : longest sign_spellings bytes ≡ 0 = omega (arith, longest-le bytes 0 none) in
    sym (sign_front bytes ∙ ap (λ (k : ℕ). unwrap_or (spelled (take k bytes)) bad_byte) count
    ∙ ap (λ (o : Option Front). unwrap_or o bad_byte) nothing)

-- what so many bytes at the front spell, where there are so many
abbrev pub spelled_by : ℕ → List ℕ → Option Front
spelled_by n bytes = if nat_le n (length bytes) then spelled (take n bytes) else None

fewer : (bytes : List ℕ) (n m : ℕ) → m ≡ n + 1 → NoneFrom m bytes → None ≡ spelled_by m bytes →
    NoneFrom n bytes
fewer bytes n m next none here k more within few = step (cases_lt m k)
  where
    step : (m < k) ⊎ (k ≤ m) → spelled (take k bytes) ≡ None
    step (inl above) = none k above within few
    step (inr below) =
        let same : k ≡ m = omega arith in
        ap (λ (j : ℕ). spelled (take j bytes)) same
        ∙ sym (here ∙ cond-true (nat_le m (length bytes)) (spelled (take m bytes)) None
        (le-leb m (length bytes) (omega arith)))

-- the sign of so many bytes, where more spell none
found : (bytes : List ℕ) (n : ℕ) (f : Front) → Some f ≡ spelled_by n bytes → NoneFrom n bytes →
    f ≡ sign_at bytes
found bytes n f is none = step (cases_lt (length bytes) n)
  where
    step : (length bytes < n) ⊎ (n ≤ length bytes) → f ≡ sign_at bytes
    step (inl past) =
        absurd (false≢true (sym (ap is_some (is ∙ cond-false (nat_le n (length bytes))
        (spelled (take n bytes)) None (lt-leb n (length bytes) past)))))
    step (inr within) =
        sign_is bytes n f within (is
        ∙ cond-true (nat_le n (length bytes)) (spelled (take n bytes)) None
        (le-leb n (length bytes) within)) none

-- the first of three, two and one bytes that spell a sign
longest_first : (bytes : List ℕ) →
    unwrap_or (option_or (option_or (spelled_by 3 bytes) (spelled_by 2 bytes))
    (spelled_by 1 bytes)) bad_byte ≡ sign_at bytes
longest_first bytes =
    by (spelled_by 3 bytes) (spelled_by 2 bytes) (spelled_by 1 bytes) refl refl refl
  where
    above : NoneFrom 3 bytes
    above k more within few = absurd (omega arith)

    by : (three two one : Option Front) → three ≡ spelled_by 3 bytes → two ≡ spelled_by 2 bytes →
        one ≡ spelled_by 1 bytes →
        unwrap_or (option_or (option_or three two) one) bad_byte ≡ sign_at bytes
    by (Some f) two one is₃ is₂ is₁ = found bytes 3 f is₃ above
    by None (Some f) one is₃ is₂ is₁ = found bytes 2 f is₂ (fewer bytes 2 3 refl above is₃)
    by None None (Some f) is₃ is₂ is₁ =
        found bytes 1 f is₁ (fewer bytes 1 2 refl (fewer bytes 2 3 refl above is₃) is₂)
    by None None None is₃ is₂ is₁ =
        no_sign bytes (fewer bytes 0 1 refl
        (fewer bytes 1 2 refl (fewer bytes 2 3 refl above is₃) is₂) is₁)

-- what the code finds, where it looks for a shorter sign only where it found none
pub first_found : (bytes : List ℕ) (three two one : Option CodeFront) →
    option_map (front_of bytes) three ≡ spelled_by 3 bytes →
    MatchOption three (option_map (front_of bytes) two ≡ spelled_by 2 bytes) (λ f. two ≡ Some f) →
    MatchOption two (option_map (front_of bytes) one ≡ spelled_by 1 bytes) (λ f. one ≡ Some f) →
    front_of bytes (unwrap_or one (code_front.Broken BadByte)) ≡ sign_at bytes
first_found bytes three two one is₃ is₂ is₁ =
    let by_two = next three two 2 is₂ ∙ ap (λ o. option_or o (spelled_by 2 bytes)) is₃ in
    let by_one = next two one 1 is₁ ∙ ap (λ o. option_or o (spelled_by 1 bytes)) by_two in
    unwrapped one ∙ ap (λ o. unwrap_or o bad_byte) by_one ∙ longest_first bytes
  where
    next : (o r : Option CodeFront) (n : ℕ) →
        MatchOption o (option_map (front_of bytes) r ≡ spelled_by n bytes) (λ f. r ≡ Some f) →
        option_map (front_of bytes) r ≡
        option_or (option_map (front_of bytes) o) (spelled_by n bytes)
    next None r n is = is
    next (Some f) r n is = ap (option_map (front_of bytes)) is

    unwrapped : (o : Option CodeFront) →
        front_of bytes (unwrap_or o (code_front.Broken BadByte)) ≡
        unwrap_or (option_map (front_of bytes) o) bad_byte
    unwrapped None = refl
    unwrapped (Some f) = refl

-- a row's spelling beside a text
placed : {R : Type 0} (spelling : R → List ℕ) (rows : List R) (text : List ℕ) →
    position_or_len (λ row. bytes_eq (spelling row) text) rows ≡
    position_or_len (bytes_eq text) (map spelling rows)
placed spelling [] text = refl
placed spelling (row ∷ rows) text =
    let same : bytes_eq (spelling row) text ≡ bytes_eq text (spelling row) =
    nat_list_eq_equiv.symm (spelling row) text in
    rw (same, placed spelling rows text) refl

same_length : {R : Type 0} (spelling : R → List ℕ) (rows : List R) →
    length rows ≡ length (map spelling rows)
same_length spelling [] = refl
same_length spelling (row ∷ rows) = ap suc (same_length spelling rows)

pub row_is : {R : Type 0} (spelling : R → List ℕ) (rows : List R) (text : List ℕ) →
    position (λ row. bytes_eq (spelling row) text) rows ≡
    position (bytes_eq text) (map spelling rows)
row_is spelling rows text =
    let at = placed spelling rows text in
    let count = same_length spelling rows in
    rw (at, count) refl
