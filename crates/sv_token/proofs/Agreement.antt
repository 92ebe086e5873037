-- The plain program and the relation say the same. So a text has tokens, and one list of them, or
-- it breaks a rule on tokens, at one place.
use Rattle.std.proofs.Common.{◌≡◌, ℕ, zero, suc, List, [], ◌∷◌, take, drop, ◌⊎◌, inl, inr, refl}
use Rattle.std.proofs.Common.{sym, ap, subst, ◌∙◌}
use Rattle.sv_num.specs.declared.faults.Place.{Place}
use Rattle.sv_token.specs.Fronts.{Front, gap, token, broken}
use Rattle.sv_token.specs.Lexed.{Lexed, tokens, refused, before, with_front, lexed_from, lexed}
use Rattle.sv_token.specs.Lexemes.{Lexeme, Placed}
use Rattle.sv_token.specs.Tokens.{front_at, first_place, next_place, place_behind, HasTokensUpTo}
use Rattle.sv_token.specs.Tokens.{stopped, past_gap, past_token, AreTokensOf, BreaksLexis}

-- The program, front by front.

-- bytes that belong to what stands before are passed over
pub passed : (n : ℕ) (place : Place) (bs : List ℕ) →
    lexed_from n place bs ≡ lexed_from 0 (place_behind place (take n bs)) (drop n bs)
passed zero place bs = refl
passed (suc n) place [] = refl
passed (suc n) place (b ∷ bs) = passed n (next_place place b) bs

-- what the program does at a front
pub at_front : (place : Place) (b : ℕ) (bs : List ℕ) {front : Front} → front_at b bs ≡ front →
    lexed_from 0 place (b ∷ bs) ≡ with_front front place (λ n. lexed_from n (next_place place b) bs)
at_front place b bs is = ap (λ f. with_front f place (λ n. lexed_from n (next_place place b) bs)) is

pub gap_passed : (place : Place) (b : ℕ) (bs : List ℕ) {n : ℕ} → front_at b bs ≡ gap n →
    lexed_from 0 place (b ∷ bs) ≡ lexed_from 0 (place_behind place (b ∷ take n bs)) (drop n bs)
gap_passed place b bs {n} is = at_front place b bs is ∙ passed n (next_place place b) bs

pub token_passed : (place : Place) (b : ℕ) (bs : List ℕ) {lexeme : Lexeme} {n : ℕ} →
    front_at b bs ≡ token lexeme n →
    lexed_from 0 place (b ∷ bs) ≡
    before (record { lexeme = lexeme; place = place })
    (lexed_from 0 (place_behind place (b ∷ take n bs)) (drop n bs))
token_passed place b bs {lexeme} {n} is =
    at_front place b bs is
    ∙ ap (before (record { lexeme = lexeme; place = place })) (passed n (next_place place b) bs)

pub break_met : (place : Place) (b : ℕ) (bs : List ℕ) {number : ℕ} {names : List (List ℕ)} →
    front_at b bs ≡ broken number names → lexed_from 0 place (b ∷ bs) ≡ refused number names place
break_met place b bs is = at_front place b bs is

-- The program finds what the relation says.

-- tokens before what follows
abbrev pub all_before : List Placed → Lexed → Lexed
all_before [] others = others
all_before (t ∷ ts) others = before t (all_before ts others)

pub all_before_tokens : (ts : List Placed) → all_before ts (tokens []) ≡ tokens ts
all_before_tokens [] = refl
all_before_tokens (t ∷ ts) = ap (before t) (all_before_tokens ts)

pub all_before_refused : (ts : List Placed) {number : ℕ} {names : List (List ℕ)} {place : Place} →
    all_before ts (refused number names place) ≡ refused number names place
all_before_refused [] = refl
all_before_refused (t ∷ ts) = ap (before t) (all_before_refused ts)

-- the program finds the tokens up to a place, and goes on from there
pub goes_on : {stop : Place} {rest : List ℕ} {place : Place} {bytes : List ℕ} {ts : List Placed} →
    HasTokensUpTo stop rest place bytes ts →
    lexed_from 0 place bytes ≡ all_before ts (lexed_from 0 stop rest)
goes_on stopped = refl
goes_on (past_gap {place} {b} {bs} is others) = gap_passed place b bs is ∙ goes_on others
goes_on (past_token {place} {b} {bs} {lexeme} is others) =
    token_passed place b bs is
    ∙ ap (before (record { lexeme = lexeme; place = place })) (goes_on others)

pub tokens_are_found : {bytes : List ℕ} {ts : List Placed} → AreTokensOf bytes ts →
    lexed bytes ≡ tokens ts
tokens_are_found {bytes} {ts} h = goes_on h.1 ∙ all_before_tokens ts

pub break_is_found : {number : ℕ} {names : List (List ℕ)} {place : Place} {bytes : List ℕ} →
    BreaksLexis number names place bytes → lexed bytes ≡ refused number names place
break_is_found {place = place} h =
    goes_on h.3 ∙ ap (all_before h.0) (break_met place h.1 h.2 h.4) ∙ all_before_refused h.0

-- The relation holds of every text in one of two ways.

-- behind tokens and gaps the text ends
abbrev pub Ends : Place → List ℕ → Type 0
Ends place bytes = (ts : List Placed) × (stop : Place) × HasTokensUpTo stop [] place bytes ts

-- behind tokens and gaps a rule is broken
abbrev pub Breaks : Place → List ℕ → Type 0
Breaks place bytes =
    (number : ℕ) × (names : List (List ℕ)) × (stop : Place) × (ts : List Placed) × (b : ℕ)
    × (bs : List ℕ)
    × HasTokensUpTo stop (b ∷ bs) place bytes ts × (front_at b bs ≡ broken number names)

-- one of the two holds from a place on where it holds behind the front there
at_front_too : {place : Place} {b : ℕ} {bs : List ℕ} (front : Front) → front_at b bs ≡ front →
    ((n : ℕ) → Ends (place_behind place (b ∷ take n bs)) (drop n bs)
    ⊎ Breaks (place_behind place (b ∷ take n bs)) (drop n bs)) →
    Ends place (b ∷ bs) ⊎ Breaks place (b ∷ bs)
at_front_too {place} {b} {bs} (gap n) is behind = put (behind n)
  where
    put : Ends (place_behind place (b ∷ take n bs)) (drop n bs)
        ⊎ Breaks (place_behind place (b ∷ take n bs)) (drop n bs) →
        Ends place (b ∷ bs) ⊎ Breaks place (b ∷ bs)
    put (inl h) = inl (h.0, h.1, past_gap is h.2)
    put (inr h) = inr (h.0, h.1, h.2, h.3, h.4, h.5, past_gap is h.6, h.7)
at_front_too {place} {b} {bs} (token lexeme n) is behind = put (behind n)
  where
    t : Placed
    t = record { lexeme = lexeme; place = place }

    put : Ends (place_behind place (b ∷ take n bs)) (drop n bs)
        ⊎ Breaks (place_behind place (b ∷ take n bs)) (drop n bs) →
        Ends place (b ∷ bs) ⊎ Breaks place (b ∷ bs)
    put (inl h) = inl (t ∷ h.0, h.1, past_token is h.2)
    put (inr h) = inr (h.0, h.1, h.2, t ∷ h.3, h.4, h.5, past_token is h.6, h.7)
at_front_too {place} {b} {bs} (broken number names) is behind =
    inr (number, names, place, [], b, bs, stopped, is)

ends_or_breaks : (n : ℕ) (place : Place) (bs : List ℕ) →
    Ends (place_behind place (take n bs)) (drop n bs)
    ⊎ Breaks (place_behind place (take n bs)) (drop n bs)
ends_or_breaks zero place [] = inl ([], place, stopped)
ends_or_breaks (suc n) place [] = inl ([], place, stopped)
ends_or_breaks (suc n) place (b ∷ bs) = ends_or_breaks n (next_place place b) bs
ends_or_breaks zero place (b ∷ bs) =
    at_front_too (front_at b bs) refl (λ n. ends_or_breaks n (next_place place b) bs)

abbrev pub HasTokens : List ℕ → Type 0
HasTokens bytes = (ts : List Placed) × AreTokensOf bytes ts

abbrev pub HasBreak : List ℕ → Type 0
HasBreak bytes =
    (number : ℕ) × (names : List (List ℕ)) × (place : Place) × BreaksLexis number names place bytes

-- every text has tokens or breaks a rule
pub has_tokens_or_break : (bytes : List ℕ) → HasTokens bytes ⊎ HasBreak bytes
has_tokens_or_break bytes = sort (ends_or_breaks 0 first_place bytes)
  where
    sort : Ends first_place bytes ⊎ Breaks first_place bytes → HasTokens bytes ⊎ HasBreak bytes
    sort (inl h) = inl (h.0, (h.1, h.2))
    sort (inr h) = inr (h.0, h.1, h.2, (h.3, h.4, h.5, h.6, h.7))

-- what a result says, which tells results apart

tokens_in : Lexed → List Placed
tokens_in (tokens ts) = ts
tokens_in (refused number names place) = []

IsRefused : Lexed → Type 0
IsRefused (tokens ts) = ⊥
IsRefused (refused number names place) = Unit {0}

break_in : Lexed → ℕ × List (List ℕ) × Place
break_in (tokens ts) = (0, [], first_place)
break_in (refused number names place) = (number, names, place)

-- a text has one list of tokens
pub tokens_are_one : {bytes : List ℕ} {ts us : List Placed} → AreTokensOf bytes ts →
    AreTokensOf bytes us → ts ≡ us
unfolding tokens_in
tokens_are_one t u = ap tokens_in (sym (tokens_are_found t) ∙ tokens_are_found u)

-- a text breaks one rule first, at one place
pub break_is_one : {n m : ℕ} {ns ms : List (List ℕ)} {p q : Place} {bytes : List ℕ} →
    BreaksLexis n ns p bytes → BreaksLexis m ms q bytes →
    ◌≡◌ {A = ℕ × List (List ℕ) × Place} (n, ns, p) (m, ms, q)
unfolding break_in
break_is_one t u = ap break_in (sym (break_is_found t) ∙ break_is_found u)

-- a text that breaks a rule has no tokens
pub not_both : {bytes : List ℕ} {ts : List Placed} {number : ℕ} {names : List (List ℕ)}
    {place : Place} →
    AreTokensOf bytes ts → BreaksLexis number names place bytes → ⊥
unfolding IsRefused
not_both t u = subst IsRefused (sym (break_is_found u) ∙ tokens_are_found t) tt

-- The relation says what the program finds.

pub found_are_tokens : {bytes : List ℕ} {ts : List Placed} → lexed bytes ≡ tokens ts →
    AreTokensOf bytes ts
unfolding tokens_in IsRefused
found_are_tokens {bytes} {ts} is = sort (has_tokens_or_break bytes)
  where
    sort : HasTokens bytes ⊎ HasBreak bytes → AreTokensOf bytes ts
    sort (inl h) = subst (AreTokensOf bytes) (ap tokens_in (sym (tokens_are_found h.1) ∙ is)) h.1
    sort (inr h) = absurd (subst IsRefused (sym (break_is_found h.3) ∙ is) tt)

pub found_is_broken : {bytes : List ℕ} {number : ℕ} {names : List (List ℕ)} {place : Place} →
    lexed bytes ≡ refused number names place → BreaksLexis number names place bytes
unfolding break_in IsRefused
found_is_broken {bytes} {number} {names} {place} is = sort (has_tokens_or_break bytes)
  where
    Says : ℕ × List (List ℕ) × Place → Type 0
    Says x = BreaksLexis x.0 x.1 x.2 bytes

    sort : HasTokens bytes ⊎ HasBreak bytes → BreaksLexis number names place bytes
    sort (inl h) = absurd (subst IsRefused (sym is ∙ tokens_are_found h.1) tt)
    sort (inr h) = subst Says (ap break_in (sym (break_is_found h.3) ∙ is)) h.3
