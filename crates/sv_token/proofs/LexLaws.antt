-- The tokens so far, and those of the bytes that are left.
use Rattle.std.proofs.Common.{◌≡◌, ℕ, suc, ◌+◌, ◌-◌, ◌<◌, ◌≤◌, List, [], ◌∷◌, ◌++◌, take, drop}
use Rattle.std.proofs.Common.{length, get_or, refl, sym, ap, subst, ◌∙◌, arith}
use Rattle.std.proofs.Math.Seq.{take-add}
use Rattle.std.proofs.lemmas.List.{drop-drop, drop_more, drop_all, length-drop, take_rest}
use Rattle.std.proofs.lemmas.List.Sums.{fold-append}
use Rattle.sv_num.specs.declared.faults.Place.{Place}
use Rattle.sv_num.specs.declared.faults.Fault.{Fault}
use Rattle.sv_num.specs.declared.faults.Fault.TheVariants.{Rule, OutOfMemory}
use Rattle.sv_num.specs.Faults.{Refuses}
use Rattle.sv_token.specs.declared.fronts.Front.{Front as CodeFront}
use Rattle.sv_token.specs.declared.fronts.Front.TheVariants as code_front
use Rattle.sv_token.specs.Faults.{IsFaultOf}
use Rattle.sv_token.specs.Views.{front_of}
use Rattle.sv_token.proofs.WithinLaws.{IsWithin, front_within}
use Rattle.sv_token.specs.declared.tokens.Token.{Token}
use Rattle.sv_token.specs.declared.tokens.TokenKind.{TokenKind}
use Rattle.sv_token.specs.declared.tokens.TokenKind.TheVariants as token_kind
use Rattle.sv_token.specs.Fronts.{Front, gap, token, broken}
use Rattle.sv_token.specs.Lexed.{Lexed, before, lexed_from, lexed}
use Rattle.sv_token.specs.Lexemes.{Lexeme, Placed, lexeme_of, placed_of, placed_tokens, identifier}
use Rattle.sv_token.specs.Spans.{IsAtSpan, AreInOrder}
use Rattle.sv_token.specs.Tokens.{front_at, first_place, next_place, place_behind, AreTokensOf}
use Rattle.sv_token.specs.Tokens.{BreaksLexis}
use Rattle.sv_token.proofs.Agreement.{gap_passed, token_passed, break_met, all_before}
use Rattle.sv_token.proofs.Agreement.{all_before_tokens, all_before_refused, found_are_tokens}
use Rattle.sv_token.proofs.Agreement.{found_is_broken}

-- the tokens so far, and then those of the bytes from a position on
abbrev pub IsRead : List ℕ → List Placed → ℕ → Place → Type 0
IsRead bytes ts position place =
    lexed bytes ≡ all_before ts (lexed_from 0 place (drop position bytes))

-- the first of the bytes from a position on, and the others
split : (bytes : List ℕ) (position : ℕ) → position < length bytes →
    drop position bytes ≡ get_or bytes position 0 ∷ drop (position + 1) bytes
split bytes position h = drop_more bytes position 0 h

joined : (ts : List Placed) (t : Placed) (others : Lexed) →
    all_before (ts ++ t ∷ []) others ≡ all_before ts (before t others)
joined [] t others = refl
joined (s ∷ ts) t others = ap (before s) (joined ts t others)

pub placed_push : (bytes : List ℕ) (ts : List Token) (t : Token) →
    placed_tokens bytes (ts ++ t ∷ []) ≡ placed_tokens bytes ts ++ placed_of bytes t ∷ []
placed_push bytes [] t = refl
placed_push bytes (s ∷ ts) t =
    ap (λ (us : List Placed). placed_of bytes s ∷ us) (placed_push bytes ts t)

-- the bytes of a front, one and so many more
text_is : (bytes : List ℕ) (position n : ℕ) → position < length bytes →
    take (n + 1) (drop position bytes) ≡ get_or bytes position 0 ∷
    take n (drop (position + 1) bytes)
text_is bytes position n h =
    let next : n + 1 ≡ suc n = omega arith in
    ap (λ (k : ℕ). take k (drop position bytes)) next ∙ ap (take (suc n)) (split bytes position h)

rest_is : (bytes : List ℕ) (position n : ℕ) →
    drop n (drop (position + 1) bytes) ≡ drop (position + n + 1) bytes
rest_is bytes position n =
    let sum : (position + 1) + n ≡ position + n + 1 = omega arith in
    drop-drop n (position + 1) bytes ∙ ap (λ (k : ℕ). drop k bytes) sum

-- the place behind so many bytes of the text and the bytes of a front
pub place_later : (bytes : List ℕ) (position n : ℕ) (place : Place) →
    place ≡ place_behind first_place (take position bytes) →
    place_behind place (take (n + 1) (drop position bytes)) ≡
    place_behind first_place (take (position + n + 1) bytes)
place_later bytes position n place is =
    let text = take (n + 1) (drop position bytes) in
    let sum : position + (n + 1) ≡ position + n + 1 = omega arith in
    ap (λ (p : Place). place_behind p text) is
    ∙ sym (fold-append next_place first_place (take position bytes) text)
    ∙ ap (place_behind first_place) (sym (take-add position (n + 1) bytes))
    ∙ ap (λ (k : ℕ). place_behind first_place (take k bytes)) sum

-- past a gap
pub read_gap : (bytes : List ℕ) (ts : List Placed) (position : ℕ) (place : Place) (n : ℕ) →
    position < length bytes →
    front_at (get_or bytes position 0) (drop (position + 1) bytes) ≡ gap n →
    IsRead bytes ts position place →
    IsRead bytes ts (position + n + 1) (place_behind place (take (n + 1) (drop position bytes)))
read_gap bytes ts position place n h is read =
    let passed = gap_passed place (get_or bytes position 0) (drop (position + 1) bytes) is in
    read ∙ ap (all_before ts)
    (ap (lexed_from 0 place) (split bytes position h) ∙ passed
    ∙ ap (λ (text : List ℕ).
    lexed_from 0 (place_behind place text) (drop n (drop (position + 1) bytes)))
    (sym (text_is bytes position n h))
    ∙ ap (lexed_from 0 (place_behind place (take (n + 1) (drop position bytes))))
    (rest_is bytes position n))

-- past a token
pub read_token : (bytes : List ℕ) (ts : List Placed) (position : ℕ) (place : Place)
    (lexeme : Lexeme) (n : ℕ) → position < length bytes →
    front_at (get_or bytes position 0) (drop (position + 1) bytes) ≡ token lexeme n →
    IsRead bytes ts position place →
    IsRead bytes (ts ++ record { lexeme = lexeme; place = place } ∷ []) (position + n + 1)
    (place_behind place (take (n + 1) (drop position bytes)))
read_token bytes ts position place lexeme n h is read =
    let passed = token_passed place (get_or bytes position 0) (drop (position + 1) bytes) is in
    let t : Placed = record { lexeme = lexeme; place = place } in
    read ∙ ap (all_before ts)
    (ap (lexed_from 0 place) (split bytes position h) ∙ passed
    ∙ ap (λ (text : List ℕ).
    before t (lexed_from 0 (place_behind place text) (drop n (drop (position + 1) bytes))))
    (sym (text_is bytes position n h))
    ∙ ap (λ (rest : List ℕ).
    before t (lexed_from 0 (place_behind place (take (n + 1) (drop position bytes))) rest))
    (rest_is bytes position n))
    ∙ sym (joined ts t (lexed_from 0 (place_behind place (take (n + 1) (drop position bytes)))
    (drop (position + n + 1) bytes)))

-- at a broken rule
pub read_break : (bytes : List ℕ) (ts : List Placed) (position : ℕ) (place : Place) (number : ℕ)
    (names : List (List ℕ)) → position < length bytes →
    front_at (get_or bytes position 0) (drop (position + 1) bytes) ≡ broken number names →
    IsRead bytes ts position place →
    BreaksLexis number names place bytes
read_break bytes ts position place number names h is read =
    found_is_broken (read ∙ ap (all_before ts) (ap (lexed_from 0 place) (split bytes position h)
    ∙ break_met place (get_or bytes position 0) (drop (position + 1) bytes) is)
    ∙ all_before_refused ts)

-- at the end
pub read_all : (bytes : List ℕ) (ts : List Placed) (position : ℕ) (place : Place) →
    length bytes ≤ position →
    IsRead bytes ts position place → AreTokensOf bytes ts
read_all bytes ts position place h read =
    found_are_tokens (read ∙ ap (λ (rest : List ℕ).
    all_before ts (lexed_from 0 place rest)) (drop_all position bytes h) ∙ all_before_tokens ts)

-- the token of the code at its span
pub same_lexeme : (bytes : List ℕ) (kind : TokenKind) (position n : ℕ) →
    lexeme_of (drop position bytes) kind 0 (n + 1) ≡
    lexeme_of bytes kind position (position + n + 1)
same_lexeme bytes (token_kind.Word w) position n = refl
same_lexeme bytes token_kind.Name position n =
    let count : (n + 1) - 0 ≡ (position + n + 1) - position = omega arith in
    ap (λ (k : ℕ). identifier (take k (drop position bytes))) count
same_lexeme bytes (token_kind.Number l) position n = refl
same_lexeme bytes (token_kind.Sign s) position n = refl

pub at_span : (bytes : List ℕ) (kind : TokenKind) (position n : ℕ) (place : Place) →
    position < length bytes →
    front_at (get_or bytes position 0) (drop (position + 1) bytes) ≡
    token (lexeme_of bytes kind position (position + n + 1)) n →
    IsAtSpan bytes (record {
      kind = kind;
      start = position;
      «end» = position + n + 1;
      place = place;
    })
at_span bytes kind position n place h is =
    let count : n ≡ position + n + 1 - position - 1 = omega arith in (
      get_or bytes position 0,
      drop (position + 1) bytes,
      split bytes position h,
      is ∙ ap (token (lexeme_of bytes kind position (position + n + 1))) count,
    )

-- the spans are in order and end by a position
abbrev pub AreInOrderUpTo : ℕ → List Token → ℕ → Type 0
AreInOrderUpTo from [] stop = from ≤ stop
AreInOrderUpTo from (t ∷ ts) stop =
    (from ≤ t.start) × (t.start < t.«end») × AreInOrderUpTo t.«end» ts stop

pub order_later : (from : ℕ) (ts : List Token) (stop later : ℕ) → stop ≤ later →
    AreInOrderUpTo from ts stop → AreInOrderUpTo from ts later
order_later from [] stop later h is = omega arith
order_later from (t ∷ ts) stop later h is = (is.0, is.1, order_later t.«end» ts stop later h is.2)

pub order_push : (from : ℕ) (ts : List Token) (stop : ℕ) (t : Token) → stop ≤ t.start →
    t.start < t.«end» →
    AreInOrderUpTo from ts stop → AreInOrderUpTo from (ts ++ t ∷ []) t.«end»
order_push from [] stop t h k is =
    (let e : from ≤ t.start = omega arith in e, k, let e : t.«end» ≤ t.«end» = omega arith in e)
order_push from (s ∷ ts) stop t h k is = (is.0, is.1, order_push s.«end» ts stop t h k is.2)

pub in_order : (from : ℕ) (ts : List Token) (stop : ℕ) → AreInOrderUpTo from ts stop →
    AreInOrder from ts
in_order from [] stop is = tt
in_order from (t ∷ ts) stop is = (is.0, is.1, in_order t.«end» ts stop is.2)

pub start_read : (bytes : List ℕ) → IsRead bytes [] 0 first_place
start_read bytes = refl

-- what stands at a position
abbrev pub Stands : List ℕ → ℕ → Front → Type 0
Stands bytes position f = front_at (get_or bytes position 0) (drop (position + 1) bytes) ≡ f

-- what the code finds at the front of the bytes, and at a position among them
abbrev pub FoundIn : List ℕ → CodeFront → Type 0
FoundIn rest f = front_of rest f ≡ front_at (get_or rest 0 0) (drop 1 rest)

abbrev pub FoundAt : List ℕ → ℕ → CodeFront → Type 0
FoundAt bytes position f = FoundIn (take (length bytes - position) (drop position bytes)) f

pub front_here : (bytes : List ℕ) (position : ℕ) (f : CodeFront) → position < length bytes →
    FoundAt bytes position f → Stands bytes position (front_of (drop position bytes) f)
front_here bytes position f h is =
    sym (subst (λ (r : List ℕ). FoundIn r f) (take_rest bytes position) is
    ∙ ap (λ (r : List ℕ). front_at (get_or r 0 0) (drop 1 r)) (split bytes position h))

front_fits : (bytes : List ℕ) (position n : ℕ) (f : Front) →
    (IsWithin (length (drop (position + 1) bytes)) f → n ≤ length (drop (position + 1) bytes)) →
    position < length bytes → Stands bytes position f → position + n < length bytes
front_fits bytes position n f count h is =
    let within : n ≤ length (drop (position + 1) bytes) =
    count (subst (IsWithin (length (drop (position + 1) bytes))) is
    (front_within (get_or bytes position 0) (drop (position + 1) bytes))) in
    omega (arith, within, length-drop (position + 1) bytes)

-- a gap of the code stands there, and ends within the bytes
pub gap_here : (bytes : List ℕ) (position : ℕ) (f : CodeFront) (n : ℕ) →
    position < length bytes → FoundAt bytes position f → f ≡ code_front.Gap n →
    Stands bytes position (gap n) × (position + n < length bytes)
gap_here bytes position f n h is found =
    let stands : Stands bytes position (gap n) =
    subst (λ (g : CodeFront). Stands bytes position (front_of (drop position bytes) g)) found
    (front_here bytes position f h is) in
    (stands, front_fits bytes position n (gap n) (λ within. within) h stands)

-- and so does a token
pub token_here : (bytes : List ℕ) (position : ℕ) (f : CodeFront) (kind : TokenKind) (n : ℕ) →
    position < length bytes → FoundAt bytes position f → f ≡ code_front.Token kind n →
    Stands bytes position (token (lexeme_of bytes kind position (position + n + 1)) n)
    × (position + n < length bytes)
token_here bytes position f kind n h is found =
    let first : Stands bytes position (token (lexeme_of (drop position bytes) kind 0 (n + 1)) n) =
    subst (λ (g : CodeFront). Stands bytes position (front_of (drop position bytes) g)) found
    (front_here bytes position f h is) in
    let whole : Lexeme = lexeme_of bytes kind position (position + n + 1) in
    let stands : Stands bytes position (token whole n) =
    first ∙ ap (λ (l : Lexeme). token l n) (same_lexeme bytes kind position n) in
    (stands, front_fits bytes position n (token whole n) (λ within. within) h stands)

pub fault_is : (bytes : List ℕ) (fault : Fault) (number : ℕ) (place : Place)
    (names : List (List ℕ)) →
    Refuses fault number place names → BreaksLexis number names place bytes → IsFaultOf bytes fault
fault_is bytes (Rule r) number place names is breaks =
    let P : ℕ × Place × List (List ℕ) → Type 0 = λ x. BreaksLexis x.0 x.2 x.1 bytes in
    subst P (sym is) breaks
fault_is bytes OutOfMemory number place names is breaks = tt
