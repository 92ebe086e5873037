-- A wrong line stays the first wrong one, whatever follows.
use Rattle.std.proofs.Common.{◌≡◌, ℕ, ◌+◌, ◌<◌, ◌≤◌, Bool, true, false, cond, ◌==◌, nat_lt}
use Rattle.std.proofs.Common.{List, [], ◌∷◌, ◌++◌, length, refl, sym, ap, ◌∙◌, arith, ⊎_elim, ◌⊎◌}
use Rattle.std.proofs.Common.{Option, Some, None, append_assoc, append-nil}
use Rattle.std.specs.Prelude.{All}
use Rattle.std.specs.List.{onto_first}
use Rattle.std.proofs.lemmas.Bool.{lt-ltb, ltb-true, cases_Bool, eqb-true}
use Rattle.std.proofs.lemmas.List.Elements.{All-head, All-tail, All-cons}
use Rattle.std.proofs.lemmas.List.Splits.{slice_split-cons_no, slice_split_none}
use Rattle.sv_texts.specs.declared.stimuli.StimKind.{StimKind}
use Rattle.sv_texts.specs.declared.stimuli.StimKind.TheVariants.{TooLong}
use Rattle.sv_trace.specs.Forms.{StimForm}
use Rattle.sv_trace.specs.Reading.{text_of, Lacks}
use Rattle.sv_trace.specs.Stimulus.{LinesRead, line_fault, read_next, read_after, parts, lines_if}
use Rattle.sv_trace.specs.Stimulus.{read_front, read_whole, ended}
use Rattle.sv_trace.proofs.Splitting.{first_part}
use Rattle.sv_trace.proofs.Texts.{parts_text, lines_more, long_is_wrong}

abbrev long : List ℕ → Bool
long last = nat_lt 1048576 (length last)

abbrev filled : List ℕ → Bool
filled last = nat_lt 0 (length last)

-- ---- any bytes are lines and a rest

record Cut (bytes : List ℕ) : Type 0 where
  lines : List (List ℕ)
  rest : List ℕ
  text : bytes ≡ text_of lines ++ rest
  each : All (Lacks 10) lines
  last : Lacks 10 rest

none_lack : {X : Type 0} (P : X → Type 0) → All P []
none_lack P k d h = absurd (omega arith)

cut : (bytes : List ℕ) → Cut bytes
cut [] = record {
  lines = [];
  rest = [];
  text = refl;
  each = none_lack (Lacks 10);
  last = none_lack (λ b. (b == 10) ≡ false);
}
cut (b ∷ bytes) = by_byte (cut bytes) (cases_Bool (b == 10))
  where
    joined : (lines : List (List ℕ)) (rest : List ℕ) → bytes ≡ text_of lines ++ rest
        → All (Lacks 10) lines → Lacks 10 rest → (b == 10) ≡ false → Cut (b ∷ bytes)
    joined [] rest text each last other = record {
      lines = [];
      rest = b ∷ rest;
      text = ap (λ bs. b ∷ bs) text;
      each = each;
      last = All-cons (λ c. (c == 10) ≡ false) b rest other last;
    }
    joined (line ∷ lines) rest text each last other = record {
      lines = (b ∷ line) ∷ lines;
      rest = rest;
      text = ap (λ bs. b ∷ bs) text;
      each = All-cons (Lacks 10) (b ∷ line) lines
          (All-cons (λ c. (c == 10) ≡ false) b line other (All-head (Lacks 10) line lines each))
          (All-tail (Lacks 10) line lines each);
      last = last;
    }

    by_byte : Cut bytes → ((b == 10) ≡ true) ⊎ ((b == 10) ≡ false) → Cut (b ∷ bytes)
    by_byte c h = ⊎_elim
        (λ feed. record {
          lines = [] ∷ c.lines;
          rest = c.rest;
          text = ap (λ n. n ∷ bytes) (eqb-true b 10 feed) ∙ ap (λ bs. 10 ∷ bs) c.text;
          each = All-cons (Lacks 10) [] c.lines (none_lack (λ d. (d == 10) ≡ false)) c.each;
          last = c.last;
        })
        (λ other. joined c.lines c.rest c.text c.each c.last other)
        h

-- the first part begins with what lacks the separator
first_begins : (rest piece : List ℕ) → Lacks 10 rest
    → (x : List ℕ) × (xs : List (List ℕ)) × (parts (rest ++ piece) ≡ x ∷ xs)
    × (length rest ≤ length x)
first_begins [] piece lacks =
    let first = first_part (λ b. b == 10) piece in
    (first.0, first.1, first.2, omega arith)
first_begins (b ∷ rest) piece lacks =
    let other : (b == 10) ≡ false = All-head (λ c. (c == 10) ≡ false) b rest lacks in
    let more = first_begins rest piece (All-tail (λ c. (c == 10) ≡ false) b rest lacks) in (
      b ∷ more.0,
      more.1,
      slice_split-cons_no (λ c. c == 10) b (rest ++ piece) other
          ∙ ap (onto_first b) more.2,
      omega (arith, more.3),
    )

-- ---- lines after a wrong one

stays : (form : StimForm) (before xs ys : List (List ℕ)) (kind : StimKind)
    → (read_after form before xs).wrong ≡ Some kind
    → read_after form before (xs ++ ys) ≡ read_after form before xs
stays form before [] ys kind e = let no_fault : None ≡ Some kind = e in cc
stays form before (x ∷ xs) ys kind e =
    go (line_fault form before x) (stays form (before ++ x ∷ []) xs ys kind) e
  where
    go : (o : Option StimKind)
        → ((read_after form (before ++ x ∷ []) xs).wrong ≡ Some kind
        → read_after form (before ++ x ∷ []) (xs ++ ys) ≡ read_after form (before ++ x ∷ []) xs)
        → (read_next o before (read_after form (before ++ x ∷ []) xs)).wrong ≡ Some kind
        → read_next o before (read_after form (before ++ x ∷ []) (xs ++ ys))
        ≡ read_next o before (read_after form (before ++ x ∷ []) xs)
    go None rest w = rest w
    go (Some other) rest w = refl

goes_on : (form : StimForm) (before xs ys : List (List ℕ))
    → (read_after form before xs).wrong ≡ None
    → read_after form before (xs ++ ys) ≡ read_after form (read_after form before xs).right ys
goes_on form before [] ys e = refl
goes_on form before (x ∷ xs) ys e =
    go (line_fault form before x) (goes_on form (before ++ x ∷ []) xs ys) e
  where
    go : (o : Option StimKind)
        → ((read_after form (before ++ x ∷ []) xs).wrong ≡ None
        → read_after form (before ++ x ∷ []) (xs ++ ys)
        ≡ read_after form (read_after form (before ++ x ∷ []) xs).right ys)
        → (read_next o before (read_after form (before ++ x ∷ []) xs)).wrong ≡ None
        → read_next o before (read_after form (before ++ x ∷ []) (xs ++ ys))
        ≡ read_after form (read_next o before (read_after form (before ++ x ∷ []) xs)).right ys
    go None rest w = rest w
    go (Some other) rest w = let never : Some other ≡ None = w in cc

too_long_first : (form : StimForm) (right : List (List ℕ)) (x : List ℕ) (xs : List (List ℕ))
    → 1048576 < length x
    → read_after form right (x ∷ xs) ≡ record { right = right; wrong = Some TooLong }
too_long_first form right x xs h =
    ap (λ o. read_next o right (read_after form (right ++ x ∷ []) xs))
    (long_is_wrong form right x h)

-- lines with a wrong one, and others with the same front whose next line is no shorter than one
-- that is too long
same_read : (form : StimForm) (lines : List (List ℕ)) (rest : List ℕ) (more : List (List ℕ))
    (kind : StimKind)
    → (long rest ≡ true → (x : List ℕ) × (xs : List (List ℕ)) × (more ≡ x ∷ xs)
    × (length rest ≤ length x))
    → (read_after form [] (lines ++ cond (long rest) (rest ∷ []) [])).wrong ≡ Some kind
    → read_after form [] (lines ++ more)
    ≡ read_after form [] (lines ++ cond (long rest) (rest ∷ []) [])
same_read form lines rest more kind begins e =
    by_front (read_after form [] lines).wrong refl (long rest) refl
  where
    by_front : (o : Option StimKind) → (read_after form [] lines).wrong ≡ o → (b : Bool)
        → long rest ≡ b
        → read_after form [] (lines ++ more)
        ≡ read_after form [] (lines ++ cond (long rest) (rest ∷ []) [])
    by_front (Some k) w b l =
        stays form [] lines more k w
        ∙ sym (stays form [] lines (cond (long rest) (rest ∷ []) []) k w)
    by_front None w false l =
        let empty : lines ++ cond (long rest) (rest ∷ []) [] ≡ lines =
        ap (λ b. lines ++ cond b (rest ∷ []) []) l ∙ append-nil lines in
        let never : None ≡ Some kind =
        sym w ∙ ap (λ ls. (read_after form [] ls).wrong) (sym empty) ∙ e in cc
    by_front None w true l =
        let next = begins l in
        let large : 1048576 < length rest = ltb-true 1048576 (length rest) l in
        ap (λ ms. read_after form [] (lines ++ ms)) next.2
        ∙ goes_on form [] lines (next.0 ∷ next.1) w
        ∙ too_long_first form (read_after form [] lines).right next.0 next.1 (omega (arith, next.3))
        ∙ sym (ap (λ b. read_after form [] (lines ++ cond b (rest ∷ []) [])) l
        ∙ goes_on form [] lines (rest ∷ []) w
        ∙ too_long_first form (read_after form [] lines).right rest [] large)

front_lines : (form : StimForm) (bytes : List ℕ) (c : Cut bytes)
    → read_front form bytes ≡ read_after form [] (c.lines ++ cond (long c.rest) (c.rest ∷ []) [])
front_lines form bytes c =
    ap (λ ps. read_after form [] (lines_if long ps))
    (ap parts c.text ∙ parts_text c.lines c.rest c.each
    ∙ ap (λ ps. c.lines ++ ps) (slice_split_none (λ b. b == 10) c.rest c.last))
    ∙ ap (read_after form []) (lines_more long c.lines c.rest [])

-- a later part of the first line keeps it first
begins_if : (x : List ℕ) (xs ms : List (List ℕ)) (rest : List ℕ) → ms ≡ lines_if long (x ∷ xs)
    → length rest ≤ length x → long rest ≡ true
    → (y : List ℕ) × (ys : List (List ℕ)) × (ms ≡ y ∷ ys) × (length rest ≤ length y)
begins_if x [] ms rest e least l =
    let large : 1048576 < length rest = ltb-true 1048576 (length rest) l in
    (x, [], e ∙ ap (λ b. cond b (x ∷ []) []) (lt-ltb 1048576 (length x) (omega arith)), least)
begins_if x (y ∷ ys) ms rest e least l = (x, lines_if long (y ∷ ys), e, least)

pub front_stays : (form : StimForm) (bytes piece : List ℕ) (kind : StimKind)
    → (read_front form bytes).wrong ≡ Some kind
    → read_front form (bytes ++ piece) ≡ read_front form bytes
front_stays form bytes piece kind e =
    let c = cut bytes in
    let first = first_begins c.rest piece c.last in
    let whole : parts (bytes ++ piece) ≡ c.lines ++ first.0 ∷ first.1 =
    ap parts (ap (λ b. b ++ piece) c.text ∙ append_assoc (text_of c.lines) c.rest piece)
    ∙ parts_text c.lines (c.rest ++ piece) c.each ∙ ap (λ ps. c.lines ++ ps) first.2 in
    ap (λ ps. read_after form [] (lines_if long ps)) whole
    ∙ ap (read_after form []) (lines_more long c.lines first.0 first.1)
    ∙ same_read form c.lines c.rest (lines_if long (first.0 ∷ first.1)) kind
    (λ l. begins_if first.0 first.1 (lines_if long (first.0 ∷ first.1)) c.rest refl first.3 l)
    (ap (λ (r : LinesRead). r.wrong) (sym (front_lines form bytes c)) ∙ e)
    ∙ sym (front_lines form bytes c)

ended_wrong : (form : StimForm) (read : LinesRead) (kind : StimKind) → read.wrong ≡ Some kind
    → ended form read ≡ read
ended_wrong form read kind e = go read.right read.wrong e
  where
    go : (right : List (List ℕ)) (o : Option StimKind) → o ≡ Some kind
        → ended form (record { right = right; wrong = o }) ≡ record { right = right; wrong = o }
    go right (Some k) w = refl
    go right None w = cc

pub whole_stays : (form : StimForm) (bytes : List ℕ) (kind : StimKind)
    → (read_front form bytes).wrong ≡ Some kind
    → read_whole form bytes ≡ read_front form bytes
whole_stays form bytes kind e =
    let c = cut bytes in
    let wrong : (read_after form [] (c.lines ++ cond (long c.rest) (c.rest ∷ []) [])).wrong
    ≡ Some kind =
    ap (λ (r : LinesRead). r.wrong) (sym (front_lines form bytes c)) ∙ e in
    let same = same_read form c.lines c.rest (lines_if filled (c.rest ∷ [])) kind
    (λ l.
    let large : 1048576 < length c.rest = ltb-true 1048576 (length c.rest) l in (
      c.rest,
      [],
      ap (λ b. cond b (c.rest ∷ []) []) (lt-ltb 0 (length c.rest) (omega arith)),
      omega arith,
    ))
    wrong in
    ap (λ ps. ended form (read_after form [] (lines_if filled ps)))
    (ap parts c.text ∙ parts_text c.lines c.rest c.each
    ∙ ap (λ ps. c.lines ++ ps) (slice_split_none (λ b. b == 10) c.rest c.last))
    ∙ ap (λ ls. ended form (read_after form [] ls)) (lines_more filled c.lines c.rest [])
    ∙ ap (ended form) same
    ∙ ended_wrong form (read_after form [] (c.lines ++ cond (long c.rest)
    (c.rest ∷ []) [])) kind wrong
    ∙ sym (front_lines form bytes c)
