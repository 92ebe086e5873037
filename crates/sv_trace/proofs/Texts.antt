-- Texts cut at line feeds, and lines read one after the other.
use Rattle.std.proofs.Common.{◌≡◌, ℕ, ◌+◌, ◌<◌, ◌≤◌, Bool, true, false, cond, not, ◌==◌, nat_lt}
use Rattle.std.proofs.Common.{List, [], ◌∷◌, ◌++◌, length, refl, sym, ap, ◌∙◌, arith}
use Rattle.std.proofs.Common.{Option, Some, None, append_assoc, append-nil}
use Rattle.std.specs.Prelude.{All, ◌&&◌, is_none}
use Rattle.std.proofs.lemmas.Bool.{lt-ltb, le-ltb}
use Rattle.std.proofs.lemmas.List.Concat.{flat_map-append}
use Rattle.std.proofs.lemmas.List.Elements.{All-head, All-tail, All-cons, All-append}
use Rattle.std.proofs.lemmas.List.Splits.{slice_split_none}
use Rattle.sv_texts.specs.declared.stimuli.StimKind.{StimKind}
use Rattle.sv_texts.specs.declared.stimuli.StimKind.TheVariants.{TooLong, Header}
use Rattle.sv_trace.specs.Forms.{StimForm}
use Rattle.sv_trace.specs.Reading.{text_of, Lacks, IsCut}
use Rattle.sv_trace.specs.Stimulus.{LinesRead, line_fault, read_next, read_after, parts, lines_if}
use Rattle.sv_trace.specs.Stimulus.{read_front, read_whole, ended, has_header}
use Rattle.sv_trace.proofs.Splitting.{split_some, first_part}

-- ---- parts

regroup : (line text bytes : List ℕ)
    → line ++ 10 ∷ [] ++ text ++ bytes ≡ line ++ 10 ∷ (text ++ bytes)
regroup line text bytes =
    append_assoc (line ++ 10 ∷ []) text bytes ∙ append_assoc line (10 ∷ []) (text ++ bytes)

pub parts_text : (lines : List (List ℕ)) (bytes : List ℕ) → All (Lacks 10) lines
    → parts (text_of lines ++ bytes) ≡ lines ++ parts bytes
parts_text [] bytes each = refl
parts_text (line ∷ lines) bytes each =
    ap parts (regroup line (text_of lines) bytes)
    ∙ split_some 10 line (text_of lines ++ bytes) (All-head (Lacks 10) line lines each)
    ∙ ap (λ ps. line ∷ ps) (parts_text lines bytes (All-tail (Lacks 10) line lines each))

pub lines_more : (test : List ℕ → Bool) (lines : List (List ℕ)) (x : List ℕ) (more : List (List ℕ))
    → lines_if test (lines ++ x ∷ more) ≡ lines ++ lines_if test (x ∷ more)
lines_more test [] x more = refl
lines_more test (line ∷ []) x more = refl
lines_more test (line ∷ next ∷ lines) x more =
    ap (λ ls. line ∷ ls) (lines_more test (next ∷ lines) x more)

-- the last part is a line or none
last_is : (test : List ℕ → Bool) (lines : List (List ℕ)) (last : List ℕ) → test last ≡ true
    → lines_if test (lines ++ last ∷ []) ≡ lines ++ last ∷ []
last_is test lines last e =
    lines_more test lines last [] ∙ ap (λ t. lines ++ cond t (last ∷ []) []) e

last_is_none : (test : List ℕ → Bool) (lines : List (List ℕ)) (last : List ℕ)
    → test last ≡ false → lines_if test (lines ++ last ∷ []) ≡ lines
last_is_none test lines last e =
    lines_more test lines last [] ∙ ap (λ t. lines ++ cond t (last ∷ []) []) e
    ∙ append-nil lines

-- a part before others is a line
inner_is : (test : List ℕ → Bool) (lines : List (List ℕ)) (line : List ℕ)
    (rest : List (List ℕ)) (next : List ℕ) (more : List (List ℕ)) → rest ≡ next ∷ more
    → lines_if test (lines ++ line ∷ rest) ≡ lines ++ line ∷ lines_if test rest
inner_is test lines line rest next more e =
    lines_more test lines line rest
    ∙ ap (λ r. lines ++ lines_if test (line ∷ r)) e
    ∙ ap (λ r. lines ++ line ∷ lines_if test r) (sym e)

abbrev long : List ℕ → Bool
long last = nat_lt 1048576 (length last)

abbrev some : List ℕ → Bool
some last = nat_lt 0 (length last)

pub cut_parts : (bytes : List ℕ) (right : List (List ℕ)) (rest : List ℕ) → IsCut bytes right rest
    → parts bytes ≡ right ++ rest ∷ []
cut_parts bytes right rest cut =
    ap parts cut.text ∙ parts_text right rest cut.each
    ∙ ap (λ ps. right ++ ps) (slice_split_none (λ byte. byte == 10) rest cut.last)

-- ---- lines read one after the other

pub read_more : (form : StimForm) (before xs ys right : List (List ℕ))
    → read_after form before xs ≡ record { right = right; wrong = None }
    → read_after form before (xs ++ ys) ≡ read_after form right ys
read_more form before [] ys right e = ap (λ (r : LinesRead). read_after form r.right ys) e
read_more form before (x ∷ xs) ys right e =
    go (line_fault form before x) (read_more form (before ++ x ∷ []) xs ys right) e
  where
    go : (o : Option StimKind)
        → (read_after form (before ++ x ∷ []) xs ≡ record { right = right; wrong = None }
        → read_after form (before ++ x ∷ []) (xs ++ ys) ≡ read_after form right ys)
        → read_next o before (read_after form (before ++ x ∷ []) xs)
        ≡ record { right = right; wrong = None }
        → read_next o before (read_after form (before ++ x ∷ []) (xs ++ ys))
        ≡ read_after form right ys
    go None rest e = rest e
    go (Some kind) rest e =
        let wrong : Some kind ≡ None = ap (λ (r : LinesRead). r.wrong) e in cc

pub one_right : (form : StimForm) (right : List (List ℕ)) (line : List ℕ)
    → line_fault form right line ≡ None
    → read_after form right (line ∷ []) ≡ record { right = right ++ line ∷ []; wrong = None }
one_right form right line e =
    ap (λ o. read_next o right (record { right = right ++ line ∷ []; wrong = None })) e

one_wrong : (form : StimForm) (right : List (List ℕ)) (line : List ℕ) (more : List (List ℕ))
    (kind : StimKind) → line_fault form right line ≡ Some kind
    → read_after form right (line ∷ more) ≡ record { right = right; wrong = Some kind }
one_wrong form right line more kind e =
    ap (λ o. read_next o right (read_after form (right ++ line ∷ []) more)) e

-- lines that begin with right ones and then a wrong one
wrong_lines : (form : StimForm) (right : List (List ℕ)) (line : List ℕ) (more : List (List ℕ))
    (kind : StimKind) → read_after form [] right ≡ record { right = right; wrong = None }
    → line_fault form right line ≡ Some kind
    → read_after form [] (right ++ line ∷ more) ≡ record { right = right; wrong = Some kind }
wrong_lines form right line more kind good wrong =
    read_more form [] right (line ∷ more) right good ∙ one_wrong form right line more kind wrong

-- ---- the front of a text

pub front_reads : (form : StimForm) (bytes : List ℕ) (right : List (List ℕ)) (rest : List ℕ)
    → IsCut bytes right rest → read_front form bytes ≡ read_after form [] right
front_reads form bytes right rest cut =
    ap (λ ps. read_after form [] (lines_if long ps)) (cut_parts bytes right rest cut)
    ∙ ap (read_after form []) (last_is_none long right rest (le-ltb 1048576
    (length rest) cut.short))

pub front_is : (form : StimForm) (bytes : List ℕ) (right : List (List ℕ)) (rest : List ℕ)
    → IsCut bytes right rest
    → read_after form [] right ≡ record { right = right; wrong = None }
    → read_front form bytes ≡ record { right = right; wrong = None }
front_is form bytes right rest cut good = front_reads form bytes right rest cut ∙ good

-- a wrong line with a line feed
pub front_stops : (form : StimForm) (right : List (List ℕ)) (line after : List ℕ) (kind : StimKind)
    → All (Lacks 10) right → Lacks 10 line
    → read_after form [] right ≡ record { right = right; wrong = None }
    → line_fault form right line ≡ Some kind
    → read_front form (text_of right ++ (line ++ 10 ∷ after))
    ≡ record { right = right; wrong = Some kind }
front_stops form right line after kind each lacks good wrong =
    let first = first_part (λ byte. byte == 10) after in
    ap (λ ps. read_after form [] (lines_if long ps))
    (parts_text right (line ++ 10 ∷ after) each ∙ ap (λ ps. right ++ ps)
    (split_some 10 line after lacks))
    ∙ ap (read_after form []) (inner_is long right line (parts after) first.0 first.1 first.2)
    ∙ wrong_lines form right line (lines_if long (parts after)) kind good wrong

too_long : (form : StimForm) (right : List (List ℕ)) (line : List ℕ) → 1048576 < length line
    → line_fault form right line ≡ Some TooLong
too_long form right line h =
    rw (lt-ltb 1048576 (length line) h) refl

-- too long a line without a line feed
pub front_overflows : (form : StimForm) (right : List (List ℕ)) (line : List ℕ)
    → All (Lacks 10) right → Lacks 10 line
    → read_after form [] right ≡ record { right = right; wrong = None }
    → 1048576 < length line
    → read_front form (text_of right ++ line) ≡ record { right = right; wrong = Some TooLong }
front_overflows form right line each lacks good h =
    ap (λ ps. read_after form [] (lines_if long ps))
    (parts_text right line each ∙ ap (λ ps. right ++ ps) (slice_split_none
    (λ byte. byte == 10) line lacks))
    ∙ ap (read_after form []) (last_is long right line (lt-ltb 1048576 (length line) h))
    ∙ wrong_lines form right line [] TooLong good (too_long form right line h)

pub long_is_wrong : (form : StimForm) (right : List (List ℕ)) (line : List ℕ)
    → 1048576 < length line → line_fault form right line ≡ Some TooLong
long_is_wrong form right line h = too_long form right line h

-- ---- whole texts

whole_lines : (form : StimForm) (bytes : List ℕ) (right : List (List ℕ)) (rest : List ℕ)
    (lines : List (List ℕ)) → IsCut bytes right rest → lines_if some (right ++ rest ∷ []) ≡ lines
    → read_whole form bytes ≡ ended form (read_after form [] lines)
whole_lines form bytes right rest lines cut e =
    ap (λ ps. ended form (read_after form [] (lines_if some ps))) (cut_parts bytes right rest cut)
    ∙ ap (λ ls. ended form (read_after form [] ls)) e

pub whole_empty : (form : StimForm) (bytes : List ℕ) (right : List (List ℕ)) (rest : List ℕ)
    → IsCut bytes right rest → length rest ≤ 0
    → read_after form [] right ≡ record { right = right; wrong = None }
    → read_whole form bytes ≡ ended form (record { right = right; wrong = None })
whole_empty form bytes right rest cut none good =
    whole_lines form bytes right rest right cut
    (last_is_none some right rest (le-ltb 0 (length rest) none))
    ∙ ap (ended form) good

pub whole_more : (form : StimForm) (bytes : List ℕ) (right : List (List ℕ)) (rest : List ℕ)
    → IsCut bytes right rest → 0 < length rest
    → read_after form [] right ≡ record { right = right; wrong = None }
    → line_fault form right rest ≡ None
    → read_whole form bytes ≡ ended form (record { right = right ++ rest ∷ []; wrong = None })
whole_more form bytes right rest cut more good last =
    whole_lines form bytes right rest (right ++ rest ∷ []) cut
    (last_is some right rest (lt-ltb 0 (length rest) more))
    ∙ ap (ended form) (read_more form [] right (rest ∷ []) right good
    ∙ one_right form right rest last)

pub whole_stops : (form : StimForm) (bytes : List ℕ) (right : List (List ℕ)) (rest : List ℕ)
    (kind : StimKind) → IsCut bytes right rest → 0 < length rest
    → read_after form [] right ≡ record { right = right; wrong = None }
    → line_fault form right rest ≡ Some kind
    → read_whole form bytes ≡ record { right = right; wrong = Some kind }
whole_stops form bytes right rest kind cut more good last =
    whole_lines form bytes right rest (right ++ rest ∷ []) cut
    (last_is some right rest (lt-ltb 0 (length rest) more))
    ∙ ap (ended form) (wrong_lines form right rest [] kind good last)

pub ended_with : (form : StimForm) (right : List (List ℕ)) → has_header form right ≡ true
    → ended form (record { right = right; wrong = None }) ≡ record { right = right; wrong = None }
ended_with form right e =
    ap (λ t. cond (not t) (record { right = right; wrong = Some Header })
    (let r : LinesRead = record { right = right; wrong = None } in r)) e

pub ended_without : (form : StimForm) (right : List (List ℕ)) → has_header form right ≡ false
    → ended form (record { right = right; wrong = None })
    ≡ record { right = right; wrong = Some Header }
ended_without form right e =
    ap (λ t. cond (not t) (record { right = right; wrong = Some Header })
    (let r : LinesRead = record { right = right; wrong = None } in r)) e

-- ---- one more line

lacks_nil : (s : ℕ) → Lacks s []
lacks_nil s k d h = absurd (omega arith)

pub cut_line : (bytes : List ℕ) (right : List (List ℕ)) (kept line : List ℕ)
    → IsCut bytes right kept → Lacks 10 line
    → IsCut (bytes ++ (line ++ 10 ∷ [])) (right ++ (kept ++ line) ∷ []) []
cut_line bytes right kept line cut lacks = record {
  text =
      ap (λ b. b ++ (line ++ 10 ∷ [])) cut.text
      ∙ append_assoc (text_of right) kept (line ++ 10 ∷ [])
      ∙ ap (λ b. text_of right ++ b) (sym (append_assoc kept line (10 ∷ [])))
      ∙ ap (λ b. text_of right ++ b) (sym (append-nil (kept ++ line ++ 10 ∷ [])))
      ∙ sym (flat_map-append (λ l. l ++ 10 ∷ []) right ((kept ++ line) ∷ []))
      ∙ sym (append-nil (text_of (right ++ (kept ++ line) ∷ [])));
  each = All-append (Lacks 10) right ((kept ++ line) ∷ []) cut.each
      (All-cons (Lacks 10) (kept ++ line) []
      (All-append (λ b. (b == 10) ≡ false) kept line cut.last lacks)
      (λ k d h. absurd (omega arith)));
  last = lacks_nil 10;
  short = omega arith;
}

pub cut_rest : (bytes : List ℕ) (right : List (List ℕ)) (kept more : List ℕ)
    → IsCut bytes right kept → Lacks 10 more → length (kept ++ more) ≤ 1048576
    → IsCut (bytes ++ more) right (kept ++ more)
cut_rest bytes right kept more cut lacks short = record {
  text = ap (λ b. b ++ more) cut.text ∙ append_assoc (text_of right) kept more;
  each = cut.each;
  last = All-append (λ b. (b == 10) ≡ false) kept more cut.last lacks;
  short = short;
}

-- the bytes of a cut and what follows
pub cut_then : (bytes : List ℕ) (right : List (List ℕ)) (kept more : List ℕ)
    → IsCut bytes right kept → bytes ++ more ≡ text_of right ++ (kept ++ more)
cut_then bytes right kept more cut =
    ap (λ b. b ++ more) cut.text ∙ append_assoc (text_of right) kept more

pub kept_lacks : (bytes : List ℕ) (right : List (List ℕ)) (kept more : List ℕ)
    → IsCut bytes right kept → Lacks 10 more → Lacks 10 (kept ++ more)
kept_lacks bytes right kept more cut lacks =
    All-append (λ b. (b == 10) ≡ false) kept more cut.last lacks

-- ---- right lines come first in what is read

pub lines_begin : (form : StimForm) (before lines : List (List ℕ))
    → (later : List (List ℕ)) × ((read_after form before lines).right ≡ before ++ later)
lines_begin form before [] = ([], sym (append-nil before))
lines_begin form before (x ∷ xs) =
    go (line_fault form before x) (lines_begin form (before ++ x ∷ []) xs)
  where
    go : (o : Option StimKind)
        → (later : List (List ℕ))
        × ((read_after form (before ++ x ∷ []) xs).right ≡ before ++ x ∷ [] ++ later)
        → (later : List (List ℕ))
        × ((read_next o before (read_after form (before ++ x ∷ []) xs)).right ≡ before ++ later)
    go None rest = (x ∷ rest.0, rest.1 ∙ append_assoc before (x ∷ []) rest.0)
    go (Some kind) rest = ([], sym (append-nil before))

right_begin : (form : StimForm) (right lines : List (List ℕ))
    → read_after form [] right ≡ record { right = right; wrong = None }
    → (later : List (List ℕ)) × ((read_after form [] (right ++ lines)).right ≡ right ++ later)
right_begin form right lines good =
    let rest = lines_begin form right lines in (
      rest.0,
      ap (λ (r : LinesRead). r.right) (read_more form [] right lines right good) ∙ rest.1,
    )

-- bytes that hold right lines so far, and more of them
pub front_begins : (form : StimForm) (bytes more : List ℕ) (right : List (List ℕ)) (kept : List ℕ)
    → IsCut bytes right kept
    → read_after form [] right ≡ record { right = right; wrong = None }
    → (later : List (List ℕ)) × ((read_front form (bytes ++ more)).right ≡ right ++ later)
front_begins form bytes more right kept cut good =
    let first = first_part (λ byte. byte == 10) (kept ++ more) in
    let lines : read_front form (bytes ++ more)
    ≡ read_after form [] (right ++ lines_if long (first.0 ∷ first.1)) =
    ap (λ ps. read_after form [] (lines_if long ps))
    (ap parts (cut_then bytes right kept more cut)
    ∙ parts_text right (kept ++ more) cut.each ∙ ap (λ ps. right ++ ps) first.2)
    ∙ ap (read_after form []) (lines_more long right first.0 first.1) in
    let rest = right_begin form right (lines_if long (first.0 ∷ first.1)) good in
    (rest.0, ap (λ (r : LinesRead). r.right) lines ∙ rest.1)

ended_right : (form : StimForm) (read : LinesRead) → (ended form read).right ≡ read.right
ended_right form read = go (is_none read.wrong && not (has_header form read.right))
  where
    go : (lacks : Bool)
        → (cond lacks (record { right = read.right; wrong = Some Header }) read).right ≡ read.right
    go true = refl
    go false = refl

-- bytes that hold right lines so far, as a whole text
pub whole_begins : (form : StimForm) (bytes : List ℕ) (right : List (List ℕ)) (kept : List ℕ)
    → IsCut bytes right kept
    → read_after form [] right ≡ record { right = right; wrong = None }
    → (later : List (List ℕ)) × ((read_whole form bytes).right ≡ right ++ later)
whole_begins form bytes right kept cut good =
    let last = lines_if some (kept ∷ []) in
    let rest = right_begin form right last good in (
      rest.0,
      ap (λ (r : LinesRead). r.right)
          (whole_lines form bytes right kept (right ++ last) cut (lines_more some right kept []))
          ∙ ended_right form (read_after form [] (right ++ last)) ∙ rest.1,
    )
