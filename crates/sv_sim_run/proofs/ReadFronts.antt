-- What the front of a text lets read is a front of what the whole text lets read.
use Rattle.std.proofs.Common.{◌≡◌, ℕ, ◌+◌, ◌<◌, ◌≤◌, is_none, not, ◌&&◌, Bool, true, false, cond}
use Rattle.std.proofs.Common.{◌==◌, nat_lt}
use Rattle.std.proofs.Common.{List, [], ◌∷◌, ◌++◌, length, map, take, drop, refl, sym, ap, ◌∙◌}
use Rattle.std.proofs.Common.{arith, ⊎_elim, ◌⊎◌, Option, Some, None, append_assoc, append-nil}
use Rattle.std.specs.Prelude.{replicate}
use Rattle.std.specs.List.{onto_first, prefix_len, fold}
use Rattle.std.specs.Str.Parse.{digits_value}
use Rattle.std.proofs.Math.ListN.{drop_of_length-le}
use Rattle.std.proofs.lemmas.Bool.{cases_Bool, cases_lt, ne_eqb, ltb-true}
use Rattle.std.proofs.lemmas.List.{drop-append-le, take-append-le, map-append}
use Rattle.std.proofs.lemmas.List.Folds.{prefix_len-append, length-prefix_len}
use Rattle.std.proofs.lemmas.List.Splits.{slice_split-cons_yes, slice_split-cons_no}
use Rattle.sv_texts.specs.declared.stimuli.StimKind.{StimKind}
use Rattle.sv_texts.specs.declared.stimuli.StimKind.TheVariants.{TooLong, Header}
use Rattle.sv_trace.specs.Forms.{StimForm}
use Rattle.sv_trace.specs.Stimulus.{LinesRead, line_fault, read_next, read_after, parts, lines_if}
use Rattle.sv_trace.specs.Stimulus.{read_front, read_whole, ended, has_header, is_start}
use Rattle.sv_trace.specs.Stimulus.{start_lines}
use Rattle.sv_trace.specs.Stimulus.{started, start_of, cycles_of, words}
use Rattle.sv_trace.proofs.Splitting.{first_part}
use Rattle.sv_trace.proofs.Stuck.{front_stays, whole_stays}
use Rattle.sv_trace.proofs.Texts.{lines_begin, lines_more, read_more, long_is_wrong}

-- ---- the parts of a text and of its front

abbrev is_feed : ℕ → Bool
is_feed byte = byte == 10

record Split (a b : List ℕ) : Type 0 where
  before : List (List ℕ)
  last : List ℕ
  front : parts a ≡ before ++ last ∷ []
  whole : parts (a ++ b) ≡ before ++ parts (last ++ b)

split : (a b : List ℕ) → Split a b
split [] b = record { before = []; last = []; front = refl; whole = refl }
split (x ∷ a) b = by_byte (split a b) (cases_Bool (x == 10))
  where
    joined : (before : List (List ℕ)) (last : List ℕ) → parts a ≡ before ++ last ∷ []
        → parts (a ++ b) ≡ before ++ parts (last ++ b) → (x == 10) ≡ false → Split (x ∷ a) b
    joined [] last front whole other = record {
      before = [];
      last = x ∷ last;
      front = slice_split-cons_no is_feed x a other ∙ ap (onto_first x) front;
      whole = slice_split-cons_no is_feed x (a ++ b) other ∙ ap (onto_first x) whole
          ∙ sym (slice_split-cons_no is_feed x (last ++ b) other);
    }
    joined (line ∷ lines) last front whole other = record {
      before = (x ∷ line) ∷ lines;
      last = last;
      front = slice_split-cons_no is_feed x a other ∙ ap (onto_first x) front;
      whole = slice_split-cons_no is_feed x (a ++ b) other ∙ ap (onto_first x) whole;
    }

    by_byte : Split a b → ((x == 10) ≡ true) ⊎ ((x == 10) ≡ false) → Split (x ∷ a) b
    by_byte s h = ⊎_elim
        (λ feed. record {
          before = [] ∷ s.before;
          last = s.last;
          front = slice_split-cons_yes is_feed x a feed ∙ ap (λ ps. [] ∷ ps) s.front;
          whole = slice_split-cons_yes is_feed x (a ++ b) feed ∙ ap (λ ps. [] ∷ ps) s.whole;
        })
        (λ other. joined s.before s.last s.front s.whole other)
        h

-- ---- lines

abbrev long : List ℕ → Bool
long last = nat_lt 1048576 (length last)

abbrev filled : List ℕ → Bool
filled last = nat_lt 0 (length last)

-- lines before right ones are all right
all_right : (form : StimForm) (before xs ys : List (List ℕ))
    → (read_after form before (xs ++ ys)).wrong ≡ None
    → read_after form before xs ≡ record { right = before ++ xs; wrong = None }
all_right form before [] ys e =
    ap (λ ls. let r : LinesRead = record { right = ls; wrong = None } in r)
    (sym (append-nil before))
all_right form before (x ∷ xs) ys e =
    go (line_fault form before x) (all_right form (before ++ x ∷ []) xs ys) e
  where
    go : (o : Option StimKind)
        → ((read_after form (before ++ x ∷ []) (xs ++ ys)).wrong ≡ None
        → read_after form (before ++ x ∷ []) xs
        ≡ record { right = (before ++ x ∷ []) ++ xs; wrong = None })
        → (read_next o before (read_after form (before ++ x ∷ []) (xs ++ ys))).wrong ≡ None
        → read_next o before (read_after form (before ++ x ∷ []) xs)
        ≡ record { right = before ++ x ∷ xs; wrong = None }
    go None rest w = rest w
        ∙ ap (λ ls. let r : LinesRead = record { right = ls; wrong = None } in r)
        (append_assoc before (x ∷ []) xs)
    go (Some kind) rest w = cc

-- the lines of a front with no wrong line
front_is : (form : StimForm) (before : List (List ℕ)) (last : List ℕ)
    → (read_after form [] (lines_if long (before ++ last ∷ []))).wrong ≡ None
    → (read_after form [] (lines_if long (before ++ last ∷ []))
    ≡ record { right = before; wrong = None })
    × (read_after form [] before ≡ record { right = before; wrong = None })
front_is form before last e = by_length (long last) refl
  where
    lines : (b : Bool) → long last ≡ b
        → lines_if long (before ++ last ∷ []) ≡ before ++ cond b (last ∷ []) []
    lines b l = lines_more long before last [] ∙ ap (λ t. before ++ cond t (last ∷ []) []) l

    right : (b : Bool) → long last ≡ b
        → read_after form [] before ≡ record { right = before; wrong = None }
    right b l = all_right form [] before (cond b (last ∷ []) [])
        (ap (λ ls. (read_after form [] ls).wrong) (sym (lines b l)) ∙ e)

    by_length : (b : Bool) → long last ≡ b
        → (read_after form [] (lines_if long (before ++ last ∷ []))
        ≡ record { right = before; wrong = None })
        × (read_after form [] before ≡ record { right = before; wrong = None })
    by_length false l = (
      ap (read_after form []) (lines false l ∙ append-nil before) ∙ right false l,
      right false l,
    )
    by_length true l =
        let good = right true l in
        let bad : (read_after form [] (lines_if long (before ++ last ∷ []))).wrong ≡ Some TooLong =
        ap (λ ls. (read_after form [] ls).wrong) (lines true l)
        ∙ ap (λ (r : LinesRead). r.wrong) (read_more form [] before (last ∷ []) before good
        ∙ ap (λ o. read_next o before (read_after form (before ++ last ∷ []) []))
        (long_is_wrong form before last (ltb-true 1048576 (length last) l))) in
        let never : None ≡ Some TooLong = sym e ∙ bad in cc

-- lines that begin with those of a front with no wrong line
after_front : (form : StimForm) (test : List ℕ → Bool) (a b : List ℕ)
    → (read_front form a).wrong ≡ None
    → (more : List (List ℕ)) × ((read_after form [] (lines_if test (parts (a ++ b)))).right
    ≡ (read_front form a).right ++ more)
after_front form test a b e =
    let s = split a b in
    let first = first_part is_feed (s.last ++ b) in
    let front : read_front form a ≡ read_after form [] (lines_if long (s.before ++ s.last ∷ [])) =
    ap (λ ps. read_after form [] (lines_if long ps)) s.front in
    let is = front_is form s.before s.last (ap (λ (r : LinesRead). r.wrong) (sym front) ∙ e) in
    let more = lines_begin form s.before (lines_if test (first.0 ∷ first.1)) in
    let whole : read_after form [] (lines_if test (parts (a ++ b)))
    ≡ read_after form s.before (lines_if test (first.0 ∷ first.1)) =
    ap (λ ps. read_after form [] (lines_if test ps))
    (s.whole ∙ ap (λ ps. s.before ++ ps) first.2)
    ∙ ap (read_after form []) (lines_more test s.before first.0 first.1)
    ∙ read_more form [] s.before (lines_if test (first.0 ∷ first.1)) s.before is.1 in (
      more.0,
      ap (λ (r : LinesRead). r.right) whole ∙ more.1
          ∙ ap (λ (r : LinesRead). r.right ++ more.0) (sym (front ∙ is.0)),
    )

-- ---- texts

abbrev pub Grows : (first second : LinesRead) → Type 0
Grows first second = (more : List (List ℕ)) × (second.right ≡ first.right ++ more)

pub same_grows : (first second : LinesRead) → second ≡ first → Grows first second
same_grows first second e =
    ([], ap (λ (r : LinesRead). r.right) e ∙ sym (append-nil first.right))

-- what was read wrong stays, and what was not grows
grows_by : (first second : LinesRead) → (first.wrong ≡ None → Grows first second)
    → ((kind : StimKind) → first.wrong ≡ Some kind → second ≡ first) → Grows first second
grows_by first second more stays = by_fault first.wrong refl
  where
    by_fault : (o : Option StimKind) → first.wrong ≡ o → Grows first second
    by_fault None e = more e
    by_fault (Some kind) e = same_grows first second (stays kind e)

pub front_of_front : (form : StimForm) (a b : List ℕ)
    → Grows (read_front form a) (read_front form (a ++ b))
front_of_front form a b =
    grows_by (read_front form a) (read_front form (a ++ b)) (λ e. after_front form long a b e)
    (λ kind e. front_stays form a b kind e)

pub ended_right : (form : StimForm) (read : LinesRead) → (ended form read).right ≡ read.right
ended_right form read = by_test read.wrong (has_header form read.right)
  where
    by_test : (o : Option StimKind) (b : Bool) → (cond (is_none o && not b)
        (record { right = read.right; wrong = Some Header }) read).right ≡ read.right
    by_test None true = refl
    by_test None false = refl
    by_test (Some kind) b = refl

pub front_of_whole : (form : StimForm) (a b : List ℕ)
    → Grows (read_front form a) (read_whole form (a ++ b))
front_of_whole form a b =
    grows_by (read_front form a) (read_whole form (a ++ b))
    (λ e. let more = after_front form filled a b e in (
      more.0,
      ended_right form (read_after form [] (lines_if filled (parts (a ++ b)))) ∙ more.1,
    ))
    (λ kind e. let stays = front_stays form a b kind e in
    whole_stays form (a ++ b) kind (ap (λ (r : LinesRead). r.wrong) stays ∙ e) ∙ stays)

-- ---- what more right lines say

abbrev cycle_of : List ℕ → List ℕ
cycle_of line = map (digits_value 16) (words line)

pub same_starts : (right more : List (List ℕ)) → prefix_len is_start right < length right
    → start_lines (right ++ more) ≡ start_lines right
same_starts right more fewer =
    ap (λ n. take n (right ++ more))
    (prefix_len-append is_start right more
    ∙ ap (λ b. cond b (length right + prefix_len is_start more) (prefix_len is_start right))
    (ne_eqb (prefix_len is_start right) (length right) (λ e. absurd (omega arith))))
    ∙ take-append-le (prefix_len is_start right) right more (omega arith)

no_cycles : (right : List (List ℕ)) → length right ≤ prefix_len is_start right
    → cycles_of right ≡ []
no_cycles right all =
    let count : length (start_lines right) ≡ prefix_len is_start right =
    length-prefix_len is_start right in
    ap (map cycle_of) (drop_of_length-le right (omega arith))

-- the cycles of the first lines are the first cycles
pub cycles_grow : (right more : List (List ℕ))
    → (rest : List (List ℕ)) × (cycles_of (right ++ more) ≡ cycles_of right ++ rest)
cycles_grow right more = ⊎_elim
    (λ fewer.
    let count : length (start_lines right) ≡ prefix_len is_start right =
    length-prefix_len is_start right in
    let n : length (start_lines right) + 1 ≤ length right = omega arith in (
      map cycle_of more,
      ap (λ ls. map cycle_of (drop (length ls + 1) (right ++ more))) (same_starts right more fewer)
          ∙ ap (map cycle_of) (drop-append-le (length (start_lines right) + 1) right more n)
          ∙ map-append cycle_of (drop (length (start_lines right) + 1) right) more,
    ))
    (λ all. (
      cycles_of (right ++ more),
      ap (λ cs. cs ++ cycles_of (right ++ more)) (sym (no_cycles right all)),
    ))
    (cases_lt (prefix_len is_start right) (length right))

-- and where there is one, the start stays
pub start_stays : (form : StimForm) (right more : List (List ℕ)) → 0 < length (cycles_of right)
    → start_of form (right ++ more) ≡ start_of form right
start_stays form right more some = ⊎_elim
    (λ fewer. ap (fold (started form) (replicate (length form.registers) 0))
    (same_starts right more fewer))
    (λ all.
    let none : length (cycles_of right) ≡ 0 = ap length (no_cycles right all) in
    absurd (omega arith))
    (cases_lt (prefix_len is_start right) (length right))
