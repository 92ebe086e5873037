-- What is read of a stimulus, up to a limit, and what stays of it where more bytes follow.
use Rattle.std.proofs.Common.{◌≡◌, ℕ, ◌+◌, ◌-◌, ◌<◌, ◌≤◌, Bool, false, cond, nat_le, List}
use Rattle.std.proofs.Common.{◌++◌, length, take, drop, sym, ap, ◌∙◌, arith, ⊎_elim}
use Rattle.std.proofs.Common.{Option, Some, None, subst, append_assoc, length-append}
use Rattle.std.proofs.lemmas.Bool.{cases_lt, le-leb, lt-leb}
use Rattle.std.proofs.lemmas.List.{take-append-drop, take-append-le, length-take}
use Rattle.std.proofs.Math.Seq.{take-append-add}
use Rattle.std.specs.Option.{option_map_or}
use Rattle.sv_texts.specs.declared.stimuli.StimKind.{StimKind}
use Rattle.sv_trace.specs.Forms.{StimForm}
use Rattle.sv_trace.specs.Stimulus.{LinesRead, read_front, read_whole}
use Rattle.sv_trace.proofs.Stuck.{front_stays, whole_stays}
use Rattle.sv_sim_run.specs.declared.endings.Ending.{Ending}
use Rattle.sv_sim_run.specs.declared.endings.Ending.TheVariants as ending
use Rattle.sv_sim_run.specs.Simulated.{ending_of}
use Rattle.sv_sim_run.proofs.ReadFronts.{Grows, front_of_front, front_of_whole}

module _ (limit : ℕ) (form : StimForm) where
  -- `read_of` with this limit
  abbrev read_by : List ℕ → LinesRead
  read_by bytes =
      cond (nat_le (length bytes) limit) (read_whole form bytes)
      (read_front form (take limit bytes))

  pub within_reads : (bytes : List ℕ) → length bytes ≤ limit → read_by bytes ≡ read_whole form bytes
  within_reads bytes within =
      ap (λ b. cond b (read_whole form bytes) (read_front form (take limit bytes)))
      (le-leb (length bytes) limit within)

  over_reads : (bytes : List ℕ) → limit < length bytes
      → read_by bytes ≡ read_front form (take limit bytes)
  over_reads bytes over =
      ap (λ b. cond b (read_whole form bytes) (read_front form (take limit bytes)))
      (lt-leb (length bytes) limit over)

  front_taken : (first rest : List ℕ) → length first ≤ limit
      → take limit (first ++ rest) ≡ first ++ take (limit - length first) rest
  front_taken first rest within =
      ap (λ n. take n (first ++ rest)) (split_limit (length first) within)
      ∙ take-append-add first rest (limit - length first)
    where
      split_limit : (n : ℕ) → n ≤ limit → limit ≡ n + (limit - n)
      split_limit n h = omega arith

  -- a front with a wrong line
  stuck_reads : (first rest : List ℕ) (kind : StimKind) → length first ≤ limit
      → (read_front form first).wrong ≡ Some kind → read_by (first ++ rest) ≡ read_front form first
  stuck_reads first rest kind within wrong = ⊎_elim
      (λ over.
      over_reads (first ++ rest) over ∙ ap (read_front form) (front_taken first rest within)
      ∙ front_stays form first (take (limit - length first) rest) kind wrong)
      (λ all.
      let same = front_stays form first rest kind wrong in
      within_reads (first ++ rest) all
      ∙ whole_stays form (first ++ rest) kind (ap (λ (r : LinesRead). r.wrong) same ∙ wrong)
      ∙ same)
      (cases_lt limit (length (first ++ rest)))

  -- what a front lets read is a front of what is read
  pub front_grows : (first rest : List ℕ) → length first ≤ limit
      → Grows (read_front form first) (read_by (first ++ rest))
  front_grows first rest within = ⊎_elim
      (λ over.
      subst (Grows (read_front form first))
      (sym (over_reads (first ++ rest) over ∙ ap (read_front form) (front_taken first rest within)))
      (front_of_front form first (take (limit - length first) rest)))
      (λ all.
      subst (Grows (read_front form first)) (sym (within_reads (first ++ rest) all))
      (front_of_whole form first rest))
      (cases_lt limit (length (first ++ rest)))

  -- bytes over the limit say nothing
  pub over_more : (bytes more : List ℕ) → limit < length bytes
      → read_by (bytes ++ more) ≡ read_front form (take limit bytes)
  over_more bytes more over =
      let longer : limit < length (bytes ++ more) = omega (arith, length-append bytes more) in
      over_reads (bytes ++ more) longer
      ∙ ap (read_front form) (take-append-le limit bytes more (omega arith))

  -- a wrong line within the limit is the first one, whatever follows
  pub wrong_reads : (bytes more : List ℕ) (kind : StimKind)
      → (read_front form (take limit bytes)).wrong ≡ Some kind
      → read_by (bytes ++ more) ≡ read_front form (take limit bytes)
  wrong_reads bytes more kind wrong =
      let first = take limit bytes in
      let within : length first ≤ limit = omega (arith, length-take limit bytes) in
      ap read_by
      (ap (λ bs. bs ++ more) (sym (take-append-drop limit bytes))
      ∙ append_assoc first (drop limit bytes) more)
      ∙ stuck_reads first (drop limit bytes ++ more) kind within wrong

-- ---- endings

abbrev ending_with : (right : ℕ) → Bool → Option StimKind → Ending
ending_with right within o =
    option_map_or (λ kind. ending.WrongLine (right + 1) kind) o
    (cond within ending.Done ending.TooLarge)

-- a wrong line is told first
pub ends_wrong : (within : Bool) (read : LinesRead) (kind : StimKind) → read.wrong ≡ Some kind
    → ending_of within read ≡ ending.WrongLine (length read.right + 1) kind
ends_wrong within read kind wrong = ap (ending_with (length read.right) within) wrong

pub ends_large : (read : LinesRead) → read.wrong ≡ None → ending_of false read ≡ ending.TooLarge
ends_large read right = ap (ending_with (length read.right) false) right
