-- What was read of the bytes of a text, piece by piece.
use Rattle.std.proofs.Common.{◌≡◌, ℕ, ◌+◌, ◌<◌, ◌≤◌, true, false, List, [], ◌∷◌, ◌++◌, length}
use Rattle.std.proofs.Common.{refl, sym, ap, ◌∙◌, arith, subst, Some, None, append_assoc, Bool}
use Rattle.std.proofs.Common.{cond}
use Rattle.std.specs.Prelude.{Result, Ok, Err, OnOk, IfErr}
use Rattle.std.specs.Result.{IsErrAnd}
use Rattle.std.proofs.lemmas.List.{length-append}
use Rattle.sv_texts.specs.declared.stimuli.StimKind.{StimKind}
use Rattle.sv_texts.specs.declared.stimuli.StimKind.TheVariants.{TooLong, Header}
use Rattle.sv_trace.specs.declared.faults.StimFault.{StimFault}
use Rattle.sv_trace.specs.declared.faults.StimFault.TheVariants.{Line, OutOfMemory}
use Rattle.sv_trace.specs.Forms.{StimForm}
use Rattle.sv_trace.specs.Reading.{Said, HaveRead, HaveReadFront, Lacks, IsCut, text_of}
use Rattle.sv_trace.specs.Steps.{LineRead, Stands, Stops, StopsWith, IsTooLong, EndsWell}
use Rattle.sv_trace.specs.Steps.{PieceRead}
use Rattle.sv_trace.specs.Steps.{EndRead}
use Rattle.sv_trace.specs.Stimulus.{LinesRead, read_front, read_whole, ended, fault_of}
use Rattle.sv_trace.proofs.Texts.{read_more, one_right, cut_line, cut_rest, cut_then, kept_lacks}
use Rattle.sv_trace.proofs.Texts.{front_stops, front_overflows, long_is_wrong, whole_empty}
use Rattle.sv_trace.proofs.Texts.{whole_more, whole_stops, ended_with, ended_without}
use Rattle.sv_trace.proofs.Texts.{front_begins, whole_begins}

-- a right line was read
pub stands_on : (form : StimForm) (bytes : List ℕ) (taken : List (List ℕ)) (old new : Said)
    (kept line : List ℕ) → (s : Stands form bytes taken old kept) → Lacks 10 line
    → LineRead form s.right taken (kept ++ line) (Ok tt) new
    → Stands form (bytes ++ (line ++ 10 ∷ [])) taken new []
stands_on form bytes taken old new kept line s lacks read = record {
  right = s.right ++ (kept ++ line) ∷ [];
  cut = cut_line bytes s.right kept line s.cut lacks;
  good = read_more form [] s.right ((kept ++ line) ∷ []) s.right s.good
      ∙ one_right form s.right (kept ++ line) read.0;
  lines = read.1;
}

stopped : (read : LinesRead) (form : StimForm) (right taken : List (List ℕ)) (said : Said)
    (number : ℕ) (kind : StimKind) → read ≡ record { right = right; wrong = Some kind }
    → number ≡ length right + 1 → HaveRead form right taken said
    → Stops read form taken said (Line number kind)
stopped read form right taken said number kind e n lines = record {
  is = ap fault_of e ∙ ap (λ m. Some (Line m kind)) (sym n);
  lines = subst (λ (r : LinesRead). HaveRead form r.right taken said) (sym e) lines;
}

-- the whole text from what is kept on
from_kept : (bytes whole : List ℕ) (right : List (List ℕ)) (kept line after : List ℕ)
    → IsCut bytes right kept → whole ≡ bytes ++ (line ++ 10 ∷ after)
    → whole ≡ text_of right ++ (kept ++ line ++ 10 ∷ after)
from_kept bytes whole right kept line after cut w =
    w ∙ cut_then bytes right kept (line ++ 10 ∷ after) cut
    ∙ ap (λ b. text_of right ++ b) (sym (append_assoc kept line (10 ∷ after)))

-- memory ran out in the line behind what stands
runs_out : (form : StimForm) (bytes more whole : List ℕ) (taken : List (List ℕ)) (old new : Said)
    (kept : List ℕ) → (s : Stands form bytes taken old kept) → whole ≡ bytes ++ more
    → HaveRead form s.right taken new
    → HaveReadFront form (read_front form whole).right taken new
runs_out form bytes more whole taken old new kept s w lines =
    let rest = front_begins form bytes more s.right kept s.cut s.good in
    record {
      front = s.right;
      later = rest.0;
      is = ap (λ b. (read_front form b).right) w ∙ rest.1;
      lines = lines;
    }

-- a wrong line was read
pub stops_at : (form : StimForm) (bytes whole : List ℕ) (taken : List (List ℕ)) (old new : Said)
    (kept line after : List ℕ) (fault : StimFault) → (s : Stands form bytes taken old kept)
    → Lacks 10 line → whole ≡ bytes ++ (line ++ 10 ∷ after)
    → LineRead form s.right taken (kept ++ line) (Err fault) new
    → StopsWith (read_front form whole) form taken new fault
stops_at form bytes whole taken old new kept line after (Line number kind) s lacks w read =
    stopped (read_front form whole) form s.right taken new number kind
    (ap (read_front form) (from_kept bytes whole s.right kept line after s.cut w)
    ∙ front_stops form s.right (kept ++ line) after kind s.cut.each
    (kept_lacks bytes s.right kept line s.cut lacks) s.good read.0.1)
    read.0.0 read.1
stops_at form bytes whole taken old new kept line after OutOfMemory s lacks w read =
    runs_out form bytes (line ++ 10 ∷ after) whole taken old new kept s w read.1

-- a line got too long
pub stops_long : (form : StimForm) (bytes whole : List ℕ) (taken : List (List ℕ)) (said : Said)
    (kept line after : List ℕ) (fault : StimFault) → (s : Stands form bytes taken said kept)
    → Lacks 10 line → whole ≡ bytes ++ (line ++ 10 ∷ after)
    → IsTooLong said.line (length kept + length line) fault
    → StopsWith (read_front form whole) form taken said fault
stops_long form bytes whole taken said kept line after (Line number kind) s lacks w long =
    subst (λ k. Stops (read_front form whole) form taken said (Line number k)) (sym long.1)
    (stopped (read_front form whole) form s.right taken said number TooLong
    (ap (read_front form) (from_kept bytes whole s.right kept line after s.cut w)
    ∙ front_stops form s.right (kept ++ line) after TooLong s.cut.each
    (kept_lacks bytes s.right kept line s.cut lacks) s.good
    (long_is_wrong form s.right (kept ++ line) (omega (arith, long.2, length-append kept line))))
    (long.0 ∙ s.lines.line) s.lines)
stops_long form bytes whole taken said kept line after OutOfMemory s lacks w long =
    runs_out form bytes (line ++ 10 ∷ after) whole taken said said kept s w s.lines

-- the rest got too long
pub stops_over : (form : StimForm) (bytes whole : List ℕ) (taken : List (List ℕ)) (said : Said)
    (kept line : List ℕ) (fault : StimFault) → (s : Stands form bytes taken said kept)
    → Lacks 10 line → whole ≡ bytes ++ line
    → IsTooLong said.line (length kept + length line) fault
    → StopsWith (read_front form whole) form taken said fault
stops_over form bytes whole taken said kept line (Line number kind) s lacks w long =
    subst (λ k. Stops (read_front form whole) form taken said (Line number k)) (sym long.1)
    (stopped (read_front form whole) form s.right taken said number TooLong
    (ap (read_front form) (w ∙ cut_then bytes s.right kept line s.cut)
    ∙ front_overflows form s.right (kept ++ line) s.cut.each
    (kept_lacks bytes s.right kept line s.cut lacks) s.good
    (omega (arith, long.2, length-append kept line)))
    (long.0 ∙ s.lines.line) s.lines)
stops_over form bytes whole taken said kept line OutOfMemory s lacks w long =
    runs_out form bytes line whole taken said said kept s w s.lines

-- the rest was kept
pub stands_still : (form : StimForm) (bytes : List ℕ) (taken : List (List ℕ)) (said : Said)
    (kept line : List ℕ) → Stands form bytes taken said kept → Lacks 10 line
    → length (kept ++ line) ≤ 1048576
    → Stands form (bytes ++ line) taken said (kept ++ line)
stands_still form bytes taken said kept line s lacks short = record {
  right = s.right;
  cut = cut_rest bytes s.right kept line s.cut lacks short;
  good = s.good;
  lines = s.lines;
}

-- ---- ends

ends_well : (form : StimForm) (bytes : List ℕ) (right taken : List (List ℕ)) (said : Said)
    → read_whole form bytes ≡ ended form (record { right = right; wrong = None })
    → HaveRead form right taken said → said.begun ≡ true
    → EndsWell form bytes taken said
ends_well form bytes right taken said whole lines begun =
    let is : read_whole form bytes ≡ record { right = right; wrong = None } =
    whole ∙ ended_with form right (sym lines.begun ∙ begun) in
    record {
      fault = ap fault_of is;
      lines = subst (λ (r : LinesRead). HaveRead form r.right taken said) (sym is) lines;
    }

ends_early : (form : StimForm) (bytes : List ℕ) (right taken : List (List ℕ)) (said : Said)
    → read_whole form bytes ≡ ended form (record { right = right; wrong = None })
    → HaveRead form right taken said → said.begun ≡ false
    → Stops (read_whole form bytes) form taken said (Line said.line Header)
ends_early form bytes right taken said whole lines begun =
    stopped (read_whole form bytes) form right taken said said.line Header
    (whole ∙ ended_without form right (sym lines.begun ∙ begun)) lines.line lines

pub empty_ends_well : (form : StimForm) (bytes : List ℕ) (taken : List (List ℕ)) (said : Said)
    (kept : List ℕ) → Stands form bytes taken said kept → length kept ≤ 0 → said.begun ≡ true
    → EndRead form bytes taken (Ok tt) said
empty_ends_well form bytes taken said kept s none begun =
    ends_well form bytes s.right taken said (whole_empty form bytes s.right kept s.cut none s.good)
    s.lines begun

pub empty_ends_early : (form : StimForm) (bytes : List ℕ) (taken : List (List ℕ)) (said : Said)
    (kept : List ℕ) → Stands form bytes taken said kept → length kept ≤ 0 → said.begun ≡ false
    → EndRead form bytes taken (Err (Line said.line Header)) said
empty_ends_early form bytes taken said kept s none begun =
    ends_early form bytes s.right taken said
    (whole_empty form bytes s.right kept s.cut none s.good) s.lines begun

pub last_ends_well : (form : StimForm) (bytes : List ℕ) (taken : List (List ℕ)) (old new : Said)
    (kept : List ℕ) → (s : Stands form bytes taken old kept) → 0 < length kept
    → LineRead form s.right taken kept (Ok tt) new → new.begun ≡ true
    → EndRead form bytes taken (Ok tt) new
last_ends_well form bytes taken old new kept s more read begun =
    ends_well form bytes (s.right ++ kept ∷ []) taken new
    (whole_more form bytes s.right kept s.cut more s.good read.0) read.1 begun

pub last_ends_early : (form : StimForm) (bytes : List ℕ) (taken : List (List ℕ)) (old new : Said)
    (kept : List ℕ) → (s : Stands form bytes taken old kept) → 0 < length kept
    → LineRead form s.right taken kept (Ok tt) new → new.begun ≡ false
    → EndRead form bytes taken (Err (Line new.line Header)) new
last_ends_early form bytes taken old new kept s more read begun =
    ends_early form bytes (s.right ++ kept ∷ []) taken new
    (whole_more form bytes s.right kept s.cut more s.good read.0) read.1 begun

pub last_stops : (form : StimForm) (bytes : List ℕ) (taken : List (List ℕ)) (old new : Said)
    (kept : List ℕ) (fault : StimFault) → (s : Stands form bytes taken old kept)
    → 0 < length kept → LineRead form s.right taken kept (Err fault) new
    → EndRead form bytes taken (Err fault) new
last_stops form bytes taken old new kept (Line number kind) s more read =
    stopped (read_whole form bytes) form s.right taken new number kind
    (whole_stops form bytes s.right kept kind s.cut more s.good read.0.1) read.0.0 read.1
last_stops form bytes taken old new kept OutOfMemory s more read =
    let rest = whole_begins form bytes s.right kept s.cut s.good in
    record { front = s.right; later = rest.0; is = rest.1; lines = read.1 }

-- ---- with any answer

-- what an error on its way out is
pub at_err : (r : Result (Unit {0}) StimFault) (x : StimFault) → IsErrAnd r (λ y. y ≡ x)
    → (P : Result (Unit {0}) StimFault → Type 0) → P (Err x) → P r
at_err (Ok done) x is P holds = absurd is
at_err (Err y) x is P holds = subst (λ z. P (Err z)) (sym is) holds

pub rest_read : (form : StimForm) (bytes whole : List ℕ) (taken : List (List ℕ)) (said : Said)
    (kept line new : List ℕ) (r : Result (Unit {0}) StimFault) → Stands form bytes taken said kept
    → Lacks 10 line → whole ≡ bytes ++ line → OnOk r (new ≡ kept ++ line)
    → OnOk r (length new ≤ 1048576)
    → IfErr r (IsTooLong said.line (length kept + length line))
    → PieceRead form whole taken r said new
rest_read form bytes whole taken said kept line new (Ok done) s lacks w is short long =
    subst (λ b. Stands form b taken said new) (sym w)
    (subst (λ k. Stands form (bytes ++ line) taken said k) (sym is)
    (stands_still form bytes taken said kept line s lacks (subst
    (λ k. length k ≤ 1048576) is short)))
rest_read form bytes whole taken said kept line new (Err fault) s lacks w is short long =
    stops_over form bytes whole taken said kept line fault s lacks w long

pub empty_ends : (form : StimForm) (bytes : List ℕ) (taken : List (List ℕ)) (said : Said)
    (kept : List ℕ) → Stands form bytes taken said kept → length kept ≤ 0
    → EndRead form bytes taken (cond said.begun (Ok tt) (Err (Line said.line Header))) said
empty_ends form bytes taken said kept s none = by_begun said.begun refl
  where
    by_begun : (b : Bool) → said.begun ≡ b
        → EndRead form bytes taken (cond b (Ok tt) (Err (Line said.line Header))) said
    by_begun true e = empty_ends_well form bytes taken said kept s none e
    by_begun false e = empty_ends_early form bytes taken said kept s none e

pub last_ends : (form : StimForm) (bytes : List ℕ) (taken : List (List ℕ)) (old new : Said)
    (kept : List ℕ) → (s : Stands form bytes taken old kept) → 0 < length kept
    → LineRead form s.right taken kept (Ok tt) new
    → EndRead form bytes taken (cond new.begun (Ok tt) (Err (Line new.line Header))) new
last_ends form bytes taken old new kept s more read = by_begun new.begun refl
  where
    by_begun : (b : Bool) → new.begun ≡ b
        → EndRead form bytes taken (cond b (Ok tt) (Err (Line new.line Header))) new
    by_begun true e = last_ends_well form bytes taken old new kept s more read e
    by_begun false e = last_ends_early form bytes taken old new kept s more read e
