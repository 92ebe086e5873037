-- Lines that were read begin a certificate: steps and logs that are still wanted can be filled in.
use Rattle.std.proofs.Common.{◌≡◌, ℕ, ◌+◌, ◌-◌, ◌<◌, ◌≤◌, ◌^◌, List, [], ◌∷◌, ◌++◌, refl, sym, ap}
use Rattle.std.proofs.Common.{◌∙◌, subst, ⊎_elim, inl, inr, length, map, replicate, All, codes, decimal}
use Rattle.std.proofs.Common.{arith}
use Rattle.std.proofs.lemmas.List.{append_assoc, append-nil, map-append, length-append, length-map}
use Rattle.std.proofs.lemmas.List.{length-replicate}
use Rattle.std.proofs.lemmas.List.Elements.{All-append, All-nil, All-cons, All-replicate}
use Rattle.sv_clause.specs.Logs.{Step}
use Rattle.sv_proof.specs.Certificate.{step_line, log_line, log_lines, proof_lines, text_of}
use Rattle.sv_proof.specs.Certificate.{proof_text, IsWritable, IsWritableLog, AreLogs}
use Rattle.sv_proof.specs.Lines.{BeginCertificate, IsFirstBroken, IsFault}
use Rattle.sv_proof.specs.Reading.{NextIsNo, IsStepLine, IsLogLine, BeginWithSteps}
use Rattle.sv_proof.specs.Reading.{BeginWithLogs, StopsAtLog}
use Rattle.sv_proof.specs.Reading.{StopsInLog, StepsFault, LogsFault}
use Rattle.sv_proof.specs.declared.read.ProofFault.{ProofFault}
use Rattle.sv_proof.specs.declared.read.ProofFault.TheVariants.{Text, OutOfMemory}
use Rattle.sv_proof.proofs.Writing.{text_of-append}
use Rattle.sv_proof.proofs.Following.{log_lines-append}
use Rattle.sv_proof.proofs.Breaking.{behind, count_line, AreCertificate, up_to, up_to_steps, broken}
use Rattle.sv_proof.proofs.Breaking.{broken_after, expects_log, expects_end, expects_step}

-- any step that can be written
abbrev filler : Step
filler = record { clause = []; chain = 1 ∷ [] }

filler_writable : IsWritable filler
filler_writable =
    let P : ℕ → Type 0 = λ number. (0 < number) × (number < 2 ^ 64) in
    record {
      clause = tt;
      chain = record {
        some = λ none.
            (cc);
        numbers = All-cons P 1 [] (omega arith, omega arith) (All-nil P);
      };
    }

empty_writable : IsWritableLog []
empty_writable = record { count = omega arith; each = All-nil IsWritable }

begins_logs : (count : ℕ) (done fill : List (List Step)) → count < 2 ^ 32 → All IsWritableLog done →
    All IsWritableLog fill → length done + length fill ≡ count → BeginCertificate (up_to count done)
begins_logs count done fill few all all' sum =
    let logs = done ++ fill in
    let many : length logs ≡ count = length-append done fill ∙ sum in (
      logs,
      log_lines (1 + length done) fill ++ codes "end" ∷ [],
      record { count = omega arith; each = All-append IsWritableLog done fill all all' },
      ap (λ n. codes "secv-proof 1" ∷ count_line n ∷ log_lines 1 logs ++ codes "end" ∷ []) many
          ∙ ap (λ z. codes "secv-proof 1" ∷ count_line count ∷ z)
          (ap (λ z. z ++ codes "end" ∷ []) (log_lines-append 1 done fill)
          ∙ append_assoc (log_lines 1 done) (log_lines (1 + length done) fill)
          (codes "end" ∷ [])),
    )

pub begins_up_to : (count : ℕ) (done : List (List Step)) → count < 2 ^ 32 → All IsWritableLog done →
    length done ≤ count → BeginCertificate (up_to count done)
begins_up_to count done few all fewer =
    begins_logs count done (replicate (count - length done) []) few all
    (All-replicate IsWritableLog (count - length done) [] empty_writable)
    (omega (arith, length-replicate {A = List Step} (count - length done) []))

begins_steps : (count : ℕ) (done fill : List (List Step)) (wanted : ℕ) (steps more : List Step)
    → count < 2 ^ 32 → All IsWritableLog done → All IsWritableLog fill
    → length done + 1 + length fill ≡ count
    → wanted < 2 ^ 32 → All IsWritable steps → All IsWritable more
    → length steps + length more ≡ wanted
    → BeginCertificate (up_to_steps count done wanted steps)
begins_steps count done fill wanted steps more few all all' sum small each each' whole =
    let log = steps ++ more in
    let long : length log ≡ wanted = length-append steps more ∙ whole in
    let logs = done ++ log ∷ fill in
    let many : length logs ≡ count = length-append done (log ∷ fill) ∙ omega arith in
    let good : IsWritableLog log =
    record { count = omega arith; each = All-append IsWritable steps more each each' } in
    let rest = map step_line more ++ (log_lines (1 + length done + 1) fill ++ codes "end" ∷ []) in
    let number : 1 + length done ≡ length done + 1 = omega arith in
    let one : log_lines (1 + length done) (log ∷ fill) ++ codes "end" ∷ [] ≡
    (log_line (length done + 1) wanted ∷ map step_line steps) ++ rest =
    ap (λ n. log_line n (length log) ∷ (map step_line log ++ log_lines (1 + length done + 1) fill)
    ++ codes "end" ∷ []) number
    ∙ ap (λ n. log_line (length done + 1) n ∷
    (map step_line log ++ log_lines (1 + length done + 1) fill) ++ codes "end" ∷ []) long
    ∙ ap (λ z. log_line (length done + 1) wanted ∷ z)
    (append_assoc (map step_line log) (log_lines (1 + length done + 1) fill) (codes "end" ∷ [])
    ∙ ap (λ z. z ++ (log_lines (1 + length done + 1) fill ++ codes "end" ∷ []))
    (map-append step_line steps more)
    ∙ append_assoc (map step_line steps) (map step_line more)
    (log_lines (1 + length done + 1) fill ++ codes "end" ∷ [])) in (
      logs,
      rest,
      record {
        count = omega arith;
        each = All-append IsWritableLog done (log ∷ fill) all
            (All-cons IsWritableLog log fill good all');
      },
      ap (λ n. codes "secv-proof 1" ∷ count_line n ∷ log_lines 1 logs ++ codes "end" ∷ []) many
          ∙ ap (λ z. codes "secv-proof 1" ∷ count_line count ∷ z)
          (ap (λ z. z ++ codes "end" ∷ []) (log_lines-append 1 done (log ∷ fill))
          ∙ append_assoc (log_lines 1 done) (log_lines (1 + length done) (log ∷ fill))
          (codes "end" ∷ [])
          ∙ ap (λ z. log_lines 1 done ++ z) one
          ∙ sym (append_assoc (log_lines 1 done)
          (log_line (length done + 1) wanted ∷ map step_line steps) rest)),
    )

pub begins_up_to_steps : (count : ℕ) (done : List (List Step)) (wanted : ℕ) (steps : List Step) →
    count < 2 ^ 32 → All IsWritableLog done → length done < count → wanted < 2 ^ 32 →
    All IsWritable steps → length steps ≤ wanted →
    BeginCertificate (up_to_steps count done wanted steps)
begins_up_to_steps count done wanted steps few all fewer small each short =
    begins_steps count done (replicate (count - length done - 1) []) wanted steps
    (replicate (wanted - length steps) filler) few all
    (All-replicate IsWritableLog (count - length done - 1) [] empty_writable)
    (omega (arith, length-replicate {A = List Step} (count - length done - 1) [])) small each
    (All-replicate IsWritable (wanted - length steps) filler filler_writable)
    (omega (arith, length-replicate (wanted - length steps) filler))

none_are : AreLogs []
none_are = record { count = omega arith; each = All-nil IsWritableLog }

-- a line that says how many logs there are
abbrev pub IsCountLine : List ℕ → Type 0
IsCountLine line = (count : ℕ) × (count < 2 ^ 32) × (line ≡ codes "obligations " ++ decimal count)

pub broken_first : (bytes : List ℕ) → NextIsNo (λ line. line ≡ codes "secv-proof 1") bytes →
    IsFirstBroken bytes 1
broken_first bytes next =
    broken bytes [] bytes 1 (λ line.
    line ≡ codes "secv-proof 1") refl refl ([], proof_lines [], none_are, refl)
    (λ more (logs, are, e). (
      codes "secv-proof 1",
      count_line (length logs) ∷ log_lines 1 logs
          ++ codes "end" ∷ [],
      sym e,
      refl,
    )) next

text_one : (line rest : List ℕ) (lines : List (List ℕ)) (more : List ℕ) →
    rest ≡ text_of lines ++ more → line ++ 10 ∷ rest ≡ text_of (line ∷ lines) ++ more
text_one line rest lines more e =
    sym (append_assoc line (10 ∷ []) rest) ∙ ap (λ z. (line ++ 10 ∷ []) ++ z) e
    ∙ sym (append_assoc (line ++ 10 ∷ []) (text_of lines) more)

pub broken_second : (bytes first rest : List ℕ) → bytes ≡ first ++ 10 ∷ rest →
    first ≡ codes "secv-proof 1" → NextIsNo IsCountLine rest → IsFirstBroken bytes 2
broken_second bytes first rest e is next =
    broken bytes (codes "secv-proof 1" ∷ []) rest 2 IsCountLine (e ∙ ap (λ z. z ++ 10 ∷ rest) is
    ∙ text_one (codes "secv-proof 1") rest [] rest refl) refl
    ([], count_line 0 ∷ codes "end" ∷ [], none_are, refl)
    (λ more (logs, are, f). (
      count_line (length logs),
      log_lines 1 logs
          ++ codes "end" ∷ [],
      sym (ap (λ z. behind z) f),
      (length logs, are.count, refl),
    )) next

-- two lines, before the text of the logs: the first one, and the one that says how many logs there
-- are
pub record IsHeaded (bytes logs_text : List ℕ) (count : ℕ) : Type 0 where
  pub first : List ℕ
  pub rest : List ℕ
  pub second : List ℕ
  pub splits : bytes ≡ first ++ 10 ∷ rest
  pub is_first : first ≡ codes "secv-proof 1"
  pub splits_rest : rest ≡ second ++ 10 ∷ logs_text
  pub is_second : second ≡ codes "obligations " ++ decimal count
  pub few : count < 2 ^ 32

module _ (bytes logs_text : List ℕ) (count : ℕ) (head : IsHeaded bytes logs_text count) where
  -- the bytes by the lines up to some others
  by_lines : (lines : List (List ℕ)) (more : List ℕ) → logs_text ≡ text_of lines ++ more →
      bytes ≡ text_of (codes "secv-proof 1" ∷ count_line count ∷ lines) ++ more
  by_lines lines more g =
      head.splits ∙ ap (λ z. z ++ 10 ∷ head.rest) head.is_first
      ∙ text_one (codes "secv-proof 1") head.rest (count_line count ∷ lines) more
      (head.splits_rest ∙ ap (λ z. z ++ 10 ∷ logs_text) head.is_second
      ∙ text_one (count_line count) logs_text lines more g)

  broken_at_log : (place : ℕ) → StopsAtLog logs_text count place → IsFirstBroken bytes (3 + place)
  broken_at_log place s =
      broken bytes (up_to count s.logs) s.rest (3 + place) (IsLogLine (length s.logs + 1))
      (by_lines (log_lines 1 s.logs) s.rest s.begins.text)
      (let is = s.place_is in omega arith)
      (begins_up_to count s.logs head.few s.begins.each (let fewer = s.fewer in omega arith))
      (expects_log count s.logs head.few s.begins.each s.fewer) s.next

  broken_in_log : (place : ℕ) → StopsInLog logs_text count place → IsFirstBroken bytes (3 + place)
  broken_in_log place s =
      let line = log_line (length s.logs + 1) s.steps in
      let stops = s.stops in
      let inside : s.rest ≡ text_of (map step_line stops.steps) ++ stops.rest = stops.begins.text in
      let lines = log_lines 1 s.logs ++ line ∷ map step_line stops.steps in
      let text : logs_text ≡ text_of lines ++ stops.rest =
      s.begins.text ∙ ap (λ z.
      text_of (log_lines 1 s.logs)
      ++ z) (s.line ∙ text_one line s.rest (map step_line stops.steps) stops.rest inside)
      ∙ sym (append_assoc (text_of (log_lines 1 s.logs))
      (text_of (line ∷ map step_line stops.steps)) stops.rest)
      ∙ ap (λ z. z ++ stops.rest)
      (sym (text_of-append (log_lines 1 s.logs) (line ∷ map step_line stops.steps))) in
      broken bytes (up_to_steps count s.logs s.steps stops.steps) stops.rest (3 + place) IsStepLine
      (by_lines lines stops.rest text)
      (let outer = s.place_is in let inner = stops.place_is in
      omega (
        arith,
        length-append (log_lines 1 s.logs)
            (line ∷ map step_line stops.steps),
        length-map stops.steps step_line,
      ))
      (begins_up_to_steps count s.logs s.steps stops.steps head.few s.begins.each s.fewer
      s.few_steps stops.begins.each (let fewer = stops.fewer in omega arith))
      (expects_step count s.logs s.steps stops.steps head.few s.begins.each s.few_steps stops.fewer)
      stops.next

  pub broken_in_logs : (fault : ProofFault) → LogsFault logs_text count fault → IsFault bytes fault
  broken_in_logs OutOfMemory h = tt
  broken_in_logs (Text line) (place, is, why) =
      subst (IsFirstBroken bytes) (sym is) (⊎_elim (broken_at_log place) (broken_in_log place) why)

  module _ (logs : List (List Step)) (left : List ℕ) (b : BeginWithLogs logs_text logs left)
      (whole : length logs ≡ count) where
    pub broken_at_end : (line : ℕ) → line ≡ 3 + length (log_lines 1 logs) →
        NextIsNo (λ last. last ≡ codes "end") left → IsFirstBroken bytes line
    broken_at_end line place next =
        broken bytes (up_to count logs) left line (λ last.
        last ≡ codes "end") (by_lines (log_lines 1 logs) left b.text) (omega arith)
        (begins_up_to count logs head.few b.each (omega arith))
        (λ more c.
        (codes "end", [], expects_end count logs head.few b.each whole more c, refl)) next

    are : AreLogs logs
    are = record { count = omega (arith, head.few); each = b.each }

    -- the lines of the whole certificate
    whole_lines : proof_lines logs ≡ up_to count logs ++ codes "end" ∷ []
    whole_lines =
        ap (λ n. codes "secv-proof 1" ∷ count_line n ∷ log_lines 1 logs ++ codes "end" ∷ []) whole

    module _ (last after : List ℕ) (g : left ≡ last ++ 10 ∷ after)
        (is_last : last ≡ codes "end") where
      end_text : bytes ≡ text_of (up_to count logs ++ codes "end" ∷ []) ++ after
      end_text =
          by_lines (log_lines 1 logs ++ codes "end" ∷ []) after
          (b.text ∙ ap (λ z. text_of (log_lines 1 logs) ++ z) (g ∙ ap (λ z. z ++ 10 ∷ after) is_last
          ∙ text_one (codes "end") after [] after refl)
          ∙ sym (append_assoc (text_of (log_lines 1 logs)) (text_of (codes "end" ∷ [])) after)
          ∙ ap (λ z. z ++ after) (sym (text_of-append (log_lines 1 logs) (codes "end" ∷ []))))

      pub broken_behind : (line : ℕ) → line ≡ 3 + length (log_lines 1 logs) → (after ≡ [] → ⊥) →
          IsFirstBroken bytes (line + 1)
      broken_behind line place some =
          broken_after bytes (up_to count logs ++ codes "end" ∷ []) after (line + 1) end_text
          (omega (arith, length-append (log_lines 1 logs) (codes "end" ∷ [])))
          (logs, are, whole_lines)
          (λ more c. let last_ones : codes "end" ∷ more ≡
          codes "end" ∷ [] = expects_end count logs head.few b.each whole (codes "end" ∷ more)
          (subst AreCertificate (append_assoc (up_to count logs) (codes "end" ∷ []) more) c) in
          ap (λ z. behind z) last_ones)
          some

      pub read_whole : after ≡ [] → bytes ≡ proof_text logs
      read_whole none =
          end_text ∙ ap (λ z. text_of (up_to count logs ++ codes "end" ∷ []) ++ z) none
          ∙ append-nil (text_of (up_to count logs ++ codes "end" ∷ []))
          ∙ ap text_of (sym whole_lines)

      pub read_logs : AreLogs logs
      read_logs = are

-- no line of a step comes next
pub fault_at_step : (bytes rest : List ℕ) (steps : List Step) (count first done : ℕ) →
    BeginWithSteps bytes steps rest → length steps ≡ done → done < count →
    NextIsNo IsStepLine rest → StepsFault bytes count first (Text (first + done))
fault_at_step bytes rest steps count first done b all fewer next = (
  done,
  refl,
  record {
    steps = steps;
    rest = rest;
    begins = b;
    fewer = omega (arith, all);
    place_is = sym all;
    next = next;
  },
)

-- no line comes next that begins a log
pub fault_at_log : (bytes rest : List ℕ) (logs : List (List Step)) (count line done : ℕ) →
    BeginWithLogs bytes logs rest → length logs ≡ done → done < count →
    line ≡ 3 + length (log_lines 1 logs) → NextIsNo (IsLogLine (length logs + 1)) rest →
    LogsFault bytes count (Text line)
fault_at_log bytes rest logs count line done b all fewer place next = (
  length (log_lines 1 logs),
  place,
  inl (record {
    logs = logs;
    rest = rest;
    begins = b;
    fewer = omega (arith, all);
    place_is = refl;
    next = next;
  }),
)

-- a fault in the steps of a log is one in the logs
pub fault_in_log : (bytes first after : List ℕ) (logs : List (List Step)) (count wanted line : ℕ)
    (fault : ProofFault) → BeginWithLogs bytes logs first → length logs < count → wanted < 2 ^ 32
    → first ≡ log_line (length logs + 1) wanted ++ 10 ∷ after → line ≡ 3 + length (log_lines 1 logs)
    → StepsFault after wanted (line + 1) fault → LogsFault bytes count fault
fault_in_log bytes first after logs count wanted line OutOfMemory b fewer small e place h = tt
fault_in_log bytes first after logs count wanted line (Text n) b fewer small e place
    (inside, is, stops) = (
      length (log_lines 1 logs) + 1 + inside,
      omega arith,
      inr (record {
        logs = logs;
        steps = wanted;
        first = first;
        rest = after;
        begins = b;
        fewer = fewer;
        few_steps = small;
        line = e;
        inside = inside;
        place_is = refl;
        stops = stops;
      }),
    )
