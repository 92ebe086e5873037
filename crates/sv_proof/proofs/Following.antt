-- Lines one after the other: what is read of them, and what can follow.
use Rattle.std.proofs.Common.{◌≡◌, ℕ, ◌+◌, ◌<◌, ◌≤◌, ◌^◌, List, [], ◌∷◌, ◌++◌, sym, ap, ◌∙◌, subst}
use Rattle.std.proofs.Common.{length, map, All, arith}
use Rattle.std.proofs.lemmas.List.{append_assoc, append-nil, length-append, map_push, length-map}
use Rattle.std.proofs.lemmas.List.Elements.{All-push, All-nil}
use Rattle.sv_clause.specs.Logs.{Step}
use Rattle.sv_proof.specs.Certificate.{step_line, log_line, log_lines, text_of, IsWritable}
use Rattle.sv_proof.specs.Certificate.{IsWritableLog}
use Rattle.sv_proof.specs.Lines.{Lacks}
use Rattle.sv_proof.specs.Reading.{NextIsNo, BeginWithSteps, BeginWithLogs}
use Rattle.sv_proof.proofs.Splitting.{same_split, lacks_split}
use Rattle.sv_proof.proofs.Writing.{text_of-append}

-- no line feed comes
pub no_next_unended : (kind : List ℕ → Type 0) (rest : List ℕ) → Lacks 10 rest → NextIsNo kind rest
no_next_unended kind rest lacks = λ line more l e k. lacks_split 10 line more rest lacks e

-- the next line is not of the kind
pub no_next_wrong : (kind : List ℕ → Type 0) (rest line after : List ℕ) →
    rest ≡ line ++ 10 ∷ after → Lacks 10 line → (kind line → ⊥) → NextIsNo kind rest
no_next_wrong kind rest line after e lacks none =
    λ other more l f k. none
    (subst kind (sym (same_split 10 line other after more lacks l (sym e ∙ f)).0) k)

pub rest_shorter : (rest line after : List ℕ) → rest ≡ line ++ 10 ∷ after →
    length after + 1 ≤ length rest
rest_shorter rest line after e =
    let same : length rest ≡ length (line ++ 10 ∷ after) = ap length e in
    omega (arith, length-append line (10 ∷ after))

-- the text of lines and one more
text_push : (lines : List (List ℕ)) (line rest after : List ℕ) → rest ≡ line ++ 10 ∷ after →
    text_of lines ++ rest ≡ text_of (lines ++ line ∷ []) ++ after
text_push lines line rest after e =
    ap (λ z. text_of lines ++ z) (e ∙ sym (append_assoc line (10 ∷ []) after))
    ∙ sym (append_assoc (text_of lines) (line ++ 10 ∷ []) after)
    ∙ ap (λ z. (text_of lines ++ z) ++ after) (sym (append-nil (line ++ 10 ∷ [])))
    ∙ ap (λ z. z ++ after) (sym (text_of-append lines (line ∷ [])))

pub steps_none : (bytes : List ℕ) (steps : List Step) → steps ≡ [] →
    BeginWithSteps bytes steps bytes
steps_none bytes steps e =
    record {
      text = ap (λ z. text_of (map step_line z) ++ bytes) (sym e);
      each = subst (All IsWritable) (sym e) (All-nil IsWritable);
    }

pub step_added : (bytes rest line after : List ℕ) (steps now : List Step) (s : Step) →
    BeginWithSteps bytes steps rest → rest ≡ line ++ 10 ∷ after → line ≡ step_line s →
    IsWritable s → now ≡ steps ++ s ∷ [] → BeginWithSteps bytes now after
step_added bytes rest line after steps now s b e is writable n =
    record {
      text = b.text ∙ text_push (map step_line steps) line rest after e
          ∙ ap (λ z. text_of (map step_line steps ++ z ∷ []) ++ after) is
          ∙ ap (λ z. text_of z ++ after) (sym (map_push step_line steps s))
          ∙ ap (λ z. text_of (map step_line z) ++ after) (sym n);
      each = subst (All IsWritable) (sym n) (All-push IsWritable steps s b.each writable);
    }

pub log_lines-append : (number : ℕ) (xs ys : List (List Step)) →
    log_lines number (xs ++ ys) ≡ log_lines number xs ++ log_lines (number + length xs) ys
log_lines-append number [] ys = ap (λ n. log_lines n ys) (omega arith)
log_lines-append number (x ∷ xs) ys =
    ap (λ z. log_line number (length x) ∷ map step_line x ++ z) (log_lines-append (number + 1) xs ys
    ∙ ap (λ n. log_lines (number + 1) xs ++ log_lines n ys) (omega arith))
    ∙ ap (λ z. log_line number (length x) ∷ z)
    (sym (append_assoc (map step_line x) (log_lines (number + 1) xs)
    (log_lines (number + length (x ∷ xs)) ys)))

pub logs_none : (bytes : List ℕ) (logs : List (List Step)) → logs ≡ [] →
    BeginWithLogs bytes logs bytes
logs_none bytes logs e =
    record {
      text = ap (λ z. text_of (log_lines 1 z) ++ bytes) (sym e);
      each = subst (All IsWritableLog) (sym e) (All-nil IsWritableLog);
    }

-- one more log: its line, and its steps
log_one : (number : ℕ) (steps : List Step) →
    log_lines number (steps ∷ []) ≡ log_line number (length steps) ∷ map step_line steps
log_one number steps =
    ap (λ z. log_line number (length steps) ∷ z) (append-nil (map step_line steps))

pub log_text : (bytes first after rest : List ℕ) (logs : List (List Step)) (steps : List Step)
    → bytes ≡ text_of (log_lines 1 logs) ++ first
    → first ≡ log_line (length logs + 1) (length steps) ++ 10 ∷ after
    → after ≡ text_of (map step_line steps) ++ rest
    → bytes ≡ text_of (log_lines 1 (logs ++ steps ∷ [])) ++ rest
log_text bytes first after rest logs steps e f s =
    let number : 1 + length logs ≡ length logs + 1 = omega arith in
    let line = log_line (length logs + 1) (length steps) in
    e ∙ text_push (log_lines 1 logs) line first after f
    ∙ ap (λ z. text_of (log_lines 1 logs ++ line ∷ []) ++ z) s
    ∙ sym (append_assoc (text_of (log_lines 1 logs ++ line ∷ []))
    (text_of (map step_line steps)) rest)
    ∙ ap (λ z. z ++ rest)
    (sym (text_of-append (log_lines 1 logs ++ line ∷ []) (map step_line steps))
    ∙ ap text_of (append_assoc (log_lines 1 logs) (line ∷ []) (map step_line steps)))
    ∙ ap (λ z. text_of (log_lines 1 logs ++ z) ++ rest) (sym (log_one (length logs + 1) steps))
    ∙ ap (λ n. text_of (log_lines 1 logs ++ log_lines n (steps ∷ [])) ++ rest) (sym number)
    ∙ ap (λ z. text_of z ++ rest) (sym (log_lines-append 1 logs (steps ∷ [])))

pub log_added : (bytes first line after rest : List ℕ) (logs now : List (List Step))
    (steps : List Step) (wanted : ℕ) → BeginWithLogs bytes logs first → first ≡ line ++ 10 ∷ after
    → line ≡ log_line (length logs + 1) wanted → wanted < 2 ^ 32
    → BeginWithSteps after steps rest → length steps ≡ wanted → now ≡ logs ++ steps ∷ []
    → BeginWithLogs bytes now rest
log_added bytes first line after rest logs now steps wanted b e is small s count n =
    let whole : first ≡ log_line (length logs + 1) (length steps) ++ 10 ∷ after =
    e ∙ ap (λ z. z ++ 10 ∷ after) (is ∙ ap (log_line (length logs + 1)) (sym count)) in
    record {
      text =
          log_text bytes first after rest logs steps b.text whole s.text
          ∙ ap (λ z. text_of (log_lines 1 z) ++ rest) (sym n);
      each =
          subst (All IsWritableLog) (sym n)
          (All-push IsWritableLog logs steps b.each (record {
            count = omega arith;
            each = s.each;
          }));
    }

pub log_lines-length : (logs : List (List Step)) (steps : List Step) →
    length (log_lines 1 (logs ++ steps ∷ [])) ≡ length (log_lines 1 logs) + 1 + length steps
log_lines-length logs steps =
    ap length (log_lines-append 1 logs (steps ∷ [])
    ∙ ap (λ z. log_lines 1 logs ++ z) (log_one (1 + length logs) steps))
    ∙ omega (
      arith,
      length-append (log_lines 1 logs)
          (log_line (1 + length logs) (length steps) ∷ map step_line steps),
      length-map steps
          step_line,
    )
