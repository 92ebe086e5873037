-- How many lines stand before those of a log, and that no certificate has more lines than bytes.
use Rattle.std.proofs.Common.{◌≡◌, ℕ, ◌+◌, ◌<◌, ◌≤◌, ◌^◌, List, [], ◌∷◌, ◌++◌, sym, ap, ◌∙◌, length}
use Rattle.std.proofs.Common.{take, drop, get_or, codes, arith}
use Rattle.std.proofs.lemmas.List.{length-append, length-map, take_more, take_all, take-append-drop}
use Rattle.std.proofs.lemmas.List.{get_or-map, take-map}
use Rattle.sv_clause.specs.Logs.{Step, plain_step, plain_log}
use Rattle.sv_clause.specs.declared.logs.Log.{Log}
use Rattle.sv_proof.specs.Certificate.{plain_logs, log_lines, proof_lines, proof_text, text_of}
use Rattle.sv_proof.specs.FaultLines.{line_of_log}
use Rattle.sv_proof.proofs.Following.{log_lines-append, log_lines-length}

pub proof_lines-length : (logs : List (List Step)) →
    length (proof_lines logs) ≡ 3 + length (log_lines 1 logs)
proof_lines-length logs =
    let whole = length-append (log_lines 1 logs) (codes "end" ∷ []) in omega arith

-- the lines of some of the logs are among those of all
pub lines_within : (logs : List (List Step)) (k : ℕ) →
    length (log_lines 1 (take k logs)) ≤ length (log_lines 1 logs)
lines_within logs k =
    let parts : length (log_lines 1 (take k logs ++ drop k logs)) ≡ length (log_lines 1 logs) =
    ap (λ z. length (log_lines 1 z)) (take-append-drop k logs) in
    let split = ap length (log_lines-append 1 (take k logs) (drop k logs)) in
    let sum = length-append (log_lines 1 (take k logs))
    (log_lines (1 + length (take k logs)) (drop k logs)) in
    omega arith

-- one more log: its line, and those of its steps
pub lines_more : (logs : List Log) (k : ℕ) (log : Log) → k < length logs → log ≡ get_or logs k log →
    line_of_log (plain_logs logs) (k + 1) ≡
    line_of_log (plain_logs logs) k + (1 + length log.steps.items)
lines_more logs k log inside is =
    let plain = plain_logs logs in
    let within : k < length plain = let same = length-map logs plain_log in omega arith in
    let here : get_or plain k (plain_log log) ≡ plain_log log =
    get_or-map plain_log logs k log (plain_log log) inside ∙ ap plain_log (sym is) in
    let longer : take (k + 1) plain ≡ take k plain ++ plain_log log ∷ [] =
    take_more plain k (plain_log log) within ∙ ap (λ z. take k plain ++ z ∷ []) here in
    let count : length (log_lines 1 (take (k + 1) plain)) ≡
    length (log_lines 1 (take k plain)) + 1 + length (plain_log log) =
    ap (λ z. length (log_lines 1 z)) longer ∙ log_lines-length (take k plain) (plain_log log) in
    let steps = length-map log.steps.items plain_step in
    omega arith

-- lines of a log stand among those of the certificate
pub line_small : (logs : List (List Step)) (k : ℕ) → length (proof_lines logs) < 2 ^ 63 →
    line_of_log logs k < 2 ^ 63
line_small logs k few =
    let whole = proof_lines-length logs in let part = lines_within logs k in omega arith

-- those of the first logs alone are those among all
pub line_of_first : (logs first : List Log) (count k : ℕ) → first ≡ take count logs →
    length first ≤ k → line_of_log (plain_logs first) k ≡ line_of_log (plain_logs logs) count
line_of_first logs first count k is past =
    let long : length (plain_logs first) ≤ k = let same = length-map first plain_log in
    omega arith in
    ap (λ z. 3 + length (log_lines 1 z))
    (take_all k (plain_logs first) long ∙ ap plain_logs is ∙ sym (take-map plain_log count logs))

pub few_of_first : (logs first : List Log) (count : ℕ) → first ≡ take count logs →
    length (proof_lines (plain_logs logs)) < 2 ^ 63 →
    length (proof_lines (plain_logs first)) < 2 ^ 63
few_of_first logs first count is few =
    let same : length (log_lines 1 (plain_logs first)) ≡
    length (log_lines 1 (take count (plain_logs logs))) =
    ap (λ z. length (log_lines 1 z)) (ap plain_logs is ∙ sym (take-map plain_log count logs)) in
    let part = lines_within (plain_logs logs) count in
    let all = proof_lines-length (plain_logs logs) in
    let some = proof_lines-length (plain_logs first) in
    omega arith

lines_in_text : (lines : List (List ℕ)) → length lines ≤ length (text_of lines)
lines_in_text [] = omega arith
lines_in_text (line ∷ lines) =
    let more = lines_in_text lines in
    let whole = length-append (line ++ 10 ∷ []) (text_of lines) in
    let ended = length-append line (10 ∷ []) in
    omega arith

pub few_lines : (bytes : List ℕ) (logs : List (List Step)) → length bytes < 2 ^ 63 →
    bytes ≡ proof_text logs → length (proof_lines logs) < 2 ^ 63
few_lines bytes logs small is =
    let some = lines_in_text (proof_lines logs) in
    let same : length bytes ≡ length (text_of (proof_lines logs)) = ap length is in
    omega arith
