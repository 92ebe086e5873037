-- Each list of logs has one text, and a text is of one list of logs.
use Rattle.std.proofs.Common.{◌≡◌, ℕ, ◌+◌, ◌<◌, ◌^◌, List, [], ◌∷◌, ◌++◌, refl, sym, ap, ◌∙◌}
use Rattle.std.proofs.Common.{length, map, get_or, All, codes, decimal, MatchResult, IfOk, IfErr}
use Rattle.std.proofs.Common.{Result, Ok, Err, arith}
use Rattle.std.proofs.lemmas.List.{append_assoc, append-nil, length-map}
use Rattle.std.proofs.lemmas.List.Elements.{All-head, All-tail}
use Rattle.std.proofs.lemmas.Fmt.{decimal_injective}
use Rattle.sv_clause.specs.Logs.{Step}
use Rattle.sv_proof.specs.Certificate.{number_words, step_line, log_lines, proof_lines, text_of}
use Rattle.sv_proof.specs.Certificate.{proof_text, IsWritable, IsWritableLog, AreLogs}
use Rattle.sv_proof.specs.Lines.{IsFault}
use Rattle.sv_proof.specs.declared.read.ProofFault.{ProofFault}
use Rattle.sv_proof.specs.declared.read.ProofFault.TheVariants.{Text, OutOfMemory}
use Rattle.sv_proof.proofs.Splitting.{same_split, lacks_split, lacks_decimal}
use Rattle.sv_proof.proofs.Spelling.{same_literals, word_then}
use Rattle.sv_proof.proofs.Breaking.{behind, lines_lack, same_lines, same_length_rest, same_count}
use Rattle.sv_proof.proofs.Breaking.{log_is_not_end}

abbrev IsNumber : ℕ → Type 0
IsNumber number = (0 < number) × (number < 2 ^ 64)

same_chain : (c d : List ℕ) → All IsNumber c → All IsNumber d →
    number_words c ++ codes "0" ≡ number_words d ++ codes "0" → c ≡ d
same_chain [] [] all_c all_d e = refl
same_chain [] (n ∷ d) all_c all_d e =
    absurd (lacks_split 32 (decimal n) (number_words d ++ codes "0") (codes "0")
    ((λ same. absurd (omega arith)), tt) (e ∙ word_then (decimal n) (number_words d) (codes "0")))
same_chain (n ∷ c) [] all_c all_d e =
    absurd (lacks_split 32 (decimal n) (number_words c ++ codes "0") (codes "0")
    ((λ same. absurd (omega arith)), tt) (sym e
    ∙ word_then (decimal n) (number_words c) (codes "0")))
same_chain (m ∷ c) (n ∷ d) all_c all_d e =
    let good_m = All-head IsNumber m c all_c in
    let good_n = All-head IsNumber n d all_d in
    let parts = same_split 32 (decimal m) (decimal n) (number_words c ++ codes "0")
    (number_words d ++ codes "0") (lacks_decimal 32 m (omega arith) good_m.1)
    (lacks_decimal 32 n (omega arith) good_n.1)
    (sym (word_then (decimal m) (number_words c) (codes "0")) ∙ e
    ∙ word_then (decimal n) (number_words d) (codes "0")) in
    ap (λ z. z ∷ c) (decimal_injective m n good_m.1 good_n.1 parts.0)
    ∙ ap (λ z. n ∷ z) (same_chain c d (All-tail IsNumber m c all_c)
    (All-tail IsNumber n d all_d) parts.1)

same_step : (s t : Step) → IsWritable s → IsWritable t → step_line s ≡ step_line t → s ≡ t
same_step s t ws wt e =
    let parts = same_literals 0 s.clause t.clause (number_words s.chain ++ codes "0")
    (number_words t.chain ++ codes "0") ws.clause wt.clause e in
    let chain = same_chain s.chain t.chain ws.chain.numbers wt.chain.numbers parts.1 in
    let both : ◌≡◌ {A = Step} (record { clause = s.clause; chain = s.chain })
    (record { clause = t.clause; chain = t.chain }) =
    ap (λ (z : List _). record { clause = z; chain = s.chain }) parts.0
    ∙ ap (λ (z : List ℕ). record { clause = t.clause; chain = z }) chain in
    both

same_steps : (s t : List Step) (us vs : List (List ℕ)) → length s ≡ length t → All IsWritable s →
    All IsWritable t → map step_line s ++ us ≡ map step_line t ++ vs → s ≡ t
same_steps [] [] us vs l ws wt e = refl
same_steps [] (y ∷ t) us vs l ws wt e = absurd (omega arith)
same_steps (x ∷ s) [] us vs l ws wt e = absurd (omega arith)
same_steps (x ∷ s) (y ∷ t) us vs l ws wt e =
    let head : step_line x ≡ step_line y = ap (λ z. get_or z 0 []) e in
    let tail : map step_line s ++ us ≡ map step_line t ++ vs = ap (λ z. behind z) e in
    ap (λ z. z ∷ s) (same_step x y (All-head IsWritable x s ws) (All-head IsWritable y t wt) head)
    ∙ ap (λ z. y ∷ z) (same_steps s t us vs (omega arith) (All-tail IsWritable x s ws)
    (All-tail IsWritable y t wt) tail)

same_logs : (number : ℕ) (a b : List (List Step)) → All IsWritableLog a → All IsWritableLog b →
    log_lines number a ++ codes "end" ∷ [] ≡ log_lines number b ++ codes "end" ∷ [] → a ≡ b
same_logs number [] [] wa wb e = refl
same_logs number [] (t ∷ b) wa wb e =
    absurd (log_is_not_end number (length t) (ap (λ z. get_or z 0 []) (sym e)))
same_logs number (s ∷ a) [] wa wb e =
    absurd (log_is_not_end number (length s) (ap (λ z. get_or z 0 []) e))
same_logs number (s ∷ a) (t ∷ b) wa wb e =
    let log_s = All-head IsWritableLog s a wa in
    let log_t = All-head IsWritableLog t b wb in
    let count = same_count number (length s) (length t) log_s.count log_t.count
    (ap (λ z. get_or z 0 []) e) in
    let tail : map step_line s ++ (log_lines (number + 1) a ++ codes "end" ∷ []) ≡
    map step_line t ++ (log_lines (number + 1) b ++ codes "end" ∷ []) =
    sym (append_assoc (map step_line s) (log_lines (number + 1) a) (codes "end" ∷ []))
    ∙ ap (λ z. behind z) e
    ∙ append_assoc (map step_line t) (log_lines (number + 1) b) (codes "end" ∷ []) in
    let rest = same_length_rest (map step_line s) (map step_line t)
    (log_lines (number + 1) a ++ codes "end" ∷ [])
    (log_lines (number + 1) b ++ codes "end" ∷ []) (length-map s step_line ∙ count
    ∙ sym (length-map t step_line)) tail in
    ap (λ z. z ∷ a) (same_steps s t (log_lines (number + 1) a ++ codes "end" ∷ [])
    (log_lines (number + 1) b ++ codes "end" ∷ []) count log_s.each log_t.each tail)
    ∙ ap (λ z. t ∷ z) (same_logs (number + 1) a b (All-tail IsWritableLog s a wa)
    (All-tail IsWritableLog t b wb) rest)

no_lines : (more : List (List ℕ)) → [] ≡ text_of more → more ≡ []
no_lines [] e = refl
no_lines ([] ∷ more) e = absurd (cc)
no_lines ((c ∷ line) ∷ more) e = absurd (cc)

pub same_text : (a b : List (List Step)) → AreLogs a → AreLogs b →
    proof_text a ≡ proof_text b → a ≡ b
same_text a b are_a are_b e =
    let (more, is, none) =
    same_lines (proof_lines a) (proof_lines b) [] (lines_lack a are_a) (lines_lack b are_b)
    (append-nil (proof_text a) ∙ e) in
    let lines : proof_lines a ≡ proof_lines b =
    sym (is ∙ ap (λ z. proof_lines a ++ z) (no_lines more none) ∙ append-nil (proof_lines a)) in
    same_logs 1 a b are_a.each are_b.each (ap (λ z. behind (behind z)) lines)

-- a text that was written is read as those logs, or memory runs out
pub no_fault : (bytes : List ℕ) (logs : List (List Step)) (fault : ProofFault) → AreLogs logs →
    bytes ≡ proof_text logs → IsFault bytes fault → fault ≡ OutOfMemory
no_fault bytes logs OutOfMemory are e f = refl
no_fault bytes logs (Text n) are e f = absurd (f.incomplete logs are e)

pub reads_again : {X : Type 0} (plain : X
    → List (List Step)) (bytes : List ℕ) (r : Result X ProofFault) → IfOk r (λ x. AreLogs (plain x))
    → IfOk r (λ x. bytes ≡ proof_text (plain x)) → IfErr r (IsFault bytes)
    → (logs : List (List Step)) → AreLogs logs → bytes ≡ proof_text logs
    → MatchResult r (λ x. plain x ≡ logs) (λ fault. fault ≡ OutOfMemory)
reads_again plain bytes (Ok x) are text fault logs given e =
    same_text (plain x) logs are given (sym text ∙ e)
reads_again plain bytes (Err f) are text fault logs given e = no_fault bytes logs f given e fault
