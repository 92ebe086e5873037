-- Which line first breaks the text: what lines can follow those that were read.
use Rattle.std.proofs.Common.{◌≡◌, ℕ, ◌+◌, ◌<◌, ◌^◌, true, not, ℤ, List, [], ◌∷◌, ◌++◌, refl, sym}
use Rattle.std.proofs.Common.{ap, ◌∙◌, subst, length, map, get_or, All, codes, decimal, eqb, arith}
use Rattle.std.specs.List.{AllByRecursion, list_all}
use Rattle.std.specs.Fmt.{signed_decimal}
use Rattle.std.proofs.lemmas.List.{append_assoc, append-nil, append_cancel_left, length-map}
use Rattle.std.proofs.lemmas.List.Elements.{All-head, All-tail}
use Rattle.std.proofs.lemmas.Fmt.{decimal_injective}
use Rattle.std.proofs.lemmas.Bool.{and_parts, not-true, eqb-false}
use Rattle.sv_clause.specs.Literals.{Ascend}
use Rattle.sv_clause.specs.Logs.{Step}
use Rattle.sv_proof.specs.Certificate.{word, literal_words, number_words, step_line, log_line}
use Rattle.sv_proof.specs.Certificate.{log_lines, proof_lines, text_of, IsWritable, IsWritableLog}
use Rattle.sv_proof.specs.Certificate.{AreLogs}
use Rattle.sv_proof.specs.Lines.{Lacks, BeginCertificate, IsFirstBroken}
use Rattle.sv_proof.specs.Reading.{NextIsNo, IsStepLine, IsLogLine}
use Rattle.sv_proof.proofs.Splitting.{same_split, lacks_split, Lacks-append, lacks_decimal}
use Rattle.sv_proof.proofs.Splitting.{lacks_signed}

-- no line of a certificate has a line feed inside

lacks_from_test : (s : ℕ) (bytes : List ℕ) → list_all (λ c. not (eqb c s)) bytes ≡ true →
    Lacks s bytes
lacks_from_test s [] e = tt
lacks_from_test s (c ∷ cs) e =
    let parts = and_parts (not (eqb c s)) (list_all (λ d. not (eqb d s)) cs) e in
    (eqb-false c s (not-true (eqb c s) parts.0), lacks_from_test s cs parts.1)

lacks_word : (bytes : List ℕ) → Lacks 10 bytes → Lacks 10 (word bytes)
lacks_word bytes l = Lacks-append 10 bytes (32 ∷ []) l (lacks_from_test 10 (32 ∷ []) refl)

lacks_literals : (m : ℕ) (clause : List ℤ) → Ascend m clause → Lacks 10 (literal_words clause)
lacks_literals m [] up = tt
lacks_literals m (l ∷ clause) up =
    Lacks-append 10 (word (signed_decimal l)) (literal_words clause)
    (lacks_word (signed_decimal l) (lacks_signed 10 l (omega arith) up.1))
    (lacks_literals _ clause up.2)

lacks_numbers : (chain : List ℕ) → All (λ number. (0 < number) × (number < 2 ^ 64)) chain →
    Lacks 10 (number_words chain)
lacks_numbers [] all = tt
lacks_numbers (n ∷ chain) all =
    Lacks-append 10 (word (decimal n)) (number_words chain)
    (lacks_word (decimal n)
    (lacks_decimal 10 n (omega arith)
    (All-head (λ number. (0 < number) × (number < 2 ^ 64)) n chain all).1))
    (lacks_numbers chain (All-tail (λ number. (0 < number) × (number < 2 ^ 64)) n chain all))

lacks_step : (s : Step) → IsWritable s → Lacks 10 (step_line s)
lacks_step s w =
    Lacks-append 10 (literal_words s.clause)
    (word (codes "0") ++ (number_words s.chain ++ codes "0"))
    (lacks_literals 0 s.clause w.clause)
    (Lacks-append 10 (word (codes "0")) (number_words s.chain ++ codes "0")
    (lacks_from_test 10 (word (codes "0")) refl)
    (Lacks-append 10 (number_words s.chain) (codes "0") (lacks_numbers s.chain w.chain.numbers)
    (lacks_from_test 10 (codes "0") refl)))

lacks_log : (number steps : ℕ) → number < 2 ^ 64 → steps < 2 ^ 32 → Lacks 10 (log_line number steps)
lacks_log number steps small few =
    Lacks-append 10 (codes "o ") (word (decimal number) ++ decimal steps)
    (lacks_from_test 10 (codes "o ") refl)
    (Lacks-append 10 (word (decimal number)) (decimal steps)
    (lacks_word (decimal number) (lacks_decimal 10 number (omega arith) small))
    (lacks_decimal 10 steps (omega arith) (omega arith)))

all_append : (P : List ℕ → Type 0) (xs ys : List (List ℕ)) → AllByRecursion P xs →
    AllByRecursion P ys → AllByRecursion P (xs ++ ys)
all_append P [] ys h k = k
all_append P (x ∷ xs) ys h k = (h.0, all_append P xs ys h.1 k)

all_front : (P : List ℕ → Type 0) (xs ys : List (List ℕ)) → AllByRecursion P (xs ++ ys) →
    AllByRecursion P xs
all_front P [] ys h = tt
all_front P (x ∷ xs) ys h = (h.0, all_front P xs ys h.1)

all_back : (P : List ℕ → Type 0) (xs ys : List (List ℕ)) → AllByRecursion P (xs ++ ys) →
    AllByRecursion P ys
all_back P [] ys h = h
all_back P (x ∷ xs) ys h = all_back P xs ys h.1

lack_steps : (steps : List Step) → All IsWritable steps →
    AllByRecursion (Lacks 10) (map step_line steps)
lack_steps [] all = tt
lack_steps (s ∷ steps) all = (
  lacks_step s (All-head IsWritable s steps all),
  lack_steps steps
      (All-tail IsWritable s steps all),
)

lack_logs : (number : ℕ) (logs : List (List Step)) → number + length logs < 2 ^ 64 →
    All IsWritableLog logs → AllByRecursion (Lacks 10) (log_lines number logs)
lack_logs number [] small all = tt
lack_logs number (s ∷ logs) small all =
    let head = All-head IsWritableLog s logs all in (
      lacks_log number (length s) (omega arith) head.count,
      all_append (Lacks 10) (map step_line s) (log_lines (number + 1) logs) (lack_steps s head.each)
          (lack_logs (number + 1) logs (omega arith) (All-tail IsWritableLog s logs all)),
    )

-- the line that says how many logs there are
abbrev pub count_line : ℕ → List ℕ
count_line count = codes "obligations " ++ decimal count

pub lines_lack : (logs : List (List Step)) → AreLogs logs →
    AllByRecursion (Lacks 10) (proof_lines logs)
lines_lack logs are =
    let few = are.count in
    let counted : Lacks 10 (count_line (length logs)) =
    Lacks-append 10 (codes "obligations ") (decimal (length logs))
    (lacks_from_test 10 (codes "obligations ") refl)
    (lacks_decimal 10 (length logs) (omega arith) (omega arith)) in
    let last : AllByRecursion (Lacks 10) (codes "end" ∷ []) =
    (lacks_from_test 10 (codes "end") refl, tt) in (
      lacks_from_test 10 (codes "secv-proof 1") refl,
      (
        counted,
        all_append (Lacks 10) (log_lines 1 logs) (codes "end" ∷ [])
            (lack_logs 1 logs (omega arith) are.each) last,
      ),
    )

-- the lines of a text that begins with whole lines begin with those
pub same_lines : (lines whole : List (List ℕ)) (rest : List ℕ) → AllByRecursion (Lacks 10) lines
    → AllByRecursion (Lacks 10) whole → text_of lines ++ rest ≡ text_of whole
    → (more : List (List ℕ)) × (whole ≡ lines ++ more) × (rest ≡ text_of more)
same_lines [] whole rest lacks lacks' e = (whole, refl, e)
same_lines (l ∷ lines) [] rest lacks lacks' e =
    absurd (lacks_split 10 l (text_of lines ++ rest) [] tt (sym e
    ∙ ap (λ z. z ++ rest) (append_assoc l (10 ∷ []) (text_of lines))
    ∙ append_assoc l (10 ∷ text_of lines) rest))
same_lines (l ∷ lines) (w ∷ whole) rest lacks lacks' e =
    let left : ((l ++ 10 ∷ []) ++ text_of lines) ++ rest ≡ l ++ 10 ∷ (text_of lines ++ rest) =
    ap (λ z. z ++ rest) (append_assoc l (10 ∷ []) (text_of lines))
    ∙ append_assoc l (10 ∷ text_of lines) rest in
    let right : (w ++ 10 ∷ []) ++ text_of whole ≡ w ++ 10 ∷ text_of whole =
    append_assoc w (10 ∷ []) (text_of whole) in
    let parts = same_split 10 l w (text_of lines ++ rest) (text_of whole) lacks.0 lacks'.0 (sym left
    ∙ e ∙ right) in
    let (more, is, text) = same_lines lines whole rest lacks.1 lacks'.1 parts.1 in
    (more, ap (λ z. w ∷ z) is ∙ ap (λ z. z ∷ (lines ++ more)) (sym parts.0), text)

-- the lines are those of a certificate
abbrev pub AreCertificate : List (List ℕ) → Type 0
AreCertificate lines = (logs : List (List Step)) × AreLogs logs × (proof_lines logs ≡ lines)

-- in any certificate that begins with these lines, a line of a kind comes next
abbrev pub Expects : List (List ℕ) → (List ℕ → Type 0) → Type 0
Expects lines kind =
    (more : List (List ℕ)) → AreCertificate (lines ++ more) →
    (line : List ℕ) × (others : List (List ℕ)) × (more ≡ line ∷ others) × kind line

-- the lines begin a certificate, and neither a line nor the end can come next
first_broken : (bytes : List ℕ) (lines : List (List ℕ)) (rest : List ℕ) (n : ℕ) →
    bytes ≡ text_of lines ++ rest → n ≡ length lines + 1 → BeginCertificate lines →
    ((line more : List ℕ) → Lacks 10 line → rest ≡ line ++ 10 ∷ more →
    BeginCertificate (lines ++ line ∷ []) → ⊥) →
    ((more : List (List ℕ)) → AreCertificate (lines ++ more) → rest ≡ text_of more → ⊥) →
    IsFirstBroken bytes n
first_broken bytes lines rest n e place begins breaks whole =
    let (first, following, are, front) = begins in
    let lacks : AllByRecursion (Lacks 10) lines =
    all_front (Lacks 10) lines following
    (subst (AllByRecursion (Lacks 10)) front (lines_lack first are)) in
    record {
      lines = lines;
      rest = rest;
      parts = e;
      each = lacks;
      number = place;
      begins = begins;
      breaks = breaks;
      incomplete = λ logs are' f.
          let (more, is, text) =
          same_lines lines (proof_lines logs) rest lacks (lines_lack logs are') (sym e ∙ f) in
          whole more (logs, are', is) text;
    }

pub broken : (bytes : List ℕ) (lines : List (List ℕ)) (rest : List ℕ) (n : ℕ) (kind : List ℕ →
    Type 0) → bytes ≡ text_of lines ++ rest → n ≡ length lines + 1 → BeginCertificate lines →
    Expects lines kind → NextIsNo kind rest → IsFirstBroken bytes n
broken bytes lines rest n kind e place begins expects next =
    first_broken bytes lines rest n e place begins
    (λ line more l f (logs, others, are', g).
    let (wanted, later, is, k) =
    expects (line ∷ others) (logs, are', g ∙ append_assoc lines (line ∷ []) others) in
    let same : wanted ≡ line = cc in next line more l f (subst kind same k))
    (λ more (logs, are', is) text.
    let (line, later, more_is, k) = expects more (logs, are', is) in
    let line_lacks = (all_back (Lacks 10) lines (line ∷ later)
    (subst (AllByRecursion (Lacks 10)) (is ∙ ap (λ z. lines ++ z) more_is)
    (lines_lack logs are'))).0 in
    next line (text_of later) line_lacks (text ∙ ap text_of more_is
    ∙ append_assoc line (10 ∷ []) (text_of later)) k)

-- the whole certificate, and bytes behind it
pub broken_after : (bytes : List ℕ) (lines : List (List ℕ)) (rest : List ℕ) (n : ℕ) →
    bytes ≡ text_of lines ++ rest → n ≡ length lines + 1 → AreCertificate lines →
    ((more : List (List ℕ)) → AreCertificate (lines ++ more) → more ≡ []) → (rest ≡ [] → ⊥) →
    IsFirstBroken bytes n
broken_after bytes lines rest n e place (first, are, front) ends some =
    first_broken bytes lines rest n e place (first, [], are, front ∙ sym (append-nil lines))
    (λ line more l f (logs, others, are', g).
    let none = ends (line ∷ others) (logs, are', g ∙ append_assoc lines (line ∷ []) others) in
    (cc))
    (λ more are' text. some (text ∙ ap text_of (ends more are')))

-- the lines behind the first
abbrev pub behind : List (List ℕ) → List (List ℕ)
behind [] = []
behind (x ∷ xs) = xs

-- the logs that follow, numbered from a number on
abbrev pub FollowLogs : ℕ → ℕ → List (List ℕ) → Type 0
FollowLogs number count lines =
    (logs : List (List Step)) × (length logs ≡ count) × All IsWritableLog logs
    × (lines ≡ log_lines number logs ++ codes "end" ∷ [])

after_count : (count : ℕ) (lines : List (List ℕ)) → count < 2 ^ 32 →
    AreCertificate (codes "secv-proof 1" ∷ count_line count ∷ lines) → FollowLogs 1 count lines
after_count count lines few (logs, are, e) =
    let line : count_line (length logs) ≡ count_line count = ap (λ z. get_or (behind z) 0 []) e in
    let digits : decimal (length logs) ≡ decimal count =
    append_cancel_left (codes "obligations ") (decimal (length logs)) (decimal count) line in
    let many = are.count in (
      logs,
      decimal_injective (length logs) count (omega arith) (omega arith) digits,
      are.each,
      sym
          (ap (λ z. behind (behind z)) e),
    )

pub same_length_rest : {X : Type 0} (xs ys us vs : List X) → length xs ≡ length ys →
    xs ++ us ≡ ys ++ vs → us ≡ vs
same_length_rest [] [] us vs l e = e
same_length_rest [] (y ∷ ys) us vs l e = absurd (omega arith)
same_length_rest (x ∷ xs) [] us vs l e = absurd (omega arith)
same_length_rest (x ∷ xs) (y ∷ ys) us vs l e =
    let tail : xs ++ us ≡ ys ++ vs = cc in same_length_rest xs ys us vs (omega arith) tail

pub log_is_not_end : (number steps : ℕ) → log_line number steps ≡ codes "end" → ⊥
log_is_not_end number steps e =
    let first : ◌≡◌ {A = ℕ} 111 101 = ap (λ z. get_or z 0 0) e in absurd (omega arith)

pub same_count : (number m n : ℕ) → m < 2 ^ 32 → n < 2 ^ 32 →
    log_line number m ≡ log_line number n → m ≡ n
same_count number m n sm sn e =
    let words : word (decimal number) ++ decimal m ≡ word (decimal number) ++ decimal n =
    append_cancel_left (codes "o ") (word (decimal number) ++ decimal m)
    (word (decimal number) ++ decimal n) e in
    decimal_injective m n (omega arith) (omega arith)
    (append_cancel_left (word (decimal number)) (decimal m) (decimal n) words)

-- behind logs that were read, the others follow
after_logs : (done : List (List Step)) (number count : ℕ) (lines : List (List ℕ))
    → All IsWritableLog done → FollowLogs number count (log_lines number done ++ lines)
    → (left : ℕ) × (length done + left ≡ count) × FollowLogs (number + length done) left lines
after_logs [] number count lines all f =
    (count, omega arith, subst (λ n. FollowLogs n count lines) (omega arith) f)
after_logs (s ∷ done) number count lines all ([], l, each, e) =
    absurd (log_is_not_end number (length s) (ap (λ z. get_or z 0 []) e))
after_logs (s ∷ done) number count lines all (t ∷ logs, l, each, e) =
    let first = All-head IsWritableLog s done all in
    let other = All-head IsWritableLog t logs each in
    let count_is : length s ≡ length t =
    same_count number (length s) (length t) first.count other.count
    (ap (λ z. get_or z 0 []) e) in
    let tail : (map step_line s ++ log_lines (number + 1) done) ++ lines ≡
    (map step_line t ++ log_lines (number + 1) logs) ++ codes "end" ∷ [] = ap (λ z.
    behind z) e in
    let rest : log_lines (number + 1) done ++ lines ≡
    log_lines (number + 1) logs ++ codes "end" ∷ [] =
    same_length_rest (map step_line s) (map step_line t) (log_lines (number + 1) done ++ lines)
    (log_lines (number + 1) logs ++ codes "end" ∷ [])
    (length-map s step_line ∙ count_is ∙ sym (length-map t step_line))
    (sym (append_assoc (map step_line s) (log_lines (number + 1) done) lines) ∙ tail
    ∙ append_assoc (map step_line t) (log_lines (number + 1) logs) (codes "end" ∷ [])) in
    let (left, sum, f) =
    after_logs done (number + 1) (length logs) lines (All-tail IsWritableLog s done all)
    (logs, refl, All-tail IsWritableLog t logs each, rest) in
    (left, omega arith, subst (λ n. FollowLogs n left lines) (omega arith) f)

-- the lines up to some logs
abbrev pub up_to : ℕ → List (List Step) → List (List ℕ)
up_to count done = codes "secv-proof 1" ∷ count_line count ∷ log_lines 1 done

pub follow_done : (count : ℕ) (done : List (List Step)) (lines : List (List ℕ)) → count < 2 ^ 32
    → All IsWritableLog done → AreCertificate (up_to count done ++ lines)
    → (left : ℕ) × (length done + left ≡ count) × FollowLogs (length done + 1) left lines
follow_done count done lines few all c =
    let (left, sum, f) =
    after_logs done 1 count lines all (after_count count (log_lines 1 done ++ lines) few c) in
    (left, sum, subst (λ n. FollowLogs n left lines) (omega arith) f)

pub expects_log : (count : ℕ) (done : List (List Step)) → count < 2 ^ 32 → All IsWritableLog done →
    length done < count → Expects (up_to count done) (IsLogLine (length done + 1))
expects_log count done few all fewer more c = next (follow_done count done more few all c)
  where
    next : (left : ℕ) × (length done + left ≡ count) × FollowLogs (length done + 1) left more →
        (line : List ℕ) × (others : List (List ℕ)) × (more ≡ line ∷ others)
        × IsLogLine (length done + 1) line
    next (left, sum, ([], l, each, e)) = absurd (omega arith)
    next (left, sum, (t ∷ logs, l, each, e)) = (
      log_line (length done + 1)
          (length t),
      (map step_line t ++ log_lines (length done + 1 + 1) logs)
          ++ codes "end" ∷ [],
      e,
      (length t, (All-head IsWritableLog t logs each).count, refl),
    )

pub expects_end : (count : ℕ) (done : List (List Step)) → count < 2 ^ 32 → All IsWritableLog done →
    length done ≡ count → (more : List (List ℕ)) → AreCertificate (up_to count done ++ more) →
    more ≡ codes "end" ∷ []
expects_end count done few all whole more c = next (follow_done count done more few all c)
  where
    next : (left : ℕ) × (length done + left ≡ count) × FollowLogs (length done + 1) left more →
        more ≡ codes "end" ∷ []
    next (left, sum, ([], l, each, e)) = e
    next (left, sum, (t ∷ logs, l, each, e)) = absurd (omega arith)

-- more steps than were read: one of them comes next
next_step : (steps wanted : List Step) (us vs : List (List ℕ)) → length steps < length wanted →
    All IsWritable wanted → map step_line steps ++ us ≡ map step_line wanted ++ vs →
    (line : List ℕ) × (others : List (List ℕ)) × (us ≡ line ∷ others) × IsStepLine line
next_step steps [] us vs fewer all e = absurd (omega arith)
next_step [] (w ∷ wanted) us vs fewer all e =
    (step_line w, map step_line wanted ++ vs, e, (w, All-head IsWritable w wanted all, refl))
next_step (s ∷ steps) (w ∷ wanted) us vs fewer all e =
    let tail : map step_line steps ++ us ≡ map step_line wanted ++ vs = cc in
    next_step steps wanted us vs (omega arith) (All-tail IsWritable w wanted all) tail

-- the lines up to some steps of a log
abbrev pub up_to_steps : ℕ → List (List Step) → ℕ → List Step → List (List ℕ)
up_to_steps count done wanted steps =
    up_to count done ++ log_line (length done + 1) wanted ∷ map step_line steps

pub expects_step : (count : ℕ) (done : List (List Step)) (wanted : ℕ) (steps : List Step) →
    count < 2 ^ 32 → All IsWritableLog done → wanted < 2 ^ 32 → length steps < wanted →
    Expects (up_to_steps count done wanted steps) IsStepLine
expects_step count done wanted steps few all small fewer more c =
    next (follow_done count done
    (log_line (length done + 1) wanted ∷ map step_line steps ++ more) few all
    (subst AreCertificate
    (append_assoc (up_to count done) (log_line (length done + 1) wanted ∷ map step_line steps)
    more) c))
  where
    next : (left : ℕ) × (length done + left ≡ count)
        × FollowLogs (length done + 1) left
        (log_line (length done + 1) wanted ∷ map step_line steps ++ more) →
        (line : List ℕ) × (others : List (List ℕ)) × (more ≡ line ∷ others) × IsStepLine line
    next (left, sum, ([], l, each, e)) =
        absurd (log_is_not_end (length done + 1) wanted (ap (λ z. get_or z 0 []) e))
    next (left, sum, (t ∷ logs, l, each, e)) =
        let log = All-head IsWritableLog t logs each in
        let count_is : wanted ≡ length t =
        same_count (length done + 1) wanted (length t) small log.count
        (ap (λ z. get_or z 0 []) e) in
        let tail : map step_line steps ++ more ≡
        (map step_line t ++ log_lines (length done + 1 + 1) logs) ++ codes "end" ∷ [] = ap (λ z.
        behind z) e in
        next_step steps t more (log_lines (length done + 1 + 1) logs ++ codes "end" ∷ [])
        (omega arith) log.each (tail
        ∙ append_assoc (map step_line t) (log_lines (length done + 1 + 1) logs)
        (codes "end" ∷ []))
