-- What `verify` comes to for the bytes of a certificate is one; and it accepts a certificate that
-- `check` may store.
use Rattle.std.proofs.Common.{◌≡◌, ℕ, zero, suc, ◌+◌, ◌<◌, ◌≤◌, ◌⊎◌, inl, inr, List, [], ◌∷◌, ◌++◌}
use Rattle.std.proofs.Common.{length, take, Some, refl, sym, ap, ◌∙◌, subst, arith, ℤ}
use Rattle.std.specs.Prelude.{◌≢◌, slice_get, decimal, All}
use Rattle.std.specs.List.{AllZip, AllByRecursion}
use Rattle.std.proofs.lemmas.Bool.{cases_order}
use Rattle.std.proofs.lemmas.List.{append_assoc, append-nil, take_all}
use Rattle.std.proofs.lemmas.List.Elements.{All-head, All-tail}
use Rattle.std.proofs.lemmas.Slice.Zip.{AllZip-long}
use Rattle.sv_clause.specs.Logs.{IsDerived, AllDerived, Refutes, clauses_of}
use Rattle.sv_clause.specs.Logs.{Step as LogStep}
use Rattle.sv_flat.specs.Design.{FlatDesign}
use Rattle.sv_gates.specs.Formulas.{most_variables}
use Rattle.sv_obl.specs.Obligations.{Obligation, obligations}
use Rattle.sv_encoding.specs.Deciding.{Fits, IsTooLarge, IsRefutedBy}
use Rattle.sv_encoding.specs.Encoding.{encoding}
use Rattle.sv_proof.specs.Certificate.{text_of}
use Rattle.sv_proof.specs.Checking.{IsFirstUnderived, HasFault}
use Rattle.sv_proof.specs.FaultLines.{fault_line}
use Rattle.sv_proof.specs.Lines.{Lacks, IsFirstBroken}
use Rattle.sv_proof.specs.declared.check.LogFault.{LogFault}
use Rattle.sv_proof.specs.declared.check.LogFault.TheVariants.{Step, NotEmpty, OutOfMemory}
use Rattle.sv_proof.proofs.Again.{same_text}
use Rattle.sv_proof.proofs.Splitting.{same_split}
use Rattle.sv_judge.specs.Certified.{IsShown, AreCertified, IsVerified, HasWrongCount}
use Rattle.sv_judge.specs.Certified.{EarlierAreShown, FailsFirst, IsFaultLine, text, count, log}
use Rattle.sv_judge.specs.Certified.{IsTooLargeToVerify}
use Rattle.sv_report.specs.Styles.{limit_in}
use Rattle.sv_report.specs.Text.{fault_text}
use Rattle.sv_report.specs.declared.styles.Style.{Style}
use Rattle.sv_report.specs.declared.styles.Style.TheVariants.{Lines}
use Rattle.sv_cli.specs.Answer.{Answer, done, limit_exceeded, wrong_proof}
use Rattle.sv_cli.specs.Checks.{IsCertificate}
use Rattle.sv_cli.specs.Limits.{TellsLimit}
use Rattle.sv_cli.specs.Verifies.{Judges, accepts, refuses, too_large}
use Rattle.sv_cli.proofs.OneRule.{some_is}

in_order : (n m : ℕ) → (n < m → ⊥) → (m < n → ⊥) → n ≡ m
in_order n m a b =
    elim (cases_order n m) [
      | inl e ↦ e
      | inr d ↦
          elim d [ inl l ↦ absurd (a l) | inr l ↦ absurd (b l) ]
    ]

-- ---- the first line that breaks the text

-- lines that are read of bytes go on behind others that are read of them, and are fewer
record GoOn (xs ys : List (List ℕ)) (r s : List ℕ) : Type 0 where
  line : List ℕ
  more : List (List ℕ)
  lines : ys ≡ xs ++ line ∷ more
  lacks : Lacks 10 line
  rest : r ≡ line ++ 10 ∷ (text_of more ++ s)

front : (x : List ℕ) (xs : List (List ℕ)) (r : List ℕ) →
    text_of (x ∷ xs) ++ r ≡ x ++ 10 ∷ (text_of xs ++ r)
front x xs r =
    ap (λ z. z ++ r) (append_assoc x (10 ∷ []) (text_of xs)) ∙ append_assoc x (10 ∷ text_of xs) r

go_on : (xs ys : List (List ℕ)) (r s : List ℕ) → AllByRecursion (Lacks 10) xs
    → AllByRecursion (Lacks 10) ys → text_of xs ++ r ≡ text_of ys ++ s → length xs < length ys
    → GoOn xs ys r s
go_on [] [] r s all all' e less = absurd (omega arith)
go_on [] (y ∷ ys) r s all all' e less =
    record { line = y; more = ys; lines = refl; lacks = all'.0; rest = e ∙ front y ys s }
go_on (x ∷ xs) [] r s all all' e less = absurd (omega arith)
go_on (x ∷ xs) (y ∷ ys) r s all all' e less =
    let parts = same_split 10 x y (text_of xs ++ r) (text_of ys ++ s) all.0 all'.0
    (sym (front x xs r) ∙ e ∙ front y ys s) in
    let on = go_on xs ys r s all.1 all'.1 parts.1 (omega arith) in
    record {
      line = on.line;
      more = on.more;
      lines =
          ap (λ zs. y ∷ zs) on.lines
          ∙ ap (λ z. z ∷ (xs ++ on.line ∷ on.more)) (sym parts.0);
      lacks = on.lacks;
      rest = on.rest;
    }

module _ (bytes : List ℕ) (n m : ℕ) where
  not_later : IsFirstBroken bytes n → IsFirstBroken bytes m → n < m → ⊥
  not_later a b less =
      let number = a.number in
      let number' = b.number in
      let on = go_on a.lines b.lines a.rest b.rest a.each b.each (sym a.parts ∙ b.parts)
      (omega arith) in
      let (logs, more, are, is) = b.begins in
      a.breaks on.line (text_of on.more ++ b.rest) on.lacks on.rest (
        logs,
        on.more ++ more,
        are,
        is
            ∙ ap (λ z. z ++ more) on.lines ∙ append_assoc a.lines (on.line ∷ on.more) more
            ∙ sym (append_assoc a.lines (on.line ∷ []) (on.more ++ more)),
      )

one_broken : (bytes : List ℕ) (n m : ℕ) → IsFirstBroken bytes n → IsFirstBroken bytes m → n ≡ m
one_broken bytes n m a b = in_order n m (not_later bytes n m a b) (not_later bytes m n b a)

-- ---- the fault of a log

-- of the first so many steps, where they are derived, each is
derived_before : (clauses : List (List ℤ)) (n : ℕ) (steps : List LogStep) (i : ℕ) (step : LogStep)
    → AllDerived clauses (take n steps) → i < n → slice_get steps i ≡ Some step
    → IsDerived (clauses ++ clauses_of (take i steps)) step
derived_before clauses zero steps i step derived less at = absurd (omega arith)
derived_before clauses (suc n) [] i step derived less at = absurd cc
derived_before clauses (suc n) (s ∷ steps) zero step derived less at =
    let same : s ≡ step = cc in
    subst (λ (z : List (List ℤ)). IsDerived z step) (sym (append-nil clauses))
    (subst (λ (t : LogStep). IsDerived clauses t) same derived.0)
derived_before clauses (suc n) (s ∷ steps) (suc i) step derived less at =
    subst (λ (z : List (List ℤ)). IsDerived z step)
    (append_assoc clauses (s.clause ∷ []) (clauses_of (take i steps)))
    (derived_before (clauses ++ s.clause ∷ []) n steps i step derived.1 (omega arith) at)

some_at : {X : Type 0} (xs : List X) (i : ℕ) → i < length xs
    → (x : X) × (slice_get xs i ≡ Some x)
some_at [] i inside = absurd (omega arith)
some_at (x ∷ xs) zero inside = (x, refl)
some_at (x ∷ xs) (suc i) inside = some_at xs i (omega arith)

module _ (clauses : List (List ℤ)) (steps : List LogStep) where
  not_before : (i n : ℕ) → IsFirstUnderived clauses steps i → AllDerived clauses (take n steps)
      → i < n → ⊥
  not_before i n first derived less =
      let at = some_at steps i first.inside in
      first.underived at.0 at.1 (derived_before clauses n steps i at.0 derived less at.1)

  not_all : (i : ℕ) → IsFirstUnderived clauses steps i → AllDerived clauses steps → ⊥
  not_all i first derived =
      not_before i (length steps) first
      (subst (AllDerived clauses) (sym (take_all (length steps) steps (omega arith))) derived)
      first.inside

  refutes_or_fails : (fault : LogFault) → fault ≢ OutOfMemory → HasFault clauses steps fault
      → Refutes clauses steps → ⊥
  refutes_or_fails (Step i) told has refutes = not_all i has refutes.derived
  refutes_or_fails NotEmpty told has refutes = has.1 refutes.ends_empty
  refutes_or_fails OutOfMemory told has refutes = told refl

  one_fault : (fault other : LogFault) → fault ≢ OutOfMemory → other ≢ OutOfMemory
      → HasFault clauses steps fault → HasFault clauses steps other → fault ≡ other
  one_fault (Step i) (Step j) told told' a b =
      ap Step (in_order i j (not_before i j a b.before) (not_before j i b a.before))
  one_fault (Step i) NotEmpty told told' a b = absurd (not_all i a b.0)
  one_fault (Step i) OutOfMemory told told' a b = absurd (told' refl)
  one_fault NotEmpty (Step j) told told' a b = absurd (not_all j b a.0)
  one_fault NotEmpty NotEmpty told told' a b = refl
  one_fault NotEmpty OutOfMemory told told' a b = absurd (told' refl)
  one_fault OutOfMemory other told told' a b = absurd (told refl)

-- ---- two lists side by side

module _ {A B : Type 0} (R : A → B → Type 0) where
  zip_at : (n : ℕ) (xs : List A) (ys : List B) (k : ℕ) (x : A) → AllZip R (take n xs) (take n ys)
      → k < n → slice_get xs k ≡ Some x → (y : B) × (slice_get ys k ≡ Some y) × R x y
  zip_at zero xs ys k x all less at = absurd (omega arith)
  zip_at (suc n) [] ys k x all less at = absurd cc
  zip_at (suc n) (a ∷ xs) [] k x all less at = absurd all
  zip_at (suc n) (a ∷ xs) (b ∷ ys) zero x all less at =
      let same : a ≡ x = cc in (b, refl, subst (λ z. R z b) same all.0)
  zip_at (suc n) (a ∷ xs) (b ∷ ys) (suc k) x all less at =
      zip_at n xs ys k x all.1 (omega arith) at

  zip_front : (n : ℕ) (xs : List A) (ys : List B) → AllZip R xs ys
      → AllZip R (take n xs) (take n ys)
  zip_front zero xs ys all = tt
  zip_front (suc n) [] [] all = tt
  zip_front (suc n) [] (y ∷ ys) all = absurd all
  zip_front (suc n) (x ∷ xs) [] all = absurd all
  zip_front (suc n) (x ∷ xs) (y ∷ ys) all = (all.0, zip_front n xs ys all.1)

-- ---- answers

-- the same answer, with the same text
abbrev pub IsSame : (answer other : Answer) (printed others : List ℕ) → Type 0
IsSame answer other printed others = (other ≡ answer) × (others ≡ printed)

module _ (style : Style) where
  told : (n m : ℕ) (ns ms : List (List ℕ)) → n ≡ m → ns ≡ ms
      → (limit_exceeded m ms ≡ limit_exceeded n ns) × (limit_in style m ms ≡ limit_in style n ns)
  told n m ns ms numbers names =
      (cc, ap (λ k. limit_in style k ms) (sym numbers) ∙ ap (limit_in style n) (sym names))

  pub one_limit : (n m : ℕ) (ns ms : List (List ℕ)) (answer other : Answer)
      (printed others : List ℕ) → n ≡ m → ns ≡ ms → TellsLimit style n ns answer printed
      → TellsLimit style m ms other others → IsSame answer other printed others
  one_limit n m ns ms answer other printed others numbers names a b =
      let same = told n m ns ms numbers names in
      (b.answers ∙ same.0 ∙ sym a.answers, b.prints ∙ same.1 ∙ sym a.prints)

fits_or_not : (n m : ℕ) → n ≤ m → m < n → ⊥
fits_or_not n m fits large = omega arith

pub not_large : (design : FlatDesign) (o : Obligation) → Fits design o → IsTooLarge design o → ⊥
not_large design o fits large =
    fits_or_not (encoding design o).variables most_variables fits large

module _ (design : FlatDesign) (bytes : List ℕ) where
  same_logs : (logs others : List (List LogStep)) → AreCertified design bytes logs
      → AreCertified design bytes others → logs ≡ others
  same_logs logs others a b = same_text logs others a.are_logs b.are_logs (sym a.text ∙ b.text)

  -- ---- where the check of logs stops

  -- the log at this place refutes the encoding of its obligation, which fits
  abbrev IsShownAt : List (List LogStep) → (place : ℕ) → Type 0
  IsShownAt logs place =
      (o : Obligation) → slice_get (obligations [] design) place ≡ Some o
      → (steps : List LogStep) × (slice_get logs place ≡ Some steps) × IsShown design o steps

  -- at this place it does not, and each before does
  record StopsAt (logs : List (List LogStep)) (place : ℕ) : Type 0 where
    certified : AreCertified design bytes logs
    earlier : EarlierAreShown design place logs
    unshown : IsShownAt logs place → ⊥

  one_place : (logs others : List (List LogStep)) (n m : ℕ) → StopsAt logs n → StopsAt others m
      → n ≡ m
  one_place logs others n m a b =
      let same = same_logs logs others a.certified b.certified in
      in_order n m
      (λ less. a.unshown (subst (λ z. IsShownAt z n) (sym same)
      (λ o at. zip_at (IsShown design) m (obligations [] design) others n o b.earlier less at)))
      (λ less. b.unshown (subst (λ z. IsShownAt z m) same
      (λ o at. zip_at (IsShown design) n (obligations [] design) logs m o a.earlier less at)))

  never : IsVerified design bytes → (logs : List (List LogStep)) (place : ℕ) → StopsAt logs place
      → ⊥
  never verified logs place stops =
      let same = same_logs verified.logs logs verified.certified stops.certified in
      stops.unshown (subst (λ z. IsShownAt z place) same
      (λ o at. zip_at (IsShown design) (suc place) (obligations [] design) verified.logs place o
      (zip_front (IsShown design) (suc place) (obligations [] design) verified.logs verified.each)
      (omega arith) at))

  fails_there : (line : ℕ) (f : FailsFirst design bytes line) → StopsAt f.logs f.before
  fails_there line f = record {
    certified = f.certified;
    earlier = f.earlier;
    unshown = λ shown.
        let s = shown f.obligation f.among in
        let same = some_is s.0 f.steps (sym s.1 ∙ f.log) in
        refutes_or_fails (encoding design f.obligation).clauses f.steps f.fault f.told f.fails
        (subst (λ (z : List LogStep). IsRefutedBy design f.obligation z) same s.2.1);
  }

  large_there : (number : ℕ) (l : IsTooLargeToVerify design bytes number)
      → StopsAt l.logs l.before
  large_there number l = record {
    certified = l.certified;
    earlier = l.earlier;
    unshown = λ shown.
        let s = shown l.obligation l.numbered.among in
        not_large design l.obligation s.2.0 l.large;
  }

  -- ---- two faults

  one_failure : (n m : ℕ) → FailsFirst design bytes n → FailsFirst design bytes m → n ≡ m
  one_failure n m f g =
      let logs = same_logs f.logs g.logs f.certified g.certified in
      let place = one_place f.logs g.logs f.before g.before (fails_there n f) (fails_there m g) in
      let o = some_is f.obligation g.obligation
      (sym f.among ∙ ap (slice_get (obligations [] design)) place ∙ g.among) in
      let steps = some_is f.steps g.steps
      (sym f.log ∙ ap (λ ls. slice_get ls f.before) logs ∙ ap (slice_get g.logs) place ∙ g.log) in
      let fails : HasFault (encoding design g.obligation).clauses g.steps f.fault =
      subst (λ (z : List LogStep). HasFault (encoding design g.obligation).clauses z f.fault) steps
      (subst (λ (z : Obligation). HasFault (encoding design z).clauses f.steps f.fault) o
      f.fails) in
      let fault = one_fault (encoding design g.obligation).clauses g.steps f.fault g.fault f.told
      g.told fails g.fails in
      f.lined
      ∙ ap (λ ls. fault_line ls f.before f.fault) logs
      ∙ ap (λ k. fault_line g.logs k f.fault) place
      ∙ ap (fault_line g.logs g.before) fault
      ∙ sym g.lined

  not_both : (line number : ℕ) → FailsFirst design bytes line
      → IsTooLargeToVerify design bytes number → ⊥
  not_both line number f l =
      let place = one_place f.logs l.logs f.before l.before (fails_there line f)
      (large_there number l) in
      let o = some_is f.obligation l.obligation
      (sym f.among ∙ ap (slice_get (obligations [] design)) place ∙ l.numbered.among) in
      not_large design l.obligation (subst (λ (z : Obligation). Fits design z) o f.fits) l.large

  -- a line at fault, by its kinds
  abbrev FaultKind : (line : ℕ) → Type 0
  FaultKind line =
      IsFirstBroken bytes line ⊎ (((line ≡ 2) × HasWrongCount design bytes)
      ⊎ FailsFirst design bytes line)

  kind_of : {line : ℕ} → IsFaultLine design bytes line → FaultKind line
  kind_of (text line broken) = inl broken
  kind_of (count wrong) = inr (inl (refl, wrong))
  kind_of (log line fails) = inr (inr fails)

  -- bytes of logs, one for each obligation, break no line and have no other count
  certified_only : (logs : List (List LogStep)) → AreCertified design bytes logs → (line : ℕ)
      → FaultKind line → FailsFirst design bytes line
  certified_only logs certified line (inl broken) =
      absurd (broken.incomplete logs certified.are_logs certified.text)
  certified_only logs certified line (inr (inl (two, wrong))) =
      let same = same_text wrong.logs logs wrong.are_logs certified.are_logs
      (sym wrong.text ∙ certified.text) in
      absurd (wrong.other (ap length same ∙ certified.count))
  certified_only logs certified line (inr (inr fails)) = fails

  one_kind : (n m : ℕ) → FaultKind n → FaultKind m → n ≡ m
  one_kind n m (inl a) (inl b) = one_broken bytes n m a b
  one_kind n m (inl a) (inr (inl b)) = absurd (a.incomplete b.1.logs b.1.are_logs b.1.text)
  one_kind n m (inl a) (inr (inr b)) =
      one_failure n m (certified_only b.logs b.certified n (inl a)) b
  one_kind n m (inr (inl a)) (inl b) = absurd (b.incomplete a.1.logs a.1.are_logs a.1.text)
  one_kind n m (inr (inl a)) (inr (inl b)) = a.0 ∙ sym b.0
  one_kind n m (inr (inl a)) (inr (inr b)) =
      one_failure n m (certified_only b.logs b.certified n (inr (inl a))) b
  one_kind n m (inr (inr a)) b = one_failure n m a (certified_only a.logs a.certified m b)

  -- ---- two judgements

  faultless : IsVerified design bytes → (line : ℕ) → IsFaultLine design bytes line → ⊥
  faultless verified line faulty =
      let f = certified_only verified.logs verified.certified line (kind_of faulty) in
      never verified f.logs f.before (fails_there line f)

  small_enough : IsVerified design bytes → (number : ℕ) → IsTooLargeToVerify design bytes number → ⊥
  small_enough verified number l = never verified l.logs l.before (large_there number l)

  fault_or_large : (line number : ℕ) → IsFaultLine design bytes line
      → IsTooLargeToVerify design bytes number → ⊥
  fault_or_large line number faulty l =
      not_both line number (certified_only l.logs l.certified line (kind_of faulty)) l

  one_number : (n m : ℕ) → IsTooLargeToVerify design bytes n → IsTooLargeToVerify design bytes m
      → n ≡ m
  one_number n m a b =
      let place = one_place a.logs b.logs a.before b.before (large_there n a) (large_there m b) in
      a.numbered.counted ∙ ap (λ k. k + 1) place ∙ sym b.numbered.counted

  pub one_judgement : (answer other : Answer) (printed others : List ℕ)
      → Judges design bytes answer printed → Judges design bytes other others
      → IsSame answer other printed others
  one_judgement answer other printed others (accepts a) (accepts b) =
      (b.answers ∙ sym a.answers, b.prints ∙ sym a.prints)
  one_judgement answer other printed others (accepts a) (refuses b) =
      absurd (faultless a.verified b.line b.faulty)
  one_judgement answer other printed others (accepts a) (too_large b) =
      absurd (small_enough a.verified b.number b.large)
  one_judgement answer other printed others (refuses a) (accepts b) =
      absurd (faultless b.verified a.line a.faulty)
  one_judgement answer other printed others (refuses a) (refuses b) =
      let line = one_kind b.line a.line (kind_of b.faulty) (kind_of a.faulty) in (
        b.answers ∙ ap wrong_proof line ∙ sym a.answers,
        b.prints ∙ ap fault_text line ∙ sym a.prints,
      )
  one_judgement answer other printed others (refuses a) (too_large b) =
      absurd (fault_or_large a.line b.number a.faulty b.large)
  one_judgement answer other printed others (too_large a) (accepts b) =
      absurd (small_enough b.verified a.number a.large)
  one_judgement answer other printed others (too_large a) (refuses b) =
      absurd (fault_or_large b.line a.number b.faulty a.large)
  one_judgement answer other printed others (too_large a) (too_large b) =
      one_limit Lines 709 709 (decimal a.number ∷ []) (decimal b.number ∷ []) answer other printed
      others refl (ap (λ n. decimal n ∷ []) (one_number a.number b.number a.large b.large)) a.tells
      b.tells

  -- ---- a certificate that is stored

  shown_all : (os : List Obligation) (logs : List (List LogStep)) → All (Fits design) os
      → AllZip (IsRefutedBy design) os logs → AllZip (IsShown design) os logs
  shown_all [] [] fit refute = tt
  shown_all [] (steps ∷ logs) fit refute = absurd refute
  shown_all (o ∷ os) [] fit refute = absurd refute
  shown_all (o ∷ os) (steps ∷ logs) fit refute = (
    (All-head (Fits design) o os fit, refute.0),
    shown_all os logs (All-tail (Fits design) o os fit) refute.1,
  )

  certificate_verified : (budget : ℕ) → IsCertificate design budget bytes
      → IsVerified design bytes
  certificate_verified budget certificate = record {
    logs = certificate.logs;
    certified = record {
      are_logs = certificate.are_logs;
      text = certificate.text;
      count =
          AllZip-long (IsRefutedBy design) (obligations [] design) certificate.logs
          certificate.refute;
    };
    each =
        shown_all (obligations [] design) certificate.logs certificate.fit certificate.refute;
  }

  pub stored_accepted : (budget : ℕ) → IsCertificate design budget bytes
      → (answer : Answer) (printed : List ℕ) → Judges design bytes answer printed → answer ≡ done
  stored_accepted budget certificate answer printed judges =
      (one_judgement done answer _ printed (accepts (record {
        verified = certificate_verified budget certificate;
        answers = refl;
        prints = refl;
      })) judges).0
