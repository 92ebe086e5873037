-- What is reported of the bytes of a certificate.
use Rattle.std.proofs.Common.{◌≡◌, ℕ, ◌+◌, ◌≤◌, List, [], ◌∷◌, Bool, length, Some, None, refl, ap}
use Rattle.std.proofs.Common.{◌∙◌, arith, inl, inr}
use Rattle.std.specs.Prelude.{Result, Ok, Err, IfOk, vec_len, decimal}
use Rattle.std.specs.declared.alloc.AllocError.{AllocError}
use Rattle.std.specs.Global.{Vec}
use Rattle.sv_flat.specs.Design.{FlatDesign}
use Rattle.sv_io.specs.Cabinet.{IfAnswered}
use Rattle.sv_io.specs.Count.{Rose}
use Rattle.sv_io.specs.Exchange.{Exchange, Fetched, fetched, fetched_of, whole}
use Rattle.sv_io.specs.Traffic.{Files, Passed}
use Rattle.sv_io.specs.declared.faults.FetchFault.{FetchFault}
use Rattle.sv_io.specs.declared.faults.FetchFault.TheVariants.{Failed, Long}
use Rattle.sv_io.specs.declared.faults.FetchFault.TheVariants as faults
use Rattle.sv_paths.specs.Limits.{excess}
use Rattle.sv_obl.specs.Obligations.{obligations}
use Rattle.sv_judge.specs.Certified.{IsVerified, IsFaultLine, IsTooLargeToVerify}
use Rattle.sv_report.specs.Text.{accepted_text, fault_text}
use Rattle.sv_report.specs.declared.styles.Style.TheVariants.{Lines}
use Rattle.sv_cli.specs.declared.prepared.NoReport.{NoReport}
use Rattle.sv_cli.specs.declared.prepared.NoReport.TheVariants.{Unread, OutOfMemory}
use Rattle.sv_cli.specs.declared.prepared.Prepared.{Prepared}
use Rattle.sv_cli.specs.declared.prepared.Prepared.TheVariants.{Whole}
use Rattle.sv_cli.specs.declared.report.Report.{Report}
use Rattle.sv_cli.specs.Answer.{Answer, answer_of, done, wrong_proof}
use Rattle.sv_cli.specs.Limits.{TellsLimit, ExceedsLimit}
use Rattle.sv_cli.specs.Prepared.{Readies, Reports, Says, MayFetchOwn, VerifiesFetched}
use Rattle.sv_cli.specs.Runs.{KeepsCounts}
use Rattle.sv_cli.specs.Verifies.{largest_proof, Judges, accepts, refuses, too_large, Verifies}
use Rattle.sv_cli.specs.Verifies.{exceeds, oversized, judges}
use Rattle.sv_cli.proofs.OneFetch.{fetch_readied, long_readied, failed_unread, unfetched_spent}

-- ---- its bytes

module _ (design : FlatDesign) (bytes : List ℕ) where
  accepted_judged : (count told : ℕ) → IsVerified design bytes → told ≡ count
      → count ≡ length (obligations [] design) → (report : Report)
      → answer_of report.outcome ≡ Some done → report.text.items ≡ accepted_text told
      → Says (Judges design bytes) report
  accepted_judged count told verified same counted report answered prints = (
    done,
    answered,
    accepts (record {
      verified = verified;
      answers = refl;
      prints = prints ∙ ap accepted_text (same ∙ counted);
    }),
  )

  fault_judged : (line : ℕ) → IsFaultLine design bytes line → (report : Report)
      → answer_of report.outcome ≡ Some (wrong_proof line)
      → report.text.items ≡ fault_text line → Says (Judges design bytes) report
  fault_judged line faulty report answered prints = (
    wrong_proof line,
    answered,
    refuses (record { line = line; faulty = faulty; answers = refl; prints = prints }),
  )

  large_judged : (number : ℕ) → IsTooLargeToVerify design bytes number → (report : Report)
      → Says (TellsLimit Lines 709 (decimal number ∷ [])) report
      → Says (Judges design bytes) report
  large_judged number large report (answer, answered, tells) = (
    answer,
    answered,
    too_large (record { number = number; large = large; tells = tells }),
  )

  -- the same of what makes the report
  pub accepted_reports : (count told : ℕ) → IsVerified design bytes → told ≡ count
      → count ≡ length (obligations [] design) → (r : Result Report AllocError)
      → IfOk r (λ report. answer_of report.outcome ≡ Some done)
      → IfOk r (λ report. report.text.items ≡ accepted_text told)
      → IfOk r (Says (Judges design bytes))
  accepted_reports count told verified same counted (Ok report) answered prints =
      accepted_judged count told verified same counted report answered prints
  accepted_reports count told verified same counted (Err e) answered prints = tt

  pub fault_reports : (line : ℕ) → IsFaultLine design bytes line → (r : Result Report AllocError)
      → IfOk r (λ report. answer_of report.outcome ≡ Some (wrong_proof line))
      → IfOk r (λ report. report.text.items ≡ fault_text line)
      → IfOk r (Says (Judges design bytes))
  fault_reports line faulty (Ok report) answered prints =
      fault_judged line faulty report answered prints
  fault_reports line faulty (Err e) answered prints = tt

  pub large_reports : (number : ℕ) → IsTooLargeToVerify design bytes number
      → (r : Result Report AllocError)
      → IfOk r (Says (TellsLimit Lines 709 (decimal number ∷ [])))
      → IfOk r (Says (Judges design bytes))
  large_reports number large (Ok report) told = large_judged number large report told
  large_reports number large (Err e) told = tt

-- ---- its fetch

pub err_is : (f g : FetchFault) → f ≡ g → ◌≡◌ {A = Result (Vec ℕ) FetchFault} (Err f) (Err g)
err_is f g same = cc

-- the certificate may be fetched
pub may_fetch : (proof : List ℕ) (design : FlatDesign) → excess design ≡ None → (got : Fetched)
    → MayFetchOwn proof design (fetched proof got ∷ [])
may_fetch proof design few got = inr (few, got, refl)

module _ (proof : List ℕ) (design : FlatDesign) (few : excess design ≡ None) (tells : Bool)
    (old new : Files) where
  -- what is told of the bytes that were handed out
  pub judged_readied : (bytes : Vec ℕ)
      → Passed tells old new (fetched proof (whole bytes.items) ∷ [])
      → vec_len bytes ≤ largest_proof → KeepsCounts old new → (report : Report)
      → Says (Judges design bytes.items) report
      → (let r : Result Report NoReport = Ok report in
      Readies (MayFetchOwn proof design)
      (λ exchanges. Says (VerifiesFetched proof design exchanges)) tells old new r)
  judged_readied bytes passed within kept report (answer, answered, told) =
      let small : length bytes.items ≤ largest_proof = grind (arith, within) in
      fetch_readied (MayFetchOwn proof design)
      (λ exchanges. Says (VerifiesFetched proof design exchanges)) tells old new proof
      (may_fetch proof design few) (whole bytes.items) passed (λ none. none) kept report (
        answer,
        answered,
        inr (record { bytes = bytes.items; within = small; fetches = refl; judges = told }),
      )

  module _ (fault : FetchFault)
      (passed : (let r : Result (Vec ℕ) FetchFault = Err fault in
      Passed tells old new (fetched proof (fetched_of r) ∷ []))) where
    -- what is told where more bytes were handed out than may be
    pub oversized_readied : (bytes : Vec ℕ) → fault ≡ Long bytes
        → length bytes.items ≡ largest_proof + 1
        → (let r : Result (Vec ℕ) FetchFault = Err fault in IfAnswered r (KeepsCounts old new))
        → (report : Report)
        → Says (TellsLimit Lines 710 []) report
        → (let r : Result Report NoReport = Ok report in
        Readies (MayFetchOwn proof design)
        (λ exchanges. Says (VerifiesFetched proof design exchanges)) tells old new r)
    oversized_readied bytes is long kept report (answer, answered, told) =
        long_readied (MayFetchOwn proof design)
        (λ exchanges. Says (VerifiesFetched proof design exchanges)) tells old new proof
        (may_fetch proof design few) fault passed bytes is kept report (
          answer,
          answered,
          inl (record { bytes = bytes.items; long = long; fetches = refl; tells = told }),
        )

    module _ {T : Type 0} (Makes : List Exchange → T → Type 0) where
      -- what is not made where the fetch failed
      pub unread_readied : fault ≡ Failed
          → Rose (old.fetch_faults proof) (new.fetch_faults proof)
          → (let r : Result T NoReport = Err Unread in
          Readies (MayFetchOwn proof design) Makes tells old new r)
      unread_readied is rose =
          failed_unread (MayFetchOwn proof design) Makes tells old new proof
          (may_fetch proof design few) fault passed is rose

      -- or where memory ran out over it
      pub spent_fetching : fault ≡ faults.OutOfMemory
          → (let r : Result T NoReport = Err OutOfMemory in
          Readies (MayFetchOwn proof design) Makes tells old new r)
      spent_fetching is =
          unfetched_spent (MayFetchOwn proof design) Makes tells old new proof
          (may_fetch proof design few) fault passed is

-- ---- verdicts

module _ (proof : List ℕ) (design : FlatDesign) where
  pub excess_verified : (report : Report) → Says (ExceedsLimit Lines design) report
      → Says (Verifies proof design []) report
  excess_verified report (answer, answered, told) = (answer, answered, exceeds refl told)

  -- what is told of what was fetched is what is verified where no limit is exceeded
  pub fetched_verified : (tells : Bool) (old new : Files) (report : Report) → excess design ≡ None
      → (let r : Result Report NoReport = Ok report in
      Readies (MayFetchOwn proof design)
      (λ exchanges. Says (VerifiesFetched proof design exchanges)) tells old new r)
      → (let r : Result Prepared NoReport = Ok (Whole report) in
      Readies (MayFetchOwn proof design) (λ exchanges. Reports (Verifies proof design exchanges))
      tells old new r)
  fetched_verified tells old new report few readies = record {
    exchanges = readies.exchanges;
    passed = readies.passed;
    may = readies.may;
    made = (
      (readies.made.0.0, readies.made.0.1, by_kind readies.made.0.2),
      readies.made.1,
    );
    unfailed = readies.unfailed;
    fault = tt;
  }
    where
      by_kind : {exchanges : List Exchange} {answer : Answer} {printed : List ℕ}
          → VerifiesFetched proof design exchanges answer printed
          → Verifies proof design exchanges answer printed
      by_kind (inl told) = oversized few told
      by_kind (inr told) = judges few told
