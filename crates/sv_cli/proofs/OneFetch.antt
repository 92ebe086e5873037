-- What is made ready by one fetch of a file, and behind one.
use Rattle.std.proofs.Common.{◌≡◌, ℕ, ◌≤◌, Bool, List, [], ◌∷◌, refl, subst}
use Rattle.std.specs.Prelude.{Result, Ok, Err, IfOk, IfErr, IsErrAnd, All}
use Rattle.std.specs.Global.{Vec}
use Rattle.std.proofs.lemmas.List.Elements.{All-nil, All-cons}
use Rattle.sv_io.specs.Cabinet.{IfAnswered}
use Rattle.sv_io.specs.Count.{Rose}
use Rattle.sv_io.specs.Exchange.{Exchange, Fetched, fetched, fetched_of, too_long, nothing}
use Rattle.sv_io.specs.Traffic.{Files, Passed, IsFailed}
use Rattle.sv_io.specs.declared.faults.FetchFault.{FetchFault}
use Rattle.sv_io.specs.declared.faults.FetchFault.TheVariants.{Failed, Long}
use Rattle.sv_io.specs.declared.faults.FetchFault.TheVariants as faults
use Rattle.sv_cli.specs.declared.prepared.NoReport.{NoReport}
use Rattle.sv_cli.specs.declared.prepared.NoReport.TheVariants.{Unread, OutOfMemory}
use Rattle.sv_cli.specs.declared.prepared.Prepared.{Prepared}
use Rattle.sv_cli.specs.declared.prepared.Prepared.TheVariants.{Whole}
use Rattle.sv_cli.specs.declared.report.Report.{Report}
use Rattle.sv_cli.specs.Answer.{Answer}
use Rattle.sv_cli.specs.Prepared.{Explains, Readies, Reports, Says}
use Rattle.sv_cli.specs.Runs.{KeepsCounts}
use Rattle.sv_cli.proofs.Passing.{passed_as, passed_after, explained_after, counts_after}
use Rattle.sv_cli.proofs.Passing.{spent_readied}

-- no exchange failed
abbrev NoneFailed : List Exchange → Type 0
NoneFailed exchanges = All (λ (e : Exchange). IsFailed e → ⊥) exchanges

-- ---- by one fetch

module _ {T : Type 0} (May : List Exchange → Type 0) (Makes : List Exchange → T → Type 0)
    (tells : Bool) (old new : Files) (name : List ℕ)
    (may : (got : Fetched) → May (fetched name got ∷ [])) where
  -- what is made of what it handed out
  pub fetch_readied : (got : Fetched) → Passed tells old new (fetched name got ∷ [])
      → (IsFailed (fetched name got) → ⊥) → KeepsCounts old new → (made : T)
      → Makes (fetched name got ∷ []) made
      → (let r : Result T NoReport = Ok made in Readies May Makes tells old new r)
  fetch_readied got passed handed kept made makes = record {
    exchanges = fetched name got ∷ [];
    passed = passed;
    may = may got;
    made = (
      makes,
      All-cons (λ (e : Exchange). IsFailed e → ⊥) (fetched name got) [] handed
          (All-nil (λ (e : Exchange). IsFailed e → ⊥)),
    );
    unfailed = kept;
    fault = tt;
  }

  -- memory ran out over it
  pub fetch_spent : (got : Fetched) → Passed tells old new (fetched name got ∷ [])
      → (r : Result T NoReport) → IsErrAnd r (λ (f : NoReport). f ≡ OutOfMemory)
      → Readies May Makes tells old new r
  fetch_spent got passed r spent =
      spent_readied May Makes tells old new (fetched name got ∷ []) r passed (may got) spent

  -- the fetch ended in a fault
  module _ (fault : FetchFault)
      (passed : (let r : Result (Vec ℕ) FetchFault = Err fault in
      Passed tells old new (fetched name (fetched_of r) ∷ []))) where
    -- it handed out more bytes than it may
    pub long_readied : (bytes : Vec ℕ) → fault ≡ Long bytes
        → (let r : Result (Vec ℕ) FetchFault = Err fault in IfAnswered r (KeepsCounts old new))
        → (made : T) → Makes (fetched name (too_long bytes.items) ∷ []) made
        → (let r : Result T NoReport = Ok made in Readies May Makes tells old new r)
    long_readied bytes is kept made makes =
        fetch_readied (too_long bytes.items)
        (passed_as tells old new name fault (Long bytes) is passed) (λ none. none)
        (subst (λ (f : FetchFault).
        let r : Result (Vec ℕ) FetchFault = Err f in IfAnswered r (KeepsCounts old new)) is kept)
        made makes

    pub long_spent : (bytes : Vec ℕ) → fault ≡ Long bytes → (r : Result T NoReport)
        → IsErrAnd r (λ (f : NoReport). f ≡ OutOfMemory) → Readies May Makes tells old new r
    long_spent bytes is r spent =
        fetch_spent (too_long bytes.items)
        (passed_as tells old new name fault (Long bytes) is passed) r spent

    -- it failed
    pub failed_unread : fault ≡ Failed → Rose (old.fetch_faults name) (new.fetch_faults name)
        → (let r : Result T NoReport = Err Unread in Readies May Makes tells old new r)
    failed_unread is rose = record {
      exchanges = fetched name nothing ∷ [];
      passed = passed_as tells old new name fault Failed is passed;
      may = may nothing;
      made = tt;
      unfailed = tt;
      fault = record { before = []; name = name; last = refl; rose = rose };
    }

    -- it had no memory
    pub unfetched_spent : fault ≡ faults.OutOfMemory
        → (let r : Result T NoReport = Err OutOfMemory in Readies May Makes tells old new r)
    unfetched_spent is = record {
      exchanges = fetched name nothing ∷ [];
      passed = passed_as tells old new name fault faults.OutOfMemory is passed;
      may = may nothing;
      made = tt;
      unfailed = tt;
      fault = tt;
    }

-- ---- behind a fetch

module _ {T : Type 0} (May Also : List Exchange → Type 0)
    (Makes Builds : List Exchange → T → Type 0) (tells : Bool) (old mid new : Files)
    (name : List ℕ) (got : Fetched) (first : Passed tells old mid (fetched name got ∷ []))
    (handed : IsFailed (fetched name got) → ⊥) (kept : KeepsCounts old mid)
    (fetches : (n : List ℕ) → old.fetch_faults n ≤ mid.fetch_faults n)
    (stores : (n : List ℕ) → old.store_faults n ≤ mid.store_faults n)
    (may_too : (rest : List Exchange) → May rest → Also (fetched name got ∷ rest))
    (builds : (rest : List Exchange) (made : T) → Makes rest made
    → Builds (fetched name got ∷ rest) made) where
  made_after : (r : Result T NoReport) (rest : List Exchange)
      → IfOk r (λ made. Makes rest made × NoneFailed rest)
      → IfOk r (λ made. Builds (fetched name got ∷ rest) made
      × NoneFailed (fetched name got ∷ rest))
  made_after (Ok made) rest is = (
    builds rest made is.0,
    All-cons (λ (e : Exchange). IsFailed e → ⊥) (fetched name got) rest handed is.1,
  )
  made_after (Err fault) rest is = tt

  kept_after : (r : Result T NoReport) → IfOk r (λ _. KeepsCounts mid new)
      → IfOk r (λ _. KeepsCounts old new)
  kept_after (Ok made) second = counts_after old mid new kept second
  kept_after (Err fault) second = tt

  fault_after : (r : Result T NoReport) (rest : List Exchange)
      → IfErr r (Explains mid new rest) → IfErr r (Explains old new (fetched name got ∷ rest))
  fault_after (Ok made) rest is = tt
  fault_after (Err fault) rest is =
      explained_after old mid new (fetched name got) rest fetches stores fault is

  -- what is made ready behind it is made ready with it
  pub readied_after : (r : Result T NoReport) → Readies May Makes tells mid new r
      → Readies Also Builds tells old new r
  readied_after r is = record {
    exchanges = fetched name got ∷ is.exchanges;
    passed = passed_after tells old mid new name got is.exchanges first is.passed;
    may = may_too is.exchanges is.may;
    made = made_after r is.exchanges is.made;
    unfailed = kept_after r is.unfailed;
    fault = fault_after r is.exchanges is.fault;
  }

-- ---- a report is all that is to be done

module _ (May Also : List Exchange → Type 0) (Told Other : List Exchange → Answer →
    (printed : List ℕ) → Type 0) (tells : Bool) (old new : Files)
    (may_too : (exchanges : List Exchange) → May exchanges → Also exchanges)
    (over : (exchanges : List Exchange) (report : Report) → Says (Told exchanges) report
    → Says (Other exchanges) report) where
  pub whole_readied : (report : Report)
      → (let r : Result Report NoReport = Ok report in
      Readies May (λ exchanges. Says (Told exchanges)) tells old new r)
      → (let r : Result Prepared NoReport = Ok (Whole report) in
      Readies Also (λ exchanges. Reports (Other exchanges)) tells old new r)
  whole_readied report is = record {
    exchanges = is.exchanges;
    passed = is.passed;
    may = may_too is.exchanges is.may;
    made = (over is.exchanges report is.made.0, is.made.1);
    unfailed = is.unfailed;
    fault = tt;
  }
