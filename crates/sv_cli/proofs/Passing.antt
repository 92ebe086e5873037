-- What passes between the program and the files in no exchange, in one, and behind a fetch; and
-- what is readied where nothing is made.
use Rattle.std.proofs.Common.{◌≡◌, ℕ, ◌+◌, ◌<◌, ◌≤◌, Bool, true, false, List, [], ◌∷◌, ◌++◌}
use Rattle.std.proofs.Common.{length, take, Option, Some, refl, sym, ap, ◌∙◌, subst, arith}
use Rattle.std.proofs.Common.{inl, inr, append-nil, append_assoc}
use Rattle.std.specs.Prelude.{Result, Ok, Err, IfOk, OnOk, OnErr, IsErrAnd, IsTrue, All, ◌≢◌}
use Rattle.std.specs.Prelude.{unwrap_or}
use Rattle.std.specs.Global.{Vec}
use Rattle.std.proofs.lemmas.Result.{IfOk-weaker}
use Rattle.std.proofs.lemmas.List.Elements.{All-nil, All-cons, All-head, All-tail, All-weaker}
use Rattle.sv_io.specs.Cabinet.{bytes_under, IfAnswered, IfLong, KeepsOrBegins}
use Rattle.sv_io.specs.Count.{Rose}
use Rattle.sv_io.specs.Exchange.{Exchange, Fetched, fetched, stored, fetched_of, is_done}
use Rattle.sv_io.specs.Traffic.{Files, HandsOut, IsTold, IsLeft, IsStoreOf, Passed}
use Rattle.sv_io.specs.Traffic.{IsFailed}
use Rattle.sv_io.specs.declared.faults.FetchFault.{FetchFault}
use Rattle.sv_io.specs.declared.faults.FetchFault.TheVariants.{Failed, Long}
use Rattle.sv_io.specs.declared.faults.FetchFault.TheVariants as faults
use Rattle.sv_cli.specs.declared.prepared.NoReport.{NoReport}
use Rattle.sv_cli.specs.declared.prepared.NoReport.TheVariants.{Unread, Unwritten, OutOfMemory}
use Rattle.sv_cli.specs.Prepared.{Explains, Readies}
use Rattle.sv_cli.specs.Runs.{KeepsCounts}

-- ---- one exchange, or none

-- a fetch hands out what is held, or the first of it
handed : (r : Result (Vec ℕ) FetchFault) (held : List ℕ) (limit : ℕ)
    → IfOk r (λ bytes. bytes.items ≡ held) → IfLong r (λ bytes. length bytes ≡ limit + 1)
    → IfLong r (λ bytes. bytes ≡ take (limit + 1) held) → IfLong r (λ _. limit < length held)
    → HandsOut held (fetched_of r)
handed (Ok bytes) held limit is_whole long front cause = is_whole
handed (Err Failed) held limit is_whole long front cause = tt
handed (Err (Long bytes)) held limit is_whole long front cause =
    (front ∙ ap (λ n. take n held) (sym long), omega arith)
handed (Err faults.OutOfMemory) held limit is_whole long front cause = tt

-- a store leaves what it stored, or what was there or the first of the new bytes
left_by : {T E : Type 0} (r : Result T E) (old new : List ℕ → Option (List ℕ)) (name bytes : List ℕ)
    → OnOk r (new name ≡ Some bytes) → OnErr r (KeepsOrBegins (old name) bytes (new name))
    → IsLeft old new (stored name bytes (is_done r))
left_by (Ok x) old new name bytes is_stored refused = is_stored
left_by (Err e) old new name bytes is_stored refused = refused

-- a fetch that ended in a fault ended in this one
pub passed_as : (tells : Bool) (old new : Files) (name : List ℕ) (fault other : FetchFault)
    → fault ≡ other
    → (let r : Result (Vec ℕ) FetchFault = Err fault in
    Passed tells old new (fetched name (fetched_of r) ∷ []))
    → (let r : Result (Vec ℕ) FetchFault = Err other in
    Passed tells old new (fetched name (fetched_of r) ∷ []))
passed_as tells old new name fault other is passed =
    subst (λ (f : FetchFault).
    let r : Result (Vec ℕ) FetchFault = Err f in
    Passed tells old new (fetched name (fetched_of r) ∷ [])) is passed

module _ (tells : Bool) where
  -- nothing is exchanged
  pub none_passed : (files : Files) → Passed tells files files []
  none_passed files = record {
    called = sym (append-nil files.exchanges);
    told = λ _. All-nil (IsTold files.held);
    left = λ _. All-nil (IsLeft files.held files.held);
    others = λ name none. refl;
  }

  -- one fetch
  pub fetch_passed : (old new : Files) (name : List ℕ) (limit : ℕ)
      (r : Result (Vec ℕ) FetchFault)
      → new.exchanges ≡ old.exchanges ++ fetched name (fetched_of r) ∷ []
      → (IsTrue tells → IfOk r (λ bytes. bytes.items ≡ bytes_under old.held name))
      → IfLong r (λ bytes. length bytes ≡ limit + 1)
      → (IsTrue tells → IfLong r (λ bytes. bytes ≡ take (limit + 1) (bytes_under old.held name)))
      → (IsTrue tells → IfLong r (λ _. limit < length (bytes_under old.held name)))
      → ((other : List ℕ) → new.held other ≡ old.held other)
      → Passed tells old new (fetched name (fetched_of r) ∷ [])
  fetch_passed old new name limit r called is_whole long front cause unchanged = record {
    called = called;
    told = λ is.
        All-cons (IsTold old.held) (fetched name (fetched_of r)) []
        (handed r (bytes_under old.held name) limit (is_whole is) long (front is) (cause is))
        (All-nil (IsTold old.held));
    left = λ _.
        All-cons (IsLeft old.held new.held) (fetched name (fetched_of r)) [] tt
        (All-nil (IsLeft old.held new.held));
    others = λ other none. unchanged other;
  }

  -- one store
  pub store_passed : {T E : Type 0} (old new : Files) (name bytes : List ℕ) (r : Result T E)
      → new.exchanges ≡ old.exchanges ++ stored name bytes (is_done r) ∷ []
      → (IsTrue tells → OnOk r (new.held name ≡ Some bytes))
      → (IsTrue tells → OnErr r (KeepsOrBegins (old.held name) bytes (new.held name)))
      → ((other : List ℕ) → other ≢ name → new.held other ≡ old.held other)
      → Passed tells old new (stored name bytes (is_done r) ∷ [])
  store_passed old new name bytes r called is_stored refused others = record {
    called = called;
    told = λ _.
        All-cons (IsTold old.held) (stored name bytes (is_done r)) [] tt
        (All-nil (IsTold old.held));
    left = λ is.
        All-cons (IsLeft old.held new.held) (stored name bytes (is_done r)) []
        (left_by r old.held new.held name bytes (is_stored is) (refused is))
        (All-nil (IsLeft old.held new.held));
    others = λ other none.
        others other (λ same.
        All-head (λ (e : Exchange). IsStoreOf other e → ⊥) (stored name bytes (is_done r)) []
        none (sym same));
  }

  -- ---- behind a fetch

  module _ (old mid new : Files) (name : List ℕ) (got : Fetched) (rest : List Exchange)
      (first : Passed tells old mid (fetched name got ∷ [])) where
    -- a fetch changes nothing that is held
    held_same : (other : List ℕ) → mid.held other ≡ old.held other
    held_same other =
        first.others other
        (All-cons (λ (e : Exchange). IsStoreOf other e → ⊥) (fetched name got) [] (λ none. none)
        (All-nil (λ (e : Exchange). IsStoreOf other e → ⊥)))

    told_back : (e : Exchange) → IsTold mid.held e → IsTold old.held e
    told_back (fetched other handed) is =
        subst (λ (o : Option (List ℕ)). HandsOut (unwrap_or o []) handed) (held_same other) is
    told_back (stored other bytes is_done) is = tt

    left_back : (e : Exchange) → IsLeft mid.held new.held e → IsLeft old.held new.held e
    left_back (fetched other handed) is = tt
    left_back (stored other bytes true) is = is
    left_back (stored other bytes false) is =
        subst (λ (o : Option (List ℕ)). KeepsOrBegins o bytes (new.held other)) (held_same other) is

    -- what passes behind it passes with it
    pub passed_after : Passed tells mid new rest → Passed tells old new (fetched name got ∷ rest)
    passed_after second = record {
      called =
          second.called ∙ ap (λ xs. xs ++ rest) first.called
          ∙ append_assoc old.exchanges (fetched name got ∷ []) rest;
      told = λ is.
          All-cons (IsTold old.held) (fetched name got) rest
          (All-head (IsTold old.held) (fetched name got) [] (first.told is))
          (All-weaker (IsTold mid.held) (IsTold old.held) told_back rest (second.told is));
      left = λ is.
          All-cons (IsLeft old.held new.held) (fetched name got) rest tt
          (All-weaker (IsLeft mid.held new.held) (IsLeft old.held new.held) left_back rest
          (second.left is));
      others = λ other none.
          second.others other
          (All-tail (λ (e : Exchange). IsStoreOf other e → ⊥) (fetched name got) rest none)
          ∙ held_same other;
    }

-- ---- counts of failures

-- nothing failed where nothing is exchanged
pub counts_same : (files : Files) → KeepsCounts files files
counts_same files = record { fetches = λ name. refl; stores = λ name. refl }

-- and in neither of two parts, so not in both
pub counts_after : (old mid new : Files) → KeepsCounts old mid → KeepsCounts mid new
    → KeepsCounts old new
counts_after old mid new first second = record {
  fetches = λ name. second.fetches name ∙ first.fetches name;
  stores = λ name. second.stores name ∙ first.stores name;
}

-- a fetch that answers with bytes did not fail
pub fetch_kept : (old new : Files) (r : Result (Vec ℕ) FetchFault)
    → IfAnswered r ((name : List ℕ) → new.fetch_faults name ≡ old.fetch_faults name)
    → ((name : List ℕ) → new.store_faults name ≡ old.store_faults name)
    → IfAnswered r (KeepsCounts old new)
fetch_kept old new (Ok bytes) fetches stores = record { fetches = fetches; stores = stores }
fetch_kept old new (Err Failed) fetches stores = tt
fetch_kept old new (Err (Long bytes)) fetches stores =
    record { fetches = fetches; stores = stores }
fetch_kept old new (Err faults.OutOfMemory) fetches stores = tt

-- a count that rose after it did not fall rose
risen : (a b c : ℕ) → a ≤ b → Rose b c → Rose a c
risen a b c low (inl more) = inl (omega arith)
risen a b c low (inr most) = inr most

-- what explains a fault behind an exchange explains it with that
pub explained_after : (old mid new : Files) (first : Exchange) (rest : List Exchange)
    → ((name : List ℕ) → old.fetch_faults name ≤ mid.fetch_faults name)
    → ((name : List ℕ) → old.store_faults name ≤ mid.store_faults name)
    → (fault : NoReport) → Explains mid new rest fault → Explains old new (first ∷ rest) fault
explained_after old mid new first rest fetches stores Unread f = record {
  before = first ∷ f.before;
  name = f.name;
  last = ap (λ xs. first ∷ xs) f.last;
  rose =
      risen (old.fetch_faults f.name) (mid.fetch_faults f.name) (new.fetch_faults f.name)
      (fetches f.name) f.rose;
}
explained_after old mid new first rest fetches stores Unwritten f = record {
  before = first ∷ f.before;
  name = f.name;
  bytes = f.bytes;
  last = ap (λ xs. first ∷ xs) f.last;
  rose =
      risen (old.store_faults f.name) (mid.store_faults f.name) (new.store_faults f.name)
      (stores f.name) f.rose;
}
explained_after old mid new first rest fetches stores OutOfMemory f = tt

-- ---- where something is made

-- what is made of it is what is built
pub readied_as : {T : Type 0} (May : List Exchange → Type 0)
    (Makes Builds : List Exchange → T → Type 0) (tells : Bool) (old new : Files)
    (r : Result T NoReport)
    → ((exchanges : List Exchange) (made : T) → Makes exchanges made → Builds exchanges made)
    → Readies May Makes tells old new r → Readies May Builds tells old new r
readied_as May Makes Builds tells old new r build readies = record {
  exchanges = readies.exchanges;
  passed = readies.passed;
  may = readies.may;
  made =
      IfOk-weaker r
      (λ made. Makes readies.exchanges made
      × All (λ (e : Exchange). IsFailed e → ⊥) readies.exchanges)
      (λ made. Builds readies.exchanges made
      × All (λ (e : Exchange). IsFailed e → ⊥) readies.exchanges)
      (λ made is. (build readies.exchanges made is.0, is.1)) readies.made;
  unfailed = readies.unfailed;
  fault = readies.fault;
}

-- where nothing is exchanged
pub made_readied : {T : Type 0} (May : List Exchange → Type 0)
    (Makes : List Exchange → T → Type 0) (tells : Bool) (files : Files) (made : T) → May []
    → Makes [] made
    → (let r : Result T NoReport = Ok made in Readies May Makes tells files files r)
made_readied May Makes tells files made may makes = record {
  exchanges = [];
  passed = none_passed tells files;
  may = may;
  made = (makes, All-nil (λ (e : Exchange). IsFailed e → ⊥));
  unfailed = counts_same files;
  fault = tt;
}

-- ---- where nothing is made

module _ {T : Type 0} (May : List Exchange → Type 0) (Makes : List Exchange → T → Type 0)
    (tells : Bool) (old new : Files) where
  -- a fault that is explained by what was exchanged
  pub fault_readied : (exchanges : List Exchange) (fault : NoReport) (r : Result T NoReport)
      → Passed tells old new exchanges → May exchanges → Explains old new exchanges fault
      → IsErrAnd r (λ (f : NoReport). f ≡ fault) → Readies May Makes tells old new r
  fault_readied exchanges fault (Ok x) passed may explains is = absurd is
  fault_readied exchanges fault (Err e) passed may explains is = record {
    exchanges = exchanges;
    passed = passed;
    may = may;
    made = tt;
    unfailed = tt;
    fault = subst (Explains old new exchanges) (sym is) explains;
  }

  -- memory ran out
  pub spent_readied : (exchanges : List Exchange) (r : Result T NoReport)
      → Passed tells old new exchanges → May exchanges
      → IsErrAnd r (λ (f : NoReport). f ≡ OutOfMemory) → Readies May Makes tells old new r
  spent_readied exchanges r passed may is =
      fault_readied exchanges OutOfMemory r passed may tt is

-- a fault of a part is one of the whole, which may exchange what the part may
pub passed_on : {T U : Type 0} (May Also : List Exchange → Type 0)
    (Makes : List Exchange → T → Type 0) (Builds : List Exchange → U → Type 0) (tells : Bool)
    (old new : Files) (fault : NoReport) (r : Result U NoReport)
    → ((exchanges : List Exchange) → May exchanges → Also exchanges)
    → (let part : Result T NoReport = Err fault in Readies May Makes tells old new part)
    → IsErrAnd r (λ (f : NoReport). f ≡ fault) → Readies Also Builds tells old new r
passed_on May Also Makes Builds tells old new fault r may readies is =
    fault_readied Also Builds tells old new readies.exchanges fault r readies.passed
    (may readies.exchanges readies.may) readies.fault is
