-- Whole stimuli, as a reader reads them.
use Rattle.std.proofs.Common.{◌≡◌, ℕ, List, [], ◌∷◌, ◌++◌, map, refl, sym, ap, ◌∙◌, subst, Option}
use Rattle.std.proofs.Common.{Some, None, All}
use Rattle.std.specs.Prelude.{Result, Ok, Err, IfErr}
use Rattle.std.specs.Result.{IsErrAnd}
use Rattle.std.proofs.lemmas.List.{map-append}
use Rattle.std.proofs.lemmas.List.Elements.{All-nil, All-push}
use Rattle.sv_flat.specs.Design.{FlatDesign}
use Rattle.sv_flat.specs.SignalLists.{inputs}
use Rattle.sv_flat.specs.Given.{FitListed}
use Rattle.sv_trace.specs.declared.faults.StimFault.{StimFault}
use Rattle.sv_trace.specs.declared.faults.StimFault.TheVariants.{Line, OutOfMemory}
use Rattle.sv_trace.specs.Forms.{StimForm}
use Rattle.sv_trace.specs.Reading.{Reading, HasRead, HasFed, UnlessFull, answer_of}
use Rattle.sv_trace.specs.Reading.{IsFaultOf}
use Rattle.sv_trace.specs.Stimulus.{LinesRead, read_front, read_whole, fault_of}
use Rattle.sv_trace.proofs.ReaderFacts.{wrong_of}
use Rattle.sv_trace.proofs.Stuck.{whole_stays}

answered_fault : (fault : StimFault) (o : Option StimFault)
    → (let r : Result (Unit {0}) StimFault = Err fault in r) ≡ answer_of o → o ≡ Some fault
answered_fault fault None e = cc
answered_fault fault (Some other) e = cc

passed : {T : Type 0} (P : StimFault → Type 0) (r : Result T StimFault) (x : StimFault)
    → IsErrAnd r (λ y. y ≡ x) → P x → IfErr r P
passed P (Ok v) x is holds = absurd is
passed P (Err y) x is holds = subst P (sym is) holds

pub answered_none : (o : Option StimFault)
    → (let r : Result (Unit {0}) StimFault = Ok tt in r) ≡ answer_of o → o ≡ None
answered_none None e = refl
answered_none (Some other) e = cc

pub feed_fault : {T : Type 0} (form : StimForm) (bytes : List ℕ) (old new : Reading)
    (fault : StimFault) (r : Result T StimFault) → IsErrAnd r (λ found. found ≡ fault)
    → HasFed [] [] old → new.form ≡ form
    → (let r : Result (Unit {0}) StimFault = Err fault in r) ≡ answer_of new.fault
    → UnlessFull (Err fault) ((more : List ℕ) (taken : List (List ℕ)) → HasFed more taken old
    → HasFed (more ++ bytes) taken new)
    → IfErr r (IsFaultOf (read_whole form bytes))
feed_fault form bytes old new (Line number kind) r passes start same answer reads =
    let fed = reads [] [] start in
    let is : fault_of (read_front new.form bytes) ≡ Some (Line number kind) =
    sym fed.read.fault ∙ answered_fault (Line number kind) new.fault answer in
    passed (IsFaultOf (read_whole form bytes)) r (Line number kind) passes
    (ap (λ f. fault_of (read_whole f bytes)) (sym same)
    ∙ ap fault_of (whole_stays new.form bytes kind
    (wrong_of (read_front new.form bytes) number kind is))
    ∙ is)
feed_fault form bytes old new OutOfMemory r passes start same answer reads =
    passed (IsFaultOf (read_whole form bytes)) r OutOfMemory passes tt

pub finish_fault : {T : Type 0} (form : StimForm) (bytes : List ℕ) (old new : Reading)
    (fault : StimFault) (r : Result T StimFault) → IsErrAnd r (λ found. found ≡ fault)
    → HasFed bytes [] old → new.form ≡ form
    → (let r : Result (Unit {0}) StimFault = Err fault in r) ≡ answer_of new.fault
    → UnlessFull (Err fault) ((more : List ℕ) (taken : List (List ℕ)) → HasFed more taken old
    → HasRead (read_whole new.form more) taken new)
    → IfErr r (IsFaultOf (read_whole form bytes))
finish_fault form bytes old new (Line number kind) r passes fed same answer reads =
    let read = reads bytes [] fed in
    passed (IsFaultOf (read_whole form bytes)) r (Line number kind) passes
    (ap (λ f. fault_of (read_whole f bytes)) (sym same)
    ∙ sym read.fault ∙ answered_fault (Line number kind) new.fault answer)
finish_fault form bytes old new OutOfMemory r passes fed same answer reads =
    passed (IsFaultOf (read_whole form bytes)) r OutOfMemory passes tt

pub one_taken : {X : Type 0} (f : X → List ℕ) (read : LinesRead) (xs ys : List X) (x : X)
    (r : Reading) → HasRead read (map f xs ++ f x ∷ []) r → ys ≡ xs ++ x ∷ []
    → HasRead read (map f ys) r
one_taken f read xs ys x r has e =
    subst (λ taken. HasRead read taken r) (sym (ap (map f) e ∙ map-append f xs (x ∷ []))) has

-- the values of a cycle fit the inputs of a design
abbrev pub fit_inputs : FlatDesign → List ℕ → Type 0
fit_inputs design values = FitListed design.signals (inputs design) values

pub none_fit : {X : Type 0} (f : X → List ℕ) (P : List ℕ → Type 0) (xs : List X) → xs ≡ []
    → All P (map f xs)
none_fit f P xs none = subst (λ ys. All P (map f ys)) (sym none) (All-nil P)

pub one_fits : {X : Type 0} (f : X → List ℕ) (P : List ℕ → Type 0) (xs ys : List X) (x : X)
    → All P (map f xs) → P (f x) → ys ≡ xs ++ x ∷ [] → All P (map f ys)
one_fits f P xs ys x each fits e =
    subst (All P) (sym (ap (map f) e ∙ map-append f xs (x ∷ [])))
    (All-push P (map f xs) (f x) each fits)
