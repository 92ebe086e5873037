-- What is reported of the obligations of a design that are decided.
use Rattle.std.proofs.Common.{◌≡◌, ℕ, ◌+◌, ◌-◌, List, [], ◌∷◌, map, Option, Some, None, refl, sym}
use Rattle.std.proofs.Common.{ap, ◌∙◌, subst, arith, inl, inr}
use Rattle.std.specs.Prelude.{All, filter, flat_map, not, slice_get, decimal, Bool, is_some}
use Rattle.std.specs.Prelude.{IsTrue, IsSome, Result, Ok}
use Rattle.std.specs.Option.{option_copied}
use denote.Ref.{Bor}
use Rattle.std.proofs.lemmas.List.Elements.{All-nil, All-append, All-map, All-weaker}
use Rattle.std.proofs.lemmas.Result.{IfOk-weaker}
use Rattle.sv_obl.proofs.FormLists.{get_all}
use Rattle.sv_clause.specs.Logs.{Step}
use Rattle.sv_flat.specs.Clocks.{processes_of}
use Rattle.sv_flat.specs.Design.{ProcessForm, FlatDesign}
use Rattle.sv_flat.specs.Processes.{signal_numbers, drivers}
use Rattle.sv_flat.specs.Selectors.{selectors_of, always_flows}
use Rattle.sv_flat.specs.Values.{signal_of}
use Rattle.sv_io.specs.Exchange.{Exchange}
use Rattle.sv_io.specs.Traffic.{Files, IsFailed}
use Rattle.sv_paths.specs.Limits.{excess}
use Rattle.sv_obl.specs.Obligations.{Obligation, path_obligation, target_obligations}
use Rattle.sv_obl.specs.Obligations.{selector_obligation, selector_obligations, obligations}
use Rattle.sv_obl.specs.Paths.{paths}
use Rattle.sv_obl.specs.declared.valuations.Valuation.{Valuation}
use Rattle.sv_proof.specs.Certificate.{AreLogs, proof_text}
use Rattle.sv_encoding.specs.Deciding.{Fits}
use Rattle.sv_judge.specs.Verdicts.{IsProvedFor, IsAccepted, AreRefutations, AreWithin}
use Rattle.sv_judge.specs.Verdicts.{IsFalsified, EndsTooLarge, IsSpent}
use Rattle.sv_report.specs.FlowText.{AsksFlow}
use Rattle.sv_report.specs.Styles.{accepted_in, unknown_in, IsFlowTextIn}
use Rattle.sv_report.specs.declared.styles.Style.{Style}
use Rattle.sv_cli.specs.declared.prepared.NoReport.{NoReport}
use Rattle.sv_cli.specs.declared.prepared.Prepared.{Prepared}
use Rattle.sv_cli.specs.declared.prepared.Prepared.TheVariants.{Whole}
use Rattle.sv_cli.specs.declared.report.Report.{Report}
use Rattle.sv_cli.specs.Answer.{Answer, answer_of, done, falsified, undecided}
use Rattle.sv_cli.specs.Checks.{IsCertificate, StoresProof, Accepts, Falsifies}
use Rattle.sv_cli.specs.Checks.{IsTooLarge, Spends, Decides, accepts, falsifies, too_large, spends}
use Rattle.sv_cli.specs.Checks.{Checks, exceeds, decides}
use Rattle.sv_cli.specs.Limits.{TellsLimit, ExceedsLimit}
use Rattle.sv_cli.specs.Prepared.{Readies, Reports, Says, MayStoreOwn, MayStoreBytes, StoresBytes}

-- ---- each obligation asks of labels

all_flat : {X Y : Type 0} (P : Y → Type 0) (f : X → List Y) → ((x : X) → All P (f x))
    → (xs : List X) → All P (flat_map f xs)
all_flat P f each [] = All-nil P
all_flat P f each (x ∷ xs) = All-append P (f x) (flat_map f xs) (each x) (all_flat P f each xs)

abbrev Asks : Obligation → Type 0
Asks o = AsksFlow o.goal

module _ (design : FlatDesign) where
  target_asks : (s : ℕ) → All Asks (target_obligations [] design s)
  target_asks s =
      all_flat Asks (λ (p : ProcessForm).
      map (path_obligation [] design p s) (paths design.signals s p.kind p.body))
      (λ (p : ProcessForm).
      All-map Asks (path_obligation [] design p s) (paths design.signals s p.kind p.body)
      (λ k d below. tt))
      (drivers (processes_of design) s)

  selector_asks : (s : ℕ) → All Asks (selector_obligations [] design s)
  selector_asks s =
      All-map Asks (selector_obligation [] s)
      (filter (λ t. not (always_flows design s t))
      (selectors_of (signal_of design.signals s).label)) (λ k d below. tt)

  each_asks : All Asks (obligations [] design)
  each_asks =
      All-append Asks (flat_map (target_obligations [] design) (signal_numbers design))
      (flat_map (selector_obligations [] design) (signal_numbers design))
      (all_flat Asks (target_obligations [] design) target_asks (signal_numbers design))
      (all_flat Asks (selector_obligations [] design) selector_asks (signal_numbers design))

  pub one_asks : (k : ℕ) (o : Obligation) → slice_get (obligations [] design) k ≡ Some o
      → AsksFlow o.goal
  one_asks k o at = get_all Asks (obligations [] design) k o each_asks at

  -- ---- one is falsified

  some_is : (o p : Obligation) → Some o ≡ Some p → o ≡ p
  some_is o p same = cc

  place_of : (number before : ℕ) → number ≡ before + 1 → before ≡ number - 1
  place_of number before counted = omega arith

  -- the obligation of the failure's number is its query
  pub one_falsified : (budget number : ℕ) (v : Valuation) (o : Obligation)
      (is : IsFalsified design budget number v)
      → slice_get (obligations [] design) (number - 1) ≡ Some o → is.obligation ≡ o
  one_falsified budget number v o is at =
      some_is is.obligation o
      (sym is.numbered.among
      ∙ ap (λ k. slice_get (obligations [] design) k)
      (place_of number is.before is.numbered.counted) ∙ at)

  -- what its report tells
  pub falsified_told : (style : Style) (budget number : ℕ) (v : Valuation) (o : Obligation)
      → IsFalsified design budget number v
      → slice_get (obligations [] design) (number - 1) ≡ Some o → (report : Report)
      → Says (λ answer printed.
      (answer ≡ falsified number v) × IsFlowTextIn style design number o v printed) report
      → Says (Falsifies style design budget) report
  falsified_told style budget number v o is at report (answer, answered, (answers, prints)) = (
    answer,
    answered,
    record {
      number = number;
      valuation = v;
      falsifies = is;
      answers = answers;
      prints =
          subst (λ p. IsFlowTextIn style design number p v report.text.items)
          (sym (one_falsified budget number v o is at)) prints;
    },
  )

  -- ---- one is too large, or the budget is spent

  pub too_large_told : (style : Style) (budget number : ℕ) → EndsTooLarge design budget number
      → (report : Report) → Says (TellsLimit style 709 (decimal number ∷ [])) report
      → Says (IsTooLarge style design budget) report
  too_large_told style budget number large report (answer, answered, tells) =
      (answer, answered, record { number = number; large = large; tells = tells })

  pub spent_told : (style : Style) (budget number : ℕ) (steps : List Step)
      → IsSpent design budget number steps → (report : Report)
      → answer_of report.outcome ≡ Some (undecided number steps)
      → report.text.items ≡ unknown_in style number budget
      → Says (Spends style design budget) report
  spent_told style budget number steps spent report answered prints = (
    undecided number steps,
    answered,
    record {
      number = number;
      steps = steps;
      spent = spent;
      answers = refl;
      prints = prints;
    },
  )

  -- ---- all are refuted

  pub accepted_told : (style : Style) (budget count : ℕ) → IsAccepted design budget count
      → (answer : Answer) (printed : List ℕ) → answer ≡ done → printed ≡ accepted_in style count
      → Accepts style design budget answer printed
  accepted_told style budget count accepted answer printed answers prints =
      record { count = count; accepted = accepted; answers = answers; prints = prints }

-- ---- verdicts

module _ (style : Style) (design : FlatDesign) (proof : Option (List ℕ)) (budget : ℕ) where
  pub by_falsified : (report : Report) → Says (Falsifies style design budget) report
      → Says (Decides style proof budget design []) report
  by_falsified report (answer, answered, told) = (answer, answered, falsifies refl told)

  pub by_too_large : (report : Report) → Says (IsTooLarge style design budget) report
      → Says (Decides style proof budget design []) report
  by_too_large report (answer, answered, told) = (answer, answered, too_large refl told)

  pub by_spent : (report : Report) → Says (Spends style design budget) report
      → Says (Decides style proof budget design []) report
  by_spent report (answer, answered, told) = (answer, answered, spends refl told)

  pub by_excess : (report : Report) → Says (ExceedsLimit style design) report
      → Says (Checks style proof budget design []) report
  by_excess report (answer, answered, told) = (answer, answered, exceeds refl told)

  -- what is decided is what is checked where no limit is exceeded
  pub decided_checked : (tells : Bool) (old new : Files) (report : Report) → excess design ≡ None
      → (let r : Result Report NoReport = Ok report in
      Readies (MayStoreOwn proof design budget)
      (λ exchanges. Says (Decides style proof budget design exchanges)) tells old new r)
      → (let r : Result Prepared NoReport = Ok (Whole report) in
      Readies (MayStoreOwn proof design budget)
      (λ exchanges. Reports (Checks style proof budget design exchanges)) tells old new r)
  decided_checked tells old new report few readies = record {
    exchanges = readies.exchanges;
    passed = readies.passed;
    may = readies.may;
    made =
        ((readies.made.0.0, readies.made.0.1, decides few readies.made.0.2), readies.made.1);
    unfailed = readies.unfailed;
    fault = tt;
  }

-- ---- the certificate

same_some : {T : Type 0} (o : Option (Bor T)) → is_some (option_copied o) ≡ is_some o
same_some None = refl
same_some (Some x) = refl

-- a name is there where one is asked for
pub asked_for : (o : Option (Bor (List ℕ))) (is : Bool) → is ≡ is_some o
    → IsSome (option_copied o) → IsTrue is
asked_for o is same some = same ∙ sym (same_some o) ∙ some

-- logs that refute all obligations within the budget, and that a certificate can hold
abbrev pub AreCertified : FlatDesign → (budget : ℕ) → List (List Step) → Type 0
AreCertified design budget logs =
    AreRefutations design logs × AreWithin budget logs × AreLogs logs

module _ (design : FlatDesign) (few : excess design ≡ None) (budget count : ℕ)
    (accepted : IsAccepted design budget count) (logs : List (List Step)) where
  certificate : AreCertified design budget logs
      → IsCertificate design budget (proof_text logs)
  certificate certified = record {
    logs = logs;
    fit =
        All-weaker (IsProvedFor design budget) (Fits design) (λ o proved. proved.0)
        (obligations [] design) accepted.each;
    refute = certified.0;
    within = certified.1;
    are_logs = certified.2;
    text = refl;
  }

  -- what may be stored of it may be stored
  may_store : (name : Option (List ℕ)) (exchanges : List Exchange)
      → (IsSome name → AreCertified design budget logs)
      → MayStoreBytes name (proof_text logs) exchanges → MayStoreOwn name design budget exchanges
  may_store None exchanges certified none = inl none
  may_store (Some name) exchanges certified (inl none) = inl none
  may_store (Some name) exchanges certified (inr (is_done, is)) =
      inr (few, (proof_text logs, is_done, certificate (certified refl), is))

  -- and what is stored is it
  stores : (name : Option (List ℕ)) (exchanges : List Exchange)
      → (IsSome name → AreCertified design budget logs)
      → StoresBytes name (proof_text logs) exchanges → StoresProof name design budget exchanges
  stores None exchanges certified none = none
  stores (Some name) exchanges certified is =
      (proof_text logs, certificate (certified refl), is)

  -- what is stored and told where all obligations are refuted is what is decided
  pub proved_decided : (style : Style) (name : Option (List ℕ)) (tells : Bool) (old new : Files)
      (r : Result Report NoReport) → (IsSome name → AreCertified design budget logs)
      → Readies (MayStoreBytes name (proof_text logs))
      (λ exchanges. Says (λ answer printed. StoresBytes name (proof_text logs) exchanges
      × (answer ≡ done) × (printed ≡ accepted_in style count))) tells old new r
      → Readies (MayStoreOwn name design budget)
      (λ exchanges. Says (Decides style name budget design exchanges)) tells old new r
  proved_decided style name tells old new r certified readies = record {
    exchanges = readies.exchanges;
    passed = readies.passed;
    may = may_store name readies.exchanges certified readies.may;
    made =
        IfOk-weaker r
        (λ (report : Report). Says (λ answer printed.
        StoresBytes name (proof_text logs) readies.exchanges
        × (answer ≡ done) × (printed ≡ accepted_in style count)) report
        × All (λ (e : Exchange). IsFailed e → ⊥) readies.exchanges)
        (λ (report : Report). Says (Decides style name budget design readies.exchanges) report
        × All (λ (e : Exchange). IsFailed e → ⊥) readies.exchanges)
        (λ report is. (
          (
            is.0.0,
            is.0.1,
            accepts (stores name readies.exchanges certified is.0.2.0)
                (accepted_told design style budget count accepted is.0.0 report.text.items is.0.2.1 is.0.2.2),
          ),
          is.1,
        )) readies.made;
    unfailed = readies.unfailed;
    fault = readies.fault;
  }

-- what is told where the logs are stored
pub stored_told : (style : Style) (count : ℕ) (bytes : List ℕ) (name : Option (List ℕ))
    (tells : Bool) {U : Type 0} (old new : Files) (unit : U) (report : Report)
    → (let r : Result U NoReport = Ok unit in
    Readies (MayStoreBytes name bytes) (λ exchanges _. StoresBytes name bytes exchanges) tells old
    new r)
    → answer_of report.outcome ≡ Some done → report.text.items ≡ accepted_in style count
    → (let r : Result Report NoReport = Ok report in
    Readies (MayStoreBytes name bytes)
    (λ exchanges. Says (λ answer printed. StoresBytes name bytes exchanges
    × (answer ≡ done) × (printed ≡ accepted_in style count))) tells old new r)
stored_told style count bytes name tells old new unit report readies answered prints = record {
  exchanges = readies.exchanges;
  passed = readies.passed;
  may = readies.may;
  made = ((done, answered, (readies.made.0, refl, prints)), readies.made.1);
  unfailed = readies.unfailed;
  fault = tt;
}
