-- The logs of a certificate, one after the other.
use Rattle.std.proofs.Common.{◌≡◌, ◌≢◌, ℕ, ◌+◌, ◌≤◌, List, [], length, take, Some, Ok, Err, Result}
use Rattle.std.proofs.Common.{◌<◌, ◌^◌, get_or, refl, sym, ◌∙◌, ap, subst, arith}
use Rattle.std.specs.Prelude.{slice_get, option_map, IfOk}
use Rattle.std.specs.List.{AllZip}
use Rattle.std.specs.declared.alloc.AllocError.{AllocError}
use Rattle.std.proofs.lemmas.List.{take_all}
use Rattle.std.proofs.lemmas.Option.{slice_get-map, slice_get_within, slice_get_read}
use Rattle.sv_clause.specs.Logs.{Step, plain_step, plain_log}
use Rattle.sv_clause.specs.declared.logs.Log.{Log}
use Rattle.sv_flat.specs.Design.{FlatDesign}
use Rattle.sv_obl.specs.Obligations.{Obligation, obligations}
use Rattle.sv_obl.proofs.FormLists.{length_mapped, get_all}
use Rattle.sv_proof.specs.Certificate.{IsWritableLog, AreLogs, plain_logs, proof_text}
use Rattle.sv_proof.specs.Checking.{HasFault}
use Rattle.sv_proof.specs.FaultLines.{fault_line}
use Rattle.sv_proof.specs.Lines.{IsFault}
use Rattle.sv_proof.specs.declared.read.ProofFault.{ProofFault}
use Rattle.sv_proof.specs.declared.read.ProofFault.TheVariants as broken
use Rattle.sv_proof.specs.declared.check.LogFault.{LogFault}
use Rattle.sv_proof.specs.declared.check.LogFault.TheVariants.{OutOfMemory}
use Rattle.sv_encoding.specs.Deciding.{Fits, IsTooLarge}
use Rattle.sv_encoding.specs.Encoding.{encoding}
use Rattle.sv_judge.specs.Answers.{WhereVerified, WhereFault, WhereLarge}
use Rattle.sv_judge.specs.Certified.{IsShown, AreCertified, EarlierAreShown, FailsFirst, IsVerified}
use Rattle.sv_judge.specs.Certified.{IsFaultLine, IsTooLargeToVerify, text, count, log}
use Rattle.sv_judge.specs.Verifying.{AreMatched, IsFlaw, IsVerdict, broken_verdict, flawed_verdict}
use Rattle.sv_judge.specs.declared.verifying.Flaw.{Flaw}
use Rattle.sv_judge.specs.declared.verifying.Flaw.TheVariants as flaws
use Rattle.sv_judge.specs.declared.verdicts.Verified.{Verified}
use Rattle.sv_judge.specs.declared.verdicts.Verified.TheVariants.{Accepted, Fault, TooLarge}
use Rattle.sv_judge.proofs.Lists.{zip_next}

module _ (design : FlatDesign) (logs : List (List Step)) where
  abbrev all : List Obligation
  all = obligations [] design

  certified : AreMatched design logs → AreCertified design (proof_text logs) logs
  certified matched = record { are_logs = matched.are_logs; text = refl; count = matched.count }

  -- none stands before the first
  pub none_shown : (n : ℕ) → n ≡ 0 → EarlierAreShown design n logs
  none_shown n none = subst (λ k. EarlierAreShown design k logs) (sym none) tt

  -- one log more is shown
  pub shown_next : (place : ℕ) (o : Obligation) (steps : List Step)
      → slice_get all place ≡ Some o → slice_get logs place ≡ Some steps
      → EarlierAreShown design place logs → IsShown design o steps
      → EarlierAreShown design (place + 1) logs
  shown_next place o steps is_o is_steps earlier shown =
      zip_next (IsShown design) all logs place o steps is_o is_steps earlier shown

  pub fails_first : (place : ℕ) (o : Obligation) (steps : List Step) (fault : LogFault) (line : ℕ)
      → AreMatched design logs → slice_get all place ≡ Some o → slice_get logs place ≡ Some steps
      → EarlierAreShown design place logs → Fits design o → fault ≢ OutOfMemory
      → HasFault (encoding design o).clauses steps fault → line ≡ fault_line logs place fault
      → FailsFirst design (proof_text logs) line
  fails_first place o steps fault line matched is_o is_l earlier fits told fails lined = record {
    logs = logs;
    certified = certified matched;
    before = place;
    obligation = o;
    steps = steps;
    among = is_o;
    log = is_l;
    earlier = earlier;
    fits = fits;
    fault = fault;
    told = told;
    fails = fails;
    lined = lined;
  }

  pub too_large : (place : ℕ) (o : Obligation) → AreMatched design logs
      → slice_get all place ≡ Some o → EarlierAreShown design place logs → IsTooLarge design o
      → IsTooLargeToVerify design (proof_text logs) (place + 1)
  too_large place o matched is_o earlier large = record {
    logs = logs;
    certified = certified matched;
    before = place;
    obligation = o;
    numbered = record { counted = refl; among = is_o };
    earlier = earlier;
    large = large;
  }

  least : (n m : ℕ) → n ≡ m → n ≤ m
  least n m same = omega arith

  pub verified : AreMatched design logs → EarlierAreShown design (length all) logs
      → IsVerified design (proof_text logs)
  verified matched shown = record {
    logs = logs;
    certified = certified matched;
    each =
        subst (λ (os : List Obligation). AllZip (IsShown design) os logs)
        (take_all (length all) all (least (length all) (length all) refl))
        (subst (λ (ls : List (List Step)). AllZip (IsShown design) (take (length all) all) ls)
        (take_all (length all) logs (least (length logs) (length all) matched.count)) shown);
  }

  pub wrong_count : AreLogs logs → length logs ≢ length all
      → IsFaultLine design (proof_text logs) 2
  wrong_count are_logs other =
      count (record { logs = logs; are_logs = are_logs; text = refl; other = other })

-- ---- what ends early

module _ (design : FlatDesign) (number : ℕ) where
  pub broken_is : (bytes : List ℕ) (fault : ProofFault) → IsFault bytes fault
      → IfOk (broken_verdict fault) (IsVerdict design bytes number)
  broken_is bytes (broken.Text line) is = text line is
  broken_is bytes broken.OutOfMemory is = tt

  pub flawed_is : (logs : List (List Step)) (flaw : Flaw) → IsFlaw design logs flaw
      → IfOk (flawed_verdict flaw) (IsVerdict design (proof_text logs) number)
  flawed_is logs (flaws.Fault line) is = log line is
  flawed_is logs (flaws.TooLarge n) is = is
  flawed_is logs flaws.OutOfMemory is = tt

-- ---- what `verify` says of each answer

module _ (design : FlatDesign) (bytes : List ℕ) (number : ℕ) where
  -- what it says of an acceptance, of the number there, of a fault and of a size
  verdict_parts : (r : Result Verified AllocError) → IfOk r (IsVerdict design bytes number)
      → IfOk r (WhereVerified (λ _. IsVerified design bytes))
      × IfOk r (WhereVerified (λ n. n ≡ number))
      × IfOk r (WhereFault (IsFaultLine design bytes))
      × IfOk r (WhereLarge (IsTooLargeToVerify design bytes))
  verdict_parts (Ok (Accepted n)) is = (is.0, is.1, tt, tt)
  verdict_parts (Ok (Fault line)) is = (tt, tt, is, tt)
  verdict_parts (Ok (TooLarge n)) is = (tt, tt, tt, is)
  verdict_parts (Err e) is = (tt, tt, tt, tt)

  pub accepted_of : (r : Result Verified AllocError) → IfOk r (IsVerdict design bytes number)
      → IfOk r (WhereVerified (λ _. IsVerified design bytes))
  accepted_of r is = (verdict_parts r is).0

  pub count_of : (r : Result Verified AllocError) → IfOk r (IsVerdict design bytes number)
      → IfOk r (WhereVerified (λ n. n ≡ number))
  count_of r is = (verdict_parts r is).1

  pub fault_of : (r : Result Verified AllocError) → IfOk r (IsVerdict design bytes number)
      → IfOk r (WhereFault (IsFaultLine design bytes))
  fault_of r is = (verdict_parts r is).2

  pub large_of : (r : Result Verified AllocError) → IfOk r (IsVerdict design bytes number)
      → IfOk r (WhereLarge (IsTooLargeToVerify design bytes))
  large_of r is = (verdict_parts r is).3

-- ---- logs as they lie in memory

module _ (design : FlatDesign) (logs : List Log) (place : ℕ) where
  -- each obligation has its log
  pub log_inside : (o : Obligation) → AreMatched design (plain_logs logs)
      → slice_get (obligations [] design) place ≡ Some o → place < length logs
  log_inside o matched is =
      let inside = slice_get_within (obligations [] design) place o is in
      let same = matched.count in
      let mapped = length_mapped plain_log logs in
      omega arith

  -- the plain form of a log
  pub log_at : (here : Log) → place < length logs → here ≡ get_or logs place here
      → slice_get (plain_logs logs) place ≡ Some (plain_log here)
  log_at here inside is =
      slice_get-map plain_log logs place
      ∙ ap (option_map plain_log) (slice_get_read logs (length logs) place here refl inside is)

  -- it has few steps
  pub log_short : (here : Log) → AreMatched design (plain_logs logs)
      → slice_get (plain_logs logs) place ≡ Some (plain_log here)
      → length here.steps.items < 2 ^ 32
  log_short here matched is =
      let writable : IsWritableLog (plain_log here) =
      get_all IsWritableLog (plain_logs logs) place (plain_log here) matched.are_logs.each is in
      let short = writable.count in
      let mapped = length_mapped plain_step here.steps.items in
      omega arith
