-- What a check comes to that reached the last obligation.
use Rattle.std.proofs.Common.{◌≡◌, ℕ, ◌^◌, ◌<◌, ◌≤◌, List, [], length, Option, Some, None}
use Rattle.std.proofs.Common.{inl, inr, refl, sym, ap, subst, arith, le_trans}
use Rattle.std.specs.Prelude.{All}
use Rattle.std.specs.Global.{Vec}
use Rattle.std.specs.List.{AllZip}
use Rattle.std.proofs.Math.Nat.{pow-le-pow_right}
use Rattle.std.proofs.lemmas.List.{take_all}
use Rattle.std.proofs.lemmas.List.Elements.{All-drop, All-weaker}
use Rattle.sv_obl.proofs.FormLists.{get_all}
use Rattle.sv_clause.specs.Logs.{Step, plain_log}
use Rattle.sv_clause.specs.declared.logs.Log.{Log}
use Rattle.sv_flat.specs.Design.{FlatDesign}
use Rattle.sv_obl.specs.Obligations.{Obligation, obligations}
use Rattle.sv_proof.specs.Certificate.{AreLogs, plain_logs}
use Rattle.sv_encoding.specs.Deciding.{IsRefutedBy, IsPassed}
use Rattle.sv_judge.specs.Answers.{WhereAccepted, WhereUnknown, IsNotUnknown, HasAtMost}
use Rattle.sv_judge.specs.Answers.{HasUnitConflict}
use Rattle.sv_judge.specs.Progress.{first_obligations, IsSpared, IsStanding, AreKept, verdict_of}
use Rattle.sv_judge.specs.Verdicts.{IsProvedFor, IsAccepted, AreRefutations, AreWithin, IsSpent}
use Rattle.sv_judge.specs.declared.verdicts.Spent.{Spent}
use Rattle.sv_judge.proofs.Lists.{zip_length}

module _ (design : FlatDesign) (budget count : ℕ)
    (counted : count ≡ length (obligations [] design)) where
  abbrev all : List Obligation
  all = obligations [] design

  -- the first so many are all
  whole : first_obligations design count ≡ all
  whole = take_all count all (subst (λ n. length all ≤ n) (sym counted) (omega arith))

  pub accepted : (logs : Vec Log) (spent : Option Spent) → IsStanding design budget count spent
      → WhereAccepted (λ n ls. IsAccepted design budget n) (verdict_of count logs spent)
  accepted logs None stands =
      record { counted = counted; each = subst (All (IsProvedFor design budget)) whole stands }
  accepted logs (Some spent) stands = tt

  pub refutations : (logs : Vec Log) (spent : Option Spent)
      → (spent ≡ None → AreKept design budget count (plain_logs logs.items))
      → WhereAccepted (λ n ls. AreRefutations design ls) (verdict_of count logs spent)
  refutations logs None kept =
      subst (λ os. AllZip (IsRefutedBy design) os (plain_logs logs.items)) whole (kept refl).refute
  refutations logs (Some spent) kept = tt

  pub within : (logs : Vec Log) (spent : Option Spent)
      → (spent ≡ None → AreKept design budget count (plain_logs logs.items))
      → WhereAccepted (λ n ls. AreWithin budget ls) (verdict_of count logs spent)
  within logs None kept = (kept refl).within
  within logs (Some spent) kept = tt

  are_logs : (logs : List (List Step)) → count < 2 ^ 32 → AreKept design budget count logs → AreLogs logs
  are_logs logs small kept = record {
    count =
        let first = first_obligations design count in
        let same = zip_length (IsRefutedBy design) first logs kept.refute in
        let front = ap length whole in
        omega arith;
    each = kept.writable;
  }

  pub writable : (logs : Vec Log) (spent : Option Spent) → count < 2 ^ 32
      → (spent ≡ None → AreKept design budget count (plain_logs logs.items))
      → WhereAccepted (λ n ls. AreLogs ls) (verdict_of count logs spent)
  writable logs None small kept = are_logs (plain_logs logs.items) small (kept refl)
  writable logs (Some spent) small kept = tt

  pub none_kept : (logs : Vec Log) (spent : Option Spent) → logs.items ≡ []
      → WhereAccepted (λ n ls. ls ≡ []) (verdict_of count logs spent)
  none_kept logs None none = ap plain_logs none
  none_kept logs (Some spent) none = tt

  pub unknown : (logs : Vec Log) (spent : Option Spent) → IsStanding design budget count spent
      → All (IsPassed design budget) (first_obligations design count)
      → WhereUnknown (λ s. IsSpent design budget s.obligation (plain_log s.log))
      (verdict_of count logs spent)
  unknown logs None stands passed = tt
  unknown logs (Some spent) stands passed = record {
    before = stands.before;
    obligation = stands.obligation;
    numbered = stands.numbered;
    fits = stands.fits;
    spends = stands.spends;
    earlier = stands.earlier;
    later =
        All-drop (IsPassed design budget) spent.obligation all
        (subst (All (IsPassed design budget)) whole passed);
  }

  -- where no obligation lets the budget be spent
  spared : (logs : Vec Log) (spent : Option Spent) → IsStanding design budget count spent
      → All (IsSpared design budget) all → IsNotUnknown (verdict_of count logs spent)
  spared logs None stands each = tt
  spared logs (Some spent) stands each =
      stands.not_spared
      (get_all (IsSpared design budget) all stands.before stands.obligation each
      stands.numbered.among)

  pub large : (logs : Vec Log) (spent : Option Spent) → IsStanding design budget count spent
      → (most : ℕ) → All (HasAtMost design most) all → 3 ^ most ≤ budget
      → IsNotUnknown (verdict_of count logs spent)
  large logs spent stands most each enough =
      spared logs spent stands
      (All-weaker (HasAtMost design most) (IsSpared design budget)
      (λ o few. inl (le_trans (pow-le-pow_right {n = 3} (omega arith) few) enough)) all each)

  pub units : (logs : Vec Log) (spent : Option Spent) → IsStanding design budget count spent
      → All (HasUnitConflict design) all → IsNotUnknown (verdict_of count logs spent)
  units logs spent stands each =
      spared logs spent stands
      (All-weaker (HasUnitConflict design) (IsSpared design budget) (λ o conflict. inr conflict) all
      each)
