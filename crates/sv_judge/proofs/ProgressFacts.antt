-- One obligation more is decided.
use Rattle.std.proofs.Common.{◌≡◌, ◌≤◌, ℕ, ◌+◌, ◌-◌, ◌++◌, List, [], ◌∷◌, Option, Some}
use Rattle.std.proofs.Common.{None, length, inl}
use Rattle.std.proofs.Common.{inr, refl, sym, ◌∙◌, ap, subst, arith}
use Rattle.std.specs.Prelude.{slice_get, take, IsTrue, IsFalse, IsSome, All}
use Rattle.std.specs.List.{AllZip}
use Rattle.std.proofs.lemmas.List.{map-append}
use Rattle.std.proofs.lemmas.List.Elements.{All-push}
use Rattle.sv_obl.proofs.FormLists.{take_next}
use Rattle.sv_clause.specs.Logs.{Step, plain_log}
use Rattle.sv_clause.specs.declared.logs.Log.{Log}
use Rattle.sv_flat.specs.Design.{FlatDesign}
use Rattle.sv_obl.specs.Obligations.{Obligation, obligations}
use Rattle.sv_proof.specs.Certificate.{IsWritableLog, plain_logs}
use Rattle.sv_encoding.specs.Deciding.{Fits, IsTooLarge, IsRefutedBy, IsSpentBy, IsPassed}
use Rattle.sv_judge.specs.Verdicts.{IsProvedFor, EndsTooLarge}
use Rattle.sv_judge.specs.Progress.{first_obligations, IsSpared, IsStanding, AreKept}
use Rattle.sv_judge.specs.Progress.{HasDone}
use Rattle.sv_judge.specs.declared.progress.Progress.{Progress}
use Rattle.sv_judge.specs.declared.verdicts.Spent.{Spent}
use Rattle.sv_judge.proofs.Lists.{all_next, zip_push}

module _ (design : FlatDesign) (budget count : ℕ) (o : Obligation)
    (is : slice_get (obligations [] design) count ≡ Some o) where
  abbrev all : List Obligation
  all = obligations [] design

  -- ---- a refuted one

  refuted_stands : (spent : Option Spent) → IsStanding design budget count spent
      → IsProvedFor design budget o → IsStanding design budget (count + 1) spent
  refuted_stands None stands proved =
      all_next (IsProvedFor design budget) all count o is stands proved
  refuted_stands (Some spent) stands proved = stands

  kept_more : (logs more : List Log) (log : Log) → AreKept design budget count (plain_logs logs)
      → IsRefutedBy design o (plain_log log) → length (plain_log log) ≤ budget + 1
      → IsWritableLog (plain_log log)
      → more ≡ logs ++ log ∷ [] → AreKept design budget (count + 1) (plain_logs more)
  kept_more logs more log kept refutes short writable are =
      let plain : plain_logs more ≡ plain_logs logs ++ plain_log log ∷ [] =
      ap plain_logs are ∙ map-append plain_log logs (log ∷ []) in
      subst (AreKept design budget (count + 1)) (sym plain) (record {
        refute =
            subst (λ os. AllZip (IsRefutedBy design) os (plain_logs logs ++ plain_log log ∷ []))
            (sym (take_next all count o is))
            (zip_push (IsRefutedBy design) (take count all) (plain_logs logs) o (plain_log log)
            kept.refute refutes);
        within =
            All-push (λ (steps : List Step). length steps ≤ budget + 1) (plain_logs logs)
            (plain_log log) kept.within short;
        writable = All-push IsWritableLog (plain_logs logs) (plain_log log) kept.writable writable;
      })

  passed_next : (old new : Progress) → HasDone design budget old → old.count ≡ count
      → IsProvedFor design budget o → new.count ≡ count + 1
      → All (IsPassed design budget) (first_obligations design new.count)
  passed_next old new done at proved counted =
      subst (λ n. All (IsPassed design budget) (first_obligations design n)) (sym counted)
      (all_next (IsPassed design budget) all count o is
      (subst (λ n. All (IsPassed design budget) (first_obligations design n)) at done.passed)
      (proved.0, inl (proved.1, proved.2)))

  stands_next : (old new : Progress) → HasDone design budget old → old.count ≡ count
      → IsProvedFor design budget o → new.count ≡ count + 1 → new.spent ≡ old.spent
      → IsStanding design budget new.count new.spent
  stands_next old new done at proved counted same =
      subst (λ n. IsStanding design budget n new.spent) (sym counted)
      (subst (IsStanding design budget (count + 1)) (sym same)
      (refuted_stands old.spent
      (subst (λ n. IsStanding design budget n old.spent) at done.stands) proved))

  refuted_at : (old new : Progress) (log : Log) → HasDone design budget old → old.count ≡ count
      → Fits design o → IsRefutedBy design o (plain_log log)
      → length (plain_log log) ≤ budget + 1 → IsWritableLog (plain_log log)
      → new.count ≡ count + 1 → new.spent ≡ old.spent → new.keeps ≡ old.keeps
      → (IsTrue old.keeps → old.spent ≡ None → new.logs.items ≡ old.logs.items ++ log ∷ [])
      → (IsFalse old.keeps → new.logs.items ≡ old.logs.items)
      → HasDone design budget new
  refuted_at old new log done at fits refutes short writable counted same keeps logs none_kept =
      let proved : IsProvedFor design budget o = (fits, plain_log log, refutes, short) in
      record {
        passed = passed_next old new done at proved counted;
        stands = stands_next old new done at proved counted same;
        logs = λ keep none.
            let kept : IsTrue old.keeps = subst IsTrue keeps keep in
            let unspent : old.spent ≡ None = sym same ∙ none in
            subst (λ n. AreKept design budget n (plain_logs new.logs.items)) (sym counted)
            (kept_more old.logs.items new.logs.items log
            (subst (λ n. AreKept design budget n (plain_logs old.logs.items)) at (done.logs kept unspent))
            refutes short writable (logs kept unspent));
        none_kept = λ no.
            let unkept : IsFalse old.keeps = subst IsFalse keeps no in
            none_kept unkept ∙ done.none_kept unkept;
      }

  -- one of which no log is wanted
  valid_at : (old new : Progress) → HasDone design budget old → old.count ≡ count
      → IsProvedFor design budget o → (IsTrue old.keeps → old.spent ≡ None → ⊥)
      → new.count ≡ count + 1
      → new.spent ≡ old.spent → new.keeps ≡ old.keeps → new.logs.items ≡ old.logs.items
      → HasDone design budget new
  valid_at old new done at proved unwanted counted same keeps logs = record {
    passed = passed_next old new done at proved counted;
    stands = stands_next old new done at proved counted same;
    logs = λ keep none. absurd (unwanted (subst IsTrue keeps keep) (sym same ∙ none));
    none_kept = λ no. logs ∙ done.none_kept (subst IsFalse keeps no);
  }

  -- ---- one on which the budget is spent

  -- an obligation is told then
  record SpendsOn (after : Option Spent) : Type 0 where
    stands : IsStanding design budget (count + 1) after
    told : after ≡ None → ⊥

  spends_on : (before after : Option Spent) (log : Log) → IsStanding design budget count before
      → Fits design o → IsSpentBy design budget o (plain_log log) → (IsSpared design budget o → ⊥)
      → (before ≡ None → after ≡ Some (record { obligation = count + 1; log = log }))
      → (IsSome before → after ≡ before) → SpendsOn after
  spends_on None after log stands fits spends not_spared first later =
      subst SpendsOn (sym (first refl)) (record {
        stands = record {
          before = count;
          obligation = o;
          numbered = record { counted = refl; among = is };
          fits = fits;
          spends = spends;
          earlier = stands;
          not_spared = not_spared;
        };
        told = λ none. cc;
      })
  spends_on (Some spent) after log stands fits spends not_spared first later =
      subst SpendsOn (sym (later refl)) (record { stands = stands; told = λ none. cc })

  spent_at : (old new : Progress) (log : Log) → HasDone design budget old → old.count ≡ count
      → Fits design o → IsSpentBy design budget o (plain_log log) → (IsSpared design budget o → ⊥)
      → new.count ≡ count + 1
      → (old.spent ≡ None → new.spent ≡ Some (record { obligation = count + 1; log = log }))
      → (IsSome old.spent → new.spent ≡ old.spent) → new.keeps ≡ old.keeps
      → (old.logs.items ≡ [] → new.logs.items ≡ []) → HasDone design budget new
  spent_at old new log done at fits spends not_spared counted first later keeps none_kept =
      let on : SpendsOn new.spent =
      spends_on old.spent new.spent log
      (subst (λ n. IsStanding design budget n old.spent) at done.stands) fits spends not_spared
      first later in
      record {
        passed =
            subst (λ n. All (IsPassed design budget) (first_obligations design n)) (sym counted)
            (all_next (IsPassed design budget) all count o is
            (subst (λ n. All (IsPassed design budget) (first_obligations design n)) at done.passed)
            (fits, inr (plain_log log, spends)));
        stands = subst (λ n. IsStanding design budget n new.spent) (sym counted) on.stands;
        logs = λ keep none. absurd (on.told none);
        none_kept = λ no. none_kept (done.none_kept (subst IsFalse keeps no));
      }

module _ (design : FlatDesign) (budget : ℕ) (o : Obligation) (old new : Progress) (log : Log)
    (is : slice_get (obligations [] design) old.count ≡ Some o) (done : HasDone design budget old)
  where
    pub refuted_done : Fits design o → IsRefutedBy design o (plain_log log)
        → length (plain_log log) ≤ budget + 1 → IsWritableLog (plain_log log) → new.count ≡ old.count + 1 → new.spent ≡ old.spent
        → new.keeps ≡ old.keeps
        → (IsTrue old.keeps → old.spent ≡ None → new.logs.items ≡ old.logs.items ++ log ∷ [])
        → (IsFalse old.keeps → new.logs.items ≡ old.logs.items)
        → HasDone design budget new
    refuted_done = refuted_at design budget old.count o is old new log done refl

    pub spent_done : Fits design o → IsSpentBy design budget o (plain_log log)
        → (IsSpared design budget o → ⊥) → new.count ≡ old.count + 1
        → (old.spent ≡ None → new.spent ≡ Some (record { obligation = old.count + 1; log = log }))
        → (IsSome old.spent → new.spent ≡ old.spent) → new.keeps ≡ old.keeps
        → (old.logs.items ≡ [] → new.logs.items ≡ []) → HasDone design budget new
    spent_done = spent_at design budget old.count o is old new log done refl

pub valid_done : (design : FlatDesign) (budget : ℕ) (o : Obligation) (old new : Progress)
    → slice_get (obligations [] design) old.count ≡ Some o → HasDone design budget old
    → IsProvedFor design budget o → (IsTrue old.keeps → old.spent ≡ None → ⊥)
    → new.count ≡ old.count + 1
    → new.spent ≡ old.spent → new.keeps ≡ old.keeps → new.logs.items ≡ old.logs.items
    → HasDone design budget new
valid_done design budget o old new is done =
    valid_at design budget old.count o is old new done refl

-- ---- what ends a check

-- an obligation that is too large ends a check that passed those before
pub ends_large : (design : FlatDesign) (budget : ℕ) (o : Obligation) (old : Progress)
    → slice_get (obligations [] design) old.count ≡ Some o → HasDone design budget old
    → IsTooLarge design o → EndsTooLarge design budget (old.count + 1)
ends_large design budget o old is done large = record {
  before = old.count;
  obligation = o;
  numbered = record { counted = refl; among = is };
  earlier = done.passed;
  large = large;
}

one_less : (n : ℕ) → n + 1 - 1 ≡ n
one_less n = omega arith

-- what stands behind so many has the number one more
pub number_less : {X : Type 0} (xs : List X) (n : ℕ) (x : X) → slice_get xs n ≡ Some x
    → slice_get xs (n + 1 - 1) ≡ Some x
number_less xs n x is = ap (slice_get xs) (one_less n) ∙ is
