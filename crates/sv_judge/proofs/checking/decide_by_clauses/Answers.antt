use Rattle.std.proofs.Common.{◌+◌, ◌≤◌, [], length, Err, inl, inr, refl, ap, subst, arith}
use Rattle.sv_clause.specs.Logs.{plain_step, plain_log}
use Rattle.sv_flat.specs.Views.{design_of}
use Rattle.sv_obl.specs.Obligations.{obligations}
use Rattle.sv_obl.specs.Validity.{Falsifies}
use Rattle.sv_obl.specs.Valuations.{FitsDesign, valuation_of}
use Rattle.sv_obl.specs.Views.{obligation_of}
use Rattle.sv_obl.proofs.FormLists.{length_mapped}
use Rattle.sv_encoding.specs.BothWays.{IsZeroOutside}
use Rattle.sv_encoding.specs.Deciding.{IsRefutedBy, IsSpentBy}
use Rattle.sv_encoding.specs.Encoding.{encoding}
use Rattle.sv_decide.specs.Decisions.{WhereValid, WhereFails, WhereSpent, IsNotSpent}
use Rattle.sv_judge.specs.Progress.{IsSpared}
use Rattle.sv_judge.proofs.ProgressFacts.{refuted_done, spent_done, number_less, ends_large}
use Rattle.sv_judge.proofs.checking.decide_by_clauses.Goals as goal

pub know_writable-requires : goal.know_writable-requires
know_writable-requires c =
    let few : length (plain_log c.in-Ok-Valid.log) ≤ c.args.budget + 1 =
    subst (WhereValid (λ steps. length steps ≤ c.args.budget + 1)) c.in-Ok-Valid.field-0-is
    c.in-Ok-Valid.ensures.valid_size in
    let same = length_mapped plain_step c.in-Ok-Valid.log.steps.items in
    omega arith

pub returns-in-Ok-Valid-clause-done : goal.returns-in-Ok-Valid-clause-done
returns-in-Ok-Valid-clause-done c =
    let design = design_of c.args.design.now in
    let o = obligation_of c.args.query in
    let refutes : IsRefutedBy design o (plain_log c.in-Ok-Valid.log) =
    subst (WhereValid (IsRefutedBy design o)) c.in-Ok-Valid.field-0-is
    c.in-Ok-Valid.ensures.valid in
    refuted_done design c.args.budget o c.args.progress.now c.add_refuted.new.self
    c.in-Ok-Valid.log c.requires.next.among c.requires.done c.in-Ok-Valid.ensures.fits refutes
    (subst (WhereValid (λ steps. length steps ≤ c.args.budget + 1)) c.in-Ok-Valid.field-0-is
    c.in-Ok-Valid.ensures.valid_size)
    (c.know_writable.ensures (encoding design o).clauses refutes.derived)
    c.in_ok-add_refuted-in-Ok-Valid.ensures.count c.in_ok-add_refuted-in-Ok-Valid.ensures.spent
    c.in_ok-add_refuted-in-Ok-Valid.ensures.keeps c.in_ok-add_refuted-in-Ok-Valid.ensures.logs
    c.in_ok-add_refuted-in-Ok-Valid.ensures.none_kept

pub returns-in-Ok-Fails-clause-stop : goal.returns-in-Ok-Fails-clause-stop
returns-in-Ok-Fails-clause-stop c =
    let design = design_of c.args.design.now in
    let o = obligation_of c.args.query in
    let at = c.requires.next in
    record {
      falsified = record {
        before = c.args.progress.now.count;
        obligation = o;
        numbered = record { counted = refl; among = at.among };
        earlier = c.requires.done.passed;
        small = c.in-Ok-Fails.ensures.fits;
        fits = subst (WhereFails (FitsDesign design)) c.in-Ok-Fails.field-0-is
            c.in-Ok-Fails.ensures.fails_fits;
        falsifies =
            subst (WhereFails (λ v. Falsifies design (valuation_of design v) o))
            c.in-Ok-Fails.field-0-is c.in-Ok-Fails.ensures.fails;
        zero =
            subst (WhereFails (λ v. IsZeroOutside design o (valuation_of design v)))
            c.in-Ok-Fails.field-0-is c.in-Ok-Fails.ensures.fails_zero;
      };
      among = number_less (obligations [] design) c.args.progress.now.count o at.among;
      query = at.of_design;
      placed = at.placed;
    }

pub returns-in-Ok-Spent-clause-done : goal.returns-in-Ok-Spent-clause-done
returns-in-Ok-Spent-clause-done c =
    let design = design_of c.args.design.now in
    let o = obligation_of c.args.query in
    let budget = c.args.budget in
    let is = c.in-Ok-Spent.field-0-is in
    let by = c.in-Ok-Spent.ensures in
    let not_spared : IsSpared design budget o → ⊥ =
    λ spared. elim spared [
      | inl large ↦ subst IsNotSpent is (by.large_budget_never_spent large)
      | inr conflict ↦ subst IsNotSpent is (by.units_never_spent conflict.0 conflict.1)
    ] in
    spent_done design budget o c.args.progress.now c.add_spent.new.self c.in-Ok-Spent.log
    c.requires.next.among c.requires.done by.fits
    (subst (WhereSpent (IsSpentBy design budget o)) is by.spent) not_spared
    c.add_spent.ensures.count c.add_spent.ensures.first c.add_spent.ensures.later
    c.add_spent.ensures.keeps c.add_spent.ensures.none_kept

pub returns-in-Err-TooLarge-clause-stop : goal.returns-in-Err-TooLarge-clause-stop
returns-in-Err-TooLarge-clause-stop c =
    ends_large (design_of c.args.design.now) c.args.budget (obligation_of c.args.query)
    c.args.progress.now c.requires.next.among c.requires.done
    (c.in-Err-TooLarge.ensures.too_large (ap (λ f. Err f) c.in-Err-TooLarge.field-0-is))
