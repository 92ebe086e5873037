-- What is prepared of a sample.
use Rattle.std.proofs.Common.{◌≡◌, ℕ, Bool, List, [], None, Some, refl, subst, inl, inr}
use Rattle.std.specs.Prelude.{Result}
use Rattle.sv_io.specs.Exchange.{Exchange}
use Rattle.sv_io.specs.Traffic.{Files}
use Rattle.sv_num.specs.declared.faults.Place.{Place}
use Rattle.sv_flat.specs.Design.{FlatDesign}
use Rattle.sv_gen.specs.Sample.{sample_text, HasLanes}
use Rattle.sv_words.specs.Words.{default_budget}
use Rattle.sv_report.specs.Styles.{refusal_in}
use Rattle.sv_report.specs.declared.styles.Style.TheVariants as styles
use Rattle.sv_cli.specs.declared.prepared.NoReport.{NoReport}
use Rattle.sv_cli.specs.declared.prepared.Prepared.{Prepared}
use Rattle.sv_cli.specs.declared.prepared.Prepared.TheVariants.{Whole, Lines, Clauses}
use Rattle.sv_cli.specs.declared.prepared.Prepared.TheVariants.{Simulation}
use Rattle.sv_cli.specs.declared.report.Report.{Report}
use Rattle.sv_cli.specs.Answer.{Answer, answer_of, rule_broken}
use Rattle.sv_cli.specs.Checks.{Checks, exceeds, decides, accepts, falsifies, too_large, spends}
use Rattle.sv_cli.specs.Generates.{Generates, ChecksSample}
use Rattle.sv_cli.specs.Generates as samples
use Rattle.sv_cli.specs.Limits.{TellsLimit}
use Rattle.sv_cli.specs.Prepared.{MayStoreOwn, Readies, Reports, Says}
use Rattle.sv_cli.specs.Texts.{BreaksFirst, Passes}
use Rattle.sv_cli.proofs.Preparing.{readies_too}

-- a report in other words
pub reports_over : (Told Other : Answer → (printed : List ℕ) → Type 0)
    → ((answer : Answer) (printed : List ℕ) → Told answer printed → Other answer printed)
    → (prepared : Prepared) → Reports Told prepared → Reports Other prepared
reports_over Told Other over (Whole report) (answer, answered, told) =
    (answer, answered, over answer report.text.items told)
reports_over Told Other over (Lines design) is = absurd is
reports_over Told Other over (Clauses coded) is = absurd is
reports_over Told Other over (Simulation design level order) is = absurd is

-- without a name for the certificate nothing is exchanged
nothing_exchanged : (budget : ℕ) (design : FlatDesign) (exchanges : List Exchange)
    (answer : Answer) (printed : List ℕ)
    → Checks styles.Lines None budget design exchanges answer printed → exchanges ≡ []
nothing_exchanged budget design exchanges answer printed (exceeds none is) = none
nothing_exchanged budget design exchanges answer printed (decides few (accepts none is)) = none
nothing_exchanged budget design exchanges answer printed (decides few (falsifies none is)) = none
nothing_exchanged budget design exchanges answer printed (decides few (too_large none is)) = none
nothing_exchanged budget design exchanges answer printed (decides few (spends none is)) = none

nothing_stored : (design : FlatDesign) (budget : ℕ) (exchanges : List Exchange)
    → MayStoreOwn None design budget exchanges → exchanges ≡ []
nothing_stored design budget exchanges (inl none) = none
nothing_stored design budget exchanges (inr stores) = absurd stores.1

-- there is no sample of so many lanes
pub none_told : (lanes : ℕ) (checks : Bool) → (HasLanes lanes → ⊥) → (report : Report)
    → Says (TellsLimit styles.Lines 705 []) report → Says (Generates lanes checks) report
none_told lanes checks none report (answer, answered, tells) =
    (answer, answered, samples.no_sample none tells)

module _ (lanes : ℕ) where
  -- the first rule that the sample breaks is told
  pub refused_told : (number : ℕ) (place : Place) (names : List (List ℕ))
      → BreaksFirst None (sample_text lanes) number place names → (report : Report)
      → answer_of report.outcome ≡ Some (rule_broken number place names)
      → report.text.items ≡ refusal_in styles.Lines number place names
      → Says (ChecksSample lanes) report
  refused_told number place names broken report answered prints = (
    rule_broken number place names,
    answered,
    samples.refused (record {
      number = number;
      place = place;
      names = names;
      broken = broken;
      answers = refl;
      prints = prints;
    }),
  )

  -- it is judged as `check` judges a text
  module _ (passes : Passes None (sample_text lanes)) where
    checks_over : (exchanges : List Exchange) (answer : Answer) (printed : List ℕ)
        → Checks styles.Lines None default_budget passes.design exchanges answer printed
        → ChecksSample lanes answer printed
    checks_over exchanges answer printed is =
        samples.checked passes
        (subst (λ (es : List Exchange).
        Checks styles.Lines None default_budget passes.design es answer printed)
        (nothing_exchanged default_budget passes.design exchanges answer printed is) is)

    pub checked_readied : (tells : Bool) (old new : Files) (r : Result Prepared NoReport)
        → Readies (MayStoreOwn None passes.design default_budget) (λ exchanges. Reports
        (Checks styles.Lines None default_budget passes.design exchanges)) tells old new r
        → Readies (λ exchanges. exchanges ≡ []) (λ _. Reports (ChecksSample lanes)) tells old new r
    checked_readied tells old new r is =
        readies_too (MayStoreOwn None passes.design default_budget)
        (λ exchanges.
        Reports (Checks styles.Lines None default_budget passes.design exchanges)) tells
        (λ exchanges. exchanges ≡ []) (λ _. Reports (ChecksSample lanes))
        (nothing_stored passes.design default_budget)
        (λ exchanges.
        reports_over (Checks styles.Lines None default_budget passes.design exchanges)
        (ChecksSample lanes) (checks_over exchanges)) old new r is
