-- A text that is accepted keeps its secrets.
use Rattle.std.proofs.Common.{◌≡◌, ℕ, ℤ, Bool, List, [], ◌∷◌, Option, None, refl}
use Rattle.std.specs.Prelude.{All, IsTrue}
use Rattle.std.specs.List.{AllZip}
use Rattle.std.proofs.lemmas.Bool.{both_ways}
use Rattle.std.proofs.lemmas.List.Elements.{All-nil, All-cons, All-head, All-tail}
use Rattle.sv_num.specs.declared.faults.Place.{Place}
use Rattle.sv_parse_machine.proofs.OneText.{one_meaning}
use Rattle.sv_clause.specs.Literals.{HaveNoSolution}
use Rattle.sv_clause.specs.Logs.{Step, Refutes}
use Rattle.sv_flat.specs.Design.{FlatDesign}
use Rattle.sv_elab_laws.specs.FlattenedTexts.{CanBeFlattened}
use Rattle.sv_obl.specs.DesignQueries.{IsQueryOf}
use Rattle.sv_obl.specs.Noninterference.{IsChecked}
use Rattle.sv_obl.specs.Obligations.{Obligation, obligations}
use Rattle.sv_obl.specs.Validity.{IsValid, AllValid}
use Rattle.sv_paths.proofs.DesignQueryFacts.{all_are}
use Rattle.sv_encoding.specs.BothWays.{UnmetClausesMeanValid}
use Rattle.sv_encoding.specs.Deciding.{IsRefutedBy, IsProved}
use Rattle.sv_encoding.specs.Encoding.{encoding}
use Rattle.sv_judge.specs.Certified.{IsShown}
use Rattle.sv_judge.specs.Verdicts.{IsProvedFor}
use Rattle.sv_run_laws.proofs.CheckedDesigns.{admitted_checked}
use Rattle.sv_run_laws.proofs.TextLaws.{read_flattened, valid_noninterferent, admitted_one_trace}
use Rattle.sv_io.specs.Exchange.{Exchange}
use Rattle.sv_gen.specs.Sample.{sample_text}
use Rattle.sv_words.specs.Words.{Request, check, verify, list, cnf, sim, compare, gen}
use Rattle.sv_words.specs.Words.{default_budget}
use Rattle.sv_report.specs.declared.styles.Style.{Style}
use Rattle.sv_report.specs.declared.styles.Style.TheVariants.{Lines}
use Rattle.sv_cli.specs.Answer.{Answer, done, limit_exceeded, rule_broken}
use Rattle.sv_cli.specs.Checks as checks
use Rattle.sv_cli.specs.Command.{Claims, top_in, style_in}
use Rattle.sv_cli.specs.Dialogues as dialogues
use Rattle.sv_cli.specs.Dialogues.{IsDialogue, IsTextOf, AfterText, OwnPart, GoesOn, own_part}
use Rattle.sv_cli.specs.Generates as generates
use Rattle.sv_cli.specs.Generates.{Generates}
use Rattle.sv_cli.specs.Limits.{TellsLimit}
use Rattle.sv_cli.specs.Texts.{Passes, HasValidObligations, KeepsSecrets}
use Rattle.sv_cli.specs.Verifies as verifies
use Rattle.sv_cli.proofs.TreeAnswers.{releases_nothing}

-- ---- obligations

-- what is proved within a budget is proved
each_proved : (design : FlatDesign) (budget : ℕ) (os : List Obligation)
    → All (IsProvedFor design budget) os → All (IsProved design) os
each_proved design budget os proved place o inside =
    let here = proved place o inside in (here.0, (here.1, here.2))

-- what is refuted is valid
abbrev pub RefutedAreValid : FlatDesign → Type 0
RefutedAreValid design =
    IsChecked design → (o : Obligation) (steps : List Step) → IsQueryOf design o
    → IsRefutedBy design o steps → IsValid design o

-- since its clauses have no solution, and what has such clauses is valid
pub refuted_valid : UnmetClausesMeanValid
    → ((clauses : List (List ℤ)) (steps : List Step) → Refutes clauses steps →
    HaveNoSolution clauses)
    → (design : FlatDesign) → RefutedAreValid design
refuted_valid unmet unsolved design checked o steps asked refutes =
    unmet design o checked asked (unsolved (encoding design o).clauses steps refutes)

module _ (design : FlatDesign) (checked : IsChecked design) (law : RefutedAreValid design) where
  proved_valid : (os : List Obligation) → All (IsQueryOf design) os
      → All (IsProved design) os → All (IsValid design) os
  proved_valid [] asked proved = All-nil (IsValid design)
  proved_valid (o ∷ os) asked proved =
      let here = All-head (IsProved design) o os proved in
      All-cons (IsValid design) o os
      (law checked o here.1.0 (All-head (IsQueryOf design) o os asked) here.1.1)
      (proved_valid os (All-tail (IsQueryOf design) o os asked)
      (All-tail (IsProved design) o os proved))

  shown_valid : (os : List Obligation) (logs : List (List Step)) → All (IsQueryOf design) os
      → AllZip (IsShown design) os logs → All (IsValid design) os
  shown_valid [] logs asked shown = All-nil (IsValid design)
  shown_valid (o ∷ os) [] asked shown = absurd shown
  shown_valid (o ∷ os) (steps ∷ logs) asked shown =
      All-cons (IsValid design) o os
      (law checked o steps (All-head (IsQueryOf design) o os asked) shown.0.1)
      (shown_valid os logs (All-tail (IsQueryOf design) o os asked) shown.1)

  asked_all : All (IsQueryOf design) (obligations [] design)
  asked_all = all_are design checked.is_sound checked.admitted

  pub all_proved : (budget : ℕ) → All (IsProvedFor design budget) (obligations [] design)
      → AllValid [] design
  all_proved budget proved =
      proved_valid (obligations [] design) asked_all
      (each_proved design budget (obligations [] design) proved)

  pub all_shown : (logs : List (List Step)) → AllZip (IsShown design) (obligations [] design) logs
      → AllValid [] design
  all_shown logs shown = shown_valid (obligations [] design) logs asked_all shown

-- ---- texts

module _ (top : Option (List ℕ)) (text : List ℕ) (passes : Passes top text) where
  can_flatten : CanBeFlattened passes.stands.tree
  can_flatten =
      read_flattened text passes.stands.tree passes.stands.means
      (releases_nothing passes.stands.tree passes.stands.built)

  pub is_checked : IsChecked passes.design
  is_checked =
      admitted_checked passes.stands.tree top passes.design can_flatten passes.stands.flat
      passes.admitted

  pub valid_keeps : AllValid [] passes.design → KeepsSecrets top text
  valid_keeps valid = record {
    tree = passes.stands.tree;
    means = passes.stands.means;
    only = λ other means. one_meaning text other passes.stands.tree means passes.stands.means;
    noninterferent =
        valid_noninterferent passes.stands.tree top passes.design can_flatten passes.stands.flat
        passes.admitted valid;
    one_trace =
        admitted_one_trace passes.stands.tree top passes.design can_flatten passes.stands.flat
        passes.admitted;
  }

-- ---- answers

-- the answer is no limit and no broken rule
pub record IsFurther (answer : Answer) : Type 0 where
  pub no_limit : (number : ℕ) (names : List (List ℕ)) → answer ≡ limit_exceeded number names → ⊥
  pub no_rule : (number : ℕ) (place : Place) (names : List (List ℕ))
      → answer ≡ rule_broken number place names → ⊥

-- a command that answers so goes on behind the text
module _ (style : Style) (file : List ℕ) (top : Option (List ℕ)) (Own : OwnPart top)
    (exchanges : List Exchange) (answer : Answer) (printed : List ℕ)
    (further : IsFurther answer) where
  pub went_on : AfterText style file top Own exchanges answer printed
      → GoesOn file top Own exchanges answer printed
  went_on (dialogues.oversized long) = absurd (further.no_limit 701 [] long.tells.answers)
  went_on (dialogues.refused refused) =
      let told = refused.refuses in
      absurd (further.no_rule told.number told.place told.names told.answers)
  went_on (dialogues.goes_on on) = on

done_further : IsFurther done
done_further = record {
  no_limit = λ number names same. absurd cc;
  no_rule = λ number place names same. absurd cc;
}

-- a limit is no acceptance
told_limit : (style : Style) (number : ℕ) (names : List (List ℕ)) (printed : List ℕ)
    → TellsLimit style number names done printed → ⊥
told_limit style number names printed tells = let a = tells.answers in cc

module _ (design : FlatDesign) (printed : List ℕ) where
  check_proved : (style : Style) (proof : Option (List ℕ)) (budget : ℕ) (exchanges : List Exchange)
      → checks.Checks style proof budget design exchanges done printed
      → All (IsProvedFor design budget) (obligations [] design)
  check_proved style proof budget exchanges (checks.exceeds none limit) =
      absurd (told_limit style _ _ printed limit.tells)
  check_proved style proof budget exchanges (checks.decides few (checks.accepts stores accepts)) =
      accepts.accepted.each
  check_proved style proof budget exchanges (checks.decides few (checks.falsifies none fails)) =
      let a = fails.answers in absurd cc
  check_proved style proof budget exchanges (checks.decides few (checks.too_large none large)) =
      absurd (told_limit style _ _ printed large.tells)
  check_proved style proof budget exchanges (checks.decides few (checks.spends none spent)) =
      let a = spent.answers in absurd cc

  judged_shown : (bytes : List ℕ) → verifies.Judges design bytes done printed
      → (logs : List (List Step)) × AllZip (IsShown design) (obligations [] design) logs
  judged_shown bytes (verifies.accepts accepts) = (accepts.verified.logs, accepts.verified.each)
  judged_shown bytes (verifies.refuses refuses) = let a = refuses.answers in absurd cc
  judged_shown bytes (verifies.too_large large) = absurd (told_limit Lines _ _ printed large.tells)

  verify_shown : (proof : List ℕ) (exchanges : List Exchange)
      → verifies.Verifies proof design exchanges done printed
      → (logs : List (List Step)) × AllZip (IsShown design) (obligations [] design) logs
  verify_shown proof exchanges (verifies.exceeds none limit) =
      absurd (told_limit Lines _ _ printed limit.tells)
  verify_shown proof exchanges (verifies.oversized few long) =
      absurd (told_limit Lines _ _ printed long.tells)
  verify_shown proof exchanges (verifies.judges few judged) =
      judged_shown judged.bytes judged.judges

module _ (law : (design : FlatDesign) → RefutedAreValid design) (printed : List ℕ) where
  checked_valid : (style : Style) (proof : Option (List ℕ)) (budget : ℕ) (top : Option (List ℕ))
      (text : List ℕ) (passes : Passes top text) (exchanges : List Exchange)
      → checks.Checks style proof budget passes.design exchanges done printed
      → AllValid [] passes.design
  checked_valid style proof budget top text passes exchanges told =
      all_proved passes.design (is_checked top text passes) (law passes.design) budget
      (check_proved passes.design printed style proof budget exchanges told)

  verified_valid : (proof : List ℕ) (top : Option (List ℕ)) (text : List ℕ)
      (passes : Passes top text) (exchanges : List Exchange)
      → verifies.Verifies proof passes.design exchanges done printed → AllValid [] passes.design
  verified_valid proof top text passes exchanges told =
      let shown = verify_shown passes.design printed proof exchanges told in
      all_shown passes.design (is_checked top text passes) (law passes.design) shown.0 shown.1

  sample_valid : (lanes : ℕ) (judges : Bool) → IsTrue judges
      → Generates lanes judges done printed → HasValidObligations None (sample_text lanes)
  sample_valid lanes judges asked (generates.no_sample few limit) =
      absurd (told_limit Lines _ _ printed limit)
  sample_valid lanes judges asked (generates.printed has unasked sample) =
      absurd (both_ways judges unasked asked)
  sample_valid lanes judges asked (generates.judged has is (generates.refused told)) =
      absurd (done_further.no_rule told.number told.place told.names told.answers)
  sample_valid lanes judges asked (generates.judged has is (generates.checked passes told)) =
      record {
        passes = passes;
        valid =
            checked_valid Lines None default_budget None (sample_text lanes) passes [] told;
      }

-- of the text that the command speaks of this holds
abbrev pub OfItsText : Request → List Exchange → (List ℕ → Type 0) → Type 0
OfItsText request exchanges Is = (text : List ℕ) × IsTextOf request exchanges text × Is text

module _ (law : (design : FlatDesign) → RefutedAreValid design) (stimulus printed : List ℕ)
    (exchanges : List Exchange) where
  pub accepted_valid : (request : Request) → Claims request
      → IsDialogue request exchanges stimulus done printed
      → OfItsText request exchanges (HasValidObligations (top_in request))
  accepted_valid (check file proof budget top json) claims is =
      let request = check file proof budget top json in
      let on = went_on (style_in request) file top (own_part request stimulus) exchanges done
      printed done_further is in (
        on.text,
        (file, on.rest, refl, on.fetches),
        record {
          passes = on.passes;
          valid =
              checked_valid law printed (style_in request) proof budget top on.text on.passes
              on.rest on.own;
        },
      )
  accepted_valid (verify file proof top) claims is =
      let request = verify file proof top in
      let on = went_on Lines file top (own_part request stimulus) exchanges done printed
      done_further is in (
        on.text,
        (file, on.rest, refl, on.fetches),
        record {
          passes = on.passes;
          valid = verified_valid law printed proof top on.text on.passes on.rest on.own;
        },
      )
  accepted_valid (list file top) claims is = absurd claims
  accepted_valid (cnf file number top) claims is = absurd claims
  accepted_valid (sim file level order top) claims is = absurd claims
  accepted_valid (compare file first second level top) claims is = absurd claims
  accepted_valid (gen lanes judges) claims is =
      (sample_text lanes, (is.0, refl), sample_valid law printed lanes judges claims is.1)

  pub accepted_keeps : (request : Request) → Claims request
      → IsDialogue request exchanges stimulus done printed
      → OfItsText request exchanges (KeepsSecrets (top_in request))
  accepted_keeps request claims is =
      let found = accepted_valid request claims is in (
        found.0,
        found.1,
        valid_keeps (top_in request) found.0 found.2.passes found.2.valid,
      )
