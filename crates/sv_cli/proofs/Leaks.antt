-- Of a text that keeps its secrets `compare` never tells that what is given looks alike and the
-- views differ.
use Rattle.std.proofs.Common.{◌≡◌, ℕ, Bool, List, [], Option, refl, sym, subst}
use Rattle.sv_system.specs.System.{Noninterferent}
use Rattle.sv_ast.specs.Parts.{Path}
use Rattle.sv_ast.specs.TextSystem.{text_system}
use Rattle.sv_ast.specs.Tree.{TextTree}
use Rattle.sv_flat.specs.Design.{FlatDesign}
use Rattle.sv_io.specs.Exchange.{Exchange}
use Rattle.sv_sim_run.specs.declared.endings.Ending.{Ending}
use Rattle.sv_sim_run.specs.declared.endings.Ending.TheVariants as endings
use Rattle.sv_tworun.specs.Comparisons.{FindsNoLeak}
use Rattle.sv_tworun.specs.Forms.{Finding}
use Rattle.sv_tworun.specs.Forms as finding
use Rattle.sv_run_laws.specs.FalsifiedTexts.{number_of}
use Rattle.sv_run_laws.specs.Signals.{text_signals}
use Rattle.sv_run_laws.specs.SimulatedTexts.{text_form}
use Rattle.sv_compare.specs.ComparedTexts.{IsTextCompared, numbered}
use Rattle.sv_words.specs.Words.{Request, check, verify, list, cnf, sim, compare, gen}
use Rattle.sv_report.specs.declared.styles.Style.{Style}
use Rattle.sv_report.specs.declared.styles.Style.TheVariants.{Lines}
use Rattle.sv_cli.specs.Answer.{Answer, views_differ}
use Rattle.sv_cli.specs.Checks as checks
use Rattle.sv_cli.specs.Checks.{Checks}
use Rattle.sv_cli.specs.Command.{top_in, style_in}
use Rattle.sv_cli.specs.Compares as compares
use Rattle.sv_cli.specs.Compares.{answer_of_finding, Compares}
use Rattle.sv_cli.specs.Dialogues.{IsDialogue, own_part}
use Rattle.sv_cli.specs.Generates as generates
use Rattle.sv_cli.specs.Generates.{Generates}
use Rattle.sv_cli.specs.Limits.{TellsLimit}
use Rattle.sv_cli.specs.Lists as lists
use Rattle.sv_cli.specs.Lists.{Lists, Encodes}
use Rattle.sv_cli.specs.Simulates.{answer_by}
use Rattle.sv_cli.specs.Texts.{Passes, KeepsSecrets}
use Rattle.sv_cli.specs.Verifies as verifies
use Rattle.sv_cli.specs.Verifies.{Verifies}
use Rattle.sv_cli.proofs.Secrets.{IsFurther, went_on, OfItsText}

-- ---- who tells so

module _ (cycle signal : ℕ) (printed : List ℕ) where
  abbrev leak : Answer
  leak = views_differ cycle signal

  leak_further : IsFurther leak
  leak_further = record {
    no_limit = λ number names same. absurd cc;
    no_rule = λ number place names same. absurd cc;
  }

  no_limit : (style : Style) (number : ℕ) (names : List (List ℕ))
      → TellsLimit style number names leak printed → ⊥
  no_limit style number names tells = leak_further.no_limit number names tells.answers

  no_check : (style : Style) (proof : Option (List ℕ)) (budget : ℕ) (design : FlatDesign)
      (exchanges : List Exchange) → Checks style proof budget design exchanges leak printed → ⊥
  no_check style proof budget design exchanges (checks.exceeds none limit) =
      no_limit style _ _ limit.tells
  no_check style proof budget design exchanges (checks.decides few (checks.accepts stores told)) =
      let a = told.answers in cc
  no_check style proof budget design exchanges (checks.decides few (checks.falsifies none told)) =
      let a = told.answers in cc
  no_check style proof budget design exchanges (checks.decides few (checks.too_large none told)) =
      no_limit style _ _ told.tells
  no_check style proof budget design exchanges (checks.decides few (checks.spends none told)) =
      let a = told.answers in cc

  no_verdict : (proof : List ℕ) (design : FlatDesign) (exchanges : List Exchange)
      → Verifies proof design exchanges leak printed → ⊥
  no_verdict proof design exchanges (verifies.exceeds none limit) = no_limit Lines _ _ limit.tells
  no_verdict proof design exchanges (verifies.oversized few long) = no_limit Lines _ _ long.tells
  no_verdict proof design exchanges (verifies.judges few told) = by_kind told.judges
    where
      by_kind : {bytes : List ℕ} → verifies.Judges design bytes leak printed → ⊥
      by_kind (verifies.accepts judged) = let a = judged.answers in cc
      by_kind (verifies.refuses judged) = let a = judged.answers in cc
      by_kind (verifies.too_large judged) = no_limit Lines _ _ judged.tells

  no_list : (design : FlatDesign) → Lists design leak printed → ⊥
  no_list design (lists.exceeds limit) = no_limit Lines _ _ limit.tells
  no_list design (lists.listed told) = let a = told.answers in cc

  no_clauses : (number : ℕ) (design : FlatDesign) → Encodes number design leak printed → ⊥
  no_clauses number design (lists.exceeds limit) = no_limit Lines _ _ limit.tells
  no_clauses number design (lists.lacks told) = no_limit Lines _ _ told.tells
  no_clauses number design (lists.too_large told) = no_limit Lines _ _ told.tells
  no_clauses number design (lists.encoded told) = let a = told.answers in cc

  no_ending : (ends : Ending) → leak ≡ answer_by ends → ⊥
  no_ending endings.Done same = cc
  no_ending endings.NoLevel same = cc
  no_ending endings.TooLarge same = cc
  no_ending (endings.WrongLine line kind) same = cc

  no_sample : (lanes : ℕ) (judges : Bool) → Generates lanes judges leak printed → ⊥
  no_sample lanes judges (generates.no_sample few limit) = no_limit Lines _ _ limit
  no_sample lanes judges (generates.printed has is told) = let a = told.answers in cc
  no_sample lanes judges (generates.judged has is (generates.refused told)) =
      leak_further.no_rule told.number told.place told.names told.answers
  no_sample lanes judges (generates.judged has is (generates.checked passes told)) =
      no_check Lines _ _ passes.design [] told

-- ---- of what

-- of a text that keeps its secrets no leak is found
abbrev pub ShowsNoLeak : Type 0
ShowsNoLeak =
    (tree : TextTree) (asked : Option (List ℕ)) → Noninterferent (text_system tree asked)
    → (level first second : List ℕ) (found : Finding Path)
    → IsTextCompared tree asked level first second found → FindsNoLeak found

module _ (cycle signal : ℕ) where
  found_leak : (number : Path → ℕ) (found : Finding Path) → FindsNoLeak found
      → views_differ cycle signal ≡ answer_of_finding (numbered number found) → ⊥
  found_leak number (finding.equal cycles) none same = cc
  found_leak number (finding.inputs_differ at told) none same = cc
  found_leak number (finding.views_differ at told) none same = none
  found_leak number (finding.lengths_differ cycles) none same = cc

module _ (law : ShowsNoLeak) (cycle signal : ℕ) (printed : List ℕ) (a b level : List ℕ)
    (tree : TextTree) (top : Option (List ℕ)) (keeps : Noninterferent (text_system tree top))
    (exchanges : List Exchange) where
  no_comparison : Compares a b level tree top exchanges (views_differ cycle signal) printed → ⊥
  no_comparison (compares.no_level off none limit) = no_limit cycle signal printed Lines _ _ limit
  no_comparison (compares.first_oversized is long) =
      no_limit cycle signal printed Lines _ _ long.tells
  no_comparison (compares.second_oversized is long) =
      no_limit cycle signal printed Lines _ _ long.tells
  no_comparison (compares.compared is told) = by_kind told.compares
    where
      by_kind : {first second : List ℕ}
          → compares.ComparesStimuli (text_form tree top) (compares.Finds tree top level) first
          second (views_differ cycle signal) printed → ⊥
      by_kind (compares.first_wrong wrong) = let answers = wrong.answers in cc
      by_kind (compares.second_wrong right wrong) = let answers = wrong.answers in cc
      by_kind {first} {second} (compares.compared right right' is) =
          found_leak cycle signal (number_of (text_signals tree top)) is.found
          (law tree top keeps level first second is.found is.finds) is.answers

-- ---- texts

module _ (law : ShowsNoLeak) (exchanges : List Exchange) (stimulus printed : List ℕ)
    (cycle signal : ℕ) where
  -- this text does not keep its secrets
  abbrev HasOther : (top : Option (List ℕ)) → List ℕ → Type 0
  HasOther top text = KeepsSecrets top text → ⊥

  compared_text : (a b level : List ℕ) (top : Option (List ℕ)) (text : List ℕ)
      (passes : Passes top text) (rest : List Exchange)
      → Compares a b level passes.stands.tree top rest (views_differ cycle signal) printed
      → HasOther top text
  compared_text a b level top text passes rest told keeps =
      let same = sym (keeps.only passes.stands.tree passes.stands.means) in
      no_comparison law cycle signal printed a b level passes.stands.tree top
      (subst (λ (t : TextTree). Noninterferent (text_system t top)) same keeps.noninterferent) rest
      told

  pub no_leak : (request : Request)
      → IsDialogue request exchanges stimulus (views_differ cycle signal) printed
      → OfItsText request exchanges (HasOther (top_in request))
  no_leak (check file proof budget top json) is =
      let request = check file proof budget top json in
      let on = went_on (style_in request) file top (own_part request stimulus) exchanges
      (views_differ cycle signal) printed (leak_further cycle signal printed) is in
      absurd (no_check cycle signal printed (style_in request) proof budget on.passes.design
      on.rest on.own)
  no_leak (verify file proof top) is =
      let on = went_on Lines file top (own_part (verify file proof top) stimulus) exchanges
      (views_differ cycle signal) printed (leak_further cycle signal printed) is in
      absurd (no_verdict cycle signal printed proof on.passes.design on.rest on.own)
  no_leak (list file top) is =
      let on = went_on Lines file top (own_part (list file top) stimulus) exchanges
      (views_differ cycle signal) printed (leak_further cycle signal printed) is in
      absurd (no_list cycle signal printed on.passes.design on.own.1)
  no_leak (cnf file number top) is =
      let on = went_on Lines file top (own_part (cnf file number top) stimulus) exchanges
      (views_differ cycle signal) printed (leak_further cycle signal printed) is in
      absurd (no_clauses cycle signal printed number on.passes.design on.own.1)
  no_leak (sim file level order top) is =
      let on = went_on Lines file top (own_part (sim file level order top) stimulus) exchanges
      (views_differ cycle signal) printed (leak_further cycle signal printed) is in
      absurd (no_ending cycle signal printed on.own.1.ends on.own.1.answers)
  no_leak (compare file a b level top) is =
      let on = went_on Lines file top (own_part (compare file a b level top) stimulus) exchanges
      (views_differ cycle signal) printed (leak_further cycle signal printed) is in (
        on.text,
        (file, on.rest, refl, on.fetches),
        compared_text a b level top on.text on.passes on.rest on.own,
      )
  no_leak (gen lanes judges) is = absurd (no_sample cycle signal printed lanes judges is.1)
