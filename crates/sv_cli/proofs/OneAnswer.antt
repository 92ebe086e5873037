-- Words, files and a stimulus have one right answer, with one text that is printed for it, but for
-- another circle of rule 607: of every command that decides no obligation.
use Rattle.std.proofs.Common.{◌≡◌, ℕ, Bool, true, false, inl, List, [], ◌∷◌}
use Rattle.std.proofs.Common.{Option, Some, None, refl, sym, ap, ◌∙◌, subst}
use Rattle.std.specs.Prelude.{decimal, nat_lt, IsFalse}
use Rattle.std.proofs.lemmas.Bool.{both_ways, le-ltb, lt-ltb}
use Rattle.sv_ast.specs.GrammarMeaning.{Means}
use Rattle.sv_ast.specs.Tree.{TextTree}
use Rattle.sv_parse_machine.proofs.OneText.{one_meaning}
use Rattle.sv_flat.specs.Admission.{IsAdmitted}
use Rattle.sv_flat.specs.Design.{FlatDesign}
use Rattle.sv_elab_laws.specs.FlattenedTexts.{EachItem, ReleasesNothing}
use Rattle.sv_elab_rules.specs.Texts.{flat_of}
use Rattle.sv_io.specs.Exchange.{Exchange}
use Rattle.sv_gates.specs.Formulas.{most_variables}
use Rattle.sv_paths.specs.Limits.{Excess, excess}
use Rattle.sv_paths.specs.ListLines.{list_text}
use Rattle.sv_obl.specs.Obligations.{Obligation}
use Rattle.sv_encoding.specs.CnfText.{cnf_text}
use Rattle.sv_encoding.specs.Encoding.{encoding}
use Rattle.sv_sim_run.specs.declared.endings.Ending.{Ending}
use Rattle.sv_run_laws.specs.SimulatedTexts.{IsTextSimulated, HasOneWrittenText}
use Rattle.sv_words.specs.Words.{Request, check, verify, list, cnf, sim, compare, gen}
use Rattle.sv_report.specs.Styles.{limit_in}
use Rattle.sv_report.specs.declared.styles.Style.{Style}
use Rattle.sv_report.specs.declared.styles.Style.TheVariants.{Lines}
use Rattle.sv_cli.specs.Answer.{Answer, done, limit_exceeded}
use Rattle.sv_cli.specs.Command.{top_in, style_in}
use Rattle.sv_cli.specs.Dialogues as dialogues
use Rattle.sv_cli.specs.Dialogues.{OwnPart, AfterText, IsRefused, GoesOn, own_part}
use Rattle.sv_cli.specs.Generates as generates
use Rattle.sv_cli.specs.Generates.{Generates}
use Rattle.sv_cli.specs.Limits.{TellsLimit, limit_number, limit_names, ExceedsLimit}
use Rattle.sv_cli.specs.Lists as lists
use Rattle.sv_cli.specs.Lists.{Lists, obligation_at}
use Rattle.sv_cli.specs.Lists.{Encodes}
use Rattle.sv_cli.specs.Simulates.{answer_by, Simulates}
use Rattle.sv_cli.specs.Texts.{Passes, BreaksFirst, RefusesText}
use Rattle.sv_cli.specs.Uniqueness.{IsSure, AreOneAnswer, HasOneAnswer}
use Rattle.sv_cli.specs.Verifies as verifies
use Rattle.sv_cli.specs.Verifies.{Judges, JudgesProof, Verifies}
use Rattle.sv_cli.proofs.OneCertificate.{IsSame, one_limit, one_judgement}
use Rattle.sv_cli.proofs.OneExchange.{one_text, one_rest, whole_or_not}
use Rattle.sv_cli.proofs.OneFinding.{FindsOneThing, one_finding}
use Rattle.sv_cli.proofs.OneRule.{some_is, one_design, passes_all, one_refusal}
use Rattle.sv_cli.proofs.TreeAnswers.{releases_nothing}

-- ---- limits, lists and clauses

pair : (a b : Answer) (p q : List ℕ) → b ≡ a → q ≡ p → ◌≡◌ {A = Answer × List ℕ} (a, p) (b, q)
pair a b p q answers prints =
    ap (λ (x : Answer). (x, p)) (sym answers) ∙ ap (λ (y : List ℕ). (b, y)) (sym prints)

same_from : (given : Answer × List ℕ) (answer other : Answer) (printed others : List ℕ)
    → given ≡ (answer, printed) → given ≡ (other, others) → IsSame answer other printed others
same_from given answer other printed others a b =
    let same = sym b ∙ a in
    (ap (λ (x : Answer × List ℕ). x.0) same, ap (λ (x : Answer × List ℕ). x.1) same)

-- the answer and the text of a limit
abbrev limit_told : ℕ → List (List ℕ) → Answer × List ℕ
limit_told number names = (limit_exceeded number names, limit_in Lines number names)

is_told : (n : ℕ) (ns : List (List ℕ)) (answer : Answer) (printed : List ℕ)
    → TellsLimit Lines n ns answer printed → limit_told n ns ≡ (answer, printed)
is_told n ns answer printed tells =
    pair (limit_exceeded n ns) answer (limit_in Lines n ns) printed tells.answers tells.prints

module _ (design : FlatDesign) where
  -- what is given by the first limit that is exceeded, or else
  abbrev by_limit : (Unit {0} → Answer × List ℕ) → Option Excess → Answer × List ℕ
  by_limit other None = other tt
  by_limit other (Some e) = limit_told (limit_number e) (limit_names design.signals e)

  given : (Unit {0} → Answer × List ℕ) → Answer × List ℕ
  given other = by_limit other (excess design)

  exceeds_is : (other : Unit {0} → Answer × List ℕ) (answer : Answer) (printed : List ℕ)
      → ExceedsLimit Lines design answer printed → given other ≡ (answer, printed)
  unfolding given
  exceeds_is other answer printed v =
      ap (by_limit other) v.first
      ∙ is_told (limit_number v.exceeded) (limit_names design.signals v.exceeded) answer printed
      v.tells

  few_is : (other : Unit {0} → Answer × List ℕ) (answer : Answer) (printed : List ℕ)
      → excess design ≡ None → other tt ≡ (answer, printed) → given other ≡ (answer, printed)
  unfolding given
  few_is other answer printed few is = ap (by_limit other) few ∙ is

  -- ---- lists

  abbrev listed : Unit {0} → Answer × List ℕ
  listed x = (done, list_text design)

  list_is : (answer : Answer) (printed : List ℕ) → Lists design answer printed
      → given listed ≡ (answer, printed)
  list_is answer printed (lists.exceeds v) = exceeds_is listed answer printed v
  list_is answer printed (lists.listed v) =
      few_is listed answer printed v.few
      (pair done answer (list_text design) printed v.answers v.prints)

  one_list : (answer other : Answer) (printed others : List ℕ) → Lists design answer printed
      → Lists design other others → IsSame answer other printed others
  one_list answer other printed others a b =
      same_from (given listed) answer other printed others (list_is answer printed a)
      (list_is other others b)

  -- ---- clauses

  module _ (asked : ℕ) where
    abbrev by_size : Obligation → (large : Bool) → Answer × List ℕ
    by_size o true = limit_told 709 (decimal asked ∷ [])
    by_size o false = (done, cnf_text (encoding design o))

    abbrev by_number : Option Obligation → Answer × List ℕ
    by_number None = limit_told 706 []
    by_number (Some o) = by_size o (nat_lt most_variables (encoding design o).variables)

    abbrev encoded : Unit {0} → Answer × List ℕ
    encoded x = by_number (obligation_at design asked)

    encoded_is : (answer : Answer) (printed : List ℕ) → Encodes asked design answer printed
        → given encoded ≡ (answer, printed)
    encoded_is answer printed (lists.exceeds v) = exceeds_is encoded answer printed v
    encoded_is answer printed (lists.lacks v) =
        few_is encoded answer printed v.few
        (ap by_number v.none ∙ is_told 706 [] answer printed v.tells)
    encoded_is answer printed (lists.too_large v) =
        let o = v.obligation in
        few_is encoded answer printed v.few
        (ap by_number v.found
        ∙ ap (by_size o) (lt-ltb most_variables (encoding design o).variables v.large)
        ∙ is_told 709 (decimal asked ∷ []) answer printed v.tells)
    encoded_is answer printed (lists.encoded v) =
        let o = v.obligation in
        few_is encoded answer printed v.few
        (ap by_number v.found
        ∙ ap (by_size o) (le-ltb most_variables (encoding design o).variables v.fits)
        ∙ pair done answer (cnf_text (encoding design o)) printed v.answers v.prints)

    one_encoding : (answer other : Answer) (printed others : List ℕ)
        → Encodes asked design answer printed → Encodes asked design other others
        → IsSame answer other printed others
    one_encoding answer other printed others a b =
        same_from (given encoded) answer other printed others (encoded_is answer printed a)
        (encoded_is other others b)

  -- ---- certificates

  pub few_or_many : (style : Style) (answer : Answer) (printed : List ℕ) → excess design ≡ None
      → ExceedsLimit style design answer printed → ⊥
  few_or_many style answer printed few v =
      let both : None ≡ Some v.exceeded = sym few ∙ v.first in absurd cc

  pub one_excess : (style : Style) (answer other : Answer) (printed others : List ℕ)
      → ExceedsLimit style design answer printed → ExceedsLimit style design other others
      → IsSame answer other printed others
  one_excess style answer other printed others a b =
      let same = some_is a.exceeded b.exceeded (sym a.first ∙ b.first) in
      one_limit style (limit_number a.exceeded) (limit_number b.exceeded)
      (limit_names design.signals a.exceeded) (limit_names design.signals b.exceeded) answer other
      printed others (ap limit_number same) (ap (limit_names design.signals) same) a.tells b.tells

  module _ (proof : List ℕ) (exchanges : List Exchange) (answer other : Answer)
      (printed others : List ℕ) where
    one_proof : JudgesProof proof design exchanges answer printed
        → JudgesProof proof design exchanges other others → IsSame answer other printed others
    one_proof a b =
        let same = one_text proof b.bytes a.bytes exchanges [] [] b.fetches a.fetches in
        one_judgement design a.bytes answer other printed others a.judges
        (subst (λ (bytes : List ℕ). Judges design bytes other others) same b.judges)

    one_verdict : Verifies proof design exchanges answer printed
        → Verifies proof design exchanges other others → IsSame answer other printed others
    one_verdict (verifies.exceeds none a) (verifies.exceeds none' b) =
        one_excess Lines answer other printed others a b
    one_verdict (verifies.exceeds none a) (verifies.oversized few b) =
        absurd (few_or_many Lines answer printed few a)
    one_verdict (verifies.exceeds none a) (verifies.judges few b) =
        absurd (few_or_many Lines answer printed few a)
    one_verdict (verifies.oversized few a) (verifies.exceeds none b) =
        absurd (few_or_many Lines other others few b)
    one_verdict (verifies.oversized few a) (verifies.oversized few' b) =
        one_limit Lines 710 710 [] [] answer other printed others refl refl a.tells b.tells
    one_verdict (verifies.oversized few a) (verifies.judges few' b) =
        absurd (whole_or_not proof b.bytes a.bytes exchanges [] [] b.fetches a.fetches)
    one_verdict (verifies.judges few a) (verifies.exceeds none b) =
        absurd (few_or_many Lines other others few b)
    one_verdict (verifies.judges few a) (verifies.oversized few' b) =
        absurd (whole_or_not proof a.bytes b.bytes exchanges [] [] a.fetches b.fetches)
    one_verdict (verifies.judges few a) (verifies.judges few' b) = one_proof a b

-- ---- simulations

-- each stimulus of a text has one text that is written
abbrev pub WritesOneText : Type 0
WritesOneText =
    (bytes : List ℕ) (tree : TextTree) (asked : Option (List ℕ)) (design : FlatDesign)
    → Means bytes tree → EachItem ReleasesNothing tree → flat_of tree asked ≡ Some design
    → IsAdmitted design → HasOneWrittenText tree asked design

module _ (law : WritesOneText) (level : Option (List ℕ)) (order : Option ℕ)
    (top : Option (List ℕ)) (text : List ℕ) (p q : Passes top text) (stimulus : List ℕ)
    (answer other : Answer) (printed others : List ℕ) where
  -- the second text is that of this tree and this design
  abbrev IsWritten : Ending → TextTree → FlatDesign → Type 0
  IsWritten ends tree design = IsTextSimulated tree top design level order stimulus ends others

  one_simulation : Simulates level order top text p stimulus answer printed
      → Simulates level order top text q stimulus other others
      → IsSame answer other printed others
  one_simulation a b =
      let tree = one_meaning text q.stands.tree p.stands.tree q.stands.means p.stands.means in
      let design = one_design top text q.design p.design q.stands p.stands in
      let simulates = subst (λ (t : TextTree). IsWritten b.ends t p.design) tree
      (subst (IsWritten b.ends q.stands.tree) design b.simulates) in
      let one = law text p.stands.tree top p.design p.stands.means
      (releases_nothing p.stands.tree p.stands.built) p.stands.flat p.admitted level order
      stimulus in
      let first = one.3 a.ends printed a.simulates in
      let second = one.3 b.ends others simulates in (
        b.answers ∙ ap answer_by (second.0 ∙ sym first.0) ∙ sym a.answers,
        second.1 ∙ sym first.1,
      )

-- ---- samples

module _ (lanes : ℕ) (answer other : Answer) (printed others : List ℕ) where
  one_sample : (checks : Bool) → IsFalse checks → Generates lanes checks answer printed
      → Generates lanes checks other others → IsSame answer other printed others
  one_sample checks unasked (generates.no_sample few a) (generates.no_sample few' b) =
      one_limit Lines 705 705 [] [] answer other printed others refl refl a b
  one_sample checks unasked (generates.no_sample few a) (generates.printed has is b) =
      absurd (few has)
  one_sample checks unasked (generates.printed has is a) (generates.no_sample few b) =
      absurd (few has)
  one_sample checks unasked (generates.printed has is a) (generates.printed has' is' b) =
      (b.answers ∙ sym a.answers, b.prints ∙ sym a.prints)
  one_sample checks unasked (generates.no_sample few a) (generates.judged has asked b) =
      absurd (both_ways checks unasked asked)
  one_sample checks unasked (generates.printed has is a) (generates.judged has' asked b) =
      absurd (both_ways checks unasked asked)
  one_sample checks unasked (generates.judged has asked a) b =
      absurd (both_ways checks unasked asked)

-- ---- commands

-- two answers of a command of its own are one
abbrev IsOnce : (top : Option (List ℕ)) → OwnPart top → Type 0
IsOnce top Own =
    (text : List ℕ) (p q : Passes top text) (exchanges : List Exchange) (answer other : Answer)
    (printed others : List ℕ) → Own text p exchanges answer printed
    → Own text q exchanges other others → IsSame answer other printed others

module _ (writes : WritesOneText) (finds : FindsOneThing) (stimulus : List ℕ) where
  once : (request : Request) → IsSure request → IsOnce (top_in request) (own_part request stimulus)
  once (check file proof budget top json) sure text p q exchanges answer other printed others a b =
      absurd sure
  once (verify file proof top) sure text p q exchanges answer other printed others a b =
      one_verdict p.design proof exchanges answer other printed others a
      (subst (λ (d : FlatDesign). Verifies proof d exchanges other others)
      (one_design top text q.design p.design q.stands p.stands) b)
  once (list file top) sure text p q exchanges answer other printed others a b =
      one_list p.design answer other printed others a.1
      (subst (λ (d : FlatDesign). Lists d other others)
      (one_design top text q.design p.design q.stands p.stands) b.1)
  once (cnf file number top) sure text p q exchanges answer other printed others a b =
      one_encoding p.design number answer other printed others a.1
      (subst (λ (d : FlatDesign). Encodes number d other others)
      (one_design top text q.design p.design q.stands p.stands) b.1)
  once (sim file level order top) sure text p q exchanges answer other printed others a b =
      one_simulation writes level order top text p q stimulus answer other printed others a.1 b.1
  once (compare file first second level top) sure text p q exchanges answer other printed others
      a b =
      one_finding finds first second level top text p q exchanges answer other printed others a b
  once (gen lanes checks) sure text p q exchanges answer other printed others a b = absurd a

-- ---- texts

module _ (style : Style) (file : List ℕ) (top : Option (List ℕ)) (Own : OwnPart top)
    (exchanges : List Exchange) (answer other : Answer) (printed others : List ℕ) where
  -- a text that is refused does not pass
  refused_or_passes : IsRefused style file top exchanges answer printed
      → GoesOn file top Own exchanges other others → ⊥
  refused_or_passes a b =
      let same = one_text file a.text b.text exchanges [] b.rest a.fetches b.fetches in
      let told = a.refuses in
      passes_all top b.text b.passes told.number told.place told.names
      (subst (λ (t : List ℕ). BreaksFirst top t told.number told.place told.names) same
      told.broken)

  both_refused : IsRefused style file top exchanges answer printed
      → IsRefused style file top exchanges other others → AreOneAnswer answer other printed others
  both_refused a b =
      let same = one_text file b.text a.text exchanges [] [] b.fetches a.fetches in
      one_refusal top style a.text answer other printed others a.refuses
      (subst (λ (t : List ℕ). RefusesText style top t other others) same b.refuses)

-- what holds of two answers that are one, and of two answers of the command's own part for a text
module _ (style : Style) (file : List ℕ) (top : Option (List ℕ)) (Own : OwnPart top)
    (exchanges : List Exchange) (answer other : Answer) (printed others : List ℕ) (Alike : Type 0)
    (one : AreOneAnswer answer other printed others → Alike)
    (own : (text : List ℕ) (p q : Passes top text) (rest : List Exchange)
    → Own text p rest answer printed → Own text q rest other others → Alike) where
  -- the command's own part for a text
  abbrev Goes : List ℕ → List Exchange → Type 0
  Goes text rest = (passes : Passes top text) × Own text passes rest other others

  both_go_on : GoesOn file top Own exchanges answer printed
      → GoesOn file top Own exchanges other others → Alike
  both_go_on a b =
      let same = one_text file b.text a.text exchanges b.rest a.rest b.fetches a.fetches in
      let rest = one_rest file b.text a.text exchanges b.rest a.rest b.fetches a.fetches in
      let goes : Goes a.text a.rest =
      subst (λ (r : List Exchange). Goes a.text r) rest
      (subst (λ (t : List ℕ). Goes t b.rest) same (b.passes, b.own)) in
      own a.text a.passes goes.0 a.rest a.own goes.1

  pub alike_after_text : AfterText style file top Own exchanges answer printed
      → AfterText style file top Own exchanges other others → Alike
  alike_after_text (dialogues.oversized a) (dialogues.oversized b) =
      one (inl (one_limit style 701 701 [] [] answer other printed others refl refl a.tells
      b.tells))
  alike_after_text (dialogues.oversized a) (dialogues.refused b) =
      absurd (whole_or_not file b.text a.text exchanges [] [] b.fetches a.fetches)
  alike_after_text (dialogues.oversized a) (dialogues.goes_on b) =
      absurd (whole_or_not file b.text a.text exchanges b.rest [] b.fetches a.fetches)
  alike_after_text (dialogues.refused a) (dialogues.oversized b) =
      absurd (whole_or_not file a.text b.text exchanges [] [] a.fetches b.fetches)
  alike_after_text (dialogues.refused a) (dialogues.refused b) =
      one (both_refused style file top Own exchanges answer other printed others a b)
  alike_after_text (dialogues.refused a) (dialogues.goes_on b) =
      absurd (refused_or_passes style file top Own exchanges answer other printed others a b)
  alike_after_text (dialogues.goes_on a) (dialogues.oversized b) =
      absurd (whole_or_not file a.text b.text exchanges a.rest [] a.fetches b.fetches)
  alike_after_text (dialogues.goes_on a) (dialogues.refused b) =
      absurd (refused_or_passes style file top Own exchanges other answer others printed b a)
  alike_after_text (dialogues.goes_on a) (dialogues.goes_on b) =
      both_go_on a b

module _ (writes : WritesOneText) (finds : FindsOneThing) where
  -- of a command with FILE
  one_with : (request : Request) → IsSure request → (file : List ℕ) (exchanges : List Exchange)
      (stimulus : List ℕ) (answer other : Answer) (printed others : List ℕ)
      → AfterText (style_in request) file (top_in request) (own_part request stimulus) exchanges
      answer printed
      → AfterText (style_in request) file (top_in request) (own_part request stimulus) exchanges
      other others → AreOneAnswer answer other printed others
  one_with request sure file exchanges stimulus answer other printed others a b =
      alike_after_text (style_in request) file (top_in request) (own_part request stimulus)
      exchanges answer other printed others (AreOneAnswer answer other printed others)
      (λ one. one)
      (λ text p q rest x y.
      inl (once writes finds stimulus request sure text p q rest answer other printed others x y))
      a b

  pub one_answer : (request : Request) → IsSure request → HasOneAnswer request
  one_answer (check file proof budget top json) sure exchanges stimulus answer other printed others
      a b =
      absurd sure
  one_answer (verify file proof top) sure exchanges stimulus answer other printed others a b =
      one_with (verify file proof top) sure file exchanges stimulus answer other printed others a b
  one_answer (list file top) sure exchanges stimulus answer other printed others a b =
      one_with (list file top) sure file exchanges stimulus answer other printed others a b
  one_answer (cnf file number top) sure exchanges stimulus answer other printed others a b =
      one_with (cnf file number top) sure file exchanges stimulus answer other printed others a b
  one_answer (sim file level order top) sure exchanges stimulus answer other printed others a b =
      one_with (sim file level order top) sure file exchanges stimulus answer other printed others
      a b
  one_answer (compare file first second level top) sure exchanges stimulus answer other printed
      others a b =
      one_with (compare file first second level top) sure file exchanges stimulus answer other
      printed others a b
  one_answer (gen lanes checks) sure exchanges stimulus answer other printed others a b =
      inl (one_sample lanes answer other printed others checks sure a.1 b.1)
