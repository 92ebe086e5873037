-- What `compare` answers is one: a text and two stimuli have one finding, and a stimulus has one
-- first wrong line.
use Rattle.std.proofs.Common.{◌≡◌, ℕ, ◌+◌, Bool, List, [], ◌∷◌, length, Option, Some, None, refl}
use Rattle.std.proofs.Common.{sym, ap, ◌∙◌, subst}
use Rattle.std.specs.Prelude.{codes, IsTrue, option_map}
use Rattle.std.specs.Str.{bytes_eq}
use Rattle.std.proofs.lemmas.Bool.{both_ways}
use Rattle.sv_io.specs.Exchange.{Exchange, fetched, whole, too_long}
use Rattle.sv_ast.specs.GrammarMeaning.{Means}
use Rattle.sv_ast.specs.Reach.{holds}
use Rattle.sv_ast.specs.SourceLabels.{points}
use Rattle.sv_ast.specs.Tree.{TextTree}
use Rattle.sv_parse_machine.proofs.OneText.{one_meaning}
use Rattle.sv_flat.specs.Admission.{IsAdmitted}
use Rattle.sv_flat.specs.Design.{FlatDesign}
use Rattle.sv_elab_laws.specs.FlattenedTexts.{EachItem, ReleasesNothing}
use Rattle.sv_elab_rules.specs.Texts.{flat_of}
use Rattle.sv_trace.specs.declared.faults.StimFault.{StimFault}
use Rattle.sv_trace.specs.declared.faults.StimFault.TheVariants.{Line}
use Rattle.sv_texts.specs.declared.stimuli.StimKind.{StimKind}
use Rattle.sv_trace.specs.Forms.{StimForm}
use Rattle.sv_trace.specs.Stimulus.{LinesRead, read_whole}
use Rattle.sv_tworun.specs.Forms.{Finding}
use Rattle.sv_run_laws.specs.FalsifiedTexts.{number_of}
use Rattle.sv_run_laws.specs.Signals.{text_signals, dotted}
use Rattle.sv_run_laws.specs.SimulatedTexts.{text_form}
use Rattle.sv_compare.specs.ComparedTexts.{IsTextCompared, HasOneFinding, numbered, named}
use Rattle.sv_texts.specs.Texts.{stimulus_text}
use Rattle.sv_report.specs.declared.styles.Style.TheVariants.{Lines}
use Rattle.sv_texts.specs.declared.stimuli.StimSource.{StimSource}
use Rattle.sv_texts.specs.declared.stimuli.StimSource.TheVariants.{FileA, FileB}
use Rattle.sv_cli.specs.Answer.{Answer, stimulus_refused}
use Rattle.sv_cli.specs.Compares as compares
use Rattle.sv_cli.specs.Compares.{answer_of_finding, finding_text, TellsFinding, TellsOfBoth, Finds}
use Rattle.sv_cli.specs.Compares.{RefusesStimulus, ComparesStimuli, ComparesFetched, ComparesFiles}
use Rattle.sv_cli.specs.Compares.{is_level, Compares}
use Rattle.sv_cli.specs.Texts.{Passes}
use Rattle.sv_cli.proofs.OneCertificate.{IsSame, one_limit}
use Rattle.sv_cli.proofs.OneExchange.{one_text, one_rest, whole_or_not}
use Rattle.sv_cli.proofs.TreeAnswers.{releases_nothing}

-- ---- the first wrong line

same_line : (n m : ℕ) (k l : StimKind)
    → ◌≡◌ {A = Option StimFault} (Some (Line n k)) (Some (Line m l)) → (n ≡ m) × (k ≡ l)
same_line n m k l same = (cc, cc)

no_line : (n : ℕ) (k : StimKind) → ◌≡◌ {A = Option StimFault} None (Some (Line n k)) → ⊥
no_line n k none = absurd cc

module _ (source : StimSource) (read : LinesRead) (answer : Answer) (printed : List ℕ) where
  -- of right lines none is told
  right_or_wrong : read.wrong ≡ None → RefusesStimulus source read answer printed → ⊥
  right_or_wrong right told =
      no_line told.line told.kind
      (sym (ap (option_map (Line (length read.right + 1))) right) ∙ told.wrong)

  one_line : (other : Answer) (others : List ℕ) → RefusesStimulus source read answer printed
      → RefusesStimulus source read other others → IsSame answer other printed others
  one_line other others a b =
      let same = same_line a.line b.line a.kind b.kind (sym a.wrong ∙ b.wrong) in (
        b.answers
            ∙ ap (λ n. stimulus_refused source n b.kind) (sym same.0)
            ∙ ap (stimulus_refused source a.line) (sym same.1) ∙ sym a.answers,
        b.prints
            ∙ ap (λ n. stimulus_text source n b.kind) (sym same.0)
            ∙ ap (stimulus_text source a.line) (sym same.1) ∙ sym a.prints,
      )

-- ---- what is found

-- what is told of one finding is one
one_told : {Signal : Type 0} (number : Signal → ℕ) (name : Signal → List ℕ)
    (IsFound : Finding Signal → Type 0) (found : Finding Signal)
    → ((other : Finding Signal) → IsFound other → other ≡ found)
    → (answer other : Answer) (printed others : List ℕ)
    → TellsFinding number name IsFound answer printed
    → TellsFinding number name IsFound other others → IsSame answer other printed others
one_told number name IsFound found only answer other printed others a b =
    let same = only b.found b.finds ∙ sym (only a.found a.finds) in (
      b.answers ∙ ap (λ f. answer_of_finding (numbered number f)) same ∙ sym a.answers,
      b.prints ∙ ap (λ f. finding_text (named name f)) same ∙ sym a.prints,
    )

-- ---- the stimuli and their files

module _ (a b : List ℕ) (is_point : Bool) (form : StimForm) (Tells : TellsOfBoth)
    (once : IsTrue is_point → (first second : List ℕ) (answer other : Answer)
    (printed others : List ℕ) → Tells first second answer printed
    → Tells first second other others → IsSame answer other printed others)
    (answer other : Answer) (printed others : List ℕ) where
  one_comparison : IsTrue is_point → (first second : List ℕ)
      → ComparesStimuli form Tells first second answer printed
      → ComparesStimuli form Tells first second other others
      → IsSame answer other printed others
  one_comparison level first second (compares.first_wrong x) (compares.first_wrong y) =
      one_line FileA (read_whole form first) answer printed other others x y
  one_comparison level first second (compares.first_wrong x) (compares.second_wrong right y) =
      absurd (right_or_wrong FileA (read_whole form first) answer printed right x)
  one_comparison level first second (compares.first_wrong x) (compares.compared right right' y) =
      absurd (right_or_wrong FileA (read_whole form first) answer printed right x)
  one_comparison level first second (compares.second_wrong right x) (compares.first_wrong y) =
      absurd (right_or_wrong FileA (read_whole form first) other others right y)
  one_comparison level first second (compares.second_wrong right x)
      (compares.second_wrong right' y) =
      one_line FileB (read_whole form second) answer printed other others x y
  one_comparison level first second (compares.second_wrong right x)
      (compares.compared right' right'' y) =
      absurd (right_or_wrong FileB (read_whole form second) answer printed right'' x)
  one_comparison level first second (compares.compared right right' x) (compares.first_wrong y) =
      absurd (right_or_wrong FileA (read_whole form first) other others right y)
  one_comparison level first second (compares.compared right right' x)
      (compares.second_wrong right'' y) =
      absurd (right_or_wrong FileB (read_whole form second) other others right' y)
  one_comparison level first second (compares.compared right right' x)
      (compares.compared right'' right''' y) =
      once level first second answer other printed others x y

  module _ (exchanges : List Exchange) where
    one_fetched : IsTrue is_point → ComparesFetched a b form Tells exchanges answer printed
        → ComparesFetched a b form Tells exchanges other others
        → IsSame answer other printed others
    one_fetched level x y =
        let first = one_text a y.first x.first exchanges (fetched b (whole y.second) ∷ [])
        (fetched b (whole x.second) ∷ []) y.fetches x.fetches in
        let rest = one_rest a y.first x.first exchanges (fetched b (whole y.second) ∷ [])
        (fetched b (whole x.second) ∷ []) y.fetches x.fetches in
        let second = one_text b y.second x.second (fetched b (whole y.second) ∷ []) [] [] refl
        rest in
        one_comparison level x.first x.second x.compares
        (subst (λ (t : List ℕ). ComparesStimuli form Tells t x.second other others) first
        (subst (λ (t : List ℕ). ComparesStimuli form Tells y.first t other others) second
        y.compares))

    -- what was handed out of B is a stimulus within the limit or is not
    second_or_not : (first second bytes given : List ℕ)
        → exchanges ≡ fetched a (whole first) ∷ fetched b (whole second) ∷ []
        → exchanges ≡ fetched a (whole given) ∷ fetched b (too_long bytes) ∷ [] → ⊥
    second_or_not first second bytes given x y =
        whole_or_not b second bytes (fetched b (whole second) ∷ []) [] [] refl
        (one_rest a first given exchanges (fetched b (whole second) ∷ [])
        (fetched b (too_long bytes) ∷ []) x y)

    one_of_files : ComparesFiles a b is_point form Tells exchanges answer printed
        → ComparesFiles a b is_point form Tells exchanges other others
        → IsSame answer other printed others
    one_of_files (compares.no_level off none x) (compares.no_level off' none' y) =
        one_limit Lines 707 707 [] [] answer other printed others refl refl x y
    one_of_files (compares.no_level off none x) (compares.first_oversized level y) =
        absurd (both_ways is_point off level)
    one_of_files (compares.no_level off none x) (compares.second_oversized level y) =
        absurd (both_ways is_point off level)
    one_of_files (compares.no_level off none x) (compares.compared level y) =
        absurd (both_ways is_point off level)
    one_of_files (compares.first_oversized level x) (compares.no_level off none y) =
        absurd (both_ways is_point off level)
    one_of_files (compares.first_oversized level x) (compares.first_oversized level' y) =
        one_limit Lines 711 711 (codes "A" ∷ []) (codes "A" ∷ []) answer other printed others
        refl refl x.tells y.tells
    one_of_files (compares.first_oversized level x) (compares.second_oversized level' y) =
        absurd (whole_or_not a y.first x.bytes exchanges _ [] y.fetches x.fetches)
    one_of_files (compares.first_oversized level x) (compares.compared level' y) =
        absurd (whole_or_not a y.first x.bytes exchanges _ [] y.fetches x.fetches)
    one_of_files (compares.second_oversized level x) (compares.no_level off none y) =
        absurd (both_ways is_point off level)
    one_of_files (compares.second_oversized level x) (compares.first_oversized level' y) =
        absurd (whole_or_not a x.first y.bytes exchanges _ [] x.fetches y.fetches)
    one_of_files (compares.second_oversized level x) (compares.second_oversized level' y) =
        one_limit Lines 711 711 (codes "B" ∷ []) (codes "B" ∷ []) answer other printed others
        refl refl x.tells y.tells
    one_of_files (compares.second_oversized level x) (compares.compared level' y) =
        absurd (second_or_not y.first y.second x.bytes x.first y.fetches x.fetches)
    one_of_files (compares.compared level x) (compares.no_level off none y) =
        absurd (both_ways is_point off level)
    one_of_files (compares.compared level x) (compares.first_oversized level' y) =
        absurd (whole_or_not a x.first y.bytes exchanges _ [] x.fetches y.fetches)
    one_of_files (compares.compared level x) (compares.second_oversized level' y) =
        absurd (second_or_not x.first x.second y.bytes y.first x.fetches y.fetches)
    one_of_files (compares.compared level x) (compares.compared level' y) = one_fetched level x y

-- ---- texts

-- each pair of stimuli of a text has one finding
abbrev pub FindsOneThing : Type 0
FindsOneThing =
    (bytes : List ℕ) (tree : TextTree) (asked : Option (List ℕ)) (design : FlatDesign)
    → Means bytes tree → EachItem ReleasesNothing tree → flat_of tree asked ≡ Some design
    → IsAdmitted design → (level first second : List ℕ)
    → IsTrue (holds bytes_eq (points tree) level) → HasOneFinding tree asked level first second

module _ (law : FindsOneThing) (a b level : List ℕ) (top : Option (List ℕ)) (text : List ℕ)
    (p q : Passes top text) (exchanges : List Exchange) (answer other : Answer)
    (printed others : List ℕ) where
  found_once : IsTrue (is_level p.stands.tree level) → (first second : List ℕ)
      (answer other : Answer) (printed others : List ℕ)
      → Finds p.stands.tree top level first second answer printed
      → Finds p.stands.tree top level first second other others
      → IsSame answer other printed others
  found_once is first second answer other printed others x y =
      let one = law text p.stands.tree top p.design p.stands.means
      (releases_nothing p.stands.tree p.stands.built) p.stands.flat p.admitted level first second
      is in
      one_told (number_of (text_signals p.stands.tree top)) dotted
      (IsTextCompared p.stands.tree top level first second) one.0 one.2 answer other printed others
      x y

  pub one_finding : Compares a b level p.stands.tree top exchanges answer printed
      → Compares a b level q.stands.tree top exchanges other others
      → IsSame answer other printed others
  one_finding x y =
      let same = one_meaning text q.stands.tree p.stands.tree q.stands.means p.stands.means in
      one_of_files a b (is_level p.stands.tree level) (text_form p.stands.tree top)
      (Finds p.stands.tree top level) found_once answer other printed others exchanges x
      (subst (λ (t : TextTree). Compares a b level t top exchanges other others) same y)
