-- What a comparison of the design that a text stands for is to the text.
use Rattle.std.proofs.Common.{◌≡◌, ℕ, Bool, true, false, cond, List, [], Option, Some, None, refl}
use Rattle.std.proofs.Common.{sym, ap, subst, ◌∙◌, inl, inr, ◌⊎◌}
use Rattle.std.specs.Prelude.{IsTrue, position, option_map}
use Rattle.std.specs.Option.{is_some}
use Rattle.std.specs.Str.{bytes_eq}
use Rattle.sv_io.specs.Exchange.{Exchange}
use Rattle.sv_elab_laws.specs.FlattenedTexts.{CanBeFlattened}
use Rattle.sv_trace.specs.Forms.{StimForm, form_of}
use Rattle.sv_run_laws.specs.SimulatedTexts.{text_form}
use Rattle.sv_run_laws.proofs.TextLaws.{read_flattened}
use Rattle.sv_run_laws.proofs.TextNames as names
use Rattle.sv_compare.proofs.TextFindings.{same_form, point_sees, compared_alike}
use Rattle.sv_compare.proofs.ToldSignals.{told_itself}
use Rattle.sv_cli.specs.Answer.{Answer}
use Rattle.sv_cli.specs.Comparing.{FindsFlat, has_point, ComparesDesign, MayFetchStimuli}
use Rattle.sv_cli.specs.Compares.{answer_of_finding, finding_text, TellsFinding, TellsOfBoth, Finds}
use Rattle.sv_cli.specs.Compares.{ComparesStimuli, ComparesFetched, ComparesFiles, Compares}
use Rattle.sv_cli.specs.Compares.{is_level}
use Rattle.sv_cli.specs.Compares as compares
use Rattle.sv_cli.specs.Dialogues.{MayFetchBoth}
use Rattle.sv_cli.specs.Texts.{Passes}
use Rattle.sv_cli.proofs.TreeAnswers.{releases_nothing}

-- ---- what is told of two stimuli, in other words

module _ (Told Other : TellsOfBoth)
    (over : (first second : List ℕ) (answer : Answer) (printed : List ℕ)
    → Told first second answer printed → Other first second answer printed) (form : StimForm) where
  stimuli_over : (first second : List ℕ) (answer : Answer) (printed : List ℕ)
      → ComparesStimuli form Told first second answer printed
      → ComparesStimuli form Other first second answer printed
  stimuli_over first second answer printed (compares.first_wrong wrong) = compares.first_wrong wrong
  stimuli_over first second answer printed (compares.second_wrong right wrong) =
      compares.second_wrong right wrong
  stimuli_over first second answer printed (compares.compared right too told) =
      compares.compared right too (over first second answer printed told)

  module _ (a b : List ℕ) (exchanges : List Exchange) (answer : Answer) (printed : List ℕ) where
    pub fetched_over : ComparesFetched a b form Told exchanges answer printed
        → ComparesFetched a b form Other exchanges answer printed
    fetched_over is = record {
      first = is.first;
      first_within = is.first_within;
      second = is.second;
      second_within = is.second_within;
      fetches = is.fetches;
      compares = stimuli_over is.first is.second answer printed is.compares;
    }

    files_over : (is_point : Bool)
        → ComparesFiles a b is_point form Told exchanges answer printed
        → ComparesFiles a b is_point form Other exchanges answer printed
    files_over is_point (compares.no_level none fetches tells) = compares.no_level none fetches tells
    files_over is_point (compares.first_oversized point is) = compares.first_oversized point is
    files_over is_point (compares.second_oversized point is) = compares.second_oversized point is
    files_over is_point (compares.compared point is) = compares.compared point (fetched_over is)

-- ---- the design of a text

module _ (top : Option (List ℕ)) (text : List ℕ) (passes : Passes top text) where
  can : CanBeFlattened passes.stands.tree
  can =
      read_flattened text passes.stands.tree passes.stands.means
      (releases_nothing passes.stands.tree passes.stands.built)

  -- a level is a point of the design where it is one of the text
  pub level_is : (level : List ℕ) → has_point passes.design level ≡ is_level passes.stands.tree level
  level_is level =
      by_place (position (λ point. bytes_eq point level) passes.design.points)
      (is_level passes.stands.tree level)
      (names.asked_alike passes.stands.tree top passes.design can passes.stands.flat
      passes.admitted (Some level))
    where
      by_place : (o : Option ℕ) (b : Bool)
          → names.AskedAlike passes.stands.tree top passes.design can passes.stands.flat
          passes.admitted (option_map (λ k. Some (record { 0 = k })) o)
          (cond b (Some (Some level)) None)
          → is_some o ≡ b
      by_place (Some k) true alike = refl
      by_place (Some k) false alike = absurd alike
      by_place None true alike = absurd alike
      by_place None false alike = refl

  -- what is found of the design is what is found of the text
  finds_over : (level first second : List ℕ) (answer : Answer) (printed : List ℕ)
      → FindsFlat passes.design level first second answer printed
      → Finds passes.stands.tree top level first second answer printed
  finds_over level first second answer printed is =
      let alike = compared_alike passes.stands.tree top passes.design can passes.stands.flat
      passes.admitted is.point level first second
      (point_sees passes.stands.tree top passes.design can passes.stands.flat passes.admitted
      is.point level is.named) in
      let told = is.finds in
      let found = alike.over told.found told.finds in
      let same = found.2 in
      record {
        found = found.0;
        finds = found.1;
        answers =
            told.answers ∙ ap answer_of_finding (told_itself told.found ∙ sym same.number);
        prints = told.prints ∙ ap finding_text same.name;
      }

  pub compares_over : (a b level : List ℕ) (exchanges : List Exchange) (answer : Answer)
      (printed : List ℕ) → ComparesDesign a b level passes.design exchanges answer printed
      → Compares a b level passes.stands.tree top exchanges answer printed
  compares_over a b level exchanges answer printed is =
      let tree = passes.stands.tree in
      subst (λ (b' : Bool).
      ComparesFiles a b b' (text_form tree top) (Finds tree top level) exchanges answer printed)
      (level_is level)
      (subst (λ (form : StimForm).
      ComparesFiles a b (has_point passes.design level) form (Finds tree top level) exchanges
      answer printed)
      (sym (same_form tree top passes.design can passes.stands.flat passes.admitted))
      (files_over (FindsFlat passes.design level) (Finds tree top level) (finds_over level)
      (form_of passes.design) a b exchanges answer printed (has_point passes.design level) is))

  -- A and B may be fetched for the text
  pub may_over : (a b level : List ℕ) (exchanges : List Exchange)
      → MayFetchStimuli a b level passes.design exchanges
      → (exchanges ≡ []) ⊎ (IsTrue (is_level passes.stands.tree level) × MayFetchBoth a b exchanges)
  may_over a b level exchanges (inl none) = inl none
  may_over a b level exchanges (inr may) = inr (subst IsTrue (level_is level) may.0, may.1)
