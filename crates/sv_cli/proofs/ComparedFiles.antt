-- What is told of two stimuli at a point of a design, by their bytes and by the fetches of A and B.
use Rattle.std.proofs.Common.{◌≡◌, ℕ, ◌+◌, ◌≤◌, ◌<◌, false, List, [], ◌∷◌, length, Some, refl, sym, ap}
use Rattle.std.proofs.Common.{inl, inr, ◌⊎◌}
use Rattle.std.specs.Prelude.{Result, Ok, Err, IfOk, IfSome, IsTrue, codes, position}
use Rattle.std.specs.Option.{is_some}
use Rattle.std.proofs.lemmas.Option.{IfSome_then}
use Rattle.std.specs.Str.{bytes_eq}
use Rattle.std.specs.declared.alloc.AllocError.{AllocError}
use Rattle.sv_lattice.specs.declared.points.Point.{Point}
use Rattle.sv_flat.specs.Design.{FlatDesign}
use Rattle.sv_io.specs.Exchange.{Exchange, fetched, whole, too_long}
use Rattle.sv_trace.specs.declared.faults.StimFault.TheVariants.{Line}
use Rattle.sv_texts.specs.declared.stimuli.StimKind.{StimKind}
use Rattle.sv_trace.specs.Forms.{form_of, name_in}
use Rattle.sv_trace.specs.Stimulus.{read_whole, fault_of}
use Rattle.sv_tworun.specs.Forms.{Finding}
use Rattle.sv_compare.specs.ComparedTexts.{IsDesignCompared, named, signal_told}
use Rattle.sv_compare.specs.Pairs.{IsRight}
use Rattle.sv_compare.proofs.ToldSignals.{told_itself}
use Rattle.sv_texts.specs.Texts.{stimulus_text}
use Rattle.sv_report.specs.declared.styles.Style.TheVariants.{Lines}
use Rattle.sv_texts.specs.declared.stimuli.StimSource.TheVariants.{FileA, FileB}
use Rattle.sv_cli.specs.declared.report.Report.{Report}
use Rattle.sv_cli.specs.Answer.{Answer, answer_of, stimulus_refused}
use Rattle.sv_cli.specs.Compares.{answer_of_finding, finding_text, largest_compared}
use Rattle.sv_cli.specs.Compares.{ComparesStimuli}
use Rattle.sv_cli.specs.Compares as compares
use Rattle.sv_cli.specs.Comparing.{FindsAt, FindsFlat, ComparesAt, ComparesSecond, HasSignal}
use Rattle.sv_cli.specs.Comparing.{MayFetchSecond, ComparesDesign, MayFetchStimuli, has_point}
use Rattle.sv_cli.specs.Dialogues.{MayFetchBoth}
use Rattle.sv_cli.specs.Dialogues as dialogues
use Rattle.sv_cli.specs.Limits.{TellsLimit}
use Rattle.sv_cli.specs.Prepared.{Says}
use Rattle.sv_cli.proofs.Compared.{fetched_over}

-- a signal that is told with more than its bound
pub has_signal : (count : ℕ) (More : ℕ → Type 0) (found : Finding ℕ)
    → IfSome (signal_told found) (λ s. (s < count) × More s) → HasSignal count found
has_signal count More found told =
    IfSome_then (signal_told found) told (λ s is. is.0)

module _ (design : FlatDesign) (level : Point) where
  -- ---- by their bytes

  module _ (first second : List ℕ) where
    abbrev TellsBoth : Report → Type 0
    TellsBoth = Says (ComparesStimuli (form_of design) (FindsAt design level) first second)

    pub found_told : (found : Finding ℕ) → IsDesignCompared design level first second found
        → IsRight (form_of design) first → IsRight (form_of design) second → (report : Report)
        → answer_of report.outcome ≡ Some (answer_of_finding found)
        → report.text.items ≡ finding_text (named (name_in design.signals) found)
        → TellsBoth report
    found_told found finds right too report answered prints = (
      answer_of_finding found,
      answered,
      compares.compared right too (record {
        found = found;
        finds = finds;
        answers = ap answer_of_finding (sym (told_itself found));
        prints = prints;
      }),
    )

    -- a wrong line of either
    pub first_reports : (line : ℕ) (kind : StimKind)
        → fault_of (read_whole (form_of design) first) ≡ Some (Line line kind)
        → (r : Result Report AllocError)
        → IfOk r (λ report. answer_of report.outcome ≡ Some (stimulus_refused FileA line kind))
        → IfOk r (λ report. report.text.items ≡ stimulus_text FileA line kind)
        → IfOk r TellsBoth
    first_reports line kind wrong (Ok report) answered prints = (
      stimulus_refused FileA line kind,
      answered,
      compares.first_wrong (record {
        line = line;
        kind = kind;
        wrong = wrong;
        answers = refl;
        prints = prints;
      }),
    )
    first_reports line kind wrong (Err e) answered prints = tt

    pub second_reports : (line : ℕ) (kind : StimKind) → IsRight (form_of design) first
        → fault_of (read_whole (form_of design) second) ≡ Some (Line line kind)
        → (r : Result Report AllocError)
        → IfOk r (λ report. answer_of report.outcome ≡ Some (stimulus_refused FileB line kind))
        → IfOk r (λ report. report.text.items ≡ stimulus_text FileB line kind)
        → IfOk r TellsBoth
    second_reports line kind right wrong (Ok report) answered prints = (
      stimulus_refused FileB line kind,
      answered,
      compares.second_wrong right (record {
        line = line;
        kind = kind;
        wrong = wrong;
        answers = refl;
        prints = prints;
      }),
    )
    second_reports line kind right wrong (Err e) answered prints = tt

  -- ---- by the fetches

  module _ (a b : List ℕ) where
    pub first_large : (bytes : List ℕ) → length bytes ≡ largest_compared + 1 → (report : Report)
        → Says (TellsLimit Lines 711 (codes "A" ∷ [])) report
        → Says (ComparesAt a b design level (fetched a (too_long bytes) ∷ [])) report
    first_large bytes long report (answer, answered, tells) = (
      answer,
      answered,
      inl (record { bytes = bytes; long = long; fetches = refl; tells = tells }),
    )

    module _ (first : List ℕ) (within : length first ≤ largest_compared) where
      pub second_large : (bytes : List ℕ) → length bytes ≡ largest_compared + 1
          → (report : Report) → Says (TellsLimit Lines 711 (codes "B" ∷ [])) report
          → Says (ComparesSecond first a b design level (fetched b (too_long bytes) ∷ [])) report
      second_large bytes long report (answer, answered, tells) = (
        answer,
        answered,
        inr (inl (record {
          first = first;
          within = within;
          bytes = bytes;
          long = long;
          fetches = refl;
          tells = tells;
        })),
      )

      pub both_told : (second : List ℕ) → length second ≤ largest_compared → (report : Report)
          → TellsBoth first second report
          → Says (ComparesSecond first a b design level (fetched b (whole second) ∷ [])) report
      both_told second small report (answer, answered, told) = (
        answer,
        answered,
        inr (inr (record {
          first = first;
          first_within = within;
          second = second;
          second_within = small;
          fetches = refl;
          compares = told;
        })),
      )

      -- B may be fetched behind A
      pub behind_first : (rest : List Exchange) → MayFetchSecond b rest
          → (fetched a (whole first) ∷ rest ≡ [])
          ⊎ MayFetchBoth a b (fetched a (whole first) ∷ rest)
      behind_first rest (inl none) =
          inr (dialogues.first (whole first)
          (ap (λ (es : List Exchange). fetched a (whole first) ∷ es) none))
      behind_first rest (inr (got, is)) =
          inr (dialogues.both first within got
          (ap (λ (es : List Exchange). fetched a (whole first) ∷ es) is))

-- ---- of the level

module _ (a b level : List ℕ) (design : FlatDesign) where
  pub no_point : has_point design level ≡ false → (report : Report)
      → Says (TellsLimit Lines 707 []) report
      → Says (ComparesDesign a b level design []) report
  no_point none report (answer, answered, tells) =
      (answer, answered, compares.no_level none refl tells)

  module _ (point : Point)
      (is_named : position (λ name. bytes_eq name level) design.points ≡ Some point.0) where
    is_point : IsTrue (has_point design level)
    is_point = ap is_some is_named

    -- A and B may be fetched where it is a point
    pub may_fetch_both : (exchanges : List Exchange)
        → (exchanges ≡ []) ⊎ MayFetchBoth a b exchanges
        → MayFetchStimuli a b level design exchanges
    may_fetch_both exchanges (inl none) = inl none
    may_fetch_both exchanges (inr may) = inr (is_point, may)

    point_told : (exchanges : List Exchange) (answer : Answer) (printed : List ℕ)
        → ComparesAt a b design point exchanges answer printed
        → ComparesDesign a b level design exchanges answer printed
    point_told exchanges answer printed (inl is) = compares.first_oversized is_point is
    point_told exchanges answer printed (inr (inl is)) = compares.second_oversized is_point is
    point_told exchanges answer printed (inr (inr is)) =
        compares.compared is_point
        (fetched_over (FindsAt design point) (FindsFlat design level)
        (λ first second answer printed finds.
        record { point = point; named = is_named; finds = finds }) (form_of design) a b exchanges
        answer printed is)

    pub point_says : (exchanges : List Exchange) (report : Report)
        → Says (ComparesAt a b design point exchanges) report
        → Says (ComparesDesign a b level design exchanges) report
    point_says exchanges report (answer, answered, told) =
        (answer, answered, point_told exchanges answer report.text.items told)
