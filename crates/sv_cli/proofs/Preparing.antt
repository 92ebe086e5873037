-- What is prepared of a text is what is answered for it.
use Rattle.std.proofs.Common.{◌≡◌, ℕ, ◌+◌, ◌≤◌, List, [], ◌∷◌, length, Option, Some, None, refl, sym}
use Rattle.std.proofs.Common.{ap, subst, ◌∙◌, inl, inr, arith}
use Rattle.std.specs.Prelude.{Bool, IsSome, IsTrue, IfOk, IsErrAnd, Result, Ok, Err, All}
use Rattle.std.specs.Prelude.{MatchOption, ◌⊎◌}
use Rattle.std.specs.Prelude.{option_map, string_bytes}
use Rattle.sv_flat.specs.Design.{FlatDesign}
use Rattle.sv_flat.specs.Views.{design_of}
use Rattle.sv_io.specs.Exchange.{Exchange, Fetched, fetched, whole, too_long, nothing}
use Rattle.sv_io.specs.Exchange.{fetched_of}
use Rattle.sv_io.specs.Traffic.{Files, Passed, IsFailed}
use Rattle.sv_io.specs.Cabinet.{IfAnswered, IfLong}
use Rattle.sv_io.specs.Count.{Rose}
use Rattle.sv_io.specs.declared.faults.FetchFault.{FetchFault}
use Rattle.sv_io.specs.declared.faults.FetchFault.TheVariants.{Failed, Long}
use Rattle.sv_io.specs.declared.faults.FetchFault.TheVariants as faults
use Rattle.std.specs.Global.{Vec}
use Rattle.sv_paths.specs.Limits.{excess}
use Rattle.sv_paths.specs.ListLines.{list_text}
use Rattle.sv_encoding.specs.CnfText.{cnf_text}
use Rattle.sv_blast.specs.declared.coded.Coded.{Coded}
use Rattle.sv_words.specs.Words.{Request, check, verify, list, cnf, sim, compare, gen}
use Rattle.sv_words.specs.Words.{request_of, usage_of}
use Rattle.sv_words.specs.declared.command.UsageKind.{UsageKind}
use Rattle.sv_cli.specs.declared.prepared.NoReport.{NoReport}
use Rattle.sv_cli.specs.declared.prepared.NoReport.TheVariants.{Unread, OutOfMemory}
use Rattle.sv_cli.specs.declared.prepared.Prepared.{Prepared}
use Rattle.sv_cli.specs.declared.prepared.Prepared.TheVariants.{Whole, Lines, Clauses}
use Rattle.sv_cli.specs.declared.prepared.Prepared.TheVariants.{Simulation}
use Rattle.sv_cli.specs.declared.report.Report.{Report}
use Rattle.sv_report.specs.Styles.{refusal_in}
use Rattle.sv_report.specs.declared.styles.Style.TheVariants as styles
use Rattle.sv_num.specs.declared.faults.Place.{Place}
use Rattle.sv_cli.specs.Answer.{Answer, answer_of, misused, rule_broken}
use Rattle.sv_cli.specs.Checks.{Checks}
use Rattle.sv_cli.specs.Command.{file_in, top_in, style_in}
use Rattle.sv_cli.specs.Comparing.{ComparesDesign, MayFetchStimuli}
use Rattle.sv_cli.specs.Dialogues.{IsDialogue, IsAnswer, own_part, AfterText, Alone, OwnExchange}
use Rattle.sv_cli.specs.Dialogues.{MayExchange, MayExchangeWith, IsExchanged}
use Rattle.sv_cli.specs.Dialogues as dialogues
use Rattle.sv_cli.specs.Generates.{Generates}
use Rattle.sv_cli.specs.Limits.{TellsLimit, ExceedsLimit}
use Rattle.sv_cli.specs.Lists as lists
use Rattle.sv_cli.specs.Prepared.{IsPerformed, IsOtherOrWith, Prepares, MaySimulateDesign, EndsAs}
use Rattle.sv_cli.specs.Prepared.{PreparesFor, PreparesWords, Explains, Readies, ReadiesFor}
use Rattle.sv_cli.specs.Prepared.{ReadiesWords, Reports, Says, MayOwn, MayStoreOwn, MayFetchOwn}
use Rattle.sv_cli.specs.Prepared.{IsSimulationOf, ListsDesign}
use Rattle.sv_cli.specs.Prepared.{HoldsClauses, EncodesDesign, PreparesOwn, PreparesText}
use Rattle.sv_cli.specs.Prepared.{MayExchangeOf}
use Rattle.sv_cli.specs.Runs.{KeepsCounts}
use Rattle.sv_cli.specs.Text.{usage_text}
use Rattle.sv_cli.specs.Texts.{largest_file, BreaksFirst, RefusesText, Passes}
use Rattle.sv_cli.specs.Verifies.{Verifies}
use Rattle.sv_cli.proofs.Compared.{compares_over, level_is}
use Rattle.sv_cli.proofs.OneFetch as one_fetch
use Rattle.sv_cli.proofs.Passing.{made_readied, fault_readied}
use Rattle.sv_cli.proofs.Passing.{passed_as}
use Rattle.sv_cli.proofs.Simulating.{simulates_text}

-- ---- a report of an answer is all that is to be done

told_stands : (Is : List ℕ → Answer → List ℕ → Type 0) (Own : Answer → List ℕ → Type 0)
    (report : Report) → Says Own report → ((s : List ℕ) (a : Answer) (p : List ℕ) → Own a p
    → Is s a p) → (s : List ℕ) (a : Answer) (p : List ℕ) → IsPerformed (Whole report) s a p
    → Is s a p
told_stands Is Own report says gives s a p performed =
    let same : says.0 ≡ a = let first = says.1 in let second = performed.0 in cc in
    gives s a p
    (subst (λ (t : List ℕ). Own a t) (sym performed.1)
    (subst (λ (b : Answer). Own b report.text.items) same says.2))

module _ (Is : List ℕ → Answer → List ℕ → Type 0) (May : Option (List ℕ) → FlatDesign → Type 0)
    (Own : Answer → List ℕ → Type 0)
    (gives : (s : List ℕ) (a : Answer) (p : List ℕ) → Own a p → Is s a p) where
  pub said_prepared : (report : Report) → Says Own report → Prepares Is May (Whole report)
  said_prepared report says = record {
    ready = subst IsSome (sym says.1) refl;
    simulates = tt;
    stands = told_stands Is Own report says gives;
  }

  pub reports_prepared : (prepared : Prepared) → Reports Own prepared → Prepares Is May prepared
  reports_prepared (Whole report) says = said_prepared report says
  reports_prepared (Lines design) says = absurd says
  reports_prepared (Clauses coded) says = absurd says
  reports_prepared (Simulation design level order) says = absurd says

-- ---- FILE of a request

pub has_file : (request : Request) (file : List ℕ) → file_in request ≡ Some file
    → IsSome (file_in request)
has_file request file is_file = subst IsSome (sym is_file) refl

module _ (request : Request) (file : List ℕ) (is_file : file_in request ≡ Some file) where
  -- what is said of its text is said of the command
  after_text : (exchanges : List Exchange) (s : List ℕ) (a : Answer) (p : List ℕ)
      → AfterText (style_in request) file (top_in request) (own_part request s) exchanges a p
      → IsDialogue request exchanges s a p
  after_text exchanges s a p is =
      subst (λ (f : Option (List ℕ)). MatchOption f ((exchanges ≡ []) × Alone request a p)
      (λ name. AfterText (style_in request) name (top_in request) (own_part request s) exchanges a
      p)) (sym is_file) is

  may_with : (exchanges : List Exchange) → MayExchangeWith file request exchanges
      → MayExchange request exchanges
  may_with exchanges may =
      subst (λ (f : Option (List ℕ)). MatchOption f (exchanges ≡ [])
      (λ name. MayExchangeWith name request exchanges)) (sym is_file) may

-- ---- a text within the limit that its fetch handed out

module _ (request : Request) (file : List ℕ) (is_file : file_in request ≡ Some file)
    (text : List ℕ) (within : length text ≤ largest_file) where
  -- what was exchanged, with the rest
  abbrev With : List Exchange → List Exchange
  With rest = fetched file (whole text) ∷ rest

  goes_on : (passes : Passes (top_in request) text) (rest : List Exchange) (s : List ℕ)
      (a : Answer) (p : List ℕ) → own_part request s text passes rest a p
      → IsDialogue request (With rest) s a p
  goes_on passes rest s a p own =
      after_text request file is_file (With rest) s a p (dialogues.goes_on (record {
        text = text;
        within = within;
        rest = rest;
        fetches = refl;
        passes = passes;
        own = own;
      }))

  refuses : (rest : List Exchange) → rest ≡ [] → (s : List ℕ) (a : Answer) (p : List ℕ)
      → RefusesText (style_in request) (top_in request) text a p
      → IsDialogue request (With rest) s a p
  refuses rest none s a p told =
      after_text request file is_file (With rest) s a p (dialogues.refused (record {
        text = text;
        within = within;
        fetches = ap With none;
        refuses = told;
      }))

  refused_prepared : (rest : List Exchange) → rest ≡ [] → (prepared : Prepared)
      → Reports (RefusesText (style_in request) (top_in request) text) prepared
      → PreparesFor request (With rest) prepared
  refused_prepared rest none prepared reports =
      reports_prepared (IsDialogue request (With rest)) _
      (RefusesText (style_in request) (top_in request) text) (refuses rest none) prepared reports

-- ---- by command

file_same : (f file : List ℕ) → Some f ≡ Some file → f ≡ file
file_same f file h = cc

module _ (f file : List ℕ) (is_file : Some f ≡ Some file) (top : Option (List ℕ)) (text : List ℕ)
    (within : length text ≤ largest_file) (passes : Passes top text) (rest : List Exchange) where
  check_prepared : (proof : Option (List ℕ)) (budget : ℕ) (json : Bool) (prepared : Prepared)
      → Reports (Checks (style_in (check f proof budget top json)) proof budget passes.design rest)
      prepared
      → PreparesFor (check f proof budget top json) (fetched file (whole text) ∷ rest) prepared
  check_prepared proof budget json prepared reports =
      reports_prepared
      (IsDialogue (check f proof budget top json) (fetched file (whole text) ∷ rest)) _
      (Checks (style_in (check f proof budget top json)) proof budget passes.design rest)
      (goes_on (check f proof budget top json) file is_file text within passes rest) prepared
      reports

  verify_prepared : (proof : List ℕ) (prepared : Prepared)
      → Reports (Verifies proof passes.design rest) prepared
      → PreparesFor (verify f proof top) (fetched file (whole text) ∷ rest) prepared
  verify_prepared proof prepared reports =
      reports_prepared (IsDialogue (verify f proof top) (fetched file (whole text) ∷ rest)) _
      (Verifies proof passes.design rest)
      (goes_on (verify f proof top) file is_file text within passes rest) prepared reports

  compare_prepared : (a b level : List ℕ) (prepared : Prepared)
      → Reports (ComparesDesign a b level passes.design rest) prepared
      → PreparesFor (compare f a b level top) (fetched file (whole text) ∷ rest) prepared
  compare_prepared a b level prepared reports =
      reports_prepared (IsDialogue (compare f a b level top) (fetched file (whole text) ∷ rest)) _
      (ComparesDesign a b level passes.design rest)
      (λ s answer p compares.
      goes_on (compare f a b level top) file is_file text within passes rest s answer p
      (compares_over top text passes a b level rest answer p compares))
      prepared reports

  module _ (none : rest ≡ []) where
    list_prepared : (prepared : Prepared) → ListsDesign passes.design prepared
        → PreparesFor (list f top) (fetched file (whole text) ∷ rest) prepared
    list_prepared (Whole report) says =
        said_prepared (IsDialogue (list f top) (fetched file (whole text) ∷ rest)) _
        (ExceedsLimit styles.Lines passes.design)
        (λ s a p exceeds.
        goes_on (list f top) file is_file text within passes rest s a p
        (none, lists.exceeds exceeds))
        report says
    list_prepared (Lines listed) is = record {
      ready = ap excess is.0 ∙ is.1;
      simulates = tt;
      stands = λ s a p performed.
          goes_on (list f top) file is_file text within passes rest s a p (
            none,
            lists.listed (record {
              few = is.1;
              answers = performed.0;
              prints = performed.1 ∙ ap list_text is.0;
            }),
          );
    }
    list_prepared (Clauses coded) is = absurd is
    list_prepared (Simulation design level order) is = absurd is

    clauses_prepared : (asked : ℕ) (coded : Coded) → HoldsClauses passes.design asked coded
        → PreparesFor (cnf f asked top) (fetched file (whole text) ∷ rest) (Clauses coded)
    clauses_prepared asked coded held = record {
      ready = tt;
      simulates = tt;
      stands = λ s a p performed.
          goes_on (cnf f asked top) file is_file text within passes rest s a p (
            none,
            lists.encoded (record {
              few = held.few;
              obligation = held.obligation;
              found = held.found;
              fits = held.fits;
              answers = performed.0;
              prints = performed.1 ∙ ap cnf_text held.coded_is;
            }),
          );
    }

    cnf_prepared : (asked : ℕ) (prepared : Prepared)
        → EncodesDesign passes.design asked prepared
        → PreparesFor (cnf f asked top) (fetched file (whole text) ∷ rest) prepared
    cnf_prepared asked (Whole report) says =
        said_prepared (IsDialogue (cnf f asked top) (fetched file (whole text) ∷ rest)) _
        (lists.Encodes asked passes.design)
        (λ s a p encodes.
        goes_on (cnf f asked top) file is_file text within passes rest s a p (none, encodes))
        report says
    cnf_prepared asked (Lines listed) is = absurd is
    cnf_prepared asked (Clauses coded) held = clauses_prepared asked coded held
    cnf_prepared asked (Simulation design level order) is = absurd is

    module _ (level : Option (List ℕ)) (order : Option ℕ) where
      -- so the design may be simulated
      may_simulate : (words : List (List ℕ)) → usage_of words ≡ None
          → request_of words ≡ Some (sim f level order top)
          → MaySimulateDesign words (fetched file (whole text) ∷ rest) level passes.design
      may_simulate words is_command asked = (
        record {
          file = f;
          order = order;
          top = top;
          is_command = is_command;
          asked = asked;
          text = text;
          within = within;
          fetches =
              ap (λ (es : List Exchange). fetched file (whole text) ∷ es) none
              ∙ ap (λ (name : List ℕ). fetched name (whole text) ∷ [])
              (sym (file_same f file is_file));
          passes = passes;
        },
        refl,
      )

      simulates : (s : List ℕ) (a : Answer) (p : List ℕ)
          → EndsAs passes.design level order s a p
          → IsDialogue (sim f level order top) (fetched file (whole text) ∷ rest) s a p
      simulates s a p ends =
          goes_on (sim f level order top) file is_file text within passes rest s a p
          (none, simulates_text top text passes level order s a p ends)

      sim_prepared : (prepared : Prepared) → IsSimulationOf passes.design level order prepared
          → PreparesFor (sim f level order top) (fetched file (whole text) ∷ rest) prepared
      sim_prepared (Whole report) is = absurd is
      sim_prepared (Lines listed) is = absurd is
      sim_prepared (Clauses coded) is = absurd is
      sim_prepared (Simulation design asked drawn) is = record {
        ready = tt;
        simulates = λ words is_command requested.
            subst (λ (l : Option (List ℕ)).
            MaySimulateDesign words (fetched file (whole text) ∷ rest) l (design_of design))
            (sym is.1)
            (subst (MaySimulateDesign words (fetched file (whole text) ∷ rest) level) (sym is.0)
            (may_simulate words is_command requested));
        stands = λ s a p ends.
            simulates s a p
            (subst (λ (d : FlatDesign). EndsAs d level order s a p) is.0
            (subst (λ (l : Option (List ℕ)). EndsAs (design_of design) l order s a p) is.1
            (subst (λ (o : Option ℕ).
            EndsAs (design_of design) (option_map string_bytes asked) o s a p) is.2 ends)));
      }

module _ (file : List ℕ) (text : List ℕ) (within : length text ≤ largest_file)
    (rest : List Exchange) (prepared : Prepared) where
  own_prepared : (request : Request) → file_in request ≡ Some file
      → (passes : Passes (top_in request) text)
      → PreparesOwn request passes.design rest prepared
      → PreparesFor request (fetched file (whole text) ∷ rest) prepared
  own_prepared (check f proof budget top json) is_file passes own =
      check_prepared f file is_file top text within passes rest proof budget json prepared own
  own_prepared (verify f proof top) is_file passes own =
      verify_prepared f file is_file top text within passes rest proof prepared own
  own_prepared (list f top) is_file passes own =
      list_prepared f file is_file top text within passes rest own.0 prepared own.1
  own_prepared (cnf f number top) is_file passes own =
      cnf_prepared f file is_file top text within passes rest own.0 number prepared own.1
  own_prepared (sim f level order top) is_file passes own =
      sim_prepared f file is_file top text within passes rest own.0 level order prepared own.1
  own_prepared (compare f a b level top) is_file passes own =
      compare_prepared f file is_file top text within passes rest a b level prepared own
  own_prepared (gen lanes checks) is_file passes own = absurd own

  text_prepared : (request : Request) → file_in request ≡ Some file
      → PreparesText request text rest prepared
      → PreparesFor request (fetched file (whole text) ∷ rest) prepared
  text_prepared request is_file (inl told) =
      refused_prepared request file is_file text within rest told.0 prepared told.1
  text_prepared request is_file (inr own) = own_prepared request is_file own.0 own.1

-- ---- what may be exchanged

module _ (text : List ℕ) (rest : List Exchange) where
  -- of its own a command exchanges nothing, or what it may for the text
  own_exchanged : (request : Request) (passes : Passes (top_in request) text)
      → MayOwn request passes.design rest → (rest ≡ []) ⊎ OwnExchange request text passes rest
  own_exchanged (check f proof budget top json) passes own = own
  own_exchanged (verify f proof top) passes own = own
  own_exchanged (list f top) passes own = inl own
  own_exchanged (cnf f number top) passes own = inl own
  own_exchanged (sim f level order top) passes own = inl own
  own_exchanged (compare f a b level top) passes (inl none) = inl none
  own_exchanged (compare f a b level top) passes (inr own) =
      inr (subst IsTrue (level_is top text passes level) own.0, own.1)
  own_exchanged (gen lanes checks) passes own = inl own

  module _ (request : Request) (file : List ℕ) (is_file : file_in request ≡ Some file)
      (within : length text ≤ largest_file) where
    none_exchanged : rest ≡ [] → MayExchange request (fetched file (whole text) ∷ rest)
    none_exchanged none =
        may_with request file is_file (fetched file (whole text) ∷ rest)
        (dialogues.text (whole text)
        (ap (λ (es : List Exchange). fetched file (whole text) ∷ es) none))

    further_exchanged : (passes : Passes (top_in request) text)
        → (rest ≡ []) ⊎ OwnExchange request text passes rest
        → MayExchange request (fetched file (whole text) ∷ rest)
    further_exchanged passes (inl none) = none_exchanged none
    further_exchanged passes (inr own) =
        may_with request file is_file (fetched file (whole text) ∷ rest)
        (dialogues.further (record {
          text = text;
          within = within;
          rest = rest;
          fetches = refl;
          passes = passes;
          own = own;
        }))

    -- what may be exchanged for the text may be for the request
    text_exchanged : MayExchangeOf request text rest
        → MayExchange request (fetched file (whole text) ∷ rest)
    text_exchanged (inl none) = none_exchanged none
    text_exchanged (inr own) =
        further_exchanged own.0 (own_exchanged request own.0 own.1)

-- ---- what is made ready

-- no exchange failed
abbrev NoneFailed : List Exchange → Type 0
NoneFailed exchanges = All (λ (e : Exchange). IsFailed e → ⊥) exchanges

module _ {T : Type 0} (May : List Exchange → Type 0) (Makes : List Exchange → T → Type 0)
    (tells : Bool) where
  -- what is made ready in other words
  module _ (Other : List Exchange → Type 0) (Others : List Exchange → T → Type 0)
      (may_too : (exchanges : List Exchange) → May exchanges → Other exchanges)
      (makes_too : (exchanges : List Exchange) (made : T) → Makes exchanges made
      → Others exchanges made) (old new : Files) where
    made_too : (r : Result T NoReport) (exchanges : List Exchange)
        → IfOk r (λ made. Makes exchanges made × NoneFailed exchanges)
        → IfOk r (λ made. Others exchanges made × NoneFailed exchanges)
    made_too (Ok made) exchanges is = (makes_too exchanges made is.0, is.1)
    made_too (Err fault) exchanges is = tt

    pub readies_too : (r : Result T NoReport) → Readies May Makes tells old new r
        → Readies Other Others tells old new r
    readies_too r is = record {
      exchanges = is.exchanges;
      passed = is.passed;
      may = may_too is.exchanges is.may;
      made = made_too r is.exchanges is.made;
      unfailed = is.unfailed;
      fault = is.fault;
    }

-- ---- of a design, by command

module _ (tells : Bool) (old new : Files) (design : FlatDesign) (file : List ℕ)
    (top : Option (List ℕ)) (r : Result Prepared NoReport) where
  pub check_readied : (proof : Option (List ℕ)) (budget : ℕ) (json : Bool)
      → Readies (MayStoreOwn proof design budget) (λ exchanges. Reports
      (Checks (style_in (check file proof budget top json)) proof budget design exchanges)) tells
      old new r
      → Readies (MayOwn (check file proof budget top json) design)
      (PreparesOwn (check file proof budget top json) design) tells old new r
  check_readied proof budget json is = is

  pub verify_readied : (proof : List ℕ)
      → Readies (MayFetchOwn proof design)
      (λ exchanges. Reports (Verifies proof design exchanges)) tells old new r
      → Readies (MayOwn (verify file proof top) design)
      (PreparesOwn (verify file proof top) design) tells old new r
  verify_readied proof is = is

  pub compare_readied : (a b level : List ℕ)
      → Readies (MayFetchStimuli a b level design)
      (λ exchanges. Reports (ComparesDesign a b level design exchanges)) tells old new r
      → Readies (MayOwn (compare file a b level top) design)
      (PreparesOwn (compare file a b level top) design) tells old new r
  compare_readied a b level is = is

module _ (tells : Bool) (files : Files) (design : FlatDesign) (file : List ℕ)
    (top : Option (List ℕ)) (prepared : Prepared) where
  pub list_readied : ListsDesign design prepared
      → (let r : Result Prepared NoReport = Ok prepared in
      Readies (MayOwn (list file top) design) (PreparesOwn (list file top) design) tells files files
      r)
  list_readied is =
      made_readied (MayOwn (list file top) design) (PreparesOwn (list file top) design) tells files
      prepared refl (refl, is)

  pub cnf_readied : (number : ℕ) → EncodesDesign design number prepared
      → (let r : Result Prepared NoReport = Ok prepared in
      Readies (MayOwn (cnf file number top) design) (PreparesOwn (cnf file number top) design) tells
      files files r)
  cnf_readied number is =
      made_readied (MayOwn (cnf file number top) design) (PreparesOwn (cnf file number top) design)
      tells files prepared refl (refl, is)

  pub sim_readied : (level : Option (List ℕ)) (order : Option ℕ)
      → IsSimulationOf design level order prepared
      → (let r : Result Prepared NoReport = Ok prepared in
      Readies (MayOwn (sim file level order top) design)
      (PreparesOwn (sim file level order top) design) tells files files r)
  sim_readied level order is =
      made_readied (MayOwn (sim file level order top) design)
      (PreparesOwn (sim file level order top) design) tells files prepared refl (refl, is)

-- nothing of its own is exchanged
pub none_own : (request : Request) (design : FlatDesign) → MayOwn request design []
none_own (check file proof budget top json) design = inl refl
none_own (verify file proof top) design = inl refl
none_own (list file top) design = refl
none_own (cnf file number top) design = refl
none_own (sim file level order top) design = refl
none_own (compare file a b level top) design = inl refl
none_own (gen lanes checks) design = refl

-- ---- of a text

module _ (request : Request) (text : List ℕ) (tells : Bool) where
  -- its design
  pub design_readied : (passes : Passes (top_in request) text) (old new : Files)
      (r : Result Prepared NoReport)
      → Readies (MayOwn request passes.design) (PreparesOwn request passes.design) tells old new r
      → Readies (MayExchangeOf request text) (PreparesText request text) tells old new r
  design_readied passes old new r is =
      readies_too (MayOwn request passes.design) (PreparesOwn request passes.design) tells
      (MayExchangeOf request text) (PreparesText request text)
      (λ exchanges own. inr (passes, own)) (λ exchanges prepared own. inr (passes, own)) old new r
      is

  -- the first rule that it breaks
  pub refusal_readied : (files : Files) (report : Report) (n : ℕ) (place : Place)
      (names : List (List ℕ)) → BreaksFirst (top_in request) text n place names
      → answer_of report.outcome ≡ Some (rule_broken n place names)
      → report.text.items ≡ refusal_in (style_in request) n place names
      → (let r : Result Prepared NoReport = Ok (Whole report) in
      Readies (MayExchangeOf request text) (PreparesText request text) tells files files r)
  refusal_readied files report n place names broken gives prints =
      made_readied (MayExchangeOf request text) (PreparesText request text) tells files
      (Whole report) (inl refl)
      (inl (
        refl,
        (
          rule_broken n place names,
          gives,
          record {
            number = n;
            place = place;
            names = names;
            broken = broken;
            answers = refl;
            prints = prints;
          },
        ),
      ))

-- a text within the limit was fetched, and the rest is ready
module _ (request : Request) (file : List ℕ) (is_file : file_in request ≡ Some file) (tells : Bool)
    (old mid new : Files) (text : List ℕ) (within : length text ≤ largest_file)
    (first : Passed tells old mid (fetched file (whole text) ∷ [])) (kept : KeepsCounts old mid)
  where
    pub text_readied : (r : Result Prepared NoReport)
        → Readies (MayExchangeOf request text) (PreparesText request text) tells mid new r
        → ReadiesFor request tells old new r
    text_readied =
        one_fetch.readied_after (MayExchangeOf request text) (MayExchange request)
        (PreparesText request text) (PreparesFor request) tells old mid new file (whole text)
        first (λ fails. fails) kept
        (λ name. let same = kept.fetches name in omega arith)
        (λ name. let same = kept.stores name in omega arith)
        (λ rest may. text_exchanged text rest request file is_file within may)
        (λ rest prepared is. text_prepared file text within rest prepared request is_file is)

-- nothing follows the fetch
module _ (request : Request) (file : List ℕ) (is_file : file_in request ≡ Some file) (tells : Bool)
    (old new : Files) (got : Fetched) (passed : Passed tells old new (fetched file got ∷ [])) where
  pub fetch_unreadied : (fault : NoReport) (r : Result Prepared NoReport)
      → Explains old new (fetched file got ∷ []) fault
      → IsErrAnd r (λ (f : NoReport). f ≡ fault) → ReadiesFor request tells old new r
  fetch_unreadied fault r explains is =
      fault_readied (MayExchange request) (PreparesFor request) tells old new
      (fetched file got ∷ []) fault r passed
      (may_with request file is_file (fetched file got ∷ []) (dialogues.text got refl)) explains is

  fetch_readied : (prepared : Prepared) → (IsFailed (fetched file got) → ⊥)
      → KeepsCounts old new → PreparesFor request (fetched file got ∷ []) prepared
      → (let r : Result Prepared NoReport = Ok prepared in ReadiesFor request tells old new r)
  fetch_readied prepared done kept made =
      one_fetch.fetch_readied (MayExchange request) (PreparesFor request) tells old new file
      (λ other. may_with request file is_file (fetched file other ∷ [])
      (dialogues.text other refl)) got passed done kept prepared made

-- the fetch handed out more bytes than a text may have
module _ (request : Request) (file : List ℕ) (is_file : file_in request ≡ Some file) (tells : Bool)
    (old new : Files) (text : List ℕ)
    (passed : Passed tells old new (fetched file (too_long text) ∷ []))
    (long : length text ≡ largest_file + 1) (kept : KeepsCounts old new) where
  pub large_readied : (report : Report) → Says (TellsLimit (style_in request) 701 []) report
      → (let r : Result Prepared NoReport = Ok (Whole report) in
      ReadiesFor request tells old new r)
  large_readied report says =
      fetch_readied request file is_file tells old new (too_long text) passed (Whole report)
      (λ fails. fails) kept
      (said_prepared (IsDialogue request (fetched file (too_long text) ∷ [])) _
      (TellsLimit (style_in request) 701 [])
      (λ s a p tells_limit.
      after_text request file is_file (fetched file (too_long text) ∷ []) s a p
      (dialogues.oversized (record {
        text = text;
        long = long;
        fetches = refl;
        tells = tells_limit;
      })))
      report says)

-- the fetch ended in a fault
module _ (request : Request) (file : List ℕ) (is_file : file_in request ≡ Some file) (tells : Bool)
    (old new : Files) (fault : FetchFault)
    (passed : (let r : Result (Vec ℕ) FetchFault = Err fault in
    Passed tells old new (fetched file (fetched_of r) ∷ []))) where
  pub long_readied : (bytes : Vec ℕ) → fault ≡ Long bytes
      → (let r : Result (Vec ℕ) FetchFault = Err fault in
      IfLong r (λ text. length text ≡ largest_file + 1))
      → (let r : Result (Vec ℕ) FetchFault = Err fault in IfAnswered r (KeepsCounts old new))
      → (report : Report) → Says (TellsLimit (style_in request) 701 []) report
      → (let r : Result Prepared NoReport = Ok (Whole report) in
      ReadiesFor request tells old new r)
  long_readied bytes is long kept report says =
      large_readied request file is_file tells old new bytes.items
      (passed_as tells old new file fault (Long bytes) is passed)
      (subst (λ (f : FetchFault). let r : Result (Vec ℕ) FetchFault = Err f in
      IfLong r (λ text. length text ≡ largest_file + 1)) is long)
      (subst (λ (f : FetchFault). let r : Result (Vec ℕ) FetchFault = Err f in
      IfAnswered r (KeepsCounts old new)) is kept)
      report says

  pub long_unreadied : (bytes : Vec ℕ) → fault ≡ Long bytes → (r : Result Prepared NoReport)
      → IsErrAnd r (λ (f : NoReport). f ≡ OutOfMemory) → ReadiesFor request tells old new r
  long_unreadied bytes is r err =
      fetch_unreadied request file is_file tells old new (too_long bytes.items)
      (passed_as tells old new file fault (Long bytes) is passed) OutOfMemory r tt err

  pub failed_unreadied : fault ≡ Failed
      → Rose (old.fetch_faults file) (new.fetch_faults file)
      → (let r : Result Prepared NoReport = Err Unread in ReadiesFor request tells old new r)
  failed_unreadied is rose =
      fetch_unreadied request file is_file tells old new nothing
      (passed_as tells old new file fault Failed is passed) Unread (Err Unread)
      (record { before = []; name = file; last = refl; rose = rose }) refl

  pub spent_unreadied : fault ≡ faults.OutOfMemory
      → (let r : Result Prepared NoReport = Err OutOfMemory in ReadiesFor request tells old new r)
  spent_unreadied is =
      fetch_unreadied request file is_file tells old new nothing
      (passed_as tells old new file fault faults.OutOfMemory is passed) OutOfMemory
      (Err OutOfMemory) tt refl

-- ---- without a file

module _ (lanes : ℕ) (checks : Bool) (tells : Bool) (old new : Files) where
  gen_made : (r : Result Prepared NoReport) (exchanges : List Exchange) → exchanges ≡ []
      → IfOk r (λ made. Reports (Generates lanes checks) made × NoneFailed exchanges)
      → IfOk r (λ made. PreparesFor (gen lanes checks) exchanges made × NoneFailed exchanges)
  gen_made (Ok prepared) exchanges none is = (
    reports_prepared (IsDialogue (gen lanes checks) exchanges) _ (Generates lanes checks)
        (λ s a p told. (none, told)) prepared is.0,
    is.1,
  )
  gen_made (Err fault) exchanges none is = tt

  pub gen_readied : (r : Result Prepared NoReport)
      → Readies (λ exchanges. exchanges ≡ []) (λ _. Reports (Generates lanes checks)) tells old new
      r
      → ReadiesFor (gen lanes checks) tells old new r
  gen_readied r is = record {
    exchanges = is.exchanges;
    passed = is.passed;
    may = is.may;
    made = gen_made r is.exchanges is.may is.made;
    unfailed = is.unfailed;
    fault = is.fault;
  }

-- ---- words

module _ (words : List (List ℕ)) where
  -- what a command answers
  answers : (request : Request) → usage_of words ≡ None → request_of words ≡ Some request
      → (exchanges : List Exchange) (s : List ℕ) (a : Answer) (p : List ℕ)
      → IsDialogue request exchanges s a p → IsAnswer words exchanges s a p
  answers request none asked exchanges s a p is =
      subst (λ (u : Option UsageKind).
      MatchOption u ((r : Request) × (request_of words ≡ Some r) × IsDialogue r exchanges s a p)
      (λ kind. (exchanges ≡ []) × (a ≡ misused kind) × (p ≡ usage_text kind))) (sym none)
      (request, asked, is)

  may_words : (request : Request) → usage_of words ≡ None → request_of words ≡ Some request
      → (exchanges : List Exchange) (prepared : Prepared)
      → IsOtherOrWith (λ level design. (ws : List (List ℕ)) → usage_of ws ≡ None
      → request_of ws ≡ Some request → MaySimulateDesign ws exchanges level design) prepared
      → IsOtherOrWith (MaySimulateDesign words exchanges) prepared
  may_words request none asked exchanges (Whole report) may = tt
  may_words request none asked exchanges (Lines design) may = tt
  may_words request none asked exchanges (Clauses coded) may = tt
  may_words request none asked exchanges (Simulation design level order) may =
      may words none asked

  words_prepared : (request : Request) → usage_of words ≡ None
      → request_of words ≡ Some request → (exchanges : List Exchange) (prepared : Prepared)
      → PreparesFor request exchanges prepared → PreparesWords words exchanges prepared
  words_prepared request none asked exchanges prepared is = record {
    ready = is.ready;
    simulates = may_words request none asked exchanges prepared is.simulates;
    stands = λ s a p performed.
        answers request none asked exchanges s a p (is.stands s a p performed);
  }

  -- what is made ready for a command is so for the words that ask for it
  pub words_readied : (request : Request) → usage_of words ≡ None
      → request_of words ≡ Some request → (tells : Bool) (old new : Files)
      (r : Result Prepared NoReport) → ReadiesFor request tells old new r
      → ReadiesWords words tells old new r
  words_readied request none asked tells old new r is =
      readies_too (MayExchange request) (PreparesFor request) tells (IsExchanged words)
      (PreparesWords words) (λ exchanges may. inr (request, none, asked, may))
      (words_prepared request none asked) old new r is

  misuses : (kind : UsageKind) → usage_of words ≡ Some kind → (exchanges : List Exchange)
      → exchanges ≡ [] → (s : List ℕ) (a : Answer) (p : List ℕ)
      → (a ≡ misused kind) × (p ≡ usage_text kind) → IsAnswer words exchanges s a p
  misuses kind usage exchanges none s a p is =
      subst (λ (u : Option UsageKind).
      MatchOption u ((r : Request) × (request_of words ≡ Some r) × IsDialogue r exchanges s a p)
      (λ k. (exchanges ≡ []) × (a ≡ misused k) × (p ≡ usage_text k))) (sym usage)
      (none, is.0, is.1)

  -- where they are no command the answer is what is wrong with them
  pub misuse_readied : (tells : Bool) (files : Files) (kind : UsageKind) (report : Report)
      → usage_of words ≡ Some kind → answer_of report.outcome ≡ Some (misused kind)
      → report.text.items ≡ usage_text kind
      → (let r : Result Prepared NoReport = Ok (Whole report) in
      ReadiesWords words tells files files r)
  misuse_readied tells files kind report usage gives prints =
      made_readied (IsExchanged words) (PreparesWords words) tells files (Whole report) (inl refl)
      (said_prepared (IsAnswer words []) (MaySimulateDesign words [])
      (λ a p. (a ≡ misused kind) × (p ≡ usage_text kind)) (misuses kind usage [] refl) report
      (misused kind, gives, (refl, prints)))
