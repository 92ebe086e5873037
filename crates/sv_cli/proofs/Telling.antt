-- From what is prepared and done to what the program is for its words.
use Rattle.std.proofs.Common.{◌≡◌, ℕ, ◌+◌, ◌≤◌, List, [], ◌++◌, length, Option, Some, None, sym}
use Rattle.std.proofs.Common.{refl, ap, subst, inl, inr, ◌⊎◌}
use Rattle.std.specs.Prelude.{◌↔◌, Bool, IsTrue, IfSome, IfNone, IsSome, All, Any, MatchOption}
use Rattle.std.specs.Prelude.{Result, Ok, Err}
use Rattle.sv_flat.specs.Design.{FlatDesign}
use Rattle.sv_io.specs.Count.{Rose}
use Rattle.sv_io.specs.Exchange.{Exchange}
use Rattle.sv_io.specs.Sink.{WritesFront}
use Rattle.sv_io.specs.Source.{WhateverFollows}
use Rattle.sv_io.specs.Traffic.{Files, Input, Output, Traffic, IsFailed, FailsToFetch}
use Rattle.sv_io.specs.Traffic.{FailsToStore, input_by}
use Rattle.sv_sim_run.specs.Simulated.{largest_stimulus, level_asked, WritesAllCycles}
use Rattle.sv_words.specs.Words.{Request, request_of, usage_of}
use Rattle.sv_words.specs.declared.command.UsageKind.{UsageKind}
use Rattle.sv_cli.specs.declared.outcome.Outcome.{Outcome}
use Rattle.sv_cli.specs.declared.outcome.Outcome.TheVariants.{ReadFault, WriteFault}
use Rattle.sv_cli.specs.declared.prepared.NoReport.{NoReport}
use Rattle.sv_cli.specs.declared.prepared.Prepared.{Prepared}
use Rattle.sv_cli.specs.declared.prepared.Prepared.TheVariants.{Whole, Lines, Clauses}
use Rattle.sv_cli.specs.declared.prepared.Prepared.TheVariants.{Simulation}
use Rattle.sv_cli.specs.Answer.{Answer, answer_of, done, views_differ, misused}
use Rattle.sv_cli.specs.Dialogues.{IsDialogue, IsTextOf}
use Rattle.sv_cli.specs.Prepared.{IsPerformed, Performs, IsSimulationWith, IsOtherOrWith}
use Rattle.sv_cli.specs.Prepared.{MaySimulateDesign, PreparesWords, ReadiesWords}
use Rattle.sv_cli.specs.Runs.{MayTake, WritesCycles, IsWhole, IsFront, IsUntouched, KeepsCounts}
use Rattle.sv_cli.specs.Runs.{IsUnfailed, Runs}
use Rattle.sv_cli.specs.Text.{usage_text}
use Rattle.sv_cli.proofs.Sending.{few_taken}
use Rattle.sv_cli.proofs.Simulating.{cycles_told}

-- what fails nowhere fails not somewhere
none_of : {X : Type 0} (P : X → Type 0) (xs : List X) → All (λ x. P x → ⊥) xs → Any P xs → ⊥
none_of P xs none some =
    none some.0 some.1 some.2 (subst P (sym some.3) some.4)

untouched : (input : Input) → IsUntouched input input
untouched input = record { given = refl; left = refl; ended = refl; faults = refl }

-- an input that is the same is untouched
pub same_untouched : {S : Type 0} (given left : S → List ℕ) (ended : S → Bool) (faults : S → ℕ)
    (old new : S) (Other : Type 0) → (new ≡ old) ⊎ Other
    → IsUntouched (input_by given left ended faults old) (input_by given left ended faults new)
    ⊎ Other
same_untouched given left ended faults old new Other (inl same) =
    inl (record {
      given = ap given same;
      left = ap left same;
      ended = ap ended same;
      faults = ap faults same;
    })
same_untouched given left ended faults old new Other (inr other) = inr other

-- no fetch, no store, no take and no put failed
unfailed_told : (old new : Traffic) (o : Option Answer) → KeepsCounts old.files new.files
    → IfSome o (λ a. (new.input.faults ≡ old.input.faults)
    × (new.output.faults ≡ old.output.faults))
    → IfSome o (λ a. IsUnfailed old new)
unfailed_told old new None files rest = tt
unfailed_told old new (Some a) files rest =
    record { files = files; takes = rest.0; puts = rest.1 }

-- ---- what is done with what is prepared

module _ (words : List (List ℕ)) (exchanges : List Exchange) (prepared : Prepared)
    (found : PreparesWords words exchanges prepared) where
  module _ (old new : Output) where
    -- what was accepted
    abbrev Accepted : List ℕ → Type 0
    Accepted printed = new.accepted ≡ old.accepted ++ printed

    abbrev Front : List ℕ → Type 0
    Front printed = WritesFront old.accepted printed new.accepted

    answer_told : (o : Option Answer) (Took : List ℕ → Type 0)
        → IfSome o (λ a. (s p : List ℕ) × Took s × IsPerformed prepared s a p × Accepted p)
        → IfSome o (λ a. (s : List ℕ) × Took s × IsWhole words exchanges old new a s)
    answer_told None Took made = tt
    answer_told (Some a) Took made =
        (made.0, made.2, (made.1, found.stands made.0 a made.1 made.3, made.4))

    whole_told : (o : Option Answer) (stimulus : List ℕ)
        → IfSome o (λ a. (p : List ℕ) × IsPerformed prepared stimulus a p × Accepted p)
        → IfSome o (λ a. IsWhole words exchanges old new a stimulus)
    whole_told None stimulus made = tt
    whole_told (Some a) stimulus made =
        (made.0, found.stands stimulus a made.0 made.1, made.2)

    front_told : (o : Option Answer) (Took : List ℕ → Type 0)
        → IfNone o ((s : List ℕ) × (a : Answer) × (p : List ℕ) × Took s
        × IsPerformed prepared s a p × Front p)
        → IfNone o ((new.accepted ≡ old.accepted)
        ⊎ ((s : List ℕ) × Took s × IsFront words exchanges old new s))
    front_told (Some b) Took made = tt
    front_told None Took made =
        inr (
          made.0,
          made.3,
          (made.1, made.2, found.stands made.0 made.1 made.2 made.4, made.5),
        )

    open_front_told : (o : Option Answer) (ended : Bool) (given_old given_new : List ℕ)
        → WhateverFollows ended given_old given_new (λ s. IfNone o ((a : Answer) × (p : List ℕ)
        × IsPerformed prepared s a p × Front p))
        → IfNone o ((new.accepted ≡ old.accepted)
        ⊎ WhateverFollows ended given_old given_new (IsFront words exchanges old new))
    open_front_told (Some b) ended given_old given_new made = tt
    open_front_told None ended given_old given_new made =
        inr (λ goes_on taken more given.
        let m = made goes_on taken more given in
        (m.0, m.1, found.stands (taken ++ more) m.0 m.1 m.2, m.3))

    whole_front_told : (o : Option Answer) (stimulus : List ℕ)
        → IfNone o ((a : Answer) × (p : List ℕ) × IsPerformed prepared stimulus a p × Front p)
        → IfNone o ((new.accepted ≡ old.accepted) ⊎ IsFront words exchanges old new stimulus)
    whole_front_told (Some b) stimulus made = tt
    whole_front_told None stimulus made =
        inr (made.0, made.1, found.stands stimulus made.0 made.1 made.2, made.3)

  -- what is simulated is the design of the text that was fetched
  simulation_of : (p : Prepared) (Holds : Option (List ℕ) → FlatDesign → Type 0)
      → IsOtherOrWith (MaySimulateDesign words exchanges) p → IsSimulationWith Holds p
      → (level : Option (List ℕ)) × (design : FlatDesign)
      × MaySimulateDesign words exchanges level design × Holds level design
  simulation_of (Whole report) Holds may is = absurd is
  simulation_of (Lines design) Holds may is = absurd is
  simulation_of (Clauses coded) Holds may is = absurd is
  simulation_of (Simulation design level order) Holds may is = (_, _, may, is)

  -- the input is as it was, or something is simulated
  unchanged_told : (Same : Type 0)
      → Same ⊎ IsSimulationWith (λ level design. IsSome (level_asked design level)) prepared
      → Same ⊎ MayTake words exchanges
  unchanged_told Same (inl same) = inl same
  unchanged_told Same (inr is) =
      let s = simulation_of prepared (λ level design. IsSome (level_asked design level))
      found.simulates is in
      inr (record {
        level = s.0;
        simulates = s.2.0;
        shown =
            subst (λ (d : FlatDesign). IsSome (level_asked d s.0)) (sym s.2.1) s.3;
      })

  -- a fault of the input comes behind the lines of all cycles that were taken
  cycles_written : (stimulus old new : List ℕ)
      → IsSimulationWith (λ level design. WritesAllCycles design level stimulus old new) prepared
      → WritesCycles words exchanges stimulus old new
  cycles_written stimulus old new is =
      let s = simulation_of prepared
      (λ level design. WritesAllCycles design level stimulus old new) found.simulates is in
      cycles_told words exchanges s.0 s.1 stimulus old new s.2 s.3

-- ---- what a call is

module _ (files_tell input_tells : Bool) (words : List (List ℕ)) (old new : Traffic) where
  -- something was prepared, and done
  module _ (outcome : Outcome) (prepared : Prepared)
      (ready : (let r : Result Prepared NoReport = Ok prepared in
      ReadiesWords words files_tell old.files new.files r))
      (performed : Performs (IsPerformed prepared)
      (λ s. new.input.given ≡ old.input.given ++ s) input_tells old.input.left
      old.output.accepted new.output.accepted (answer_of outcome))
      (to_the_end : WhateverFollows new.input.ended old.input.given new.input.given
      (λ s. IfSome (answer_of outcome) (λ a. (printed : List ℕ) × IsPerformed prepared s a printed
      × (new.output.accepted ≡ old.output.accepted ++ printed))))
      (front_to_the_end : WhateverFollows new.input.ended old.input.given new.input.given
      (λ s. IfNone (answer_of outcome) ((a : Answer) × (printed : List ℕ)
      × IsPerformed prepared s a printed
      × WritesFront old.output.accepted printed new.output.accepted)))
      (unfailed : IfSome (answer_of outcome) (λ a. (new.input.faults ≡ old.input.faults)
      × (new.output.faults ≡ old.output.faults)))
      (read_fault : outcome ≡ ReadFault → (s : List ℕ)
      × (new.input.given ≡ old.input.given ++ s) × Rose old.input.faults new.input.faults
      × (IsTrue new.input.ended ↔ IsTrue old.input.ended)
      × IsSimulationWith (λ level design. WritesAllCycles design level s old.output.accepted
      new.output.accepted) prepared)
      (write_fault : outcome ≡ WriteFault → Rose old.output.faults new.output.faults)
      (unchanged : IsUntouched old.input new.input
      ⊎ IsSimulationWith (λ level design. IsSome (level_asked design level)) prepared)
      (most : (s : List ℕ) → new.input.given ≡ old.input.given ++ s
      → length s ≤ largest_stimulus + 1) where
    abbrev found : PreparesWords words ready.exchanges prepared
    found = ready.made.0

    pub runs_told : Runs files_tell input_tells words old new outcome
    runs_told = record {
      exchanges = ready.exchanges;
      passed = ready.passed;
      exchanged = ready.may;
      answer =
          answer_told words ready.exchanges prepared found old.output new.output
          (answer_of outcome) (λ s. new.input.given ≡ old.input.given ++ s) performed.answer;
      whole_stimulus = λ tells.
          whole_told words ready.exchanges prepared found old.output new.output
          (answer_of outcome) old.input.left (performed.whole tells);
      to_the_end = λ goes_on taken more given.
          whole_told words ready.exchanges prepared found old.output new.output
          (answer_of outcome) (taken ++ more) (to_the_end goes_on taken more given);
      unfailed = unfailed_told old new (answer_of outcome) ready.unfailed unfailed;
      front =
          front_told words ready.exchanges prepared found old.output new.output
          (answer_of outcome) (λ s. new.input.given ≡ old.input.given ++ s) performed.front;
      front_to_the_end =
          open_front_told words ready.exchanges prepared found old.output new.output
          (answer_of outcome) new.input.ended old.input.given new.input.given front_to_the_end;
      whole_front = λ tells.
          whole_front_told words ready.exchanges prepared found old.output new.output
          (answer_of outcome) old.input.left (performed.whole_front tells);
      silent = λ failed. absurd (none_of IsFailed ready.exchanges ready.made.1 failed);
      read_fault = λ is.
          let fault = read_fault is in
          inr (record {
            stimulus = fault.0;
            given = fault.1;
            rose = fault.2;
            unended = fault.3;
            cycles =
                cycles_written words ready.exchanges prepared found fault.0 old.output.accepted
                new.output.accepted fault.4;
          });
      write_fault = λ is. inr (write_fault is);
      input_unchanged =
          unchanged_told words ready.exchanges prepared found (IsUntouched old.input new.input)
          unchanged;
      most = most;
    }

-- ---- the headline

-- words that are no command are answered by nothing else
pub done_told : (kind : UsageKind) → done ≡ misused kind → ⊥
done_told kind e = cc

pub views_told : (cycle signal : ℕ) (kind : UsageKind)
    → views_differ cycle signal ≡ misused kind → ⊥
views_told cycle signal kind e = cc

module _ (files_tell : Bool) (words : List (List ℕ)) (old new : Files) (prepared : Prepared)
    (ready : (let r : Result Prepared NoReport = Ok prepared in
    ReadiesWords words files_tell old new r))
    (outcome : Outcome) (Took Accepts : List ℕ → Type 0)
    (answered : IfSome (answer_of outcome) (λ a. (s p : List ℕ) × Took s
    × IsPerformed prepared s a p × Accepts p))
    (answer : Answer) (told : (kind : UsageKind) → answer ≡ misused kind → ⊥)
    (is_answer : answer_of outcome ≡ Some answer) where
  by_words : (u : Option UsageKind) (s p : List ℕ)
      → MatchOption u ((r : Request) × (request_of words ≡ Some r)
      × IsDialogue r ready.exchanges s answer p)
      (λ kind. (ready.exchanges ≡ []) × (answer ≡ misused kind) × (p ≡ usage_text kind))
      → (r : Request) × (request_of words ≡ Some r) × IsDialogue r ready.exchanges s answer p
  by_words None s p is = is
  by_words (Some kind) s p is = absurd (told kind is.1)

  -- it is a dialogue of a request that ends in the answer
  dialogue_told : (s p : List ℕ) × (r : Request) × (request_of words ≡ Some r)
      × IsDialogue r ready.exchanges s answer p
  dialogue_told =
      let made = subst (λ (o : Option Answer). IfSome o (λ a. (s p : List ℕ) × Took s
      × IsPerformed prepared s a p × Accepts p)) is_answer answered in
      let asked = by_words (usage_of words) made.0 made.1
      (ready.made.0.stands made.0 answer made.1 made.3) in
      (made.0, made.1, asked.0, asked.1, asked.2)

  -- and what it says of the exchanges it says of those of the files
  pub text_told : (Is : Request → List ℕ → Type 0) → ((request : Request)
      (exchanges : List Exchange) (s p : List ℕ) → request_of words ≡ Some request
      → IsDialogue request exchanges s answer p
      → (text : List ℕ) × IsTextOf request exchanges text × Is request text)
      → (request : Request) × (text : List ℕ) × (exchanges : List Exchange)
      × (request_of words ≡ Some request) × (new.exchanges ≡ old.exchanges ++ exchanges)
      × IsTextOf request exchanges text × Is request text
  text_told Is law =
      let d = dialogue_told in
      let kept = law d.2 ready.exchanges d.0 d.1 d.3 d.4 in
      (d.2, kept.0, ready.exchanges, d.3, ready.passed.called, kept.1, kept.2)

-- the words ask for one request
pub same_request : (words : List (List ℕ)) (first second : Request)
    → request_of words ≡ Some first → request_of words ≡ Some second → first ≡ second
same_request words first second asked also = cc

-- what is told of the request that the words ask for
pub text_of_asked : (words : List (List ℕ)) (old new : List Exchange)
    (Is : Request → List ℕ → Type 0) (request : Request) → request_of words ≡ Some request
    → (r : Request) × (text : List ℕ) × (exchanges : List Exchange)
    × (request_of words ≡ Some r) × (new ≡ old ++ exchanges)
    × IsTextOf r exchanges text × Is r text
    → (text : List ℕ) × (exchanges : List Exchange) × (new ≡ old ++ exchanges)
    × IsTextOf request exchanges text × Is request text
text_of_asked words old new Is request asked told =
    let same : told.0 ≡ request = same_request words told.0 request told.3 asked in
    subst (λ (r : Request). (text : List ℕ) × (exchanges : List Exchange)
    × (new ≡ old ++ exchanges) × IsTextOf r exchanges text × Is r text) same
    (told.1, told.2, told.4, told.5, told.6)

-- nothing was prepared: the input and the output are as they were
module _ (files_tell input_tells : Bool) (words : List (List ℕ)) (old new : Files) (input : Input)
    (output : Output) (outcome : Outcome) (fault : NoReport)
    (ready : (let r : Result Prepared NoReport = Err fault in
    ReadiesWords words files_tell old new r))
    (none : answer_of outcome ≡ None)
    (read_fault : outcome ≡ ReadFault → FailsToFetch old new ready.exchanges)
    (write_fault : outcome ≡ WriteFault → FailsToStore old new ready.exchanges) where
  silent_some : (Is : Answer → Type 0) → IfSome (answer_of outcome) Is
  silent_some Is = subst (λ (o : Option Answer). IfSome o Is) (sym none) tt

  silent_none : (Is : Type 0) → Is → IfNone (answer_of outcome) Is
  silent_none Is is = subst (λ (o : Option Answer). IfNone o Is) (sym none) is

  pub runs_silent : Runs files_tell input_tells words
      (record { files = old; input = input; output = output })
      (record { files = new; input = input; output = output }) outcome
  runs_silent = record {
    exchanges = ready.exchanges;
    passed = ready.passed;
    exchanged = ready.may;
    answer = silent_some _;
    whole_stimulus = λ tells. silent_some _;
    to_the_end = λ goes_on taken more given. silent_some _;
    unfailed = silent_some _;
    front = silent_none _ (inl refl);
    front_to_the_end = silent_none _ (inl refl);
    whole_front = λ tells. silent_none _ (inl refl);
    silent = λ failed. refl;
    read_fault = λ is. inl (read_fault is);
    write_fault = λ is. inl (write_fault is);
    input_unchanged = inl (untouched input);
    most = few_taken input.given;
  }
