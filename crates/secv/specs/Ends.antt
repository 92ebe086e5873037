-- What an exit status says of what passed through the files, the input and the output.
use Rattle.std.specs.Prelude.{◌≡◌, ◌⊎◌, ℕ, false, List, [], ◌∷◌, ◌++◌, codes}
use Rattle.std.specs.Prelude.{Some, None, IsSome}
use Rattle.sv_io.specs.declared.system.FileCabinet.{FileCabinet}
use Rattle.sv_io.specs.declared.system.StdSource.{StdSource}
use Rattle.sv_io.specs.declared.system.StdSink.{StdSink}
use Rattle.sv_io.specs.Count.{Rose}
use Rattle.sv_io.specs.Exchange.{Exchange}
use Rattle.sv_io.specs.Sink.{WritesFront}
use Rattle.sv_io.specs.System.{file_exchanges, file_fetch_faults, file_store_faults}
use Rattle.sv_io.specs.System.{source_given, source_ended, source_faults, sink_accepted}
use Rattle.sv_io.specs.System.{sink_faults}
use Rattle.sv_io.specs.Traffic.{Traffic, files_by, input_by, output_by}
use Rattle.sv_words.specs.Words.{Request, request_of, help_asked}
use Rattle.sv_cli.specs.declared.outcome.Outcome.{Outcome}
use Rattle.sv_cli.specs.declared.outcome.Outcome.TheVariants.{Done}
use Rattle.sv_cli.specs.Answer.{answer_of, status_of, views_differ}
use Rattle.sv_cli.specs.Command.{top_in, Claims}
use Rattle.sv_cli.specs.Dialogues.{IsTextOf}
use Rattle.sv_cli.specs.Runs.{Runs}
use Rattle.sv_cli.specs.Texts.{HasValidObligations, KeepsSecrets}

-- the words ask for the help of the program
abbrev pub IsHelp : List (List ℕ) → Type 0
IsHelp words = (words ≡ codes "--help" ∷ []) ⊎ (words ≡ codes "-h" ∷ [])

-- the words ask for it, for the version, or for the help of a command
abbrev pub IsShown : List (List ℕ) → Type 0
IsShown words =
    (IsHelp words ⊎ (words ≡ codes "--version" ∷ [])) ⊎ IsSome (help_asked words)

-- the text was written, and the status is the one wanted; or a front of it was, and the status is
-- 5, where the output failed, or 6, where memory ran out
abbrev pub Prints : {W : Type 0} → (text : List ℕ) → (wanted : ℕ) → (old new : StdSink W) → ℕ →
    Type 0
Prints text wanted old new status =
    ((status ≡ wanted) × (sink_accepted new ≡ sink_accepted old ++ text))
    ⊎ (WritesFront (sink_accepted old) text (sink_accepted new)
    × (((status ≡ 5) × Rose (sink_faults old) (sink_faults new)) ⊎ (status ≡ 6)))

-- What the files, the input and the output of the system are at a time. What the files hold and
-- the input has left is not told.
abbrev pub traffic : {R F O I W : Type 0} → FileCabinet R F O → StdSource I → StdSink W → Traffic
traffic cabinet input out = record {
  files = files_by file_exchanges (λ _ _. None) (λ c _. file_fetch_faults c)
      (λ c _. file_store_faults c) cabinet;
  input = input_by source_given (λ _. []) source_ended source_faults input;
  output = output_by sink_accepted sink_faults out;
}

-- The status is that of an outcome of which all holds that holds of a call of `run` for these
-- words, the headline among it, by what had passed before and what has now.
pub record Ends (words : List (List ℕ)) (old new : Traffic) (status : ℕ) : Type 0 where
  pub outcome : Outcome
  pub is : status ≡ status_of outcome
  pub noninterference : outcome ≡ Done
      → (request : Request) → request_of words ≡ Some request → Claims request
      → (text : List ℕ) × (exchanges : List Exchange)
      × (new.files.exchanges ≡ old.files.exchanges ++ exchanges)
      × IsTextOf request exchanges text × KeepsSecrets (top_in request) text
  pub valid : outcome ≡ Done
      → (request : Request) → request_of words ≡ Some request → Claims request
      → (text : List ℕ) × (exchanges : List Exchange)
      × (new.files.exchanges ≡ old.files.exchanges ++ exchanges)
      × IsTextOf request exchanges text × HasValidObligations (top_in request) text
  pub no_leak : (cycle signal : ℕ) → answer_of outcome ≡ Some (views_differ cycle signal)
      → (request : Request) × (text : List ℕ) × (exchanges : List Exchange)
      × (request_of words ≡ Some request)
      × (new.files.exchanges ≡ old.files.exchanges ++ exchanges)
      × IsTextOf request exchanges text
      × (KeepsSecrets (top_in request) text → ⊥)
  pub runs : Runs false false words old new outcome
