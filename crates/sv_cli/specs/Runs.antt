-- What a call of the program is: what it answers for its words, by what passed between it and the
-- files, the input and the output.
use Rattle.std.specs.Prelude.{◌≡◌, ◌↔◌, ℕ, ◌+◌, ◌≤◌, ◌⊎◌, ◌++◌, ◌∷◌, List, [], Bool, IsTrue, Any}
use Rattle.std.specs.Prelude.{Option, Some, None, IsSome, IfSome, IfNone, length}
use Rattle.sv_io.specs.Count.{Rose}
use Rattle.sv_io.specs.Exchange.{Exchange, fetched, whole}
use Rattle.sv_io.specs.Sink.{WritesFront}
use Rattle.sv_io.specs.Source.{WhateverFollows}
use Rattle.sv_io.specs.Traffic.{Traffic, Files, Input, Output, Passed, IsFailed, FailsToFetch}
use Rattle.sv_io.specs.Traffic.{FailsToStore}
use Rattle.sv_sim_run.specs.Simulated.{largest_stimulus, level_asked}
use Rattle.sv_run_laws.specs.SimulatedTexts.{WritesTextCycles}
use Rattle.sv_words.specs.Words.{sim, request_of, usage_of}
use Rattle.sv_cli.specs.declared.outcome.Outcome.{Outcome}
use Rattle.sv_cli.specs.declared.outcome.Outcome.TheVariants.{ReadFault, WriteFault}
use Rattle.sv_cli.specs.Answer.{Answer, answer_of}
use Rattle.sv_cli.specs.Dialogues.{IsAnswer, IsExchanged}
use Rattle.sv_cli.specs.Texts.{largest_file, Passes}

-- the words are `sim` with this level, and FILE's text, which was fetched, breaks no rule
pub record MaySimulate (words : List (List ℕ)) (exchanges : List Exchange)
    (level : Option (List ℕ)) : Type 0 where
  pub file : List ℕ
  pub order : Option ℕ
  pub top : Option (List ℕ)
  pub is_command : usage_of words ≡ None
  pub asked : request_of words ≡ Some (sim file level order top)
  pub text : List ℕ
  pub within : length text ≤ largest_file
  pub fetches : exchanges ≡ fetched file (whole text) ∷ []
  pub passes : Passes top text

-- so the input may be taken: the level is a point of the design if one is named
pub record MayTake (words : List (List ℕ)) (exchanges : List Exchange) : Type 0 where
  pub level : Option (List ℕ)
  pub simulates : MaySimulate words exchanges level
  pub shown : IsSome (level_asked simulates.passes.design level)

-- These first bytes of a stimulus show no ending yet, and what was accepted is the lines of all
-- cycles that they let read.
pub record WritesCycles (words : List (List ℕ)) (exchanges : List Exchange)
    (stimulus old new : List ℕ) : Type 0 where
  pub level : Option (List ℕ)
  pub simulates : MaySimulate words exchanges level
  pub cycles : WritesTextCycles simulates.passes.stands.tree simulates.top level stimulus old new

-- The input failed: its count tells, this call has not shown its end, and the lines of all cycles
-- that the bytes taken let read were accepted.
pub record FailsToTake (words : List (List ℕ)) (exchanges : List Exchange) (old new : Traffic)
    : Type 0 where
  pub stimulus : List ℕ
  pub given : new.input.given ≡ old.input.given ++ stimulus
  pub rose : Rose old.input.faults new.input.faults
  pub unended : IsTrue new.input.ended ↔ IsTrue old.input.ended
  pub cycles : WritesCycles words exchanges stimulus old.output.accepted new.output.accepted

-- the answer is that of the words, of what was exchanged, and of this stimulus, and the whole of
-- what is defined was accepted
abbrev pub IsWhole : (words : List (List ℕ)) → (exchanges : List Exchange) → (old new : Output) →
    Answer → (stimulus : List ℕ) → Type 0
IsWhole words exchanges old new answer stimulus =
    (printed : List ℕ) × IsAnswer words exchanges stimulus answer printed
    × (new.accepted ≡ old.accepted ++ printed)

-- a front of what is defined for this stimulus was accepted
abbrev pub IsFront : (words : List (List ℕ)) → (exchanges : List Exchange) → (old new : Output) →
    (stimulus : List ℕ) → Type 0
IsFront words exchanges old new stimulus =
    (answer : Answer) × (printed : List ℕ) × IsAnswer words exchanges stimulus answer printed
    × WritesFront old.accepted printed new.accepted

-- no fetch and no store failed
pub record KeepsCounts (old new : Files) : Type 0 where
  pub fetches : (name : List ℕ) → new.fetch_faults name ≡ old.fetch_faults name
  pub stores : (name : List ℕ) → new.store_faults name ≡ old.store_faults name

-- nothing failed: no fetch, no store, no take and no put
pub record IsUnfailed (old new : Traffic) : Type 0 where
  pub files : KeepsCounts old.files new.files
  pub takes : new.input.faults ≡ old.input.faults
  pub puts : new.output.faults ≡ old.output.faults

-- nothing of the input was taken, and it was not asked
pub record IsUntouched (old new : Input) : Type 0 where
  pub given : new.given ≡ old.given
  pub left : new.left ≡ old.left
  pub ended : new.ended ≡ old.ended
  pub faults : new.faults ≡ old.faults

-- What holds of a call for its words, by what had passed before and what has now. Whether the files
-- and the input tell their bytes is a matter of their types.
pub record Runs (files_tell input_tells : Bool) (words : List (List ℕ)) (old new : Traffic)
    (outcome : Outcome) : Type 0 where
  -- what passed between the program and the files is what may for the words
  pub exchanges : List Exchange
  pub passed : Passed files_tell old.files new.files exchanges
  pub exchanged : IsExchanged words exchanges
  -- The answer is that of the words, of what was exchanged, and of the stimulus: of the bytes that
  -- the input gave; of all that were left, where it tells them; and, unless its end was shown, of
  -- whatever begins with those that it gave.
  pub answer : IfSome (answer_of outcome) (λ a. (stimulus : List ℕ)
      × (new.input.given ≡ old.input.given ++ stimulus)
      × IsWhole words exchanges old.output new.output a stimulus)
  pub whole_stimulus : IsTrue input_tells → IfSome (answer_of outcome)
      (λ a. IsWhole words exchanges old.output new.output a old.input.left)
  pub to_the_end : WhateverFollows new.input.ended old.input.given new.input.given
      (λ stimulus. IfSome (answer_of outcome)
      (λ a. IsWhole words exchanges old.output new.output a stimulus))
  -- an answer comes only where nothing failed
  pub unfailed : IfSome (answer_of outcome) (λ _. IsUnfailed old new)
  -- Without an answer nothing was accepted, or a front of what is defined: for the bytes that the
  -- input gave, and, unless its end was shown, for whatever begins with them.
  pub front : IfNone (answer_of outcome) ((new.output.accepted ≡ old.output.accepted)
      ⊎ ((stimulus : List ℕ) × (new.input.given ≡ old.input.given ++ stimulus)
      × IsFront words exchanges old.output new.output stimulus))
  pub front_to_the_end : IfNone (answer_of outcome) ((new.output.accepted ≡ old.output.accepted)
      ⊎ WhateverFollows new.input.ended old.input.given new.input.given
      (IsFront words exchanges old.output new.output))
  pub whole_front : IsTrue input_tells → IfNone (answer_of outcome)
      ((new.output.accepted ≡ old.output.accepted)
      ⊎ IsFront words exchanges old.output new.output old.input.left)
  -- nothing is written where a fetch or a store failed
  pub silent : Any IsFailed exchanges → new.output.accepted ≡ old.output.accepted
  -- each fault is told by the count of what failed
  pub read_fault : outcome ≡ ReadFault → FailsToFetch old.files new.files exchanges
      ⊎ FailsToTake words exchanges old new
  pub write_fault : outcome ≡ WriteFault → FailsToStore old.files new.files exchanges
      ⊎ Rose old.output.faults new.output.faults
  -- the input is left as it was but by `sim`, and at most one byte more of it is taken than the
  -- largest stimulus has
  pub input_unchanged : IsUntouched old.input new.input ⊎ MayTake words exchanges
  pub most : (stimulus : List ℕ) → new.input.given ≡ old.input.given ++ stimulus
      → length stimulus ≤ largest_stimulus + 1
