-- What a call of the program answers, in plain values, and the exit status of each answer.
use Rattle.std.specs.Prelude.{ℕ, List, Option, Some, None}
use Rattle.sv_num.specs.declared.faults.Place.{Place}
use Rattle.sv_clause.specs.Logs.{Step, plain_log}
use Rattle.sv_obl.specs.declared.valuations.Valuation.{Valuation}
use Rattle.sv_texts.specs.declared.stimuli.StimKind.{StimKind}
use Rattle.sv_words.specs.declared.command.UsageKind.{UsageKind}
use Rattle.sv_texts.specs.declared.stimuli.StimSource.{StimSource}
use Rattle.sv_report.specs.declared.verdicts.Broken.TheVariants as broken
use Rattle.sv_cli.specs.declared.outcome.Outcome.{Outcome}
use Rattle.sv_cli.specs.declared.outcome.Outcome.TheVariants as outcome

-- the exit status
abbrev pub status_of : Outcome → ℕ
status_of outcome.Done = 0
status_of (outcome.Refused b) = 1
status_of (outcome.Usage kind) = 2
status_of (outcome.Unknown spent) = 3
status_of outcome.ReadFault = 4
status_of outcome.WriteFault = 5
status_of outcome.OutOfMemory = 6

-- An answer that the words and what the outside hands in decide, in plain values. `done` is that
-- the text or its certificate is accepted, that its obligations are listed, that the clauses of one
-- are printed, that the whole stimulus is simulated, that two runs look the same, or that the sample
-- is printed; `undecided` is that the steps spend the budget on the obligation of this number. Where
-- two runs differ, the cycle is told and the signal by its number, or how many cycles the shorter
-- run has.
pub data Answer : Type 0 where
  done : Answer
  rule_broken : ℕ → Place → List (List ℕ) → Answer
  limit_exceeded : ℕ → List (List ℕ) → Answer
  falsified : ℕ → Valuation → Answer
  wrong_proof : (line : ℕ) → Answer
  stimulus_refused : StimSource → (line : ℕ) → StimKind → Answer
  undecided : ℕ → List Step → Answer
  inputs_differ : (cycle signal : ℕ) → Answer
  views_differ : (cycle signal : ℕ) → Answer
  lengths_differ : (cycles : ℕ) → Answer
  misused : UsageKind → Answer

-- the answer of an outcome; a failing object and want of memory give none
abbrev pub answer_of : Outcome → Option Answer
answer_of outcome.Done = Some done
answer_of (outcome.Refused (broken.Rule r)) = Some (rule_broken r.number r.place r.names.items)
answer_of (outcome.Refused (broken.Limit number names)) = Some (limit_exceeded number names.items)
answer_of (outcome.Refused (broken.Fails number v)) = Some (falsified number v)
answer_of (outcome.Refused (broken.Proof line)) = Some (wrong_proof line)
answer_of (outcome.Refused (broken.Stimulus source line kind)) =
    Some (stimulus_refused source line kind)
answer_of (outcome.Refused (broken.Input cycle signal)) = Some (inputs_differ cycle signal.0)
answer_of (outcome.Refused (broken.View cycle signal)) = Some (views_differ cycle signal.0)
answer_of (outcome.Refused (broken.Lengths cycles)) = Some (lengths_differ cycles)
answer_of (outcome.Usage kind) = Some (misused kind)
answer_of (outcome.Unknown spent) = Some (undecided spent.obligation (plain_log spent.log))
answer_of outcome.ReadFault = None
answer_of outcome.WriteFault = None
answer_of outcome.OutOfMemory = None
