-- What `sim` answers for a text that breaks no rule and a stimulus, and what it prints.
use Rattle.std.specs.Prelude.{◌≡◌, ℕ, List, [], Option}
use Rattle.sv_sim_run.specs.declared.endings.Ending.{Ending}
use Rattle.sv_sim_run.specs.declared.endings.Ending.TheVariants as endings
use Rattle.sv_texts.specs.declared.stimuli.StimSource.TheVariants.{Input}
use Rattle.sv_run_laws.specs.SimulatedTexts.{IsTextSimulated}
use Rattle.sv_cli.specs.Answer.{Answer, done, limit_exceeded, stimulus_refused}
use Rattle.sv_cli.specs.Texts.{Passes}

-- what is answered where a simulation ends so
abbrev pub answer_by : Ending → Answer
answer_by endings.Done = done
answer_by endings.NoLevel = limit_exceeded 707 []
answer_by endings.TooLarge = limit_exceeded 704 []
answer_by (endings.WrongLine line kind) = stimulus_refused Input line kind

-- The text's own cycle meaning is simulated on the stimulus, and what is printed is the trace and,
-- at its end, why it ends.
pub record Simulates (level : Option (List ℕ)) (order : Option ℕ) (top : Option (List ℕ))
    (text : List ℕ) (passes : Passes top text) (stimulus : List ℕ) (answer : Answer)
    (printed : List ℕ) : Type 0 where
  pub ends : Ending
  pub simulates : IsTextSimulated passes.stands.tree top passes.design level order stimulus ends
      printed
  pub answers : answer ≡ answer_by ends
