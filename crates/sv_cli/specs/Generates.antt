-- What `gen` answers, and what it prints: a sample design, or the verdict on it.
use Rattle.std.specs.Prelude.{◌≡◌, ℕ, Bool, IsTrue, IsFalse, List, [], None}
use Rattle.sv_gen.specs.Sample.{sample_text, HasLanes}
use Rattle.sv_words.specs.Words.{default_budget}
use Rattle.sv_report.specs.declared.styles.Style.TheVariants.{Lines}
use Rattle.sv_cli.specs.Answer.{Answer, done}
use Rattle.sv_cli.specs.Checks.{Checks}
use Rattle.sv_cli.specs.Limits.{TellsLimit}
use Rattle.sv_cli.specs.Texts.{Passes, RefusesText}

-- the text of the sample is printed
pub record PrintsSample (lanes : ℕ) (answer : Answer) (printed : List ℕ) : Type 0 where
  pub answers : answer ≡ done
  pub prints : printed ≡ sample_text lanes

-- it is judged as `check` judges a text, with the budget where `--budget` does not stand
pub data ChecksSample (lanes : ℕ) (answer : Answer) (printed : List ℕ) : Type 0 where
  refused : RefusesText Lines None (sample_text lanes) answer printed
      → ChecksSample lanes answer printed
  checked : (passes : Passes None (sample_text lanes))
      → Checks Lines None default_budget passes.design [] answer printed
      → ChecksSample lanes answer printed

-- what is answered for any number of lanes
pub data Generates (lanes : ℕ) (checks : Bool) (answer : Answer) (printed : List ℕ) : Type 0 where
  no_sample : (HasLanes lanes → ⊥) → TellsLimit Lines 705 [] answer printed
      → Generates lanes checks answer printed
  printed : HasLanes lanes → IsFalse checks → PrintsSample lanes answer printed
      → Generates lanes checks answer printed
  judged : HasLanes lanes → IsTrue checks → ChecksSample lanes answer printed
      → Generates lanes checks answer printed
