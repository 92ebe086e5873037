-- What a simulation of the design that a text stands for is to the text.
use Rattle.std.proofs.Common.{ℕ, List, Option, sym, subst}
use Rattle.sv_flat.specs.Design.{FlatDesign}
use Rattle.sv_io.specs.Exchange.{Exchange}
use Rattle.sv_sim_run.specs.Simulated.{WritesAllCycles}
use Rattle.sv_run_laws.specs.SimulatedTexts.{IsWrittenAlike, WritesTextCycles}
use Rattle.sv_run_laws.proofs.TextLaws.{read_flattened}
use Rattle.sv_run_laws.proofs.TextSimulations.{written_alike}
use Rattle.sv_cli.specs.Answer.{Answer}
use Rattle.sv_cli.specs.Prepared.{EndsAs, MaySimulateDesign}
use Rattle.sv_cli.specs.Runs.{WritesCycles}
use Rattle.sv_cli.specs.Simulates.{Simulates}
use Rattle.sv_cli.specs.Texts.{Passes}
use Rattle.sv_cli.proofs.TreeAnswers.{releases_nothing}

module _ (top : Option (List ℕ)) (text : List ℕ) (passes : Passes top text) where
  -- what is written of the design is what is written of the text
  pub alike : IsWrittenAlike passes.stands.tree top passes.design
  alike =
      written_alike passes.stands.tree top passes.design
      (read_flattened text passes.stands.tree passes.stands.means
      (releases_nothing passes.stands.tree passes.stands.built))
      passes.stands.flat passes.admitted

  pub simulates_text : (level : Option (List ℕ)) (order : Option ℕ) (stimulus : List ℕ)
      (answer : Answer) (printed : List ℕ)
      → EndsAs passes.design level order stimulus answer printed
      → Simulates level order top text passes stimulus answer printed
  simulates_text level order stimulus answer printed is = record {
    ends = is.0;
    simulates = (alike.whole level order stimulus is.0 printed).0 is.2;
    answers = is.1;
  }

  pub cycles_of_text : (level : Option (List ℕ)) (stimulus old new : List ℕ)
      → WritesAllCycles passes.design level stimulus old new
      → WritesTextCycles passes.stands.tree top level stimulus old new
  cycles_of_text level stimulus old new is = (alike.cycles level stimulus old new).0 is

-- the lines of cycles of the design are those of the text
pub cycles_told : (words : List (List ℕ)) (exchanges : List Exchange) (level : Option (List ℕ))
    (design : FlatDesign) (stimulus old new : List ℕ)
    → MaySimulateDesign words exchanges level design
    → WritesAllCycles design level stimulus old new
    → WritesCycles words exchanges stimulus old new
cycles_told words exchanges level design stimulus old new may is = record {
  level = level;
  simulates = may.0;
  cycles =
      cycles_of_text may.0.top may.0.text may.0.passes level stimulus old new
      (subst (λ (d : FlatDesign). WritesAllCycles d level stimulus old new) (sym may.1) is);
}
