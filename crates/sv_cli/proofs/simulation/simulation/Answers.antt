use Rattle.std.proofs.Common.{◌≡◌, ℕ, List, ◌++◌, ap, ◌∙◌}
use Rattle.std.specs.Prelude.{Err}
use Rattle.std.specs.Option.{option_copied}
use Rattle.sv_flat.specs.Views.{design_of}
use Rattle.sv_cli.specs.Answer.{answer_of}
use Rattle.sv_cli.proofs.Sending.{ended, stopped, ended_whatever, stopped_whatever}
use Rattle.sv_cli.proofs.simulation.simulation.Goals as goal

pub returns-in-Ok-clause-performed : goal.returns-in-Ok-clause-performed
returns-in-Ok-clause-performed g c =
    ended (design_of c.args.design.now) (option_copied c.args.level) c.args.order
    (λ (s : List ℕ).
    g.S.Source.given c.simulate.new.input ≡ g.S.Source.given c.args.input.now ++ s)
    g.S.Source.tells (g.S.Source.left c.args.input.now) (g.K.Sink.accepted c.args.out.now)
    (g.K.Sink.accepted c.simulate.new.out) (answer_of c.outcome_of.result) c.in-Ok.ending
    c.outcome_of.ensures c.in-Ok.ensures.answer c.in-Ok.ensures.told

pub returns-in-Err-Read-clause-performed : goal.returns-in-Err-Read-clause-performed
returns-in-Err-Read-clause-performed g c =
    stopped (design_of c.args.design.now) (option_copied c.args.level) c.args.order
    (λ (s : List ℕ).
    g.S.Source.given c.simulate.new.input ≡ g.S.Source.given c.args.input.now ++ s)
    g.S.Source.tells (g.S.Source.left c.args.input.now) (g.K.Sink.accepted c.args.out.now)
    (g.K.Sink.accepted c.simulate.new.out) c.in-Err-Read.ensures.front
    c.in-Err-Read.ensures.told_front

pub returns-in-Err-Write-clause-performed : goal.returns-in-Err-Write-clause-performed
returns-in-Err-Write-clause-performed g c =
    stopped (design_of c.args.design.now) (option_copied c.args.level) c.args.order
    (λ (s : List ℕ).
    g.S.Source.given c.simulate.new.input ≡ g.S.Source.given c.args.input.now ++ s)
    g.S.Source.tells (g.S.Source.left c.args.input.now) (g.K.Sink.accepted c.args.out.now)
    (g.K.Sink.accepted c.simulate.new.out) c.in-Err-Write.ensures.front
    c.in-Err-Write.ensures.told_front

pub returns-in-Err-OutOfMemory-clause-performed :
    goal.returns-in-Err-OutOfMemory-clause-performed
returns-in-Err-OutOfMemory-clause-performed g c =
    stopped (design_of c.args.design.now) (option_copied c.args.level) c.args.order
    (λ (s : List ℕ).
    g.S.Source.given c.simulate.new.input ≡ g.S.Source.given c.args.input.now ++ s)
    g.S.Source.tells (g.S.Source.left c.args.input.now) (g.K.Sink.accepted c.args.out.now)
    (g.K.Sink.accepted c.simulate.new.out) c.in-Err-OutOfMemory.ensures.front
    c.in-Err-OutOfMemory.ensures.told_front

-- a fault of the input comes behind the lines of all cycles that were taken
pub returns-in-Err-Read-clause-read_fault : goal.returns-in-Err-Read-clause-read_fault
returns-in-Err-Read-clause-read_fault g c fault =
    let read = c.in-Err-Read.is ∙ ap Err c.in-Err-Read.field-0-is in
    let all = c.simulate.ensures.prompt read in
    (all.0, all.1, c.simulate.ensures.read_fault read, c.simulate.ensures.unended read, all.2)

pub returns-in-Err-Write-clause-write_fault : goal.returns-in-Err-Write-clause-write_fault
returns-in-Err-Write-clause-write_fault g c fault =
    c.simulate.ensures.write_fault (c.in-Err-Write.is ∙ ap Err c.in-Err-Write.field-0-is)

-- ---- whatever follows

pub returns-in-Ok-clause-to_the_end : goal.returns-in-Ok-clause-to_the_end
returns-in-Ok-clause-to_the_end g c =
    ended_whatever (design_of c.args.design.now) (option_copied c.args.level) c.args.order
    (g.S.Source.ended c.simulate.new.input) (g.S.Source.given c.args.input.now)
    (g.S.Source.given c.simulate.new.input) (g.K.Sink.accepted c.args.out.now)
    (g.K.Sink.accepted c.simulate.new.out) (answer_of c.outcome_of.result) c.in-Ok.ending
    c.outcome_of.ensures c.in-Ok.ensures.to_the_end

pub returns-in-Err-Read-clause-front_to_the_end :
    goal.returns-in-Err-Read-clause-front_to_the_end
returns-in-Err-Read-clause-front_to_the_end g c =
    stopped_whatever (design_of c.args.design.now) (option_copied c.args.level) c.args.order
    (g.S.Source.ended c.simulate.new.input) (g.S.Source.given c.args.input.now)
    (g.S.Source.given c.simulate.new.input) (g.K.Sink.accepted c.args.out.now)
    (g.K.Sink.accepted c.simulate.new.out) c.in-Err-Read.ensures.front_to_the_end

pub returns-in-Err-Write-clause-front_to_the_end :
    goal.returns-in-Err-Write-clause-front_to_the_end
returns-in-Err-Write-clause-front_to_the_end g c =
    stopped_whatever (design_of c.args.design.now) (option_copied c.args.level) c.args.order
    (g.S.Source.ended c.simulate.new.input) (g.S.Source.given c.args.input.now)
    (g.S.Source.given c.simulate.new.input) (g.K.Sink.accepted c.args.out.now)
    (g.K.Sink.accepted c.simulate.new.out) c.in-Err-Write.ensures.front_to_the_end

pub returns-in-Err-OutOfMemory-clause-front_to_the_end :
    goal.returns-in-Err-OutOfMemory-clause-front_to_the_end
returns-in-Err-OutOfMemory-clause-front_to_the_end g c =
    stopped_whatever (design_of c.args.design.now) (option_copied c.args.level) c.args.order
    (g.S.Source.ended c.simulate.new.input) (g.S.Source.given c.args.input.now)
    (g.S.Source.given c.simulate.new.input) (g.K.Sink.accepted c.args.out.now)
    (g.K.Sink.accepted c.simulate.new.out) c.in-Err-OutOfMemory.ensures.front_to_the_end
