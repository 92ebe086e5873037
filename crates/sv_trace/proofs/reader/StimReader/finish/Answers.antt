use Rattle.std.proofs.Common.{sym, ap, ◌∙◌, refl, subst}
use Rattle.sv_trace.specs.Reading.{Reading, HaveReadFront, KeepsCycles, said_of}
use Rattle.sv_trace.specs.Steps.{Stands}
use Rattle.sv_trace.specs.Stimulus.{read_whole}
use Rattle.sv_trace.proofs.ReaderFacts.{end_still, end_read, full_still, end_full, opened}
use Rattle.sv_trace.proofs.SaidFacts.{keeps_all}
use Rattle.sv_trace.proofs.reader.StimReader.finish.Goals as goal

pub returns-in-Some-clause-read : goal.returns-in-Some-clause-read
returns-in-Some-clause-read c =
    end_still c.args.self.now c.in-Some.fault
    (ap (λ (r : Reading). r.fault) (sym c.self.view_is) ∙ c.in-Some.is)

pub returns-in-Some-clause-full : goal.returns-in-Some-clause-full
returns-in-Some-clause-full c =
    let old = c.args.self.now in
    full_still old c.in-Some.fault
    (λ bytes taken. HaveReadFront old.form (read_whole old.form bytes).right taken old.said)
    (ap (λ (r : Reading). r.fault) (sym c.self.view_is) ∙ c.in-Some.is)

pub returns-in-Some-clause-kept : goal.returns-in-Some-clause-kept
returns-in-Some-clause-kept c = keeps_all c.args.self.now.said

pub returns-clause-read : goal.returns-clause-read
returns-clause-read c =
    let inside = c.self.inside in
    end_read inside.form (said_of inside.state) (said_of c.read_end-read.new.state)
    inside.kept.items c.clear.new.self.items c.read_end-read.result c.args.self.now _
    (opened inside.form (said_of inside.state) inside.kept.items c.args.self.now inside.fault
    inside.is_finished c.self.view_is c.in_default.is
    (ap (λ (r : Reading). r.finished) c.self.view_is ∙ c.requires.open))
    refl refl c.err-self-inside.ensures.value
    (λ bytes taken s. c.read_end-read.ensures.read bytes taken
    (subst (λ k. Stands inside.form bytes taken (said_of inside.state) k)
    (sym c.as_slice.ensures.value) s))

pub returns-clause-full : goal.returns-clause-full
returns-clause-full c =
    let inside = c.self.inside in
    end_full inside.form (said_of inside.state) (said_of c.read_end-read.new.state)
    inside.kept.items c.clear.new.self.items c.args.self.now
    (opened inside.form (said_of inside.state) inside.kept.items c.args.self.now inside.fault
    inside.is_finished c.self.view_is c.in_default.is
    (ap (λ (r : Reading). r.finished) c.self.view_is ∙ c.requires.open))
    c.read_end-read.result
    (λ bytes taken s. c.read_end-read.ensures.read bytes taken
    (subst (λ k. Stands inside.form bytes taken (said_of inside.state) k)
    (sym c.as_slice.ensures.value) s))

pub returns-clause-kept : goal.returns-clause-kept
returns-clause-kept c =
    subst (λ (r : Reading). KeepsCycles r.said (said_of c.read_end-read.new.state))
    c.self.view_is c.read_end-read.ensures.cycles
