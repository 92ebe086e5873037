use Rattle.std.proofs.Common.{length, sym, ap, subst, ◌∙◌}
use Rattle.sv_paths.specs.Driven.{IsDriven, HasPaths}
use Rattle.sv_paths.proofs.WrittenFacts.{as_many}
use Rattle.sv_paths.proofs.target_paths.TargetPaths.len.Goals as goal

pub returns-in-Some : goal.returns-in-Some
returns-in-Some c = λ design are.
    let s = c.args.self.now.target.0 in
    let has : HasPaths design s are.total c.in-Some.driven =
    subst (IsDriven design s are.total) c.in-Some.is are.driven in
    c.len.ensures
    ∙ as_many design s c.in-Some.driven.process.now c.in-Some.driven.paths has.are

pub returns-in-None : goal.returns-in-None
returns-in-None c = λ design are.
    sym (ap length (subst (IsDriven design c.args.self.now.target.0 are.total) c.in-None.is
    are.driven))
