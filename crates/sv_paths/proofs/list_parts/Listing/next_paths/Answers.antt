use Rattle.std.proofs.Common.{◌+◌, ap, subst, ◌∙◌}
use Rattle.sv_flat.specs.Views.{design_of}
use Rattle.sv_paths.specs.Driven.{IsDriven}
use Rattle.sv_obl.proofs.FormLists.{signal_inside}
use Rattle.sv_paths.proofs.WrittenFacts.{more_counted, told_counted, tells_error, paths_many}
use Rattle.sv_paths.proofs.WrittenFacts.{no_paths}
use Rattle.sv_paths.proofs.list_parts.Listing.next_paths.Goals as goal

pub returns-in_err-driven-clause-told : goal.returns-in_err-driven-clause-told
returns-in_err-driven-clause-told c =
    let design = design_of c.args.design.now in
    let inside = signal_inside c.args.design.now c.args.target.0 c.requires.known in
    tells_error design c.in_err-driven.field-0.0 c.from_residual.result
    c.from_residual.ensures.1
    (told_counted design c.args.target.0 c.args.self.now.count inside c.requires.at.counted
    c.in_err-driven.field-0.0 c.in_err-driven.ensures.excess)

pub returns-in-Some-clause-counted : goal.returns-in-Some-clause-counted
returns-in-Some-clause-counted c =
    let design = design_of c.args.design.now in
    let total = c.args.self.now.count in
    more_counted design c.args.target.0 total _
    (signal_inside c.args.design.now c.args.target.0 c.requires.known) c.requires.at.counted
    c.in_ok-driven.ensures.excess
    (ap (λ n. total + n) c.len.ensures
    ∙ paths_many design c.args.target.0 total c.in-Some.driven
    (subst (IsDriven design c.args.target.0 total) c.in-Some.is
    c.in_ok-driven.ensures.driven))

pub returns-in-None-clause-counted : goal.returns-in-None-clause-counted
returns-in-None-clause-counted c =
    let design = design_of c.args.design.now in
    more_counted design c.args.target.0 c.args.self.now.count c.args.self.now.count
    (signal_inside c.args.design.now c.args.target.0 c.requires.known) c.requires.at.counted
    c.in_ok-driven.ensures.excess
    (no_paths design c.args.target.0 c.args.self.now.count
    (subst (IsDriven design c.args.target.0 c.args.self.now.count) c.in-None.is
    c.in_ok-driven.ensures.driven))
