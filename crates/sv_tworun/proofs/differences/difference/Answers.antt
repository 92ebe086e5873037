use Rattle.std.proofs.Common.{◌≡◌, Option, sym, subst}
use Rattle.std.specs.Prelude.{MatchOption}
use Rattle.sv_system.specs.System.{view}
use Rattle.sv_flat.specs.ByNumber.{by_number}
use Rattle.sv_flat.specs.FlatSystem.{flat_system}
use Rattle.sv_flat.specs.Views.{design_of}
use Rattle.sv_tworun.specs.declared.compared.Compared.{Compared}
use Rattle.sv_tworun.specs.Sights.{IsDifference}
use Rattle.sv_tworun.proofs.DifferenceFacts.{shown_is}
use Rattle.sv_tworun.proofs.differences.difference.Goals as goal

pub returns-clause-found : goal.returns-clause-found
returns-clause-found c =
    let system = flat_system (design_of c.args.design.now) in
    let e = by_number c.args.first.now in
    let f = by_number c.args.second.now in
    subst (λ (found : Option Compared). MatchOption found
    (view system c.args.level e ≡ view system c.args.level f)
    (IsDifference system c.args.level c.args.cycle e f)) (sym c.shown.ensures)
    (shown_is c.args.design.now c.given_apart-given.ensures.design c.args.level e f c.args.cycle
    c.given_apart-given.result c.seen_apart.result c.given_apart-given.ensures.found
    c.seen_apart.ensures)
