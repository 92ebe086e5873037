use Rattle.std.proofs.Common.{not}
use Rattle.sv_flat.specs.ByNumber.{by_number}
use Rattle.sv_flat.specs.Clocks.{is_clock}
use Rattle.sv_flat.specs.FlatSystem.{flat_system}
use Rattle.sv_flat.specs.Views.{design_of}
use Rattle.sv_design.specs.Numbers.{numbers, number_if_any}
use Rattle.sv_tworun.specs.Sights.{differs}
use Rattle.sv_tworun.proofs.DifferenceFacts.{listed_inside, found_of}
use Rattle.sv_tworun.proofs.differences.seen_apart.Goals as goal

pub first_apart-requires-clause-listed : goal.first_apart-requires-clause-listed
first_apart-requires-clause-listed c =
    let flat = c.args.design.now in
    listed_inside flat (λ s. not (is_clock (design_of flat) s)) (numbers c.seen.result.now)
    c.seen.ensures.seen

pub returns : goal.returns
returns c =
    let flat = c.args.design.now in
    found_of flat (λ s. not (is_clock (design_of flat) s))
    (differs (flat_system (design_of flat)) c.args.level (by_number c.args.first.now)
    (by_number c.args.second.now))
    (numbers c.seen.result.now) (number_if_any c.first_apart.result) c.seen.ensures.seen
    c.first_apart.ensures
