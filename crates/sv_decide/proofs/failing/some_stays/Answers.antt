use Rattle.std.proofs.Common.{rules, tests, not}
use Rattle.std.proofs.lemmas.Iterator.{YieldsList-from_slice}
use Rattle.std.proofs.lemmas.Iterator.Search.{any_from_yields_List}
use Rattle.sv_flat.specs.declared.signals.SigId.{SigId}
use Rattle.sv_flat.specs.ByNumber.{by_number}
use Rattle.sv_flat.specs.FlatSystem.{flat_system}
use Rattle.sv_flat.specs.Views.{design_of}
use Rattle.sv_decide.proofs.failing.some_stays.Goals as goal

pub returns : goal.returns
returns c =
    let system = flat_system (design_of c.args.design.now) in
    any_from_yields_List (λ (s : SigId).
    not (system.flows (system.label s.0 (by_number c.args.values.now)) c.args.point)) _ _
    c.any.result c.any.ensures.ran (YieldsList-from_slice c.args.reads.now cc)
    (λ x b q k. search (rules, tests))
