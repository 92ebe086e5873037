use Rattle.std.proofs.Common.{◌≡◌, Bool, false, ap}
use Rattle.sv_num.specs.Vectors.{number_of}
use Rattle.sv_elab_rules.specs.Walks.{ask}
use Rattle.sv_elab_rules.specs.Rules.{bad_select}
use Rattle.sv_elab_rules.specs.ExpressionSteps.{is_part}
use Rattle.sv_width.proofs.SameValue.{either}
use Rattle.sv_width.proofs.building.part.Goals as goal

pub returns-in-None-clause-broken : goal.returns-in-None-clause-broken
returns-in-None-clause-broken c =
    let inside = is_part c.args.known.width (number_of c.args.high) (number_of c.args.low) in
    let none : inside ≡ false =
    either inside (λ h. absurd (cc (c.in-None.ensures.inside.1 h))) (λ h. h) in
    c.refusal.ensures (ask inside (bad_select c.args.place)).end
    (ap (λ (b : Bool). (ask b (bad_select c.args.place)).end) none)
