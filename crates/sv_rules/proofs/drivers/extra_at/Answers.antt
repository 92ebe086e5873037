use Rattle.std.proofs.Common.{[], sym, subst}
use Rattle.std.specs.Prelude.{option_map}
use Rattle.std.specs.List.{cons_option}
use Rattle.sv_flat.specs.Breaches.{breach}
use Rattle.sv_rules.specs.declared.drivers.Driver.{Driver}
use Rattle.sv_rules.specs.First.{FindsFirst}
use Rattle.sv_rules.proofs.drivers.extra_at.Goals as goal

pub returns-in-Some : goal.returns-in-Some
returns-in-Some c =
    subst (λ e. FindsFirst 603
    (cons_option (option_map (λ (d : Driver). breach 603 d.place c.args.signal.0) e) [])
    c.found_if.result)
    (sym c.in-Some.is) (c.found_if.ensures 603)
