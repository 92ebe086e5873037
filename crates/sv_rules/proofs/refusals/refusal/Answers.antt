use Rattle.std.proofs.Common.{◌<◌, subst}
use Rattle.std.proofs.Math.ListN.{length-map}
use Rattle.sv_num.specs.Rules.{rule_number}
use Rattle.sv_flat.specs.Views.{design_of, signal_form}
use Rattle.sv_rules.specs.Refusals.{breach_with}
use Rattle.sv_rules.proofs.FirstBreaches.{breach_has_signals}
use Rattle.sv_rules.proofs.refusals.refusal.Goals as goal

pub names_of-requires : goal.names_of-requires
names_of-requires c = λ k at.
    subst (λ n. k < n) (length-map c.args.flat.now.signals.items signal_form)
    (breach_has_signals (design_of c.args.flat.now) c.requires.sound
    (breach_with (rule_number c.args.rule) c.args.place c.args.signals.now)
    c.requires.first.broken k at)
