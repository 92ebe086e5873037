use Rattle.std.proofs.Common.{◌≡◌, map, subst, ◌∙◌}
use Rattle.std.specs.Prelude.{IfOk}
use Rattle.std.specs.Global.{Vec}
use Rattle.sv_flat.specs.declared.signals.SigId.{SigId}
use Rattle.sv_paths.specs.RouteObligations.{names_on}
use Rattle.sv_paths.specs.RouteViews.{route_form}
use Rattle.sv_obl.specs.Views.{number_of}
use Rattle.sv_paths.proofs.NumberSets.{numbers_put}
use Rattle.sv_paths.proofs.reads.reads_of.Goals as goal

pub returns : goal.returns
returns c = λ n below.
    let names = names_on c.args.is_register c.args.target.0 (route_form c.args.route.now) in
    subst (λ ks. IfOk c.signals_of.result (λ (reads : Vec SigId). map number_of reads.items ≡ ks))
    (c.in_ok-names.ensures ∙ numbers_put n names below)
    c.signals_of.ensures
