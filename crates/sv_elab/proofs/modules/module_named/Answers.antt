use Rattle.std.proofs.Common.{position, sym, ap, ◌∙◌}
use Rattle.std.specs.List.{list_any}
use Rattle.std.specs.Str.{bytes_eq}
use Rattle.sv_elab.proofs.ModuleLemmas.{named_there, named_nowhere}
use Rattle.sv_elab.proofs.modules.module_named.Goals as goal

pub returns-in_err-index : goal.returns-in_err-index
returns-in_err-index c =
    rw c.from_residual.ensures (sym (named_nowhere c.args.name.now c.args.modules.now
    (ap (λ ns. list_any (bytes_eq c.args.name.now) ns) (sym c.requires)
    ∙ sym c.in_err-index.ensures.found)))

pub returns : goal.returns
returns c =
    sym (named_there c.args.name.now c.args.modules.now c.in_ok-index.index
    c.index-modules-index.result
    (ap (λ ns. position (bytes_eq c.args.name.now) ns) (sym c.requires)
    ∙ sym c.in_ok-index.ensures.index) c.index-modules-index.is)
