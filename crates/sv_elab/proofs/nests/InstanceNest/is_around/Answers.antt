use Rattle.std.proofs.Common.{ap, ◌∙◌}
use Rattle.std.specs.List.{list_any}
use Rattle.std.specs.Str.{bytes_eq}
use Rattle.sv_elab.specs.Nests.{InstanceNesting}
use Rattle.sv_elab.proofs.NestLemmas.{any_reversed}
use Rattle.sv_elab.proofs.nests.InstanceNest.is_around.Goals as goal

pub returns : goal.returns
returns c =
    c.contains.ensures ∙ any_reversed (bytes_eq c.args.master.now) c.self.inside.around.keys
    ∙ ap (λ (n : InstanceNesting). list_any (bytes_eq c.args.master.now) n.around) c.self.view_is
