use Rattle.std.proofs.Common.{ap, ◌∙◌}
use Rattle.sv_width.specs.Scopes.{Known, meaning_of}
use Rattle.sv_width.proofs.EntryLemmas.{lookup_is_entry}
use Rattle.sv_width.proofs.scope.Scope.find.Goals as goal

pub returns : goal.returns
returns c =
    c.copied.ensures ∙ c.get.ensures.value
    ∙ lookup_is_entry c.args.name.now c.self.inside.meanings.entries
    ∙ ap (λ (k : Known). meaning_of k c.args.name.now) c.self.view_is
