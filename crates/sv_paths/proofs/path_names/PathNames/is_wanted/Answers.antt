use Rattle.std.proofs.Common.{◌∙◌}
use Rattle.sv_paths.proofs.NameFacts.{found}
use Rattle.sv_paths.proofs.path_names.PathNames.is_wanted.Goals as goal

pub returns : goal.returns
returns c = c.contains_key.ensures ∙ found c.args.self.now.wanted.entries c.args.signal
