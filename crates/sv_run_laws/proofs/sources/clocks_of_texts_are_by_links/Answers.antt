use Rattle.std.specs.Prelude.{flat_map}
use Rattle.sv_ast.specs.Parts.{parts, links_of}
use Rattle.sv_ast.proofs.Reaching.{clocks_by_links}
use Rattle.sv_run_laws.proofs.sources.clocks_of_texts_are_by_links.Goals as goal

pub returns : goal.returns
returns c text asked x =
    clocks_by_links (parts text asked) (flat_map (links_of text.modules) (parts text asked)) x
