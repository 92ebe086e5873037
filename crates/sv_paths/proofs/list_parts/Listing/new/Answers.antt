use Rattle.sv_flat.specs.Views.{design_of}
use Rattle.sv_paths.proofs.WrittenFacts.{none_counted}
use Rattle.sv_paths.proofs.list_parts.Listing.new.Goals as goal

pub returns-clause-at : goal.returns-clause-at
returns-clause-at c = record {
  bodies = c.requires.bodies;
  counted = none_counted (design_of c.args.design.now);
}
