use Rattle.std.proofs.Common.{map}
use Rattle.sv_flat.specs.Views.{signal_form, process_form}
use Rattle.sv_elab.proofs.instances.top_instance.Goals as goal

pub add_top-requires-clause-first : goal.add_top-requires-clause-first
add_top-requires-clause-first c = λ j. record {
  signals = map signal_form (c.new.ensures.items j);
  processes = map process_form (c.new-2.ensures.items j);
  instances = 1;
}
