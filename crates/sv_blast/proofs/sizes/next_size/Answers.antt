use Rattle.std.proofs.Common.{sym, ◌∙◌}
use Rattle.sv_flat.specs.Processes.{is_top_input}
use Rattle.sv_flat.specs.Values.{signal_width}
use Rattle.sv_flat.specs.Views.{design_of}
use Rattle.sv_blast.proofs.SizeTables.{size_inside, size_else}
use Rattle.sv_blast.proofs.sizes.next_size.Goals as goal

pub bounds-sizes-signal : goal.bounds-sizes-signal
bounds-sizes-signal c =
    size_inside c.args.design.now c.args.sizes.now c.args.signal.0 c.requires.sizes c.requires.known

pub returns-else-is_top_input : goal.returns-else-is_top_input
returns-else-is_top_input c =
    size_else c.args.design.now (is_top_input (design_of c.args.design.now) c.args.signal.0)
    (signal_width (design_of c.args.design.now).signals c.args.signal.0) c.args.sizes.now
    c.args.signal.0
    (sym c.is_top_input.ensures ∙ c.if-is_top_input.false) c.requires.sizes c.requires.known
