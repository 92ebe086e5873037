use Rattle.std.proofs.Common.{◌||◌, sym, ◌∙◌}
use Rattle.sv_flat.specs.Processes.{is_top_input, is_register}
use Rattle.sv_flat.specs.Values.{signal_width}
use Rattle.sv_flat.specs.Views.{design_of}
use Rattle.sv_blast.proofs.SizeTables.{size_inside, size_else}
use Rattle.sv_blast.proofs.sizes.now_size.Goals as goal

pub bounds-sizes-signal : goal.bounds-sizes-signal
bounds-sizes-signal c =
    size_inside c.args.design.now c.args.sizes.now c.args.signal.0 c.requires.sizes c.requires.known

pub returns-else-is_given : goal.returns-else-is_given
returns-else-is_given c =
    let design = design_of c.args.design.now in
    let s = c.args.signal.0 in
    size_else c.args.design.now (is_top_input design s || is_register design s)
    (signal_width design.signals s) c.args.sizes.now s
    (sym c.is_given.ensures ∙ c.if-is_given.false) c.requires.sizes c.requires.known
