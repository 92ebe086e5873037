use Rattle.sv_flat.specs.Views.{design_of}
use Rattle.sv_trace.specs.Forms.{form_of}
use Rattle.sv_tworun.specs.Forms.{run_of, FitsRun, finding}
use Rattle.sv_compare.proofs.ReadPairs.{compared_of, told_signal}
use Rattle.sv_compare.proofs.comparing.compare_stimuli.Goals as goal

pub returns-in-Err-clause-fault : goal.returns-in-Err-clause-fault
returns-in-Err-clause-fault c =
    c.wrong_in_first.ensures (form_of (design_of c.args.design.now)) c.args.first.now
    c.args.second.now c.in-Err.ensures.fault

pub returns-clause-found : goal.returns-clause-found
returns-clause-found c =
    let one = c.in-Ok.stim in
    let other = c.in-Ok-read_stim.stim in
    let one_fits : FitsRun (design_of c.args.design.now) (run_of one) =
    record { start = c.in-Ok.ensures.start; cycles = c.in-Ok.ensures.cycles } in
    let other_fits : FitsRun (design_of c.args.design.now) (run_of other) =
    record {
      start = c.in-Ok-read_stim.ensures.start;
      cycles = c.in-Ok-read_stim.ensures.cycles;
    } in
    compared_of (design_of c.args.design.now) c.know_design.ensures.design c.args.level
    c.args.first.now c.args.second.now one other c.in_ok-compare.field-0 c.in-Ok.ensures.stim
    c.in-Ok-read_stim.ensures.stim one_fits other_fits c.in_ok-compare.ensures.comparison

pub returns-clause-signal : goal.returns-clause-signal
returns-clause-signal c =
    told_signal c.args.design.now c.args.level c.args.first.now c.args.second.now
    (finding c.in_ok-compare.field-0) (returns-clause-found c)
