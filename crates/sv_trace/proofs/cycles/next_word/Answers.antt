use Rattle.std.proofs.Common.{ap, ◌∙◌, refl}
use Rattle.std.specs.List.{slice_split}
use Rattle.std.proofs.lemmas.List.Splits.{slice_split_none}
use Rattle.sv_trace.specs.Stimulus.{is_blank}
use Rattle.sv_trace.proofs.Splitting.{split_some}
use Rattle.sv_trace.proofs.cycles.next_word.Goals as goal

pub returns-in-Some : goal.returns-in-Some
returns-in-Some c =
    ap (slice_split is_blank) c.in-Some.ensures.parts
    ∙ split_some 32 c.in-Some.parts.0.now c.in-Some.parts.1.now c.in-Some.ensures.first

pub returns-in-None : goal.returns-in-None
returns-in-None c =
    slice_split_none is_blank c.args.text.now (c.in-None.ensures.none refl)
