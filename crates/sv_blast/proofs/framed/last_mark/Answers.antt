use Rattle.std.proofs.Common.{◌-◌, List, length, ap, ◌∙◌}
use Rattle.std.specs.Prelude.{slice_get}
use Rattle.sv_blast.specs.declared.framed.Truth.{Truth}
use Rattle.sv_blast.proofs.KeptTruths.{last_mark_is}
use Rattle.sv_blast.proofs.framed.last_mark.Goals as goal

pub returns-in-Some : goal.returns-in-Some
returns-in-Some c =
    last_mark_is c.args.made.now.truths.items c.args.made.now.mark c.in-Some.truth.now
    (c.in-Some.ensures.value
    ∙ ap (λ (ts : List Truth). slice_get ts (length ts - 1)) c.deref.ensures.value)
