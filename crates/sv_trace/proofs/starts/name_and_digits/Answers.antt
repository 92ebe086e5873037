use Rattle.std.proofs.Common.{sym, ap, ◌∙◌, refl}
use Rattle.std.specs.List.{before_first, after_first}
use Rattle.sv_trace.specs.Stimulus.{is_blank}
use Rattle.sv_trace.proofs.Splitting.{before_is, after_is, before_none, after_none}
use Rattle.sv_trace.proofs.starts.name_and_digits.Goals as goal

pub returns-in-Some-clause-name : goal.returns-in-Some-clause-name
returns-in-Some-clause-name c =
    sym (ap (before_first is_blank) c.in-Some.ensures.parts
    ∙ before_is 32 c.in-Some.parts.0.now c.in-Some.parts.1.now c.in-Some.ensures.first)

pub returns-in-Some-clause-digits : goal.returns-in-Some-clause-digits
returns-in-Some-clause-digits c =
    sym (ap (after_first is_blank) c.in-Some.ensures.parts
    ∙ after_is 32 c.in-Some.parts.0.now c.in-Some.parts.1.now c.in-Some.ensures.first)

pub returns-in-None-clause-name : goal.returns-in-None-clause-name
returns-in-None-clause-name c =
    sym (before_none 32 c.args.rest.now (c.in-None.ensures.none refl))

pub returns-in-None-clause-digits : goal.returns-in-None-clause-digits
returns-in-None-clause-digits c =
    sym (after_none 32 c.args.rest.now (c.in-None.ensures.none refl))
