use Rattle.std.proofs.Common.{rules, ◌∙◌, ◌<◌, min, ap, ap₂, sym, subst}
use Rattle.std.specs.Prelude.{IfSome}
use Rattle.std.specs.Result.{IsErrOf}
use Rattle.sv_flat.specs.Design.{FlatDesign}
use Rattle.sv_flat.specs.Views.{design_of}
use Rattle.sv_gates.specs.Formulas.{most_variables}
use Rattle.sv_gates.specs.declared.gates.GateFault.TheVariants.{Full}
use Rattle.sv_obl.specs.Obligations.{Obligation}
use Rattle.sv_obl.specs.Views.{obligation_of}
use Rattle.sv_encoding.specs.BothWays.{IsWhole}
use Rattle.sv_encoding.specs.Cones.{now_cone, next_cone}
use Rattle.sv_encoding.specs.Encoding.{encoding}
use Rattle.sv_encoding_laws.proofs.SizeExact.{size_is_exact}
use Rattle.sv_encoding_laws.proofs.Wholeness.{encoding_is_whole}
use Rattle.sv_blast.specs.Framed.{frames_size, IsFramed}
use Rattle.sv_blast.proofs.WholeEncodings.{passes}
use Rattle.sv_blast.proofs.encoding.encoded.Goals as goal

pub kept-kept-requires-clause-framed : goal.kept-kept-requires-clause-framed
kept-kept-requires-clause-framed c =
    subst (λ (d : FlatDesign). IfSome c.args.before (IsFramed d))
    (sym c.in_ok-encoder.ensures.design) c.requires.before

pub size_with-variables-requires-clause-frames : goal.size_with-variables-requires-clause-frames
size_with-variables-requires-clause-frames c =
    c.frames_size-size.ensures
    ∙ ap₂ (λ (d : FlatDesign) (o : Obligation).
    min (frames_size d (now_cone d o) (next_cone d o)) 4194305)
    c.in_ok-encoder.ensures.design c.in_ok-encoder.ensures.query

pub returns-then-variables-gt-MOST_VARIABLES-clause-large : goal.returns-then-variables-gt-MOST_VARIABLES-clause-large
returns-then-variables-gt-MOST_VARIABLES-clause-large c =
    let exact = size_is_exact (design_of c.args.design.now) (obligation_of c.args.query.now)
    c.know_design.ensures.checked c.requires.query in
    λ e. subst (λ z. most_variables < z) (sym exact)
    (passes c.size_with-variables.result _ c.size_with-variables.ensures
    c.if-variables-gt-MOST_VARIABLES.true)

pub returns-in-Ok-clause-framed : goal.returns-in-Ok-clause-framed
returns-in-Ok-clause-framed c =
    subst (λ (d : FlatDesign). IsFramed d c.in-Ok.made) c.in_ok-encoder.ensures.design
    c.in-Ok.ensures.framed

pub returns-in-Ok-clause-coded : goal.returns-in-Ok-clause-coded
returns-in-Ok-clause-coded c =
    c.in-Ok.ensures.coded
    ∙ ap₂ encoding c.in_ok-encoder.ensures.design c.in_ok-encoder.ensures.query

pub returns-in-Ok-clause-whole : goal.returns-in-Ok-clause-whole
returns-in-Ok-clause-whole c =
    let design = design_of c.args.design.now in
    let o = obligation_of c.args.query.now in
    subst (IsWhole design o)
    (sym (c.in-Ok.ensures.coded
    ∙ ap₂ encoding c.in_ok-encoder.ensures.design c.in_ok-encoder.ensures.query))
    (encoding_is_whole design o c.know_design.ensures.checked c.requires.query)

pub returns-in-Err-Full-clause-large : goal.returns-in-Err-Full-clause-large
returns-in-Err-Full-clause-large c =
    let is : IsErrOf c.whole.result Full = search rules in
    let large = c.whole.ensures.full is in
    λ e. subst (λ n. most_variables < n)
    (ap (λ z. z.variables)
    (ap₂ encoding c.in_ok-encoder.ensures.design c.in_ok-encoder.ensures.query)) large
