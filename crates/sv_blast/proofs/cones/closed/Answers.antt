use Rattle.std.proofs.Common.{◌≡◌, Vec, Global, subst}
use Rattle.std.specs.Prelude.{IfOk}
use Rattle.sv_flat.specs.declared.signals.SigId.{SigId}
use Rattle.sv_design.specs.Numbers.{numbers}
use Rattle.sv_blast.proofs.ClosedCones.{cone_listed}
use Rattle.sv_blast.proofs.cones.closed.Goals as goal

pub returns : goal.returns
returns c = λ starts below marks.
    subst (λ ks. IfOk c.listed.result (λ (cone : Vec SigId Global). numbers cone.items ≡ ks))
    (cone_listed c.args.design.now starts below c.close.new.table
    (c.close.ensures.marked starts below marks))
    c.listed.ensures
